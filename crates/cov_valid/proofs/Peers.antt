-- Faults among the users of a segment.
use Rattle.std.proofs.Common.{◌≡◌, refl, sym, ap, ◌∙◌, subst, ℕ, ◌+◌, ◌-◌, ◌<◌, ◌≤◌, ◌↔◌, ◌⊎◌, Bool, true, false, IsTrue, List, [], ◌∷◌, ◌++◌, length, get_or, Contains, arith, inl, inr, Option, Some, None}
use Rattle.std.specs.Prelude.{AllPairs, slice_get, MatchOption}
use Rattle.std.proofs.lemmas.Bool.{cases_lt, cases_eq, cases_Bool, false≢true}
use Rattle.std.proofs.lemmas.List.{get_or_append_left, get_or_push, length_push}
use Rattle.std.proofs.lemmas.Option.{same_Some, slice_get-get_or, slice_get_within, get_or_from_slice_get}
use Rattle.cov_valid.proofs.Presence.{listed_at}
use Rattle.cov_valid.specs.Among.{IsTwice, HasPeer, HasGuest, IsKindAmong, ArePresent, AreTwo, AreFaults, AddsKinds}
use Rattle.cov_valid.specs.declared.among.Faults.{Faults}
use Rattle.cov_valid.specs.declared.mark.Kind.{Kind}

-- ---- a number that stands twice

pub twice_before : (users : List ℕ) (k member m : ℕ) → 0 < k → k < length users → get_or users k m ≡ member → slice_get users (k - 1) ≡ Some member → IsTwice users member
twice_before users k member m some within here before = record {
  first = k - 1;
  second = k;
  apart = omega arith;
  at_first = before;
  at_second = slice_get-get_or users k m within ∙ ap (λ (n : ℕ). Some n) here;
}

pub twice_after : (users : List ℕ) (k member m : ℕ) → k < length users → get_or users k m ≡ member → slice_get users (k + 1) ≡ Some member → IsTwice users member
twice_after users k member m within here after = record {
  first = k;
  second = k + 1;
  apart = omega arith;
  at_first = slice_get-get_or users k m within ∙ ap (λ (n : ℕ). Some n) here;
  at_second = after;
}

-- numbers between two equal ones are equal
between_same : (users : List ℕ) (i j k member : ℕ) → AllPairs (λ i j. i ≤ j) users → slice_get users i ≡ Some member → slice_get users k ≡ Some member → i ≤ j → j ≤ k → slice_get users j ≡ Some member
between_same users i j k member up at_i at_k low high =
    let within : k < length users = slice_get_within users k member at_k in
    let first : get_or users i member ≡ member = get_or_from_slice_get users i member member at_i in
    let last : get_or users k member ≡ member = get_or_from_slice_get users k member member at_k in
    let inside : j < length users = omega arith in
    let least : get_or users i member ≤ get_or users j member = elim (cases_lt i j) [
      | inl less ↦ up i j member less inside
      | inr past ↦ let same : i ≡ j = omega arith in omega (arith, ap (λ n. get_or users n member) same)
    ] in
    let most : get_or users j member ≤ get_or users k member = elim (cases_lt j k) [
      | inl less ↦ up j k member less within
      | inr past ↦ let same : j ≡ k = omega arith in omega (arith, ap (λ n. get_or users n member) same)
    ] in
    let same : get_or users j member ≡ member = omega (arith, first, last, least, most) in
    slice_get-get_or users j member inside ∙ ap (λ (n : ℕ). Some n) same

-- a number that stands twice stands beside each of its places
pub beside_twice : (users : List ℕ) (k member m : ℕ) → AllPairs (λ i j. i ≤ j) users → k < length users → get_or users k m ≡ member → IsTwice users member → ¬ ((0 < k) × (slice_get users (k - 1) ≡ Some member)) → slice_get users (k + 1) ≡ Some member
beside_twice users k member m up within here twice not_before =
    let at_k : slice_get users k ≡ Some member = slice_get-get_or users k m within ∙ ap (λ (n : ℕ). Some n) here in
    let apart : twice.first < twice.second = twice.apart in
    elim (cases_lt k twice.second) [
      | inl before ↦ between_same users k (k + 1) twice.second member up at_k twice.at_second (omega arith) (omega arith)
      | inr after ↦ absurd (not_before (omega arith, between_same users twice.first (k - 1) k member up twice.at_first at_k (omega arith) (omega arith)))
    ]

-- ---- two users on one side

-- the first of the users before a place that is on the side, if there is one: all of them there have its number
pub record IsFirst (users : List ℕ) (held : List Bool) (side : Bool) (i : ℕ) (one : ℕ) : Type 0 where
  pub place : ℕ
  pub at : slice_get users place ≡ Some one
  pub on_side : slice_get held place ≡ Some side
  pub all : (k m : ℕ) → k < i → slice_get held k ≡ Some side → slice_get users k ≡ Some m → m ≡ one

abbrev pub IsNoneYet : List Bool → Bool → ℕ → Type 0
IsNoneYet held side i = (k : ℕ) → k < i → ¬ (slice_get held k ≡ Some side)

abbrev pub AreOneAtMost : List ℕ → List Bool → Bool → ℕ → Option ℕ → Type 0
AreOneAtMost users held side i first = MatchOption first (IsNoneYet held side i) (IsFirst users held side i)

pub not_two : (users : List ℕ) (held : List Bool) (side : Bool) (i : ℕ) (first : Option ℕ) → length held ≡ length users → length users ≤ i → AreOneAtMost users held side i first → ¬ AreTwo users held side
not_two users held side i None long past none two = none two.first (omega (arith, past, slice_get_within users two.first two.one two.at_first)) two.first_side
not_two users held side i (Some one) long past is two =
    let first : two.one ≡ one = is.all two.first two.one (omega (arith, past, slice_get_within users two.first two.one two.at_first)) two.first_side two.at_first in
    let second : two.other ≡ one = is.all two.second two.other (omega (arith, past, slice_get_within users two.second two.other two.at_second)) two.second_side two.at_second in
    two.apart (first ∙ sym second)

pub two_from : (users : List ℕ) (held : List Bool) (side : Bool) (i one member : ℕ) → IsFirst users held side i one → slice_get users i ≡ Some member → slice_get held i ≡ Some side → ¬ (one ≡ member) → AreTwo users held side
two_from users held side i one member is at on_side apart = record {
  first = is.place;
  second = i;
  one = one;
  other = member;
  at_first = is.at;
  at_second = at;
  first_side = is.on_side;
  second_side = on_side;
  apart = apart;
}

-- the next user is on the other side
pub one_other : (users : List ℕ) (held : List Bool) (side : Bool) (i : ℕ) (first : Option ℕ) → ¬ (slice_get held i ≡ Some side) → AreOneAtMost users held side i first → AreOneAtMost users held side (i + 1) first
one_other users held side i None not_on none = λ k h on_side.
    elim (cases_lt k i) [
      | inl earlier ↦ none k earlier on_side
      | inr later ↦ let here : k ≡ i = omega arith in not_on (ap (slice_get held) (sym here) ∙ on_side)
    ]
one_other users held side i (Some one) not_on is = record {
  place = is.place;
  at = is.at;
  on_side = is.on_side;
  all = λ k m h on_side at. elim (cases_lt k i) [
    | inl earlier ↦ is.all k m earlier on_side at
    | inr later ↦ let here : k ≡ i = omega arith in absurd (not_on (ap (slice_get held) (sym here) ∙ on_side))
  ];
}

-- it is the first on the side
pub one_first : (users : List ℕ) (held : List Bool) (side : Bool) (i member : ℕ) → slice_get users i ≡ Some member → slice_get held i ≡ Some side → IsNoneYet held side i → IsFirst users held side (i + 1) member
one_first users held side i member at on_side none = record {
  place = i;
  at = at;
  on_side = on_side;
  all = λ k m h on there. elim (cases_lt k i) [
    | inl earlier ↦ absurd (none k earlier on)
    | inr later ↦ let here : k ≡ i = omega arith in same_Some m member (sym there ∙ (ap (slice_get users) here ∙ at))
  ];
}

-- it has the number of the first
pub one_again : (users : List ℕ) (held : List Bool) (side : Bool) (i one member : ℕ) → slice_get users i ≡ Some member → one ≡ member → IsFirst users held side i one → IsFirst users held side (i + 1) one
one_again users held side i one member at same is = record {
  place = is.place;
  at = is.at;
  on_side = is.on_side;
  all = λ k m h on there. elim (cases_lt k i) [
    | inl earlier ↦ is.all k m earlier on there
    | inr later ↦ let here : k ≡ i = omega arith in same_Some m member (sym there ∙ (ap (slice_get users) here ∙ at)) ∙ sym same
  ];
}

-- ---- peers

same_tests : (a b : Bool) → IsTrue a ↔ IsTrue b → a ≡ b
same_tests true true h = refl
same_tests true false h = absurd (false≢true (h.0 refl))
same_tests false true h = absurd (false≢true (h.1 refl))
same_tests false false h = refl

-- what is told of the number at a place
pub told_at : (numbers list : List ℕ) (present : List Bool) (k n : ℕ) (b : Bool) → ArePresent numbers list present → slice_get numbers k ≡ Some n → slice_get present k ≡ Some b → IsTrue b ↔ Contains list n
told_at numbers list present k n b are at is =
    let number : get_or numbers k n ≡ n = get_or_from_slice_get numbers k n n at in
    let told : get_or present k b ≡ b = get_or_from_slice_get present k b b is in
    subst (λ (t : Bool). IsTrue t ↔ Contains list n) told (subst (λ (m : ℕ). IsTrue (get_or present k b) ↔ Contains list m) number (are.each k n b (slice_get_within numbers k n at)))

-- the user at a place has a peer exactly where there are two users on its side
two_is : (users holders : List ℕ) (held : List Bool) (k member : ℕ) (side : Bool) → ArePresent users holders held → slice_get users k ≡ Some member → slice_get held k ≡ Some side
    → AreTwo users held side ↔ HasPeer users holders member
two_is users holders held k member side are at on_side =
    let own : IsTrue side ↔ Contains holders member = told_at users holders held k member side are at on_side in (
      λ two.
          let first : IsTrue side ↔ Contains holders two.one = told_at users holders held two.first two.one side are two.at_first two.first_side in
          let second : IsTrue side ↔ Contains holders two.other = told_at users holders held two.second two.other side are two.at_second two.second_side in
          elim (cases_eq two.one member) [
            | inl same ↦ record {
              other = two.other;
              listed = listed_at users two.second two.other two.at_second;
              another = λ e. two.apart (same ∙ sym e);
              alike = (λ h. own.0 (second.1 h), λ h. second.0 (own.1 h));
            }
            | inr apart ↦ record {
              other = two.one;
              listed = listed_at users two.first two.one two.at_first;
              another = apart;
              alike = (λ h. own.0 (first.1 h), λ h. first.0 (own.1 h));
            }
          ],
      λ peer.
          let j : ℕ = peer.listed.0 in
          let within : j < length users = peer.listed.1 in
          let there : slice_get users j ≡ Some peer.other = slice_get-get_or users j peer.other within ∙ ap (λ (n : ℕ). Some n) peer.listed.2 in
          let count : length held ≡ length users = are.count in
          let told : slice_get held j ≡ Some (get_or held j side) = slice_get-get_or held j side (omega arith) in
          let other : IsTrue (get_or held j side) ↔ Contains holders peer.other = told_at users holders held j peer.other (get_or held j side) are there told in
          let same : get_or held j side ≡ side = same_tests (get_or held j side) side (λ h. own.1 (peer.alike.0 (other.0 h)), λ h. other.1 (peer.alike.1 (own.0 h))) in
          record {
            first = j;
            second = k;
            one = peer.other;
            other = member;
            at_first = there;
            at_second = at;
            first_side = told ∙ ap (λ (b : Bool). Some b) same;
            second_side = on_side;
            apart = peer.another;
          },
    )

pub inner_is : (users holders : List ℕ) (held : List Bool) (faults : Faults) (k member : ℕ) → ArePresent users holders held → AreFaults users holders held faults → slice_get users k ≡ Some member → slice_get held k ≡ Some true
    → IsTrue faults.inner ↔ HasPeer users holders member
inner_is users holders held faults k member are faults_are at on_side =
    let two = two_is users holders held k member true are at on_side in
    (λ h. two.0 (faults_are.inner.0 h), λ h. faults_are.inner.1 (two.1 h))

pub outer_is : (users holders : List ℕ) (held : List Bool) (faults : Faults) (k member : ℕ) → ArePresent users holders held → AreFaults users holders held faults → slice_get users k ≡ Some member → slice_get held k ≡ Some false
    → IsTrue faults.outer ↔ HasPeer users holders member
outer_is users holders held faults k member are faults_are at on_side =
    let two = two_is users holders held k member false are at on_side in
    (λ h. two.0 (faults_are.outer.0 h), λ h. faults_are.outer.1 (two.1 h))

-- the fault on the side of the user at a place
abbrev pub IsShared : List Bool → Faults → ℕ → Bool → Type 0
IsShared held faults k shared = ((get_or held k false ≡ true) × (shared ≡ faults.inner)) ⊎ ((get_or held k false ≡ false) × (shared ≡ faults.outer))

pub shared_is : (users holders : List ℕ) (held : List Bool) (faults : Faults) (k m : ℕ) (shared : Bool) → ArePresent users holders held → AreFaults users holders held faults → k < length users → IsShared held faults k shared
    → IsTrue shared ↔ HasPeer users holders (get_or users k m)
shared_is users holders held faults k m shared are faults_are within side =
    let count : length held ≡ length users = are.count in
    let at : slice_get users k ≡ Some (get_or users k m) = slice_get-get_or users k m within in
    let told : slice_get held k ≡ Some (get_or held k false) = slice_get-get_or held k false (omega arith) in
    elim side [
      | inl h ↦
          let peer = inner_is users holders held faults k (get_or users k m) are faults_are at (told ∙ ap (λ (b : Bool). Some b) h.0) in
          (λ t. peer.0 (sym h.1 ∙ t), λ q. h.1 ∙ peer.1 q)
      | inr h ↦
          let peer = outer_is users holders held faults k (get_or users k m) are faults_are at (told ∙ ap (λ (b : Bool). Some b) h.0) in
          (λ t. peer.0 (sym h.1 ∙ t), λ q. h.1 ∙ peer.1 q)
    ]

-- ---- guests

-- one of the holders is told to be no user
pub guest_is : (users holders : List ℕ) (used : List Bool) (b : Bool) → ArePresent holders users used → IsTrue b ↔ ((k : ℕ) × (slice_get used k ≡ Some false)) → IsTrue b ↔ HasGuest users holders
guest_is users holders used b are told = (
  λ h.
      let (k, is) = told.0 h in
      let count : length used ≡ length holders = are.count in
      let short : k < length used = slice_get_within used k false is in
      let within : k < length holders = omega arith in
      let there : slice_get holders k ≡ Some (get_or holders k 0) = slice_get-get_or holders k 0 within in
      let user : IsTrue false ↔ Contains users (get_or holders k 0) = told_at holders users used k (get_or holders k 0) false are there is in
      (get_or holders k 0, (listed_at holders k (get_or holders k 0) there, λ listed. false≢true (user.1 listed))),
  λ (member, ((k, within, at), not_user)).
      told.1
      (let there : slice_get holders k ≡ Some member = slice_get-get_or holders k member within ∙ ap (λ (n : ℕ). Some n) at in
      let count : length used ≡ length holders = are.count in
      let told_is : slice_get used k ≡ Some (get_or used k false) = slice_get-get_or used k false (omega arith) in
      let user : IsTrue (get_or used k false) ↔ Contains users member = told_at holders users used k member (get_or used k false) are there told_is in
      elim (cases_Bool (get_or used k false)) [
        | inl is_user ↦ absurd (not_user (user.0 is_user))
        | inr is_guest ↦ (k, told_is ∙ ap (λ (c : Bool). Some c) is_guest)
      ]),
)

-- ---- the kinds of the first so many users, behind a list

pub record AddsFirst (users holders : List ℕ) (before : List (Option Kind)) (n : ℕ) (after : List (Option Kind)) : Type 0 where
  pub count : length after ≡ length before + n
  pub kept : (k : ℕ) (d : Option Kind) → k < length before → get_or after k d ≡ get_or before k d
  pub each : (k : ℕ) (d : Option Kind) (m : ℕ) → k < n → IsKindAmong users holders (get_or users k m) (get_or after (length before + k) d)

pub adds_none : (users holders : List ℕ) (before : List (Option Kind)) → AddsFirst users holders before 0 before
adds_none users holders before = record { count = omega arith; kept = λ k d h. refl; each = λ k d m h. absurd (omega (arith, h)) }

pub adds_more : (users holders : List ℕ) (before after more : List (Option Kind)) (n : ℕ) (kind : Option Kind) → more ≡ after ++ kind ∷ [] → ((m : ℕ) → IsKindAmong users holders (get_or users n m) kind) → AddsFirst users holders before n after
    → AddsFirst users holders before (n + 1) more
adds_more users holders before after more n kind pushed is so_far =
    let count : length after ≡ length before + n = so_far.count in
    subst (AddsFirst users holders before (n + 1)) (sym pushed)
    (record {
      count = omega (arith, length_push after kind);
      kept = λ k d h. get_or_append_left after (kind ∷ []) d k (omega arith) ∙ so_far.kept k d h;
      each = λ k d m h. elim (cases_lt k n) [
        | inl earlier ↦
            subst (λ (o : Option Kind). IsKindAmong users holders (get_or users k m) o) (sym (get_or_append_left after (kind ∷ []) d (length before + k) (omega arith))) (so_far.each k d m earlier)
        | inr later ↦
            let here : k ≡ n = omega arith in
            let last : length after ≡ length before + k = omega arith in
            subst (λ (o : Option Kind). IsKindAmong users holders (get_or users k m) o) (sym (get_or_push after kind d (length before + k) last))
            (subst (λ (j : ℕ). IsKindAmong users holders (get_or users j m) kind) (sym here) (is m))
      ];
    })

pub adds_all : (users holders : List ℕ) (before after : List (Option Kind)) (n : ℕ) → n ≡ length users → AddsFirst users holders before n after → AddsKinds users holders before after
adds_all users holders before after n e adds = record {
  count = adds.count ∙ ap (λ (m : ℕ). length before + m) e;
  kept = adds.kept;
  each = λ k d m h. adds.each k d m (omega (arith, h, e));
}
