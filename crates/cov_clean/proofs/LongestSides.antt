-- The lengths of sides by member, added up, and the longest of them.
use mathlib.Core.List.{[], ◌∷◌}
use Rattle.std.proofs.Common.{◌≡◌, ◌⊎◌, refl, sym, ◌∙◌, ap, subst, ℕ, suc, ◌+◌, ◌*◌, ◌<◌, ◌≤◌, ◌==◌, ◌^◌, Bool, true, false, cond, List, length, get_or, set, take, Some, None, inl, inr, arith}
use Rattle.std.specs.Prelude.{All, slice_get, slice_index}
use Rattle.std.proofs.lemmas.Bool.{cases_eq, cases_lt, eq-eqb, ne_eqb}
use Rattle.std.proofs.lemmas.List.{length-set, get_or-set_same, get_or-set_other, get_or_default, take_all}
use Rattle.std.proofs.lemmas.List.Sums.{sum_by-cons, sum_by_more, get_or-le-sum_by}
use Rattle.std.proofs.lemmas.Option.{slice_get-get_or, slice_get_within, get_or_from_slice_get, same_Some}
use Rattle.owner_label.specs.OwnedSides.{length_by, owned_length}
use Rattle.owner_label.specs.declared.owned_side.OwnedSide.{OwnedSide}
use Rattle.cov_clean.specs.Longest.{IsLongest, IsNoShorter, AreClear, AreLengths}

-- ---- lists of lengths

pub own_length : (s : OwnedSide) (i : ℕ) → s.member ≡ i → length_by i s ≡ s.length
own_length s i same = ap (λ (b : Bool). cond b s.length 0) (eq-eqb s.member i same)

pub other_length : (s : OwnedSide) (i : ℕ) → (s.member ≡ i → ⊥) → length_by i s ≡ 0
other_length s i other = ap (λ (b : Bool). cond b s.length 0) (ne_eqb s.member i other)

-- the lengths of the first sides are in the list, and small
pub record AreAdded (sides : List OwnedSide) (k : ℕ) (list : List ℕ) : Type 0 where
  pub lengths : AreLengths (owned_length (take k sides)) list
  pub small : (i : ℕ) → owned_length (take k sides) i ≤ k * 2 ^ 64

pub added_none : (sides : List OwnedSide) (list : List ℕ) → AreClear list → AreAdded sides 0 list
added_none sides list clear = record { lengths = clear; small = λ i. omega arith }

-- one side more
module _ (sides : List OwnedSide) (k : ℕ) (s : OwnedSide) (inside : k < length sides) (at : s ≡ get_or sides k s) (list : List ℕ) (there : s.member < length list) (so_far : AreAdded sides k list) where
  more : (i : ℕ) → owned_length (take (k + 1) sides) i ≡ owned_length (take k sides) i + length_by i s
  more i = sum_by_more (length_by i) sides k s inside ∙ ap (λ (t : OwnedSide). owned_length (take k sides) i + length_by i t) (sym at)

  small_side : s.length < 2 ^ 64 → (i : ℕ) → length_by i s < 2 ^ 64
  small_side short i = by (s.member == i)
    where
      by : (b : Bool) → cond b s.length 0 < 2 ^ 64
      by true = short
      by false = omega arith

  -- the sum so far fits
  pub add_fits : k < 2 ^ 64 → s.length < 2 ^ 64 → (d : ℕ) → get_or list s.member d + s.length < 2 ^ 128
  add_fits low short d =
      let h = so_far.small s.member in
      let is = get_or_default list s.member d 0 there ∙ so_far.lengths s.member there in
      omega (arith, h, is, low, short)

  pub add_more : s.length < 2 ^ 64 → (now : List ℕ) (n : ℕ) → now ≡ set list s.member n → n ≡ get_or list s.member 0 + s.length → AreAdded sides (k + 1) now
  add_more short now n put is = record {
    lengths = λ i within. ap (λ (xs : List ℕ). get_or xs i 0) put ∙ by i (let long = ap length put ∙ length-set list s.member n in omega (arith, within, long)) (cases_eq i s.member);
    small = λ i. (let h = so_far.small i in let m = more i in let low = small_side short i in omega (arith, h, m, low));
  }
    where
      by : (i : ℕ) → i < length list → (i ≡ s.member) ⊎ (i ≡ s.member → ⊥) → get_or (set list s.member n) i 0 ≡ owned_length (take (k + 1) sides) i
      by i within (inl same) =
          ap (λ j. get_or (set list s.member n) j 0) same ∙ get_or-set_same list s.member n 0 there ∙ is
          ∙ (λ j. so_far.lengths s.member there j + sym (own_length s s.member refl) j) ∙ sym (more s.member) ∙ ap (owned_length (take (k + 1) sides)) (sym same)
      by i within (inr other) =
          let none = other_length s i (λ e. other (sym e)) in
          let m = more i in
          let old = so_far.lengths i within in
          get_or-set_other list s.member i n 0 other ∙ old ∙ omega (arith, none, m)

pub added_all : (sides : List OwnedSide) (k : ℕ) (list : List ℕ) → length sides ≤ k → AreAdded sides k list → AreLengths (owned_length sides) list
added_all sides k list past added = subst (λ xs. AreLengths (owned_length xs) list) (take_all k sides past) added.lengths

-- ---- members that were seen

-- one of the first sides is the member's
pub record IsSeen (sides : List OwnedSide) (k i : ℕ) : Type 0 where
  pub place : ℕ
  pub side : OwnedSide
  pub before : place < k
  pub listed : slice_get sides place ≡ Some side
  pub its : side.member ≡ i

seen_length : (sides : List OwnedSide) → All (λ (s : OwnedSide). 0 < s.length) sides → (k i : ℕ) → IsSeen sides k i → 0 < owned_length sides i
seen_length sides long k i seen =
    let within = slice_get_within sides seen.place seen.side seen.listed in
    let at = get_or_from_slice_get sides seen.place seen.side seen.side seen.listed in
    let term = get_or-le-sum_by (length_by i) sides seen.place seen.side within in
    let is = ap (length_by i) at ∙ own_length seen.side i seen.its in
    let some : 0 < seen.side.length = subst (λ (s : OwnedSide). 0 < s.length) at (long seen.place seen.side within) in
    omega (arith, term, is, some)

next_seen : (s : OwnedSide) (sides : List OwnedSide) (i : ℕ) → IsSeen sides (length sides) i → IsSeen (s ∷ sides) (length (s ∷ sides)) i
next_seen s sides i seen = record { place = suc seen.place; side = seen.side; before = (let h = seen.before in omega arith); listed = seen.listed; its = seen.its }

pub seen_or_none : (sides : List OwnedSide) (i : ℕ) → IsSeen sides (length sides) i ⊎ (owned_length sides i ≡ 0)
seen_or_none [] i = inr refl
seen_or_none (s ∷ sides) i = elim (cases_eq s.member i) [
  | inl same ↦ inl (record { place = 0; side = s; before = omega arith; listed = refl; its = same })
  | inr other ↦ elim (seen_or_none sides i) [
    | inl seen ↦ inl (next_seen s sides i seen)
    | inr none ↦ inr (let head = sum_by-cons (length_by i) s sides in let zero_head = other_length s i other in omega (arith, head, zero_head, none))
  ]
]

-- ---- the longest so far

no_shorter_trans : (a b c : OwnedSide) → IsNoShorter a b → IsNoShorter b c → IsNoShorter a c
no_shorter_trans a b c h k = record {
  long = (let x = h.long in let y = k.long in omega arith);
  tie = λ same. (
      let x = h.long in
      let y = k.long in
      let first = h.tie (omega arith) in
      let second = k.tie (omega arith) in
      omega arith);
}

-- after the first sides: the lengths of the members that were seen are taken, and the best is the longest of these
pub record IsBestSoFar (sides : List OwnedSide) (k : ℕ) (list : List ℕ) (best : OwnedSide) : Type 0 where
  pub taken : (i : ℕ) → i < length list → IsSeen sides k i → slice_index list i ≡ 0
  pub left : (i : ℕ) → i < length list → (slice_index list i ≡ owned_length sides i) ⊎ ((slice_index list i ≡ 0) × IsSeen sides k i)
  pub longest : (i : ℕ) → IsSeen sides k i → IsNoShorter best (record { member = i; length = owned_length sides i })
  pub its : 0 < best.length → owned_length sides best.member ≡ best.length

pub best_none : (sides : List OwnedSide) (list : List ℕ) (best : OwnedSide) → best.length ≡ 0 → AreLengths (owned_length sides) list → IsBestSoFar sides 0 list best
best_none sides list best none lengths = record {
  taken = λ i within seen. (let h = seen.before in absurd (omega arith));
  left = λ i within. inl (lengths i within);
  longest = λ i seen. (let h = seen.before in absurd (omega arith));
  its = λ some. absurd (omega (arith, none, some));
}

module _ (sides : List OwnedSide) (k : ℕ) (s : OwnedSide) (inside : k < length sides) (at : s ≡ get_or sides k s) (list : List ℕ) (there : s.member < length list) (best : OwnedSide) (so_far : IsBestSoFar sides k list best)
    (found next : OwnedSide) (member : found.member ≡ s.member) (taken : found.length ≡ slice_index list s.member) (one : (next ≡ best) ⊎ (next ≡ found)) (than_best : IsNoShorter next best) (than_found : IsNoShorter next found) where
  here : slice_get sides k ≡ Some s
  here = slice_get-get_or sides k s inside ∙ ap (λ (t : OwnedSide). Some t) (sym at)

  seen_now : (i : ℕ) → s.member ≡ i → IsSeen sides (k + 1) i
  seen_now i same = record { place = k; side = s; before = omega arith; listed = here; its = same }

  still_seen : (i : ℕ) → IsSeen sides k i → IsSeen sides (k + 1) i
  still_seen i seen = record { place = seen.place; side = seen.side; before = (let h = seen.before in omega arith); listed = seen.listed; its = seen.its }

  before_or_now : (i : ℕ) → IsSeen sides (k + 1) i → IsSeen sides k i ⊎ (i ≡ s.member)
  before_or_now i seen = elim (cases_lt seen.place k) [
    | inl earlier ↦ inl (record { place = seen.place; side = seen.side; before = earlier; listed = seen.listed; its = seen.its })
    | inr later ↦ inr (
        let h = seen.before in
        let same : seen.place ≡ k = omega arith in
        sym seen.its ∙ ap (λ (t : OwnedSide). t.member) (same_Some seen.side s (sym seen.listed ∙ ap (slice_get sides) same ∙ here)))
  ]

  -- the member that is looked at is not longer
  found_longest : IsNoShorter next (record { member = s.member; length = owned_length sides s.member })
  found_longest = elim (so_far.left s.member there) [
    | inl all ↦ subst (IsNoShorter next) (λ i. record { member = member i; length = (taken ∙ all) i }) than_found
    | inr before ↦ no_shorter_trans next best (record { member = s.member; length = owned_length sides s.member }) than_best (so_far.longest s.member before.1)
  ]

  next_its : 0 < next.length → owned_length sides next.member ≡ next.length
  next_its some = elim one [
    | inl old ↦ subst (λ (t : OwnedSide). 0 < t.length → owned_length sides t.member ≡ t.length) (sym old) so_far.its some
    | inr new ↦ elim (so_far.left s.member there) [
      | inl all ↦ ap (λ (t : OwnedSide). owned_length sides t.member) new ∙ ap (owned_length sides) member ∙ sym (taken ∙ all) ∙ ap (λ (t : OwnedSide). t.length) (sym new)
      | inr before ↦ (let none = ap (λ (t : OwnedSide). t.length) new ∙ taken ∙ before.0 in absurd (omega (arith, none, some)))
    ]
  ]

  read : (i : ℕ) → (i ≡ s.member → ⊥) → get_or (set list s.member 0) i 0 ≡ get_or list i 0
  read i other = get_or-set_other list s.member i 0 0 other

  cleared : (i : ℕ) → i ≡ s.member → get_or (set list s.member 0) i 0 ≡ 0
  cleared i same = ap (λ j. get_or (set list s.member 0) j 0) same ∙ get_or-set_same list s.member 0 0 there

  within_old : (i : ℕ) → i < length (set list s.member 0) → i < length list
  within_old i within = let long = length-set list s.member 0 in omega arith

  pub best_more : (now : List ℕ) → now ≡ set list s.member 0 → IsBestSoFar sides (k + 1) now next
  best_more now put = subst (λ xs. IsBestSoFar sides (k + 1) xs next) (sym put) (record {
    taken = λ i within seen. elim (cases_eq i s.member) [
      | inl same ↦ cleared i same
      | inr other ↦ elim (before_or_now i seen) [
        | inl before ↦ read i other ∙ so_far.taken i (within_old i within) before
        | inr now ↦ absurd (other now)
      ]
    ];
    left = λ i within. elim (cases_eq i s.member) [
      | inl same ↦ inr (cleared i same, seen_now i (sym same))
      | inr other ↦ elim (so_far.left i (within_old i within)) [
        | inl all ↦ inl (read i other ∙ all)
        | inr before ↦ inr (read i other ∙ before.0, still_seen i before.1)
      ]
    ];
    longest = λ i seen. elim (before_or_now i seen) [
      | inl before ↦ no_shorter_trans next best (record { member = i; length = owned_length sides i }) than_best (so_far.longest i before)
      | inr now ↦ subst (λ m. IsNoShorter next (record { member = m; length = owned_length sides m })) (sym now) found_longest
    ];
    its = next_its;
  })

-- ---- after the last side

module _ (sides : List OwnedSide) (long : All (λ (s : OwnedSide). 0 < s.length) sides) (k : ℕ) (past : length sides ≤ k) (list : List ℕ) (best : OwnedSide) (so_far : IsBestSoFar sides k list best) where
  at_end : (i : ℕ) → IsSeen sides (length sides) i → IsSeen sides k i
  at_end i seen = record { place = seen.place; side = seen.side; before = (let h = seen.before in omega arith); listed = seen.listed; its = seen.its }

  pub all_clear : AreClear list
  all_clear i within = elim (seen_or_none sides i) [
    | inl seen ↦ so_far.taken i within (at_end i seen)
    | inr none ↦ elim (so_far.left i within) [ inl all ↦ all ∙ none | inr before ↦ before.0 ]
  ]

  best_of : (i : ℕ) → (0 < owned_length sides i → IsNoShorter best (record { member = i; length = owned_length sides i }))
  best_of i some = elim (seen_or_none sides i) [
    | inl seen ↦ so_far.longest i (at_end i seen)
    | inr none ↦ absurd (omega (arith, none, some))
  ]

  pub none_longest : best.length ≡ 0 → IsLongest (owned_length sides) None
  none_longest none = λ i. (elim (seen_or_none sides i) [
    | inl seen ↦ (let h = (so_far.longest i (at_end i seen)).long in omega (arith, h, none))
    | inr zero_length ↦ zero_length
  ])

  pub some_longest : 0 < best.length → IsLongest (owned_length sides) (Some best.member)
  some_longest some =
      let its = so_far.its some in (
        omega (arith, its, some),
        λ i. (elim (seen_or_none sides i) [
          | inl seen ↦ (let h = (so_far.longest i (at_end i seen)).long in omega (arith, h, its))
          | inr none ↦ omega (arith, none)
        ]),
        λ i same. (
            let tie = (best_of i (omega (arith, its, some, same))).tie in
            tie (same ∙ its)),
      )
