-- The users of a segment, by the entries of its group.
use Rattle.std.proofs.Common.{◌≡◌, sym, ap, ◌∙◌, subst, ℕ, ◌+◌, ◌-◌, ◌<◌, ◌≤◌, ◌↔◌, List, [], ◌∷◌, ◌++◌, length, get_or, Contains, arith, inl, inr, Some}
use Rattle.std.specs.Prelude.{AllPairs, slice_get}
use Rattle.std.proofs.lemmas.Bool.{cases_lt}
use Rattle.std.proofs.lemmas.List.{get_or_append_left, get_or_push, length_push}
use Rattle.std.proofs.lemmas.Option.{same_Some, slice_get-get_or, slice_get_within, get_or_from_slice_get}
use Rattle.cov_types.specs.declared.edge_use.EdgeUse.{EdgeUse}
use Rattle.cov_types.specs.declared.seg.Seg.{Seg}
use Rattle.cov_valid.proofs.Presence.{listed_at}
use Rattle.cov_valid.specs.Among.{IsTwice}
use Rattle.cov_valid.specs.Entries.{IsEntry, AreEntries, AreTogether}
use Rattle.cov_valid.specs.Groups.{IsGroup, AreMembers}
use Rattle.cov_valid.specs.Judged.{use_of}
use Rattle.cov_valid.specs.declared.entry.Entry.{Entry}
use Rattle.cov_valid.specs.declared.group.Group.{Group}
use Rattle.plane.specs.Validity.{IsRepeated}

-- the numbers of the members that have the segment, ascending, each as often as it has it
pub record AreUsers (uses : List EdgeUse) (s : Seg) (users : List ℕ) : Type 0 where
  pub ascending : AllPairs (λ i j. i ≤ j) users
  pub listed : (member : ℕ) → Contains users member ↔ Contains uses (record { member = member; seg = s })
  pub repeated : (member : ℕ) → IsTwice users member ↔ IsRepeated uses (record { member = member; seg = s })

-- ---- entries and uses

-- the use of a member and a segment
pub use_is : (e : Entry) (member : ℕ) (s : Seg) → e.member ≡ member → e.seg ≡ s → use_of e ≡ record { member = member; seg = s }
use_is e member s m t = λ i. record { member = m i; seg = t i }

pub contains_at : (uses : List EdgeUse) (k : ℕ) (u : EdgeUse) → slice_get uses k ≡ Some u → Contains uses u
contains_at uses k u at = (k, slice_get_within uses k u at, get_or_from_slice_get uses k u u at)

pub at_contains : {X : Type 0} (xs : List X) (x : X) → (has : Contains xs x) → slice_get xs has.0 ≡ Some x
at_contains xs x (k, within, is) = slice_get-get_or xs k x within ∙ ap (λ y. Some y) is

-- the entry of a use that stands at a place
pub record HasEntry (uses : List EdgeUse) (entries : List Entry) (k : ℕ) (u : EdgeUse) : Type 0 where
  pub number : ℕ
  pub entry : Entry
  pub within : number < length entries
  pub at : slice_get entries number ≡ Some entry
  pub place : entry.place ≡ k
  pub stands : use_of entry ≡ u

pub entry_of : (uses : List EdgeUse) (entries : List Entry) (k : ℕ) (u : EdgeUse) → AreEntries uses entries → slice_get uses k ≡ Some u → HasEntry uses entries k u
entry_of uses entries k u are at =
    let (e, (has, place)) = are.each k (slice_get_within uses k u at) in
    let number : ℕ = has.0 in
    let read : slice_get entries number ≡ Some e = at_contains entries e has in
    let is : IsEntry uses e = subst (IsEntry uses) has.2 (are.listed number e has.1) in
    record {
      number = number;
      entry = e;
      within = has.1;
      at = read;
      place = place;
      stands = same_Some (use_of e) u (sym is.at_place ∙ (ap (slice_get uses) place ∙ at));
    }

-- the use that an entry stands for
pub entry_at : (uses : List EdgeUse) (entries : List Entry) (k : ℕ) (e : Entry) → AreEntries uses entries → slice_get entries k ≡ Some e → slice_get uses e.place ≡ Some (use_of e)
entry_at uses entries k e are at =
    let read : get_or entries k e ≡ e = get_or_from_slice_get entries k e e at in
    let is : IsEntry uses e = subst (IsEntry uses) read (are.listed k e (slice_get_within entries k e at)) in
    is.at_place

-- two entries stand for uses at two places
pub places_apart : (uses : List EdgeUse) (entries : List Entry) (i j : ℕ) (a b : Entry) → AreEntries uses entries → slice_get entries i ≡ Some a → slice_get entries j ≡ Some b → i < j → ¬ (a.place ≡ b.place)
places_apart uses entries i j a b are at_i at_j less same =
    let within : j < length entries = slice_get_within entries j b at_j in
    let first : get_or entries i a ≡ a = get_or_from_slice_get entries i a a at_i in
    let second : get_or entries j a ≡ b = get_or_from_slice_get entries j b a at_j in
    are.once i j a less within (ap (λ (e : Entry). e.place) first ∙ (same ∙ sym (ap (λ (e : Entry). e.place) second)))

-- ---- the users of a group

-- the entry of the user at a place
record HasUser (entries : List Entry) (group : Group) (users : List ℕ) (k member : ℕ) : Type 0 where
  entry : Entry
  at : slice_get entries (group.from + k) ≡ Some entry
  member_is : entry.member ≡ member
  seg_is : entry.seg ≡ group.seg

user_entry : (entries : List Entry) (group : Group) (users : List ℕ) (k member : ℕ) → IsGroup entries group → AreMembers entries group.from group.to users → slice_get users k ≡ Some member → HasUser entries group users k member
user_entry [] group users k member is are at = absurd (omega (arith, is.some, is.within))
user_entry (first ∷ entries) group users k member is are at =
    let count : group.from + length users ≡ group.to = are.count in
    let end : group.to ≤ length (first ∷ entries) = is.within in
    let within : k < length users = slice_get_within users k member at in
    let inside : group.from + k < length (first ∷ entries) = omega arith in
    let e : Entry = get_or (first ∷ entries) (group.from + k) first in
    let read : get_or users k member ≡ e.member = are.each k member first within in
    record {
      entry = e;
      at = slice_get-get_or (first ∷ entries) (group.from + k) first inside;
      member_is = sym read ∙ get_or_from_slice_get users k member member at;
      seg_is = is.same (group.from + k) first (omega arith) (omega arith);
    }

-- an entry of the group's segment is that of a user
entry_user : (entries : List Entry) (group : Group) (users : List ℕ) (j : ℕ) (e : Entry) → IsGroup entries group → AreMembers entries group.from group.to users → slice_get entries j ≡ Some e → e.seg ≡ group.seg
    → (group.from ≤ j) × (slice_get users (j - group.from) ≡ Some e.member)
entry_user entries group users j e is are at same =
    let within : j < length entries = slice_get_within entries j e at in
    let read : get_or entries j e ≡ e = get_or_from_slice_get entries j e e at in
    let (low, high) = is.whole j e within (ap (λ (d : Entry). d.seg) read ∙ same) in
    let count : group.from + length users ≡ group.to = are.count in
    let k : ℕ = j - group.from in
    let back : group.from + k ≡ j = omega arith in
    let short : k < length users = omega arith in
    let member : get_or users k 0 ≡ (get_or entries (group.from + k) e).member = are.each k 0 e short in
    (low, slice_get-get_or users k 0 short ∙ ap (λ (n : ℕ). Some n) (member ∙ ap (λ (n : ℕ). (get_or entries n e).member) back ∙ ap (λ (d : Entry). d.member) read))

users_ascend : (entries : List Entry) (group : Group) (users : List ℕ) → AreTogether entries → IsGroup entries group → AreMembers entries group.from group.to users → AllPairs (λ i j. i ≤ j) users
users_ascend [] group users together is are i j d less within = absurd (omega (arith, is.some, is.within))
users_ascend (first ∷ entries) group users together is are i j d less within =
    let all : List Entry = first ∷ entries in
    let count : group.from + length users ≡ group.to = are.count in
    let end : group.to ≤ length all = is.within in
    let one : get_or users i d ≡ (get_or all (group.from + i) first).member = are.each i d first (omega arith) in
    let other : get_or users j d ≡ (get_or all (group.from + j) first).member = are.each j d first within in
    let same : (get_or all (group.from + i) first).seg ≡ (get_or all (group.from + j) first).seg =
    is.same (group.from + i) first (omega arith) (omega arith) ∙ sym (is.same (group.from + j) first (omega arith) (omega arith)) in
    let most = together.ascending (group.from + i) (group.from + j) first (omega arith) (omega arith) same in
    omega (arith, one, other, most)

users_repeated : (uses : List EdgeUse) (s : Seg) (i j : ℕ) (member : ℕ) → ¬ (i ≡ j) → slice_get uses i ≡ Some (record { member = member; seg = s }) → slice_get uses j ≡ Some (record { member = member; seg = s })
    → IsRepeated uses (record { member = member; seg = s })
users_repeated uses s i j member apart at_i at_j =
    elim (cases_lt i j) [
      | inl less ↦ record { first = i; second = j; apart = less; at_first = at_i; at_second = at_j }
      | inr more ↦ elim (cases_lt j i) [
        | inl less ↦ record { first = j; second = i; apart = less; at_first = at_j; at_second = at_i }
        | inr past ↦ absurd (apart (omega arith))
      ]
    ]

twice_from : (users : List ℕ) (i j member : ℕ) → ¬ (i ≡ j) → slice_get users i ≡ Some member → slice_get users j ≡ Some member → IsTwice users member
twice_from users i j member apart at_i at_j =
    elim (cases_lt i j) [
      | inl less ↦ record { first = i; second = j; apart = less; at_first = at_i; at_second = at_j }
      | inr more ↦ elim (cases_lt j i) [
        | inl less ↦ record { first = j; second = i; apart = less; at_first = at_j; at_second = at_i }
        | inr past ↦ absurd (apart (omega arith))
      ]
    ]

-- the users of a group's segment, as the entries of the group have them
pub users_are : (uses : List EdgeUse) (entries : List Entry) (group : Group) (users : List ℕ) → AreEntries uses entries → AreTogether entries → IsGroup entries group → AreMembers entries group.from group.to users
    → AreUsers uses group.seg users
users_are uses entries group users are together is members = record {
  ascending = users_ascend entries group users together is members;
  listed = λ member. (
    λ has.
        let user = user_entry entries group users has.0 member is members (at_contains users member has) in
        let e : Entry = user.entry in
        subst (Contains uses) (use_is e member group.seg user.member_is user.seg_is) (contains_at uses e.place (use_of e) (entry_at uses entries (group.from + has.0) e are user.at)),
    λ has.
        let u : EdgeUse = record { member = member; seg = group.seg } in
        let entry = entry_of uses entries has.0 u are (at_contains uses u has) in
        let user = entry_user entries group users entry.number entry.entry is members entry.at (ap (λ (v : EdgeUse). v.seg) entry.stands) in
        listed_at users (entry.number - group.from) member (user.1 ∙ ap (λ (v : EdgeUse). Some v.member) entry.stands),
  );
  repeated = λ member. (
    λ twice.
        let one = user_entry entries group users twice.first member is members twice.at_first in
        let other = user_entry entries group users twice.second member is members twice.at_second in
        let a : Entry = one.entry in
        let b : Entry = other.entry in
        users_repeated uses group.seg a.place b.place member
        (places_apart uses entries (group.from + twice.first) (group.from + twice.second) a b are one.at other.at (omega (arith, twice.apart)))
        (entry_at uses entries (group.from + twice.first) a are one.at ∙ ap (λ (v : EdgeUse). Some v) (use_is a member group.seg one.member_is one.seg_is))
        (entry_at uses entries (group.from + twice.second) b are other.at ∙ ap (λ (v : EdgeUse). Some v) (use_is b member group.seg other.member_is other.seg_is)),
    λ repeated.
        let u : EdgeUse = record { member = member; seg = group.seg } in
        let one = entry_of uses entries repeated.first u are repeated.at_first in
        let other = entry_of uses entries repeated.second u are repeated.at_second in
        let first = entry_user entries group users one.number one.entry is members one.at (ap (λ (v : EdgeUse). v.seg) one.stands) in
        let second = entry_user entries group users other.number other.entry is members other.at (ap (λ (v : EdgeUse). v.seg) other.stands) in
        let apart : ¬ (one.number ≡ other.number) = λ same.
        let entry_same : one.entry ≡ other.entry = same_Some one.entry other.entry (sym one.at ∙ (ap (slice_get entries) same ∙ other.at)) in
        let place_same : one.entry.place ≡ other.entry.place = ap (λ (e : Entry). e.place) entry_same in
        let first_place : one.entry.place ≡ repeated.first = one.place in
        let second_place : other.entry.place ≡ repeated.second = other.place in
        let less : repeated.first < repeated.second = repeated.apart in
        omega arith in
        let low : group.from ≤ one.number = first.0 in
        let low_other : group.from ≤ other.number = second.0 in
        twice_from users (one.number - group.from) (other.number - group.from) member
        (λ e. apart (omega arith))
        (first.1 ∙ ap (λ (v : EdgeUse). Some v.member) one.stands)
        (second.1 ∙ ap (λ (v : EdgeUse). Some v.member) other.stands),
  );
}

-- ---- the loop

pub members_none : (entries : List Entry) (from : ℕ) (members : List ℕ) → members ≡ [] → AreMembers entries from from members
members_none entries from members e = record { count = omega (arith, ap length e); each = λ k d c h. absurd (omega (arith, h, ap length e)) }

pub members_more : (entries : List Entry) (from to : ℕ) (members more : List ℕ) (e : Entry) → more ≡ members ++ e.member ∷ [] → ((d : Entry) → e ≡ get_or entries to d) → AreMembers entries from to members → AreMembers entries from (to + 1) more
members_more entries from to members more e pushed at so_far =
    let count : from + length members ≡ to = so_far.count in
    subst (AreMembers entries from (to + 1)) (sym pushed)
    (record {
      count = omega (arith, length_push members e.member);
      each = λ k d c h. elim (cases_lt k (length members)) [
        | inl earlier ↦ get_or_append_left members (e.member ∷ []) d k earlier ∙ so_far.each k d c earlier
        | inr later ↦
            let last : length members ≡ k = omega (arith, h, length_push members e.member) in
            let here : to ≡ from + k = omega arith in
            get_or_push members e.member d k last ∙ (ap (λ (f : Entry). f.member) (at c) ∙ ap (λ (n : ℕ). (get_or entries n c).member) here)
      ];
    })
