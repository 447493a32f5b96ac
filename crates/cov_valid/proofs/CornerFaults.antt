-- What is told of segments that begin at one vertex: from entries and groups to the uses.
use Rattle.std.proofs.Common.{◌≡◌, refl, sym, ap, ◌∙◌, subst, ℕ, zero, suc, ◌+◌, ◌-◌, ◌<◌, ◌≤◌, ◌⊎◌, Bool, true, false, List, [], ◌∷◌, length, get_or, All, Contains, arith, inl, inr, Option, Some, None}
use Rattle.std.specs.Prelude.{slice_get}
use Rattle.std.proofs.lemmas.Bool.{cases_lt, false≢true}
use Rattle.std.proofs.lemmas.List.{get_or_default}
use Rattle.std.proofs.lemmas.List.Elements.{Contains-get_or}
use Rattle.std.proofs.lemmas.Option.{slice_get-get_or, get_or_from_slice_get}
use Rattle.cov_types.specs.Range.{IsSegInRange}
use Rattle.cov_types.specs.declared.edge_use.EdgeUse.{EdgeUse}
use Rattle.cov_types.specs.declared.seg.Seg.{Seg}
use Rattle.cov_valid.proofs.GroupUsers.{AreUsers, contains_at, at_contains, entry_of, entry_at, places_apart}
use Rattle.cov_valid.proofs.Judging.{group_of, group_is, group_use, met_is, kind_from_among}
use Rattle.cov_valid.specs.Among.{IsKindAmong, AddsKinds}
use Rattle.cov_valid.specs.Contacts.{AreContacts}
use Rattle.cov_valid.specs.Corners.{IsFaultlessSegment, AreCornersFaultless, AreAlone, HasTwo, AreFirstFaultless}
use Rattle.cov_valid.specs.Entries.{AreEntries, AreTogether}
use Rattle.cov_valid.specs.Groups.{IsGroup, AreGroupsInRow}
use Rattle.cov_valid.specs.Holders.{AreHolders}
use Rattle.cov_valid.specs.Judged.{use_of, AreSorted, AreGroups}
use Rattle.cov_valid.specs.Kinds.{HasBadContact, AreFaultless}
use Rattle.cov_valid.specs.declared.entry.Entry.{Entry}
use Rattle.cov_valid.specs.declared.group.Group.{Group}
use Rattle.cov_valid.specs.declared.mark.Kind.{Kind}
use Rattle.cov_valid.specs.declared.mark.Kind.TheVariants.{Meets, Repeated}
use Rattle.plane.specs.Segment.{midpoint}
use Rattle.plane.specs.Validity.{IsRepeated}

-- ---- entries of one member and one segment

-- no two neighbours of the first so many are
abbrev pub AreApartTo : List Entry → ℕ → Type 0
AreApartTo entries n = (i : ℕ) (d : Entry) → i + 1 < n → (get_or entries i d).seg ≡ (get_or entries (i + 1) d).seg → ¬ ((get_or entries i d).member ≡ (get_or entries (i + 1) d).member)

pub alone : (entries : List Entry) (n : ℕ) → AreTogether entries → length entries ≤ n → AreApartTo entries n → AreAlone entries
alone entries n together all apart i j d lt within same_seg same_member =
    let segs = together.between i (i + 1) j d (omega arith) (omega (arith, lt)) within same_seg in
    let low = together.ascending i (i + 1) d (omega arith) (omega (arith, lt, within)) (sym segs) in
    let high = together.ascending (i + 1) j d (omega (arith, lt)) within (segs ∙ same_seg) in
    apart i d (omega (arith, lt, within, all)) (sym segs) (omega (arith, low, high, same_member))

-- two neighbours, as they are read
module _ (entries : List Entry) (k : ℕ) (a b : Entry) (some : 1 ≤ k) (within : k < length entries) (at_a : a ≡ get_or entries (k - 1) a) (at_b : b ≡ get_or entries k b) where
  read_a : (d : Entry) → get_or entries (k - 1) d ≡ a
  read_a d = get_or_default entries (k - 1) d a (omega (arith, some, within)) ∙ sym at_a

  read_b : (d : Entry) → get_or entries k d ≡ b
  read_b d = get_or_default entries k d b within ∙ sym at_b

  pub two_at : (a.member ≡ b.member) × (a.seg ≡ b.seg) → HasTwo entries
  two_at (member, seg) = record {
    first = k - 1;
    second = k;
    apart = omega (arith, some);
    within = within;
    seg = λ d. ap (λ (e : Entry). e.seg) (read_a d) ∙ seg ∙ sym (ap (λ (e : Entry). e.seg) (read_b d));
    member = λ d. ap (λ (e : Entry). e.member) (read_a d) ∙ member ∙ sym (ap (λ (e : Entry). e.member) (read_b d));
  }

  pub apart_more : ¬ ((a.member ≡ b.member) × (a.seg ≡ b.seg)) → AreApartTo entries k → AreApartTo entries (k + 1)
  apart_more apart before i d lt same_seg same_member = elim (cases_lt (i + 1) k) [
    | inl earlier ↦ before i d earlier same_seg same_member
    | inr later ↦ (
        let next : i + 1 ≡ k = omega (arith, lt, later) in
        let first : i ≡ k - 1 = omega (arith, next) in
        let is_a : get_or entries i d ≡ a = ap (λ n. get_or entries n d) first ∙ read_a d in
        let is_b : get_or entries (i + 1) d ≡ b = ap (λ n. get_or entries n d) next ∙ read_b d in
        apart (
          sym (ap (λ (e : Entry). e.member) is_a) ∙ same_member ∙ ap (λ (e : Entry). e.member) is_b,
          sym (ap (λ (e : Entry). e.seg) is_a) ∙ same_seg ∙ ap (λ (e : Entry). e.seg) is_b,
        )
        )
  ]

pub apart_none : (entries : List Entry) (n : ℕ) → n ≤ 1 → AreApartTo entries n
apart_none entries n few i d lt same = absurd (omega (arith, few, lt))

same_parts : {a b : EdgeUse} → a ≡ b → (a.seg ≡ b.seg) × (a.member ≡ b.member)
same_parts e = (ap (λ (u : EdgeUse). u.seg) e, ap (λ (u : EdgeUse). u.member) e)

pub alone_once : (uses : List EdgeUse) (entries : List Entry) → AreEntries uses entries → AreAlone entries → (u : EdgeUse) → ¬ IsRepeated uses u
alone_once uses entries are all u twice =
    let a = entry_of uses entries twice.first u are twice.at_first in
    let b = entry_of uses entries twice.second u are twice.at_second in
    let d : Entry = a.entry in
    let at_a : get_or entries a.number d ≡ a.entry = get_or_from_slice_get entries a.number a.entry d a.at in
    let at_b : get_or entries b.number d ≡ b.entry = get_or_from_slice_get entries b.number b.entry d b.at in
    let one = same_parts (a.stands ∙ sym b.stands) in
    let segs : (get_or entries a.number d).seg ≡ (get_or entries b.number d).seg = ap (λ (e : Entry). e.seg) at_a ∙ one.0 ∙ sym (ap (λ (e : Entry). e.seg) at_b) in
    let members : (get_or entries a.number d).member ≡ (get_or entries b.number d).member = ap (λ (e : Entry). e.member) at_a ∙ one.1 ∙ sym (ap (λ (e : Entry). e.member) at_b) in
    elim (cases_lt a.number b.number) [
      | inl before ↦ all a.number b.number d before b.within segs members
      | inr rest ↦ elim (cases_lt b.number a.number) [
        | inl after ↦ all b.number a.number d after a.within (sym segs) (sym members)
        | inr none ↦ (
            let number : a.number ≡ b.number = omega (arith, rest, none) in
            let entry : a.entry ≡ b.entry = sym at_a ∙ ap (λ n. get_or entries n d) number ∙ at_b in
            let place = sym a.place ∙ ap (λ (e : Entry). e.place) entry ∙ b.place in
            let apart = twice.apart in
            absurd (omega (arith, place, apart))
            )
      ]
    ]

-- a use that stands at two places is at fault
repeated_fault : (uses : List EdgeUse) (i j : ℕ) (u : EdgeUse) → slice_get uses i ≡ Some u → slice_get uses j ≡ Some u → ¬ (i ≡ j) → ¬ AreFaultless uses
repeated_fault uses i j u at_i at_j apart none =
    let has = contains_at uses i u at_i in
    elim (cases_lt i j) [
      | inl lt ↦ none u has Repeated (none u has Meets, record { first = i; second = j; apart = lt; at_first = at_i; at_second = at_j })
      | inr ge ↦ none u has Repeated (none u has Meets, record { first = j; second = i; apart = omega (arith, ge, apart); at_first = at_j; at_second = at_i })
    ]

pub two_fault : (uses : List EdgeUse) (entries : List Entry) → AreEntries uses entries → HasTwo entries → ¬ AreFaultless uses
two_fault uses [] are two = absurd (let within = two.within in omega (arith, within))
two_fault uses (e ∷ entries) are two =
    let all = e ∷ entries in
    let a : Entry = get_or all two.first e in
    let b : Entry = get_or all two.second e in
    let at_a : slice_get all two.first ≡ Some a = (let apart = two.apart in let within = two.within in slice_get-get_or all two.first e (omega (arith, apart, within))) in
    let at_b : slice_get all two.second ≡ Some b = slice_get-get_or all two.second e two.within in
    let same : use_of b ≡ use_of a = λ i. record { member = sym (two.member e) i; seg = sym (two.seg e) i } in
    repeated_fault uses a.place b.place (use_of a) (entry_at uses all two.first a are at_a) (entry_at uses all two.second b are at_b ∙ ap (λ (u : EdgeUse). Some u) same)
    (places_apart uses all two.first two.second a b are at_a at_b two.apart)

-- ---- the group of a segment

-- the group at the place has the segment, and here is an entry
record HasPlace (groups : List Group) (s : Seg) : Type 0 where
  place : ℕ
  group : Group
  entry : Entry
  within : place < length groups
  is : (d : Group) → (get_or groups place d).seg ≡ s

place_of : (uses : List EdgeUse) (entries : List Entry) (groups : List Group) (u : EdgeUse) → AreEntries uses entries → AreGroups entries groups → Contains uses u → HasPlace groups u.seg
place_of uses entries groups u are grouped has =
    let entry = entry_of uses entries has.0 u are (at_contains uses u has) in
    let e : Entry = entry.entry in
    let found = group_of groups 0 (length entries) entry.number grouped.in_row (omega arith) entry.within in
    let g : Group = found.group in
    let is : IsGroup entries g = group_is entries groups g grouped found.listed in
    let read : get_or entries entry.number e ≡ e = get_or_from_slice_get entries entry.number e e entry.at in
    let same : g.seg ≡ u.seg = sym (is.same entry.number e found.low found.high) ∙ (ap (λ (d : Entry). d.seg) read ∙ ap (λ (v : EdgeUse). v.seg) entry.stands) in
    record {
      place = found.listed.0;
      group = g;
      entry = e;
      within = found.listed.1;
      is = λ d. ap (λ (h : Group). h.seg) (get_or_default groups found.listed.0 d g found.listed.1 ∙ found.listed.2) ∙ same;
    }

-- ---- contacts

module _ (uses : List EdgeUse) (entries : List Entry) (groups : List Group) (met : List Bool) (are : AreEntries uses entries) (grouped : AreGroups entries groups) (contacts : AreContacts groups (length groups) met) where
  pub none_met : ((k : ℕ) → k < length met → get_or met k true ≡ false) → (u : EdgeUse) → Contains uses u → ¬ HasBadContact uses u.seg
  none_met none u has bad =
      let at = place_of uses entries groups u are grouped has in
      let d : Group = at.group in
      let here : HasBadContact uses (get_or groups at.place d).seg = subst (HasBadContact uses) (sym (at.is d)) bad in
      let told = (contacts.each at.place d true at.within).1 ((met_is uses entries groups (get_or groups at.place d).seg are grouped).1 here) in
      let count = contacts.count in
      let within = at.within in
      false≢true (sym (none at.place (omega (arith, count, within))) ∙ told)

  pub met_fault : (k : ℕ) × ((k < length met) × (get_or met k false ≡ true)) → ¬ AreFaultless uses
  met_fault (k, (below, is)) none = by groups refl
    where
      by : (gs : List Group) → gs ≡ groups → ⊥
      by [] e = (let count = contacts.count in let long = ap length e in omega (arith, count, long, below))
      by (d ∷ gs) e =
          let within : k < length groups = (let count = contacts.count in omega (arith, count, below)) in
          let g : Group = get_or groups k d in
          let bad : HasBadContact uses g.seg = (met_is uses entries groups g.seg are grouped).0 ((contacts.each k d false within).0 is) in
          let found = group_use uses entries g are (grouped.each k d within) in
          none found.found found.listed Meets (subst (HasBadContact uses) (sym found.same) bad)

-- ---- groups that begin at one vertex

row_from : (groups : List Group) (from to j : ℕ) (d : Group) → AreGroupsInRow from groups to → j < length groups → from ≤ (get_or groups j d).from
row_from [] from to j d row within = absurd (omega (arith, within))
row_from (g ∷ groups) from to zero d row within = (let begins = row.0 in omega (arith, begins))
row_from (g ∷ groups) from to (suc j) d row within = (let rest = row_from groups g.to to j d row.2 (omega (arith, within)) in let some = row.1 in omega (arith, rest, some))

row_ascends : (groups : List Group) (from to i j : ℕ) (d : Group) → AreGroupsInRow from groups to → i ≤ j → j < length groups → (get_or groups i d).from ≤ (get_or groups j d).from
row_ascends [] from to i j d row le within = absurd (omega (arith, within))
row_ascends (g ∷ groups) from to zero j d row le within = (let first = row_from (g ∷ groups) from to j d row within in let begins = row.0 in omega (arith, first, begins))
row_ascends (g ∷ groups) from to (suc i) zero d row le within = absurd (omega (arith, le))
row_ascends (g ∷ groups) from to (suc i) (suc j) d row le within = row_ascends groups g.to to i j d row.2 (omega (arith, le)) (omega (arith, within))

module _ (uses : List EdgeUse) (entries : List Entry) (groups : List Group) (sorted : AreSorted uses entries) (grouped : AreGroups entries groups) where
  -- the first entry of a group
  first_seg : (k : ℕ) (d : Group) (e : Entry) → k < length groups → (get_or entries (get_or groups k d).from e).seg ≡ (get_or groups k d).seg
  first_seg k d e within = (let is = grouped.each k d within in is.same (get_or groups k d).from e (omega arith) is.some)

  vertex_kept : (i j : ℕ) (d : Group) (e : Entry) → i < j → j < length groups → (get_or groups i d).seg.lo ≡ (get_or groups j d).seg.lo → (get_or groups i d).seg.lo ≡ (get_or groups (i + 1) d).seg.lo
  vertex_kept i j d e lt within same =
      let lo : Seg → _ = λ s. s.lo in
      let of_i = ap lo (first_seg i d e (omega (arith, lt, within))) in
      let of_next = ap lo (first_seg (i + 1) d e (omega (arith, lt, within))) in
      let of_j = ap lo (first_seg j d e within) in
      let last = grouped.each j d within in
      let some = last.some in
      let end = last.within in
      let kept =
      sorted.together.from_vertex (get_or groups i d).from (get_or groups (i + 1) d).from (get_or groups j d).from e
      (row_ascends groups 0 (length entries) i (i + 1) d grouped.in_row (omega arith) (omega (arith, lt, within)))
      (row_ascends groups 0 (length entries) (i + 1) j d grouped.in_row (omega (arith, lt)) within)
      (omega (arith, some, end)) (of_i ∙ same ∙ sym of_j) in
      sym of_i ∙ sym kept ∙ of_next

  module _ (first : AreFirstFaultless uses groups (length groups)) where
    faultless_before : (i j : ℕ) (d : Group) (e : Entry) → i < j → j < length groups → (get_or groups i d).seg.lo ≡ (get_or groups j d).seg.lo → IsFaultlessSegment uses (get_or groups i d).seg
    faultless_before i j d e lt within same = first i d (omega (arith, lt, within)) (vertex_kept i j d e lt within same)

    corners : (u v : EdgeUse) → Contains uses u → Contains uses v → u.seg.lo ≡ v.seg.lo → (u.seg ≡ v.seg) ⊎ (IsFaultlessSegment uses u.seg ⊎ IsFaultlessSegment uses v.seg)
    corners u v has_u has_v lo =
        let a = place_of uses entries groups u sorted.entries_are grouped has_u in
        let b = place_of uses entries groups v sorted.entries_are grouped has_v in
        let d : Group = a.group in
        let lo_a : (get_or groups a.place d).seg.lo ≡ u.seg.lo = ap (λ (s : Seg). s.lo) (a.is d) in
        let lo_b : (get_or groups b.place d).seg.lo ≡ v.seg.lo = ap (λ (s : Seg). s.lo) (b.is d) in
        elim (cases_lt a.place b.place) [
          | inl before ↦ inr (inl (subst (IsFaultlessSegment uses) (a.is d) (faultless_before a.place b.place d a.entry before b.within (lo_a ∙ lo ∙ sym lo_b))))
          | inr rest ↦ elim (cases_lt b.place a.place) [
            | inl after ↦ inr (inr (subst (IsFaultlessSegment uses) (b.is d) (faultless_before b.place a.place d a.entry after a.within (lo_b ∙ sym lo ∙ sym lo_a))))
            | inr none ↦ (
                let place : a.place ≡ b.place = omega (arith, rest, none) in
                inl (sym (a.is d) ∙ ap (λ n. (get_or groups n d).seg) place ∙ b.is d)
                )
          ]
        ]

    pub corners_are : AreAlone entries → ((u : EdgeUse) → Contains uses u → ¬ HasBadContact uses u.seg) → AreCornersFaultless uses
    corners_are all unmet = record { unmet = unmet; once = alone_once uses entries sorted.entries_are all; corners = corners }

-- ---- one segment

module _ (uses : List EdgeUse) (s : Seg) (users holders : List ℕ) (before after : List (Option Kind)) (in_range : All (λ (u : EdgeUse). IsSegInRange u.seg) uses)
    (are_users : AreUsers uses s users) (are_holders : AreHolders uses (midpoint s) holders) (unmet : ¬ HasBadContact uses s) (none_before : before ≡ []) (adds : AddsKinds users holders before after) where
  pub segment_faultless : ((k : ℕ) (o : Option Kind) → k < length after → get_or after k o ≡ None) → IsFaultlessSegment uses s
  segment_faultless none member has =
      let listed = (are_users.listed member).1 has in
      let k = listed.0 in
      let within = listed.1 in
      let empty = ap length none_before in
      let count = adds.count in
      let at : get_or after (length before + k) None ≡ None = none (length before + k) None (omega (arith, empty, count, within)) in
      let kind : IsKindAmong users holders (get_or users k member) (get_or after (length before + k) None) = adds.each k None member within in
      kind_from_among uses s users holders member None in_range are_users are_holders unmet
      (subst (λ (o : Option Kind). IsKindAmong users holders member o) at (subst (λ (m : ℕ). IsKindAmong users holders m (get_or after (length before + k) None)) listed.2 kind))

  pub segment_at_fault : (k : ℕ) × ((kind : Kind) × ((k < length after) × ((o : Option Kind) → get_or after k o ≡ Some kind))) → ¬ IsFaultlessSegment uses s
  segment_at_fault (k, (kind, (below, is))) faultless =
      let empty = ap length none_before in
      let count = adds.count in
      let within : k < length users = omega (arith, empty, count, below) in
      let member : ℕ = get_or users k 0 in
      let place : length before + k ≡ k = omega (arith, empty) in
      let told : IsKindAmong users holders member (get_or after (length before + k) None) = adds.each k None 0 within in
      let among : IsKindAmong users holders member (Some kind) = subst (λ (o : Option Kind). IsKindAmong users holders member o) (ap (λ n. get_or after n None) place ∙ is None) told in
      faultless member ((are_users.listed member).0 (Contains-get_or users k 0 within)) kind
      (kind_from_among uses s users holders member (Some kind) in_range are_users are_holders unmet among)

-- ---- the groups so far

pub first_none : (uses : List EdgeUse) (groups : List Group) (n : ℕ) → n ≤ 1 → AreFirstFaultless uses groups n
first_none uses groups n few k d lt same = absurd (omega (arith, few, lt))

pub first_more : (uses : List EdgeUse) (groups : List Group) (k : ℕ) (g next : Group) → 1 ≤ k → k < length groups → g ≡ get_or groups (k - 1) g → next ≡ get_or groups k next
    → (g.seg.lo ≡ next.seg.lo → IsFaultlessSegment uses g.seg) → AreFirstFaultless uses groups k → AreFirstFaultless uses groups (k + 1)
first_more uses groups k g next some within at_g at_next told before i d lt same = elim (cases_lt (i + 1) k) [
  | inl earlier ↦ before i d earlier same
  | inr later ↦ (
      let after : i + 1 ≡ k = omega (arith, lt, later) in
      let first : i ≡ k - 1 = omega (arith, after) in
      let is_g : get_or groups i d ≡ g = ap (λ n. get_or groups n d) first ∙ get_or_default groups (k - 1) d g (omega (arith, some, within)) ∙ sym at_g in
      let is_next : get_or groups (i + 1) d ≡ next = ap (λ n. get_or groups n d) after ∙ get_or_default groups k d next within ∙ sym at_next in
      subst (λ (h : Group). IsFaultlessSegment uses h.seg) (sym is_g) (told (sym (ap (λ (h : Group). h.seg.lo) is_g) ∙ same ∙ ap (λ (h : Group). h.seg.lo) is_next))
      )
]

pub first_all : (uses : List EdgeUse) (groups : List Group) (k : ℕ) → length groups ≤ k → AreFirstFaultless uses groups k → AreFirstFaultless uses groups (length groups)
first_all uses groups k all before i d lt same = before i d (omega (arith, all, lt)) same

-- no group is met badly where no use is
pub group_unmet : (uses : List EdgeUse) (entries : List Entry) (g : Group) → AreEntries uses entries → IsGroup entries g → ((u : EdgeUse) → Contains uses u → ¬ HasBadContact uses u.seg) → ¬ HasBadContact uses g.seg
group_unmet uses entries g are is unmet bad = (let found = group_use uses entries g are is in unmet found.found found.listed (subst (HasBadContact uses) (sym found.same) bad))
