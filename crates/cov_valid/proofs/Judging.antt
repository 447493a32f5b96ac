-- From the faults among the users of a segment to the kinds of the uses.
use Rattle.std.proofs.Common.{◌≡◌, refl, sym, ap, ◌∙◌, subst, ℕ, suc, ◌+◌, ◌-◌, ◌<◌, ◌≤◌, ◌↔◌, Bool, true, false, List, [], ◌∷◌, ◌++◌, length, get_or, set, drop, All, Contains, arith, inl, inr, Option, Some, None}
use Rattle.std.specs.Prelude.{slice_get}
use Rattle.std.proofs.lemmas.Bool.{cases_lt, false≢true}
use Rattle.std.proofs.lemmas.List.{get_or_default, get_or_append_left, get_or_push, length_push, get_or-set_same, get_or-set_other, length-set, drop_more, drop_all}
use Rattle.std.proofs.lemmas.Option.{slice_get-get_or, slice_get_within, get_or_from_slice_get}
use Rattle.cov_types.specs.Range.{IsSegInRange}
use Rattle.cov_types.specs.declared.edge_use.EdgeUse.{EdgeUse}
use Rattle.cov_types.specs.declared.seg.Seg.{Seg}
use Rattle.cov_valid.proofs.GroupUsers.{AreUsers, use_is, contains_at, at_contains, entry_of, entry_at, users_are, places_apart}
use Rattle.cov_valid.specs.Among.{HasPeer, HasGuest, IsFaultlessAmong, IsKindAmong, AddsKinds}
use Rattle.cov_valid.specs.Contacts.{IsMet}
use Rattle.cov_valid.specs.Entries.{AreEntries}
use Rattle.cov_valid.specs.Groups.{IsGroup, AreGroupsInRow, AreMembers}
use Rattle.cov_valid.specs.Holders.{AreHolders}
use Rattle.cov_valid.specs.Judged.{IsKindOf, use_of, AreSorted, AreGroups, AreJudged, AreKinds}
use Rattle.cov_valid.specs.Kinds.{HasBadContact, IsSameSide, IsInside, IsFaultOf}
use Rattle.cov_valid.specs.declared.entry.Entry.{Entry}
use Rattle.cov_valid.specs.declared.group.Group.{Group}
use Rattle.cov_valid.specs.declared.mark.Kind.{Kind}
use Rattle.cov_valid.specs.declared.mark.Kind.TheVariants.{Meets, Repeated, SameSide, Inside, NarrowGap}
use Rattle.parity_laws.proofs.Middle.{member_holds-upper}
use Rattle.plane.specs.Contact.{MeetsBadly}
use Rattle.plane.specs.Parity.{member_holds}
use Rattle.plane.specs.Segment.{midpoint, upper}

-- ---- one segment

same_tests : (a b : Bool) → ((a ≡ true) → (b ≡ true)) → ((b ≡ true) → (a ≡ true)) → a ≡ b
same_tests true true h k = refl
same_tests true false h k = absurd (false≢true (h refl))
same_tests false true h k = absurd (false≢true (k refl))
same_tests false false h k = refl

-- the members that hold the midpoint hold the side point above it
above_is : (uses : List EdgeUse) (s : Seg) (member : ℕ) → All (λ u. IsSegInRange u.seg) uses → member_holds uses member (upper s) ≡ member_holds uses member (midpoint s)
above_is uses s member in_range =
    member_holds-upper uses (λ u has. subst (λ (v : EdgeUse). IsSegInRange v.seg) has.2 (in_range has.0 u has.1)) s member

-- a use of the segment
abbrev use_by : Seg → ℕ → EdgeUse
use_by s member = record { member = member; seg = s }

pub peer_is : (uses : List EdgeUse) (s : Seg) (users holders : List ℕ) (member : ℕ) → All (λ u. IsSegInRange u.seg) uses → AreUsers uses s users → AreHolders uses (midpoint s) holders
    → HasPeer users holders member ↔ IsSameSide uses (use_by s member)
peer_is uses s users holders member in_range users_are holders_are = (
  λ peer. record {
    other = use_by s peer.other;
    listed = (users_are.listed peer.other).0 peer.listed;
    another = peer.another;
    shared = refl;
    alike =
        above_is uses s peer.other in_range
        ∙ (same_tests (member_holds uses peer.other (midpoint s)) (member_holds uses member (midpoint s))
        (λ h. (holders_are.exact member).0 (peer.alike.0 ((holders_are.exact peer.other).1 h)))
        (λ h. (holders_are.exact peer.other).0 (peer.alike.1 ((holders_are.exact member).1 h)))
        ∙ sym (above_is uses s member in_range));
  },
  λ w.
      let other : ℕ = w.other.member in
      let middle : member_holds uses other (midpoint s) ≡ member_holds uses member (midpoint s) = sym (above_is uses s other in_range) ∙ (w.alike ∙ above_is uses s member in_range) in
      let same : w.other ≡ use_by s other = λ i. record { member = other; seg = w.shared i } in
      record {
        other = other;
        listed = (users_are.listed other).1 (subst (Contains uses) same w.listed);
        another = w.another;
        alike = (
          λ h. (holders_are.exact member).1 (sym middle ∙ (holders_are.exact other).0 h),
          λ h. (holders_are.exact other).1 (middle ∙ (holders_are.exact member).0 h),
        );
      },
)

pub guest_inside : (uses : List EdgeUse) (s : Seg) (users holders : List ℕ) → AreUsers uses s users → AreHolders uses (midpoint s) holders → HasGuest users holders ↔ IsInside uses s
guest_inside uses s users holders users_are holders_are = (
  λ (member, (held, not_user)). record { member = member; without = λ has. not_user ((users_are.listed member).1 has); held = (holders_are.exact member).0 held },
  λ w. (w.member, ((holders_are.exact w.member).1 w.held, λ listed. w.without ((users_are.listed w.member).0 listed))),
)

-- a use that is not at fault among the users is not at fault
none_from_among : (uses : List EdgeUse) (s : Seg) (users holders : List ℕ) (member : ℕ) → All (λ u. IsSegInRange u.seg) uses → AreUsers uses s users → AreHolders uses (midpoint s) holders → ¬ HasBadContact uses s
    → IsFaultlessAmong users holders member → (kind : Kind) → ¬ IsFaultOf uses (use_by s member) kind
none_from_among uses s users holders member in_range users_of holders_of not_met none Meets = not_met
none_from_among uses s users holders member in_range users_of holders_of not_met none Repeated = λ h. none.0 ((users_of.repeated member).1 h.1)
none_from_among uses s users holders member in_range users_of holders_of not_met none SameSide = λ h. none.1 ((peer_is uses s users holders member in_range users_of holders_of).1 h.2)
none_from_among uses s users holders member in_range users_of holders_of not_met none Inside = λ h. none.2 ((guest_inside uses s users holders users_of holders_of).1 h.3)
none_from_among uses s users holders member in_range users_of holders_of not_met none NarrowGap = λ h. absurd h

-- the fault among the users is that of the use
pub kind_from_among : (uses : List EdgeUse) (s : Seg) (users holders : List ℕ) (member : ℕ) (kind : Option Kind) → All (λ u. IsSegInRange u.seg) uses → AreUsers uses s users → AreHolders uses (midpoint s) holders → ¬ HasBadContact uses s
    → IsKindAmong users holders member kind → IsKindOf uses (use_by s member) kind
kind_from_among uses s users holders member None in_range users_of holders_of not_met none = none_from_among uses s users holders member in_range users_of holders_of not_met none
kind_from_among uses s users holders member (Some Meets) in_range users_of holders_of not_met is = absurd is
kind_from_among uses s users holders member (Some Repeated) in_range users_of holders_of not_met is = (not_met, (users_of.repeated member).0 is)
kind_from_among uses s users holders member (Some SameSide) in_range users_of holders_of not_met is =
    (not_met, λ h. is.0 ((users_of.repeated member).1 h), (peer_is uses s users holders member in_range users_of holders_of).0 is.1)
kind_from_among uses s users holders member (Some Inside) in_range users_of holders_of not_met is = (
  not_met,
  λ h. is.0 ((users_of.repeated member).1 h),
  λ h. is.1 ((peer_is uses s users holders member in_range users_of holders_of).1 h),
  (guest_inside uses s users holders users_of holders_of).0 is.2,
)
kind_from_among uses s users holders member (Some NarrowGap) in_range users_of holders_of not_met is = absurd is

-- ---- segments that are met badly

one_more : (n : ℕ) → n + 1 ≡ suc n
one_more n = omega arith

-- the group that has the entry at a place
pub record HasGroup (groups : List Group) (j : ℕ) : Type 0 where
  pub group : Group
  pub listed : Contains groups group
  pub low : group.from ≤ j
  pub high : j < group.to

there : (g : Group) (groups : List Group) (h : Group) → (has : Contains groups h) → get_or (g ∷ groups) (has.0 + 1) h ≡ h
there g groups h has = ap (λ (n : ℕ). get_or (g ∷ groups) n h) (one_more has.0) ∙ has.2

pub group_of : (groups : List Group) (from to j : ℕ) → AreGroupsInRow from groups to → from ≤ j → j < to → HasGroup groups j
group_of [] from to j row low high = absurd (omega (arith, row))
group_of (g ∷ groups) from to j row low high =
    elim (cases_lt j g.to) [
      | inl inside ↦ record { group = g; listed = (0, omega arith, refl); low = omega (arith, row.0); high = inside }
      | inr past ↦
          let rest : HasGroup groups j = group_of groups g.to to j row.2 past high in
          let has = rest.listed in
          record { group = rest.group; listed = (has.0 + 1, omega (arith, has.1), there g groups rest.group has); low = rest.low; high = rest.high }
    ]

-- a group of the list
pub group_is : (entries : List Entry) (groups : List Group) (g : Group) → AreGroups entries groups → Contains groups g → IsGroup entries g
group_is entries groups g are has = subst (IsGroup entries) has.2 (are.each has.0 g has.1)

-- the segment of a group is that of a use
pub record HasUse (uses : List EdgeUse) (s : Seg) : Type 0 where
  pub found : EdgeUse
  pub listed : Contains uses found
  pub same : found.seg ≡ s

pub group_use : (uses : List EdgeUse) (entries : List Entry) (g : Group) → AreEntries uses entries → IsGroup entries g → HasUse uses g.seg
group_use uses [] g are is = absurd (omega (arith, is.some, is.within))
group_use uses (first ∷ entries) g are is =
    let e : Entry = get_or (first ∷ entries) g.from first in
    let at : slice_get (first ∷ entries) g.from ≡ Some e = slice_get-get_or (first ∷ entries) g.from first (omega (arith, is.some, is.within)) in
    record { found = use_of e; listed = contains_at uses e.place (use_of e) (entry_at uses (first ∷ entries) g.from e are at); same = is.same g.from first (omega arith) is.some }

-- the segment of a group meets s badly exactly where that of a use does
pub met_is : (uses : List EdgeUse) (entries : List Entry) (groups : List Group) (s : Seg) → AreEntries uses entries → AreGroups entries groups → IsMet groups s ↔ HasBadContact uses s
met_is uses entries groups s are grouped = (
  λ (g, (has, bad)).
      let use_found = group_use uses entries g are (group_is entries groups g grouped has) in
      record { other = use_found.found; listed = use_found.listed; meets = subst (MeetsBadly s) (sym use_found.same) bad },
  λ w.
      let entry = entry_of uses entries w.listed.0 w.other are (at_contains uses w.other w.listed) in
      let e : Entry = entry.entry in
      let group = group_of groups 0 (length entries) entry.number grouped.in_row (omega arith) entry.within in
      let g : Group = group.group in
      let is : IsGroup entries g = group_is entries groups g grouped group.listed in
      let read : get_or entries entry.number e ≡ e = get_or_from_slice_get entries entry.number e e entry.at in
      let same : g.seg ≡ w.other.seg = sym (is.same entry.number e group.low group.high) ∙ (ap (λ (d : Entry). d.seg) read ∙ ap (λ (u : EdgeUse). u.seg) entry.stands) in
      (g, (group.listed, subst (MeetsBadly s) (sym same) w.meets)),
)

-- every group has its segment in range
pub group_in_range : (uses : List EdgeUse) (entries : List Entry) (g : Group) → All (λ u. IsSegInRange u.seg) uses → AreEntries uses entries → IsGroup entries g → IsSegInRange g.seg
group_in_range uses entries g in_range are is =
    let found = group_use uses entries g are is in
    let has = found.listed in
    let u : EdgeUse = found.found in
    subst IsSegInRange found.same (subst (λ (v : EdgeUse). IsSegInRange v.seg) has.2 (in_range has.0 u has.1))

pub groups_in_range : (uses : List EdgeUse) (entries : List Entry) (groups : List Group) → All (λ u. IsSegInRange u.seg) uses → AreEntries uses entries → All (IsGroup entries) groups → All (λ g. IsSegInRange g.seg) groups
groups_in_range uses entries groups in_range are each k d within = group_in_range uses entries (get_or groups k d) in_range are (each k d within)

-- ---- the kinds of the entries, group by group

pub judged_none : (uses : List EdgeUse) (entries : List Entry) (kinds : List (Option Kind)) → kinds ≡ [] → AreJudged uses entries 0 kinds
judged_none uses entries kinds e = record { count = ap length e; each = λ k d o h. absurd (omega (arith, h)) }

-- a list is made longer by entries of one kind
pub record AddsMeets (before after : List (Option Kind)) : Type 0 where
  pub longer : length before ≤ length after
  pub kept : (k : ℕ) (o : Option Kind) → k < length before → get_or after k o ≡ get_or before k o
  pub meets : (k : ℕ) (o : Option Kind) → length before ≤ k → k < length after → get_or after k o ≡ Some Meets

pub meets_none : (before : List (Option Kind)) → AddsMeets before before
meets_none before = record { longer = omega arith; kept = λ k o h. refl; meets = λ k o low high. absurd (omega (arith, low, high)) }

pub meets_more : (before after more : List (Option Kind)) → more ≡ after ++ Some Meets ∷ [] → AddsMeets before after → AddsMeets before more
meets_more before after more pushed adds =
    let longer : length before ≤ length after = adds.longer in
    let long : length (after ++ Some Meets ∷ []) ≡ length after + 1 = length_push after (Some Meets) in
    subst (AddsMeets before) (sym pushed)
    (record {
      longer = omega arith;
      kept = λ k o h. get_or_append_left after (Some Meets ∷ []) o k (omega arith) ∙ adds.kept k o h;
      meets = λ k o low high. elim (cases_lt k (length after)) [
        | inl earlier ↦ get_or_append_left after (Some Meets ∷ []) o k earlier ∙ adds.meets k o low earlier
        | inr later ↦ let last : length after ≡ k = omega arith in get_or_push after (Some Meets) o k last
      ];
    })

-- the kinds of a group whose segment is met badly
pub judged_met : (uses : List EdgeUse) (entries : List Entry) (group : Group) (before after : List (Option Kind)) → IsGroup entries group → HasBadContact uses group.seg → length after + group.from ≡ length before + group.to
    → ((k : ℕ) (o : Option Kind) → k < length before → get_or after k o ≡ get_or before k o)
    → ((k : ℕ) (o : Option Kind) → length before ≤ k → k < length after → get_or after k o ≡ Some Meets)
    → AreJudged uses entries group.from before → AreJudged uses entries group.to after
judged_met uses entries group before after is bad long kept meets so_far =
    let count : length before ≡ group.from = so_far.count in
    record {
      count = omega arith;
      each = λ k d o h. elim (cases_lt k group.from) [
        | inl earlier ↦
            subst (λ (kind : Option Kind). IsKindOf uses (use_of (get_or entries k d)) kind) (sym (kept k o (omega arith))) (so_far.each k d o earlier)
        | inr later ↦
            subst (λ (kind : Option Kind). IsKindOf uses (use_of (get_or entries k d)) kind) (sym (meets k o (omega arith) (omega arith)))
            (subst (HasBadContact uses) (sym (is.same k d later h)) bad)
      ];
    }

-- the kinds of a group whose segment nothing meets badly
pub judged_group : (uses : List EdgeUse) (entries : List Entry) (group : Group) (users holders : List ℕ) (before after : List (Option Kind)) → AreSorted uses entries → IsGroup entries group → ¬ HasBadContact uses group.seg
    → AreMembers entries group.from group.to users → AreHolders uses (midpoint group.seg) holders → AddsKinds users holders before after → AreJudged uses entries group.from before → AreJudged uses entries group.to after
judged_group uses entries group users holders before after sorted is good members holders_are adds so_far =
    let count : length before ≡ group.from = so_far.count in
    let long : length after ≡ length before + length users = adds.count in
    let end : group.from + length users ≡ group.to = members.count in
    let are : AreUsers uses group.seg users = users_are uses entries group users sorted.entries_are sorted.together is members in
    record {
      count = omega arith;
      each = λ k d o h. elim (cases_lt k group.from) [
        | inl earlier ↦
            subst (λ (kind : Option Kind). IsKindOf uses (use_of (get_or entries k d)) kind) (sym (adds.kept k o (omega arith))) (so_far.each k d o earlier)
        | inr later ↦
            let j : ℕ = k - group.from in
            let short : j < length users = omega arith in
            let place : group.from + j ≡ k = omega arith in
            let behind : length before + j ≡ k = omega arith in
            let member : get_or users j 0 ≡ (get_or entries k d).member = members.each j 0 d short ∙ ap (λ (n : ℕ). (get_or entries n d).member) place in
            let kind : IsKindOf uses (use_by group.seg (get_or users j 0)) (get_or after (length before + j) o) =
            kind_from_among uses group.seg users holders (get_or users j 0) (get_or after (length before + j) o) sorted.in_range are holders_are good (adds.each j o 0 short) in
            let same : use_by group.seg (get_or users j 0) ≡ use_of (get_or entries k d) = sym (use_is (get_or entries k d) (get_or users j 0) group.seg (sym member) (is.same k d later h)) in
            subst (λ (n : ℕ). IsKindOf uses (use_of (get_or entries k d)) (get_or after n o)) behind
            (subst (λ (u : EdgeUse). IsKindOf uses u (get_or after (length before + j) o)) same kind)
      ];
    }

-- ---- the rest of the groups

-- the first of the groups that are left begins where the others end
pub next_group : (groups : List Group) (k from to : ℕ) (d : Group) → k < length groups → AreGroupsInRow from (drop k groups) to → ((get_or groups k d).from ≡ from) × AreGroupsInRow (get_or groups k d).to (drop (k + 1) groups) to
next_group groups k from to d within row =
    let (at, more, rest) = subst (λ (gs : List Group). AreGroupsInRow from gs to) (drop_more groups k d within) row in
    (at, rest)

pub no_group : (groups : List Group) (k from to : ℕ) → length groups ≤ k → AreGroupsInRow from (drop k groups) to → from ≡ to
no_group groups k from to past row = subst (λ (gs : List Group). AreGroupsInRow from gs to) (drop_all k groups past) row

-- ---- by place

-- the kinds of the first so many entries stand at their places
pub record ArePut (uses : List EdgeUse) (entries : List Entry) (n : ℕ) (table : List (Option Kind)) : Type 0 where
  pub count : length table ≡ length uses
  pub each : (k : ℕ) (d : Entry) (o : Option Kind) → k < n → IsKindOf uses (use_of (get_or entries k d)) (get_or table (get_or entries k d).place o)

pub put_none : (uses : List EdgeUse) (entries : List Entry) (table : List (Option Kind)) → length table ≡ length uses → ArePut uses entries 0 table
put_none uses entries table e = record { count = e; each = λ k d o h. absurd (omega (arith, h)) }

pub put_more : (uses : List EdgeUse) (entries : List Entry) (kinds table : List (Option Kind)) (n : ℕ) (e : Entry) (kind : Option Kind) → AreEntries uses entries → AreJudged uses entries (length entries) kinds → n < length entries
    → e ≡ get_or entries n e → kind ≡ get_or kinds n kind → ArePut uses entries n table → ArePut uses entries (n + 1) (set table e.place kind)
put_more uses entries kinds table n e kind are judged within at read so_far =
    let count : length table ≡ length uses = so_far.count in
    let here : slice_get entries n ≡ Some e = slice_get-get_or entries n e within ∙ ap (λ (d : Entry). Some d) (sym at) in
    let inside : e.place < length uses = slice_get_within uses e.place (use_of e) (entry_at uses entries n e are here) in
    record {
      count = length-set table e.place kind ∙ count;
      each = λ k d o h. elim (cases_lt k n) [
        | inl earlier ↦
            let there : slice_get entries k ≡ Some (get_or entries k d) = slice_get-get_or entries k d (omega arith) in
            let apart : ¬ ((get_or entries k d).place ≡ e.place) = places_apart uses entries k n (get_or entries k d) e are there here earlier in
            subst (λ (q : Option Kind). IsKindOf uses (use_of (get_or entries k d)) q) (sym (get_or-set_other table e.place (get_or entries k d).place kind o apart)) (so_far.each k d o earlier)
        | inr later ↦
            let last : k ≡ n = omega arith in
            let same : get_or entries k d ≡ e = ap (λ (m : ℕ). get_or entries m d) last ∙ (get_or_default entries n d e within ∙ sym at) in
            let put : get_or (set table e.place kind) e.place o ≡ get_or kinds n kind = get_or-set_same table e.place kind o (omega arith) ∙ read in
            let own : IsKindOf uses (use_of e) (get_or (set table e.place kind) e.place o) =
            subst (λ (q : Option Kind). IsKindOf uses (use_of e) q) (sym put) (subst (λ (f : Entry). IsKindOf uses (use_of f) (get_or kinds n kind)) (sym at) (judged.each n e kind within)) in
            subst (λ (f : Entry). IsKindOf uses (use_of f) (get_or (set table e.place kind) f.place o)) (sym same) own
      ];
    }

pub put_all : (uses : List EdgeUse) (entries : List Entry) (n : ℕ) (table : List (Option Kind)) → AreEntries uses entries → length entries ≤ n → ArePut uses entries n table → AreKinds uses table
put_all uses entries n table are past put = record {
  count = put.count;
  each = λ k d o h.
      let u : EdgeUse = get_or uses k d in
      let entry = entry_of uses entries k u are (slice_get-get_or uses k d h) in
      let e : Entry = entry.entry in
      let read : get_or entries entry.number e ≡ e = get_or_from_slice_get entries entry.number e e entry.at in
      let kind : IsKindOf uses (use_of e) (get_or table e.place o) =
      subst (λ (f : Entry). IsKindOf uses (use_of f) (get_or table f.place o)) read (put.each entry.number e o (omega (arith, entry.within, past))) in
      subst (λ (m : ℕ). IsKindOf uses u (get_or table m o)) entry.place (subst (λ (v : EdgeUse). IsKindOf uses v (get_or table e.place o)) entry.stands kind);
}
