-- Groups of entries, one after the other.
use Rattle.std.proofs.Common.{◌≡◌, refl, sym, ◌∙◌, subst, ℕ, ◌<◌, ◌≤◌, List, [], ◌∷◌, ◌++◌, length, get_or, All, arith, inl, inr}
use Rattle.std.proofs.lemmas.Bool.{cases_lt}
use Rattle.std.proofs.lemmas.List.Elements.{All-nil, All-push}
use Rattle.cov_valid.specs.Entries.{AreTogether}
use Rattle.cov_valid.specs.Groups.{IsGroup, AreGroupsInRow}
use Rattle.cov_valid.specs.declared.entry.Entry.{Entry}
use Rattle.cov_valid.specs.declared.group.Group.{Group}

-- the groups of the entries before a place, where a segment ends
pub record AreGroupsTo (entries : List Entry) (groups : List Group) (to : ℕ) : Type 0 where
  pub within : to ≤ length entries
  pub each : All (IsGroup entries) groups
  pub in_row : AreGroupsInRow 0 groups to
  pub ends : (k : ℕ) (d : Entry) → k < to → to < length entries → ¬ ((get_or entries k d).seg ≡ (get_or entries to d).seg)

-- the entries from one place to before another have one segment, which the next has not
pub record IsStretch (entries : List Entry) (from to : ℕ) : Type 0 where
  pub some : from < to
  pub within : to ≤ length entries
  pub same : (k : ℕ) (d : Entry) → from ≤ k → k < to → (get_or entries k d).seg ≡ (get_or entries from d).seg
  pub ends : (d : Entry) → to < length entries → ¬ ((get_or entries to d).seg ≡ (get_or entries from d).seg)

pub groups_none : (entries : List Entry) (groups : List Group) → groups ≡ [] → AreGroupsTo entries groups 0
groups_none entries groups e = record {
  within = omega arith;
  each = subst (λ (gs : List Group). All (IsGroup entries) gs) (sym e) (All-nil (IsGroup entries));
  in_row = subst (λ (gs : List Group). AreGroupsInRow 0 gs 0) (sym e) refl;
  ends = λ k d h. absurd (omega (arith, h));
}

row_more : (from : ℕ) (groups : List Group) (group : Group) (to : ℕ) → AreGroupsInRow from groups group.from → group.from < group.to → AreGroupsInRow from (groups ++ group ∷ []) group.to
row_more from [] group to row some = (sym row, omega (arith, row, some), refl)
row_more from (g ∷ groups) group to row some = let (at, more, rest) = row in (at, more, row_more g.to groups group to rest some)

stretch_is_group : (entries : List Entry) (group : Group) → AreTogether entries → IsStretch entries group.from group.to → ((d : Entry) → (get_or entries group.from d).seg ≡ group.seg)
    → ((k : ℕ) (d : Entry) → k < group.from → ¬ ((get_or entries k d).seg ≡ (get_or entries group.from d).seg)) → IsGroup entries group
stretch_is_group entries group together stretch first begins = record {
  some = stretch.some;
  within = stretch.within;
  same = λ k d low high. stretch.same k d low high ∙ first d;
  whole = λ k d within same. (
    (elim (cases_lt k group.from) [
      | inl before ↦ absurd (begins k d before (same ∙ sym (first d)))
      | inr from ↦ from
    ]),
    (elim (cases_lt k group.to) [
      | inl inside ↦ inside
      | inr past ↦ absurd (stretch.ends d (omega (arith, past, within)) (together.between group.from group.to k d (omega (arith, stretch.some)) past within (first d ∙ sym same)))
    ]),
  );
}

-- one group more
pub groups_more : (entries : List Entry) (groups more : List Group) (group : Group) → AreTogether entries → IsStretch entries group.from group.to → ((d : Entry) → (get_or entries group.from d).seg ≡ group.seg)
    → more ≡ groups ++ group ∷ [] → AreGroupsTo entries groups group.from → AreGroupsTo entries more group.to
groups_more entries groups more group together stretch first pushed before =
    let inside : group.from < length entries = omega (arith, stretch.some, stretch.within) in
    let one = stretch_is_group entries group together stretch first (λ k d h. before.ends k d h inside) in
    subst (λ (gs : List Group). AreGroupsTo entries gs group.to) (sym pushed)
    (record {
      within = stretch.within;
      each = All-push (IsGroup entries) groups group before.each one;
      in_row = row_more 0 groups group group.to before.in_row stretch.some;
      ends = λ k d h next same. elim (cases_lt k group.from) [
        | inl earlier ↦ before.ends k d earlier inside (sym (together.between k group.from group.to d (omega (arith, earlier)) (omega (arith, stretch.some)) next same))
        | inr later ↦ stretch.ends d next (sym same ∙ stretch.same k d later h)
      ];
    })
