use Rattle.std.proofs.Common.{◌≡◌, ℕ, ◌<◌, ◌≤◌, All, List, [], ◌++◌, refl, flat_map, length, get_or, take, sym, ap, ap₂, ◌∙◌, subst, zero-add, arith}
use Rattle.std.proofs.lemmas.List.{take_all}
use Rattle.std.proofs.lemmas.List.FromFn.{get_or-enumerate_from, length-enumerate_from}
use Rattle.std.specs.List.{enumerate_from}
use Rattle.cov_types.proofs.Added.{used, adds-part, rings_used}
use Rattle.cov_types.proofs.AllUses.{uses-in_range, uses-members}
use Rattle.std.specs.Prelude.{AllPairs}
use Rattle.cov_types.proofs.Ascending.{ascending}
use Rattle.cov_types.proofs.Runs.{in_row, rounds, starts-length}
use Rattle.cov_types.proofs.outline.Outline.build.Goals as goal
use Rattle.cov_types.specs.Range.{IsSegInRange}
use Rattle.cov_types.specs.Rings.{member_rings, rings_of, starts_of, runs_of, runs_from, AreInRow, IsRing, Adds}
use Rattle.cov_types.specs.declared.coord.Coord.{Coord}
use Rattle.cov_types.specs.declared.edge_use.EdgeUse.{EdgeUse}
use Rattle.cov_types.specs.declared.outline.Outline.{Outline}
use Rattle.cov_types.specs.declared.ring_run.RingRun.{RingRun}

pub loop-number-preserved : goal.loop-number-preserved
loop-number-preserved c =
    let members = c.args.c.now in
    let i = c.loop-number.number in
    let member = c.member-item.result in
    let same : c.deref-member-items.result.now ≡ members = c.deref-member-items.ensures.value ∙ c.c.view_is in
    let inside : i < length members = omega (arith, ap length same) in
    let within : i < length (enumerate_from 0 members) = omega (arith, length-enumerate_from 0 members) in
    let read : get_or members i member ≡ member = sym (c.member-item.is ∙ ap (λ (l : List (List (List (List Coord)))). get_or l i member) same) in
    let at : get_or (enumerate_from 0 members) i (i, member) ≡ (i, member) =
    get_or-enumerate_from 0 members i (i, member) inside ∙ ap₂ (λ (n : ℕ) (y : List (List (List Coord))). (n, y)) (zero-add i) read in
    adds-part member_rings _ c.loop-number.outline c.add_member.new.outline (enumerate_from 0 members) i (i, member) within at c.loop-number.invariant c.in_ok-add_member.ensures

-- what the loop has made of an outline of nothing, at its end
adds_all : (members shown : List (List (List (List Coord)))) (i : ℕ) (before after : Outline) → shown ≡ members → length shown ≤ i
    → Adds before after (flat_map member_rings (take i (enumerate_from 0 members))) → Adds before after (rings_of members)
adds_all members shown i before after same past h =
    subst (λ (l : List (ℕ × List (List (List Coord)))). Adds before after (flat_map member_rings l)) (take_all i (enumerate_from 0 members) (omega (arith, length-enumerate_from 0 members, ap length same))) h

pub returns-clause-uses : goal.returns-clause-uses
returns-clause-uses c =
    let same : c.deref-member-items.result.now ≡ c.args.c.now = c.deref-member-items.ensures.value ∙ c.c.view_is in
    let all = adds_all c.args.c.now _ c.loop-number.number _ c.loop-number.outline same c.loop-number-test.false c.loop-number.invariant in
    all.uses ∙ ap (λ (l : List EdgeUse). l ++ flat_map used (rings_of c.args.c.now)) c.new.ensures.items ∙ rings_used c.args.c.now

pub returns-clause-starts : goal.returns-clause-starts
returns-clause-starts c =
    let same : c.deref-member-items.result.now ≡ c.args.c.now = c.deref-member-items.ensures.value ∙ c.c.view_is in
    let all = adds_all c.args.c.now _ c.loop-number.number _ c.loop-number.outline same c.loop-number-test.false c.loop-number.invariant in
    all.starts ∙ ap (λ (l : List Coord). l ++ starts_of c.args.c.now) c.new-2.ensures.items

pub returns-clause-rings : goal.returns-clause-rings
returns-clause-rings c =
    let same : c.deref-member-items.result.now ≡ c.args.c.now = c.deref-member-items.ensures.value ∙ c.c.view_is in
    let all = adds_all c.args.c.now _ c.loop-number.number _ c.loop-number.outline same c.loop-number-test.false c.loop-number.invariant in
    all.rings ∙ (λ i. c.new-3.ensures.items i ++ runs_from (length (c.new.ensures.items i)) (rings_of c.args.c.now))

pub returns-clause-in_range : goal.returns-clause-in_range
returns-clause-in_range c =
    subst (λ (uses : List EdgeUse). All (λ u. IsSegInRange u.seg) uses) (sym (returns-clause-uses c)) (uses-in_range c.args.c.now c.requires)

pub returns-clause-members : goal.returns-clause-members
returns-clause-members c =
    subst (λ (uses : List EdgeUse). All (λ u. u.member < length c.args.c.now) uses) (sym (returns-clause-uses c)) (uses-members c.args.c.now)

pub returns-clause-starts_end : goal.returns-clause-starts_end
returns-clause-starts_end c =
    ap length (returns-clause-starts c) ∙ starts-length (rings_of c.args.c.now) ∙ sym (ap length (returns-clause-uses c ∙ sym (rings_used c.args.c.now)))

pub returns-clause-in_row : goal.returns-clause-in_row
returns-clause-in_row c =
    let uses = returns-clause-uses c ∙ sym (rings_used c.args.c.now) in
    subst (λ (runs : List RingRun). AreInRow 0 runs (length c.loop-number.outline.uses.items)) (sym (returns-clause-rings c))
    (subst (AreInRow 0 (runs_of c.args.c.now)) (zero-add (length (flat_map used (rings_of c.args.c.now))) ∙ sym (ap length uses)) (in_row 0 (rings_of c.args.c.now)))

pub returns-clause-round : goal.returns-clause-round
returns-clause-round c =
    let uses = returns-clause-uses c ∙ sym (rings_used c.args.c.now) in
    subst (λ (runs : List RingRun). All (IsRing c.loop-number.outline.uses.items c.loop-number.outline.starts.items) runs) (sym (returns-clause-rings c))
    (subst (λ (us : List EdgeUse). All (IsRing us c.loop-number.outline.starts.items) (runs_of c.args.c.now)) (sym uses)
    (subst (λ (ss : List Coord). All (IsRing (flat_map used (rings_of c.args.c.now)) ss) (runs_of c.args.c.now)) (sym (returns-clause-starts c))
    (rounds (rings_of c.args.c.now) [] [] refl)))

pub returns-clause-ascending : goal.returns-clause-ascending
returns-clause-ascending c =
    subst (λ (runs : List RingRun). AllPairs (λ (r s : RingRun). r.member ≤ s.member) runs) (sym (returns-clause-rings c)) (ascending c.args.c.now)
