-- The order of the sides makes no difference to their lengths.
use Rattle.std.proofs.Common.{◌≡◌, sym, ◌∙◌, subst, ℕ, ◌<◌, ◌^◌, List}
use Rattle.std.specs.Prelude.{All}
use Rattle.std.specs.List.Sorted.{IsNonDecreasingBy}
use Rattle.std.proofs.lemmas.List.Sorted.{All-permutation, sum_by-IsPermutation}
use Rattle.std.proofs.lemmas.Result.{IfOk-weaker}
use Rattle.owner_label.specs.OwnedSides.{length_by, owned_length}
use Rattle.owner_label.specs.declared.owned_side.OwnedSide.{OwnedSide}
use Rattle.cov_clean.specs.Runs.{AreRuns}
use Rattle.cov_clean.proofs.runs.runs_by_member.Goals as goal

pub runs_of-requires-clause-ascending : goal.runs_of-requires-clause-ascending
runs_of-requires-clause-ascending c = subst (λ (ss : List OwnedSide). IsNonDecreasingBy (λ (s : OwnedSide). s.member) ss) (sym c.deref.ensures.value) c.sorted_by_member-sorted.ensures.ascending

pub runs_of-requires-clause-long : goal.runs_of-requires-clause-long
runs_of-requires-clause-long c =
    subst (λ (ss : List OwnedSide). All (λ (s : OwnedSide). 0 < s.length) ss) (sym c.deref.ensures.value) (All-permutation (λ (s : OwnedSide). 0 < s.length) c.args.sides.items c.sorted_by_member-sorted.result.items c.sorted_by_member-sorted.ensures.all c.requires.long)

pub runs_of-requires-clause-short : goal.runs_of-requires-clause-short
runs_of-requires-clause-short c =
    subst (λ (ss : List OwnedSide). All (λ (s : OwnedSide). s.length < 2 ^ 64) ss) (sym c.deref.ensures.value) (All-permutation (λ (s : OwnedSide). s.length < 2 ^ 64) c.args.sides.items c.sorted_by_member-sorted.result.items c.sorted_by_member-sorted.ensures.all c.requires.short)

pub returns : goal.returns
returns c =
    let same : (i : ℕ) → owned_length c.deref.result.now i ≡ owned_length c.args.sides.items i = λ i.
    ((λ j. owned_length (c.deref.ensures.value j) i) ∙ sum_by-IsPermutation (length_by i) c.args.sides.items c.sorted_by_member-sorted.result.items c.sorted_by_member-sorted.ensures.all) in
    IfOk-weaker c.runs_of.result _ _ (λ runs are. subst (λ (f : ℕ → ℕ). AreRuns f runs.items) (λ j i. same i j) are) c.runs_of.ensures
