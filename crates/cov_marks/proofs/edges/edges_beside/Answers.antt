-- One edge more.
use Rattle.std.proofs.Common.{◌≡◌, ◌∙◌, ◌+◌, ◌++◌, ◌∷◌, [], sym, ap, subst, ℕ, List, Some, Vec, Global, inl, inr, true≢false}
use Rattle.std.specs.Prelude.{slice_get}
use Rattle.std.proofs.lemmas.Option.{slice_get-get_or}
use Rattle.cov_types.specs.declared.seg.Seg.{Seg}
use Rattle.plane.specs.Region.{AreRegions}
use Rattle.cov_marks.proofs.Beside.{AreBesideBefore, IsAscendingTo, ascending_same, ascending_more, beside_same, beside_more, beside_all}
use Rattle.cov_marks.proofs.edges.edges_beside.Goals.{then-is_beside+in_ok-push, else-is_beside}
use Rattle.cov_marks.proofs.edges.edges_beside.Goals as goal

pub loop-k-preserved : goal.loop-k-preserved
loop-k-preserved c =
    let edges : List Seg = c.args.edges.now in
    let regions : List ℕ = c.args.regions.now in
    let k = c.loop-k.k in
    let e : Seg = c.index-edges-k.result in
    let at : slice_get edges k ≡ Some e = slice_get-get_or edges k e c.loop-k-test.true ∙ ap (λ (s : Seg). Some s) (sym c.index-edges-k.is) in
    let before : List Seg = c.loop-k.beside.items in
    let inv = c.loop-k.invariant in
    let told = λ (numbers : List ℕ) (are : AreRegions edges numbers). c.is_beside.ensures numbers (subst (λ (es : List Seg). AreRegions es numbers) (sym c.requires.walked) are) in
    elim c.if-is_beside.branch [
      | then-is_beside+in_ok-push w ↦
          let pushed : c.if-is_beside.beside.items ≡ before ++ e ∷ [] = ap (λ (v : Vec Seg Global). v.items) w.beside-is ∙ w.in_ok-push.ensures.items in
          record {
            ascending = subst (IsAscendingTo edges (k + 1)) (sym pushed) (ascending_more edges k e at before c.requires.edges inv.ascending);
            exact = λ numbers are. subst (AreBesideBefore edges numbers regions (k + 1)) (sym pushed) (beside_more edges k e at before numbers regions (inv.exact numbers are) ((told numbers are).0 w.if-is_beside.true));
          }
      | else-is_beside w ↦
          let same : c.if-is_beside.beside.items ≡ before = ap (λ (v : Vec Seg Global). v.items) w.beside-is in
          record {
            ascending = subst (IsAscendingTo edges (k + 1)) (sym same) (ascending_same edges k e at before inv.ascending);
            exact = λ numbers are. subst (AreBesideBefore edges numbers regions (k + 1)) (sym same) (beside_same edges k e at before numbers regions (inv.exact numbers are)
                (λ up. true≢false (sym ((told numbers are).1 (inl up)) ∙ w.if-is_beside.false)) (λ down. true≢false (sym ((told numbers are).1 (inr down)) ∙ w.if-is_beside.false)));
          }
    ]

pub returns-clause-ascending : goal.returns-clause-ascending
returns-clause-ascending c = c.loop-k.invariant.ascending.ascending

pub returns-clause-exact : goal.returns-clause-exact
returns-clause-exact c = λ numbers are s. beside_all c.args.edges.now numbers c.args.regions.now c.loop-k.k c.loop-k.beside.items c.loop-k-test.false (c.loop-k.invariant.exact numbers are) s
