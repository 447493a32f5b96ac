use Rattle.std.proofs.Common.{sym, ◌∙◌, ap, ◌++◌, subst, cond, [], ◌∷◌, Option, length, ◌<◌, set}
use Rattle.std.specs.Prelude.{IfSome}
use Rattle.std.specs.Global.{Vec}
use Rattle.cov_build.specs.declared.boundary.BoundaryEdge.{BoundaryEdge}
use Rattle.cov_build.specs.Boundaries.{AreAdded}
use Rattle.cov_build.specs.Parted.{is_part}
use Rattle.cov_build.specs.declared.part.Part.{Part}
use Rattle.cov_build.proofs.BoundaryLists.{added-at}
use Rattle.cov_build.proofs.boundary.add_to.Goals as goal

pub returns-in_ok-push : goal.returns-in_ok-push
returns-in_ok-push c =
    let part = c.in-Some.part in
    let within : part.least < length c.args.lists.now = subst (λ (q : Option Part). IfSome q (λ p. p.least < length c.args.lists.now)) c.in-Some.is c.requires in
    subst (λ (q : Option Part). AreAdded (λ p. cond (is_part q p) (c.args.edge ∷ []) []) c.args.lists.now (set c.args.lists.now part.least c.push.new.self)) (sym c.in-Some.is)
    (added-at c.args.edge c.args.lists.now part c.index-lists-part.result c.push.new.self within c.index-lists-part.is
    (c.in_ok-push.ensures.items ∙ ap (λ (v : Vec BoundaryEdge). v.items ++ c.args.edge ∷ []) (sym c.index-lists-part.is)))
