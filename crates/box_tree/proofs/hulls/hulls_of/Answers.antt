use Rattle.std.proofs.Common.{◌≡◌, List, [], length, subst, append-nil, arith}
use Rattle.std.proofs.lemmas.Bool.Decides.{nat_tests}
use Rattle.std.proofs.lemmas.List.{nil_from_length}
use Rattle.box_tree.specs.Hulls.{AreHulls}
use Rattle.box_tree.specs.declared.rect.Rect.{Rect}
use Rattle.box_tree.proofs.hulls.hulls_of.Goals as goal

pub returns : goal.returns
returns c =
    let none : length c.loop-rest.rest.now ≡ 0 = grind (arith, nat_tests) in
    subst (λ (hs : List Rect). AreHulls hs c.args.boxes.now) (append-nil c.loop-rest.hulls.items) (c.loop-rest.invariant [] (nil_from_length c.loop-rest.rest.now none))
