use Rattle.std.proofs.Common.{List, ap, ◌∙◌, ◌≡◌, subst, ℕ}
use Rattle.std.proofs.lemmas.Result.{IfOk-weaker}
use Rattle.box_tree.specs.Places.{places}
use Rattle.box_tree.specs.Rect.{is_touching}
use Rattle.box_tree.specs.declared.rect.Rect.{Rect}
use Rattle.cov_types.specs.declared.edge_use.EdgeUse.{EdgeUse}
use Rattle.hot_pixel.specs.Columns.{columns_of, places_in_columns}
use Rattle.hot_pixel.proofs.InColumns.{columns_found}
use Rattle.hot_pixel.proofs.columns.Columns.near.Goals as goal

pub returns : goal.returns
returns c =
    IfOk-weaker c.meeting.result _ _
    (λ found e.
    e ∙ ap (λ (r : Rect). places (is_touching r) 0 c.self.inside.tree) c.columns_of.ensures ∙ ap (places (is_touching (columns_of c.args.s)) 0) c.self.invariant.1 ∙ columns_found c.args.s c.self.inside.list.items 0 c.self.invariant.0
    ∙ ap (places_in_columns c.args.s 0) c.self.view_is) c.meeting.ensures
