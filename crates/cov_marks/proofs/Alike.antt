-- Lists of marks by two readings of their kinds, which say the same of each use.
use Rattle.std.proofs.Common.{List}
use Rattle.std.specs.Prelude.{Contains, ◌↔◌}
use Rattle.std.proofs.lemmas.Option.{slice_get_within, get_or_from_slice_get}
use Rattle.cov_types.specs.declared.edge_use.EdgeUse.{EdgeUse}
use Rattle.cov_valid.specs.Marks.{IsMarkBy, AreMarksBy}
use Rattle.cov_valid.specs.declared.mark.Kind.{Kind}
use Rattle.cov_valid.specs.declared.mark.Mark.{Mark}

module _ (of by : EdgeUse → Kind → Type 0) (uses : List EdgeUse) (alike : (u : EdgeUse) → Contains uses u → (kind : Kind) → of u kind ↔ by u kind) where
  marked : (m : Mark) (u : IsMarkBy of uses m) → Contains uses u.marked
  marked m u = (m.place, slice_get_within uses m.place u.marked u.at_place, get_or_from_slice_get uses m.place u.marked u.marked u.at_place)

  marked_too : (m : Mark) (u : IsMarkBy by uses m) → Contains uses u.marked
  marked_too m u = (m.place, slice_get_within uses m.place u.marked u.at_place, get_or_from_slice_get uses m.place u.marked u.marked u.at_place)

  pub marks_alike : (marks : List Mark) → AreMarksBy of uses marks → AreMarksBy by uses marks
  marks_alike marks are = record {
    in_order = are.in_order;
    exact = λ m. (
      (λ has. (let u = (are.exact m).0 has in record { marked = u.marked; at_place = u.at_place; member = u.member; kind = (alike u.marked (marked m u) m.kind).0 u.kind })),
      (λ u. (are.exact m).1 (record { marked = u.marked; at_place = u.at_place; member = u.member; kind = (alike u.marked (marked_too m u) m.kind).1 u.kind })),
    );
  }
