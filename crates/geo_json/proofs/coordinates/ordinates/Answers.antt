use Rattle.std.proofs.Common.{◌≡◌, ◌∙◌, sym, rules, [], ◌∷◌}
use Rattle.serde_json.specs.Find.{as_number}
use Rattle.serde_json.specs.View.{number_view}
use Rattle.geo_json.specs.Reading.{point_of}
use Rattle.geo_json.specs.Noting.{placed, noting_numbers}
use Rattle.geo_json.proofs.Taking.{taken_more, not_taken}
use Rattle.geo_json.proofs.Notes.{numbers_more, noting_number}
use Rattle.geo_json.proofs.Points.{ordinate, number_placed}
use Rattle.geo_json.proofs.coordinates.ordinates.Goals as goal

pub returns-in_err-as_number : goal.returns-in_err-as_number
returns-in_err-as_number c =
    rw c.from_residual.ensures (not_taken as_number c.args.list.now c.loop-i.i c.index-list-i.result c.loop-i-test.true c.index-list-i.is (sym c.in_err-as_number.ensures))

pub loop-i-preserved : goal.loop-i-preserved
loop-i-preserved c =
    let given : c.placed-point.result ≡ placed c.loop-i.point c.loop-i.i c.take_number-number.result = search rules in
    taken_more as_number point_of ordinate noting_numbers (λ n f. noting_numbers (n ∷ []) f) numbers_more c.args.list.now c.loop-i.i c.index-list-i.result
    c.args.noted.now c.loop-i.noted c.take_number-number.new.self c.loop-i.point c.take_number-number.result c.placed-point.result
    (number_placed c.loop-i.point c.loop-i.i c.take_number-number.result c.placed-point.result given)
    c.loop-i-test.true c.index-list-i.is c.loop-i.invariant
    (record {
      item = number_view c.in_ok-as_number.field-0.now;
      read = sym c.in_ok-as_number.ensures;
      value = c.take_number-number.ensures.value;
      noted = c.take_number-number.ensures.noted ∙ noting_number (number_view c.in_ok-as_number.field-0.now) c.loop-i.noted;
    })
