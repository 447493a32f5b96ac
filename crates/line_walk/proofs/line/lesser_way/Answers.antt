use Rattle.std.proofs.Common.{◌≡◌, ◌∙◌, ap, sym}
use Rattle.std.specs.Prelude.{reverse}
use Rattle.std.specs.Ordering.{is_le}
use Rattle.line_walk.proofs.LesserWays.{same_lesser, turned_lesser}
use Rattle.line_walk.proofs.line.lesser_way.Goals as goal

pub returns-then-is_le : goal.returns-then-is_le
returns-then-is_le c =
    let is : c.reverse.new.self.items ≡ reverse c.args.points.items = c.reverse.ensures.items ∙ ap reverse (c.in_ok-turned.ensures.items ∙ c.deref.ensures.value) in
    same_lesser c.args.points.items c.reverse.new.self.items is (ap is_le (sym c.cmp.ensures) ∙ sym c.is_le.ensures ∙ c.if-is_le.true)

pub returns-else-is_le : goal.returns-else-is_le
returns-else-is_le c =
    let is : c.reverse.new.self.items ≡ reverse c.args.points.items = c.reverse.ensures.items ∙ ap reverse (c.in_ok-turned.ensures.items ∙ c.deref.ensures.value) in
    turned_lesser c.args.points.items c.reverse.new.self.items is (ap is_le (sym c.cmp.ensures) ∙ sym c.is_le.ensures ∙ c.if-is_le.false)
