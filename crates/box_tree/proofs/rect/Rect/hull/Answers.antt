use Rattle.std.proofs.Common.{FitsSigned, rules}
use Rattle.std.proofs.lemmas.Int.{to_z-of_z}
use mir.Syntax.{w32}
use Rattle.box_tree.proofs.rect.Rect.hull.Goals as goal

pub returns-clause-has_self : goal.returns-clause-has_self
returns-clause-has_self c =
    let a1 : FitsSigned w32 c.args.self.lo.x = search rules in
    let a2 : FitsSigned w32 c.args.self.lo.y = search rules in
    let a3 : FitsSigned w32 c.args.self.hi.x = search rules in
    let a4 : FitsSigned w32 c.args.self.hi.y = search rules in
    let r1 : FitsSigned w32 c.lesser.result = search rules in
    let r2 : FitsSigned w32 c.lesser-2.result = search rules in
    let r3 : FitsSigned w32 c.greater.result = search rules in
    let r4 : FitsSigned w32 c.greater-2.result = search rules in
    record {
      left = simp to_z-of_z (simp to_z-of_z at c.lesser.ensures.first);
      right = simp to_z-of_z (simp to_z-of_z at c.greater.ensures.first);
      bottom = simp to_z-of_z (simp to_z-of_z at c.lesser-2.ensures.first);
      top = simp to_z-of_z (simp to_z-of_z at c.greater-2.ensures.first);
    }

pub returns-clause-has_other : goal.returns-clause-has_other
returns-clause-has_other c =
    let a1 : FitsSigned w32 c.args.other.lo.x = search rules in
    let a2 : FitsSigned w32 c.args.other.lo.y = search rules in
    let a3 : FitsSigned w32 c.args.other.hi.x = search rules in
    let a4 : FitsSigned w32 c.args.other.hi.y = search rules in
    let r1 : FitsSigned w32 c.lesser.result = search rules in
    let r2 : FitsSigned w32 c.lesser-2.result = search rules in
    let r3 : FitsSigned w32 c.greater.result = search rules in
    let r4 : FitsSigned w32 c.greater-2.result = search rules in
    record {
      left = simp to_z-of_z (simp to_z-of_z at c.lesser.ensures.second);
      right = simp to_z-of_z (simp to_z-of_z at c.greater.ensures.second);
      bottom = simp to_z-of_z (simp to_z-of_z at c.lesser-2.ensures.second);
      top = simp to_z-of_z (simp to_z-of_z at c.greater-2.ensures.second);
    }

pub returns-clause-least : goal.returns-clause-least
returns-clause-least c b h k =
    let a1 : FitsSigned w32 c.args.self.lo.x = search rules in
    let a2 : FitsSigned w32 c.args.self.lo.y = search rules in
    let a3 : FitsSigned w32 c.args.self.hi.x = search rules in
    let a4 : FitsSigned w32 c.args.self.hi.y = search rules in
    let b1 : FitsSigned w32 c.args.other.lo.x = search rules in
    let b2 : FitsSigned w32 c.args.other.lo.y = search rules in
    let b3 : FitsSigned w32 c.args.other.hi.x = search rules in
    let b4 : FitsSigned w32 c.args.other.hi.y = search rules in
    let r1 : FitsSigned w32 c.lesser.result = search rules in
    let r2 : FitsSigned w32 c.lesser-2.result = search rules in
    let r3 : FitsSigned w32 c.greater.result = search rules in
    let r4 : FitsSigned w32 c.greater-2.result = search rules in
    let left = simp to_z-of_z at c.lesser.ensures.greatest in
    let right = simp to_z-of_z at c.greater.ensures.least in
    let bottom = simp to_z-of_z at c.lesser-2.ensures.greatest in
    let top = simp to_z-of_z at c.greater-2.ensures.least in
    record {
      left = simp to_z-of_z (left b.lo.x h.left k.left);
      right = simp to_z-of_z (right b.hi.x h.right k.right);
      bottom = simp to_z-of_z (bottom b.lo.y h.bottom k.bottom);
      top = simp to_z-of_z (top b.hi.y h.top k.top);
    }
