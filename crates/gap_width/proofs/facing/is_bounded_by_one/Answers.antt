use mir.Syntax.{w64}
use Rattle.std.proofs.Common.{refl, sym, subst, ◌^◌, lit<, to_z, of_z}
use Rattle.clearance_laws.specs.Facing.{IsLeastDepth}
use Rattle.grid_pred.proofs.Small.{read_within}
use Rattle.gap_width.specs.Facing.{front_side}
use Rattle.gap_width.proofs.Depths.{shallow_at}
use Rattle.gap_width.proofs.facing.is_bounded_by_one.Goals as goal

pub returns-then-is_block_beside : goal.returns-then-is_block_beside
returns-then-is_block_beside c = λ t.
    let o = c.args.only in
    let s = c.args.block in
    let m = c.least_depth.result in
    record {
      edge = o;
      only = refl;
      depth = to_z w64 (of_z w64 m);
      least = subst (λ z. IsLeastDepth c.args.room o.edge z) (sym (read_within w64 m (2 ^ 62) (lit< tt) c.least_depth.ensures.small)) c.least_depth.ensures.least;
      shallow = shallow_at s.lo s.hi (front_side o) o.edge (to_z w64 (of_z w64 m)) (c.is_block_beside.ensures c.if-is_block_beside.true) (c.is_block_shallow.ensures t);
    }
