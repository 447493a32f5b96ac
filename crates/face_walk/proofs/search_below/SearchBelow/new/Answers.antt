use Rattle.std.proofs.Common.{refl, negsuc}
use Rattle.face_walk.proofs.Searching.{floor_none}
use Rattle.face_walk.proofs.search_below.SearchBelow.new.Goals as goal

pub returns-clause-so_far : goal.returns-clause-so_far
returns-clause-so_far g c = record {
  in_range = c.requires.in_range;
  candidate = tt;
  floor = floor_none c.args.edges.now c.args.point (negsuc 268435455) c.requires.planar refl;
}
