-- A region that is not outer is a part.
use mathlib.Core.List.{[]}
use Rattle.std.proofs.Common.{ℕ, Bool, List}
use Rattle.cov_types.specs.declared.seg.Seg.{Seg}
use Rattle.plane.specs.Region.{IsOuterRegion}
use Rattle.crossing_laws.proofs.Located.{same_region}
use Rattle.sector_laws.specs.Sector.{HalfEdge, left, AreDistinct, IsPlanar}
use Rattle.region_laws.proofs.Exists.{regions_exist}
use Rattle.region_owners.proofs.OwnEdges.{passes, passes_own, own_passes, region_test}
use Rattle.shell_laws.specs.Laws.{TellsRegion}

pub region_part : (edges : List Seg) → IsPlanar edges → AreDistinct edges → (r : ℕ) → ¬ IsOuterRegion edges r → (test : HalfEdge → Bool) × TellsRegion edges r test
region_part edges planar distinct r inner =
    let some = regions_exist edges planar distinct in
    let sides = region_test edges planar distinct r inner some.0 some.1 in
    let own = passes_own edges planar distinct r inner some.0 some.1 in (
      passes edges planar distinct r inner some.0 some.1,
      record {
        part = record {
          same = sides.same;
          outside = sides.outside;
          connected = λ h g in_h in_g pass_h pass_g. ([], same_region edges (left h) (left g) r (own h in_h pass_h) (own g in_g pass_g));
        };
        is = λ h has. (own h has, own_passes edges planar distinct r inner some.0 some.1 h has);
      },
    )
