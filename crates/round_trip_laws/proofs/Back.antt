-- What is written of a formed coverage is read back.
use Rattle.std.proofs.Common.{List, sym}
use Rattle.std.specs.List.{AllByRecursion}
use Rattle.std.proofs.lemmas.List.Elements.{recursion_from_All, All-from_recursion}
use Rattle.cov_types.specs.Coverage.{IsFormed, IsMemberFormed, IsPolyFormed, IsRingFormed, IsMemberInRange, IsPolyInRange, IsRingInRange}
use Rattle.cov_types.specs.Range.{IsInRange}
use Rattle.cov_types.specs.declared.coord.Coord.{Coord}
use Rattle.geo_text.specs.Reading.{coverage}
use Rattle.geo_text.specs.Fault.{rings, numbers, IsNumberFine, IsRingFine}
use Rattle.geo_text.proofs.Verdicts.{IsClean, clean_answer, ok_faultless}
use Rattle.cov_write.specs.Written.{coverage_text}
use Rattle.round_trip_laws.specs.Laws.{IsReadBack}
use Rattle.round_trip_laws.proofs.Lists.{all_both}
use Rattle.round_trip_laws.proofs.Tree.{coverage_at}
use Rattle.round_trip_laws.proofs.Spelled.{IsGoodRing, IsGoodPolygon, IsGoodMember, coverage_spelled}
use Rattle.round_trip_laws.proofs.Conditions.{coverage_read, all_numeric, all_fine}

ring_good : (points : List Coord) → IsRingFormed points → IsRingInRange points → IsGoodRing points
ring_good points formed in_range = record { long = formed; in_range = recursion_from_All IsInRange points in_range }

polygon_good : (polygon : List (List Coord)) → IsPolyFormed polygon → IsPolyInRange polygon → IsGoodPolygon polygon
polygon_good polygon formed in_range = record {
  some_ring = formed.0;
  rings_good = all_both IsRingFormed IsRingInRange IsGoodRing ring_good polygon (recursion_from_All IsRingFormed polygon formed.1) (recursion_from_All IsRingInRange polygon in_range);
}

member_good : (polys : List (List (List Coord))) → IsMemberFormed polys → IsMemberInRange polys → IsGoodMember polys
member_good polys formed in_range = all_both IsPolyFormed IsPolyInRange IsGoodPolygon polygon_good polys (recursion_from_All IsPolyFormed polys formed) (recursion_from_All IsPolyInRange polys in_range)

members_good : (members : List (List (List (List Coord)))) → IsFormed members → AllByRecursion IsGoodMember members
members_good members h = all_both IsMemberFormed IsMemberInRange IsGoodMember member_good members (recursion_from_All IsMemberFormed members h.shapes) (recursion_from_All IsMemberInRange members h.in_range.coords)

pub read_back : IsReadBack
read_back scale is_scale members formed =
    let good = members_good members formed in
    let gs = coverage_at scale 0 members in
    let text = coverage_text scale members in
    let written = coverage_spelled scale members 0 good in
    let back = coverage_read scale members 0 good in
    let clean : IsClean scale text gs = record {
      is_numeric = record {
        is_planar = record { is_file = written; planar = back.planar };
        numeric = All-from_recursion (IsNumberFine scale) (numbers gs) (all_numeric scale gs back.clean);
      };
      rings_fine = All-from_recursion (IsRingFine scale) (rings gs) (all_fine scale gs back.clean);
    } in
    ((gs, written, sym back.read), ok_faultless scale text (coverage scale gs) (clean_answer scale text gs clean))
