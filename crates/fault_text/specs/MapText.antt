-- The written form of a map of faults: one FeatureCollection (RFC 7946) as compact JSON text, the members of objects in the order of their names but
-- for properties, which stand in an order of their own.
use Rattle.std.specs.Prelude.{ℕ, ℤ, List, ◌++◌, map, take, codes, Option}
use Rattle.std.specs.Fmt.{decimal, signed_decimal}
use Rattle.cov_types.specs.declared.coord.Coord.{Coord}
use Rattle.cov_types.specs.declared.seg.Seg.{Seg}
use Rattle.cov_valid.specs.declared.mark.Kind.{Kind}
use Rattle.cov_valid.specs.declared.mark.Kind.TheVariants.{Meets, Repeated, SameSide, Inside, NarrowGap}
use Rattle.cov_write.specs.Written.{number_text}
use Rattle.json_write.specs.Text.{separated, in_brackets, collection_text}
use Rattle.fault_text.specs.declared.feature.MapFeature.{MapFeature}
use Rattle.fault_text.specs.declared.feature.MapFeature.TheVariants.{Marked, Overlap, Gap}

-- ---- geometries, at a scale or without one

-- a position: its two numbers
abbrev pub scaled_position : Option ℕ → Coord → List ℕ
scaled_position scale c = in_brackets (number_text scale c.x ++ codes "," ++ number_text scale c.y)

-- a segment: its lesser end and then the other
abbrev pub scaled_line : Option ℕ → Seg → List ℕ
scaled_line scale s = in_brackets (scaled_position scale s.lo ++ codes "," ++ scaled_position scale s.hi)

-- a ring: its positions, the first again at the end
abbrev pub scaled_ring : Option ℕ → List Coord → List ℕ
scaled_ring scale points = in_brackets (separated (scaled_position scale) (points ++ take 1 points))

-- a polygon: its rings
abbrev pub scaled_polygon : Option ℕ → List (List Coord) → List ℕ
scaled_polygon scale rings = in_brackets (separated (scaled_ring scale) rings)

-- the geometry of a segment, a LineString
abbrev pub line_geometry : Option ℕ → Seg → List ℕ
line_geometry scale s = codes "{\"coordinates\":" ++ scaled_line scale s ++ codes ",\"type\":\"LineString\"}"

-- that of a polygon, a Polygon
abbrev pub polygon_geometry : Option ℕ → List (List Coord) → List ℕ
polygon_geometry scale rings = codes "{\"coordinates\":" ++ scaled_polygon scale rings ++ codes ",\"type\":\"Polygon\"}"

-- ---- properties, in grid units

-- the word of a kind of mark
abbrev pub kind_word : Kind → List ℕ
kind_word Meets = codes "meets"
kind_word Repeated = codes "repeated"
kind_word SameSide = codes "same side"
kind_word Inside = codes "inside"
kind_word NarrowGap = codes "narrow gap"

-- the numbers of members
abbrev pub members_text : List ℕ → List ℕ
members_text members = in_brackets (separated decimal members)

-- of a segment that is marked: its kind, its member and its place
abbrev pub marked_properties : Kind → ℕ → ℕ → List ℕ
marked_properties kind member place =
    codes "{\"kind\":\"" ++ kind_word kind ++ codes "\",\"member\":" ++ decimal member ++ codes ",\"place\":" ++ decimal place ++ codes "}"

-- of a region that several members hold: these, its doubled area and its number
abbrev pub overlap_properties : List ℕ → ℤ → ℕ → List ℕ
overlap_properties members area2 region =
    codes "{\"kind\":\"overlap\",\"members\":" ++ members_text members ++ codes ",\"area2\":" ++ signed_decimal area2 ++ codes ",\"region\":" ++ decimal region ++ codes "}"

-- of a gap: its doubled area, its clearance, its number and the members that border on it
abbrev pub gap_properties : ℤ → ℕ → ℕ → List ℕ → List ℕ
gap_properties area2 clearance region members =
    codes "{\"kind\":\"gap\",\"area2\":" ++ signed_decimal area2 ++ codes ",\"clearance\":" ++ decimal clearance ++ codes ",\"region\":" ++ decimal region
    ++ codes ",\"members\":" ++ members_text members ++ codes "}"

-- ---- features

-- the geometry of a feature of the map
abbrev pub map_geometry : Option ℕ → MapFeature → List ℕ
map_geometry scale (Marked kind member place segment) = line_geometry scale segment
map_geometry scale (Overlap members area2 region polygon) = polygon_geometry scale polygon
map_geometry scale (Gap area2 clearance region members polygon) = polygon_geometry scale polygon

-- its properties
abbrev pub map_properties : MapFeature → List ℕ
map_properties (Marked kind member place segment) = marked_properties kind member place
map_properties (Overlap members area2 region polygon) = overlap_properties members.items area2 region
map_properties (Gap area2 clearance region members polygon) = gap_properties area2 clearance region members.items

-- the feature: its geometry and its properties
abbrev pub map_feature_text : Option ℕ → MapFeature → List ℕ
map_feature_text scale f = codes "{\"geometry\":" ++ map_geometry scale f ++ codes ",\"properties\":" ++ map_properties f ++ codes ",\"type\":\"Feature\"}"

-- the text of a map of faults: its features, in their order
abbrev pub map_bytes : Option ℕ → List MapFeature → List ℕ
map_bytes scale features = collection_text (map (map_feature_text scale) features)
