-- The exit status and the message of each outcome.
use Rattle.std.specs.Prelude.{ℕ, List, ◌++◌, codes}
use Rattle.std.specs.Fmt.{decimal}
use Rattle.cover_cli.specs.declared.outcome.Outcome.{Outcome}
use Rattle.cover_cli.specs.declared.outcome.Outcome.TheVariants.{Done, Marked, Usage, ReadFault, WriteFault, TooLong, BadText, BadJson, BadPoints, NotValid, TooMany, NoMemory, Sampled}
use Rattle.cov_locate.specs.declared.points.PointsFault.{PointsFault}
use Rattle.cov_locate.specs.declared.points.PointsFault.TheVariants as points
use Rattle.cov_valid.specs.declared.mark.Kind.{Kind}
use Rattle.cov_valid.specs.declared.mark.Kind.TheVariants.{Meets, Repeated, SameSide, Inside, NarrowGap}
use Rattle.geo_json.specs.declared.error.JsonFault.{JsonFault}
use Rattle.geo_json.specs.declared.error.JsonFault.TheVariants as json
use Rattle.geo_text.specs.declared.error.TextFault.{TextFault}
use Rattle.geo_text.specs.declared.error.TextFault.TheVariants.{Syntax, NotPlanar, NotWhole, OutOfRange, RingShort, RingOpen}

-- the exit status
abbrev pub status_of : Outcome → ℕ
status_of Done = 0
status_of (Sampled members polygons points) = 0
status_of (Marked edges) = 1
status_of Usage = 2
status_of (NotValid mark) = 3
status_of (BadText fault) = 4
status_of (BadJson fault) = 5
status_of TooLong = 6
status_of ReadFault = 7
status_of WriteFault = 8
status_of NoMemory = 9
status_of (BadPoints fault) = 10
status_of (TooMany count) = 11

-- the text of a fault of a text
abbrev pub fault_text : TextFault → List ℕ
fault_text (Syntax at) = codes "text: syntax at " ++ decimal at
fault_text (NotPlanar at) = codes "text: not planar at " ++ decimal at
fault_text (NotWhole at) = codes "text: not whole at " ++ decimal at
fault_text (OutOfRange at) = codes "text: out of range at " ++ decimal at
fault_text (RingShort ring) = codes "text: ring " ++ decimal ring ++ codes " is short"
fault_text (RingOpen ring) = codes "text: ring " ++ decimal ring ++ codes " is open"

-- the text of a fault of a GeoJSON document
abbrev pub json_fault_text : JsonFault → List ℕ
json_fault_text json.NotJson = codes "json: not JSON"
json_fault_text (json.BadShape feature) = codes "json: bad shape in feature " ++ decimal feature
json_fault_text (json.NotPlanar feature) = codes "json: not planar in feature " ++ decimal feature
json_fault_text (json.NotWhole feature) = codes "json: not whole in feature " ++ decimal feature
json_fault_text (json.OutOfRange feature) = codes "json: out of range in feature " ++ decimal feature
json_fault_text (json.RingShort ring) = codes "json: ring " ++ decimal ring ++ codes " is short"
json_fault_text (json.RingOpen ring) = codes "json: ring " ++ decimal ring ++ codes " is open"

-- the text of a fault of a points file
abbrev pub points_fault_text : PointsFault → List ℕ
points_fault_text (points.Syntax line) = codes "points: syntax in line " ++ decimal line
points_fault_text (points.OutOfRange line) = codes "points: out of range in line " ++ decimal line

-- the text of a sample, with the numbers of its members, of their polygons and of the points of all rings
abbrev pub sampled_text : ℕ → ℕ → ℕ → List ℕ
sampled_text members polygons points =
    codes "sampled: members " ++ (decimal members ++ (codes ", polygons " ++ (decimal polygons ++ (codes ", points " ++ decimal points))))

-- the text of the first segment at fault of a coverage that is not valid, with its member, its place and its kind
abbrev pub mark_text : ℕ → ℕ → Kind → List ℕ
mark_text member place Meets = codes "not valid: member " ++ (decimal member ++ (codes " place " ++ (decimal place ++ codes " meets")))
mark_text member place Repeated = codes "not valid: member " ++ (decimal member ++ (codes " place " ++ (decimal place ++ codes " repeated")))
mark_text member place SameSide = codes "not valid: member " ++ (decimal member ++ (codes " place " ++ (decimal place ++ codes " same side")))
mark_text member place Inside = codes "not valid: member " ++ (decimal member ++ (codes " place " ++ (decimal place ++ codes " inside")))
mark_text member place NarrowGap = codes "not valid: member " ++ (decimal member ++ (codes " place " ++ (decimal place ++ codes " narrow gap")))

-- the line that is printed
abbrev pub message_of : Outcome → List ℕ
message_of Done = codes "done"
message_of (Marked edges) = codes "marked " ++ decimal edges
message_of (Sampled members polygons points) = sampled_text members polygons points
message_of Usage = codes "usage: cover validate|clean|simplify|union|node|regions|sample|locate|overlay"
message_of ReadFault = codes "cannot read"
message_of WriteFault = codes "cannot write"
message_of TooLong = codes "input is longer than 67108864 bytes"
message_of (BadText fault) = fault_text fault
message_of (BadJson fault) = json_fault_text fault
message_of (BadPoints fault) = points_fault_text fault
message_of (NotValid mark) = mark_text mark.member mark.place mark.kind
message_of (TooMany count) = codes "too many: " ++ decimal count
message_of NoMemory = codes "no memory"
