-- A written document is read back.
use Rattle.std.proofs.Common.{◌≡◌, ℕ, ◌+◌, ◌≤◌, List, [], ◌∷◌, ◌++◌, map, refl, ap, sym, subst, ◌∙◌, append_assoc, codes}
use Rattle.std.specs.List.{AllByRecursion}
use Rattle.std.proofs.lemmas.List.Elements.{recursion_from_All}
use Rattle.std.proofs.lemmas.Str.{IsUtf8-append}
use Rattle.cov_types.specs.Coverage.{Members, IsRingFormed, IsPolyFormed, IsMemberFormed, IsRingInRange, IsPolyInRange, IsMemberInRange}
use Rattle.cov_types.specs.Range.{IsInRange}
use Rattle.cov_types.specs.declared.coord.Coord.{Coord}
use Rattle.json.specs.Lex.{tokens}
use Rattle.json.specs.Print.{print}
use Rattle.json.specs.Tree.{json_tokens}
use Rattle.json.proofs.Printed.Trees.{ArePrintable-json_tokens}
use Rattle.json.proofs.Printed.Utf8.{IsUtf8-are_ascii}
use Rattle.serde_json.specs.Data.{Data, depth}
use Rattle.serde_json.specs.Read.{max_depth}
use Rattle.geo_json.specs.Reading.{StandsFor, Reading, Reads}
use Rattle.geo_json.specs.Fault.{first, faults_from, HasNoFault}
use Rattle.geo_json.proofs.OneAnswer.{faultless}
use Rattle.json_write.specs.Text.{with_commas, in_brackets, features_from, features_of, IsWritten}
use Rattle.json_write.specs.ReadBack.{IsReadable}
use Rattle.json_write.proofs.DocumentData.{IsGoodRing, IsGoodPolygon, IsGoodFeature, document_data, document_stands}
use Rattle.json_write.proofs.Faultless.{no_faults}
use Rattle.json_write.proofs.LineFeed.{tokens_before_line_feed}
use Rattle.json_write.proofs.Printing.{json_printed}
use Rattle.json_write.proofs.Shapes.{feature_shape, document_read, reading_read}
use Rattle.json_write.proofs.Standing.{Stands, tokens_read}

-- a text that stands for a value is the text of that value, also before a line feed
line_stands : (text : List ℕ) (d : Data) → Stands max_depth text d → StandsFor (text ++ codes "\n") d
line_stands text d s =
    let ts = json_tokens s.spelling in
    let printed : text ≡ print ts = sym s.text_is ∙ sym (json_printed s.spelling) in
    let lexed : tokens (text ++ codes "\n") ≡ ts = ap (λ t. tokens (t ++ codes "\n")) printed ∙ tokens_before_line_feed ts (ArePrintable-json_tokens s.spelling s.numbers) in (
      IsUtf8-append text (codes "\n") s.utf8 (IsUtf8-are_ascii (codes "\n") refl),
      tokens_read (text ++ codes "\n") s.spelling lexed s.shallow ∙ s.value,
    )

-- ---- what is asked of features

ring_good : (points : List Coord) → IsRingFormed points → IsRingInRange points → IsGoodRing points
ring_good points formed in_range = record { long = formed; in_range = recursion_from_All IsInRange points in_range }

both_hold : {X : Type 0} (P Q R : X → Type 0) → ((x : X) → P x → Q x → R x) → (xs : List X) → AllByRecursion P xs → AllByRecursion Q xs → AllByRecursion R xs
both_hold P Q R f [] h k = tt
both_hold P Q R f (x ∷ xs) h k = (f x h.0 k.0, both_hold P Q R f xs h.1 k.1)

polygon_good : (rings : List (List Coord)) → IsPolyFormed rings → IsPolyInRange rings → IsGoodPolygon rings
polygon_good rings formed in_range = record {
  some_ring = formed.0;
  rings_good = both_hold IsRingFormed IsRingInRange IsGoodRing ring_good rings (recursion_from_All IsRingFormed rings formed.1) (recursion_from_All IsRingInRange rings in_range);
}

member_good : (polys : List (List (List Coord))) → IsMemberFormed polys → IsMemberInRange polys → AllByRecursion IsGoodPolygon polys
member_good polys formed in_range = both_hold IsPolyFormed IsPolyInRange IsGoodPolygon polygon_good polys (recursion_from_All IsPolyFormed polys formed) (recursion_from_All IsPolyInRange polys in_range)

abbrev IsGoodMember : List (List (List Coord)) → Type 0
IsGoodMember polys = AllByRecursion IsGoodPolygon polys

abbrev IsShallow : Data → Type 0
IsShallow d = depth d + 3 ≤ max_depth

all_good : (ms : Members) (ps is : List Data) → AllByRecursion IsGoodMember ms → AllByRecursion IsShallow ps → AllByRecursion IsShallow is → AllByRecursion IsGoodFeature (features_from ms ps is)
all_good [] ps is h p i = tt
all_good (m ∷ ms) [] is h p i = tt
all_good (m ∷ ms) (d ∷ ps) [] h p i = tt
all_good (m ∷ ms) (d ∷ ps) (e ∷ is) h p i = (record { polys_good = h.0; properties = p.0; id = i.0 }, all_good ms ps is h.1 p.1 i.1)

features_good : (r : Reading) → IsReadable r → AllByRecursion IsGoodFeature (features_of r)
features_good r h =
    all_good r.members r.properties r.ids
    (both_hold IsMemberFormed IsMemberInRange IsGoodMember member_good r.members (recursion_from_All IsMemberFormed r.members h.formed.shapes) (recursion_from_All IsMemberInRange r.members h.formed.in_range.coords))
    (recursion_from_All IsShallow r.properties h.properties_shallow) (recursion_from_All IsShallow r.ids h.ids_shallow)

-- ---- reading

line_split : (text : List ℕ) → codes "{\"features\":" ++ text ++ codes ",\"type\":\"FeatureCollection\"}\n" ≡ (codes "{\"features\":" ++ text ++ codes ",\"type\":\"FeatureCollection\"}") ++ codes "\n"
line_split text = simp append_assoc

pub read_back : (r : Reading) (text : List ℕ) → IsReadable r → IsWritten (features_of r) text → Reads text r × HasNoFault text
read_back r text h w =
    let features = features_of r in
    let good = features_good r h in
    let line : text ≡ (codes "{\"features\":" ++ in_brackets (with_commas w.texts) ++ codes ",\"type\":\"FeatureCollection\"}") ++ codes "\n" = w.text_is ∙ line_split (in_brackets (with_commas w.texts)) in
    let stands : StandsFor text (document_data features) = subst (λ t. StandsFor t (document_data features)) (sym line) (line_stands _ _ (document_stands features w.texts good w.each)) in
    let shapes = document_read features good in (
      record {
        value = document_data features;
        features = map feature_shape features;
        stands = stands;
        shapes = shapes;
        read = reading_read r.members r.properties r.ids h.properties h.ids good;
      },
      faultless text (document_data features) stands (ap first (ap (faults_from 0 0) shapes ∙ no_faults 0 0 features good)),
    )
