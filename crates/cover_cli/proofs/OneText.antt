-- An operation makes one text of its inputs.
use Rattle.std.proofs.Common.{◌≡◌, ℕ, ◌≤◌, ◌∷◌, List, [], length, Bool, true, false, ◌&&◌, ◌⊎◌, refl, sym, ap, subst, ◌∙◌, inl, inr, Option, Some, None}
use Rattle.std.specs.Prelude.{All, flat_map}
use Rattle.std.proofs.lemmas.List.Elements.{All-head, All-map, All-replicate}
use Rattle.std.specs.List.{AllZip, concat}
use Rattle.arrangement.proofs.OneNoding.{one_noding}
use Rattle.arrangement.proofs.OneOverlay.{one_snapped_overlay}
use Rattle.arrangement.specs.Measure.{region_area2}
use Rattle.arrangement.specs.Noding.{odd_uses}
use Rattle.arrangement.specs.Overlay.{Overlay, region_numbers, label_of}
use Rattle.arrangement.specs.declared.odd_use.OddUse.{OddUse}
use Rattle.cov_io.specs.State.{State}
use Rattle.cov_types.proofs.AllUses.{uses-in_range}
use Rattle.cov_types.specs.Coverage.{Members, AllInRange}
use Rattle.cov_types.specs.Uses.{uses_of}
use Rattle.cov_types.specs.declared.coord.Coord.{Coord}
use Rattle.cov_types.specs.declared.edge_use.EdgeUse.{EdgeUse}
use Rattle.cov_types.specs.declared.seg.Seg.{Seg}
use Rattle.cov_locate.proofs.OneWhere.{one_where}
use Rattle.cov_locate.specs.Where.{IsWhere}
use Rattle.cov_locate.specs.declared.place.Where.{Where}
use Rattle.cov_marks.proofs.GapMarks.{one_marks}
use Rattle.cov_valid.specs.declared.mark.Mark.{Mark}
use Rattle.cov_write.specs.Rows.{inner_row}
use Rattle.cov_write.specs.Written.{lines_text}
use Rattle.region_owners.proofs.Clearances.{clearance_unique}
use Rattle.gap_replay.proofs.ReplayOwners.{one_replay}
use Rattle.gap_replay.specs.Cleaned.{IsCleanedBy}
use Rattle.region_owners.specs.Owner.{Rule}
use Rattle.sound_polygons.proofs.OneCleaned.{one_cleaned}
use Rattle.feature_files.proofs.Files.{one_reading, read_formed}
use Rattle.feature_files.proofs.Forms.{one_form, one_text_form, bare_exact}
use Rattle.feature_files.specs.Form.{IsWrittenAs, HasNoFloat}
use Rattle.serde_json.specs.Data.{null}
use Rattle.serde_json.specs.Written.{has_float}
use Rattle.overlaid_laws.proofs.Joint.{joint_in_range}
use Rattle.overlaid_laws.proofs.OneOverlaid.{one_overlaid}
use Rattle.overlaid_laws.specs.declared.pair.Pair.{Pair}
use Rattle.file_form.specs.Name.{is_json}
use Rattle.feature_files.specs.Reading.{bare, with_members, IsReadBy, IsRead}
use Rattle.geo_json.specs.Reading.{Reading}
use Rattle.cover_cli.proofs.Causes.{of_both_two, one_refusal, not_both}
use Rattle.cover_cli.proofs.Inputs.{same_inputs}
use Rattle.cover_cli.specs.Answers.{HoldsNoFloat, HasOneText, MayWrite, HoldsCause}
use Rattle.cover_cli.specs.Clean.{rule_of, picks_of, state_for, IsCleaning}
use Rattle.cover_cli.specs.Input.{Holds, AreInputs}
use Rattle.geo_text.specs.declared.reader.TheConstants.{LONGEST_INPUT}
use Rattle.cover_cli.specs.Lines.{member_lists, marked_uses}
use Rattle.cover_cli.specs.Locate.{place_row, ArePlaceRows, IsLocating}
use Rattle.cover_cli.specs.Made.{IsOneAnd, Makes, Refuses}
use Rattle.fault_map.proofs.OneMap.{one_map}
use Rattle.cover_cli.specs.Mapping.{IsMapping}
use Rattle.cover_cli.specs.Node.{IsNoding}
use Rattle.cover_cli.specs.Overlay.{pair_properties, with_pairs, IsOverlaying}
use Rattle.cover_cli.specs.Sample.{sampled, IsSampling}
use Rattle.cover_cli.specs.Simplify.{IsSimplifying}
use Rattle.jittered_grid.specs.Cells.{cells}
use Rattle.greedy_run.proofs.OneRun.{one_simplified}
use Rattle.cover_cli.specs.Regions.{IsClearanceTold, IsRow, AreRows, IsRegionList}
use Rattle.cover_cli.specs.Text.{IsReadAnd}
use Rattle.cov_union.proofs.OneUnited.{one_united}
use Rattle.cover_cli.specs.Union.{IsUniting}
use Rattle.cover_cli.specs.Validate.{marking, IsValidation}
use Rattle.cover_cli.specs.Task.{Task, TaskRule}
use Rattle.cover_words.specs.Words.{Validate, MapFaults, Clean, Simplify, Union, Node, Regions, Locate, inputs_of, Sample, Overlay as OverlayOf}
use Rattle.cover_cli.specs.declared.outcome.Outcome.{Outcome}
use Rattle.cover_words.specs.declared.rule_name.RuleName.TheVariants.{LongestBorder}
use Rattle.merge_rule.specs.RuleState.{RuleState, no_state}

-- ---- what is made of a coverage

one_validation : (gap : ℕ) (scale : Option ℕ) (members : List (List (List (List Coord)))) (o p : Outcome) (text other : List ℕ) → IsValidation gap scale members o text → IsValidation gap scale members p other → (o ≡ p) × (text ≡ other)
one_validation gap scale members o p text other v w =
    let same : v.marks ≡ w.marks = one_marks (uses_of members) (length members) gap v.marks w.marks v.marked w.marked in
    let listing : List Mark → List ℕ = λ marks. lines_text scale (member_lists (marked_uses (uses_of members) marks) members) in
    (v.counted ∙ ap (λ (marks : List Mark). marking (length marks)) same ∙ sym w.counted, v.lines ∙ ap listing same ∙ sym w.lines)

one_mapping : (gap : ℕ) (scale : Option ℕ) (members : List (List (List (List Coord)))) (o p : Outcome) (text other : List ℕ) → AllInRange members → IsMapping gap scale members o text → IsMapping gap scale members p other → (o ≡ p) × (text ≡ other)
one_mapping gap scale members o p text other in_range v w =
    let same = one_map members in_range gap v.marked w.marked v.features w.features v.is_map w.is_map in
    (v.counted ∙ ap marking same.0 ∙ sym w.counted, v.written ∙ same.1 scale ∙ sym w.written)

one_node : (scale : Option ℕ) (members : List (List (List (List Coord)))) (o p : Outcome) (text other : List ℕ) → AllInRange members → IsNoding scale members o text → IsNoding scale members p other → (o ≡ p) × (text ≡ other)
one_node scale members o p text other in_range v w =
    let same = one_noding (uses_of members) (uses-in_range members in_range) v.edges w.edges v.odd w.odd v.noded w.noded in
    let listing : List Seg → List OddUse → List ℕ = λ edges odd. lines_text scale (edges ∷ member_lists (odd_uses edges odd) members) in
    (v.done ∙ sym w.done, v.lines ∙ (λ i. listing (same.0 i) (same.1 i)) ∙ sym w.lines)

-- the form of features beside these members has determined bytes: it is text, or no float is kept
abbrev IsExactAs : List ℕ → Reading → Type 0
IsExactAs to r = (is_json to ≡ false) ⊎ HasNoFloat r

one_as : (scale : Option ℕ) (to : List ℕ) (r : Reading) (v w : Members) (text other : List ℕ) → v ≡ w → IsWrittenAs to scale (with_members r v) text → IsWrittenAs to scale (with_members r w) other → IsExactAs to r → text ≡ other
one_as scale to r v w text other same written again (inl is_text) = one_text_form to scale (with_members r w) text other is_text (subst (λ (ms : Members). IsWrittenAs to scale (with_members r ms) text) same written) again
one_as scale to r v w text other same written again (inr free) =
    one_form to scale (with_members r w) text other (record { properties = free.properties; ids = free.ids }) (subst (λ (ms : Members). IsWrittenAs to scale (with_members r ms) text) same written) again

-- a coverage, cleaned, is one, also where the rule is asked for gaps too
one_cleaned_by : (too : Bool) (members : Members) → AllInRange members → (rule : Rule RuleState) (state : RuleState) (gap : ℕ) (out other : Members)
    → IsCleanedBy too members rule state gap out → IsCleanedBy too members rule state gap other → out ≡ other
one_cleaned_by false members in_range rule state gap out other first second = one_cleaned members in_range rule state gap out other first second
one_cleaned_by true members in_range rule state gap out other first second = one_replay members in_range rule state gap out other first second

one_cleaning : (rule : TaskRule) (gap : ℕ) (too : Bool) (scale : Option ℕ) (to : List ℕ) (r : Reading) (o p : Outcome) (text other : List ℕ) → AllInRange r.members → IsCleaning rule gap too scale to r o text → IsCleaning rule gap too scale to r p other
    → (o ≡ p) × (IsExactAs to r → text ≡ other)
one_cleaning rule gap too scale to r o p text other in_range v w =
    let same : v.out ≡ w.out = one_cleaned_by too r.members in_range (picks_of rule) (state_for rule (length r.members)) gap v.out w.out v.cleaned w.cleaned in
    (v.done ∙ sym w.done, one_as scale to r v.out w.out text other same v.written w.written)

one_simplifying : (tolerance : ℕ) (inner : Bool) (scale : Option ℕ) (to : List ℕ) (r : Reading) (o p : Outcome) (text other : List ℕ) → IsSimplifying tolerance inner scale to r o text → IsSimplifying tolerance inner scale to r p other
    → (o ≡ p) × (IsExactAs to r → text ≡ other)
one_simplifying tolerance inner scale to r o p text other v w =
    let same : v.out ≡ w.out = one_simplified r.members tolerance inner v.out w.out v.simplified w.simplified in
    (v.done ∙ sym w.done, one_as scale to r v.out w.out text other same v.written w.written)

one_uniting : (scale : Option ℕ) (to : List ℕ) (members : List (List (List (List Coord)))) (o p : Outcome) (text other : List ℕ) → AllInRange members → IsUniting scale to members o text → IsUniting scale to members p other → (o ≡ p) × (text ≡ other)
one_uniting scale to members o p text other in_range v w =
    let same : v.out ≡ w.out = one_united members in_range v.admitted v.out w.out v.united w.united in
    (v.done ∙ sym w.done, one_form to scale (bare w.out) text other (bare_exact w.out) (subst (λ (ms : Members). IsWrittenAs to scale (bare ms) text) same v.written) w.written)

one_sampling : (side seed : ℕ) (to : List ℕ) (o p : Outcome) (text other : List ℕ) → IsSampling side seed to o text → IsSampling side seed to p other → (o ≡ p) × (text ≡ other)
one_sampling side seed to o p text other v w =
    let same : v.out ≡ w.out = one_cleaned (cells side seed) v.grid.in_range (rule_of LongestBorder) no_state 8 v.out w.out v.sample w.sample in
    (v.counted ∙ ap sampled same ∙ sym w.counted, one_form to None (bare w.out) text other (bare_exact w.out) (subst (λ (ms : Members). IsWrittenAs to None (bare ms) text) same v.written) w.written)

-- the properties of pairs, and no ids, have no float
pairs_exact : (pairs : List Pair) (out : Members) → HasNoFloat (with_pairs pairs out)
pairs_exact pairs out = record {
  properties = All-map (λ d. has_float d ≡ false) pair_properties pairs (λ k pair within. refl);
  ids = All-replicate (λ d. has_float d ≡ false) (length out) null refl;
}

one_overlaying : (to : List ℕ) (a b : Members) (o p : Outcome) (text other : List ℕ) → IsOverlaying to a b o text → IsOverlaying to a b p other → (o ≡ p) × (text ≡ other)
one_overlaying to a b o p text other v w =
    let in_range = joint_in_range a b v.first.formed.in_range v.second.formed.in_range v.few_members in
    let same = one_overlaid a b in_range v.pairs w.pairs v.out w.out v.overlaid w.overlaid in
    let features : with_pairs v.pairs v.out ≡ with_pairs w.pairs w.out = λ i. with_pairs (same.0 i) (same.1 i) in (
      v.done ∙ sym w.done,
      one_form to None (with_pairs w.pairs w.out) text other (pairs_exact w.pairs w.out) (subst (λ (r : Reading). IsWrittenAs to None r text) features v.written) w.written,
    )

-- a region has one clearance to tell
one_told : (o : Overlay) (r : ℕ) (first second : Option ℕ) → IsClearanceTold o r first → IsClearanceTold o r second → first ≡ second
one_told o r None None held held_too = refl
one_told o r None (Some w) held gap = absurd (held gap.0)
one_told o r (Some v) None gap held = absurd (held gap.0)
one_told o r (Some v) (Some w) gap gap_too = ap Some (clearance_unique o.edges r v w gap.1 gap_too.1)

-- a region has one row
one_row : (o : Overlay) (r : ℕ) (line other : List ℕ) → IsRow o r line → IsRow o r other → line ≡ other
one_row o r line other (inl (outer, is)) (inl (outer_too, is_too)) = is ∙ sym is_too
one_row o r line other (inl (outer, is)) (inr inner) = absurd (inner.inner outer)
one_row o r line other (inr inner) (inl (outer, is)) = absurd (inner.inner outer)
one_row o r line other (inr v) (inr w) = v.row ∙ ap (inner_row r (label_of o r) (region_area2 o r)) (one_told o r v.clearance w.clearance v.told w.told) ∙ sym w.row

one_rows : (o : Overlay) (regions : List ℕ) (lines others : List (List ℕ)) → AllZip (IsRow o) regions lines → AllZip (IsRow o) regions others → lines ≡ others
one_rows o [] [] [] first second = refl
one_rows o [] [] (m ∷ ms) first second = absurd second
one_rows o [] (l ∷ ls) others first second = absurd first
one_rows o (r ∷ rs) [] others first second = absurd first
one_rows o (r ∷ rs) (l ∷ ls) [] first second = absurd second
one_rows o (r ∷ rs) (l ∷ ls) (m ∷ ms) first second =
    λ i. one_row o r l m first.0 second.0 i ∷ one_rows o rs ls ms first.1 second.1 i

one_region_list : (members : List (List (List (List Coord)))) (o p : Outcome) (text other : List ℕ) → AllInRange members → IsRegionList members o text → IsRegionList members p other → (o ≡ p) × (text ≡ other)
one_region_list members o p text other in_range v w =
    let same : v.overlay ≡ w.overlay = one_snapped_overlay (uses_of members) (uses-in_range members in_range) (length members) v.overlay w.overlay v.is_overlay w.is_overlay in
    let rows : AreRows w.overlay (region_numbers w.overlay) text = subst (λ (q : Overlay). AreRows q (region_numbers q) text) same v.rows in
    let lines : rows.rows ≡ w.rows.rows = one_rows w.overlay (region_numbers w.overlay) rows.rows w.rows.rows rows.each w.rows.each in
    (v.done ∙ sym w.done, rows.lines ∙ ap concat lines ∙ sym w.rows.lines)

one_places : (uses : List EdgeUse) (list : List Coord) (places others : List Where) → AllZip (IsWhere uses) list places → AllZip (IsWhere uses) list others → places ≡ others
one_places uses [] [] [] first second = refl
one_places uses [] [] (v ∷ vs) first second = absurd second
one_places uses [] (w ∷ ws) others first second = absurd first
one_places uses (p ∷ ps) [] others first second = absurd first
one_places uses (p ∷ ps) (w ∷ ws) [] first second = absurd second
one_places uses (p ∷ ps) (w ∷ ws) (v ∷ vs) first second =
    λ i. one_where uses p w v first.0 second.0 i ∷ one_places uses ps ws vs first.1 second.1 i

one_locating : (members : Members) (file : List ℕ) (o p : Outcome) (text other : List ℕ) → IsLocating members file o text → IsLocating members file p other → (o ≡ p) × (text ≡ other)
one_locating members file o p text other v w =
    let same : v.points ≡ w.points = v.points_are.are ∙ sym w.points_are.are in
    let rows : ArePlaceRows (uses_of members) w.points text = subst (λ (ps : List Coord). ArePlaceRows (uses_of members) ps text) same v.rows in
    let places : rows.places ≡ w.rows.places = one_places (uses_of members) w.points rows.places w.rows.places rows.each w.rows.each in
    (v.done ∙ sym w.done, rows.rows ∙ ap (flat_map place_row) places ∙ sym w.rows.rows)

-- ---- properties and ids that are kept

-- what is read of text has no float
text_exact : (name : List ℕ) (scale : Option ℕ) (input : List ℕ) (r : Reading) → is_json name ≡ false → IsRead name scale input r → HasNoFloat r
text_exact name scale input r is_text reads =
    let read = subst (λ (json : Bool). IsReadBy json scale input r) is_text reads in
    subst HasNoFloat (sym read.is_bare) (bare_exact r.members)

-- properties and ids of GeoJSON that are not kept as GeoJSON
exact_by : (scale : Option ℕ) (from to input : List ℕ) (r : Reading) (first second : Bool) → is_json from ≡ first → is_json to ≡ second → IsRead from scale input r → (first && second) ≡ false → IsExactAs to r
exact_by scale from to input r false second is_from is_to reads not = inr (text_exact from scale input r is_from reads)
exact_by scale from to input r true false is_from is_to reads not = inl is_to
exact_by scale from to input r true true is_from is_to reads not = absurd (cc)

-- where all bytes are determined, so are those of the features
exact_as : (s : State) (scale : Option ℕ) (from to input : List ℕ) (r : Reading) → Holds s from input → IsRead from scale input r → ((is_json from && is_json to) ≡ false) ⊎ All (HoldsNoFloat s scale) (from ∷ []) → IsExactAs to r
exact_as s scale from to input r holds reads (inl not) = exact_by scale from to input r (is_json from) (is_json to) refl refl reads not
exact_as s scale from to input r holds reads (inr all) = inr (All-head (HoldsNoFloat s scale) from [] all input r holds.file reads)

-- ---- what is made of inputs

-- what follows for one reading, follows for an input that is read as one
of_reading : (name : List ℕ) (scale : Option ℕ) (P Q : Reading → Type 0) (C : Type 0) (input : List ℕ) → ((r : Reading) → AllInRange r.members → IsRead name scale input r → P r → Q r → C)
    → length input ≤ LONGEST_INPUT → IsReadAnd name scale input P → IsReadAnd name scale input Q → C
of_reading name scale P Q C input follows within first second =
    let same : first.reading ≡ second.reading = one_reading name scale input first.reading second.reading first.reads second.reads in
    let formed = read_formed name scale input second.reading within second.reads in
    follows second.reading formed.in_range second.reads (subst P same first.holds) second.holds

-- what follows for one input, follows for the inputs where there is one
of_inputs : (s : State) (name : List ℕ) (scale : Option ℕ) (inputs : List (List ℕ)) (P Q : Reading → Type 0) (C : Type 0) → ((input : List ℕ) (r : Reading) → Holds s name input → AllInRange r.members → IsRead name scale input r → P r → Q r → C)
    → AreInputs s (name ∷ []) inputs → IsOneAnd inputs (λ input. IsReadAnd name scale input P) → IsOneAnd inputs (λ input. IsReadAnd name scale input Q) → C
of_inputs s name scale [] P Q C follows are first second = absurd first
of_inputs s name scale (input ∷ []) P Q C follows are first second = of_reading name scale P Q C input (λ r. follows input r are.0) are.0.within first second
of_inputs s name scale (input ∷ more ∷ rest) P Q C follows are first second = absurd first

-- an input and a points file give one text
one_located : (name input file : List ℕ) (o p : Outcome) (text other : List ℕ) → IsReadAnd name None input (λ r. IsLocating r.members file o text) → IsReadAnd name None input (λ r. IsLocating r.members file p other) → (o ≡ p) × (text ≡ other)
one_located name input file o p text other first second =
    let same : first.reading ≡ second.reading = one_reading name None input first.reading second.reading first.reads second.reads in
    one_locating second.reading.members file o p text other (subst (λ (r : Reading). IsLocating r.members file o text) same first.holds) second.holds

-- two inputs give one text
one_paired : (first second a b to : List ℕ) (o p : Outcome) (text other : List ℕ)
    → IsReadAnd first None a (λ r. IsReadAnd second None b (λ s. IsOverlaying to r.members s.members o text))
    → IsReadAnd first None a (λ r. IsReadAnd second None b (λ s. IsOverlaying to r.members s.members p other)) → (o ≡ p) × (text ≡ other)
one_paired first second a b to o p text other h k =
    let same : h.reading ≡ k.reading = one_reading first None a h.reading k.reading h.reads k.reads in
    let again = subst (λ (r : Reading). IsReadAnd second None b (λ s. IsOverlaying to r.members s.members o text)) same h.holds in
    let same_too : again.reading ≡ k.holds.reading = one_reading second None b again.reading k.holds.reading again.reads k.holds.reads in
    one_overlaying to k.reading.members k.holds.reading.members o p text other
    (subst (λ (s : Reading). IsOverlaying to k.reading.members s.members o text) same_too again.holds) k.holds.holds

-- one success, and one text where it is determined
abbrev IsOne : Task → State → Outcome → Outcome → List ℕ → List ℕ → Type 0
IsOne operation s o p text other = (o ≡ p) × (HasOneText operation s → text ≡ other)

one_made : (operation : Task) (s : State) (inputs : List (List ℕ)) (o p : Outcome) (text other : List ℕ) → AreInputs s (inputs_of operation) inputs
    → Makes operation inputs o text → Makes operation inputs p other → IsOne operation s o p text other
one_made (Validate gap scale from to) s inputs o p text other =
    of_inputs s from scale inputs (λ r. IsValidation gap scale r.members o text) (λ r. IsValidation gap scale r.members p other) (IsOne (Validate gap scale from to) s o p text other)
    (λ input r holds in_range reads v w. (let one = one_validation gap scale r.members o p text other v w in (one.0, λ determined. one.1)))
one_made (MapFaults gap scale from to) s inputs o p text other =
    of_inputs s from scale inputs (λ r. IsMapping gap scale r.members o text) (λ r. IsMapping gap scale r.members p other) (IsOne (MapFaults gap scale from to) s o p text other)
    (λ input r holds in_range reads v w. (let one = one_mapping gap scale r.members o p text other in_range v w in (one.0, λ determined. one.1)))
one_made (Clean rule gap too scale from to) s inputs o p text other =
    of_inputs s from scale inputs (λ r. IsCleaning rule gap too scale to r o text) (λ r. IsCleaning rule gap too scale to r p other) (IsOne (Clean rule gap too scale from to) s o p text other)
    (λ input r holds in_range reads v w. (let one = one_cleaning rule gap too scale to r o p text other in_range v w in (one.0, λ determined. one.1 (exact_as s scale from to input r holds reads determined))))
one_made (Simplify tolerance inner scale from to) s inputs o p text other =
    of_inputs s from scale inputs (λ r. IsSimplifying tolerance inner scale to r o text) (λ r. IsSimplifying tolerance inner scale to r p other) (IsOne (Simplify tolerance inner scale from to) s o p text other)
    (λ input r holds in_range reads v w. (let one = one_simplifying tolerance inner scale to r o p text other v w in (one.0, λ determined. one.1 (exact_as s scale from to input r holds reads determined))))
one_made (Union scale from to) s inputs o p text other =
    of_inputs s from scale inputs (λ r. IsUniting scale to r.members o text) (λ r. IsUniting scale to r.members p other) (IsOne (Union scale from to) s o p text other)
    (λ input r holds in_range reads v w. (let one = one_uniting scale to r.members o p text other in_range v w in (one.0, λ determined. one.1)))
one_made (Node scale from to) s inputs o p text other =
    of_inputs s from scale inputs (λ r. IsNoding scale r.members o text) (λ r. IsNoding scale r.members p other) (IsOne (Node scale from to) s o p text other)
    (λ input r holds in_range reads v w. (let one = one_node scale r.members o p text other in_range v w in (one.0, λ determined. one.1)))
one_made (Regions scale from to) s inputs o p text other =
    of_inputs s from scale inputs (λ r. IsRegionList r.members o text) (λ r. IsRegionList r.members p other) (IsOne (Regions scale from to) s o p text other)
    (λ input r holds in_range reads v w. (let one = one_region_list r.members o p text other in_range v w in (one.0, λ determined. one.1)))
one_made (Sample side seed to) s inputs o p text other = λ read v w. (let one = one_sampling side seed to o p text other v w in (one.0, λ determined. one.1))
one_made (Locate from points to) s inputs o p text other =
    λ are. of_both_two inputs _ _ (IsOne (Locate from points to) s o p text other) (λ input file v w. (let one = one_located from input file o p text other v w in (one.0, λ determined. one.1)))
one_made (OverlayOf first second to) s inputs o p text other =
    λ are. of_both_two inputs _ _ (IsOne (OverlayOf first second to) s o p text other) (λ a b v w. (let one = one_paired first second a b to o p text other v w in (one.0, λ determined. one.1)))

-- ---- what the files hold

pub one_text : (operation : Task) (s : State) (o p : Outcome) (text other : List ℕ) → MayWrite operation s o text → MayWrite operation s p other
    → (o ≡ p) × (HasOneText operation s → text ≡ other)
one_text operation s o p text other first second =
    let same : first.inputs ≡ second.inputs = same_inputs s (inputs_of operation) first.inputs second.inputs first.read second.read in
    one_made operation s second.inputs o p text other second.read (subst (λ (is : List (List ℕ)). Makes operation is o text) same first.makes) second.makes

pub one_cause : (operation : Task) (s : State) (o p : Outcome) → HoldsCause operation s o → HoldsCause operation s p → o ≡ p
one_cause operation s o p first second =
    let same : first.inputs ≡ second.inputs = same_inputs s (inputs_of operation) first.inputs second.inputs first.read second.read in
    one_refusal operation second.inputs o p (subst (λ (is : List (List ℕ)). Refuses operation is o) same first.refuses) second.refuses

pub written_or_refused : (operation : Task) (s : State) (o p : Outcome) (text : List ℕ) → MayWrite operation s o text → HoldsCause operation s p → ⊥
written_or_refused operation s o p text writes cause =
    let same : cause.inputs ≡ writes.inputs = same_inputs s (inputs_of operation) cause.inputs writes.inputs cause.read writes.read in
    not_both operation writes.inputs o p text writes.makes (subst (λ (is : List (List ℕ)). Refuses operation is p) same cause.refuses)
