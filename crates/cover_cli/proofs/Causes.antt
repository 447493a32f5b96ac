-- Causes of refusals: each input has one cause at most, and none where a text is made of it.
use Rattle.std.proofs.Common.{◌≡◌, ◌≢◌, ℕ, zero, suc, ◌+◌, ◌<◌, ◌^◌, List, [], ◌∷◌, length, Bool, true, false, IsTrue, Option, Some, None, refl, ap, subst, ◌∙◌, sym, inl, inr, arith}
use Rattle.cover_cli.specs.Answers.{is_validate, is_success, is_refusal, is_marked, touches_output, is_sample, is_sampled}
use Rattle.cov_overlay.specs.TooMany.{IsCause}
use Rattle.cov_overlay.specs.declared.error.OverlayError.{OverlayError}
use Rattle.cov_overlay.specs.declared.error.OverlayError.TheVariants as overlays
use Rattle.cov_types.specs.Coverage.{Members}
use Rattle.cov_types.specs.Uses.{uses_of}
use Rattle.plane.specs.Validity.{IsValid}
use Rattle.cov_admit.specs.Admission.{IsRefusal}
use Rattle.cov_admit.specs.declared.error.AdmitError.{AdmitError}
use Rattle.cov_admit.specs.declared.error.AdmitError.TheVariants.{NotValid as NotAdmitted, NoMemory as NoAdmitMemory}
use Rattle.cov_admit.proofs.FirstMarks.{one_first_mark}
use Rattle.feature_files.proofs.Files.{one_reading, one_fault, read_faultless}
use Rattle.feature_files.specs.Fault.{IsError}
use Rattle.feature_files.specs.Reading.{IsRead}
use Rattle.feature_files.specs.declared.error.FileError.{FileError}
use Rattle.feature_files.specs.declared.error.FileError.TheVariants.{Fault, NoMemory as NoFileMemory}
use Rattle.feature_files.specs.declared.error.FileFault.TheVariants.{Text, Json}
use Rattle.geo_json.specs.Reading.{Reading}
use Rattle.cov_locate.specs.Points.{ArePoints, IsFaultOf}
use Rattle.cov_locate.specs.declared.points.PointsError.{PointsError}
use Rattle.cov_locate.specs.declared.points.PointsError.TheVariants as points
use Rattle.cov_locate.specs.declared.points.PointsFault.{PointsFault}
use Rattle.cov_types.specs.declared.coord.Coord.{Coord}
use Rattle.cover_cli.specs.Invalid.{TellsMark, RefusesInvalid}
use Rattle.cover_cli.specs.Locate.{TellsPointsFault, RefusesPoints}
use Rattle.cover_cli.specs.Made.{IsOneAnd, IsTwoAnd, Makes, Refuses}
use Rattle.cover_cli.specs.Overlay.{IsAdmitted, IsOverlaying, TellsTooMany, RefusesBoth, RefusesSecond, RefusesOverlay}
use Rattle.overlaid_laws.proofs.Joint.{joint_in_range}
use Rattle.overlaid_laws.proofs.OnePairs.{one_joint_pairs}
use Rattle.overlaid_laws.specs.Overlaid.{AreJointPairs}
use Rattle.overlaid_laws.specs.declared.pair.Pair.{Pair}
use Rattle.cover_cli.specs.Refusal.{outcome_of_file, outcome_of_refusal, outcome_of_points, outcome_of_overlay, IsRefusedFor}
use Rattle.cover_cli.specs.Text.{IsReadAnd, RefusesInput}
use Rattle.cover_cli.specs.Validate.{marking}
use Rattle.cover_cli.specs.Task.{Task}
use Rattle.cover_words.specs.Words.{Validate, MapFaults, Clean, Simplify, Union, Node, Regions, Locate, Sample, Overlay}
use Rattle.cover_cli.specs.declared.outcome.Outcome.{Outcome}
use Rattle.cover_cli.specs.declared.outcome.Outcome.TheVariants.{Done, Marked, Usage, ReadFault, WriteFault, TooLong, BadText, BadJson, BadPoints, NotValid, TooMany, NoMemory, Sampled}

-- ---- inputs with a fault

-- an error of the reader is refused for its cause
pub input_refused : (name : List ℕ) (scale : Option ℕ) (input : List ℕ) (e : FileError) → IsError name scale input e → IsRefusedFor (RefusesInput name scale input) (outcome_of_file e)
input_refused name scale input (Fault (Text fault)) is = inr is
input_refused name scale input (Fault (Json fault)) is = inr is
input_refused name scale input NoFileMemory is = inl refl

-- an input is refused with one outcome
one_input_refusal : (name : List ℕ) (scale : Option ℕ) (input : List ℕ) (o p : Outcome) → RefusesInput name scale input o → RefusesInput name scale input p → o ≡ p
one_input_refusal name scale input (BadText f) (BadText g) first second = (let same : Text f ≡ Text g = one_fault name scale input (Text f) (Text g) first second in cc)
one_input_refusal name scale input (BadText f) (BadJson g) first second = (let same : Text f ≡ Json g = one_fault name scale input (Text f) (Json g) first second in absurd (cc))
one_input_refusal name scale input (BadJson f) (BadText g) first second = (let same : Json f ≡ Text g = one_fault name scale input (Json f) (Text g) first second in absurd (cc))
one_input_refusal name scale input (BadJson f) (BadJson g) first second = (let same : Json f ≡ Json g = one_fault name scale input (Json f) (Json g) first second in cc)
one_input_refusal name scale input (BadText f) Done first second = absurd second
one_input_refusal name scale input (BadText f) (Marked edges) first second = absurd second
one_input_refusal name scale input (BadText f) (Sampled m p q) first second = absurd second
one_input_refusal name scale input (BadText f) Usage first second = absurd second
one_input_refusal name scale input (BadText f) ReadFault first second = absurd second
one_input_refusal name scale input (BadText f) WriteFault first second = absurd second
one_input_refusal name scale input (BadText f) TooLong first second = absurd second
one_input_refusal name scale input (BadText f) NoMemory first second = absurd second
one_input_refusal name scale input (BadText f) (NotValid mark) first second = absurd second
one_input_refusal name scale input (BadText f) (BadPoints g) first second = absurd second
one_input_refusal name scale input (BadText f) (TooMany count) first second = absurd second
one_input_refusal name scale input (BadJson f) Done first second = absurd second
one_input_refusal name scale input (BadJson f) (Marked edges) first second = absurd second
one_input_refusal name scale input (BadJson f) (Sampled m p q) first second = absurd second
one_input_refusal name scale input (BadJson f) Usage first second = absurd second
one_input_refusal name scale input (BadJson f) ReadFault first second = absurd second
one_input_refusal name scale input (BadJson f) WriteFault first second = absurd second
one_input_refusal name scale input (BadJson f) TooLong first second = absurd second
one_input_refusal name scale input (BadJson f) NoMemory first second = absurd second
one_input_refusal name scale input (BadJson f) (NotValid mark) first second = absurd second
one_input_refusal name scale input (BadJson f) (BadPoints g) first second = absurd second
one_input_refusal name scale input (BadJson f) (TooMany count) first second = absurd second
one_input_refusal name scale input _ p first second = absurd first

input_refusal : (name : List ℕ) (scale : Option ℕ) (input : List ℕ) (o : Outcome) → RefusesInput name scale input o → IsTrue (is_refusal o)
input_refusal name scale input (BadText f) refuses = refl
input_refusal name scale input (BadJson f) refuses = refl
input_refusal name scale input _ refuses = absurd refuses

-- an input that is read is not refused
pub not_read_and_refused : (name : List ℕ) (scale : Option ℕ) (input : List ℕ) (P : Reading → Type 0) (o : Outcome) → IsReadAnd name scale input P → RefusesInput name scale input o → ⊥
not_read_and_refused name scale input P (BadText f) read refuses = read_faultless name scale input read.reading (Text f) read.reads refuses
not_read_and_refused name scale input P (BadJson f) read refuses = read_faultless name scale input read.reading (Json f) read.reads refuses
not_read_and_refused name scale input P _ read refuses = absurd refuses

-- ---- coverages that are not valid

-- a coverage that is not admitted is refused for its cause
pub admit_refused : (e : AdmitError) (name : List ℕ) (scale : Option ℕ) (input : List ℕ) (r : Reading) → IsRead name scale input r → IsRefusal r.members e → IsRefusedFor (RefusesInvalid name scale input) (outcome_of_refusal e)
admit_refused (NotAdmitted coverage mark) name scale input r reads refusal = inr (inr (record { reading = r; reads = reads; holds = (refusal.1, refusal.2) }))
admit_refused (NoAdmitMemory coverage) name scale input r reads refusal = inl refl

-- what refuses an input, refuses its union
pub invalid_refused : (name : List ℕ) (scale : Option ℕ) (input : List ℕ) (o : Outcome) → IsRefusedFor (RefusesInput name scale input) o → IsRefusedFor (RefusesInvalid name scale input) o
invalid_refused name scale input o (inl none) = inl none
invalid_refused name scale input o (inr refuses) = inr (inl refuses)

-- a coverage tells one first mark
one_mark : (members : Members) (o p : Outcome) → TellsMark members o → TellsMark members p → o ≡ p
one_mark members (NotValid m) (NotValid n) first second = ap NotValid (one_first_mark members m n first.0 second.0)
one_mark members (NotValid m) Done first second = absurd second
one_mark members (NotValid m) (Marked edges) first second = absurd second
one_mark members (NotValid m) (Sampled k p q) first second = absurd second
one_mark members (NotValid m) Usage first second = absurd second
one_mark members (NotValid m) ReadFault first second = absurd second
one_mark members (NotValid m) WriteFault first second = absurd second
one_mark members (NotValid m) TooLong first second = absurd second
one_mark members (NotValid m) (BadText f) first second = absurd second
one_mark members (NotValid m) (BadJson f) first second = absurd second
one_mark members (NotValid m) (BadPoints f) first second = absurd second
one_mark members (NotValid m) (TooMany count) first second = absurd second
one_mark members (NotValid m) NoMemory first second = absurd second
one_mark members _ p first second = absurd first

one_invalid_refusal : (name : List ℕ) (scale : Option ℕ) (input : List ℕ) (o p : Outcome) → RefusesInvalid name scale input o → RefusesInvalid name scale input p → o ≡ p
one_invalid_refusal name scale input o p (inl first) (inl second) = one_input_refusal name scale input o p first second
one_invalid_refusal name scale input o p (inl first) (inr read) = absurd (not_read_and_refused name scale input _ o read first)
one_invalid_refusal name scale input o p (inr read) (inl second) = absurd (not_read_and_refused name scale input _ p read second)
one_invalid_refusal name scale input o p (inr read) (inr other) =
    let same : other.reading ≡ read.reading = one_reading name scale input other.reading read.reading other.reads read.reads in
    one_mark read.reading.members o p read.holds (subst (λ (r : Reading). TellsMark r.members p) same other.holds)

mark_refusal : (members : Members) (o : Outcome) → TellsMark members o → IsTrue (is_refusal o)
mark_refusal members (NotValid mark) tells = refl
mark_refusal members _ tells = absurd tells

invalid_refusal : (name : List ℕ) (scale : Option ℕ) (input : List ℕ) (o : Outcome) → RefusesInvalid name scale input o → IsTrue (is_refusal o)
invalid_refusal name scale input o (inl refuses) = input_refusal name scale input o refuses
invalid_refusal name scale input o (inr read) = mark_refusal read.reading.members o read.holds

told_invalid : (members : Members) (o : Outcome) → TellsMark members o → ¬ IsValid (uses_of members)
told_invalid members (NotValid mark) tells = tells.1
told_invalid members _ tells = absurd tells

-- a coverage that is admitted is valid, so it is not refused
not_admitted_and_refused : (name : List ℕ) (scale : Option ℕ) (input : List ℕ) (P : Reading → Type 0) (p : Outcome) → ((r : Reading) → P r → IsValid (uses_of r.members)) → IsReadAnd name scale input P → RefusesInvalid name scale input p → ⊥
not_admitted_and_refused name scale input P p valid read (inl refuses) = not_read_and_refused name scale input _ p read refuses
not_admitted_and_refused name scale input P p valid read (inr other) =
    let same : other.reading ≡ read.reading = one_reading name scale input other.reading read.reading other.reads read.reads in
    told_invalid read.reading.members p (subst (λ (r : Reading). TellsMark r.members p) same other.holds) (valid read.reading read.holds)

-- ---- points files with a fault

-- points that are not read are refused for their cause
pub points_refused : (e : PointsError) (name input file : List ℕ) (r : Reading) → IsRead name None input r → IsFaultOf file e → IsRefusedFor (RefusesPoints name input file) (outcome_of_points e)
points_refused (points.Fault fault) name input file r reads is = inr (inr (record { reading = r; reads = reads; holds = is }))
points_refused points.NoMemory name input file r reads is = inl refl

-- what refuses an input, refuses it with points too
pub input_with_points_refused : (name input file : List ℕ) (o : Outcome) → IsRefusedFor (RefusesInput name None input) o → IsRefusedFor (RefusesPoints name input file) o
input_with_points_refused name input file o (inl none) = inl none
input_with_points_refused name input file o (inr refuses) = inr (inl refuses)

-- the fault that an outcome tells
told_fault : (file : List ℕ) (o : Outcome) → TellsPointsFault file o → (fault : PointsFault) × ((o ≡ BadPoints fault) × IsFaultOf file (points.Fault fault))
told_fault file (BadPoints fault) tells = (fault, (refl, tells))
told_fault file _ tells = absurd tells

-- a points file is refused with one outcome
one_points_refusal : (name input file : List ℕ) (o p : Outcome) → RefusesPoints name input file o → RefusesPoints name input file p → o ≡ p
one_points_refusal name input file o p (inl first) (inl second) = one_input_refusal name None input o p first second
one_points_refusal name input file o p (inl first) (inr read) = absurd (not_read_and_refused name None input _ o read first)
one_points_refusal name input file o p (inr read) (inl second) = absurd (not_read_and_refused name None input _ p read second)
one_points_refusal name input file o p (inr read) (inr other) =
    let first = told_fault file o read.holds in
    let second = told_fault file p other.holds in
    let same : Some first.0 ≡ Some second.0 = sym first.1.1 ∙ second.1.1 in
    first.1.0 ∙ cc same ∙ sym second.1.0

points_refusal : (name input file : List ℕ) (o : Outcome) → RefusesPoints name input file o → IsTrue (is_refusal o)
points_refusal name input file o (inl refuses) = input_refusal name None input o refuses
points_refusal name input file o (inr read) = ap is_refusal (told_fault file o read.holds).1.0

-- an input that is read, with points that are listed, is not refused
pub not_listed_and_refused : (name input file : List ℕ) (P : Reading → Type 0) (list : List Coord) (p : Outcome) → ArePoints file list → IsReadAnd name None input P → RefusesPoints name input file p → ⊥
not_listed_and_refused name input file P list p are read (inl refuses) = not_read_and_refused name None input P p read refuses
not_listed_and_refused name input file P list p are read (inr other) =
    let fault = told_fault file p other.holds in
    let none : None ≡ Some fault.0 = sym are.faultless ∙ fault.1.1 in
    cc

-- ---- overlays

-- two coverages that have no overlay are refused for its cause
pub overlay_refused : (a b : Members) (e : OverlayError) → IsCause a b e → IsRefusedFor (TellsTooMany a b) (outcome_of_overlay e)
overlay_refused a b (overlays.TooMany count) cause = inr cause
overlay_refused a b overlays.NoMemory cause = inl refl

-- the first coverage is not admitted, or the second is not
pub first_refused : (a b : Members) (e : AdmitError) → IsRefusal a e → IsRefusedFor (RefusesBoth a b) (outcome_of_refusal e)
first_refused a b (NotAdmitted coverage mark) refusal = inr (inl (refusal.1, refusal.2))
first_refused a b (NoAdmitMemory coverage) refusal = inl refl

pub second_refused : (a b : Members) (e : AdmitError) → IsAdmitted a → IsRefusal b e → IsRefusedFor (RefusesBoth a b) (outcome_of_refusal e)
second_refused a b (NotAdmitted coverage mark) admitted refusal = inr (inr (inl (admitted, (refusal.1, refusal.2))))
second_refused a b (NoAdmitMemory coverage) admitted refusal = inl refl

-- what refuses two coverages that are admitted, refuses the two
pub too_many_refused : (a b : Members) (o : Outcome) → IsAdmitted a → IsAdmitted b → IsRefusedFor (TellsTooMany a b) o → IsRefusedFor (RefusesBoth a b) o
too_many_refused a b o first second (inl none) = inl none
too_many_refused a b o first second (inr tells) = inr (inr (inr (first, second, tells)))

-- what refuses the first input, the second one, or the coverages that they are read as, refuses the two inputs
pub first_input_refused : (first second a b : List ℕ) (o : Outcome) → IsRefusedFor (RefusesInput first None a) o → IsRefusedFor (RefusesOverlay first second a b) o
first_input_refused first second a b o (inl none) = inl none
first_input_refused first second a b o (inr refuses) = inr (inl refuses)

pub second_input_refused : (first second a b : List ℕ) (r : Reading) (o : Outcome) → IsRead first None a r → IsRefusedFor (RefusesInput second None b) o → IsRefusedFor (RefusesOverlay first second a b) o
second_input_refused first second a b r o reads (inl none) = inl none
second_input_refused first second a b r o reads (inr refuses) = inr (inr (record { reading = r; reads = reads; holds = inl refuses }))

pub both_refused : (first second a b : List ℕ) (r s : Reading) (o : Outcome) → IsRead first None a r → IsRead second None b s → IsRefusedFor (RefusesBoth r.members s.members) o
    → IsRefusedFor (RefusesOverlay first second a b) o
both_refused first second a b r s o reads reads_too (inl none) = inl none
both_refused first second a b r s o reads reads_too (inr refuses) =
    inr (inr (record { reading = r; reads = reads; holds = inr (record { reading = s; reads = reads_too; holds = refuses }) }))

-- the number that an outcome tells
told_count : (a b : Members) (o : Outcome) → TellsTooMany a b o → (count : ℕ) × ((o ≡ TooMany count) × IsCause a b (overlays.TooMany count))
told_count a b (TooMany count) tells = (count, (refl, tells))
told_count a b _ tells = absurd tells

module _ (a b : Members) (first : IsAdmitted a) (second : IsAdmitted b) where
  -- where two coverages have few members, they have one list of pairs
  one_list : length a + length b < 2 ^ 32 → (pairs others : List Pair) → AreJointPairs a b pairs → AreJointPairs a b others → pairs ≡ others
  one_list few = one_joint_pairs a b (joint_in_range a b first.formed.in_range second.formed.in_range few)

  -- they have too many in one way
  one_count : (m n : ℕ) → IsCause a b (overlays.TooMany m) → IsCause a b (overlays.TooMany n) → m ≡ n
  one_count m n (inl h) (inl k) = h.counted ∙ sym k.counted
  one_count m n (inl h) (inr k) = absurd (omega (arith, h.many, k.few))
  one_count m n (inr h) (inl k) = absurd (omega (arith, h.few, k.many))
  one_count m n (inr h) (inr k) = h.counted ∙ ap length (one_list h.few h.pairs k.pairs h.are_pairs k.are_pairs) ∙ sym k.counted

  -- an overlay has not too many
  not_too_many : (count : ℕ) (pairs : List Pair) → length a + length b < 2 ^ 32 → length pairs < 2 ^ 32 → AreJointPairs a b pairs → IsCause a b (overlays.TooMany count) → ⊥
  not_too_many count pairs few few_pairs are (inl h) = absurd (omega (arith, h.many, few))
  not_too_many count pairs few few_pairs are (inr h) =
      absurd (omega (arith, h.many, few_pairs, ap length (one_list few h.pairs pairs h.are_pairs are)))

one_both_refusal : (a b : Members) (o p : Outcome) → RefusesBoth a b o → RefusesBoth a b p → o ≡ p
one_both_refusal a b o p (inl h) (inl k) = one_mark a o p h k
one_both_refusal a b o p (inl h) (inr (inl k)) = absurd (told_invalid a o h k.0.valid)
one_both_refusal a b o p (inl h) (inr (inr k)) = absurd (told_invalid a o h k.0.valid)
one_both_refusal a b o p (inr (inl h)) (inl k) = absurd (told_invalid a p k h.0.valid)
one_both_refusal a b o p (inr (inl h)) (inr (inl k)) = one_mark b o p h.1 k.1
one_both_refusal a b o p (inr (inl h)) (inr (inr k)) = absurd (told_invalid b o h.1 k.1.valid)
one_both_refusal a b o p (inr (inr h)) (inl k) = absurd (told_invalid a p k h.0.valid)
one_both_refusal a b o p (inr (inr h)) (inr (inl k)) = absurd (told_invalid b p k.1 h.1.valid)
one_both_refusal a b o p (inr (inr h)) (inr (inr k)) =
    let told = told_count a b o h.2 in
    let told_too = told_count a b p k.2 in
    told.1.0 ∙ ap TooMany (one_count a b h.0 h.1 told.0 told_too.0 told.1.1 told_too.1.1) ∙ sym told_too.1.0

one_second_refusal : (a : Members) (name input : List ℕ) (o p : Outcome) → RefusesSecond a name input o → RefusesSecond a name input p → o ≡ p
one_second_refusal a name input o p (inl h) (inl k) = one_input_refusal name None input o p h k
one_second_refusal a name input o p (inl h) (inr k) = absurd (not_read_and_refused name None input _ o k h)
one_second_refusal a name input o p (inr h) (inl k) = absurd (not_read_and_refused name None input _ p h k)
one_second_refusal a name input o p (inr h) (inr k) =
    let same : k.reading ≡ h.reading = one_reading name None input k.reading h.reading k.reads h.reads in
    one_both_refusal a h.reading.members o p h.holds (subst (λ (s : Reading). RefusesBoth a s.members p) same k.holds)

-- two inputs are refused with one outcome
one_overlay_refusal : (first second a b : List ℕ) (o p : Outcome) → RefusesOverlay first second a b o → RefusesOverlay first second a b p → o ≡ p
one_overlay_refusal first second a b o p (inl h) (inl k) = one_input_refusal first None a o p h k
one_overlay_refusal first second a b o p (inl h) (inr k) = absurd (not_read_and_refused first None a _ o k h)
one_overlay_refusal first second a b o p (inr h) (inl k) = absurd (not_read_and_refused first None a _ p h k)
one_overlay_refusal first second a b o p (inr h) (inr k) =
    let same : k.reading ≡ h.reading = one_reading first None a k.reading h.reading k.reads h.reads in
    one_second_refusal h.reading.members second b o p h.holds (subst (λ (r : Reading). RefusesSecond r.members second b p) same k.holds)

both_refusal : (a b : Members) (o : Outcome) → RefusesBoth a b o → IsTrue (is_refusal o)
both_refusal a b o (inl h) = mark_refusal a o h
both_refusal a b o (inr (inl h)) = mark_refusal b o h.1
both_refusal a b o (inr (inr h)) = ap is_refusal (told_count a b o h.2).1.0

second_refusal : (a : Members) (name input : List ℕ) (o : Outcome) → RefusesSecond a name input o → IsTrue (is_refusal o)
second_refusal a name input o (inl refuses) = input_refusal name None input o refuses
second_refusal a name input o (inr read) = both_refusal a read.reading.members o read.holds

overlay_refusal : (first second a b : List ℕ) (o : Outcome) → RefusesOverlay first second a b o → IsTrue (is_refusal o)
overlay_refusal first second a b o (inl refuses) = input_refusal first None a o refuses
overlay_refusal first second a b o (inr read) = second_refusal read.reading.members second b o read.holds

-- two valid coverages that have not too many are not refused
not_both_refused : (a b : Members) (p : Outcome) → IsValid (uses_of a) → IsValid (uses_of b) → ¬ TellsTooMany a b p → RefusesBoth a b p → ⊥
not_both_refused a b p valid valid_too few (inl h) = told_invalid a p h valid
not_both_refused a b p valid valid_too few (inr (inl h)) = told_invalid b p h.1 valid_too
not_both_refused a b p valid valid_too few (inr (inr h)) = few h.2

not_second_refused : (a : Members) (name input : List ℕ) (s : Reading) (p : Outcome) → IsRead name None input s → (RefusesBoth a s.members p → ⊥) → RefusesSecond a name input p → ⊥
not_second_refused a name input s p reads not (inl refuses) = not_read_and_refused name None input (λ t. t ≡ s) p (record { reading = s; reads = reads; holds = refl }) refuses
not_second_refused a name input s p reads not (inr other) =
    let same : other.reading ≡ s = one_reading name None input other.reading s other.reads reads in
    not (subst (λ (t : Reading). RefusesBoth a t.members p) same other.holds)

-- two inputs that are read as such coverages are not refused
pub not_overlaid_and_refused : (first second a b : List ℕ) (r s : Reading) (p : Outcome) → IsRead first None a r → IsRead second None b s → IsValid (uses_of r.members) → IsValid (uses_of s.members)
    → ¬ TellsTooMany r.members s.members p → RefusesOverlay first second a b p → ⊥
not_overlaid_and_refused first second a b r s p reads reads_too valid valid_too few (inl refuses) =
    not_read_and_refused first None a (λ t. t ≡ r) p (record { reading = r; reads = reads; holds = refl }) refuses
not_overlaid_and_refused first second a b r s p reads reads_too valid valid_too few (inr other) =
    let same : other.reading ≡ r = one_reading first None a other.reading r other.reads reads in
    not_second_refused r.members second b s p reads_too (not_both_refused r.members s.members p valid valid_too few)
    (subst (λ (t : Reading). RefusesSecond t.members second b p) same other.holds)

-- what is overlaid has not too many
not_told_too_many : (to : List ℕ) (a b : Members) (o p : Outcome) (text : List ℕ) → IsOverlaying to a b o text → TellsTooMany a b p → ⊥
not_told_too_many to a b o p text made tells =
    let told = told_count a b p tells in
    let pairs : AreJointPairs a b made.pairs = record { overlay = made.overlaid.overlay; is_overlay = made.overlaid.is_overlay; are_pairs = made.overlaid.are_pairs } in
    not_too_many a b made.first made.second told.0 made.pairs made.few_members made.few_pairs pairs told.1.1

-- ---- operations

-- what follows for one input, follows for the inputs where there is one
pub of_one : (inputs : List (List ℕ)) (P : List ℕ → Type 0) (C : Type 0) → ((input : List ℕ) → P input → C) → IsOneAnd inputs P → C
of_one [] P C follows one = absurd one
of_one (input ∷ []) P C follows one = follows input one
of_one (input ∷ more ∷ rest) P C follows one = absurd one

pub of_both : (inputs : List (List ℕ)) (P Q : List ℕ → Type 0) (C : Type 0) → ((input : List ℕ) → P input → Q input → C) → IsOneAnd inputs P → IsOneAnd inputs Q → C
of_both [] P Q C follows first second = absurd first
of_both (input ∷ []) P Q C follows first second = follows input first second
of_both (input ∷ more ∷ rest) P Q C follows first second = absurd first

-- and for two inputs
pub of_two : (inputs : List (List ℕ)) (P : List ℕ → List ℕ → Type 0) (C : Type 0) → ((input file : List ℕ) → P input file → C) → IsTwoAnd inputs P → C
of_two [] P C follows two = absurd two
of_two (input ∷ []) P C follows two = absurd two
of_two (input ∷ file ∷ []) P C follows two = follows input file two
of_two (input ∷ file ∷ more ∷ rest) P C follows two = absurd two

pub of_both_two : (inputs : List (List ℕ)) (P Q : List ℕ → List ℕ → Type 0) (C : Type 0) → ((input file : List ℕ) → P input file → Q input file → C) → IsTwoAnd inputs P → IsTwoAnd inputs Q → C
of_both_two [] P Q C follows first second = absurd first
of_both_two (input ∷ []) P Q C follows first second = absurd first
of_both_two (input ∷ file ∷ []) P Q C follows first second = follows input file first second
of_both_two (input ∷ file ∷ more ∷ rest) P Q C follows first second = absurd first

pub one_refusal : (operation : Task) (inputs : List (List ℕ)) (o p : Outcome) → Refuses operation inputs o → Refuses operation inputs p → o ≡ p
one_refusal (Validate gap scale from to) inputs o p = of_both inputs _ _ (o ≡ p) (λ input. one_input_refusal from scale input o p)
one_refusal (MapFaults gap scale from to) inputs o p = of_both inputs _ _ (o ≡ p) (λ input. one_input_refusal from scale input o p)
one_refusal (Clean rule gap too scale from to) inputs o p = of_both inputs _ _ (o ≡ p) (λ input. one_input_refusal from scale input o p)
one_refusal (Simplify tolerance inner scale from to) inputs o p = of_both inputs _ _ (o ≡ p) (λ input. one_invalid_refusal from scale input o p)
one_refusal (Union scale from to) inputs o p = of_both inputs _ _ (o ≡ p) (λ input. one_invalid_refusal from scale input o p)
one_refusal (Node scale from to) inputs o p = of_both inputs _ _ (o ≡ p) (λ input. one_input_refusal from scale input o p)
one_refusal (Regions scale from to) inputs o p = of_both inputs _ _ (o ≡ p) (λ input. one_input_refusal from scale input o p)
one_refusal (Sample side seed to) inputs o p = λ first second. absurd first
one_refusal (Locate from points to) inputs o p = of_both_two inputs _ _ (o ≡ p) (λ input file. one_points_refusal from input file o p)
one_refusal (Overlay first second to) inputs o p = of_both_two inputs _ _ (o ≡ p) (λ a b. one_overlay_refusal first second a b o p)

pub refuses_refusal : (operation : Task) (inputs : List (List ℕ)) (o : Outcome) → Refuses operation inputs o → IsTrue (is_refusal o)
refuses_refusal (Validate gap scale from to) inputs o = of_one inputs _ (IsTrue (is_refusal o)) (λ input. input_refusal from scale input o)
refuses_refusal (MapFaults gap scale from to) inputs o = of_one inputs _ (IsTrue (is_refusal o)) (λ input. input_refusal from scale input o)
refuses_refusal (Clean rule gap too scale from to) inputs o = of_one inputs _ (IsTrue (is_refusal o)) (λ input. input_refusal from scale input o)
refuses_refusal (Simplify tolerance inner scale from to) inputs o = of_one inputs _ (IsTrue (is_refusal o)) (λ input. invalid_refusal from scale input o)
refuses_refusal (Union scale from to) inputs o = of_one inputs _ (IsTrue (is_refusal o)) (λ input. invalid_refusal from scale input o)
refuses_refusal (Node scale from to) inputs o = of_one inputs _ (IsTrue (is_refusal o)) (λ input. input_refusal from scale input o)
refuses_refusal (Regions scale from to) inputs o = of_one inputs _ (IsTrue (is_refusal o)) (λ input. input_refusal from scale input o)
refuses_refusal (Sample side seed to) inputs o = λ refuses. absurd refuses
refuses_refusal (Locate from points to) inputs o = of_two inputs _ (IsTrue (is_refusal o)) (λ input file. points_refusal from input file o)
refuses_refusal (Overlay first second to) inputs o = of_two inputs _ (IsTrue (is_refusal o)) (λ a b. overlay_refusal first second a b o)

-- of inputs that are refused no text is made
pub not_both : (operation : Task) (inputs : List (List ℕ)) (o p : Outcome) (text : List ℕ) → Makes operation inputs o text → Refuses operation inputs p → ⊥
not_both (Validate gap scale from to) inputs o p text = of_both inputs _ _ ⊥ (λ input. not_read_and_refused from scale input _ p)
not_both (MapFaults gap scale from to) inputs o p text = of_both inputs _ _ ⊥ (λ input. not_read_and_refused from scale input _ p)
not_both (Clean rule gap too scale from to) inputs o p text = of_both inputs _ _ ⊥ (λ input. not_read_and_refused from scale input _ p)
not_both (Simplify tolerance inner scale from to) inputs o p text = of_both inputs _ _ ⊥ (λ input. not_admitted_and_refused from scale input _ p (λ r simplifying. simplifying.admitted))
not_both (Union scale from to) inputs o p text = of_both inputs _ _ ⊥ (λ input. not_admitted_and_refused from scale input _ p (λ r uniting. uniting.admitted))
not_both (Node scale from to) inputs o p text = of_both inputs _ _ ⊥ (λ input. not_read_and_refused from scale input _ p)
not_both (Regions scale from to) inputs o p text = of_both inputs _ _ ⊥ (λ input. not_read_and_refused from scale input _ p)
not_both (Sample side seed to) inputs o p text = λ makes refuses. refuses
not_both (Locate from points to) inputs o p text = of_both_two inputs _ _ ⊥ (λ input file made. not_listed_and_refused from input file _ made.holds.points p made.holds.points_are made)
not_both (Overlay first second to) inputs o p text = of_both_two inputs _ _ ⊥ (λ a b made.
    not_overlaid_and_refused first second a b made.reading made.holds.reading p made.reads made.holds.reads made.holds.holds.first.valid made.holds.holds.second.valid
    (not_told_too_many to made.reading.members made.holds.reading.members o p text made.holds.holds))

marking_success : (edges : ℕ) → IsTrue (is_success (marking edges))
marking_success zero = refl
marking_success (suc edges) = refl

-- what an operation answers with a text is a success
pub makes_success : (operation : Task) (inputs : List (List ℕ)) (o : Outcome) (text : List ℕ) → Makes operation inputs o text → IsTrue (is_success o)
makes_success (Validate gap scale from to) inputs o text = of_one inputs _ (IsTrue (is_success o)) (λ input makes. ap is_success makes.holds.counted ∙ marking_success _)
makes_success (MapFaults gap scale from to) inputs o text = of_one inputs _ (IsTrue (is_success o)) (λ input makes. ap is_success makes.holds.counted ∙ marking_success _)
makes_success (Clean rule gap too scale from to) inputs o text = of_one inputs _ (IsTrue (is_success o)) (λ input makes. ap is_success makes.holds.done)
makes_success (Simplify tolerance inner scale from to) inputs o text = of_one inputs _ (IsTrue (is_success o)) (λ input makes. ap is_success makes.holds.done)
makes_success (Union scale from to) inputs o text = of_one inputs _ (IsTrue (is_success o)) (λ input makes. ap is_success makes.holds.done)
makes_success (Node scale from to) inputs o text = of_one inputs _ (IsTrue (is_success o)) (λ input makes. ap is_success makes.holds.done)
makes_success (Regions scale from to) inputs o text = of_one inputs _ (IsTrue (is_success o)) (λ input makes. ap is_success makes.holds.done)
makes_success (Sample side seed to) inputs o text = λ makes. ap is_success makes.counted
makes_success (Locate from points to) inputs o text = of_two inputs _ (IsTrue (is_success o)) (λ input file makes. ap is_success makes.holds.done)
makes_success (Overlay first second to) inputs o text = of_two inputs _ (IsTrue (is_success o)) (λ a b makes. ap is_success makes.holds.holds.done)

-- only validate answers marks
pub makes_marked : (operation : Task) (inputs : List (List ℕ)) (o : Outcome) (text : List ℕ) → Makes operation inputs o text → IsTrue (is_marked o) → IsTrue (is_validate operation)
makes_marked (Validate gap scale from to) inputs o text makes marks = refl
makes_marked (MapFaults gap scale from to) inputs o text makes marks = refl
makes_marked (Clean rule gap too scale from to) inputs o text makes marks = of_one inputs _ (IsTrue false) (λ input cleaning. sym (ap is_marked cleaning.holds.done) ∙ marks) makes
makes_marked (Simplify tolerance inner scale from to) inputs o text makes marks = of_one inputs _ (IsTrue false) (λ input simplifying. sym (ap is_marked simplifying.holds.done) ∙ marks) makes
makes_marked (Union scale from to) inputs o text makes marks = of_one inputs _ (IsTrue false) (λ input uniting. sym (ap is_marked uniting.holds.done) ∙ marks) makes
makes_marked (Node scale from to) inputs o text makes marks = of_one inputs _ (IsTrue false) (λ input noding. sym (ap is_marked noding.holds.done) ∙ marks) makes
makes_marked (Regions scale from to) inputs o text makes marks = of_one inputs _ (IsTrue false) (λ input listing. sym (ap is_marked listing.holds.done) ∙ marks) makes
makes_marked (Sample side seed to) inputs o text makes marks = sym (ap is_marked makes.counted) ∙ marks
makes_marked (Locate from points to) inputs o text makes marks = of_two inputs _ (IsTrue false) (λ input file locating. sym (ap is_marked locating.holds.done) ∙ marks) makes
makes_marked (Overlay first second to) inputs o text makes marks = of_two inputs _ (IsTrue false) (λ a b overlaying. sym (ap is_marked overlaying.holds.holds.done) ∙ marks) makes

marking_some : (edges : ℕ) → marking edges ≢ Marked 0
marking_some zero h = cc
marking_some (suc edges) h = cc

-- and none answers that no segments are marked
pub makes_some : (operation : Task) (inputs : List (List ℕ)) (o : Outcome) (text : List ℕ) → Makes operation inputs o text → o ≢ Marked 0
makes_some (Validate gap scale from to) inputs o text makes h = of_one inputs _ ⊥ (λ input valid. marking_some _ (sym valid.holds.counted ∙ h)) makes
makes_some (MapFaults gap scale from to) inputs o text makes h = of_one inputs _ ⊥ (λ input valid. marking_some _ (sym valid.holds.counted ∙ h)) makes
makes_some (Clean rule gap too scale from to) inputs o text makes h = of_one inputs _ ⊥ (λ input cleaning. (let e : Done ≡ Marked 0 = sym cleaning.holds.done ∙ h in cc)) makes
makes_some (Simplify tolerance inner scale from to) inputs o text makes h = of_one inputs _ ⊥ (λ input simplifying. (let e : Done ≡ Marked 0 = sym simplifying.holds.done ∙ h in cc)) makes
makes_some (Union scale from to) inputs o text makes h = of_one inputs _ ⊥ (λ input uniting. (let e : Done ≡ Marked 0 = sym uniting.holds.done ∙ h in cc)) makes
makes_some (Node scale from to) inputs o text makes h = of_one inputs _ ⊥ (λ input noding. (let e : Done ≡ Marked 0 = sym noding.holds.done ∙ h in cc)) makes
makes_some (Regions scale from to) inputs o text makes h = of_one inputs _ ⊥ (λ input listing. (let e : Done ≡ Marked 0 = sym listing.holds.done ∙ h in cc)) makes
makes_some (Sample side seed to) inputs o text makes h = (let e : true ≡ false = sym (ap is_sampled makes.counted) ∙ ap is_sampled h in cc)
makes_some (Locate from points to) inputs o text makes h = of_two inputs _ ⊥ (λ input file locating. (let e : Done ≡ Marked 0 = sym locating.holds.done ∙ h in cc)) makes
makes_some (Overlay first second to) inputs o text makes h = of_two inputs _ ⊥ (λ a b overlaying. (let e : Done ≡ Marked 0 = sym overlaying.holds.holds.done ∙ h in cc)) makes

marking_none_sampled : (edges : ℕ) → is_sampled (marking edges) ≡ false
marking_none_sampled zero = refl
marking_none_sampled (suc edges) = refl

-- sample answers counts, and no other operation does
pub makes_sampled : (operation : Task) (inputs : List (List ℕ)) (o : Outcome) (text : List ℕ) → Makes operation inputs o text → is_sampled o ≡ is_sample operation
makes_sampled (Validate gap scale from to) inputs o text = of_one inputs _ (is_sampled o ≡ false) (λ input makes. ap is_sampled makes.holds.counted ∙ marking_none_sampled _)
makes_sampled (MapFaults gap scale from to) inputs o text = of_one inputs _ (is_sampled o ≡ false) (λ input makes. ap is_sampled makes.holds.counted ∙ marking_none_sampled _)
makes_sampled (Clean rule gap too scale from to) inputs o text = of_one inputs _ (is_sampled o ≡ false) (λ input makes. ap is_sampled makes.holds.done)
makes_sampled (Simplify tolerance inner scale from to) inputs o text = of_one inputs _ (is_sampled o ≡ false) (λ input makes. ap is_sampled makes.holds.done)
makes_sampled (Union scale from to) inputs o text = of_one inputs _ (is_sampled o ≡ false) (λ input makes. ap is_sampled makes.holds.done)
makes_sampled (Node scale from to) inputs o text = of_one inputs _ (is_sampled o ≡ false) (λ input makes. ap is_sampled makes.holds.done)
makes_sampled (Regions scale from to) inputs o text = of_one inputs _ (is_sampled o ≡ false) (λ input makes. ap is_sampled makes.holds.done)
makes_sampled (Sample side seed to) inputs o text = λ makes. ap is_sampled makes.counted
makes_sampled (Locate from points to) inputs o text = of_two inputs _ (is_sampled o ≡ false) (λ input file locating. ap is_sampled locating.holds.done)
makes_sampled (Overlay first second to) inputs o text = of_two inputs _ (is_sampled o ≡ false) (λ a b overlaying. ap is_sampled overlaying.holds.holds.done)

-- ---- the kinds of answers

-- an answer of one kind is none of another
pub differs : (kind : Outcome → Bool) (o p : Outcome) → IsTrue (kind o) → kind p ≡ false → o ≢ p
differs kind o p is not same = (let e : true ≡ false = sym is ∙ ap kind same ∙ not in cc)

pub refusal_no_success : (o : Outcome) → IsTrue (is_refusal o) → is_success o ≡ false
refusal_no_success Done refusal = cc
refusal_no_success (Marked edges) refusal = cc
refusal_no_success (Sampled m p q) refusal = cc
refusal_no_success _ refusal = refl

-- a refusal of what was read touches no output, and a success does
pub refusal_no_touch : (o : Outcome) → IsTrue (is_refusal o) → touches_output o ≡ false
refusal_no_touch (BadText fault) refusal = refl
refusal_no_touch (BadJson fault) refusal = refl
refusal_no_touch (BadPoints fault) refusal = refl
refusal_no_touch (TooMany count) refusal = refl
refusal_no_touch _ refusal = cc

pub success_touches : (o : Outcome) → IsTrue (is_success o) → IsTrue (touches_output o)
success_touches Done success = refl
success_touches (Marked edges) success = refl
success_touches (Sampled m p q) success = refl
success_touches _ success = cc

pub marked_success : (o : Outcome) → IsTrue (is_marked o) → IsTrue (is_success o)
marked_success (Marked edges) marks = refl
marked_success _ marks = cc

pub success_no_refusal : (o : Outcome) → IsTrue (is_success o) → is_refusal o ≡ false
success_no_refusal (BadText fault) success = cc
success_no_refusal (BadJson fault) success = cc
success_no_refusal (BadPoints fault) success = cc
success_no_refusal (NotValid mark) success = cc
success_no_refusal (TooMany count) success = cc
success_no_refusal _ success = refl

-- what doesn't touch the output is no success
pub untouching_no_success : (o : Outcome) → touches_output o ≡ false → is_success o ≡ false
untouching_no_success WriteFault h = refl
untouching_no_success Done h = h
untouching_no_success (Marked edges) h = h
untouching_no_success (Sampled m p q) h = h
untouching_no_success _ h = refl
