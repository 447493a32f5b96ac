-- What overlaying two coverages answers and writes.
use Rattle.std.specs.Prelude.{◌≡◌, ◌⊎◌, ℕ, ◌+◌, ◌<◌, ◌^◌, List, None, length, map, replicate, codes}
use Rattle.cov_overlay.specs.TooMany.{IsCause}
use Rattle.cov_overlay.specs.declared.error.OverlayError.TheVariants as overlays
use Rattle.cov_types.specs.Coverage.{Members, IsFormed}
use Rattle.cov_types.specs.Uses.{uses_of}
use Rattle.feature_files.specs.Form.{IsWrittenAs}
use Rattle.geo_json.specs.Reading.{Reading}
use Rattle.overlaid_laws.specs.Overlaid.{IsOverlaid}
use Rattle.overlaid_laws.specs.declared.pair.Pair.{Pair}
use Rattle.plane.specs.Validity.{IsValid}
use Rattle.serde_json.specs.Data.{Data, null, number, unsigned, object, member, no_members}
use Rattle.cover_cli.specs.Invalid.{TellsMark}
use Rattle.cover_cli.specs.Text.{IsReadAnd, RefusesInput}
use Rattle.cover_cli.specs.declared.outcome.Outcome.{Outcome}
use Rattle.cover_cli.specs.declared.outcome.Outcome.TheVariants.{Done, TooMany}

-- ---- what is written

-- the properties of the feature of a pair: its member of the first coverage as `a`, and that of the second as `b`
abbrev pub pair_properties : Pair → Data
pair_properties pair = object (member (codes "a") (number (unsigned pair.a)) (member (codes "b") (number (unsigned pair.b)) no_members))

-- the members of an overlay with the properties of their pairs and no ids
abbrev pub with_pairs : List Pair → Members → Reading
with_pairs pairs out = record { members = out; properties = map pair_properties pairs; ids = replicate (length out) null }

-- the coverage is formed and valid
pub record IsAdmitted (members : Members) : Type 0 where
  pub formed : IsFormed members
  pub valid : IsValid (uses_of members)

-- both coverages are valid and have few enough members and pairs, it is done, and the text is the written form, by the name of the output, of their overlay, which is
-- valid too, each member with the properties of its pair and no id
pub record IsOverlaying (to : List ℕ) (a b : Members) (outcome : Outcome) (text : List ℕ) : Type 0 where
  pub first : IsAdmitted a
  pub second : IsAdmitted b
  pub few_members : length a + length b < 2 ^ 32
  pub done : outcome ≡ Done
  pub pairs : List Pair
  pub out : Members
  pub overlaid : IsOverlaid a b pairs out
  pub few_pairs : length pairs < 2 ^ 32
  pub valid : IsValid (uses_of out)
  pub formed : IsFormed out
  pub written : IsWrittenAs to None (with_pairs pairs out) text

-- ---- what refuses two inputs

-- the two have too many members or pairs for an overlay, and the outcome tells how many
abbrev pub TellsTooMany : Members → Members → Outcome → Type 0
TellsTooMany a b (TooMany count) = IsCause a b (overlays.TooMany count)
TellsTooMany a b outcome = ⊥

-- the first coverage is not valid, and the outcome tells its first mark; or it is, and the second is not; or both are, and have too many members or pairs
abbrev pub RefusesBoth : Members → Members → Outcome → Type 0
RefusesBoth a b outcome = TellsMark a outcome ⊎ ((IsAdmitted a × TellsMark b outcome) ⊎ (IsAdmitted a × IsAdmitted b × TellsTooMany a b outcome))

-- beside a first coverage, an input of this name has a fault; or it is read as a second coverage, and the two are refused
abbrev pub RefusesSecond : Members → List ℕ → List ℕ → Outcome → Type 0
RefusesSecond a name input outcome = RefusesInput name None input outcome ⊎ IsReadAnd name None input (λ s. RefusesBoth a s.members outcome)

-- of two inputs, each of its name, the first has a fault; or it is read as a coverage, and the second is refused beside it
abbrev pub RefusesOverlay : List ℕ → List ℕ → List ℕ → List ℕ → Outcome → Type 0
RefusesOverlay first second a b outcome = RefusesInput first None a outcome ⊎ IsReadAnd first None a (λ r. RefusesSecond r.members second b outcome)
