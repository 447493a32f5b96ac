-- Uses of which none is at fault are valid.
use Rattle.std.proofs.Common.{List, inl, inr}
use Rattle.std.specs.Prelude.{All, Contains}
use Rattle.std.proofs.lemmas.Option.{slice_get_within, get_or_from_slice_get}
use Rattle.cov_types.specs.Range.{IsSegInRange}
use Rattle.cov_types.specs.Uses.{HasEvenEnds}
use Rattle.cov_types.specs.declared.edge_use.EdgeUse.{EdgeUse}
use Rattle.plane.specs.Validity.{IsRepeated, IsValid}
use Rattle.cov_valid.specs.Corners.{AreCornersFaultless}
use Rattle.cov_valid.specs.Kinds.{HasBadContact, AreFaultless}
use Rattle.cov_valid.specs.declared.mark.Kind.TheVariants.{Meets, Repeated}
use Rattle.cov_admit.proofs.Corners.{corners_valid}
use Rattle.cov_admit.proofs.Segments.{use_by}

module _ (uses : List EdgeUse) (in_range : All (λ u. IsSegInRange u.seg) uses) (even : HasEvenEnds uses) (none : AreFaultless uses) where
  not_met : (u : EdgeUse) → Contains uses u → ¬ HasBadContact uses u.seg
  not_met u has = none u has Meets

  all_once : (u : EdgeUse) → ¬ IsRepeated uses u
  all_once u twice =
      let has : Contains uses u = (twice.first, slice_get_within uses twice.first u twice.at_first, get_or_from_slice_get uses twice.first u u twice.at_first) in
      none u has Repeated (not_met u has, twice)

  corners : AreCornersFaultless uses
  corners = record { unmet = not_met; once = all_once; corners = λ u v has_u has_v lo. inr (inl (λ member has. none (use_by member u.seg) has)) }

  pub faultless_valid : IsValid uses
  faultless_valid = corners_valid uses in_range even corners
