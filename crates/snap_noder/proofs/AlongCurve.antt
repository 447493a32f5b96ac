-- Uses that are sorted along the curve.
use mathlib.Core.List.{[], ◌∷◌}
use Rattle.std.proofs.Common.{◌≡◌, refl, sym, ◌∙◌, ap, subst, ℕ, List, map, IsPermutation}
use Rattle.std.proofs.lemmas.List.Sorted.{IsPermutation-map}
use Rattle.cov_types.specs.declared.edge_use.EdgeUse.{EdgeUse}
use Rattle.cov_types.specs.declared.seg.Seg.{Seg}
use Rattle.snap_noder.specs.Along.{keyed_of, use_of}

-- a use is that of its key
keyless : (uses : List EdgeUse) → map use_of (map keyed_of uses) ≡ uses
keyless [] = refl
keyless (u ∷ uses) = ap (λ us. u ∷ us) (keyless uses)

-- what is left after the sort has the same uses
pub along_permuted : (uses along : List EdgeUse) (keyed sorted : List (ℕ × (Seg × ℕ))) → keyed ≡ map keyed_of uses → IsPermutation keyed sorted → along ≡ map use_of sorted → IsPermutation uses along
along_permuted uses along keyed sorted are moved mapped =
    subst (λ us. IsPermutation us along) (ap (map use_of) are ∙ keyless uses) (subst (λ us. IsPermutation (map use_of keyed) us) (sym mapped) (IsPermutation-map use_of keyed sorted moved))
