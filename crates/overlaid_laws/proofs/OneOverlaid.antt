-- Two coverages have one overlay.
use Rattle.std.proofs.Common.{◌≡◌, sym, subst, ℕ, List, ◌++◌, length}
use Rattle.std.specs.Prelude.{Option}
use Rattle.cov_types.specs.Coverage.{Members, AllInRange}
use Rattle.arrangement.specs.Overlay.{Overlay}
use Rattle.sound_polygons.specs.Cleaned.{IsBuilt}
use Rattle.sound_polygons.proofs.OneCleaned.{one_built}
use Rattle.overlaid_laws.specs.declared.pair.Pair.{Pair}
use Rattle.overlaid_laws.specs.Overlaid.{AreOverlaidOwners, IsOverlaid}
use Rattle.overlaid_laws.specs.Pairs.{ArePairs}
use Rattle.overlaid_laws.proofs.OnePairs.{one_pairs, one_joint}
use Rattle.overlaid_laws.proofs.PairOwners.{one_owning}
use Rattle.overlaid_laws.proofs.SnappedLabels.{live}

-- what is built on an overlay
record IsBuiltOn (n : ℕ) (o : Overlay) (pairs : List Pair) (out : Members) : Type 0 where
  are_pairs : ArePairs n o pairs
  owners : ℕ → Option ℕ
  are_owners : AreOverlaidOwners n o pairs owners
  built : IsBuilt o owners (length pairs) out

pub one_overlaid : (a b : Members) → AllInRange (a ++ b) → (pairs others : List Pair) (out other : Members) → IsOverlaid a b pairs out → IsOverlaid a b others other → (pairs ≡ others) × (out ≡ other)
one_overlaid a b in_range pairs others out other h k =
    let n = length a in
    let same : k.overlay ≡ h.overlay = one_joint a b in_range k.overlay h.overlay k.is_overlay h.is_overlay in
    let on : IsBuiltOn n h.overlay others other = subst (λ o. IsBuiltOn n o others other) same (record { are_pairs = k.are_pairs; owners = k.owners; are_owners = k.are_owners; built = k.built }) in
    let same_pairs : pairs ≡ others = one_pairs n h.overlay pairs others h.are_pairs on.are_pairs in
    let there : IsBuiltOn n h.overlay pairs other = subst (λ ps. IsBuiltOn n h.overlay ps other) (sym same_pairs) on in
    let is_live = live (a ++ b) in_range h.overlay h.is_overlay in (
      same_pairs,
      one_built h.overlay is_live.planar is_live.regions h.owners there.owners
          (one_owning n h.overlay pairs h.are_pairs.ascending h.owners there.owners h.are_owners there.are_owners)
          (length pairs) out other h.built there.built,
    )
