-- The overlay that labels of live edges are those of.
use Rattle.std.proofs.Common.{◌≡◌, refl, sym, subst, ℕ, ◌<◌, List}
use Rattle.std.specs.Prelude.{All}
use Rattle.cov_types.specs.declared.seg.Seg.{Seg}
use Rattle.plane.specs.Region.{AreRegions}
use Rattle.arrangement.specs.declared.odd_use.OddUse.{OddUse}
use Rattle.cov_clean.specs.SnappedEdges.{overlay_of}
use Rattle.owner_label.specs.Labelled.{Labelled, IsOverlay}

-- the labels of live edges are those of this overlay
pub is_overlay_of : (l : Labelled) (edges : List Seg) (odd : List OddUse) (members : ℕ) (numbers : List ℕ) → l ≡ record { edges = edges; odd = odd } → All (λ o. o.member < members) odd → AreRegions edges numbers
    → IsOverlay l (overlay_of edges odd members numbers)
is_overlay_of l edges odd members numbers same all numbered =
    let whole : IsOverlay (record { edges = edges; odd = odd }) (overlay_of edges odd members numbers) = record { edges = refl; uses = refl; members = all; numbered = numbered } in
    subst (λ (k : Labelled). IsOverlay k (overlay_of edges odd members numbers)) (sym same) whole
