-- The uses of the snapped members have even ends and are of the same members, so the overlay of a coverage in range is live.
use mathlib.Core.List.{[], ◌∷◌}
use Rattle.std.proofs.Common.{◌≡◌, refl, sym, ◌∙◌, ap, subst, ℕ, ◌<◌, ◌%◌, ◌==◌, Bool, true, false, cond, List, map, length, arith}
use Rattle.std.specs.Prelude.{All, Contains, sum_by}
use Rattle.std.specs.List.{AllZip}
use Rattle.std.proofs.lemmas.List.Elements.{All-nil, All-append, All-contains, All-map, All-head, All-tail}
use Rattle.std.proofs.lemmas.List.Sums.{sum_by-cons, sum_by-append}
use Rattle.cov_types.specs.declared.coord.Coord.{Coord}
use Rattle.cov_types.specs.declared.edge_use.EdgeUse.{EdgeUse}
use Rattle.cov_types.specs.declared.seg.Seg.{Seg}
use Rattle.cov_types.specs.Coverage.{Members, AllInRange}
use Rattle.cov_types.specs.Range.{IsSegInRange}
use Rattle.cov_types.specs.Uses.{uses_of, ends_inside, HasEvenEnds}
use Rattle.cov_types.proofs.AllUses.{uses-members, uses-in_range}
use Rattle.plane.specs.Snapping.{IsChain, chain_edges}
use Rattle.plane.proofs.Sweeps.{rises-in_range}
use Rattle.crossing_laws.proofs.Coverages.{uses_even}
use Rattle.crossing_laws.proofs.Lists.{contains_here, contains_there, contains-map}
use Rattle.rounding_laws.proofs.Ends.{even_ends}
use Rattle.arrangement.specs.Live.{IsLiveOverlay}
use Rattle.arrangement.specs.Noding.{segments, AreChains, snapped_uses}
use Rattle.arrangement.specs.Overlay.{Overlay, IsSnappedOverlay}
use Rattle.arrangement.proofs.LiveOverlays.{live_overlay}
use Rattle.arrangement.proofs.SnappedPlanar.{snapped_planar}
use Rattle.cleaned_laws.proofs.Sums.{sum_map, parity_of_sum}

-- the uses of the member with the edges of a chain
abbrev chain_uses : ℕ → List Coord → List EdgeUse
chain_uses m chain = map (λ e. record { member = m; seg = e }) (chain_edges chain)

-- ---- even ends

tested_sum : (t : Bool) (f : Seg → ℕ) (edges : List Seg) → sum_by (λ e. cond t (f e) 0) edges ≡ cond t (sum_by f edges) 0
tested_sum true f edges = refl
tested_sum false f [] = refl
tested_sum false f (e ∷ edges) = sum_by-cons (λ g. cond false (f g) 0) e edges ∙ omega (arith, tested_sum false f edges)

tested_parity : (t : Bool) (m n : ℕ) → m % 2 ≡ n % 2 → cond t m 0 % 2 ≡ cond t n 0 % 2
tested_parity true m n h = h
tested_parity false m n h = refl

module _ (segs : List Seg) (inside : Coord → Bool) (member : ℕ) where
  abbrev ends : EdgeUse → ℕ
  ends u = cond (u.member == member) (ends_inside inside u.seg) 0

  chain_even : (u : EdgeUse) (chain : List Coord) → IsSegInRange u.seg → Contains segs u.seg → IsChain segs u.seg chain → sum_by ends (chain_uses u.member chain) % 2 ≡ ends u % 2
  chain_even u chain range has along =
      ap (λ n. n % 2) (sum_map ends (λ e. record { member = u.member; seg = e }) (chain_edges chain) ∙ tested_sum (u.member == member) (ends_inside inside) (chain_edges chain))
      ∙ tested_parity (u.member == member) _ _ (even_ends segs u.seg chain (rises-in_range u.seg range) has along inside)

  snapped_parity : (uses : List EdgeUse) (chains : List (List Coord)) → ((u : EdgeUse) → Contains uses u → IsSegInRange u.seg × Contains segs u.seg) → AllZip (λ u c. IsChain segs u.seg c) uses chains
      → sum_by ends (snapped_uses uses chains) % 2 ≡ sum_by ends uses % 2
  snapped_parity [] [] all each = refl
  snapped_parity [] (c ∷ chains) all each = absurd each
  snapped_parity (u ∷ uses) [] all each = absurd each
  snapped_parity (u ∷ uses) (c ∷ chains) all each =
      let here = all u (contains_here u uses) in
      ap (λ n. n % 2) (sum_by-append ends (chain_uses u.member c) (snapped_uses uses chains))
      ∙ parity_of_sum _ _ _ _ (chain_even u c here.0 here.1 each.0) (snapped_parity uses chains (λ v h. all v (contains_there u v uses h)) each.1)
      ∙ ap (λ n. n % 2) (sym (sum_by-cons ends u uses))

snapped_even : (uses : List EdgeUse) (chains : List (List Coord)) → All (λ u. IsSegInRange u.seg) uses → AreChains uses chains → HasEvenEnds uses → HasEvenEnds (snapped_uses uses chains)
snapped_even uses chains in_range are even inside member =
    snapped_parity (segments uses) inside member uses chains
    (λ u h. (All-contains (λ (v : EdgeUse). IsSegInRange v.seg) uses u in_range h, contains-map (λ (v : EdgeUse). v.seg) uses u h)) are
    ∙ even inside member

-- ---- members

snapped_members : (n : ℕ) (segs : List Seg) (uses : List EdgeUse) (chains : List (List Coord)) → All (λ u. u.member < n) uses → AllZip (λ u c. IsChain segs u.seg c) uses chains
    → All (λ u. u.member < n) (snapped_uses uses chains)
snapped_members n segs [] [] below each = All-nil (λ u. u.member < n)
snapped_members n segs [] (c ∷ chains) below each = absurd each
snapped_members n segs (u ∷ uses) [] below each = absurd each
snapped_members n segs (u ∷ uses) (c ∷ chains) below each =
    let here = All-head (λ v. v.member < n) u uses below in
    All-append (λ v. v.member < n) (chain_uses u.member c) (snapped_uses uses chains)
    (All-map (λ v. v.member < n) (λ e. record { member = u.member; seg = e }) (chain_edges c) (λ k d within. here))
    (snapped_members n segs uses chains (All-tail (λ v. v.member < n) u uses below) each.1)

-- ---- the overlay

pub snapped_live : (members : Members) → AllInRange members → (o : Overlay) → IsSnappedOverlay (uses_of members) (length members) o → IsLiveOverlay o
snapped_live members in_range o h =
    let range = uses-in_range members in_range in
    let made = sym h.are_snapped.made in
    live_overlay h.snapped (length members) o h.overlay (snapped_planar (uses_of members) range (length members) o h)
    (subst HasEvenEnds made (snapped_even (uses_of members) h.are_snapped.chains range h.are_snapped.are_chains (λ inside m. uses_even members m inside)))
    (subst (All (λ u. u.member < length members)) made (snapped_members (length members) (segments (uses_of members)) (uses_of members) h.are_snapped.chains (uses-members members) h.are_snapped.are_chains))
