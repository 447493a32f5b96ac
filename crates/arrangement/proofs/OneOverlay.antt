-- Uses have one overlay.
use Rattle.std.proofs.Common.{◌≡◌, sym, ◌∙◌, subst, ℕ, List}
use Rattle.std.specs.Prelude.{All}
use Rattle.cov_types.specs.declared.edge_use.EdgeUse.{EdgeUse}
use Rattle.cov_types.specs.declared.seg.Seg.{Seg}
use Rattle.cov_types.specs.Range.{IsSegInRange}
use Rattle.plane.specs.Region.{AreRegions}
use Rattle.crossing_laws.proofs.Located.{one_numbering}
use Rattle.arrangement.specs.Noding.{AreOddPairs, odd_uses}
use Rattle.arrangement.specs.Overlay.{Overlay, IsOverlayOf, IsSnappedOverlay}
use Rattle.arrangement.proofs.OneNoding.{same_live, same_pairs, same_snapped}

pub one_overlay : (uses : List EdgeUse) (members : ℕ) (o q : Overlay) → IsOverlayOf uses members o → IsOverlayOf uses members q → o ≡ q
one_overlay uses members o q h k =
    let edges : o.edges ≡ q.edges = same_live uses o.edges q.edges h.odd k.odd h.live k.live in
    let odd : h.odd ≡ k.odd = same_pairs uses o.edges h.odd k.odd h.live.pairs (subst (λ (es : List Seg). AreOddPairs uses es k.odd) (sym edges) k.live.pairs) in
    let numbers : o.numbers ≡ q.numbers = one_numbering o.edges o.numbers q.numbers h.numbered (subst (λ (es : List Seg). AreRegions es q.numbers) (sym edges) k.numbered) in
    let held : o.uses ≡ q.uses = h.by_odd ∙ (λ i. odd_uses (edges i) (odd i)) ∙ sym k.by_odd in
    let count : o.members ≡ q.members = h.count ∙ sym k.count in
    λ i. record { edges = edges i; uses = held i; members = count i; numbers = numbers i }

pub one_snapped_overlay : (uses : List EdgeUse) → All (λ u. IsSegInRange u.seg) uses → (members : ℕ) (o q : Overlay) → IsSnappedOverlay uses members o → IsSnappedOverlay uses members q → o ≡ q
one_snapped_overlay uses in_range members o q h k =
    let same = same_snapped uses h.snapped k.snapped in_range h.are_snapped k.are_snapped in
    one_overlay h.snapped members o q h.overlay (subst (λ (us : List EdgeUse). IsOverlayOf us members q) (sym same) k.overlay)
