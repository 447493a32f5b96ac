-- The tables of labels, as each overlay of the edges has them.
use Rattle.std.proofs.Common.{◌≡◌, sym, ◌∙◌, ap, subst, ℕ, ◌*◌, ◌<◌, List, length, Some, slice_get, slice_index}
use Rattle.cov_types.specs.declared.seg.Seg.{Seg}
use Rattle.crossing_laws.proofs.Located.{one_numbering}
use Rattle.plane.specs.Parity.{member_holds}
use Rattle.plane.specs.Point.{Point}
use Rattle.plane.specs.Region.{IsSide, AreRegions}
use Rattle.arrangement.specs.Noding.{odd_uses}
use Rattle.arrangement.specs.Overlay.{Overlay, region_at, label_of}
use Rattle.owner_label.specs.Labelled.{Labelled, IsOverlay}
use Rattle.owner_label.specs.Lists.{sided_of, AreTables, AreLabels}
use Rattle.owner_label.specs.Members.{has}
use Rattle.owner_label.proofs.Overlays.{label_read, table_label}
use Rattle.owner_label.proofs.Regions.{side_point}

module _ (l : Labelled) (walked : List Seg) (table groups : List (List ℕ)) (are : AreLabels l walked table groups) where
  pub walked_numbers : AreRegions walked are.numbers
  walked_numbers = subst (λ es. AreRegions es are.numbers) (sym are.walked_edges) are.tables.sided.numbered

  -- whether a member holds the side point of a side
  pub held_at : (n : ℕ) (p : Point) → IsSide l.edges n p → (r : ℕ) → r ≡ slice_index are.numbers n → (v : List ℕ) → slice_get table r ≡ Some v → (member : ℕ) → has v member ≡ member_holds (odd_uses l.edges l.odd) member p
  held_at n p at r same v here member = (label_read (sided_of l are.numbers) are.tables.sided table are.tables.labels n p at r same v here).exact member

  module _ (o : Overlay) (overlay : IsOverlay l o) where
    pub walked_overlay : AreRegions walked o.numbers
    walked_overlay = subst (λ es. AreRegions es o.numbers) (overlay.edges ∙ sym are.walked_edges) overlay.numbered

    pub tables_of : AreTables l o.numbers table groups
    tables_of =
        subst (λ ns. AreTables l ns table groups)
        (one_numbering l.edges are.numbers o.numbers are.tables.sided.numbered (subst (λ es. AreRegions es o.numbers) overlay.edges overlay.numbered)) are.tables

    -- the label of the region of a side
    pub label_beside : (n : ℕ) → n < 2 * length l.edges → (r : ℕ) → r ≡ region_at o n → (v : List ℕ) → slice_get table r ≡ Some v → v ≡ label_of o (region_at o n)
    label_beside n inside r is v here =
        let tables = tables_of in
        let (p, at) = side_point (sided_of l o.numbers) tables.sided n inside in
        table_label (sided_of l o.numbers) tables.sided table tables.labels o overlay n p at v (ap (λ k. slice_get table k) (sym is) ∙ here)
