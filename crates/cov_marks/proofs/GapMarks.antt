-- What the marks of a coverage are: those of its faults, or where there is none those beside narrow gaps.
use Rattle.std.proofs.Common.{◌≡◌, ◌⊎◌, refl, sym, ◌∙◌, ap, subst, ℕ, ◌*◌, ◌+◌, ◌<◌, ◌==◌, ◌&&◌, Bool, true, false, List, [], ◌∷◌, length, get_or, Some, inl, inr, arith}
use Rattle.std.specs.Prelude.{All, Contains, ◌↔◌, slice_get, slice_index}
use Rattle.std.proofs.lemmas.Bool.{and_parts, false≢true}
use Rattle.std.proofs.lemmas.Bool.Decides.{Decides-eqb}
use Rattle.std.proofs.lemmas.List.Elements.{All-contains, Contains-get_or}
use Rattle.std.proofs.lemmas.Option.{slice_get-get_or, slice_get_within, get_or_from_slice_get}
use Rattle.cov_types.specs.declared.edge_use.EdgeUse.{EdgeUse}
use Rattle.cov_types.specs.declared.seg.Seg.{Seg}
use Rattle.plane.specs.Region.{AreRegions}
use Rattle.crossing_laws.specs.Across.{is_same_seg}
use Rattle.sector_laws.specs.Sector.{AreDistinct, IsPlanar}
use Rattle.region_laws.proofs.Exists.{regions_exist}
use Rattle.arrangement.specs.declared.odd_use.OddUse.{OddUse}
use Rattle.arrangement.specs.Noding.{AreLiveEdges, odd_uses}
use Rattle.arrangement.specs.Overlay.{Overlay, IsOverlayOf, region_above, region_below}
use Rattle.arrangement.proofs.OddUses.{some_passes}
use Rattle.arrangement.proofs.OneOverlay.{one_overlay}
use Rattle.region_owners.specs.Owner.{IsNarrowGap}
use Rattle.owner_label.specs.Labelled.{Labelled, IsOverlay}
use Rattle.cov_valid.proofs.MarksSoFar.{AreMarksBy-places, AreMarksBy-members}
use Rattle.cov_valid.proofs.Unique.{AreMarksBy-unique}
use Rattle.cov_valid.specs.Kinds.{IsFaultOf, AreFaultless}
use Rattle.cov_valid.specs.Marks.{AreMarksBy, AreFaultMarks}
use Rattle.cov_valid.specs.declared.mark.Kind.{Kind}
use Rattle.cov_valid.specs.declared.mark.Kind.TheVariants.{Meets, Repeated, SameSide, Inside, NarrowGap}
use Rattle.cov_valid.specs.declared.mark.Mark.{Mark}
use Rattle.cov_marks.specs.Beside.{IsBesideAny, IsUseOf}
use Rattle.cov_marks.specs.Kinds.{IsBesideNarrowGap, IsOfKind}
use Rattle.cov_marks.specs.Marks.{AreMarks}
use Rattle.cov_marks.proofs.Alike.{marks_alike}

-- ---- faults

-- where narrow gaps mark nothing, the marks are those of the faults
pub only_faults : (uses : List EdgeUse) (members w : ℕ) (marks : List Mark) → ((edge : EdgeUse) → IsOfKind uses members w edge NarrowGap → ⊥) → AreFaultMarks uses marks → AreMarks uses members w marks
only_faults uses members w marks none are = marks_alike (IsFaultOf uses) (IsOfKind uses members w) uses (λ u has kind. same u kind) marks are
  where
    same : (u : EdgeUse) (kind : Kind) → IsFaultOf uses u kind ↔ IsOfKind uses members w u kind
    same u Meets = ((λ h. h), (λ h. h))
    same u Repeated = ((λ h. h), (λ h. h))
    same u SameSide = ((λ h. h), (λ h. h))
    same u Inside = ((λ h. h), (λ h. h))
    same u NarrowGap = ((λ h. absurd h), (λ h. absurd (none u h)))

-- at the width 0 no gap is narrow
pub no_width : (uses : List EdgeUse) (members w : ℕ) (marks : List Mark) → w ≡ 0 → AreFaultMarks uses marks → AreMarks uses members w marks
no_width uses members w marks zero_width are = only_faults uses members w marks (λ edge h. by h.1) are
  where
    by : {s : Seg} → IsBesideNarrowGap uses members w s → ⊥
    by h = elim h.narrow [ inl up ↦ (let wide = up.narrow.wide in omega (arith, wide, zero_width)) | inr down ↦ (let wide = down.narrow.wide in omega (arith, wide, zero_width)) ]

-- with a fault there are no other marks
pub some_fault : (uses : List EdgeUse) (members w : ℕ) (marks : List Mark) → (length marks ≡ 0 → ⊥) → AreFaultMarks uses marks → AreMarks uses members w marks
some_fault uses members w [] some are = absurd (some refl)
some_fault uses members w (m ∷ marks) some are =
    let mark = (are.exact m).0 (0, omega arith, refl) in
    let has : Contains uses mark.marked = (m.place, slice_get_within uses m.place mark.marked mark.at_place, get_or_from_slice_get uses m.place mark.marked mark.marked mark.at_place) in
    only_faults uses members w (m ∷ marks) (λ edge h. h.0 mark.marked has m.kind mark.kind) are

-- without marks no use is at fault
pub none_faultless : (uses : List EdgeUse) (marks : List Mark) → length marks ≡ 0 → AreFaultMarks uses marks → AreFaultless uses
none_faultless uses marks none are u has kind fault =
    let at : slice_get uses has.0 ≡ Some u = slice_get-get_or uses has.0 u has.1 ∙ ap (λ (v : EdgeUse). Some v) has.2 in
    let m : Mark = record { member = u.member; place = has.0; kind = kind } in
    let listed = (are.exact m).1 (record { marked = u; at_place = at; member = refl; kind = fault }) in
    omega (arith, listed.1, none)

-- ---- narrow gaps

abbrev is_fault : Kind → Bool
is_fault NarrowGap = false
is_fault kind = true

-- a kind of fault is another one
not_narrow : {kind : Kind} → kind ≡ NarrowGap → is_fault kind ≡ true → ⊥
not_narrow same fault = false≢true (sym (ap is_fault same) ∙ fault)

odd_below : (uses : List EdgeUse) (members : ℕ) (edges : List Seg) (odd : List OddUse) → AreLiveEdges uses edges odd → All (λ u. u.member < members) uses → All (λ o. o.member < members) odd
odd_below uses members edges odd live below k d within =
    let o = get_or odd k d in
    let e = (live.pairs.exact o).0 (Contains-get_or odd k d within) in
    let found = some_passes (λ u. (u.member == o.member) && is_same_seg e.0 u.seg) uses e.1.1 in
    subst (λ m. m < members) ((Decides-eqb (found.0).member o.member).0 (and_parts _ _ found.1.1).0) (All-contains (λ u. u.member < members) uses found.0 below found.1.0)

-- the segment is an edge of the overlay, and one of its two regions is a narrow gap
record IsBesideIn (o : Overlay) (w : ℕ) (s : Seg) : Type 0 where
  edge : ℕ
  listed : slice_get o.edges edge ≡ Some s
  narrow : IsNarrowGap o (region_above o edge) w ⊎ IsNarrowGap o (region_below o edge) w

module _ (uses : List EdgeUse) (members : ℕ) (below : All (λ u. u.member < members) uses) (edges : List Seg) (odd : List OddUse) (live : AreLiveEdges uses edges odd) (planar : IsPlanar edges) (distinct : AreDistinct edges)
    (l : Labelled) (same : l ≡ record { edges = edges; odd = odd }) (w : ℕ) (gaps : List ℕ) (narrow : (o : Overlay) → IsOverlay l o → (n : ℕ) → Contains gaps n ↔ IsNarrowGap o n w) (segs : List Seg)
    (beside : (numbers : List ℕ) → AreRegions edges numbers → (s : Seg) → Contains segs s ↔ IsBesideAny edges numbers gaps s) where
  numbering : (numbers : List ℕ) × AreRegions edges numbers
  numbering = regions_exist edges planar distinct

  abbrev o : Overlay
  o = record { edges = edges; uses = odd_uses edges odd; members = members; numbers = numbering.0 }

  is_overlay : IsOverlayOf uses members o
  is_overlay = record { odd = odd; live = live; by_odd = refl; count = refl; numbered = numbering.1 }

  -- the labels of the edges are its labels
  labelled : IsOverlay l o
  labelled =
      let whole : IsOverlay (record { edges = edges; odd = odd }) o = record { edges = refl; uses = refl; members = odd_below uses members edges odd live below; numbered = numbering.1 } in
      subst (λ (k : Labelled). IsOverlay k o) (sym same) whole

  -- the listed segments are those beside a narrow gap
  beside_gap : (s : Seg) → Contains segs s → IsBesideNarrowGap uses members w s
  beside_gap s has =
      let is = (beside numbering.0 numbering.1 s).0 has in
      record {
        overlay = o;
        is_overlay = is_overlay;
        edge = is.edge;
        listed = is.listed;
        narrow = elim is.beside [
          | inl up ↦ inl ((narrow o labelled (slice_index numbering.0 (2 * is.edge))).0 up)
          | inr down ↦ inr ((narrow o labelled (slice_index numbering.0 (2 * is.edge + 1))).0 down)
        ];
      }

  gap_beside : (s : Seg) → IsBesideNarrowGap uses members w s → Contains segs s
  gap_beside s h =
      let one = one_overlay uses members h.overlay o h.is_overlay is_overlay in
      let there : IsBesideIn o w s = subst (λ (q : Overlay). IsBesideIn q w s) one (record { edge = h.edge; listed = h.listed; narrow = h.narrow }) in
      (beside numbering.0 numbering.1 s).1 (record {
        edge = there.edge;
        listed = there.listed;
        beside = elim there.narrow [
          | inl up ↦ inl ((narrow o labelled (slice_index numbering.0 (2 * there.edge))).1 up)
          | inr down ↦ inr ((narrow o labelled (slice_index numbering.0 (2 * there.edge + 1))).1 down)
        ];
      })

  pub gap_marks : AreFaultless uses → (marks : List Mark) → AreMarksBy (IsUseOf segs) uses marks → AreMarks uses members w marks
  gap_marks faultless marks are = marks_alike (IsUseOf segs) (IsOfKind uses members w) uses alike marks are
    where
      alike : (u : EdgeUse) → Contains uses u → (kind : Kind) → IsUseOf segs u kind ↔ IsOfKind uses members w u kind
      alike u has Meets = ((λ h. absurd (not_narrow h.0 refl)), (λ h. absurd (faultless u has Meets h)))
      alike u has Repeated = ((λ h. absurd (not_narrow h.0 refl)), (λ h. absurd (faultless u has Repeated h)))
      alike u has SameSide = ((λ h. absurd (not_narrow h.0 refl)), (λ h. absurd (faultless u has SameSide h)))
      alike u has Inside = ((λ h. absurd (not_narrow h.0 refl)), (λ h. absurd (faultless u has Inside h)))
      alike u has NarrowGap = ((λ h. (faultless, beside_gap u.seg h.1)), (λ h. (refl, gap_beside u.seg h.1)))

-- two lists of the marks of the same uses are one
pub one_marks : (uses : List EdgeUse) (members w : ℕ) (ms ns : List Mark) → AreMarks uses members w ms → AreMarks uses members w ns → ms ≡ ns
one_marks uses members w ms ns are others = AreMarksBy-unique (IsOfKind uses members w) uses ms ns are others

-- the marks of a width have places of uses and numbers of members
pub marks_places : (uses : List EdgeUse) (members w : ℕ) (ms : List Mark) → AreMarks uses members w ms → All (λ (m : Mark). m.place < length uses) ms
marks_places uses members w ms are = AreMarksBy-places (IsOfKind uses members w) uses ms are

pub marks_members : (uses : List EdgeUse) (members w : ℕ) (ms : List Mark) → All (λ (u : EdgeUse). u.member < members) uses → AreMarks uses members w ms → All (λ (m : Mark). m.member < members) ms
marks_members uses members w ms below are = AreMarksBy-members (IsOfKind uses members w) uses members ms below are
