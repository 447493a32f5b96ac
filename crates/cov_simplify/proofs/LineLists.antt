-- Lists of lines with the members beside them.
use mathlib.Core.List.{[], ◌∷◌, ◌++◌}
use Rattle.std.proofs.Common.{◌≡◌, refl, sym, ◌∙◌, ap, subst, ℕ, zero, suc, ◌+◌, ◌<◌, ◌==◌, ◌&&◌, List, length, get_or, map, Option, Some, None, append_assoc, arith}
use Rattle.std.specs.Prelude.{All, Contains, slice_get, option_and_then, filter}
use Rattle.std.specs.Global.{Vec}
use Rattle.std.proofs.lemmas.Bool.{and_parts}
use Rattle.std.proofs.lemmas.Bool.Decides.{Decides-eqb}
use Rattle.std.proofs.lemmas.List.{map-append}
use Rattle.std.proofs.lemmas.List.Elements.{All-contains, Contains-get_or, All-push, filter_agree, Contains-append_right}
use Rattle.cov_types.specs.Coverage.{Members}
use Rattle.cov_types.specs.Uses.{uses_of}
use Rattle.cov_types.specs.declared.coord.Coord.{Coord}
use Rattle.cov_types.specs.declared.edge_use.EdgeUse.{EdgeUse}
use Rattle.cov_types.specs.declared.seg.Seg.{Seg}
use Rattle.cov_types.proofs.AllUses.{uses-members}
use Rattle.plane.specs.Label.{label_at, numbers_below}
use Rattle.plane.specs.Parity.{member_holds}
use Rattle.plane.specs.Point.{Point}
use Rattle.plane.specs.Region.{AreRegions}
use Rattle.plane.specs.Validity.{IsValid}
use Rattle.crossing_laws.specs.Across.{is_same_seg}
use Rattle.sector_laws.specs.Sector.{AreDistinct, IsPlanar}
use Rattle.region_laws.proofs.Exists.{regions_exist}
use Rattle.arrangement.specs.declared.odd_use.OddUse.{OddUse}
use Rattle.arrangement.specs.Noding.{AreEdges, AreLiveEdges, odd_uses}
use Rattle.arrangement.specs.Overlay.{Overlay}
use Rattle.arrangement.proofs.OddUses.{odd_uses_law, some_passes}
use Rattle.arrangement.proofs.ValidLive.{valid_live}
use Rattle.greedy_run.specs.Lines.{AreLines, IsLine}
use Rattle.greedy_run.specs.Sides.{holder, left_from, right_from, beside_first, left_member, right_member}
use Rattle.line_walk.specs.Line.{plain_lists}
use Rattle.owner_label.specs.Labelled.{Labelled, IsOverlay}
use Rattle.cov_simplify.specs.declared.coverage_lines.Line.{Line}
use Rattle.cov_simplify.specs.Lines.{line_points, IsSided, IsSidedLine, AreSidedLines, AreLinesOf}

-- ---- the lists that are left

-- the next list is one of them
pub next_among : (yielded rest lists : List (Vec Coord)) (v : Vec Coord) → yielded ++ v ∷ rest ≡ lists → Contains (plain_lists lists) v.items
next_among yielded rest lists v is =
    let plain : plain_lists yielded ++ v.items ∷ plain_lists rest ≡ plain_lists lists = sym (map-append (λ (x : Vec Coord). x.items) yielded (v ∷ rest)) ∙ ap plain_lists is in
    subst (λ ls. Contains ls v.items) plain (Contains-append_right (plain_lists yielded) (v.items ∷ plain_lists rest) v.items (0, omega arith, refl))

-- one more list is passed
pub passed_on : (yielded rest before lists : List (Vec Coord)) (v : Vec Coord) → yielded ++ before ≡ lists → before ≡ v ∷ rest → (yielded ++ v ∷ []) ++ rest ≡ lists
passed_on yielded rest before lists v is next = append_assoc yielded (v ∷ []) rest ∙ ap (λ xs. yielded ++ xs) (sym next) ∙ is

pub all_passed : (yielded rest lists : List (Vec Coord)) → yielded ++ rest ≡ lists → length rest ≡ 0 → yielded ≡ lists
all_passed yielded [] lists is none = by yielded is
  where
    appended : (xs : List (Vec Coord)) → xs ++ [] ≡ xs
    appended [] = refl
    appended (x ∷ xs) = ap (λ ys. x ∷ ys) (appended xs)

    by : (xs : List (Vec Coord)) → xs ++ [] ≡ lists → xs ≡ lists
    by xs same = sym (appended xs) ∙ same
all_passed yielded (x ∷ rest) lists is none = absurd (omega arith)

-- ---- one more line

module _ (labelled : Labelled) (lists : List (Vec Coord)) (lines : List Line) (v : Vec Coord) (l : Line) (h : IsSidedLine labelled v.items l) where
  pub points_more : line_points lines ≡ plain_lists lists → line_points (lines ++ l ∷ []) ≡ plain_lists (lists ++ v ∷ [])
  points_more same = map-append (λ (k : Line). k.points.items) lines (l ∷ []) ∙ (λ i. same i ++ h.points_are i ∷ []) ∙ sym (map-append (λ (x : Vec Coord). x.items) lists (v ∷ []))

  pub sided_more : All (λ (k : Line). IsSidedLine labelled k.points.items k) lines → All (λ (k : Line). IsSidedLine labelled k.points.items k) (lines ++ l ∷ [])
  sided_more all = All-push (λ (k : Line). IsSidedLine labelled k.points.items k) lines l all (subst (λ ps. IsSidedLine labelled ps l) (sym h.points_are) h)

-- ---- the members by the uses of the coverage

-- the members of the odd pairs of uses are those of uses
odd_below : (uses : List EdgeUse) (members : ℕ) (edges : List Seg) (odd : List OddUse) → AreLiveEdges uses edges odd → All (λ u. u.member < members) uses → All (λ o. o.member < members) odd
odd_below uses members edges odd live below k d within =
    let o = get_or odd k d in
    let e = (live.pairs.exact o).0 (Contains-get_or odd k d within) in
    let found = some_passes (λ u. (u.member == o.member) && is_same_seg e.0 u.seg) uses e.1.1 in
    subst (λ m. m < members) ((Decides-eqb (found.0).member o.member).0 (and_parts _ _ found.1.1).0) (All-contains (λ u. u.member < members) uses found.0 below found.1.0)

module _ (members : Members) (valid : IsValid (uses_of members)) (edges : List Seg) (odd : List OddUse) (are : AreEdges (uses_of members) edges odd) (planar : IsPlanar edges) (distinct : AreDistinct edges) where
  abbrev uses : List EdgeUse
  uses = uses_of members

  numbering : (numbers : List ℕ) × AreRegions edges numbers
  numbering = regions_exist edges planar distinct

  abbrev o : Overlay
  o = record { edges = edges; uses = odd_uses edges odd; members = length members; numbers = numbering.0 }

  overlay : IsOverlay (record { edges = edges; odd = odd }) o
  overlay = record { edges = refl; uses = refl; members = odd_below uses (length members) edges odd (valid_live uses valid edges odd are) (uses-members members); numbered = numbering.1 }

  same_holder : (p : Point) → holder (odd_uses edges odd) (length members) p ≡ holder uses (length members) p
  same_holder p = ap (λ ls. slice_get ls 0) (filter_agree (λ m. member_holds (odd_uses edges odd) m p) (λ m. member_holds uses m p) (λ m. odd_uses_law uses edges odd are m p) (numbers_below (length members)))

  same_then : (place : Option Point) → option_and_then (holder (odd_uses edges odd) (length members)) place ≡ option_and_then (holder uses (length members)) place
  same_then None = refl
  same_then (Some p) = same_holder p

  sided : (l : Line) → IsSidedLine (record { edges = edges; odd = odd }) l.points.items l → IsSided members l
  sided l h = record {
    left = h.left o overlay ∙ same_then (beside_first left_from l.points.items);
    right = h.right o overlay ∙ same_then (beside_first right_from l.points.items);
  }

  pub lines_of_valid : (labelled : Labelled) → labelled ≡ record { edges = edges; odd = odd } → (lists : List (List Coord)) → AreLines edges lists → (lines : List Line) → AreSidedLines labelled lists lines → AreLinesOf members lines
  lines_of_valid labelled is lists all lines h = record {
    edges = edges;
    odd = odd;
    are_edges = are;
    are_lines = subst (AreLines edges) (sym h.points_are) all;
    sided = λ k d within. sided (get_or lines k d) (subst (λ (s : Labelled). IsSidedLine s (get_or lines k d).points.items (get_or lines k d)) is (h.each k d within));
  }
