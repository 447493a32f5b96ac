-- The rows of the regions below a number, one more at a time.
use Rattle.std.proofs.Common.{◌≡◌, ◌⊎◌, ◌↔◌, inl, inr, refl, sym, ◌∙◌, ap, subst, ℕ, zero, suc, ◌+◌, ◌*◌, ◌<◌, ◌==◌, Bool, true, false, cond, List, [], ◌∷◌, ◌++◌, length, add-one, append-nil, ℤ, Option, Some, None, IsNone, IfSome, arith, Result, OnOk}
use Rattle.std.specs.Prelude.{filter}
use Rattle.std.specs.Option.{option_eq}
use Rattle.std.proofs.lemmas.Bool.{false≢true}
use Rattle.std.proofs.lemmas.Bool.Decides.{eqb_tells, Decides-eqb}
use Rattle.std.proofs.lemmas.List.Elements.{filter-append}
use Rattle.std.proofs.lemmas.List.Folds.{concat-append}
use Rattle.std.proofs.lemmas.Result.{on_ok_weaker}
use Rattle.cov_types.specs.declared.seg.Seg.{Seg}
use Rattle.plane.specs.Label.{numbers_below}
use Rattle.plane.specs.Point.{Point}
use Rattle.plane.specs.Region.{IsSide, IsOuter, IsRegionOf, IsOuterRegion}
use Rattle.plane.specs.Segment.{upper, lower}
use Rattle.crossing_laws.proofs.Located.{one_region}
use Rattle.arrangement.specs.Overlay.{Overlay, region_at, region_numbers, IsRegion, label_of}
use Rattle.arrangement.specs.Measure.{region_area2}
use Rattle.owner_label.specs.Labelled.{Labelled, IsOverlay}
use Rattle.snap_noder.proofs.Zip.{zip_push}
use Rattle.cover_cli.specs.Regions.{IsClearanceTold, IsRow, AreRows}
use Rattle.cov_write.specs.Rows.{outer_row, inner_row}

-- ---- which regions there are

-- each side has a side point
pub side_at : (edges : List Seg) (n : ℕ) → n < 2 * length edges → (p : Point) × IsSide edges n p
side_at [] n within = absurd (omega arith)
side_at (e ∷ edges) zero within = (upper e, refl)
side_at (e ∷ edges) (suc zero) within = (lower e, refl)
side_at (e ∷ edges) (suc (suc n)) within = side_at edges n (omega arith)

-- a side that is its own region
pub own_region : (edges : List Seg) (n r : ℕ) → n < 2 * length edges → ((p : Point) → IsSide edges n p → IsRegionOf edges p r) → r ≡ n → IsRegion edges n
own_region edges n r within region same =
    let p = side_at edges n within in
    record { at = p.0; side = p.1; own = subst (λ q. IsRegionOf edges p.0 q) same (region p.0 p.1) }

-- a region that is not that of the outer points is not outer
pub not_outer : (edges : List Seg) (outer : Option ℕ) (r : ℕ) → IsNone outer ↔ (edges ≡ []) → IfSome outer (λ k. (p : Point) → IsOuter edges p → IsRegionOf edges p k)
    → option_eq ◌==◌ outer (Some r) ≡ false → IsRegion edges r → ¬ IsOuterRegion edges r
not_outer edges None r none region other is_region outer = no_sides edges (none.0 refl) (outer.outer.side)
  where
    no_sides : (es : List Seg) → es ≡ [] → IsSide es r outer.outer.at → ⊥
    no_sides es empty side = (let at : None ≡ Some outer.outer.at = subst (λ (fs : List Seg). IsSide fs r outer.outer.at) empty side in cc)
not_outer edges (Some k) r none region other is_region outer =
    let same : is_region.at ≡ outer.outer.at = cc (is_region.side, outer.outer.side) in
    let own : IsRegionOf edges outer.outer.at r = subst (λ (p : Point). IsRegionOf edges p r) same is_region.own in
    false≢true (sym other ∙ (Decides-eqb k r).1 (one_region edges outer.outer.at k r (region outer.outer.at outer.outer.outer) own))

-- ---- one row

pub outer_is_row : (o : Overlay) (r : ℕ) → IsOuterRegion o.edges r → IsRow o r (outer_row r)
outer_is_row o r outer = inl (outer, refl)

pub inner_is_row : (o : Overlay) (r : ℕ) (label : List ℕ) (area2 : ℤ) (clearance : Option ℕ) → ¬ IsOuterRegion o.edges r → label ≡ label_of o r → area2 ≡ region_area2 o r → IsClearanceTold o r clearance
    → IsRow o r (inner_row r label area2 clearance)
inner_is_row o r label area2 clearance inner l a told = inr (record { inner = inner; clearance = clearance; told = told; row = λ i. inner_row r (l i) (a i) clearance })

-- the row of a region that is not outer was appended, and its label, its area and its clearance are those of each overlay
pub inner_appended : {T E : Type 0} (r : Result T E) (l : Labelled) (edges : List Seg) (region : ℕ) (label : List ℕ) (area2 : ℤ) (clearance : Option ℕ) (before after : List ℕ) → l.edges ≡ edges
    → ¬ IsOuterRegion edges region → ((o : Overlay) → IsOverlay l o → label ≡ label_of o region) → ((o : Overlay) → IsOverlay l o → area2 ≡ region_area2 o region)
    → ((o : Overlay) → IsOverlay l o → IsClearanceTold o region clearance) → OnOk r (after ≡ before ++ inner_row region label area2 clearance)
    → OnOk r ((o : Overlay) → IsOverlay l o → (line : List ℕ) × (IsRow o region line × (after ≡ before ++ line)))
inner_appended r l edges region label area2 clearance before after same inner labels areas told appended =
    on_ok_weaker r
    (λ (is : after ≡ before ++ inner_row region label area2 clearance) (o : Overlay) (is_overlay : IsOverlay l o). (
      inner_row region label area2 clearance,
      (inner_is_row o region label area2 clearance (λ outer. inner (subst (λ (es : List Seg). IsOuterRegion es region) (is_overlay.edges ∙ same) outer)) (labels o is_overlay) (areas o is_overlay) (told o is_overlay), is),
    )) appended

-- ---- the regions below a number

abbrev pub regions_below : Overlay → ℕ → List ℕ
regions_below o n = filter (λ r. region_at o r == r) (numbers_below n)

module _ (o : Overlay) where
  one : (r : ℕ) (b : Bool) → (region_at o r == r) ≡ b → filter (λ q. region_at o q == q) (r ∷ []) ≡ cond b (r ∷ []) []
  one r true h = rw h refl
  one r false h = rw h refl

  next : (n : ℕ) → regions_below o (n + 1) ≡ regions_below o n ++ filter (λ q. region_at o q == q) (n ∷ [])
  next n = ap (regions_below o) (add-one n) ∙ filter-append (λ q. region_at o q == q) (numbers_below n) (n ∷ [])

  pub rows_start : (text : List ℕ) → text ≡ [] → AreRows o (regions_below o 0) text
  rows_start text empty = record { rows = []; each = tt; lines = empty }

  -- the number is that of a region, and its row comes next
  pub rows_more : (n : ℕ) (before after line : List ℕ) → region_at o n ≡ n → AreRows o (regions_below o n) before → IsRow o n line → after ≡ before ++ line → AreRows o (regions_below o (n + 1)) after
  rows_more n before after line region so_far row appended =
      let more : regions_below o (n + 1) ≡ regions_below o n ++ n ∷ [] = next n ∙ ap (λ rs. regions_below o n ++ rs) (here (eqb_tells (region_at o n) n)) in
      subst (λ (rs : List ℕ). AreRows o rs after) (sym more) (record {
        rows = so_far.rows ++ line ∷ [];
        each = zip_push (IsRow o) (regions_below o n) so_far.rows n line so_far.each row;
        lines = appended ∙ (λ i. so_far.lines i ++ sym (append-nil line) i) ∙ sym (concat-append so_far.rows (line ∷ []));
      })
    where
      here : (((region_at o n == n) ≡ true) × (region_at o n ≡ n)) ⊎ (((region_at o n == n) ≡ false) × (¬ (region_at o n ≡ n))) → filter (λ q. region_at o q == q) (n ∷ []) ≡ n ∷ []
      here (inl same) = one n true same.0
      here (inr other) = absurd (other.1 region)

  -- the number is that of no region
  pub rows_same : (n : ℕ) (text : List ℕ) → ¬ (region_at o n ≡ n) → AreRows o (regions_below o n) text → AreRows o (regions_below o (n + 1)) text
  rows_same n text none so_far = subst (λ (rs : List ℕ). AreRows o rs text) (sym same_ones) so_far
    where
      here : (((region_at o n == n) ≡ true) × (region_at o n ≡ n)) ⊎ (((region_at o n == n) ≡ false) × (¬ (region_at o n ≡ n))) → filter (λ q. region_at o q == q) (n ∷ []) ≡ []
      here (inl same) = absurd (none same.1)
      here (inr other) = one n false other.0

      same_ones : regions_below o (n + 1) ≡ regions_below o n
      same_ones = next n ∙ ap (λ rs. regions_below o n ++ rs) (here (eqb_tells (region_at o n) n)) ∙ append-nil (regions_below o n)

  -- at the end the regions are all
  pub rows_all : (n : ℕ) (text : List ℕ) → n ≡ 2 * length o.edges → AreRows o (regions_below o n) text → AreRows o (region_numbers o) text
  rows_all n text end so_far = subst (λ k. AreRows o (regions_below o k) text) end so_far
