-- The lists of boundaries are the boundaries of parts.
use mathlib.Core.List.{List}
use Rattle.std.proofs.Common.{◌≡◌, sym, ◌∙◌, ap, subst, ℕ, ◌<◌, Bool, true, false, true≢false, not, length, get_or, All, Contains, Option, Some, None, slice_get, arith}
use Rattle.std.specs.Global.{Vec}
use Rattle.std.proofs.lemmas.Bool.{eqb-true}
use Rattle.std.proofs.lemmas.Option.{slice_get-get_or}
use Rattle.plane.specs.Region.{AreRegions}
use Rattle.arrangement.specs.Overlay.{Overlay}
use Rattle.sector_laws.specs.Sector.{IsPlanar, AreDistinct}
use Rattle.region_laws.proofs.Numbered.{index}
use Rattle.cov_build.specs.Boundaries.{AreBoundaries, boundary_list}
use Rattle.cov_build.specs.Members.{AreListsApart}
use Rattle.cov_build.specs.Parted.{ArePartsOf, part_at, is_part}
use Rattle.cov_build.specs.Rings.{IsBoundary}
use Rattle.cov_build.specs.declared.boundary.BoundaryEdge.{BoundaryEdge}
use Rattle.cov_build.specs.declared.part.Part.{Part}
use Rattle.cov_build.proofs.PartSides.{passes, HasPart, bounds_part, is_boundary}
use Rattle.cov_build.proofs.Thinned.{up, down}

one_number_of : (q : Option Part) (m n : ℕ) → is_part q m ≡ true → is_part q n ≡ true → m ≡ n
one_number_of None m n first second = absurd (true≢false (sym first))
one_number_of (Some part) m n first second = sym (eqb-true part.least m first) ∙ eqb-true part.least n second

pub at_of : {X : Type 0} (xs : List X) (x : X) → (c : Contains xs x) → slice_get xs c.0 ≡ Some x
at_of xs x c = slice_get-get_or xs c.0 x c.1 ∙ ap Some c.2

module _ (o : Overlay) (planar : IsPlanar o.edges) (distinct : AreDistinct o.edges) (regions : AreRegions o.edges o.numbers) (owners : ℕ → Option ℕ) (parts : List (Option Part)) (are : ArePartsOf o owners parts)
    (lists : List (Vec BoundaryEdge)) (bound : AreBoundaries parts o.edges lists) where
  pub part_of : (p : ℕ) (v : Vec BoundaryEdge) → slice_get lists p ≡ Some v → (b : BoundaryEdge) → Contains v.items b → HasPart o planar distinct regions owners parts are p b
  part_of p v at b c =
      let there = subst (λ es. Contains es b) (bound.each p v at) c in
      bounds_part o planar distinct regions owners parts are p there.0 b (at_of (boundary_list parts p o.edges) b there)

  pub lists_bound : All (λ (v : Vec BoundaryEdge). 0 < v.len → IsBoundary v.items) lists
  lists_bound = λ k d within some. (
      let v = get_or lists k d in
      let is = bound.each k v (slice_get-get_or lists k d within) in
      subst IsBoundary (sym is) (is_boundary o planar distinct regions owners parts are k (subst (λ (es : List BoundaryEdge). 0 < length es) is (let long = v.ok.0 in omega (arith, long, some))))
      )

  -- the side on which the edge has the part
  pub within_part : (p : ℕ) (b : BoundaryEdge) → HasPart o planar distinct regions owners parts are p b → is_part (part_at parts (index o.edges (record { edge = b.edge; forwards = b.above }))) p ≡ true
  within_part p b has = by b.above has.above has.below
    where
      by : (t : Bool) → passes o planar distinct regions owners parts are p (up b.edge) ≡ t → passes o planar distinct regions owners parts are p (down b.edge) ≡ not t
          → is_part (part_at parts (index o.edges (record { edge = b.edge; forwards = t }))) p ≡ true
      by true above below = above
      by false above below = below

  pub lists_apart : AreListsApart lists
  lists_apart p q v w at_v at_w other a b in_v in_w same =
      other (one_number_of _ p q (within_part p a (part_of p v at_v a in_v)) (subst (λ e. is_part (part_at parts (index o.edges (record { edge = e.edge; forwards = e.above }))) q ≡ true) (sym same) (within_part q b (part_of q w at_w b in_w))))
