-- What is free of a removable point's triangle in the state of a run.
use mathlib.Core.List.{[], ◌∷◌}
use Rattle.std.proofs.Common.{◌≢◌, inl, inr, sym, ◌∙◌, subst, zero, suc, List, zip, pos, ◌+ℤ◌, ◌*ℤ◌, arith}
use Rattle.std.specs.Prelude.{Contains, flat_map, Option, option_to_list}
use Rattle.std.proofs.lemmas.Bool.{false≢true}
use Rattle.std.proofs.lemmas.List.Concat.{flat_map-cons}
use Rattle.std.proofs.lemmas.List.Elements.{Contains-append_cases, Contains-append_left, Contains-append_right}
use Rattle.integer_laws.proofs.Ring.{one_mul}
use Rattle.cov_types.specs.declared.coord.Coord.{Coord}
use Rattle.cov_types.specs.declared.seg.Seg.{Seg}
use Rattle.cov_types.specs.Seg.{IsSegBetween}
use Rattle.cov_types.specs.Uses.{seg_between}
use Rattle.plane.specs.Point.{at_coord}
use Rattle.plane.specs.Snapping.{chain_edges}
use Rattle.crossing_laws.proofs.Lists.{contains_here, contains_there}
use Rattle.cov_types.proofs.Equal.{Decides-same_coords}
use Rattle.greedy_run.specs.Run.{Triangle, IsInTriangle, Simplification, Spot, IsRemovable, current, current_points, current_edges}
use Rattle.removal_laws.specs.Ear.{IsWithin, IsFree, HasFreeEnds}
use Rattle.removal_laws.proofs.Exchange.{coord_cases}
use Rattle.removal_laws.proofs.Rings.{SideCases, side_cases}

-- a grid point in the triangle is in it as a rational point
pub grid_within : (t : Triangle) (p : Coord) → IsWithin t (at_coord p) → IsInTriangle t p
grid_within t p h = record {
  first = h.first;
  second = h.second;
  third = h.third;
  weighted = h.weighted;
  x = h.x ∙ one_mul ((pos h.first *ℤ t.a.x) +ℤ (pos h.second *ℤ t.b.x) +ℤ (pos h.third *ℤ t.c.x));
  y = h.y ∙ one_mul ((pos h.first *ℤ t.a.y) +ℤ (pos h.second *ℤ t.b.y) +ℤ (pos h.third *ℤ t.c.y));
}

-- ---- elements

pub of_flat_map : {X Y : Type 0} (f : X → List Y) (xs : List X) (y : Y) → Contains (flat_map f xs) y → (x : X) × (Contains xs x × Contains (f x) y)
of_flat_map f [] y has = absurd (let within = has.1 in omega arith)
of_flat_map f (x ∷ xs) y has =
    elim (Contains-append_cases (f x) (flat_map f xs) y (subst (λ l. Contains l y) (flat_map-cons f x xs) has)) [
      | inl here ↦ (x, (contains_here x xs, here))
      | inr later ↦ (let rest = of_flat_map f xs y later in (rest.0, (contains_there x rest.0 xs rest.1.0, rest.1.1)))
    ]

pub to_flat_map : {X Y : Type 0} (f : X → List Y) (xs : List X) (x : X) (y : Y) → Contains xs x → Contains (f x) y → Contains (flat_map f xs) y
to_flat_map f [] x y (k, inside, is) h = absurd (omega arith)
to_flat_map f (z ∷ xs) x y (zero, inside, is) h =
    subst (λ l. Contains l y) (sym (flat_map-cons f z xs)) (Contains-append_left (f z) (flat_map f xs) y (subst (λ w. Contains (f w) y) (sym is) h))
to_flat_map f (z ∷ xs) x y (suc k, inside, is) h =
    subst (λ l. Contains l y) (sym (flat_map-cons f z xs)) (Contains-append_right (f z) (flat_map f xs) y (to_flat_map f xs x y (k, omega arith, is) h))

-- ---- the ends of a chain's edges are its points

pub record HasEndsIn (points : List Coord) (e : Seg) : Type 0 where
  pub lo : Contains points e.lo
  pub hi : Contains points e.hi

pub ends_of_side : (x y : Coord) (o : Option Seg) → SideCases x y o → (e : Seg) → Contains (option_to_list o) e → IsSegBetween x y e
ends_of_side x y o (inl none) e has = absurd (let within = (subst (λ p. Contains (option_to_list p) e) none.0 has).1 in omega arith)
ends_of_side x y o (inr some) e has = by (subst (λ p. Contains (option_to_list p) e) some.1.0 has)
  where
    by : Contains (some.0 ∷ []) e → IsSegBetween x y e
    by (zero, inside, is) = subst (IsSegBetween x y) is some.1.1
    by (suc k, inside, is) = absurd (omega arith)

pub chain_ends : (points : List Coord) (e : Seg) → Contains (chain_edges points) e → HasEndsIn points e
chain_ends [] e has = absurd (let within = has.1 in omega arith)
chain_ends (x ∷ []) e has = absurd (let within = has.1 in omega arith)
chain_ends (x ∷ y ∷ rest) e has =
    let side = λ (pair : Coord × Coord). option_to_list (seg_between pair.0 pair.1) in
    let in_first = contains_here x (y ∷ rest) in
    let in_second = contains_there x y (y ∷ rest) (contains_here y rest) in
    elim (Contains-append_cases (option_to_list (seg_between x y)) (chain_edges (y ∷ rest)) e (subst (λ l. Contains l e) (flat_map-cons side (x, y) (zip (y ∷ rest) rest)) has)) [
      | inl here ↦ elim (ends_of_side x y (seg_between x y) (side_cases x y) e here) [
        | inl ends ↦ record { lo = subst (Contains (x ∷ y ∷ rest)) (sym ends.0) in_first; hi = subst (Contains (x ∷ y ∷ rest)) (sym ends.1) in_second }
        | inr ends ↦ record { lo = subst (Contains (x ∷ y ∷ rest)) (sym ends.0) in_second; hi = subst (Contains (x ∷ y ∷ rest)) (sym ends.1) in_first }
      ]
      | inr later ↦ (let ends = chain_ends (y ∷ rest) e later in record { lo = contains_there x e.lo (y ∷ rest) ends.lo; hi = contains_there x e.hi (y ∷ rest) ends.hi })
    ]

current_ends : (lines : List (List Coord)) (removed : List Coord) (e : Seg) → Contains (current_edges lines removed) e → HasEndsIn (current_points lines removed) e
current_ends lines removed e has =
    let (line, found) = of_flat_map (λ points. chain_edges (current removed points)) lines e has in
    let ends = chain_ends (current removed line) e found.1 in
    record { lo = to_flat_map (current removed) lines line e.lo found.0 ends.lo; hi = to_flat_map (current removed) lines line e.hi found.0 ends.hi }

-- ---- a removable point

-- a current vertex other than b is free
free_vertex : (s : Simplification) (removed : List Coord) (spot : Spot) (h : IsRemovable s removed spot) (v : Coord) → Contains (current_points s.lines removed) v → v ≢ h.t.b → IsFree h.t v
free_vertex s removed spot h v has apart within =
    elim (coord_cases v h.t.a) [
      | inl at_a ↦ inl ((Decides-same_coords v h.t.a).0 at_a)
      | inr off_a ↦ elim (coord_cases v h.t.c) [
        | inl at_c ↦ inr ((Decides-same_coords v h.t.c).0 at_c)
        | inr off_c ↦ absurd (h.free v has (λ e. false≢true (sym off_a ∙ (Decides-same_coords v h.t.a).1 e)) apart (λ e. false≢true (sym off_c ∙ (Decides-same_coords v h.t.c).1 e)) (grid_within h.t v within))
      ]
    ]

-- each current segment that does not end at b has free ends
pub free_ends : (s : Simplification) (removed : List Coord) (spot : Spot) (h : IsRemovable s removed spot)
    → (e : Seg) → Contains (current_edges s.lines removed) e → e.lo ≢ h.t.b → e.hi ≢ h.t.b → HasFreeEnds h.t e
free_ends s removed spot h e has lo hi =
    let ends = current_ends s.lines removed e has in
    record {
      not_third = h.open_side e has;
      lo = free_vertex s removed spot h e.lo ends.lo lo;
      hi = free_vertex s removed spot h e.hi ends.hi hi;
    }
