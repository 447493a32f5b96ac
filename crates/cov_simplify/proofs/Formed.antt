-- A valid coverage whose rings kept two different points each is formed.
use mathlib.Core.List.{[], ◌∷◌}
use Rattle.std.proofs.Common.{◌≡◌, inl, inr, refl, sym, ◌∙◌, ap, subst, ℕ, zero, suc, ◌+◌, ◌<◌, ◌≤◌, ◌&&◌, Bool, true, false, cond, List, ◌++◌, length, get_or, map, arith}
use Rattle.std.specs.Prelude.{All, Contains, sum_by, flat_map}
use Rattle.std.specs.List.{enumerate_from}
use Rattle.std.proofs.lemmas.Bool.{true≢false, cases_lt}
use Rattle.std.proofs.lemmas.List.{length-map}
use Rattle.std.proofs.lemmas.List.Concat.{flat_map-cons}
use Rattle.std.proofs.lemmas.List.Elements.{All-contains, All-map, Contains-get_or}
use Rattle.std.proofs.lemmas.List.Sums.{sum_by-append}
use Rattle.cov_types.specs.declared.coord.Coord.{Coord}
use Rattle.cov_types.specs.declared.edge_use.EdgeUse.{EdgeUse}
use Rattle.cov_types.specs.declared.seg.Seg.{Seg}
use Rattle.cov_types.specs.Coord.{is_same_coord}
use Rattle.cov_types.specs.Coverage.{Members, AllInRange, IsRingFormed, IsPolyFormed, IsMemberFormed, IsFormed}
use Rattle.cov_types.specs.Uses.{ring_uses, poly_uses, member_uses, uses_of}
use Rattle.cov_types.proofs.Equal.{Decides-same_coords}
use Rattle.plane.specs.Validity.{IsValid}
use Rattle.crossing_laws.proofs.Lists.{contains-map}
use Rattle.greedy_run.specs.Run.{current, is_one_point, ring_without, coverage_without}
use Rattle.greedy_run.proofs.OneLine.{is_between}
use Rattle.greedy_run.proofs.Threads.{seg_turned}
use Rattle.removal_laws.specs.Laws.{KeepsRings}
use Rattle.removal_laws.proofs.Counts.{counts_use, repeated_of, use_counts}
use Rattle.removal_laws.proofs.Rings.{side_cases, sum_some, ring_sum-uses}
use Rattle.cov_simplify.specs.Without.{poly_without, member_without}

-- ---- uses with each segment of a member once

abbrev pub IsOnce : List EdgeUse → Type 0
IsOnce uses = (m : ℕ) (e : Seg) → sum_by (counts_use m e) uses ≤ 1

once_first : (xs ys : List EdgeUse) → IsOnce (xs ++ ys) → IsOnce xs
once_first xs ys h m e = let most = h m e in omega (arith, sum_by-append (counts_use m e) xs ys)

once_second : (xs ys : List EdgeUse) → IsOnce (xs ++ ys) → IsOnce ys
once_second xs ys h m e = let most = h m e in omega (arith, sum_by-append (counts_use m e) xs ys)

once_of_each : {X : Type 0} (uses : X → List EdgeUse) (xs : List X) (x : X) → Contains xs x → IsOnce (flat_map uses xs) → IsOnce (uses x)
once_of_each uses [] x (k, inside, is) once = absurd (omega arith)
once_of_each uses (y ∷ ys) x (zero, inside, is) once = subst (λ z. IsOnce (uses z)) is (once_first (uses y) (flat_map uses ys) (subst IsOnce (flat_map-cons uses y ys) once))
once_of_each uses (y ∷ ys) x (suc k, inside, is) once = once_of_each uses ys x (k, omega arith, is) (once_second (uses y) (flat_map uses ys) (subst IsOnce (flat_map-cons uses y ys) once))

once_of_member : (m : ℕ) (members : Members) (x : List (List (List Coord))) → Contains members x → IsOnce (flat_map member_uses (enumerate_from m members)) → (k : ℕ) × IsOnce (member_uses (k, x))
once_of_member m [] x (k, inside, is) once = absurd (omega arith)
once_of_member m (y ∷ ys) x (zero, inside, is) once =
    let more = enumerate_from (m + 1) ys in
    (m, subst (λ z. IsOnce (member_uses (m, z))) is (once_first (member_uses (m, y)) (flat_map member_uses more) (subst IsOnce (flat_map-cons member_uses (m, y) more) once)))
once_of_member m (y ∷ ys) x (suc k, inside, is) once =
    let more = enumerate_from (m + 1) ys in
    once_of_member (m + 1) ys x (k, omega arith, is) (once_second (member_uses (m, y)) (flat_map member_uses more) (subst IsOnce (flat_map-cons member_uses (m, y) more) once))

pub valid_once : (uses : List EdgeUse) → IsValid uses → IsOnce uses
valid_once uses valid m e =
    elim (cases_lt 1 (sum_by (counts_use m e) uses)) [
      | inl twice ↦ absurd (valid.once (record { member = m; seg = e }) (repeated_of uses m e (omega arith)))
      | inr most ↦ omega arith
    ]

-- ---- one ring

-- a ring of two points has its one segment twice
two_points : (m : ℕ) (x y : Coord) → IsOnce (ring_uses m (x ∷ y ∷ [])) → (is_same_coord x y && true) ≡ false → ⊥
two_points m x y once h =
    elim (side_cases x y) [
      | inl none ↦ true≢false (sym (ap (λ b. b && true) ((Decides-same_coords x y).1 none.1)) ∙ h)
      | inr some ↦ (
          let (e, (is, ends)) = some in
          let there = sum_some m (counts_use m e) x y e is in
          let back = sum_some m (counts_use m e) y x e (is_between y x e (seg_turned x y e ends)) in
          let all = ring_sum-uses m (counts_use m e) (x ∷ y ∷ []) in
          let most = once m e in
          omega (arith, use_counts m e)
          )
    ]

-- a ring with two different points and each segment once has three points
ring_long : (m : ℕ) (points : List Coord) → IsOnce (ring_uses m points) → is_one_point points ≡ false → IsRingFormed points
ring_long m [] once h = absurd (true≢false h)
ring_long m (x ∷ []) once h = absurd (true≢false h)
ring_long m (x ∷ y ∷ []) once h = absurd (two_points m x y once h)
ring_long m (x ∷ y ∷ z ∷ rest) once h = omega arith

ring_formed : (m : ℕ) (removed points : List Coord) → IsRingFormed points → (is_one_point (ring_without removed points) ≡ true → is_one_point points ≡ true)
    → IsOnce (ring_uses m (ring_without removed points)) → IsRingFormed (ring_without removed points)
ring_formed m removed points formed keeps once = by (is_one_point (ring_without removed points)) refl
  where
    by : (left : Bool) → is_one_point (ring_without removed points) ≡ left → IsRingFormed (ring_without removed points)
    by false left = ring_long m (ring_without removed points) once left
    by true left = subst IsRingFormed (sym (ap (λ (b : Bool). cond b points (current removed points)) (keeps left))) formed

-- ---- the coverage

-- what holds of the change of each element holds of all of the changed list
all_changed : {X Y : Type 0} (P : Y → Type 0) (f : X → Y) (xs : List X) → ((x : X) → Contains xs x → P (f x)) → All P (map f xs)
all_changed P f xs h = All-map P f xs (λ k d within. h (get_or xs k d) (Contains-get_or xs k d within))

module _ (removed : List Coord) (members : Members) (formed : IsFormed members) (keeps : KeepsRings members removed) (once : IsOnce (uses_of (coverage_without removed members))) where
  ring_of : (member : List (List (List Coord))) → Contains members member → (poly : List (List Coord)) → Contains member poly → (points : List Coord) → Contains poly points
      → IsRingFormed (ring_without removed points)
  ring_of member in_members poly in_member points in_poly =
      let (k, of_member) = once_of_member 0 (coverage_without removed members) (member_without removed member) (contains-map (member_without removed) members member in_members) once in
      let of_poly = once_of_each (poly_uses k) (member_without removed member) (poly_without removed poly) (contains-map (poly_without removed) member poly in_member) of_member in
      let of_ring = once_of_each (ring_uses k) (poly_without removed poly) (ring_without removed points) (contains-map (ring_without removed) poly points in_poly) of_poly in
      let poly_is = All-contains IsPolyFormed member poly (All-contains IsMemberFormed members member formed.shapes in_members) in_member in
      ring_formed k removed points (All-contains IsRingFormed poly points poly_is.1 in_poly)
      (keeps points (record { member = member; in_members = in_members; poly = poly; in_member = in_member; in_poly = in_poly })) of_ring

  poly_of : (member : List (List (List Coord))) → Contains members member → (poly : List (List Coord)) → Contains member poly → IsPolyFormed (poly_without removed poly)
  poly_of member in_members poly in_member =
      let poly_is = All-contains IsPolyFormed member poly (All-contains IsMemberFormed members member formed.shapes in_members) in_member in
      let some = poly_is.0 in
      (omega (arith, length-map poly (ring_without removed)), all_changed IsRingFormed (ring_without removed) poly (ring_of member in_members poly in_member))

  pub shapes_without : All IsMemberFormed (coverage_without removed members)
  shapes_without = all_changed IsMemberFormed (member_without removed) members (λ member in_members. all_changed IsPolyFormed (poly_without removed) member (poly_of member in_members))

-- without the points a formed coverage is formed, where it is valid and in range, and no ring has come to be of one point
pub formed_without : (removed : List Coord) (members : Members) → IsFormed members → KeepsRings members removed → IsValid (uses_of (coverage_without removed members))
    → AllInRange (coverage_without removed members) → IsFormed (coverage_without removed members)
formed_without removed members formed keeps valid in_range = record {
  in_range = in_range;
  shapes = shapes_without removed members formed keeps (valid_once (uses_of (coverage_without removed members)) valid);
}
