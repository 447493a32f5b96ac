-- Sums over the uses of a coverage that count one member alone.
use mathlib.Core.List.{[], ◌∷◌}
use Rattle.std.proofs.Common.{◌≡◌, refl, sym, ◌∙◌, ℕ, zero, suc, ◌+◌, ◌<◌, ◌≤◌, List, length, arith}
use Rattle.std.specs.Prelude.{Contains, All, sum_by, flat_map, Some, slice_get}
use Rattle.std.specs.List.{enumerate_from}
use Rattle.std.proofs.lemmas.List.Elements.{All-contains}
use Rattle.std.proofs.lemmas.List.Sums.{sum_by-append}
use Rattle.std.proofs.lemmas.Option.{none-some, same_Some}
use Rattle.cov_types.specs.declared.coord.Coord.{Coord}
use Rattle.cov_types.specs.declared.edge_use.EdgeUse.{EdgeUse}
use Rattle.cov_types.specs.Coverage.{Members}
use Rattle.cov_types.specs.Uses.{sides, side_uses, ring_uses, poly_uses, member_uses, uses_of}
use Rattle.cov_types.proofs.AllUses.{All-flat_map, All-everywhere, side_members}
use Rattle.cleaned_laws.proofs.Sums.{sum_none}

-- the uses of a member are its
pub of_member : (k : ℕ) (polys : List (List (List Coord))) (u : EdgeUse) → Contains (member_uses (k, polys)) u → u.member ≡ k
of_member k polys u has = All-contains (λ v. v.member ≡ k) (member_uses (k, polys)) u all has
  where
    all : All (λ (v : EdgeUse). v.member ≡ k) (member_uses (k, polys))
    all =
        All-flat_map (λ v. v.member ≡ k) (poly_uses k) polys (All-everywhere _ polys (λ rings.
        All-flat_map (λ v. v.member ≡ k) (ring_uses k) rings (All-everywhere _ rings (λ points.
        All-flat_map (λ v. v.member ≡ k) (side_uses k) (sides points) (All-everywhere _ (sides points) (side_members (λ n. n ≡ k) k refl))))))

module _ (f : EdgeUse → ℕ) (m : ℕ) (none : (u : EdgeUse) → ¬ (u.member ≡ m) → f u ≡ 0) where
  other : (k : ℕ) (polys : List (List (List Coord))) → ¬ (k ≡ m) → sum_by f (member_uses (k, polys)) ≡ 0
  other k polys apart = sum_none f (member_uses (k, polys)) (λ u has. none u (λ same. apart (sym (of_member k polys u has) ∙ same)))

  abbrev from : ℕ → Members → ℕ
  from n xs = sum_by f (flat_map member_uses (enumerate_from n xs))

  later : (n : ℕ) (xs : Members) → m < n → from n xs ≡ 0
  later n [] less = refl
  later n (x ∷ xs) less =
      let first = other n x (λ same. omega (arith, same, less)) in
      let rest = later (n + 1) xs (omega arith) in
      omega (arith, first, rest, sum_by-append f (member_uses (n, x)) (flat_map member_uses (enumerate_from (n + 1) xs)))

  at : (n j : ℕ) (xs : Members) (polys : List (List (List Coord))) → m ≡ n + j → slice_get xs j ≡ Some polys → from n xs ≡ sum_by f (member_uses (m, polys))
  at n j [] polys is found = absurd (none-some polys found)
  at n zero (x ∷ xs) polys is found =
      let number : n ≡ m = omega (arith, is) in
      let same : sum_by f (member_uses (n, x)) ≡ sum_by f (member_uses (m, polys)) = λ i. sum_by f (member_uses (number i, same_Some _ _ found i)) in
      let rest = later (n + 1) xs (omega (arith, is)) in
      omega (arith, same, rest, sum_by-append f (member_uses (n, x)) (flat_map member_uses (enumerate_from (n + 1) xs)))
  at n (suc j) (x ∷ xs) polys is found =
      let first = other n x (λ same. omega (arith, same, is)) in
      let rest = at (n + 1) j xs polys (omega (arith, is)) found in
      omega (arith, first, rest, sum_by-append f (member_uses (n, x)) (flat_map member_uses (enumerate_from (n + 1) xs)))

  beyond : (n : ℕ) (xs : Members) → n + length xs ≤ m → from n xs ≡ 0
  beyond n [] past = refl
  beyond n (x ∷ xs) past =
      let first = other n x (λ same. omega (arith, same, past)) in
      let rest = beyond (n + 1) xs (omega (arith, past)) in
      omega (arith, first, rest, sum_by-append f (member_uses (n, x)) (flat_map member_uses (enumerate_from (n + 1) xs)))

  pub uses_at : (out : Members) (polys : List (List (List Coord))) → slice_get out m ≡ Some polys → sum_by f (uses_of out) ≡ sum_by f (member_uses (m, polys))
  uses_at out polys found = at 0 m out polys (omega arith) found

  pub uses_none : (out : Members) → length out ≤ m → sum_by f (uses_of out) ≡ 0
  uses_none out past = beyond 0 out (omega (arith, past))
