-- Sums over lists, and how often a member uses a segment.
use mathlib.Core.List.{[], ◌∷◌}
use Rattle.std.proofs.Common.{◌≡◌, refl, sym, ◌∙◌, ap, subst, ℕ, zero, suc, ◌+◌, ◌*◌, ◌<◌, ◌≤◌, ◌==◌, ◌&&◌, Bool, true, false, cond, List, inl, inr, arith}
use Rattle.std.specs.Prelude.{Contains, sum_by, Some, slice_get}
use Rattle.std.proofs.lemmas.Bool.{and_parts, and_from, cases_lt}
use Rattle.std.proofs.lemmas.Bool.Decides.{Decides-eqb}
use Rattle.std.proofs.lemmas.List.Sums.{sum_by-cons}
use Rattle.std.proofs.lemmas.Option.{none-some}
use Rattle.cov_types.specs.declared.edge_use.EdgeUse.{EdgeUse}
use Rattle.cov_types.specs.declared.seg.Seg.{Seg}
use Rattle.cov_types.proofs.Equal.{Decides-same_segs, same_uses}
use Rattle.plane.specs.Validity.{IsRepeated}
use Rattle.crossing_laws.proofs.Lists.{contains_here, contains_there}
use Rattle.crossing_laws.specs.Across.{is_same_seg}

-- ---- sums

pub one_of_sum : {X : Type 0} (f : X → ℕ) (xs : List X) (x : X) → Contains xs x → f x ≤ sum_by f xs
one_of_sum f [] x (k, inside, is) = absurd (omega arith)
one_of_sum f (y ∷ xs) x (zero, inside, is) = let e = ap f is in omega (arith, sum_by-cons f y xs)
one_of_sum f (y ∷ xs) x (suc k, inside, is) = let rest = one_of_sum f xs x (k, omega arith, is) in omega (arith, sum_by-cons f y xs)

pub some_counted : {X : Type 0} (f : X → ℕ) (xs : List X) → 1 ≤ sum_by f xs → (x : X) × (Contains xs x × (1 ≤ f x))
some_counted f [] h = absurd (omega arith)
some_counted f (x ∷ xs) h =
    elim (cases_lt 0 (f x)) [
      | inl some ↦ (x, (contains_here x xs, omega arith))
      | inr none ↦ (let rest = some_counted f xs (omega (arith, sum_by-cons f x xs)) in (rest.0, (contains_there x rest.0 xs rest.1.0, rest.1.1)))
    ]

pub sum_at_most : {X : Type 0} (f g : X → ℕ) (xs : List X) → ((x : X) → Contains xs x → f x ≤ g x) → sum_by f xs ≤ sum_by g xs
sum_at_most f g [] h = omega arith
sum_at_most f g (x ∷ xs) h =
    let first = h x (contains_here x xs) in
    let rest = sum_at_most f g xs (λ y i. h y (contains_there x y xs i)) in
    omega (arith, sum_by-cons f x xs, sum_by-cons g x xs)

pub sum_scaled : {X : Type 0} (f : X → ℕ) (k : ℕ) (xs : List X) → sum_by (λ x. f x * k) xs ≡ sum_by f xs * k
sum_scaled f k [] = omega arith
sum_scaled f k (x ∷ xs) =
    let rest = sum_scaled f k xs in
    sum_by-cons (λ y. f y * k) x xs ∙ ap (λ n. f x * k + n) rest ∙ sym (spread (f x) (sum_by f xs) k) ∙ ap (λ n. n * k) (sym (sum_by-cons f x xs))
  where
    spread : (m n k : ℕ) → (m + n) * k ≡ m * k + n * k
    spread zero n k = omega arith
    spread (suc m) n k = let e = spread m n k in omega arith

-- ---- uses of a segment

abbrev pub is_use_of : ℕ → Seg → EdgeUse → Bool
is_use_of m e u = (u.member == m) && is_same_seg e u.seg

-- 1 for a use of the segment by the member, and 0 for others
abbrev pub counts_use : ℕ → Seg → EdgeUse → ℕ
counts_use m e u = cond {A = ℕ} (is_use_of m e u) 1 0

pub use_is : (m : ℕ) (e : Seg) (u : EdgeUse) → is_use_of m e u ≡ true → u ≡ record { member = m; seg = e }
use_is m e u h = let parts = and_parts _ _ h in same_uses u (record { member = m; seg = e }) ((Decides-eqb u.member m).0 parts.0) (sym ((Decides-same_segs e u.seg).0 parts.1))

pub use_counts : (m : ℕ) (e : Seg) → counts_use m e (record { member = m; seg = e }) ≡ 1
use_counts m e = ap (λ b. cond {A = ℕ} b 1 0) (and_from _ _ ((Decides-eqb m m).1 refl) ((Decides-same_segs e e).1 refl))

true_of_one : (b : Bool) → 1 ≤ cond {A = ℕ} b 1 0 → b ≡ true
true_of_one true h = refl
true_of_one false h = absurd (omega arith)

pub counted_is : (m : ℕ) (e : Seg) (u : EdgeUse) → 1 ≤ counts_use m e u → u ≡ record { member = m; seg = e }
counted_is m e u h = use_is m e u (true_of_one (is_use_of m e u) h)

-- a use in the list counts
pub has_times : (uses : List EdgeUse) (m : ℕ) (e : Seg) → Contains uses (record { member = m; seg = e }) → 1 ≤ sum_by (counts_use m e) uses
has_times uses m e has = let one = one_of_sum (counts_use m e) uses (record { member = m; seg = e }) has in omega (arith, use_counts m e)

pub times_has : (uses : List EdgeUse) (m : ℕ) (e : Seg) → 1 ≤ sum_by (counts_use m e) uses → Contains uses (record { member = m; seg = e })
times_has uses m e h = let found = some_counted (counts_use m e) uses h in subst (Contains uses) (counted_is m e found.0 found.1.1) found.1.0

-- ---- repeated

-- the use stands at this place
record StandsAt (uses : List EdgeUse) (u : EdgeUse) : Type 0 where
  k : ℕ
  at : slice_get uses k ≡ Some u

stands : (uses : List EdgeUse) (m : ℕ) (e : Seg) → 1 ≤ sum_by (counts_use m e) uses → StandsAt uses (record { member = m; seg = e })
stands [] m e h = absurd (omega arith)
stands (u ∷ uses) m e h =
    elim (cases_lt 0 (counts_use m e u)) [
      | inl some ↦ record { k = 0; at = ap (λ (v : EdgeUse). Some v) (counted_is m e u (omega arith)) }
      | inr none ↦ (let rest = stands uses m e (omega (arith, sum_by-cons (counts_use m e) u uses)) in record { k = suc rest.k; at = rest.at })
    ]

at_most_one : (b : Bool) → cond {A = ℕ} b 1 0 ≤ 1
at_most_one true = omega arith
at_most_one false = omega arith

pub repeated_of : (uses : List EdgeUse) (m : ℕ) (e : Seg) → 2 ≤ sum_by (counts_use m e) uses → IsRepeated uses (record { member = m; seg = e })
repeated_of [] m e h = absurd (omega arith)
repeated_of (u ∷ uses) m e h =
    elim (cases_lt 0 (counts_use m e u)) [
      | inl some ↦ (
          let rest = stands uses m e (omega (arith, sum_by-cons (counts_use m e) u uses, at_most_one (is_use_of m e u))) in
          record { first = 0; second = suc rest.k; apart = omega arith; at_first = ap (λ (v : EdgeUse). Some v) (counted_is m e u (omega arith)); at_second = rest.at }
          )
      | inr none ↦ (
          let rest = repeated_of uses m e (omega (arith, sum_by-cons (counts_use m e) u uses)) in
          record { first = suc rest.first; second = suc rest.second; apart = (let less = rest.apart in omega arith); at_first = rest.at_first; at_second = rest.at_second }
          )
    ]

some_is : (u v : EdgeUse) → Some u ≡ Some v → u ≡ v
some_is u v h = cc

stood : (uses : List EdgeUse) (m : ℕ) (e : Seg) (k : ℕ) → slice_get uses k ≡ Some (record { member = m; seg = e }) → 1 ≤ sum_by (counts_use m e) uses
stood [] m e k h = absurd (none-some _ h)
stood (u ∷ uses) m e zero h =
    let one = ap (counts_use m e) (some_is u (record { member = m; seg = e }) h) in omega (arith, sum_by-cons (counts_use m e) u uses, use_counts m e, one)
stood (u ∷ uses) m e (suc k) h = let rest = stood uses m e k h in omega (arith, sum_by-cons (counts_use m e) u uses)

pub twice_of : (uses : List EdgeUse) (m : ℕ) (e : Seg) (i j : ℕ) → i < j → slice_get uses i ≡ Some (record { member = m; seg = e }) → slice_get uses j ≡ Some (record { member = m; seg = e })
    → 2 ≤ sum_by (counts_use m e) uses
twice_of [] m e i j less h k = absurd (none-some _ h)
twice_of (u ∷ uses) m e i zero less h k = absurd (omega arith)
twice_of (u ∷ uses) m e zero (suc j) less h k =
    let one = ap (counts_use m e) (some_is u (record { member = m; seg = e }) h) in
    let rest = stood uses m e j k in
    omega (arith, sum_by-cons (counts_use m e) u uses, use_counts m e, one)
twice_of (u ∷ uses) m e (suc i) (suc j) less h k = let rest = twice_of uses m e i j (omega arith) h k in omega (arith, sum_by-cons (counts_use m e) u uses)
