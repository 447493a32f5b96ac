-- Rings without points, and lists changed one element at a time.
use mathlib.Core.List.{[], ◌∷◌, ◌++◌}
use Rattle.std.proofs.Common.{◌≡◌, refl, sym, ◌∙◌, ap, subst, ℕ, zero, suc, ◌+◌, ◌-◌, ◌<◌, ◌≤◌, ◌&&◌, Bool, true, false, not, cond, List, length, get_or, map, append_assoc, arith}
use Rattle.std.specs.Prelude.{filter, reverse}
use Rattle.std.proofs.lemmas.Bool.{and_from, not-true}
use Rattle.std.proofs.lemmas.List.{map-append, append-nil}
use Rattle.cov_types.specs.declared.coord.Coord.{Coord}
use Rattle.cov_types.specs.Coord.{is_same_coord}
use Rattle.cov_types.specs.Coverage.{Members}
use Rattle.greedy_run.specs.Run.{is_removed, current, is_one_point, ring_without, coverage_without}

-- ---- points that are all equal

pub all_equal : (points : List Coord) → ((k : ℕ) (d : Coord) → suc k < length points → is_same_coord (get_or points k d) (get_or points (suc k) d) ≡ true) → is_one_point points ≡ true
all_equal [] h = refl
all_equal (x ∷ []) h = refl
all_equal (x ∷ y ∷ rest) h = and_from _ _ (h 0 x (omega arith)) (all_equal (y ∷ rest) (λ k d within. h (suc k) d (omega arith)))

pub two_apart : (points : List Coord) (k : ℕ) (d : Coord) → suc k < length points → is_same_coord (get_or points k d) (get_or points (suc k) d) ≡ false → is_one_point points ≡ false
two_apart [] k d within h = absurd (omega arith)
two_apart (x ∷ []) k d within h = absurd (omega arith)
two_apart (x ∷ y ∷ rest) zero d within h = ap (λ b. b && is_one_point (y ∷ rest)) h
two_apart (x ∷ y ∷ rest) (suc k) d within h = by (is_same_coord x y) (two_apart (y ∷ rest) k d (omega arith) h)
  where
    by : (b : Bool) → is_one_point (y ∷ rest) ≡ false → (b && is_one_point (y ∷ rest)) ≡ false
    by true is = is
    by false is = refl

pub two_differ : (points : List Coord) (i : ℕ) (d : Coord) (t : Bool) → 1 ≤ i → i < length points → t ≡ true → t ≡ not (is_same_coord (get_or points (i - 1) d) (get_or points i d)) → false ≡ is_one_point points
two_differ points i d t some within is by =
    let next : i ≡ suc (i - 1) = omega arith in
    sym (two_apart points (i - 1) d (omega arith) (subst (λ j. is_same_coord (get_or points (i - 1) d) (get_or points j d) ≡ false) next (not-true (is_same_coord (get_or points (i - 1) d) (get_or points i d)) (sym by ∙ is))))

-- ---- rings

pub ring_stays : (removed points : List Coord) → is_one_point points ≡ true → points ≡ ring_without removed points
ring_stays removed points one = sym (ap (λ (b : Bool). cond b points (current removed points)) one)

pub ring_loses : (test : Coord → Bool) (removed points left : List Coord) → ((p : Coord) → test p ≡ is_removed removed p) → is_one_point points ≡ false → left ≡ filter (λ p. not (test p)) points
    → left ≡ ring_without removed points
ring_loses test removed points left same two is =
    is ∙ (λ i. filter (λ p. not (same p i)) points) ∙ sym (ap (λ (b : Bool). cond b points (current removed points)) two)

-- ---- lists

pub mapped_more : {X Y : Type 0} (f : X → Y) (xs : List X) (x : X) (ys zs : List Y) (y : Y) → zs ≡ ys ++ y ∷ [] → ys ≡ map f xs → y ≡ f x → zs ≡ map f (xs ++ x ∷ [])
mapped_more f xs x ys zs y pushed same is = pushed ∙ (λ i. same i ++ is i ∷ []) ∙ sym (map-append f xs (x ∷ []))

pub moved_on : {X : Type 0} (yielded rest before all : List X) (x : X) → yielded ++ before ≡ all → before ≡ x ∷ rest → (yielded ++ x ∷ []) ++ rest ≡ all
moved_on yielded rest before all x is next = append_assoc yielded (x ∷ []) rest ∙ ap (λ xs. yielded ++ xs) (sym next) ∙ is

pub all_yielded : {X : Type 0} (yielded rest all : List X) → yielded ++ rest ≡ all → length rest ≡ 0 → yielded ≡ all
all_yielded yielded [] all is none = sym (append-nil yielded) ∙ is
all_yielded yielded (x ∷ rest) all is none = absurd (omega arith)
