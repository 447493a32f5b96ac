-- For callers: which numbers are places, and their order.
use Rattle.std.proofs.Common.{◌≡◌, refl, sym, ◌∙◌, ap, subst, ℕ, zero, suc, ◌+◌, ◌<◌, ◌≤◌, Bool, true, false, true≢false, List, [], ◌∷◌, Some, ◌↔◌, inl, inr, Contains, All, slice_get, length, arith}
use Rattle.std.specs.Prelude.{AllPairs}
use Rattle.std.proofs.lemmas.List.Elements.{All-cons, All-nil, All-weaker, Contains-append_cases, Contains-append_right}
use Rattle.box_tree.proofs.Places.{keep, places_below}
use Rattle.box_tree.specs.Places.{places}
use Rattle.box_tree.specs.declared.rect.Rect.{Rect}

-- k is the number of a box that passes, counted from n
record IsPlace (test : Rect → Bool) (n : ℕ) (xs : List Rect) (k : ℕ) : Type 0 where
  at : ℕ
  counted : k ≡ n + at
  box : Rect
  stands : slice_get xs at ≡ Some box
  passes : test box ≡ true

later_place : (test : Rect → Bool) (n : ℕ) (x : Rect) (xs : List Rect) (k : ℕ) → IsPlace test (n + 1) xs k → IsPlace test n (x ∷ xs) k
later_place test n x xs k h =
    let e = h.counted in
    record { at = suc h.at; counted = omega arith; box = h.box; stands = h.stands; passes = h.passes }

only : (n k : ℕ) → Contains (n ∷ []) k → k ≡ n
only n k (zero, below, same) = sym same
only n k (suc i, below, same) = absurd (omega arith)

kept_place : (test : Rect → Bool) (n : ℕ) (x : Rect) (xs : List Rect) (k : ℕ) (b : Bool) → test x ≡ b
    → (Contains (places test (n + 1) xs) k → IsPlace test (n + 1) xs k) → Contains (keep b n (places test (n + 1) xs)) k → IsPlace test n (x ∷ xs) k
kept_place test n x xs k true e others h =
    elim (Contains-append_cases (n ∷ []) (places test (n + 1) xs) k h) [
      | inl first ↦ let same = only n k first in record { at = 0; counted = omega arith; box = x; stands = refl; passes = e }
      | inr later ↦ later_place test n x xs k (others later)
    ]
kept_place test n x xs k false e others h = later_place test n x xs k (others h)

told : (test : Rect → Bool) (n : ℕ) (xs : List Rect) (k : ℕ) → Contains (places test n xs) k → IsPlace test n xs k
told test n [] k (i, below, same) = absurd (omega arith)
told test n (x ∷ xs) k h = kept_place test n x xs k (test x) refl (told test (n + 1) xs k) h

has_later : (b : Bool) (n : ℕ) (ns : List ℕ) (k : ℕ) → Contains ns k → Contains (keep b n ns) k
has_later true n ns k h = Contains-append_right (n ∷ []) ns k h
has_later false n ns k h = h

has_first : (b : Bool) (n : ℕ) (ns : List ℕ) → b ≡ true → Contains (keep b n ns) n
has_first true n ns e = (0, omega arith, refl)
has_first false n ns e = absurd (true≢false (sym e))

from : (test : Rect → Bool) (n : ℕ) (xs : List Rect) (i : ℕ) (b : Rect) → slice_get xs i ≡ Some b → test b ≡ true → Contains (places test n xs) (n + i)
from test n [] i b e passes = cc
from test n (x ∷ xs) zero b e passes =
    let same : x ≡ b = cc in
    let at : n ≡ n + 0 = omega arith in
    subst (λ (k : ℕ). Contains (places test n (x ∷ xs)) k) at (has_first (test x) n (places test (n + 1) xs) (ap test same ∙ passes))
from test n (x ∷ xs) (suc i) b e passes =
    let at : (n + 1) + i ≡ n + suc i = omega arith in
    has_later (test x) n (places test (n + 1) xs) (n + suc i) (subst (λ (k : ℕ). Contains (places test (n + 1) xs) k) at (from test (n + 1) xs i b e passes))

-- the places in a list are the numbers of the boxes that pass
pub place_in : (test : Rect → Bool) (xs : List Rect) (k : ℕ) → Contains (places test 0 xs) k ↔ ((b : Rect) × (slice_get xs k ≡ Some b) × (test b ≡ true))
place_in test xs k = (
  λ h. let p = told test 0 xs k h in let same : p.at ≡ k = (let e = p.counted in omega arith) in (p.box, subst (λ (i : ℕ). slice_get xs i ≡ Some p.box) same p.stands, p.passes),
  λ h. let at : 0 + k ≡ k = omega arith in subst (λ (i : ℕ). Contains (places test 0 xs) i) at (from test 0 xs k h.0 h.1 h.2),
)

-- each is below the length of the list
pub place_below : (test : Rect → Bool) (xs : List Rect) → All (λ k. k < length xs) (places test 0 xs)
place_below test xs = All-weaker (λ k. k < 0 + length xs) (λ k. k < length xs) (λ k h. omega arith) (places test 0 xs) (places_below test 0 xs)

All-keep : (P : ℕ → Type 0) (b : Bool) (n : ℕ) (ns : List ℕ) → P n → All P ns → All P (keep b n ns)
All-keep P true n ns h all = All-cons P n ns h all
All-keep P false n ns h all = all

places_from : (test : Rect → Bool) (n : ℕ) (xs : List Rect) → All (λ k. n ≤ k) (places test n xs)
places_from test n [] = All-nil (λ k. n ≤ k)
places_from test n (x ∷ xs) =
    All-keep (λ k. n ≤ k) (test x) n (places test (n + 1) xs) (omega arith)
    (All-weaker (λ k. n + 1 ≤ k) (λ k. n ≤ k) (λ k h. omega arith) (places test (n + 1) xs) (places_from test (n + 1) xs))

ascend_cons : (n : ℕ) (ns : List ℕ) → All (λ k. n + 1 ≤ k) ns → AllPairs (λ i k. i < k) ns → AllPairs (λ i k. i < k) (n ∷ ns)
ascend_cons n ns all pairs zero zero d lt below = absurd (omega arith)
ascend_cons n ns all pairs zero (suc j) d lt below = let above = all j d (omega arith) in omega arith
ascend_cons n ns all pairs (suc i) zero d lt below = absurd (omega arith)
ascend_cons n ns all pairs (suc i) (suc j) d lt below = pairs i j d (omega arith) (omega arith)

ascend_keep : (b : Bool) (n : ℕ) (ns : List ℕ) → All (λ k. n + 1 ≤ k) ns → AllPairs (λ i k. i < k) ns → AllPairs (λ i k. i < k) (keep b n ns)
ascend_keep true n ns all pairs = ascend_cons n ns all pairs
ascend_keep false n ns all pairs = pairs

-- and they ascend
pub places_ascend : (test : Rect → Bool) (n : ℕ) (xs : List Rect) → AllPairs (λ i k. i < k) (places test n xs)
places_ascend test n [] = λ i j d lt below. absurd (omega arith)
places_ascend test n (x ∷ xs) = ascend_keep (test x) n (places test (n + 1) xs) (places_from test (n + 1) xs) (places_ascend test (n + 1) xs)
