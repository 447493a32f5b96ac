-- A linear function on a box is least and greatest at corners.
use Rattle.std.proofs.Common.{◌≡◌, Bool, true, ◌||◌, ◌⊎◌, inl, inr, ℤ, pos, ◌*ℤ◌, ◌≤ℤ◌}
use Rattle.std.proofs.lemmas.Bool.{or_left, or_right, or_cases}
use Rattle.integer_laws.proofs.Compare.{le_trans, le_of_lt, le_or_gt}
use Rattle.integer_laws.proofs.Order.{mul_le, mul_le_turned}
use Rattle.box_tree.specs.Probe.{has_corner}
use Rattle.box_tree.specs.Rect.{IsInside}
use Rattle.box_tree.specs.declared.rect.Rect.{Rect}

-- a corner that passes
pub corner_lower_left : (test : ℤ → ℤ → Bool) (b : Rect) → test b.lo.x b.lo.y ≡ true → has_corner test b ≡ true
corner_lower_left test b h =
    or_left (test b.lo.x b.lo.y || test b.hi.x b.lo.y || test b.lo.x b.hi.y) (test b.hi.x b.hi.y)
    (or_left (test b.lo.x b.lo.y || test b.hi.x b.lo.y) (test b.lo.x b.hi.y) (or_left (test b.lo.x b.lo.y) (test b.hi.x b.lo.y) h))

corner_lower_right : (test : ℤ → ℤ → Bool) (b : Rect) → test b.hi.x b.lo.y ≡ true → has_corner test b ≡ true
corner_lower_right test b h =
    or_left (test b.lo.x b.lo.y || test b.hi.x b.lo.y || test b.lo.x b.hi.y) (test b.hi.x b.hi.y)
    (or_left (test b.lo.x b.lo.y || test b.hi.x b.lo.y) (test b.lo.x b.hi.y) (or_right (test b.lo.x b.lo.y) (test b.hi.x b.lo.y) h))

corner_upper_left : (test : ℤ → ℤ → Bool) (b : Rect) → test b.lo.x b.hi.y ≡ true → has_corner test b ≡ true
corner_upper_left test b h =
    or_left (test b.lo.x b.lo.y || test b.hi.x b.lo.y || test b.lo.x b.hi.y) (test b.hi.x b.hi.y)
    (or_right (test b.lo.x b.lo.y || test b.hi.x b.lo.y) (test b.lo.x b.hi.y) h)

corner_upper_right : (test : ℤ → ℤ → Bool) (b : Rect) → test b.hi.x b.hi.y ≡ true → has_corner test b ≡ true
corner_upper_right test b h = or_right (test b.lo.x b.lo.y || test b.hi.x b.lo.y || test b.lo.x b.hi.y) (test b.hi.x b.hi.y) h

-- a product is no greater at one end of an interval
least_at_end : (k low x high : ℤ) → low ≤ℤ x → x ≤ℤ high → ((k *ℤ low) ≤ℤ (k *ℤ x)) ⊎ ((k *ℤ high) ≤ℤ (k *ℤ x))
least_at_end k low x high from to =
    elim (le_or_gt (pos 0) k) [ inl h ↦ inl (mul_le k h from) | inr h ↦ inr (mul_le_turned k (le_of_lt h) to) ]

-- a test that a point passes where one passes at which w·y + h·x is no less
abbrev pub IsLinear : (w h : ℤ) → (ℤ → ℤ → Bool) → Type 0
IsLinear w h test = (x y u v : ℤ) → (h *ℤ u) ≤ℤ (h *ℤ x) → (w *ℤ v) ≤ℤ (w *ℤ y) → test x y ≡ true → test u v ≡ true

-- where a point of the box passes, a corner does
corner_from : (test : ℤ → ℤ → Bool) (w h : ℤ) (b : Rect) (x y : ℤ) → IsLinear w h test
    → b.lo.x ≤ℤ x → x ≤ℤ b.hi.x → b.lo.y ≤ℤ y → y ≤ℤ b.hi.y → test x y ≡ true → has_corner test b ≡ true
corner_from test w h b x y linear left right bottom top passes =
    elim (least_at_end h b.lo.x x b.hi.x left right) [
      | inl at_left ↦ elim (least_at_end w b.lo.y y b.hi.y bottom top) [
        | inl at_bottom ↦ corner_lower_left test b (linear x y b.lo.x b.lo.y at_left at_bottom passes)
        | inr at_top ↦ corner_upper_left test b (linear x y b.lo.x b.hi.y at_left at_top passes)
      ]
      | inr at_right ↦ elim (least_at_end w b.lo.y y b.hi.y bottom top) [
        | inl at_bottom ↦ corner_lower_right test b (linear x y b.hi.x b.lo.y at_right at_bottom passes)
        | inr at_top ↦ corner_upper_right test b (linear x y b.hi.x b.hi.y at_right at_top passes)
      ]
    ]

-- some corner passes, by which one it is
corner_cases : (test : ℤ → ℤ → Bool) (a : Rect) → has_corner test a ≡ true
    → (test a.lo.x a.lo.y ≡ true) ⊎ ((test a.hi.x a.lo.y ≡ true) ⊎ ((test a.lo.x a.hi.y ≡ true) ⊎ (test a.hi.x a.hi.y ≡ true)))
corner_cases test a h =
    elim (or_cases (test a.lo.x a.lo.y || test a.hi.x a.lo.y || test a.lo.x a.hi.y) (test a.hi.x a.hi.y) h) [
      | inl others ↦ elim (or_cases (test a.lo.x a.lo.y || test a.hi.x a.lo.y) (test a.lo.x a.hi.y) others) [
        | inl lower ↦ elim (or_cases (test a.lo.x a.lo.y) (test a.hi.x a.lo.y) lower) [ inl one ↦ inl one | inr two ↦ inr (inl two) ]
        | inr three ↦ inr (inr (inl three))
      ]
      | inr four ↦ inr (inr (inr four))
    ]

-- where a corner of a box passes, a corner of each box about it does
pub corner_upward : (test : ℤ → ℤ → Bool) (w h : ℤ) (a b : Rect) → IsLinear w h test → IsInside a b → has_corner test a ≡ true → has_corner test b ≡ true
corner_upward test w h a b linear inside passes =
    let low_x = le_trans inside.left a.across in
    let high_x = le_trans a.across inside.right in
    let low_y = le_trans inside.bottom a.upright in
    let high_y = le_trans a.upright inside.top in
    elim (corner_cases test a passes) [
      | inl one ↦ corner_from test w h b a.lo.x a.lo.y linear inside.left high_x inside.bottom high_y one
      | inr (inl two) ↦ corner_from test w h b a.hi.x a.lo.y linear low_x inside.right inside.bottom high_y two
      | inr (inr (inl three)) ↦ corner_from test w h b a.lo.x a.hi.y linear inside.left high_x low_y inside.top three
      | inr (inr (inr four)) ↦ corner_from test w h b a.hi.x a.hi.y linear low_x inside.right low_y inside.top four
    ]
