-- The places in a list of boxes, and the boxes of segments that have a point in common.
use mathlib.Core.List.{List, [], ◌∷◌}
use Rattle.std.proofs.Common.{◌≡◌, refl, sym, ◌∙◌, subst, ℕ, zero, suc, ◌+◌, ◌<◌, Bool, true, false, cond, length, get_or, Contains, true≢false, arith, ℤ, pos, neg_ℤ, ◌-ℤ◌, ◌*ℤ◌, ◌≤ℤ◌, inl, inr, ◌⊎◌}
use Rattle.std.specs.Int.{int_min, int_max}
use Rattle.std.proofs.lemmas.Int.{ints, clamps}
use Rattle.crossing_laws.proofs.Lists.{contains_here, contains_there}
use Rattle.box_tree.specs.Places.{places}
use Rattle.box_tree.specs.Rect.{box_of_segment, is_touching}
use Rattle.box_tree.specs.declared.rect.Rect.{Rect}
use Rattle.box_tree.proofs.Touching.{is_touching-is}
use Rattle.cov_types.specs.declared.seg.Seg.{Seg}
use Rattle.integer_laws.proofs.Order.{cancel_le_right}
use Rattle.integer_laws.proofs.Compare.{le_trans}
use Rattle.integer_laws.proofs.Ring.{lin, mul_one, one_mul, neg_mul, zero_mul}
use Rattle.plane.specs.Contact.{MeetsBadly}
use Rattle.plane.specs.Point.{Point, at_coord}
use Rattle.plane.specs.Segment.{IsOn}
use Rattle.plane.proofs.Forms.{form, form_not_negative-between}
use Rattle.plane.proofs.Points.{d_positive}

-- ---- the places that pass a test

kept_has : (b : Bool) (n k : ℕ) (ns : List ℕ) → Contains ns k → Contains (cond b (n ∷ ns) ns) k
kept_has true n k ns h = contains_there n k ns h
kept_has false n k ns h = h

kept_first : (b : Bool) (n : ℕ) (ns : List ℕ) → b ≡ true → Contains (cond b (n ∷ ns) ns) n
kept_first true n ns h = contains_here n ns
kept_first false n ns h = absurd (true≢false (sym h))

-- the place of a box that passes
pub places_has : (test : Rect → Bool) (n : ℕ) (boxes : List Rect) (j : ℕ) (d : Rect) → j < length boxes → test (get_or boxes j d) ≡ true → Contains (places test n boxes) (n + j)
places_has test n [] j d within passes = absurd (omega (arith, within))
places_has test n (b ∷ boxes) zero d within passes =
    let here : n ≡ n + zero = omega arith in
    subst (Contains (places test n (b ∷ boxes))) here (kept_first (test b) n (places test (n + 1) boxes) passes)
places_has test n (b ∷ boxes) (suc j) d within passes =
    let there : (n + 1) + j ≡ n + suc j = omega arith in
    kept_has (test b) n (n + suc j) (places test (n + 1) boxes)
    (subst (Contains (places test (n + 1) boxes)) there (places_has test (n + 1) boxes j d (omega (arith, within)) passes))

-- a place counted from n is that of a box that passes
pub record IsPlace (test : Rect → Bool) (n : ℕ) (boxes : List Rect) (k : ℕ) : Type 0 where
  pub number : ℕ
  pub at : k ≡ n + number
  pub within : number < length boxes
  pub passes : (d : Rect) → test (get_or boxes number d) ≡ true

first_or_rest : (b : Bool) (n k : ℕ) (ns : List ℕ) → Contains (cond b (n ∷ ns) ns) k → ((b ≡ true) × (n ≡ k)) ⊎ Contains ns k
first_or_rest true n k ns (zero, within, at) = inl (refl, at)
first_or_rest true n k ns (suc j, within, at) = inr (j, omega (arith, within), at)
first_or_rest false n k ns h = inr h

pub places_passes : (test : Rect → Bool) (n : ℕ) (boxes : List Rect) (k : ℕ) → Contains (places test n boxes) k → IsPlace test n boxes k
places_passes test n [] k h = absurd (omega (arith, h.1))
places_passes test n (b ∷ boxes) k h =
    elim (first_or_rest (test b) n k (places test (n + 1) boxes) h) [
      | inl first ↦ record { number = 0; at = sym first.1 ∙ omega arith; within = omega arith; passes = λ d. first.0 }
      | inr rest ↦
          let more = places_passes test (n + 1) boxes k rest in
          record { number = suc more.number; at = more.at ∙ omega arith; within = omega (arith, more.within); passes = λ d. more.passes d }
    ]

-- ---- points in boxes

-- the point is in the closed box
pub record IsInBox (b : Rect) (r : Point) : Type 0 where
  pub left : (b.lo.x *ℤ pos r.d) ≤ℤ r.x
  pub right : r.x ≤ℤ (b.hi.x *ℤ pos r.d)
  pub bottom : (b.lo.y *ℤ pos r.d) ≤ℤ r.y
  pub top : r.y ≤ℤ (b.hi.y *ℤ pos r.d)

-- forms that tell one coordinate
x_above : (m : ℤ) (r : Point) → form (pos 1) (pos 0) (neg_ℤ m) r ≡ r.x -ℤ (m *ℤ pos r.d)
unfolding form
x_above m r = omega (arith, lin, one_mul r.x, zero_mul r.y, neg_mul m (pos r.d))

x_below : (m : ℤ) (r : Point) → form (neg_ℤ (pos 1)) (pos 0) m r ≡ (m *ℤ pos r.d) -ℤ r.x
unfolding form
x_below m r = omega (arith, lin, one_mul r.x, neg_mul (pos 1) r.x, zero_mul r.y)

y_above : (m : ℤ) (r : Point) → form (pos 0) (pos 1) (neg_ℤ m) r ≡ r.y -ℤ (m *ℤ pos r.d)
unfolding form
y_above m r = omega (arith, lin, one_mul r.y, zero_mul r.x, neg_mul m (pos r.d))

y_below : (m : ℤ) (r : Point) → form (pos 0) (neg_ℤ (pos 1)) m r ≡ (m *ℤ pos r.d) -ℤ r.y
unfolding form
y_below m r = omega (arith, lin, one_mul r.y, neg_mul (pos 1) r.y, zero_mul r.x)

pub lesser : (a b : ℤ) → (int_min a b ≤ℤ a) × (int_min a b ≤ℤ b)
lesser a b = (omega (arith, ints, clamps), omega (arith, ints, clamps))

pub greater : (a b : ℤ) → (a ≤ℤ int_max a b) × (b ≤ℤ int_max a b)
greater a b = (omega (arith, ints, clamps), omega (arith, ints, clamps))

-- each point of a segment is in its box
pub on_in_box : (s : Seg) (r : Point) → IsOn s r → IsInBox (box_of_segment s) r
on_in_box s r on =
    let b = box_of_segment s in
    let lo = at_coord s.lo in
    let hi = at_coord s.hi in
    let least_x = lesser s.lo.x s.hi.x in
    let greatest_x = greater s.lo.x s.hi.x in
    let least_y = lesser s.lo.y s.hi.y in
    let greatest_y = greater s.lo.y s.hi.y in
    let left = form_not_negative-between (pos 1) (pos 0) (neg_ℤ b.lo.x) r lo hi on (omega (arith, lin, x_above b.lo.x lo, mul_one b.lo.x, least_x.0)) (omega (arith, lin, x_above b.lo.x hi, mul_one b.lo.x, least_x.1)) in
    let right = form_not_negative-between (neg_ℤ (pos 1)) (pos 0) b.hi.x r lo hi on (omega (arith, lin, x_below b.hi.x lo, mul_one b.hi.x, greatest_x.0)) (omega (arith, lin, x_below b.hi.x hi, mul_one b.hi.x, greatest_x.1)) in
    let bottom = form_not_negative-between (pos 0) (pos 1) (neg_ℤ b.lo.y) r lo hi on (omega (arith, lin, y_above b.lo.y lo, mul_one b.lo.y, least_y.0)) (omega (arith, lin, y_above b.lo.y hi, mul_one b.lo.y, least_y.1)) in
    let top = form_not_negative-between (pos 0) (neg_ℤ (pos 1)) b.hi.y r lo hi on (omega (arith, lin, y_below b.hi.y lo, mul_one b.hi.y, greatest_y.0)) (omega (arith, lin, y_below b.hi.y hi, mul_one b.hi.y, greatest_y.1)) in
    record {
      left = omega (arith, lin, x_above b.lo.x r);
      right = omega (arith, lin, x_below b.hi.x r);
      bottom = omega (arith, lin, y_above b.lo.y r);
      top = omega (arith, lin, y_below b.hi.y r);
    }

-- boxes with a point in common touch
pub common_touch : (a b : Rect) (r : Point) → IsInBox a r → IsInBox b r → is_touching a b ≡ true
common_touch a b r h k =
    let join = λ (low high middle : ℤ) (l : (low *ℤ pos r.d) ≤ℤ middle) (m : middle ≤ℤ (high *ℤ pos r.d)). cancel_le_right (pos r.d) low high (d_positive r) (le_trans l m) in
    (is_touching-is a b).1 (record {
      left = join a.lo.x b.hi.x r.x h.left k.right;
      right = join b.lo.x a.hi.x r.x k.left h.right;
      below = join a.lo.y b.hi.y r.y h.bottom k.top;
      above = join b.lo.y a.hi.y r.y k.bottom h.top;
    })

-- the boxes of segments that meet badly touch
pub bad_touch : (s t : Seg) → MeetsBadly s t → is_touching (box_of_segment s) (box_of_segment t) ≡ true
bad_touch s t (apart, (r, (common, ends))) = common_touch (box_of_segment s) (box_of_segment t) r (on_in_box s r common.0) (on_in_box t r common.1)
