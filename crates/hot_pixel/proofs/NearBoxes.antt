-- Boxes near a block of neighbours: those that touch its hull.
use mathlib.Core.List.{[], ◌∷◌}
use Rattle.std.proofs.Common.{◌≡◌, refl, sym, ◌∙◌, ap, subst, ℕ, ◌+◌, ◌-◌, ◌<◌, ◌≤◌, List, length, get_or, take, drop, IsTrue, true, ◌&&◌, int_le, Some, slice_get, arith}
use Rattle.std.specs.Prelude.{All, Contains}
use Rattle.std.proofs.lemmas.List.{get_or-take, get_or-drop, length-take-le, length-drop}
use Rattle.std.proofs.lemmas.Option.{slice_get_within, get_or_from_slice_get, slice_get-get_or}
use Rattle.std.proofs.lemmas.Bool.{and_parts}
use Rattle.integer_laws.proofs.Compare.{int_le_is}
use Rattle.box_tree.specs.Places.{places}
use Rattle.box_tree.specs.Rect.{IsInside, is_touching}
use Rattle.box_tree.specs.declared.rect.Rect.{Rect}
use Rattle.box_tree.proofs.PlaceLaws.{place_in, place_below}
use Rattle.box_tree.proofs.Touching.{touch_wider}
use Rattle.hot_pixel.specs.Near.{AreNear, is_inside}

-- a box of a block is inside its hull
in_block : (boxes : List Rect) (first past i : ℕ) (a round : Rect) → past ≤ length boxes → All (λ b. IsInside b round) (take (past - first) (drop first boxes)) → first ≤ i → i < past → slice_get boxes i ≡ Some a → IsInside a round
in_block boxes first past i a round within all from to at =
    let rest = length-drop first boxes in
    let inside : i - first < length (take (past - first) (drop first boxes)) = omega (arith, length-take-le (past - first) (drop first boxes) (omega arith)) in
    let place : first + (i - first) ≡ i = omega arith in
    let here : get_or (take (past - first) (drop first boxes)) (i - first) a ≡ a =
    get_or-take (past - first) (drop first boxes) (i - first) a (omega arith) ∙ get_or-drop first boxes (i - first) a ∙ ap (λ n. get_or boxes n a) place ∙ get_or_from_slice_get boxes i a a at in
    subst (λ (b : Rect). IsInside b round) here (all (i - first) a inside)

-- what touches a box of the block touches the hull, and so is found
pub near_found : (boxes : List Rect) (first past : ℕ) (round : Rect) (near : List ℕ) → past ≤ length boxes → All (λ b. IsInside b round) (take (past - first) (drop first boxes)) → near ≡ places (is_touching round) 0 boxes → AreNear boxes first past near
near_found boxes first past round near within all found = record {
  within = subst (All (λ k. k < length boxes)) (sym found) (place_below (is_touching round) boxes);
  has = λ i k a b from to at_i at_k touch. subst (λ (ks : List ℕ). Contains ks k) (sym found)
      ((place_in (is_touching round) boxes k).1 (b, at_k, touch_wider a round b (in_block boxes first past i a round within all from to at_i) touch));
}

-- fewer boxes have fewer near
pub near_one : (boxes : List Rect) (first past i : ℕ) (near : List ℕ) → first ≤ i → i < past → AreNear boxes first past near → AreNear boxes i (i + 1) near
near_one boxes first past i near from to all = record {
  within = all.within;
  has = λ j k a b below above at_j at_k touch. all.has j k a b (omega arith) (omega arith) at_j at_k touch;
}

-- what the test of a box inside another tells
pub inside_is : (a b : Rect) → is_inside a b ≡ true → IsInside a b
inside_is a b h =
    let outer = and_parts (int_le b.lo.x a.lo.x && int_le a.hi.x b.hi.x && int_le b.lo.y a.lo.y) (int_le a.hi.y b.hi.y) h in
    let inner = and_parts (int_le b.lo.x a.lo.x && int_le a.hi.x b.hi.x) (int_le b.lo.y a.lo.y) outer.0 in
    let sides = and_parts (int_le b.lo.x a.lo.x) (int_le a.hi.x b.hi.x) inner.0 in
    record {
      left = (int_le_is b.lo.x a.lo.x).0 sides.0;
      right = (int_le_is a.hi.x b.hi.x).0 sides.1;
      bottom = (int_le_is b.lo.y a.lo.y).0 inner.1;
      top = (int_le_is a.hi.y b.hi.y).0 outer.1;
    }
