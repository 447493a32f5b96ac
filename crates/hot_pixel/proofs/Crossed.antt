-- Crossed pixels: which pairs are tried, and what the list of centres gains of them.
use mathlib.Core.List.{[], ◌∷◌}
use Rattle.std.proofs.Common.{◌≡◌, ◌⊎◌, inl, inr, refl, sym, ◌∙◌, ap, subst, ℕ, ◌+◌, ◌*◌, ◌/◌, ◌%◌, ◌<◌, ◌≤◌, ◌↔◌, List, length, get_or, map, IsTrue, Bool, false, true, Option, Some, None, is_some, unwrap_or, slice_get, arith}
use Rattle.std.specs.Prelude.{All, Contains, Any, min}
use Rattle.std.proofs.lemmas.Grind.{div_ceil_times}
use Rattle.std.specs.Option.{option_map}
use Rattle.std.proofs.lemmas.Bool.{cases_lt, false≢true}
use Rattle.std.proofs.lemmas.List.Elements.{Contains-get_or}
use Rattle.std.proofs.lemmas.Option.{slice_get-get_or, slice_get_within, slice_get_read, get_or_from_slice_get, slice_get-map}
use Rattle.cov_types.specs.declared.coord.Coord.{Coord}
use Rattle.cov_types.specs.declared.seg.Seg.{Seg}
use Rattle.plane.specs.declared.contact.Contact.TheVariants.{Bad}
use Rattle.plane.specs.declared.contact.Badness.TheVariants.{Cross}
use Rattle.plane.specs.Point.{Point}
use Rattle.plane.specs.Contact.{IsContact}
use Rattle.plane.specs.Snapping.{IsInPixel}
use Rattle.grid_pred.specs.Crossing.{IsCrossing}
use Rattle.box_tree.specs.Rect.{is_touching, box_of_segment}
use Rattle.box_tree.specs.declared.rect.Rect.{Rect}
use Rattle.box_tree.proofs.CommonPoint.{touch-common_of_segments}
use Rattle.rounding_laws.proofs.Near.{pixel_same}
use Rattle.hot_pixel.specs.Centres.{Gains, CrossIn, CrossAt, HasCrossing}
use Rattle.hot_pixel.specs.Near.{AreNear}
use Rattle.hot_pixel.proofs.Gains.{gains_then, gains_nothing, gains_alike}

-- ---- the pixel in which two segments cross

pub no_crossing_in : (s t : Seg) (o : Option Coord) → o ≡ None → (IsTrue false ↔ IsContact s t (Bad Cross)) → (r : Coord) → (o ≡ Some r) ↔ CrossIn s t r
no_crossing_in s t o none never r = (
  λ some. absurd (false≢true (ap is_some (sym none ∙ some))),
  λ cross. absurd (false≢true (never.1 (cross.0, (cross.1.0.only, cross.1.0.inside, cross.1.0.inside_other)))),
)

-- p is the crossing, in the pixel of q alone
pub crossing_in_pixel : (s t : Seg) (p : Point) (q : Coord) → IsCrossing s t p → ((r : Coord) → IsInPixel p r ↔ (r ≡ q)) → (r : Coord) → (Some q ≡ Some r) ↔ CrossIn s t r
crossing_in_pixel s t p q cross alone r = (there, back)
  where
    there : Some q ≡ Some r → CrossIn s t r
    there same = (p, (cross, (alone r).1 (sym (ap (λ (o : Option Coord). unwrap_or o q) same))))

    back : CrossIn s t r → Some q ≡ Some r
    back (o, (other, inside)) = ap Some (sym ((alone r).0 (pixel_same o p r (cross.only.only o other.only.common) inside)))

-- segments that cross have boxes that touch
pub crossing_touch : (s t : Seg) (r : Coord) → CrossIn s t r → is_touching (box_of_segment s) (box_of_segment t) ≡ true
crossing_touch s t r (p, (cross, inside)) = touch-common_of_segments s t p cross.only.common.0 cross.only.common.1

-- the box of the segment at a place
pub box_at : (segs : List Seg) (boxes : List Rect) (j : ℕ) (s : Seg) → boxes ≡ map box_of_segment segs → slice_get segs j ≡ Some s → slice_get boxes j ≡ Some (box_of_segment s)
box_at segs boxes j s are at = ap (λ (bs : List Rect). slice_get bs j) are ∙ slice_get-map box_of_segment segs j ∙ ap (option_map box_of_segment) at

-- ---- the segments at two places

-- s is at i and t at k, which is before i
module _ (segs : List Seg) (i k : ℕ) (s t : Seg) (earlier : k < i) (within : i < length segs) (is_s : s ≡ get_or segs i s) (is_t : t ≡ get_or segs k t) where
  cross_at : (r : Coord) → CrossIn s t r ↔ CrossAt segs i k r
  cross_at r = (there, back)
    where
      there : CrossIn s t r → CrossAt segs i k r
      there cross = record { earlier = earlier; s = s; t = t; at_s = slice_get_read segs (length segs) i s refl within is_s; at_t = slice_get_read segs (length segs) k t refl (omega arith) is_t; cross = cross }

      back : CrossAt segs i k r → CrossIn s t r
      back h =
          subst (λ (u : Seg). CrossIn u t r) (sym (is_s ∙ get_or_from_slice_get segs i h.s s h.at_s))
          (subst (λ (u : Seg). CrossIn h.s u r) (sym (is_t ∙ get_or_from_slice_get segs k h.t t h.at_t)) h.cross)

  pub found_at : (o : Option Coord) → ((r : Coord) → (o ≡ Some r) ↔ CrossIn s t r) → (r : Coord) → (o ≡ Some r) ↔ CrossAt segs i k r
  found_at o found r = (λ h. (cross_at r).0 ((found r).0 h), λ h. (found r).1 ((cross_at r).1 h))

nothing_found : {X : Type 0} (P : Type 0) (x : X) → ¬ P → (None ≡ Some x) ↔ P
nothing_found P x never = (λ h. absurd (false≢true (ap is_some h)), λ p. absurd (never p))

-- no crossing where the boxes do not touch
pub none_apart : (segs : List Seg) (boxes : List Rect) (i k : ℕ) (a b : Rect) (touch : Bool) → boxes ≡ map box_of_segment segs → a ≡ get_or boxes i a → b ≡ get_or boxes k b → touch ≡ is_touching a b → touch ≡ false
    → (r : Coord) → (None ≡ Some r) ↔ CrossAt segs i k r
none_apart segs boxes i k a b touch are is_a is_b told apart r = nothing_found (CrossAt segs i k r) r never
  where
    read_at : (j : ℕ) (c : Rect) (s : Seg) → c ≡ get_or boxes j c → slice_get segs j ≡ Some s → c ≡ box_of_segment s
    read_at j c s is at = is ∙ get_or_from_slice_get boxes j (box_of_segment s) c (box_at segs boxes j s are at)

    never : ¬ CrossAt segs i k r
    never h = false≢true (sym apart ∙ told ∙ (λ j. is_touching (read_at i a h.s is_a h.at_s j) (read_at k b h.t is_b h.at_t j)) ∙ crossing_touch h.s h.t r h.cross)

-- and none with one that does not stand before
pub none_before : (segs : List Seg) (i k : ℕ) → i ≤ k → (r : Coord) → (None ≡ Some r) ↔ CrossAt segs i k r
none_before segs i k late r = nothing_found (CrossAt segs i k r) r (λ h. absurd (omega (arith, h.earlier)))

-- ---- the crossings of one segment, among those near

pub crossed_near : (segs : List Seg) (boxes : List Rect) (i : ℕ) (near : List ℕ) (start end : List Coord) → boxes ≡ map box_of_segment segs → AreNear boxes i (i + 1) near
    → Gains start end (λ r. Any (λ k. CrossAt segs i k r) near) → Gains start end (HasCrossing segs i (i + 1))
crossed_near segs boxes i near start end are all = gains_alike (λ r. Any (λ k. CrossAt segs i k r) near) (HasCrossing segs i (i + 1)) start end (λ r. (there r, back r))
  where
    there : (r : Coord) → Any (λ k. CrossAt segs i k r) near → HasCrossing segs i (i + 1) r
    there r (j, k, within, is, cross) = record { i = i; k = k; from = omega arith; to = omega arith; cross = cross }

    back : (r : Coord) → HasCrossing segs i (i + 1) r → Any (λ k. CrossAt segs i k r) near
    back r h =
        let place : h.i ≡ i = omega (arith, h.from, h.to) in
        let cross : CrossAt segs i h.k r = subst (λ n. CrossAt segs n h.k r) place h.cross in
        let has = all.has i h.k (box_of_segment cross.s) (box_of_segment cross.t) (omega arith) (omega arith) (box_at segs boxes i cross.s are cross.at_s) (box_at segs boxes h.k cross.t are cross.at_t) (crossing_touch cross.s cross.t r cross.cross) in
        (has.0, h.k, has.1, has.2, cross)

-- ---- one range of segments after another

pub crossed_none : (segs : List Seg) (i : ℕ) (xs : List Coord) → Gains xs xs (HasCrossing segs i i)
crossed_none segs i xs = gains_nothing (HasCrossing segs i i) xs (λ r h. absurd (omega (arith, h.from, h.to)))

pub crossed_then : (segs : List Seg) (a b c : ℕ) (start middle end : List Coord) → a ≤ b → b ≤ c → Gains start middle (HasCrossing segs a b) → Gains middle end (HasCrossing segs b c) → Gains start end (HasCrossing segs a c)
crossed_then segs a b c start middle end first second one two = gains_then (HasCrossing segs a b) (HasCrossing segs b c) (HasCrossing segs a c) start middle end one two (λ r. (there r, back r))
  where
    there : (r : Coord) → HasCrossing segs a c r → HasCrossing segs a b r ⊎ HasCrossing segs b c r
    there r h =
        elim (cases_lt h.i b) [
          | inl earlier ↦ inl (record { i = h.i; k = h.k; from = h.from; to = earlier; cross = h.cross })
          | inr later ↦ inr (record { i = h.i; k = h.k; from = later; to = h.to; cross = h.cross })
        ]

    back : (r : Coord) → HasCrossing segs a b r ⊎ HasCrossing segs b c r → HasCrossing segs a c r
    back r (inl h) = record { i = h.i; k = h.k; from = h.from; to = omega (arith, h.to); cross = h.cross }
    back r (inr h) = record { i = h.i; k = h.k; from = omega (arith, h.from); to = h.to; cross = h.cross }

-- up to one place or another that is the same
pub crossed_past : (segs : List Seg) (first n m : ℕ) (start end : List Coord) → n ≡ m → Gains start end (HasCrossing segs first n) → Gains start end (HasCrossing segs first m)
crossed_past segs first n m start end same h = subst (λ k. Gains start end (HasCrossing segs first k)) same h

-- ---- blocks of eight

-- the next block ends where the next one begins, or at the end of the list
next_block : (n block past : ℕ) → past ≡ min n (block * 8 + 8) → past ≡ min n ((block + 1) * 8)
next_block n block past e = omega arith

module _ (segs : List Seg) (block past : ℕ) (start middle end : List Coord) (ends : past ≡ min (length segs) (block * 8 + 8)) (inside : block * 8 < length segs) where
  pub block_more : Gains start middle (HasCrossing segs 0 (min (length segs) (block * 8))) → Gains middle end (HasCrossing segs (block * 8) past) → Gains start end (HasCrossing segs 0 (min (length segs) ((block + 1) * 8)))
  block_more before now =
      crossed_past segs 0 past (min (length segs) ((block + 1) * 8)) start end (next_block (length segs) block past ends)
      (crossed_then segs 0 (block * 8) past start middle end (omega arith) (omega arith) (crossed_past segs 0 (min (length segs) (block * 8)) (block * 8) start middle (omega arith) before) now)

-- all blocks are the list
pub blocks_all : (segs : List Seg) (blocks done : ℕ) (start end : List Coord) → blocks ≡ length segs / 8 + min 1 (length segs % 8) → blocks ≤ done → Gains start end (HasCrossing segs 0 (min (length segs) (done * 8))) → Gains start end (HasCrossing segs 0 (length segs))
blocks_all segs blocks done start end many past h = crossed_past segs 0 (min (length segs) (done * 8)) (length segs) start end (omega (arith, div_ceil_times (length segs) 8 (omega arith))) h

-- and each block has a segment
pub block_inside : (n blocks block : ℕ) → blocks ≡ n / 8 + min 1 (n % 8) → block < blocks → block * 8 < n
block_inside n blocks block many less = omega (arith, div_ceil_times n 8 (omega arith))
