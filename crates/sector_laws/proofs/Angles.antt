-- The order of half-edges by angle, and what is in a sector, in cases.
use Rattle.std.proofs.Common.{◌≡◌, refl, sym, ◌∙◌, Bool, true, false, not, cond, ◌&&◌, ◌||◌, true≢false, inl, inr, ◌⊎◌}
use Rattle.sector_laws.specs.Sector.{HalfEdge, is_left_of, is_before_by_angle, is_in_sector}

-- ---- the order by angle

by_turn : (b l : Bool) → cond b (not b || l) (not b && l) ≡ l
by_turn true l = refl
by_turn false l = refl

-- in one half it is the turn
pub before_in_half : (b : Bool) (h g : HalfEdge) → h.forwards ≡ b → g.forwards ≡ b → is_before_by_angle h g ≡ is_left_of g h
before_in_half b h g same_h same_g = (λ i. cond (same_h i) (not (same_g i) || is_left_of g h) (not (same_g i) && is_left_of g h)) ∙ by_turn b (is_left_of g h)

-- and those that lead forwards come first
pub before_back : (h g : HalfEdge) → h.forwards ≡ true → g.forwards ≡ false → is_before_by_angle h g ≡ true
before_back h g forwards back = λ i. cond (forwards i) (not (back i) || is_left_of g h) (not (back i) && is_left_of g h)

pub not_before_forwards : (h g : HalfEdge) → h.forwards ≡ false → g.forwards ≡ true → is_before_by_angle h g ≡ false
not_before_forwards h g back forwards = λ i. cond (back i) (not (forwards i) || is_left_of g h) (not (forwards i) && is_left_of g h)

-- ---- sectors, of less than a full turn in the order or of the rest of it

outside_less : (y z : Bool) → (y && z) ≡ false → (y ≡ false) ⊎ (z ≡ false)
outside_less true z h = inr h
outside_less false z h = inl refl

outside_rest : (y z : Bool) → (y || z) ≡ false → (y ≡ false) × (z ≡ false)
outside_rest true z h = absurd (true≢false h)
outside_rest false z h = (refl, h)

pub not_in_less : (g a k : HalfEdge) → is_before_by_angle g a ≡ true → is_in_sector g a k ≡ false → (is_before_by_angle g k ≡ false) ⊎ (is_before_by_angle k a ≡ false)
not_in_less g a k before none =
    outside_less (is_before_by_angle g k) (is_before_by_angle k a)
    (sym (λ i. cond (before i) (is_before_by_angle g k && is_before_by_angle k a) (is_before_by_angle g k || is_before_by_angle k a)) ∙ none)

pub not_in_rest : (g a k : HalfEdge) → is_before_by_angle g a ≡ false → is_in_sector g a k ≡ false → (is_before_by_angle g k ≡ false) × (is_before_by_angle k a ≡ false)
not_in_rest g a k not_before none =
    outside_rest (is_before_by_angle g k) (is_before_by_angle k a)
    (sym (λ i. cond (not_before i) (is_before_by_angle g k && is_before_by_angle k a) (is_before_by_angle g k || is_before_by_angle k a)) ∙ none)

-- a test is true or false
pub true_or_false : (b : Bool) → (b ≡ true) ⊎ (b ≡ false)
true_or_false true = inl refl
true_or_false false = inr refl

pub not_both : {b : Bool} → b ≡ true → b ≡ false → ⊥
not_both h k = true≢false (sym h ∙ k)
