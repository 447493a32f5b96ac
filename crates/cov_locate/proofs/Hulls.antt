-- Hulls of so many boxes at a time.
use Rattle.std.proofs.Common.{◌≡◌, ◌==◌, true, refl, sym, ◌∙◌, ap, subst, ℕ, zero, suc, ◌+◌, ◌-◌, ◌*◌, ◌/◌, ◌<◌, ◌≤◌, List, [], ◌∷◌, ◌++◌, length, get_or, take, drop, arith, append_assoc, length-take, length-drop, append-nil}
use Rattle.std.proofs.Math.Nat.{suc-mul, zero-mul, div-mul-le_self}
use Rattle.std.proofs.lemmas.Bool.{eqb-true}
use Rattle.std.proofs.lemmas.List.{get_or-take, get_or-drop}
use Rattle.box_tree.specs.Rect.{IsInside}
use Rattle.box_tree.specs.declared.rect.Rect.{Rect}
use Rattle.cov_locate.specs.Levels.{IsHull, AreHullsBy, IsLevel}
use Rattle.cov_locate.specs.declared.level.Level.{Level}

-- what is still needed is over the rest of the boxes
pub hulls_more : (width : ℕ) (hulls more : List Rect) (b : Rect) (boxes rest : List Rect) → 0 < length rest → IsHull b (take width rest) → more ≡ hulls ++ b ∷ []
    → ((later : List Rect) → AreHullsBy width later rest → AreHullsBy width (hulls ++ later) boxes) → (later : List Rect) → AreHullsBy width later (drop width rest) → AreHullsBy width (more ++ later) boxes
hulls_more width hulls more b boxes rest some about pushed so_far later h =
    subst (λ l. AreHullsBy width l boxes) (sym (append_assoc hulls (b ∷ []) later) ∙ ap (λ l. l ++ later) (sym pushed)) (so_far (b ∷ later) (some, about, h))

-- no box is left
pub all_hulls : (width : ℕ) (hulls : List Rect) (boxes rest : List Rect) → true ≡ (length rest == 0) → ((later : List Rect) → AreHullsBy width later rest → AreHullsBy width (hulls ++ later) boxes) → AreHullsBy width hulls boxes
all_hulls width hulls boxes [] none so_far = subst (λ l. AreHullsBy width l boxes) (append-nil hulls) (so_far [] refl)
all_hulls width hulls boxes (b ∷ rest) none so_far = absurd (omega (arith, eqb-true (length (b ∷ rest)) 0 (sym none)))

-- a place in the block with this number
in_block : (width : ℕ) (hulls : List Rect) (boxes : List Rect) (j k : ℕ) (d e : Rect) → AreHullsBy width hulls boxes → j < length hulls → j * width ≤ k → k < j * width + width → k < length boxes
    → IsInside (get_or boxes k e) (get_or hulls j d)
in_block width [] boxes j k d e about within low high inside = absurd (omega (arith, within))
in_block width (b ∷ hulls) boxes zero k d e about within low high inside =
    let short : k < width = omega (arith, high, zero-mul width) in
    subst (λ (v : Rect). IsInside v b) (get_or-take width boxes k e short)
    (about.1 k e (omega (arith, short, inside, length-take width boxes)))
in_block width (b ∷ hulls) boxes (suc j) k d e about within low high inside =
    let product = suc-mul j width in
    let m = k - width in
    let back : width + m ≡ k = omega (arith, low, product) in
    let rest = in_block width hulls (drop width boxes) j m d e about.2 (omega (arith, within)) (omega (arith, low, product)) (omega (arith, high, product, back)) (omega (arith, inside, back, length-drop width boxes)) in
    subst (λ (v : Rect). IsInside v (get_or hulls j d)) (get_or-drop width boxes m e ∙ ap (λ n. get_or boxes n e) back) rest

-- a place before the end of the boxes is in a block
block_of : (width : ℕ) (hulls : List Rect) (boxes : List Rect) (j : ℕ) → AreHullsBy width hulls boxes → j * width < length boxes → j < length hulls
block_of width [] boxes j about within = absurd (omega (arith, within, ap length about))
block_of width (b ∷ hulls) boxes zero about within = omega arith
block_of width (b ∷ hulls) boxes (suc j) about within =
    let rest = block_of width hulls (drop width boxes) j about.2 (omega (arith, within, suc-mul j width, length-drop width boxes)) in
    omega (arith, rest)

-- ---- of a level

pub hull_within : (boxes : List Rect) (level : Level) (k : ℕ) → IsLevel boxes level → k < length boxes → k / level.width < length level.hulls.items
hull_within boxes level k is within =
    let floor = div-mul-le_self k level.width in
    block_of level.width level.hulls.items boxes (k / level.width) is.hulls (omega (arith, floor, within))

-- the boxes from a place to the end of its block at most are within its hull
pub in_level : (boxes : List Rect) (level : Level) (from to k : ℕ) (d e : Rect) → IsLevel boxes level → to ≤ (from / level.width) * level.width + level.width → to ≤ length boxes → from ≤ k → k < to
    → IsInside (get_or boxes k e) (get_or level.hulls.items (from / level.width) d)
in_level boxes level from to k d e is block end low high =
    let floor = div-mul-le_self from level.width in
    in_block level.width level.hulls.items boxes (from / level.width) k d e is.hulls (hull_within boxes level from is (omega (arith, low, high, end))) (omega (arith, floor, low)) (omega (arith, high, block)) (omega (arith, high, end))
