-- Boxes about uses.
use Rattle.std.proofs.Common.{◌≡◌, ◌==◌, true, refl, sym, ◌∙◌, ap, subst, ℕ, zero, suc, ◌+◌, ◌-◌, ◌*◌, ◌<◌, ◌≤◌, List, [], ◌∷◌, ◌++◌, length, get_or, take, drop, arith, append_assoc, length-take, length-drop, append-nil}
use Rattle.std.proofs.lemmas.Bool.{eqb-true}
use Rattle.std.proofs.Math.Nat.{suc-mul, zero-mul}
use Rattle.std.proofs.lemmas.List.{get_or-take, get_or-drop, take_all}
use Rattle.std.proofs.lemmas.List.Elements.{All-more, All-weaker}
use Rattle.box_tree.specs.Rect.{IsInside, box_of_segment}
use Rattle.box_tree.specs.declared.rect.Rect.{Rect}
use Rattle.box_tree.proofs.Within.{inside_trans}
use Rattle.cov_types.specs.declared.edge_use.EdgeUse.{EdgeUse}
use Rattle.cov_valid.specs.Levels.{IsAbout, AreAbout}

-- one use more in a box about the uses so far
pub about_more : (uses : List EdgeUse) (i : ℕ) (u : EdgeUse) (old new : Rect) → i < length uses → u ≡ get_or uses i u → IsInside old new → IsInside (box_of_segment u.seg) new
    → IsAbout (take i uses) old → IsAbout (take (i + 1) uses) new
about_more uses i u old new within at wider inside about =
    All-more (λ (v : EdgeUse). IsInside (box_of_segment v.seg) new) uses i u within
    (All-weaker (λ (v : EdgeUse). IsInside (box_of_segment v.seg) old) (λ (v : EdgeUse). IsInside (box_of_segment v.seg) new) (λ v h. inside_trans h wider) (take i uses) about)
    (subst (λ (v : EdgeUse). IsInside (box_of_segment v.seg) new) at inside)

pub about_all : (uses : List EdgeUse) (i : ℕ) (b : Rect) → length uses ≤ i → IsAbout (take i uses) b → IsAbout uses b
about_all uses i b past about = subst (λ us. IsAbout us b) (take_all i uses past) about

-- ---- so many at a time

-- what is still needed is about the rest of the uses
pub blocks_more : (width : ℕ) (boxes more : List Rect) (b : Rect) (uses rest : List EdgeUse) → 0 < length rest → IsAbout (take width rest) b → more ≡ boxes ++ b ∷ []
    → ((later : List Rect) → AreAbout width later rest → AreAbout width (boxes ++ later) uses) → (later : List Rect) → AreAbout width later (drop width rest) → AreAbout width (more ++ later) uses
blocks_more width boxes more b uses rest some about pushed so_far later h =
    subst (λ l. AreAbout width l uses) (sym (append_assoc boxes (b ∷ []) later) ∙ ap (λ l. l ++ later) (sym pushed)) (so_far (b ∷ later) (some, about, h))

-- no use is left
pub all_blocks : (width : ℕ) (boxes : List Rect) (uses rest : List EdgeUse) → true ≡ (length rest == 0) → ((later : List Rect) → AreAbout width later rest → AreAbout width (boxes ++ later) uses) → AreAbout width boxes uses
all_blocks width boxes uses [] none so_far = subst (λ l. AreAbout width l uses) (append-nil boxes) (so_far [] refl)
all_blocks width boxes uses (u ∷ rest) none so_far = absurd (omega (arith, eqb-true (length (u ∷ rest)) 0 (sym none)))

-- a place in the block with this number
pub in_block : (width : ℕ) (boxes : List Rect) (uses : List EdgeUse) (j k : ℕ) (d : Rect) (u : EdgeUse) → AreAbout width boxes uses → j < length boxes → j * width ≤ k → k < j * width + width → k < length uses
    → IsInside (box_of_segment (get_or uses k u).seg) (get_or boxes j d)
in_block width [] uses j k d u about within low high inside = absurd (omega (arith, within))
in_block width (b ∷ boxes) uses zero k d u about within low high inside =
    let short : k < width = omega (arith, high, zero-mul width) in
    subst (λ (v : EdgeUse). IsInside (box_of_segment v.seg) b) (get_or-take width uses k u short)
    (about.1 k u (omega (arith, short, inside, length-take width uses)))
in_block width (b ∷ boxes) uses (suc j) k d u about within low high inside =
    let product = suc-mul j width in
    let m = k - width in
    let back : width + m ≡ k = omega (arith, low, product) in
    let rest = in_block width boxes (drop width uses) j m d u about.2 (omega (arith, within)) (omega (arith, low, product)) (omega (arith, high, product, back)) (omega (arith, inside, back, length-drop width uses)) in
    subst (λ (v : EdgeUse). IsInside (box_of_segment v.seg) (get_or boxes j d)) (get_or-drop width uses m u ∙ ap (λ n. get_or uses n u) back) rest

-- a place before the end of the uses is in a block
pub block_of : (width : ℕ) (boxes : List Rect) (uses : List EdgeUse) (j : ℕ) → AreAbout width boxes uses → j * width < length uses → j < length boxes
block_of width [] uses j about within = absurd (omega (arith, within, ap length about))
block_of width (b ∷ boxes) uses zero about within = omega arith
block_of width (b ∷ boxes) uses (suc j) about within =
    let rest = block_of width boxes (drop width uses) j about.2 (omega (arith, within, suc-mul j width, length-drop width uses)) in
    omega (arith, rest)
