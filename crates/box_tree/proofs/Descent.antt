-- The places in a list, found through its hulls.
use Rattle.std.proofs.Common.{◌≡◌, ℕ, zero, suc, ◌+◌, ◌*◌, ◌<◌, Bool, true, false, List, [], ◌∷◌, ◌++◌, length, take, drop, refl, ap, ◌∙◌, sym, subst, true≢false, arith}
use Rattle.std.specs.Prelude.{All, flat_map}
use Rattle.std.proofs.lemmas.List.{drop-drop, length-drop}
use Rattle.std.proofs.lemmas.List.Elements.{All-weaker}
use Rattle.box_tree.proofs.Places.{keep, places_split, places_none, places_below}
use Rattle.box_tree.specs.Hulls.{AreHulls}
use Rattle.box_tree.specs.Places.{places}
use Rattle.box_tree.specs.Rect.{IsInside}
use Rattle.box_tree.specs.declared.rect.Rect.{Rect}

-- a test that a box passes where a box inside it does
abbrev pub IsUpward : (Rect → Bool) → Type 0
IsUpward test = (a b : Rect) → IsInside a b → test a ≡ true → test b ≡ true

-- the places in the block of eight with this number
abbrev pub block_places : (Rect → Bool) → List Rect → ℕ → List ℕ
block_places test boxes j = places test (8 * j) (take 8 (drop (8 * j) boxes))

fails_inside : (test : Rect → Bool) (hull b : Rect) (t : Bool) → IsUpward test → test hull ≡ false → IsInside b hull → test b ≡ t → t ≡ false
fails_inside test hull b true up h inside e = absurd (true≢false (sym (up b hull inside e) ∙ h))
fails_inside test hull b false up h inside e = refl

-- under a hull that does not pass there is no place
none_under : (test : Rect → Bool) (hull : Rect) (n : ℕ) (xs : List Rect) → IsUpward test → test hull ≡ false → All (λ b. IsInside b hull) xs → places test n xs ≡ []
none_under test hull n xs up h all =
    places_none test n xs (All-weaker (λ b. IsInside b hull) (λ b. test b ≡ false) (λ b inside. fails_inside test hull b (test b) up h inside refl) xs all)

-- a block is kept where its hull passes, and else it has no places
kept : (F : ℕ → List ℕ) (t : Bool) (j : ℕ) (ns : List ℕ) → (t ≡ false → F j ≡ []) → flat_map F (keep t j ns) ≡ F j ++ flat_map F ns
kept F true j ns h = refl
kept F false j ns h = ap (λ ms. ms ++ flat_map F ns) (sym (h refl))

-- the places of the hulls that pass, each with its block, are the places of the boxes
pub descent : (test : Rect → Bool) (hulls boxes all : List Rect) (j : ℕ) → IsUpward test → AreHulls hulls boxes → boxes ≡ drop (8 * j) all
    → flat_map (block_places test all) (places test j hulls) ≡ places test (8 * j) boxes
descent test [] boxes all j up none e = ap (places test (8 * j)) (sym none)
descent test (hull ∷ hulls) boxes all j up h e =
    let next : 8 * (j + 1) ≡ 8 * j + 8 = omega arith in
    let beyond : drop 8 boxes ≡ drop (8 * (j + 1)) all = ap (drop 8) e ∙ drop-drop 8 (8 * j) all ∙ ap (λ m. drop m all) (sym next) in
    let others = descent test hulls (drop 8 boxes) all (j + 1) up h.2 beyond in
    let own : block_places test all j ≡ places test (8 * j) (take 8 boxes) = ap (λ bs. places test (8 * j) (take 8 bs)) (sym e) in
    let none = λ (fails : test hull ≡ false). own ∙ none_under test hull (8 * j) (take 8 boxes) up fails h.1 in
    kept (block_places test all) (test hull) j (places test (j + 1) hulls) none
    ∙ ap (λ ms. block_places test all j ++ ms) (others ∙ ap (λ m. places test m (drop 8 boxes)) next)
    ∙ ap (λ ms. ms ++ places test (8 * j + 8) (drop 8 boxes)) own
    ∙ sym (places_split test (8 * j) 8 boxes)

-- the first of each block is a box
pub block_begins : (hulls boxes : List Rect) (j : ℕ) → AreHulls hulls boxes → j < length hulls → 8 * j < length boxes
block_begins [] boxes j h below = absurd (omega arith)
block_begins (hull ∷ hulls) boxes zero h below = h.0
block_begins (hull ∷ hulls) boxes (suc j) h below =
    let others : 8 * j < length (drop 8 boxes) = block_begins hulls (drop 8 boxes) j h.2 (omega arith) in
    omega (arith, length-drop 8 boxes)

-- the places of hulls are blocks
pub blocks_begin : (test : Rect → Bool) (hulls boxes : List Rect) → AreHulls hulls boxes → All (λ j. 8 * j < length boxes) (places test 0 hulls)
blocks_begin test hulls boxes h =
    All-weaker (λ j. j < 0 + length hulls) (λ j. 8 * j < length boxes) (λ j below. block_begins hulls boxes j h (omega arith)) (places test 0 hulls) (places_below test 0 hulls)

-- there are fewer hulls than boxes
pub fewer_hulls : (hulls boxes : List Rect) → AreHulls hulls boxes → 8 < length boxes → length hulls < length boxes
fewer_hulls [] boxes h many = omega arith
fewer_hulls (hull ∷ hulls) boxes h many =
    let last : 8 * length hulls < length boxes = block_begins (hull ∷ hulls) boxes (length hulls) h (omega arith) in
    omega arith

-- a level as it is read, and the places of its hulls: each begins a block
pub blocks_read : (test : Rect → Bool) (hulls boxes level : List Rect) (front : List ℕ) → AreHulls hulls boxes → level ≡ boxes → front ≡ places test 0 hulls
    → All (λ j. 8 * j < length level) front
blocks_read test hulls boxes level front h e f =
    subst (λ (bs : List Rect). All (λ j. 8 * j < length bs) front) (sym e)
    (subst (λ (ns : List ℕ). All (λ j. 8 * j < length boxes) ns) (sym f) (blocks_begin test hulls boxes h))

-- what is found in these blocks, from nothing on, are the places of the boxes
pub descend : (test : Rect → Bool) (hulls boxes level : List Rect) (front cleared found : List ℕ) → IsUpward test → AreHulls hulls boxes → level ≡ boxes
    → front ≡ places test 0 hulls → cleared ≡ [] → found ≡ cleared ++ flat_map (block_places test level) front → found ≡ places test 0 boxes
descend test hulls boxes level front cleared found up h e f none added =
    added ∙ ap (λ ns. ns ++ flat_map (block_places test level) front) none
    ∙ ap (λ bs. flat_map (block_places test bs) front) e ∙ ap (flat_map (block_places test boxes)) f ∙ descent test hulls boxes boxes 0 up h refl

-- what is found in a whole list, from nothing on
pub scanned : (test : Rect → Bool) (boxes level : List Rect) (cleared found : List ℕ) → level ≡ boxes → cleared ≡ [] → found ≡ cleared ++ places test 0 level → found ≡ places test 0 boxes
scanned test boxes level cleared found e none added = added ∙ ap (λ ns. ns ++ places test 0 level) none ∙ ap (places test 0) e
