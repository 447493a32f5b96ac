-- The places of boxes among those of boxes that pass a wider test.
use Rattle.std.proofs.Common.{◌≡◌, ℕ, zero, suc, ◌+◌, ◌<◌, ◌≤◌, Bool, true, false, cond, List, [], ◌∷◌, ◌++◌, length, take, drop, get_or, refl, ap, ◌∙◌, sym, subst, true≢false, append-nil, arith}
use Rattle.std.specs.Prelude.{All, filter}
use Rattle.std.proofs.lemmas.List.{take_all}
use Rattle.std.proofs.lemmas.List.Elements.{filter_more}
use Rattle.box_tree.proofs.Places.{keep, places_below}
use Rattle.box_tree.specs.Places.{places}
use Rattle.box_tree.specs.declared.rect.Rect.{Rect}

-- the box with this number passes the test
abbrev pub passes_at : (Rect → Bool) → List Rect → ℕ → Bool
passes_at test [] k = false
passes_at test (b ∷ boxes) zero = test b
passes_at test (b ∷ boxes) (suc k) = passes_at test boxes k

pub passes_at-get_or : (test : Rect → Bool) (boxes : List Rect) (k : ℕ) (d : Rect) → k < length boxes → passes_at test boxes k ≡ test (get_or boxes k d)
passes_at-get_or test [] k d h = absurd (omega arith)
passes_at-get_or test (b ∷ boxes) zero d h = refl
passes_at-get_or test (b ∷ boxes) (suc k) d h = passes_at-get_or test boxes k d (omega arith)

-- the first box of what is left
passes_first : (test : Rect → Bool) (all : List Rect) (n : ℕ) (b : Rect) (boxes : List Rect) → drop n all ≡ b ∷ boxes → passes_at test all n ≡ test b
passes_first test [] zero b boxes e = cc
passes_first test [] (suc n) b boxes e = cc
passes_first test (x ∷ all) zero b boxes e = let same : x ≡ b = cc in ap test same
passes_first test (x ∷ all) (suc n) b boxes e = passes_first test all n b boxes e

drop_next : (all : List Rect) (n : ℕ) (b : Rect) (boxes : List Rect) → drop n all ≡ b ∷ boxes → drop (suc n) all ≡ boxes
drop_next [] zero b boxes e = cc
drop_next [] (suc n) b boxes e = cc
drop_next (x ∷ all) zero b boxes e = cc
drop_next (x ∷ all) (suc n) b boxes e = drop_next all n b boxes e

-- a box that passes the own test passes the wide one, so it is found
kept : (P : ℕ → Bool) (own wide : Bool) (n : ℕ) (ns : List ℕ) → (own ≡ true → wide ≡ true) → P n ≡ own → filter P (keep wide n ns) ≡ keep own n (filter P ns)
kept P own true n ns sub e = ap (λ b. keep b n (filter P ns)) e
kept P true false n ns sub e = absurd (true≢false (sym (sub refl)))
kept P false false n ns sub e = refl

-- of the places that pass a wide test, those that pass an own one are its places
pub narrowed : (own wide : Rect → Bool) (boxes all : List Rect) (n : ℕ) → ((b : Rect) → own b ≡ true → wide b ≡ true) → drop n all ≡ boxes
    → filter (passes_at own all) (places wide n boxes) ≡ places own n boxes
narrowed own wide [] all n sub e = refl
narrowed own wide (b ∷ boxes) all n sub e =
    let next : n + 1 ≡ suc n = omega arith in
    let beyond : drop (n + 1) all ≡ boxes = ap (λ m. drop m all) next ∙ drop_next all n b boxes e in
    kept (passes_at own all) (own b) (wide b) n (places wide (n + 1) boxes) (sub b) (passes_first own all n b boxes e)
    ∙ ap (keep (own b) n) (narrowed own wide boxes all (n + 1) sub beyond)

-- a step of the loop over the wide places: one whose box passes is kept, another is not
kept_or_not : (test : Rect → Bool) (boxes : List Rect) (wide : List ℕ) (i : ℕ) (b : Rect) → i < length wide → get_or wide i 0 < length boxes → b ≡ get_or boxes (get_or wide i 0) b
    → filter (passes_at test boxes) (take (i + 1) wide) ≡ filter (passes_at test boxes) (take i wide) ++ cond (test b) (get_or wide i 0 ∷ []) []
kept_or_not test boxes wide i b lt below read =
    let k = get_or wide i 0 in
    let here : passes_at test boxes k ≡ test b = passes_at-get_or test boxes k b below ∙ ap test (sym read) in
    filter_more (passes_at test boxes) wide i 0 lt ∙ ap (λ t. filter (passes_at test boxes) (take i wide) ++ cond t (k ∷ []) []) here

pub narrow_kept : (test : Rect → Bool) (boxes : List Rect) (wide : List ℕ) (i : ℕ) (b : Rect) (found later : List ℕ)
    → i < length wide → get_or wide i 0 < length boxes → b ≡ get_or boxes (get_or wide i 0) b → test b ≡ true
    → found ≡ filter (passes_at test boxes) (take i wide) → later ≡ found ++ get_or wide i 0 ∷ [] → later ≡ filter (passes_at test boxes) (take (i + 1) wide)
narrow_kept test boxes wide i b found later lt below read passes so_far e =
    e ∙ ap (λ ns. ns ++ get_or wide i 0 ∷ []) so_far
    ∙ sym (kept_or_not test boxes wide i b lt below read ∙ ap (λ t. filter (passes_at test boxes) (take i wide) ++ cond t (get_or wide i 0 ∷ []) []) passes)

pub narrow_passed : (test : Rect → Bool) (boxes : List Rect) (wide : List ℕ) (i : ℕ) (b : Rect) (found : List ℕ)
    → i < length wide → get_or wide i 0 < length boxes → b ≡ get_or boxes (get_or wide i 0) b → test b ≡ false
    → found ≡ filter (passes_at test boxes) (take i wide) → found ≡ filter (passes_at test boxes) (take (i + 1) wide)
narrow_passed test boxes wide i b found lt below read fails so_far =
    so_far
    ∙ sym (kept_or_not test boxes wide i b lt below read ∙ ap (λ t. filter (passes_at test boxes) (take i wide) ++ cond t (get_or wide i 0 ∷ []) []) fails
    ∙ append-nil (filter (passes_at test boxes) (take i wide)))

-- a wide place is the number of a box
pub wide_below : (wide : Rect → Bool) (boxes : List Rect) (ns : List ℕ) (i : ℕ) → ns ≡ places wide 0 boxes → i < length ns → get_or ns i 0 < length boxes
wide_below wide boxes ns i e lt =
    let all : All (λ k. k < 0 + length boxes) ns = subst (λ (ks : List ℕ). All (λ k. k < 0 + length boxes) ks) (sym e) (places_below wide 0 boxes) in
    let below : get_or ns i 0 < 0 + length boxes = all i 0 lt in
    omega arith

-- what is found of all wide places
pub narrow_all : (own wide : Rect → Bool) (boxes : List Rect) (ns found : List ℕ) (i : ℕ) → ((b : Rect) → own b ≡ true → wide b ≡ true) → ns ≡ places wide 0 boxes → length ns ≤ i
    → found ≡ filter (passes_at own boxes) (take i ns) → found ≡ places own 0 boxes
narrow_all own wide boxes ns found i sub e le so_far =
    so_far ∙ ap (filter (passes_at own boxes)) (take_all i ns le ∙ e) ∙ narrowed own wide boxes boxes 0 sub refl
