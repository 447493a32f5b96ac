-- The places in a list of boxes: one box more, two parts of a list, and which numbers are places.
use Rattle.std.proofs.Common.{◌≡◌, ℕ, zero, suc, ◌+◌, ◌<◌, ◌≤◌, Bool, true, false, cond, List, [], ◌∷◌, ◌++◌, length, take, drop, get_or, refl, ap, ◌∙◌, sym, append_assoc, append-nil, arith}
use Rattle.std.specs.Prelude.{All}
use Rattle.std.proofs.lemmas.List.{take_more, length-take-le}
use Rattle.std.proofs.lemmas.List.Elements.{All-cons, All-nil, All-weaker}
use Rattle.box_tree.specs.Places.{places}
use Rattle.box_tree.specs.declared.rect.Rect.{Rect}

-- a number before a list, where the test passes
abbrev pub keep : Bool → ℕ → List ℕ → List ℕ
keep b n ns = cond b (n ∷ ns) ns

pub keep-append : (b : Bool) (n : ℕ) (ns ms : List ℕ) → keep b n ns ++ ms ≡ keep b n (ns ++ ms)
keep-append true n ns ms = refl
keep-append false n ns ms = refl

-- the places in a list of two parts
pub places-append : (test : Rect → Bool) (n : ℕ) (xs ys : List Rect) → places test n (xs ++ ys) ≡ places test n xs ++ places test (n + length xs) ys
places-append test n [] ys = let e : n ≡ n + 0 = omega arith in ap (λ m. places test m ys) e
places-append test n (x ∷ xs) ys =
    let e : (n + 1) + length xs ≡ n + suc (length xs) = omega arith in
    ap (keep (test x) n) (places-append test (n + 1) xs ys ∙ ap (λ m. places test (n + 1) xs ++ places test m ys) e)
    ∙ sym (keep-append (test x) n (places test (n + 1) xs) (places test (n + suc (length xs)) ys))

-- the places among the first k and among the others
pub places_split : (test : Rect → Bool) (n k : ℕ) (xs : List Rect) → places test n xs ≡ places test n (take k xs) ++ places test (n + k) (drop k xs)
places_split test n zero xs = let e : n ≡ n + 0 = omega arith in ap (λ m. places test m xs) e
places_split test n (suc k) [] = refl
places_split test n (suc k) (x ∷ xs) =
    let e : (n + 1) + k ≡ n + suc k = omega arith in
    ap (keep (test x) n) (places_split test (n + 1) k xs ∙ ap (λ m. places test (n + 1) (take k xs) ++ places test m (drop k xs)) e)
    ∙ sym (keep-append (test x) n (places test (n + 1) (take k xs)) (places test (n + suc k) (drop k xs)))

-- one box more
pub places_more : (test : Rect → Bool) (n : ℕ) (xs : List Rect) (i : ℕ) (d : Rect) → i < length xs
    → places test n (take (i + 1) xs) ≡ places test n (take i xs) ++ cond (test (get_or xs i d)) ((n + i) ∷ []) []
places_more test n xs i d h =
    let front : i ≤ length xs = omega arith in
    ap (places test n) (take_more xs i d h) ∙ places-append test n (take i xs) (get_or xs i d ∷ [])
    ∙ ap (λ m. places test n (take i xs) ++ cond (test (get_or xs i d)) ((n + m) ∷ []) []) (length-take-le i xs front)

-- where no box passes there is no place
pub places_none : (test : Rect → Bool) (n : ℕ) (xs : List Rect) → All (λ b. test b ≡ false) xs → places test n xs ≡ []
places_none test n [] all = refl
places_none test n (x ∷ xs) all =
    let first : test x ≡ false = all 0 x (omega arith) in
    let others : All (λ b. test b ≡ false) xs = λ k d h. all (suc k) d (omega arith) in
    ap (λ b. keep b n (places test (n + 1) xs)) first ∙ places_none test (n + 1) xs others

All-keep : (P : ℕ → Type 0) (b : Bool) (n : ℕ) (ns : List ℕ) → P n → All P ns → All P (keep b n ns)
All-keep P true n ns h all = All-cons P n ns h all
All-keep P false n ns h all = all

-- each place is the number of a box
pub places_below : (test : Rect → Bool) (n : ℕ) (xs : List Rect) → All (λ k. k < n + length xs) (places test n xs)
places_below test n [] = All-nil (λ k. k < n + 0)
places_below test n (x ∷ xs) =
    All-keep (λ k. k < n + suc (length xs)) (test x) n _ (omega arith)
    (All-weaker (λ k. k < (n + 1) + length xs) (λ k. k < n + suc (length xs)) (λ k h. omega arith) (places test (n + 1) xs) (places_below test (n + 1) xs))

-- a step of the loop over the boxes: one that passes is added, another is not
pub places_kept : (test : Rect → Bool) (n : ℕ) (xs : List Rect) (i : ℕ) (b : Rect) (front found later : List ℕ) → i < length xs → b ≡ get_or xs i b → test b ≡ true
    → found ≡ front ++ places test n (take i xs) → later ≡ found ++ (n + i) ∷ [] → later ≡ front ++ places test n (take (i + 1) xs)
places_kept test n xs i b front found later lt read passes so_far e =
    let here : test (get_or xs i b) ≡ true = ap test (sym read) ∙ passes in
    e ∙ ap (λ ns. ns ++ (n + i) ∷ []) so_far ∙ append_assoc front (places test n (take i xs)) ((n + i) ∷ [])
    ∙ ap (λ ns. front ++ ns) (sym (places_more test n xs i b lt ∙ ap (λ t. places test n (take i xs) ++ cond t ((n + i) ∷ []) []) here))

pub places_passed : (test : Rect → Bool) (n : ℕ) (xs : List Rect) (i : ℕ) (b : Rect) (front found : List ℕ) → i < length xs → b ≡ get_or xs i b → test b ≡ false
    → found ≡ front ++ places test n (take i xs) → found ≡ front ++ places test n (take (i + 1) xs)
places_passed test n xs i b front found lt read fails so_far =
    let here : test (get_or xs i b) ≡ false = ap test (sym read) ∙ fails in
    so_far ∙ ap (λ ns. front ++ ns)
    (sym (places_more test n xs i b lt ∙ ap (λ t. places test n (take i xs) ++ cond t ((n + i) ∷ []) []) here ∙ append-nil (places test n (take i xs))))
