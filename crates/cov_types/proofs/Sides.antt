-- The sides of a ring by place, and lists of uses that grow by one piece.
use Rattle.std.proofs.Common.{◌≡◌, ℕ, ◌+◌, ◌<◌, ◌≤◌, List, ◌++◌, [], ◌∷◌, length, get_or, take, drop, flat_map, ap, ap₂, sym, ◌∙◌, subst, zero-add, arith, length-append, length-take, length-drop, append_assoc, append-nil}
use Rattle.std.proofs.lemmas.List.{take_more, take_all, get_or_default, places}
use Rattle.std.proofs.lemmas.List.Concat.{flat_map-append}
use Rattle.std.proofs.lemmas.List.FromFn.{get_or-enumerate_from, length-enumerate_from}
use Rattle.std.proofs.lemmas.Slice.Zip.{get_or-zip, length-zip}
use Rattle.std.specs.List.{enumerate_from}
use Rattle.cov_types.specs.Uses.{sides}
use Rattle.cov_types.specs.declared.coord.Coord.{Coord}

-- one more piece of a joined list
pub flat_map-take_more : {X A : Type 0} (f : X → List A) (xs : List X) (i : ℕ) (x : X) (start list now : List A)
    → i < length xs → get_or xs i x ≡ x → list ≡ start ++ flat_map f (take i xs) → now ≡ list ++ f x → now ≡ start ++ flat_map f (take (i + 1) xs)
flat_map-take_more f xs i x start list now h at so_far more =
    let one = ap (flat_map f) (take_more xs i x h) in
    let split = flat_map-append f (take i xs) (get_or xs i x ∷ []) in
    let last : flat_map f (get_or xs i x ∷ []) ≡ f x = append-nil (f (get_or xs i x)) ∙ ap f at in
    more ∙ (ap (λ l. l ++ f x) so_far ∙ (append_assoc start (flat_map f (take i xs)) (f x) ∙ ap (λ l. start ++ l) (sym (one ∙ (split ∙ ap (λ l. flat_map f (take i xs) ++ l) last)))))

-- all pieces
pub flat_map-take_all : {X A : Type 0} (f : X → List A) (xs : List X) (i : ℕ) (start list : List A) → length xs ≤ i → list ≡ start ++ flat_map f (take i xs) → list ≡ start ++ flat_map f xs
flat_map-take_all f xs i start list h so_far = so_far ∙ ap (λ l. start ++ flat_map f l) (take_all i xs h)

pub length-rotated : (points : List Coord) → length (drop 1 points ++ take 1 points) ≡ length points
length-rotated points = omega (arith, length-append (drop 1 points) (take 1 points), length-drop 1 points, length-take 1 points)

pub length-sides : (points : List Coord) → length (sides points) ≡ length points
length-sides points = omega (arith, length-zip points (drop 1 points ++ take 1 points), length-rotated points)

rotated_next : (points : List Coord) (i : ℕ) (d : Coord) → i + 1 < length points → get_or (drop 1 points ++ take 1 points) i d ≡ get_or points (i + 1) d
rotated_next points i d h = grind (arith, places)

rotated_last : (points : List Coord) (i : ℕ) (d : Coord) → i < length points → length points ≤ i + 1 → get_or (drop 1 points ++ take 1 points) i d ≡ get_or points 0 d
rotated_last points i d h k = grind (arith, places)

-- the side at a place: from its point to the next
pub get_or-sides_next : (points : List Coord) (i : ℕ) (d : Coord × Coord) → i + 1 < length points → get_or (sides points) i d ≡ (get_or points i d.0, get_or points (i + 1) d.1)
get_or-sides_next points i d h =
    get_or-zip points (drop 1 points ++ take 1 points) i d (omega arith) (omega (arith, length-rotated points))
    ∙ ap (λ (q : Coord). (get_or points i d.0, q)) (rotated_next points i d.1 h)

-- the last side leads to the first point
pub get_or-sides_last : (points : List Coord) (i : ℕ) (d : Coord × Coord) → i < length points → length points ≤ i + 1 → get_or (sides points) i d ≡ (get_or points i d.0, get_or points 0 d.1)
get_or-sides_last points i d h k =
    get_or-zip points (drop 1 points ++ take 1 points) i d h (omega (arith, length-rotated points))
    ∙ ap (λ (q : Coord). (get_or points i d.0, q)) (rotated_last points i d.1 h k)

-- the side that a loop over the points of a ring comes to next, where next is the point that it leads to
side_more : {A : Type 0} (f : Coord × Coord → List A) (points : List Coord) (i : ℕ) (d next : Coord) (start list now : List A)
    → i < length points → get_or (sides points) i (d, d) ≡ (get_or points i d, next)
    → list ≡ start ++ flat_map f (take i (sides points)) → now ≡ list ++ f (get_or points i d, next) → now ≡ start ++ flat_map f (take (i + 1) (sides points))
side_more f points i d next start list now h at so_far more =
    let within : i < length (sides points) = omega (arith, length-sides points) in
    flat_map-take_more f (sides points) i (get_or points i d, next) start list now within
    (get_or_default (sides points) i (get_or points i d, next) (d, d) within ∙ at) so_far more

pub side_more_next : {A : Type 0} (f : Coord × Coord → List A) (points shown : List Coord) (i : ℕ) (d next : Coord) (start list now : List A)
    → shown ≡ points → i + 1 < length shown → next ≡ get_or shown (i + 1) d
    → list ≡ start ++ flat_map f (take i (sides points)) → now ≡ list ++ f (get_or shown i d, next) → now ≡ start ++ flat_map f (take (i + 1) (sides points))
side_more_next f points shown i d next start list now same h to so_far more =
    subst (λ (ps : List Coord). list ≡ start ++ flat_map f (take i (sides ps)) → now ≡ start ++ flat_map f (take (i + 1) (sides ps))) same
    (λ old. side_more f shown i d next start list now (omega arith) (get_or-sides_next shown i (d, d) h ∙ ap (λ (q : Coord). (get_or shown i d, q)) (sym to)) old more)
    so_far

pub side_more_last : {A : Type 0} (f : Coord × Coord → List A) (points shown : List Coord) (i : ℕ) (d next : Coord) (start list now : List A)
    → shown ≡ points → i < length shown → length shown ≤ i + 1 → next ≡ get_or shown 0 d
    → list ≡ start ++ flat_map f (take i (sides points)) → now ≡ list ++ f (get_or shown i d, next) → now ≡ start ++ flat_map f (take (i + 1) (sides points))
side_more_last f points shown i d next start list now same h k to so_far more =
    subst (λ (ps : List Coord). list ≡ start ++ flat_map f (take i (sides ps)) → now ≡ start ++ flat_map f (take (i + 1) (sides ps))) same
    (λ old. side_more f shown i d next start list now h (get_or-sides_last shown i (d, d) h k ∙ ap (λ (q : Coord). (get_or shown i d, q)) (sym to)) old more)
    so_far

-- the sides that the loop has come to at its end
pub side_all : {A : Type 0} (f : Coord × Coord → List A) (points shown : List Coord) (i : ℕ) (start list : List A)
    → shown ≡ points → length shown ≤ i → list ≡ start ++ flat_map f (take i (sides points)) → list ≡ start ++ flat_map f (sides points)
side_all f points shown i start list same h so_far =
    flat_map-take_all f (sides points) i start list (omega (arith, length-sides points, ap length same)) so_far

-- the member that a loop over the members comes to next, numbered from 0
pub member_more : {X A : Type 0} (f : ℕ × X → List A) (xs shown : List X) (i : ℕ) (x : X) (list now : List A)
    → shown ≡ xs → i < length shown → x ≡ get_or shown i x
    → list ≡ flat_map f (take i (enumerate_from 0 xs)) → now ≡ list ++ f (i, x) → now ≡ flat_map f (take (i + 1) (enumerate_from 0 xs))
member_more {X} f xs shown i x list now same h at so_far more =
    let inside : i < length xs = omega (arith, ap length same) in
    let within : i < length (enumerate_from 0 xs) = omega (arith, length-enumerate_from 0 xs) in
    let read : get_or xs i x ≡ x = sym (at ∙ ap (λ (l : List X). get_or l i x) same) in
    let here = get_or-enumerate_from 0 xs i (i, x) inside ∙ ap₂ (λ (n : ℕ) (y : X). (n, y)) (zero-add i) read in
    flat_map-take_more f (enumerate_from 0 xs) i (i, x) [] list now within here so_far more

-- the members that the loop has come to at its end
pub member_all : {X A : Type 0} (f : ℕ × X → List A) (xs shown : List X) (i : ℕ) (list : List A)
    → shown ≡ xs → length shown ≤ i → list ≡ flat_map f (take i (enumerate_from 0 xs)) → list ≡ flat_map f (enumerate_from 0 xs)
member_all f xs shown i list same h so_far =
    flat_map-take_all f (enumerate_from 0 xs) i [] list (omega (arith, length-enumerate_from 0 xs, ap length same)) so_far
