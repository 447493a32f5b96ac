-- Rings that begin elsewhere: their sides and corners are the same, each one place further.
use mathlib.Core.List.{[], ◌∷◌}
use Rattle.std.proofs.Common.{◌≡◌, inl, inr, refl, sym, ◌∙◌, ap, subst, ℕ, zero, suc, ◌<◌, List, ◌++◌, get_or, ◌≢◌, arith}
use Rattle.std.specs.Prelude.{AllPairs, Contains, length, take, drop, zip, Option, Some, None, slice_get, unwrap_or}
use Rattle.std.proofs.lemmas.Bool.{cases_order}
use Rattle.std.proofs.lemmas.List.{length-append}
use Rattle.std.proofs.lemmas.List.Elements.{Contains-append_left, Contains-append_right, Contains-append_cases}
use Rattle.std.proofs.lemmas.List.Quantifiers.{all_pairs_push}
use Rattle.std.proofs.lemmas.Option.{none-some, slice_get_within, slice_get-get_or, get_or_from_slice_get}
use Rattle.crossing_laws.proofs.Lists.{contains_there}
use Rattle.cov_types.specs.declared.coord.Coord.{Coord}
use Rattle.cov_types.specs.Uses.{sides}
use Rattle.sound_polygons.specs.Parts.{corners}

-- the first at the end
abbrev pub turned : {X : Type 0} → List X → List X
turned xs = drop 1 xs ++ take 1 xs

abbrev pub turned_by : {X : Type 0} → ℕ → List X → List X
turned_by zero xs = xs
turned_by (suc k) xs = turned_by k (turned xs)

-- ---- zips of turned lists

zip_end : {A B : Type 0} (xs : List A) (ys : List B) (a : A) (b : B) → length xs ≡ length ys → zip (xs ++ a ∷ []) (ys ++ b ∷ []) ≡ zip xs ys ++ (a, b) ∷ []
zip_end [] [] a b same = refl
zip_end [] (y ∷ ys) a b same = absurd (omega arith)
zip_end (x ∷ xs) [] a b same = absurd (omega arith)
zip_end (x ∷ xs) (y ∷ ys) a b same = ap (λ r. (x, y) ∷ r) (zip_end xs ys a b (omega arith))

pub length_turned : {X : Type 0} (xs : List X) → length (turned xs) ≡ length xs
length_turned [] = refl
length_turned (x ∷ xs) = length-append xs (x ∷ []) ∙ omega arith

zip_turned : {A B : Type 0} (xs : List A) (ys : List B) → length xs ≡ length ys → zip (turned xs) (turned ys) ≡ turned (zip xs ys)
zip_turned [] [] same = refl
zip_turned [] (y ∷ ys) same = absurd (omega arith)
zip_turned (x ∷ xs) [] same = absurd (omega arith)
zip_turned (x ∷ xs) (y ∷ ys) same = zip_end xs ys x y (omega arith)

pub sides_turned : (points : List Coord) → sides (turned points) ≡ turned (sides points)
sides_turned points = zip_turned points (turned points) (sym (length_turned points))

length_zip_same : {A B : Type 0} (xs : List A) (ys : List B) → length xs ≡ length ys → length (zip xs ys) ≡ length xs
length_zip_same [] [] same = refl
length_zip_same [] (y ∷ ys) same = refl
length_zip_same (x ∷ xs) [] same = absurd (omega arith)
length_zip_same (x ∷ xs) (y ∷ ys) same = let rest = length_zip_same xs ys (omega arith) in omega (arith, rest)

pub length_sides : (points : List Coord) → length (sides points) ≡ length points
length_sides points = length_zip_same points (turned points) (sym (length_turned points))

-- the corners are the sides with the next
corners_are : (points : List Coord) → corners points ≡ zip (sides points) (turned (sides points))
corners_are points = ap (zip (sides points)) (sides_turned points)

pub corners_turned : (points : List Coord) → corners (turned points) ≡ turned (corners points)
corners_turned points =
    corners_are (turned points)
    ∙ (λ i. zip (sides_turned points i) (turned (sides_turned points i)))
    ∙ zip_turned (sides points) (turned (sides points)) (sym (length_turned (sides points)))
    ∙ ap turned (sym (corners_are points))

-- ---- the elements are the same

pub turned_has : {X : Type 0} (xs : List X) (x : X) → Contains (turned xs) x → Contains xs x
turned_has [] x h = h
turned_has (y ∷ xs) x h =
    elim (Contains-append_cases xs (y ∷ []) x h) [
      | inl later ↦ contains_there y x xs later
      | inr first ↦ by first
    ]
  where
    by : Contains (y ∷ []) x → Contains (y ∷ xs) x
    by (zero, inside, is) = (0, omega arith, is)
    by (suc k, inside, is) = absurd (omega arith)

pub has_turned : {X : Type 0} (xs : List X) (x : X) → Contains xs x → Contains (turned xs) x
has_turned [] x h = h
has_turned (y ∷ xs) x (zero, inside, is) = Contains-append_right xs (y ∷ []) x (0, omega arith, is)
has_turned (y ∷ xs) x (suc k, inside, is) = Contains-append_left xs (y ∷ []) x (k, omega arith, is)

pub turned_by_has : {X : Type 0} (k : ℕ) (xs : List X) (x : X) → Contains (turned_by k xs) x → Contains xs x
turned_by_has zero xs x h = h
turned_by_has (suc k) xs x h = turned_has xs x (turned_by_has k (turned xs) x h)

pub has_turned_by : {X : Type 0} (k : ℕ) (xs : List X) (x : X) → Contains xs x → Contains (turned_by k xs) x
has_turned_by zero xs x h = h
has_turned_by (suc k) xs x h = has_turned_by k (turned xs) x (has_turned xs x h)

pub sides_turned_by : (k : ℕ) (points : List Coord) → sides (turned_by k points) ≡ turned_by k (sides points)
sides_turned_by zero points = refl
sides_turned_by (suc k) points = sides_turned_by k (turned points) ∙ ap (turned_by k) (sides_turned points)

pub corners_turned_by : (k : ℕ) (points : List Coord) → corners (turned_by k points) ≡ turned_by k (corners points)
corners_turned_by zero points = refl
corners_turned_by (suc k) points = corners_turned_by k (turned points) ∙ ap (turned_by k) (corners_turned points)

pub different_turned : (points : List Coord) → AllPairs (λ p q. p ≢ q) points → AllPairs (λ p q. p ≢ q) (turned points)
different_turned [] h = h
different_turned (p ∷ points) h =
    all_pairs_push (λ a b. a ≢ b) points p (λ i j d before within. h (suc i) (suc j) d (omega arith) (omega arith)) (λ k d within same. h 0 (suc k) d (omega arith) (omega arith) (sym same))

pub different_turned_by : (k : ℕ) (points : List Coord) → AllPairs (λ p q. p ≢ q) points → AllPairs (λ p q. p ≢ q) (turned_by k points)
different_turned_by zero points h = h
different_turned_by (suc k) points h = different_turned_by k (turned points) (different_turned points h)

-- ---- places

get_before : {X : Type 0} (xs ys : List X) (i : ℕ) → i < length xs → slice_get (xs ++ ys) i ≡ slice_get xs i
get_before [] ys i less = absurd (omega arith)
get_before (x ∷ xs) ys zero less = refl
get_before (x ∷ xs) ys (suc i) less = get_before xs ys i (omega arith)

get_end : {X : Type 0} (xs : List X) (x : X) (i : ℕ) → i ≡ length xs → slice_get (xs ++ x ∷ []) i ≡ Some x
get_end [] x zero is = refl
get_end [] x (suc i) is = absurd (omega arith)
get_end (y ∷ xs) x zero is = absurd (omega arith)
get_end (y ∷ xs) x (suc i) is = get_end xs x i (omega arith)

-- the next place
pub turned_at : {X : Type 0} (xs : List X) (i : ℕ) → suc i < length xs → slice_get (turned xs) i ≡ slice_get xs (suc i)
turned_at [] i less = absurd (omega arith)
turned_at (x ∷ xs) i less = get_before xs (x ∷ []) i (omega arith)

-- after the last comes the first
pub turned_last : {X : Type 0} (xs : List X) (i : ℕ) → suc i ≡ length xs → slice_get (turned xs) i ≡ slice_get xs 0
turned_last [] i is = absurd (omega arith)
turned_last (x ∷ xs) i is = get_end xs x i (omega arith)

pub turned_by_first : {X : Type 0} (k : ℕ) (xs : List X) → k < length xs → slice_get (turned_by k xs) 0 ≡ slice_get xs k
turned_by_first zero xs less = refl
turned_by_first (suc k) xs less = turned_by_first k (turned xs) (omega (arith, length_turned xs)) ∙ turned_at xs k less

zip_at : {A B : Type 0} (xs : List A) (ys : List B) (i : ℕ) (a : A) (b : B) → slice_get xs i ≡ Some a → slice_get ys i ≡ Some b → slice_get (zip xs ys) i ≡ Some (a, b)
zip_at [] ys i a b h k = absurd (none-some a h)
zip_at (x ∷ xs) [] i a b h k = absurd (none-some b k)
zip_at (x ∷ xs) (y ∷ ys) zero a b h k = λ j. Some (some_is x a h j, some_is y b k j)
  where
    some_is : {X : Type 0} (x a : X) → Some x ≡ Some a → x ≡ a
    some_is x a h = ap (λ o. unwrap_or o x) h
zip_at (x ∷ xs) (y ∷ ys) (suc i) a b h k = zip_at xs ys i a b h k

placed : {X : Type 0} (xs : List X) (k : ℕ) (x : X) → slice_get xs k ≡ Some x → Contains xs x
placed xs k x h = (k, slice_get_within xs k x h, get_or_from_slice_get xs k x x h)

-- a side leads from a place to the next
pub side_at : (points : List Coord) (i : ℕ) (a v : Coord) → slice_get points i ≡ Some a → slice_get points (suc i) ≡ Some v → slice_get (sides points) i ≡ Some (a, v)
side_at points i a v at_a at_v = zip_at points (turned points) i a v at_a (turned_at points i (slice_get_within points (suc i) v at_v) ∙ at_v)

-- and the last one to the first place
pub side_last : (points : List Coord) (i : ℕ) (a v : Coord) → suc i ≡ length points → slice_get points i ≡ Some a → slice_get points 0 ≡ Some v → slice_get (sides points) i ≡ Some (a, v)
side_last points i a v is at_a at_v = zip_at points (turned points) i a v at_a (turned_last points i is ∙ at_v)

corner_from : (points : List Coord) (i : ℕ) (s t : Coord × Coord) → slice_get (sides points) i ≡ Some s → slice_get (turned (sides points)) i ≡ Some t → Contains (corners points) (s, t)
corner_from points i s t at_s at_t = subst (λ cs. Contains cs (s, t)) (sym (corners_are points)) (placed (zip (sides points) (turned (sides points))) i (s, t) (zip_at (sides points) (turned (sides points)) i s t at_s at_t))

-- a corner at three places in a row
pub corner_at : (points : List Coord) (i : ℕ) (a v c : Coord) → slice_get points i ≡ Some a → slice_get points (suc i) ≡ Some v → slice_get points (suc (suc i)) ≡ Some c
    → Contains (corners points) ((a, v), (v, c))
corner_at points i a v c at_a at_v at_c =
    let next = side_at points (suc i) v c at_v at_c in
    corner_from points i (a, v) (v, c) (side_at points i a v at_a at_v) (turned_at (sides points) i (slice_get_within (sides points) (suc i) (v, c) next) ∙ next)

-- and the one at the last place
pub corner_last : (points : List Coord) (i : ℕ) (a v c : Coord) → suc (suc i) ≡ length points → slice_get points i ≡ Some a → slice_get points (suc i) ≡ Some v → slice_get points 0 ≡ Some c
    → Contains (corners points) ((a, v), (v, c))
corner_last points i a v c is at_a at_v at_c =
    let next = side_last points (suc i) v c is at_v at_c in
    corner_from points i (a, v) (v, c) (side_at points i a v at_a at_v) (turned_at (sides points) i (slice_get_within (sides points) (suc i) (v, c) next) ∙ next)

-- ---- lists that are equal at each place

pub same_by_places : {X : Type 0} (xs ys : List X) → ((k : ℕ) → slice_get xs k ≡ slice_get ys k) → xs ≡ ys
same_by_places [] [] h = refl
same_by_places [] (y ∷ ys) h = absurd (none-some y (h 0))
same_by_places (x ∷ xs) [] h = absurd (none-some x (sym (h 0)))
same_by_places (x ∷ xs) (y ∷ ys) h =
    let first : x ≡ y = ap (λ o. unwrap_or o x) (h 0) in
    let rest = same_by_places xs ys (λ k. h (suc k)) in
    λ i. first i ∷ rest i

-- ---- rings whose corners agree

-- from each side both go on alike
abbrev pub GoAlike : List Coord → List Coord → Type 0
GoAlike points others = (a v c d : Coord) → Contains (corners points) ((a, v), (v, c)) → Contains (corners others) ((a, v), (v, d)) → c ≡ d

module _ (points others : List Coord) (different : AllPairs (λ p q. p ≢ q) points) (different_too : AllPairs (λ p q. p ≢ q) others) (alike : GoAlike points others)
    (p q : Coord) (at_p : slice_get points 0 ≡ Some p) (at_q : slice_get points 1 ≡ Some q) (at_p_too : slice_get others 0 ≡ Some p) (at_q_too : slice_get others 1 ≡ Some q) where
  -- two places of a list with the same element
  apart : (xs : List Coord) → AllPairs (λ p q. p ≢ q) xs → (j : ℕ) (x : Coord) → slice_get xs 0 ≡ Some x → slice_get xs (suc j) ≡ Some x → ⊥
  apart xs all j x first later =
      all 0 (suc j) x (omega arith) (slice_get_within xs (suc j) x later) (get_or_from_slice_get xs 0 x x first ∙ sym (get_or_from_slice_get xs (suc j) x x later))

  -- where a place is the last, the list ends there
  ends : (xs : List Coord) (k : ℕ) (v : Coord) → slice_get xs (suc k) ≡ Some v → slice_get xs (suc (suc k)) ≡ None → suc (suc k) ≡ length xs
  ends xs k v here none =
      let within = slice_get_within xs (suc k) v here in
      elim (cases_order (suc (suc k)) (length xs)) [
        | inl same ↦ same
        | inr apart ↦ elim apart [
          | inl less ↦ absurd (none-some (get_or xs (suc (suc k)) v) (sym none ∙ slice_get-get_or xs (suc (suc k)) v less))
          | inr more ↦ absurd (omega arith)
        ]
      ]

  on_from : (k : ℕ) (a v : Coord) → slice_get points k ≡ Some a → slice_get points (suc k) ≡ Some v → slice_get others k ≡ Some a → slice_get others (suc k) ≡ Some v
      → (found : Option Coord) → slice_get points (suc (suc k)) ≡ found → (other : Option Coord) → slice_get others (suc (suc k)) ≡ other → found ≡ other
  on_from k a v a_is v_is a_too v_too None f None g = refl
  on_from k a v a_is v_is a_too v_too (Some c) f (Some d) g = ap (λ (x : Coord). Some x) (alike a v c d (corner_at points k a v c a_is v_is f) (corner_at others k a v d a_too v_too g))
  on_from k a v a_is v_is a_too v_too None f (Some d) g =
      let same = alike a v p d (corner_last points k a v p (ends points k v v_is f) a_is v_is at_p) (corner_at others k a v d a_too v_too g) in
      absurd (apart others different_too (suc k) p at_p_too (g ∙ ap (λ (x : Coord). Some x) (sym same)))
  on_from k a v a_is v_is a_too v_too (Some c) f None g =
      let same = alike a v c p (corner_at points k a v c a_is v_is f) (corner_last others k a v p (ends others k v v_too g) a_too v_too at_p_too) in
      absurd (apart points different (suc k) p at_p (f ∙ ap (λ (x : Coord). Some x) same))

  -- after a place with none there is none
  past : (xs : List Coord) (k : ℕ) → slice_get xs (suc k) ≡ None → slice_get xs (suc (suc k)) ≡ None
  past [] k none = refl
  past (x ∷ []) k none = refl
  past (x ∷ y ∷ xs) zero none = absurd (none-some y (sym none))
  past (x ∷ y ∷ xs) (suc k) none = past (y ∷ xs) k none

  -- both are alike at a place and at the next
  record AreAlikeAt (k : ℕ) : Type 0 where
    here : slice_get points k ≡ slice_get others k
    next : slice_get points (suc k) ≡ slice_get others (suc k)

  one_on : (k : ℕ) → AreAlikeAt k → AreAlikeAt (suc k)
  one_on k h = by (slice_get points k) refl (slice_get points (suc k)) refl
    where
      by : (first : Option Coord) → slice_get points k ≡ first → (second : Option Coord) → slice_get points (suc k) ≡ second → AreAlikeAt (suc k)
      by first f None g = record { here = h.next; next = past points k g ∙ sym (past others k (sym h.next ∙ g)) }
      by (Some a) f (Some v) g = record { here = h.next; next = on_from k a v f g (sym h.here ∙ f) (sym h.next ∙ g) (slice_get points (suc (suc k))) refl (slice_get others (suc (suc k))) refl }
      by None f (Some v) g = absurd (none-some v (sym (none_on points k f) ∙ g))
        where
          none_on : (xs : List Coord) (k : ℕ) → slice_get xs k ≡ None → slice_get xs (suc k) ≡ None
          none_on [] k none = refl
          none_on (x ∷ xs) zero none = absurd (none-some x (sym none))
          none_on (x ∷ xs) (suc k) none = none_on xs k none

  all_alike : (k : ℕ) → AreAlikeAt k
  all_alike zero = record { here = at_p ∙ sym at_p_too; next = at_q ∙ sym at_q_too }
  all_alike (suc k) = one_on k (all_alike k)

  pub alike_same : points ≡ others
  alike_same = same_by_places points others (λ k. (all_alike k).here)
