-- What an iterator has given so far, and what is left.
use mathlib.Core.List.{[], ◌∷◌}
use Rattle.std.proofs.Common.{◌≡◌, sym, ◌∙◌, ap, subst, ℕ, ◌+◌, ◌<◌, List, ◌++◌, get_or, length, length-append, append-nil, append_assoc, arith}
use Rattle.std.specs.List.{AllZip}
use Rattle.cov_types.specs.declared.coord.Coord.{Coord}
use Rattle.arrangement.specs.Overlay.{Overlay}
use Rattle.fault_map.specs.Polygon.{IsRegionPolygon}

pub moved_on : {X : Type 0} (yielded rest before all : List X) (x : X) → yielded ++ before ≡ all → before ≡ x ∷ rest → (yielded ++ x ∷ []) ++ rest ≡ all
moved_on yielded rest before all x is next = append_assoc yielded (x ∷ []) rest ∙ ap (λ xs. yielded ++ xs) (sym next) ∙ is

pub all_yielded : {X : Type 0} (yielded rest all : List X) → yielded ++ rest ≡ all → length rest ≡ 0 → yielded ≡ all
all_yielded yielded [] all is none = sym (append-nil yielded) ∙ is
all_yielded yielded (x ∷ rest) all is none = absurd (omega arith)

-- the next one is within the list
pub next_within : {X : Type 0} (yielded rest before all : List X) (x : X) → yielded ++ before ≡ all → before ≡ x ∷ rest → length yielded < length all
next_within yielded rest before all x is next =
    let whole = ap length (sym is) ∙ length-append yielded before in
    let some = ap length next in
    omega (arith, whole, some)

-- and beside it stands the element at its place
pub zip_at : {X Y : Type 0} (R : X → Y → Type 0) (xs : List X) (ys zs : List Y) (y : Y) (d : X) → AllZip R xs (ys ++ y ∷ zs) → R (get_or xs (length ys) d) y
zip_at R [] [] zs y d h = absurd h
zip_at R [] (a ∷ ys) zs y d h = absurd h
zip_at R (x ∷ xs) [] zs y d h = h.0
zip_at R (x ∷ xs) (a ∷ ys) zs y d h = zip_at R xs ys zs y d h.1

pub one_longer : {X : Type 0} (yielded : List X) (x : X) (place : ℕ) → place ≡ length yielded → place + 1 ≡ length (yielded ++ x ∷ [])
one_longer yielded x place is = let long = length-append yielded (x ∷ []) in omega (arith, is, long)

-- the next polygon is that of the region at its place
pub polygon_at : (o : Overlay) (regions : List ℕ) (yielded rest before all : List (List (List Coord))) (polygon : List (List Coord)) (place : ℕ) → place ≡ length yielded → AllZip (IsRegionPolygon o) regions all → yielded ++ before ≡ all → before ≡ polygon ∷ rest
    → IsRegionPolygon o (get_or regions place 0) polygon
polygon_at o regions yielded rest before all polygon place is each left next =
    subst (λ n. IsRegionPolygon o (get_or regions n 0) polygon) (sym is)
    (zip_at (IsRegionPolygon o) regions yielded rest polygon 0 (subst (λ ps. AllZip (IsRegionPolygon o) regions ps) (sym left ∙ ap (λ ps. yielded ++ ps) next) each))
