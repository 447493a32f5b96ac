-- The first place in a list of texts, by their borrowed forms.
use Rattle.std.proofs.Common.{◌≡◌, ◌+◌, Bool, cond, not, refl, ap, List, [], ◌∷◌, map}
use Rattle.std.proofs.lemmas.List.{length-map}
use Rattle.std.specs.List.{position_or_len}
use Rattle.std.specs.Prelude.{position}

before-map : {X Y : Type 0} (p : Y → Bool) (f : X → Y) (xs : List X) → position_or_len p (map f xs) ≡ position_or_len (λ x. p (f x)) xs
before-map p f [] = refl
before-map p f (x ∷ xs) = ap (λ n. cond (not (p (f x))) (1 + n) 0) (before-map p f xs)

-- the first place among what is made of elements is that among the elements
pub position-map : {X Y : Type 0} (p : Y → Bool) (f : X → Y) (xs : List X) → position p (map f xs) ≡ position (λ x. p (f x)) xs
position-map p f xs = rw (before-map p f xs, length-map xs f) refl
