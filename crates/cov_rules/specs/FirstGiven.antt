-- The first of a list that something is given for.
use Rattle.std.specs.Prelude.{List, [], ◌∷◌, Option, None}
use Rattle.std.specs.Option.{option_or}

-- what is given for the first element that something is given for
abbrev pub first_given : {X Y : Type 0} → (X → Option Y) → List X → Option Y
first_given give [] = None
first_given give (x ∷ xs) = option_or (give x) (first_given give xs)
