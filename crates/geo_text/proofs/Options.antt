-- Laws of options, of what a test chooses, and of a fact of each entry of a list.
use Rattle.std.proofs.Common.{◌≡◌, Bool, true, false, cond, List, [], ◌∷◌, ◌++◌, Option, Some, None, option_and_then, option_map, refl}
use Rattle.std.specs.List.{AllByRecursion}
use Rattle.std.specs.Option.{option_or}

pub none_some : {A : Type 0} (x : A) → None ≡ Some x → ⊥
none_some x e = cc

pub some_equal : {A : Type 0} (x y : A) → Some x ≡ Some y → x ≡ y
some_equal x y e = cc

-- a step that led on
pub opened : {A B : Type 0} (o : Option A) (f : A → Option B) (y : B) → option_and_then f o ≡ Some y → (x : A) × (o ≡ Some x) × (f x ≡ Some y)
opened None f y e = absurd (none_some y e)
opened (Some x) f y e = (x, refl, e)

pub mapped : {A B : Type 0} (o : Option A) (g : A → B) (y : B) → option_map g o ≡ Some y → (x : A) × (o ≡ Some x) × (g x ≡ y)
mapped None g y e = absurd (none_some y e)
mapped (Some x) g y e = (x, refl, some_equal (g x) y e)

-- what came only where a test holds
pub when_so : {A : Type 0} (b : Bool) (o : Option A) (y : A) → cond b o None ≡ Some y → (b ≡ true) × (o ≡ Some y)
when_so true o y e = (refl, e)
when_so false o y e = absurd (none_some y e)

pub option_or-assoc : {A : Type 0} (x y z : Option A) → option_or (option_or x y) z ≡ option_or x (option_or y z)
option_or-assoc None y z = refl
option_or-assoc (Some x) y z = refl

pub option_or-none : {A : Type 0} (x : Option A) → option_or x None ≡ x
option_or-none None = refl
option_or-none (Some x) = refl

pub split_append : {A : Type 0} (P : A → Type 0) (xs ys : List A) → AllByRecursion P (xs ++ ys) → AllByRecursion P xs × AllByRecursion P ys
split_append P [] ys h = (tt, h)
split_append P (x ∷ xs) ys h = let w = split_append P xs ys h.1 in ((h.0, w.0), w.1)
