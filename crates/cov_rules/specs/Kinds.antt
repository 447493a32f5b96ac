-- Rules by kind, over two lists of whole numbers: what is fixed, of which the first number is the kind, and what is kept. Lists that have
-- not the form of a kind pick nothing and keep what they have.
use Rattle.std.specs.Prelude.{◌≡◌, ℕ, List, length, Option, ℤ}
use Rattle.std.specs.Option.{option_map_or}
use Rattle.region_owners.specs.Facts.{RegionFacts}
use Rattle.cov_rules.specs.Simple.{simple_room, simple_pick, simple_next}
use Rattle.cov_rules.specs.Chain.{parts_of, kept_by, prepared_first, first_pick, next_parts}

-- what is kept after the rule was prepared for so many members
abbrev pub room : List ℤ → List ℤ → ℕ → List ℤ
room fixed kept members = option_map_or (λ parts. kept_by (prepared_first (length parts) parts members)) (parts_of (fixed, kept)) (simple_room (fixed, kept) members)

-- the place of the candidate that the rule picks, or none
abbrev pub pick : List ℤ → List ℤ → RegionFacts → Option ℕ
pick fixed kept facts = option_map_or (λ parts. first_pick parts facts) (parts_of (fixed, kept)) (simple_pick (fixed, kept) facts)

-- what is kept after the rule was asked
abbrev pub next : List ℤ → List ℤ → RegionFacts → List ℤ
next fixed kept facts = option_map_or (λ parts. kept_by (next_parts parts facts)) (parts_of (fixed, kept)) (simple_next (fixed, kept) facts)

-- what is kept after so many parts of a chain were prepared; of another rule, what it had
abbrev pub room_of_first : ℕ → List ℤ → List ℤ → ℕ → List ℤ
room_of_first count fixed kept members = option_map_or (λ parts. kept_by (prepared_first count parts members)) (parts_of (fixed, kept)) kept

-- without memory a chain has prepared its first parts, be it none of them, and another rule is as it was
pub record IsPartlyPrepared (fixed kept : List ℤ) (members : ℕ) (now : List ℤ) : Type 0 where
  pub count : ℕ
  pub reached : now ≡ room_of_first count fixed kept members
