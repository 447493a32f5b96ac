-- The pairs of members of two coverages that hold a region together. The second coverage's members are numbered after the n members of the first.
use Rattle.std.specs.Prelude.{◌≡◌, ◌↔◌, ℕ, ◌-◌, ◌==◌, ◌&&◌, ◌||◌, Bool, nat_lt, nat_le, IsTrue, List, filter, AllPairs, Contains, Option, Some, None, slice_get}
use Rattle.arrangement.specs.Overlay.{Overlay, IsRegion, label_of}
use Rattle.overlaid_laws.specs.declared.pair.Pair.{Pair}

-- p comes before q: by a, then by b
abbrev pub is_pair_before : Pair → Pair → Bool
is_pair_before p q = nat_lt p.a q.a || ((p.a == q.a) && nat_lt p.b q.b)

-- the pair of two members, the second one numbered after the n of the first coverage; none where one is missing
abbrev pub pair_with : ℕ → Option ℕ → Option ℕ → Option Pair
pair_with n (Some i) (Some m) = Some (record { a = i; b = m - n })
pair_with n (Some i) None = None
pair_with n None second = None

-- the least member of the first coverage in a label, which ascends
abbrev pub least_of_first : ℕ → List ℕ → Option ℕ
least_of_first n label = slice_get (filter (λ m. nat_lt m n) label) 0

-- the least member of the second coverage in it, by its number after those of the first
abbrev pub least_of_second : ℕ → List ℕ → Option ℕ
least_of_second n label = slice_get (filter (λ m. nat_le n m) label) 0

-- the pair of a label: the least member of each coverage in it
abbrev pub pair_of : ℕ → List ℕ → Option Pair
pair_of n label = pair_with n (least_of_first n label) (least_of_second n label)

-- the pair of a region
abbrev pub region_pair : ℕ → Overlay → ℕ → Option Pair
region_pair n o r = pair_of n (label_of o r)

-- some region has the pair
pub record IsRegionPair (n : ℕ) (o : Overlay) (pair : Pair) : Type 0 where
  pub region : ℕ
  pub is_region : IsRegion o.edges region
  pub has : region_pair n o region ≡ Some pair

-- exactly the pairs that some region has, ascending by a and then b
pub record ArePairs (n : ℕ) (o : Overlay) (pairs : List Pair) : Type 0 where
  pub ascending : AllPairs (λ p q. IsTrue (is_pair_before p q)) pairs
  pub exact : (pair : Pair) → Contains pairs pair ↔ IsRegionPair n o pair
