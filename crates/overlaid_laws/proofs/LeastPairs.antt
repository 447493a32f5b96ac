-- The pair of a label is the least member of each coverage that holds the point.
use mathlib.Core.List.{[], ◌∷◌}
use Rattle.std.proofs.Common.{◌≡◌, inl, inr, refl, ◌∙◌, ap, subst, ℕ, ◌+◌, ◌-◌, ◌<◌, ◌≤◌, Bool, true, nat_lt, nat_le, List, filter, arith}
use Rattle.std.specs.Prelude.{Contains, Option, Some, None, slice_get}
use Rattle.std.proofs.lemmas.Bool.{cases_lt, and_parts}
use Rattle.std.proofs.lemmas.Bool.Decides.{nat_tests}
use Rattle.std.proofs.lemmas.List.Elements.{All-contains}
use Rattle.std.proofs.lemmas.List.Sums.{AllPass-from_list_all}
use Rattle.std.proofs.lemmas.Option.{none-some, same_Some}
use Rattle.plane.specs.Label.{numbers_below}
use Rattle.crossing_laws.proofs.Lists.{contains_here}
use Rattle.region_laws.proofs.Balance.{first_or_later}
use Rattle.arrangement.specs.Ascending.{ascend_by}
use Rattle.arrangement.proofs.Ascending.{numbers_ascend, ascend_filter}
use Rattle.arrangement.proofs.LiveOverlays.{kept, kept_is, number_below}
use Rattle.overlaid_laws.specs.declared.pair.Pair.{Pair}
use Rattle.overlaid_laws.specs.Overlaid.{IsLeast, IsLeastPair}
use Rattle.overlaid_laws.specs.Pairs.{pair_with, least_of_first, least_of_second, pair_of}

-- ---- the first of an ascending list is the least

pub less_from : (m n : ℕ) → nat_lt m n ≡ true → m < n
less_from m n test = grind (arith, nat_tests)

less_test : (m n : ℕ) → m < n → nat_lt m n ≡ true
less_test m n less = grind (arith, nat_tests)

pub le_from : (m n : ℕ) → nat_le m n ≡ true → m ≤ n
le_from m n test = grind (arith, nat_tests)

le_test : (m n : ℕ) → m ≤ n → nat_le m n ≡ true
le_test m n less = grind (arith, nat_tests)

-- m is in the list, and no greater than any other
record IsLeastOf (xs : List ℕ) (m : ℕ) : Type 0 where
  has : Contains xs m
  least : (k : ℕ) → Contains xs k → m ≤ k

later_greater : (x : ℕ) (xs : List ℕ) → ascend_by (λ k. k) (x ∷ xs) ≡ true → (k : ℕ) → Contains xs k → x < k
later_greater x xs up k has =
    less_from x k (All-contains (λ y. nat_lt x y ≡ true) xs k (AllPass-from_list_all (λ y. nat_lt x y) xs (and_parts _ _ up).0) has)

first_least : (xs : List ℕ) → ascend_by (λ k. k) xs ≡ true → (m : ℕ) → slice_get xs 0 ≡ Some m → IsLeastOf xs m
first_least [] up m is = absurd (none-some m is)
first_least (x ∷ xs) up m is =
    let same = same_Some x m is in
    record {
      has = subst (Contains (x ∷ xs)) same (contains_here x xs);
      least = λ k has. elim (first_or_later x xs k has) [
        | inl here ↦ omega (arith, same, here)
        | inr later ↦ (let more = later_greater x xs up k later in omega (arith, same, more))
      ];
    }

least_first : (xs : List ℕ) → ascend_by (λ k. k) xs ≡ true → (m : ℕ) → IsLeastOf xs m → slice_get xs 0 ≡ Some m
least_first [] up m is = absurd (let none = is.has.1 in omega (arith, none))
least_first (x ∷ xs) up m is = elim (first_or_later x xs m is.has) [
  | inl here ↦ ap Some here
  | inr later ↦ absurd (let more = later_greater x xs up m later in let least = is.least x (contains_here x xs) in omega (arith, more, least))
]

-- ---- the least members of a label

-- a member passes, and none that is kept and passes is less
module _ (test : ℕ → Bool) (members : ℕ) (below : (k : ℕ) → test k ≡ true → k < members) where
  abbrev label : List ℕ
  label = filter test (numbers_below members)

  label_up : ascend_by (λ k. k) label ≡ true
  label_up = ascend_filter (λ k. k) test (numbers_below members) (numbers_ascend members)

  listed : (k : ℕ) → test k ≡ true → Contains label k
  listed k passes = kept test (numbers_below members) k (number_below members k (below k passes)) passes

  passed : (k : ℕ) → Contains label k → test k ≡ true
  passed k has = (kept_is test (numbers_below members) k has).1

  module _ (keep : ℕ → Bool) where
    -- the first kept one passes, and is the least that does
    first_kept : (m : ℕ) → slice_get (filter keep label) 0 ≡ Some m → (keep m ≡ true) × (test m ≡ true) × ((k : ℕ) → keep k ≡ true → test k ≡ true → m ≤ k)
    first_kept m is =
        let least = first_least (filter keep label) (ascend_filter (λ k. k) keep label label_up) m is in
        let has = kept_is keep label m least.has in
        (has.1, passed m has.0, λ k keeps passes. least.least k (kept keep label k (listed k passes) keeps))

    kept_first : (m : ℕ) → keep m ≡ true → test m ≡ true → ((k : ℕ) → keep k ≡ true → test k ≡ true → m ≤ k) → slice_get (filter keep label) 0 ≡ Some m
    kept_first m keeps passes least = least_first (filter keep label) (ascend_filter (λ k. k) keep label label_up) m (record {
      has = kept keep label m (listed m passes) keeps;
      least = λ k has. (let is = kept_is keep label k has in least k is.1 (passed k is.0));
    })

  module _ (n : ℕ) where
    first_is : (i : ℕ) → least_of_first n label ≡ Some i → (i < n) × IsLeast test i
    first_is i is =
        let (keeps, passes, least) = first_kept (λ m. nat_lt m n) i is in
        let inside = less_from i n keeps in (
          inside,
          record {
            passes = passes;
            least = λ k more. elim (cases_lt k n) [
              | inl less ↦ least k (less_test k n less) more
              | inr past ↦ omega (arith, inside, past)
            ];
          },
        )

    is_first : (i : ℕ) → i < n → IsLeast test i → least_of_first n label ≡ Some i
    is_first i inside is = kept_first (λ m. nat_lt m n) i (less_test i n inside) is.passes (λ k keeps passes. is.least k passes)

    second_is : (m : ℕ) → least_of_second n label ≡ Some m → IsLeast (λ j. test (n + j)) (m - n)
    second_is m is =
        let (keeps, passes, least) = first_kept (λ k. nat_le n k) m is in
        let past = le_from n m keeps in
        let same : m ≡ n + (m - n) = omega (arith, past) in
        record {
          passes = subst (λ k. test k ≡ true) same passes;
          least = λ k more. (let no_less = least (n + k) (le_test n (n + k) (omega arith)) more in omega (arith, no_less));
        }

    is_second : (j : ℕ) → IsLeast (λ k. test (n + k)) j → least_of_second n label ≡ Some (n + j)
    is_second j is = kept_first (λ m. nat_le n m) (n + j) (le_test n (n + j) (omega arith)) is.passes (λ k keeps passes. (
        let past = le_from n k keeps in
        let same : k ≡ n + (k - n) = omega (arith, past) in
        let least = is.least (k - n) (subst (λ m. test m ≡ true) same passes) in
        omega (arith, past, least)
        ))

-- ---- the pair of a label

pub pair_parts : (n : ℕ) (first second : Option ℕ) (pair : Pair) → pair_with n first second ≡ Some pair → (first ≡ Some pair.a) × ((m : ℕ) × ((second ≡ Some m) × (m - n ≡ pair.b)))
pair_parts n (Some i) (Some m) pair is = let same = same_Some _ pair is in (ap (λ (p : Pair). Some p.a) same, (m, (refl, ap (λ (p : Pair). p.b) same)))
pair_parts n (Some i) None pair is = absurd (none-some pair is)
pair_parts n None second pair is = absurd (none-some pair is)

module _ (n : ℕ) (test : ℕ → Bool) (members : ℕ) (below : (k : ℕ) → test k ≡ true → k < members) (pair : Pair) where
  pub pair_is : pair_of n (filter test (numbers_below members)) ≡ Some pair → IsLeastPair n test pair
  pair_is is =
      let parts = pair_parts n _ _ pair is in
      let first = first_is test members below n pair.a parts.0 in
      record {
        of_first = first.0;
        first = first.1;
        second = subst (IsLeast (λ j. test (n + j))) parts.1.1.1 (second_is test members below n parts.1.0 parts.1.1.0);
      }

  pub is_pair : IsLeastPair n test pair → pair_of n (filter test (numbers_below members)) ≡ Some pair
  is_pair is =
      let number : n + pair.b - n ≡ pair.b = omega arith in
      (λ i. pair_with n (is_first test members below n pair.a is.of_first is.first i) (is_second test members below n pair.b is.second i))
      ∙ ap (λ j. Some (record { a = pair.a; b = j })) number
