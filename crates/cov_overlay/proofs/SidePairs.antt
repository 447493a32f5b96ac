-- The pairs of sides, by the labels of regions.
use mathlib.Core.List.{[], ◌∷◌}
use Rattle.std.proofs.Common.{◌≡◌, sym, ◌∙◌, ap, ℕ, ◌<◌, Bool, true, cond, nat_lt, List, get_or, arith}
use Rattle.std.specs.Prelude.{AllPairs, Option, None}
use Rattle.std.proofs.lemmas.Bool.{and_parts, eq-eqb, ne_eqb}
use Rattle.std.proofs.lemmas.Bool.Decides.{nat_tests}
use Rattle.std.proofs.lemmas.List.Kept.{AllPairs-cons}
use Rattle.std.proofs.lemmas.List.Sums.{AllPass-from_list_all}
use Rattle.arrangement.specs.Ascending.{ascend_by}
use Rattle.arrangement.specs.Overlay.{Overlay, region_at, label_of}
use Rattle.arrangement.proofs.Ascending.{label_ascends}
use Rattle.overlaid_laws.specs.declared.pair.Pair.{Pair}
use Rattle.overlaid_laws.specs.Pairs.{pair_of, region_pair}
use Rattle.cov_overlay.specs.SidePairs.{side_pair}

-- ---- labels ascend

less_from : (m n : ℕ) → nat_lt m n ≡ true → m < n
less_from m n test = grind (arith, nat_tests)

by_pairs : (xs : List ℕ) → ascend_by (λ m. m) xs ≡ true → AllPairs (λ m n. m < n) xs
by_pairs [] up = λ i j d before within. absurd (omega (arith, before, within))
by_pairs (x ∷ xs) up =
    let parts = and_parts _ _ up in
    AllPairs-cons (λ m n. m < n) x xs (λ k d within. less_from x (get_or xs k d) (AllPass-from_list_all (λ m. nat_lt x m) xs parts.0 k d within)) (by_pairs xs parts.1)

pub label_up : (o : Overlay) (region : ℕ) (label : List ℕ) → label ≡ label_of o region → AllPairs (λ m n. m < n) label
label_up o region label is = by_pairs label (ap (ascend_by (λ m. m)) is ∙ label_ascends o region)

-- ---- one side

module _ (n : ℕ) (o : Overlay) (side region : ℕ) (of_side : region ≡ region_at o side) where
  pub side_own : (label : List ℕ) (found : Option Pair) → region ≡ side → label ≡ label_of o region → found ≡ pair_of n label → found ≡ side_pair n o side
  side_own label found own is found_is =
      found_is ∙ ap (pair_of n) (is ∙ ap (label_of o) own)
      ∙ sym (ap (λ (b : Bool). cond b (region_pair n o side) None) (eq-eqb (region_at o side) side (sym of_side ∙ own)))

  pub side_other : ¬ (region ≡ side) → None ≡ side_pair n o side
  side_other other = sym (ap (λ (b : Bool). cond b (region_pair n o side) None) (ne_eqb (region_at o side) side (λ own. other (of_side ∙ own))))
