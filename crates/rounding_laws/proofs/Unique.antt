-- A segment has one chain: a list in an order that two elements do not both have is told by its elements.
use mathlib.Core.List.{[], ◌∷◌}
use Rattle.std.proofs.Common.{◌≡◌, ◌⊎◌, inl, inr, refl, sym, subst, zero, suc, List, arith}
use Rattle.std.specs.Prelude.{Contains, AllPairs}
use Rattle.cov_types.specs.declared.coord.Coord.{Coord}
use Rattle.cov_types.specs.declared.seg.Seg.{Seg}
use Rattle.plane.specs.Ray.{Rises}
use Rattle.plane.specs.Snapping.{PassesFirst, IsChain}
use Rattle.rounding_laws.proofs.First.{passes_one_way}

-- an element is the first or one of the rest
pub first_or_rest : (a r : Coord) (c : List Coord) → Contains (a ∷ c) r → (a ≡ r) ⊎ Contains c r
first_or_rest a r c (zero, within, is) = inl is
first_or_rest a r c (suc k, within, is) = inr (k, omega arith, is)

first_in : (a : Coord) (c : List Coord) → Contains (a ∷ c) a
first_in a c = (0, omega arith, refl)

rest_in : (a r : Coord) (c : List Coord) → Contains c r → Contains (a ∷ c) r
rest_in a r c (k, within, is) = (suc k, omega arith, is)

none_in : (r : Coord) → Contains [] r → ⊥
none_in r h = absurd (omega (arith, h.1))

module _ (R : Coord → Coord → Type 0) where
  -- no two elements come one before the other both ways
  abbrev OneWay : List Coord → Type 0
  OneWay c = (a b : Coord) → Contains c a → Contains c b → R a b → R b a → ⊥

  -- the first comes before each of the rest
  first_before : (a r : Coord) (c : List Coord) → AllPairs R (a ∷ c) → Contains c r → R a r
  first_before a r c ordered (k, within, is) = subst (R a) is (ordered 0 (suc k) r (omega arith) (omega arith))

  rest_ordered : (a : Coord) (c : List Coord) → AllPairs R (a ∷ c) → AllPairs R c
  rest_ordered a c ordered i j d before within = ordered (suc i) (suc j) d (omega arith) (omega arith)

  -- the same elements, beyond the same first one
  rest_same : (a : Coord) (c d : List Coord) → OneWay (a ∷ c) → AllPairs R (a ∷ c) → ((r : Coord) → Contains (a ∷ c) r → Contains (a ∷ d) r) → (r : Coord) → Contains c r → Contains d r
  rest_same a c d one ordered same r has =
      let before = first_before a r c ordered has in
      elim (first_or_rest a r d (same r (rest_in a r c has))) [
        | inl e ↦ (
            let itself = subst (R a) (sym e) before in
            absurd (one a a (first_in a c) (first_in a c) itself itself))
        | inr rest ↦ rest
      ]

  -- two lists begin with the same element
  same_first : (a b : Coord) (c d : List Coord) → OneWay (a ∷ c) → AllPairs R (a ∷ c) → AllPairs R (b ∷ d)
      → ((r : Coord) → Contains (a ∷ c) r → Contains (b ∷ d) r) → ((r : Coord) → Contains (b ∷ d) r → Contains (a ∷ c) r) → a ≡ b
  same_first a b c d one ordered ordered_too there back =
      elim (first_or_rest b a d (there a (first_in a c))) [
        | inl e ↦ sym e
        | inr a_later ↦ elim (first_or_rest a b c (back b (first_in b d))) [
          | inl e ↦ e
          | inr b_later ↦ absurd (one a b (first_in a c) (back b (first_in b d)) (first_before a b c ordered b_later) (first_before b a d ordered_too a_later))
        ]
      ]

  same_lists : (c d : List Coord) → OneWay c → OneWay d → AllPairs R c → AllPairs R d
      → ((r : Coord) → Contains c r → Contains d r) → ((r : Coord) → Contains d r → Contains c r) → c ≡ d
  same_lists [] [] one one_too ordered ordered_too there back = refl
  same_lists [] (b ∷ d) one one_too ordered ordered_too there back = absurd (none_in b (back b (first_in b d)))
  same_lists (a ∷ c) [] one one_too ordered ordered_too there back = absurd (none_in a (there a (first_in a c)))
  same_lists (a ∷ c) (b ∷ d) one one_too ordered ordered_too there back =
      let first = same_first a b c d one ordered ordered_too there back in
      let there_rest = rest_same a c d one ordered (λ r h. subst (λ (v : Coord). Contains (v ∷ d) r) (sym first) (there r h)) in
      let back_rest = rest_same b d c one_too ordered_too (λ r h. subst (λ (v : Coord). Contains (v ∷ c) r) first (back r h)) in
      let rest = same_lists c d (λ x y has_x has_y. one x y (rest_in a x c has_x) (rest_in a y c has_y)) (λ x y has_x has_y. one_too x y (rest_in b x d has_x) (rest_in b y d has_y))
      (rest_ordered a c ordered) (rest_ordered b d ordered_too) there_rest back_rest in
      λ i. first i ∷ rest i

module _ (segs : List Seg) (s : Seg) (rises : Rises s) where
  -- a segment does not pass two pixels that it meets one before the other both ways
  one_way : (c : List Coord) → IsChain segs s c → OneWay (PassesFirst s) c
  one_way c chain a b has_a has_b = passes_one_way s a b rises ((chain.members a).0 has_a).1 ((chain.members b).0 has_b).1

  -- a segment has one chain
  pub chain_unique : (c d : List Coord) → IsChain segs s c → IsChain segs s d → c ≡ d
  chain_unique c d chain other =
      same_lists (PassesFirst s) c d (one_way c chain) (one_way d other) chain.in_order other.in_order
      (λ r h. (other.members r).1 ((chain.members r).0 h)) (λ r h. (chain.members r).1 ((other.members r).0 h))
