-- One more element of a loop.
use mathlib.Core.List.{[], ◌∷◌}
use mir.Syntax.{w32, w64}
use Rattle.std.proofs.Common.{◌≡◌, sym, ◌∙◌, ap, subst, ℕ, ◌+◌, ◌-◌, ◌*◌, ◌^◌, ◌<◌, ◌≤◌, Bool, true, false, cond, List, ◌++◌, length, take, get_or, filter, inl, inr, ℤ, pos, neg_ℤ, ◌+ℤ◌, ◌≤ℤ◌, to_z, of_z, lit<, arith}
use Rattle.std.proofs.Math.Nat.{mul-le-mul}
use Rattle.std.proofs.lemmas.Bool.{cases_lt}
use Rattle.std.proofs.lemmas.Int.{ints}
use Rattle.cov_types.specs.declared.coord.Coord.{Coord}
use Rattle.cov_types.specs.declared.coord.TheConstants.{LIMIT}
use Rattle.std.proofs.lemmas.List.{take_more, append-nil, get_or_default}
use Rattle.std.proofs.lemmas.List.Elements.{filter-append}
use Rattle.integer_laws.proofs.Ring.{lin}
use Rattle.integer_laws.proofs.Bound.{IsWithin, within_sum}
use Rattle.plane.specs.Length.{root}
use Rattle.plane.proofs.Roots.{root_is}
use Rattle.arrangement.proofs.Labels.{mapped}
use Rattle.crossing_laws.proofs.Lists.{contains-map}
use Rattle.distance_laws.specs.Room.{HasHalfRoom, reach}
use Rattle.distance_laws.proofs.Reach.{reach_is}
use Rattle.grid_pred.proofs.Small.{read, read_within}
use Rattle.plane.specs.Point.{Point}
use Rattle.plane.specs.Ray.{is_over}
use Rattle.crossing_laws.specs.Crossing.{crossing_sum}
use Rattle.gap_width.specs.declared.own.OwnEdge.{OwnEdge}
use Rattle.gap_width.specs.Own.{weighed}
use Rattle.gap_width.specs.Search.{IsLeastReach, IsRoom}

-- the sum with one edge more
pub sum-append : (xs : List OwnEdge) (o : OwnEdge) (p : Point) → crossing_sum (weighed (xs ++ o ∷ [])) p ≡ crossing_sum (weighed xs) p +ℤ cond (is_over o.edge p) o.weight (pos 0)
sum-append [] o p = omega (arith, lin)
sum-append (x ∷ xs) o p = let rest = sum-append xs o p in omega (arith, lin)

module _ (own : List OwnEdge) (i : ℕ) (o : OwnEdge) (p : Point) (below : i < length own) (is : o ≡ get_or own i o) where
  next : take (i + 1) own ≡ take i own ++ o ∷ []
  next = take_more own i o below ∙ ap (λ x. take i own ++ x ∷ []) (sym is)

  sum_next : (sum after : ℤ) → sum ≡ crossing_sum (weighed (take i own)) p → after ≡ sum +ℤ cond (is_over o.edge p) o.weight (pos 0) → after ≡ crossing_sum (weighed (take (i + 1) own)) p
  sum_next sum after so_far more = more ∙ (λ j. so_far j +ℤ cond (is_over o.edge p) o.weight (pos 0)) ∙ sym (ap (λ xs. crossing_sum (weighed xs) p) next ∙ sum-append (take i own) o p)

  pub sum_over : (sum after : ℤ) → is_over o.edge p ≡ true → sum ≡ crossing_sum (weighed (take i own)) p → after ≡ sum +ℤ o.weight → after ≡ crossing_sum (weighed (take (i + 1) own)) p
  sum_over sum after over so_far more = sum_next sum after so_far (more ∙ (λ j. sum +ℤ cond (sym over j) o.weight (pos 0)))

  pub sum_not_over : (sum after : ℤ) → is_over o.edge p ≡ false → sum ≡ crossing_sum (weighed (take i own)) p → after ≡ sum → after ≡ crossing_sum (weighed (take (i + 1) own)) p
  sum_not_over sum after over so_far same = sum_next sum after so_far (same ∙ none ∙ (λ j. sum +ℤ cond (sym over j) o.weight (pos 0)))
    where
      none : sum ≡ sum +ℤ pos 0
      none = omega (arith, lin)

module _ (f : OwnEdge → Bool) (xs : List OwnEdge) (i : ℕ) (o : OwnEdge) (below : i < length xs) (is : o ≡ get_or xs i o) where
  filter_next : filter f (take (i + 1) xs) ≡ filter f (take i xs) ++ cond (f o) (o ∷ []) []
  filter_next = ap (filter f) (take_more xs i o below ∙ ap (λ x. take i xs ++ x ∷ []) (sym is)) ∙ filter-append f (take i xs) (o ∷ [])

  pub filter_kept : (so_far after : List OwnEdge) → f o ≡ true → so_far ≡ filter f (take i xs) → after ≡ so_far ++ o ∷ [] → after ≡ filter f (take (i + 1) xs)
  filter_kept so_far after keeps before more = more ∙ ap (λ ys. ys ++ o ∷ []) before ∙ sym (filter_next ∙ ap (λ b. filter f (take i xs) ++ cond b (o ∷ []) []) keeps)

  pub filter_passed : (so_far after : List OwnEdge) → f o ≡ false → so_far ≡ filter f (take i xs) → after ≡ so_far → after ≡ filter f (take (i + 1) xs)
  filter_passed so_far after drops before same =
      same ∙ before ∙ sym (append-nil (filter f (take i xs))) ∙ sym (filter_next ∙ ap (λ b. filter f (take i xs) ++ cond b (o ∷ []) []) drops)

-- ---- numbers of the code

-- a weight more
pub weight_more : (a b : ℤ) (i : ℕ) → i + 1 < 2 ^ 63 → IsWithin i a → IsWithin 1 b → read w64 (a +ℤ read w64 b) ≡ a +ℤ b
weight_more a b i small ha hb = ap (λ z. read w64 (a +ℤ z)) (read_within w64 b 1 (lit< tt) hb) ∙ read_within w64 (a +ℤ b) (i + 1) small (within_sum ha hb)

pub root_at_most : (n m : ℕ) → n < (m + 1) * (m + 1) → root n ≤ m
root_at_most n m below =
    elim (cases_lt m (root n)) [
      | inl more ↦ (
          let at_most = (root_is n).at_most in
          let squares : (m + 1) * (m + 1) ≤ root n * root n = mul-le-mul (omega (arith, more)) (omega (arith, more)) in
          absurd (omega (arith, at_most, squares, below))
          )
      | inr not_more ↦ not_more
    ]

-- the room is the root of the least reach
pub room_is : (near : List OwnEdge) (c : Coord) (least : ℕ) → IsLeastReach near c least → IsRoom near c (root least)
room_is near c least is =
    let r = root_is least in
    let o = is.some.0 in record {
      each = mapped (λ x. x.edge) (λ e. HasHalfRoom c (root least) e) near (λ x in_n. (reach_is c (root least) x.edge).1 (let at_most = r.at_most in let le = is.each x in_n in omega (arith, at_most, le)));
      nearest = o.edge;
      among = contains-map (λ x. x.edge) near o is.some.1.0;
      no_more = λ more. (let past = (reach_is c (root least + 1) o.edge).0 more in let next = r.next_more in let same = is.some.1.1 in absurd (omega (arith, past, next, same)));
    }

-- ---- blocks

-- a sum of two numbers in range, as the code computes it
pub sum_read : (l h : ℤ) → (neg_ℤ LIMIT) ≤ℤ l → l ≤ℤ h → h ≤ℤ LIMIT → to_z w32 (of_z w32 (to_z w32 (of_z w32 l) +ℤ to_z w32 (of_z w32 h))) ≡ l +ℤ h
sum_read l h left order right = omega (arith, ints, lin)

-- a diagonal
pub diagonal_reaches : (n r : ℕ) → r ≡ root n → n ≤ (r + 1) * (r + 1)
diagonal_reaches n r is = (let next = subst (λ k. n < (k + 1) * (k + 1)) (sym is) (root_is n).next_more in omega (arith, next))

pub diagonal_small : (a b : ℕ) → a ≤ 2 ^ 29 → b ≤ 2 ^ 29 → root (a * a + b * b) ≤ 2 ^ 30 - 1
diagonal_small a b small_a small_b = root_at_most (a * a + b * b) (2 ^ 30 - 1) (
    let square_a : a * a ≤ (2 ^ 29) * (2 ^ 29) = mul-le-mul small_a small_a in
    let square_b : b * b ≤ (2 ^ 29) * (2 ^ 29) = mul-le-mul small_b small_b in
    omega (arith, square_a, square_b))

-- ---- the least reach of one more edge

pub least_next : (near : List OwnEdge) (c : Coord) (i : ℕ) (o : OwnEdge) (least here after : ℕ) → i < length near → o ≡ get_or near i o → here ≡ reach c o.edge → after ≤ least → after ≤ here
    → ((k : ℕ) (x : OwnEdge) → k < i → get_or near k x ≡ x → least ≤ reach c x.edge) → (k : ℕ) (x : OwnEdge) → k < i + 1 → get_or near k x ≡ x → after ≤ reach c x.edge
least_next near c i o least here after below is exact less less_here each k x within at =
    elim (cases_lt k i) [
      | inl before ↦ (let le = each k x before at in omega (arith, le, less))
      | inr not_before ↦ (
          let same : k ≡ i = omega (arith, within, not_before) in
          let found : x ≡ o = sym at ∙ ap (λ n. get_or near n x) same ∙ get_or_default near i x o below ∙ sym is in
          let reached : here ≡ reach c x.edge = exact ∙ ap (λ y. reach c y.edge) (sym found) in
          omega (arith, reached, less_here)
          )
    ]
