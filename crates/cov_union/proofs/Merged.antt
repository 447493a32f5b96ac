-- Where at most one member holds a point, the one member that has all their segments holds it exactly where one of them does.
use mathlib.Core.List.{[], ◌∷◌}
use Rattle.std.proofs.Common.{◌≡◌, refl, sym, ◌∙◌, ap, subst, ℕ, zero, suc, ◌+◌, ◌<◌, ◌%◌, ◌==◌, ◌&&◌, ◌⊎◌, ◌↔◌, Bool, true, false, cond, List, nat_lt, inl, inr, arith}
use Rattle.std.specs.Prelude.{All, sum_by, count_by}
use Rattle.std.proofs.lemmas.Bool.{cases_eq, cases_lt, lt-ltb}
use Rattle.std.proofs.lemmas.Bool.Decides.{Decides-eqb}
use Rattle.std.proofs.lemmas.List.Sums.{sum_by-cons}
use Rattle.cov_types.specs.declared.edge_use.EdgeUse.{EdgeUse}
use Rattle.cov_types.specs.declared.seg.Seg.{Seg}
use Rattle.cov_types.specs.Range.{IsSegInRange}
use Rattle.cov_types.specs.Uses.{ends_inside, ends_in, HasEvenEnds}
use Rattle.plane.specs.Parity.{member_holds}
use Rattle.plane.specs.Point.{Point}
use Rattle.plane.specs.Ray.{is_over}
use Rattle.crossing_laws.specs.Across.{is_same_seg, member_times}
use Rattle.arrangement.specs.Noding.{segments}
use Rattle.cov_union.specs.Rim.{merged}

pub odd_or_even : (n : ℕ) → (n % 2 ≡ 1) ⊎ (n % 2 ≡ 0)
odd_or_even n = elim (cases_eq (n % 2) 1) [
  | inl odd ↦ inl odd
  | inr other ↦ inr (omega (arith, other))
]

-- ---- sums over the uses of each member

module _ (f : EdgeUse → ℕ) where
  -- of the uses of one member
  abbrev of_member : ℕ → List EdgeUse → ℕ
  of_member m uses = sum_by (λ u. cond (u.member == m) (f u) 0) uses

  -- and of those of the members below a number
  abbrev of_below : ℕ → List EdgeUse → ℕ
  of_below n uses = sum_by (λ u. cond (nat_lt u.member n) (f u) 0) uses

  one_more : (m n x : ℕ) → cond (nat_lt m (suc n)) x 0 ≡ cond (nat_lt m n) x 0 + cond (m == n) x 0
  one_more m n x = grind arith

  below_more : (n : ℕ) (uses : List EdgeUse) → of_below (suc n) uses ≡ of_below n uses + of_member n uses
  below_more n [] = refl
  below_more n (u ∷ uses) =
      let rest = below_more n uses in
      let one = one_more u.member n (f u) in
      let a = sum_by-cons (λ (v : EdgeUse). cond (nat_lt v.member (suc n)) (f v) 0) u uses in
      let b = sum_by-cons (λ (v : EdgeUse). cond (nat_lt v.member n) (f v) 0) u uses in
      let c = sum_by-cons (λ (v : EdgeUse). cond (v.member == n) (f v) 0) u uses in
      omega (arith, rest, one, a, b, c)

  not_below : (m x : ℕ) → cond (nat_lt m 0) x 0 ≡ 0
  not_below m x = grind arith

  below_none : (uses : List EdgeUse) → of_below 0 uses ≡ 0
  below_none [] = refl
  below_none (u ∷ uses) = (let rest = below_none uses in let one = not_below u.member (f u) in let a = sum_by-cons (λ (v : EdgeUse). cond (nat_lt v.member 0) (f v) 0) u uses in omega (arith, rest, one, a))

  below_all : (n : ℕ) (uses : List EdgeUse) → All (λ u. u.member < n) uses → of_below n uses ≡ sum_by f uses
  below_all n [] below = refl
  below_all n (u ∷ uses) below =
      let rest = below_all n uses (λ k d within. below (suc k) d (omega (arith, within))) in
      let first : u.member < n = below 0 u (omega arith) in
      let one : cond (nat_lt u.member n) (f u) 0 ≡ f u = ap (λ b. cond b (f u) 0) (lt-ltb u.member n first) in
      let a = sum_by-cons (λ (v : EdgeUse). cond (nat_lt v.member n) (f v) 0) u uses in
      let b = sum_by-cons f u uses in
      omega (arith, rest, one, a, b)

  even_below : (n : ℕ) (uses : List EdgeUse) → ((m : ℕ) → m < n → of_member m uses % 2 ≡ 0) → of_below n uses % 2 ≡ 0
  even_below zero uses even = (let none = below_none uses in omega (arith, none))
  even_below (suc n) uses even =
      let rest = even_below n uses (λ m lt. even m (omega (arith, lt))) in
      let last = even n (omega arith) in
      let more = below_more n uses in
      omega (arith, rest, last, more)

  -- an odd sum has an odd one
  some_odd : (n : ℕ) (uses : List EdgeUse) → of_below n uses % 2 ≡ 1 → (m : ℕ) × ((m < n) × (of_member m uses % 2 ≡ 1))
  some_odd zero uses odd = absurd (let none = below_none uses in omega (arith, none, odd))
  some_odd (suc n) uses odd = elim (odd_or_even (of_member n uses)) [
    | inl here ↦ (n, (omega arith, here))
    | inr even ↦ (
        let more = below_more n uses in
        let rest = some_odd n uses (omega (arith, odd, even, more)) in
        let lt = rest.1.0 in
        (rest.0, (omega (arith, lt), rest.1.1))
        )
  ]

  -- and is odd where just one is
  one_odd : (n : ℕ) (uses : List EdgeUse) (m : ℕ) → m < n → of_member m uses % 2 ≡ 1 → ((k : ℕ) → of_member k uses % 2 ≡ 1 → k ≡ m) → of_below n uses % 2 ≡ 1
  one_odd zero uses m lt odd only = absurd (omega (arith, lt))
  one_odd (suc n) uses m lt odd only =
      let more = below_more n uses in
      elim (cases_eq m n) [
        | inl same ↦ (
            let here : of_member n uses % 2 ≡ 1 = subst (λ k. of_member k uses % 2 ≡ 1) same odd in
            let rest = even_below n uses (λ k below. elim (odd_or_even (of_member k uses)) [
              | inl odd_too ↦ absurd (let is = only k odd_too in omega (arith, is, same, below))
              | inr even ↦ even
            ]) in
            omega (arith, more, here, rest)
            )
        | inr other ↦ (
            let rest = one_odd n uses m (omega (arith, lt, other)) odd only in
            let here : of_member n uses % 2 ≡ 0 = elim (odd_or_even (of_member n uses)) [
              | inl odd_too ↦ absurd (let is = only n odd_too in omega (arith, is, other))
              | inr even ↦ even
            ] in
            omega (arith, more, here, rest)
            )
      ]

-- ---- the one member

sum_merged : (f g : EdgeUse → ℕ) → ((u : EdgeUse) → f (record { member = 0; seg = u.seg }) ≡ g u) → (uses : List EdgeUse) → sum_by f (merged uses) ≡ sum_by g uses
sum_merged f g same [] = refl
sum_merged f g same (u ∷ uses) =
    let rest = sum_merged f g same uses in
    let one = same u in
    let a = sum_by-cons f (record { member = 0; seg = u.seg }) (merged uses) in
    let b = sum_by-cons g u uses in
    omega (arith, rest, one, a, b)

none_merged : (f : EdgeUse → ℕ) → ((s : Seg) → f (record { member = 0; seg = s }) ≡ 0) → (uses : List EdgeUse) → sum_by f (merged uses) ≡ 0
none_merged f none [] = refl
none_merged f none (u ∷ uses) =
    let rest = none_merged f none uses in
    let one = none u.seg in
    let a = sum_by-cons f (record { member = 0; seg = u.seg }) (merged uses) in
    omega (arith, rest, one, a)

none_at : (a b x : ℕ) → ¬ (a ≡ b) → cond (a == b) x 0 ≡ 0
none_at a b x apart = grind (arith, apart)

none_and : (m : ℕ) (b : Bool) → cond {A = ℕ} ((0 == suc m) && b) 1 0 ≡ 0
none_and m true = grind arith
none_and m false = grind arith

-- no other member uses a segment
pub times_merged : (e : Seg) (uses : List EdgeUse) (m : ℕ) → member_times e (merged uses) m % 2 ≡ 1 → m ≡ 0
times_merged e uses zero odd = refl
times_merged e uses (suc m) odd = absurd (let none = none_merged (λ u. cond ((u.member == suc m) && is_same_seg e u.seg) 1 0) (λ s. none_and m (is_same_seg e s)) uses in omega (arith, none, odd))

pub only_holder : (uses : List EdgeUse) (p : Point) (m : ℕ) → member_holds (merged uses) m p ≡ true → m ≡ 0
only_holder uses p zero holds = refl
only_holder uses p (suc m) holds =
    let none = none_merged (λ u. cond ((u.member == suc m) && is_over u.seg p) 1 0) (λ s. none_and m (is_over s p)) uses in
    let odd = (Decides-eqb (count_by (λ u. (u.member == suc m) && is_over u.seg p) (merged uses) % 2) 1).0 holds in
    absurd (omega (arith, none, odd))

pub merged_segments : (uses : List EdgeUse) → segments (merged uses) ≡ segments uses
merged_segments [] = refl
merged_segments (u ∷ uses) = λ i. u.seg ∷ merged_segments uses i

pub merged_in_range : (uses : List EdgeUse) → All (λ u. IsSegInRange u.seg) uses → All (λ u. IsSegInRange u.seg) (merged uses)
merged_in_range [] each k d within = absurd (omega (arith, within))
merged_in_range (u ∷ uses) each zero d within = each 0 u (omega arith)
merged_in_range (u ∷ uses) each (suc k) d within = merged_in_range uses (λ j e inside. each (suc j) e (omega (arith, inside))) k d (omega (arith, within))

pub merged_below : (uses : List EdgeUse) → All (λ u. u.member < 1) (merged uses)
merged_below [] k d within = absurd (omega (arith, within))
merged_below (u ∷ uses) zero d within = omega arith
merged_below (u ∷ uses) (suc k) d within = merged_below uses k d (omega (arith, within))

pub merged_even : (n : ℕ) (uses : List EdgeUse) → All (λ u. u.member < n) uses → HasEvenEnds uses → HasEvenEnds (merged uses)
merged_even n uses below even inside zero =
    let ends : EdgeUse → ℕ = λ u. ends_inside inside u.seg in
    let all = below_all ends n uses below in
    let sum = even_below ends n uses (λ m lt. even inside m) in
    let same : ends_in inside 0 (merged uses) ≡ sum_by ends uses = sum_merged (λ u. cond (u.member == 0) (ends_inside inside u.seg) 0) ends (λ u. refl) uses in
    omega (arith, all, sum, same)
merged_even n uses below even inside (suc m) = (let none = none_merged (λ u. cond (u.member == suc m) (ends_inside inside u.seg) 0) (λ s. none_at 0 (suc m) (ends_inside inside s) (λ same. omega (arith, same))) uses in omega (arith, none))

module _ (uses : List EdgeUse) (p : Point) where
  abbrev over : EdgeUse → ℕ
  over u = cond (is_over u.seg p) 1 0

  split : (a b : Bool) → cond {A = ℕ} (a && b) 1 0 ≡ cond a (cond b 1 0) 0
  split true b = refl
  split false b = refl

  counted : (m : ℕ) → count_by (λ u. (u.member == m) && is_over u.seg p) uses ≡ of_member over m uses
  counted m = λ i. sum_by (λ u. split (u.member == m) (is_over u.seg p) i) uses

  counted_once : count_by (λ u. (u.member == 0) && is_over u.seg p) (merged uses) ≡ sum_by over uses
  counted_once = sum_merged (λ u. cond ((u.member == 0) && is_over u.seg p) 1 0) over (λ u. refl) uses

  odd_of : (m : ℕ) → (member_holds uses m p ≡ true) ↔ (of_member over m uses % 2 ≡ 1)
  odd_of m = (
    λ holds. sym (ap (λ k. k % 2) (counted m)) ∙ (Decides-eqb (count_by (λ u. (u.member == m) && is_over u.seg p) uses % 2) 1).0 holds,
    λ odd. (Decides-eqb (count_by (λ u. (u.member == m) && is_over u.seg p) uses % 2) 1).1 (ap (λ k. k % 2) (counted m) ∙ odd),
  )

  odd_of_all : (member_holds (merged uses) 0 p ≡ true) ↔ (sum_by over uses % 2 ≡ 1)
  odd_of_all = (
    λ holds. sym (ap (λ k. k % 2) counted_once) ∙ (Decides-eqb (count_by (λ u. (u.member == 0) && is_over u.seg p) (merged uses) % 2) 1).0 holds,
    λ odd. (Decides-eqb (count_by (λ u. (u.member == 0) && is_over u.seg p) (merged uses) % 2) 1).1 (ap (λ k. k % 2) counted_once ∙ odd),
  )

  module _ (n : ℕ) (below : All (λ u. u.member < n) uses) where
    pub some_holder : member_holds (merged uses) 0 p ≡ true → (m : ℕ) × ((m < n) × (member_holds uses m p ≡ true))
    some_holder holds =
        let found = some_odd over n uses (ap (λ k. k % 2) (below_all over n uses below) ∙ odd_of_all.0 holds) in
        (found.0, (found.1.0, (odd_of found.0).1 found.1.1))

    none_past : (m : ℕ) → n ≡ m ⊎ n < m → of_member over m uses % 2 ≡ 1 → ⊥
    none_past m past odd = by uses below odd
      where
        by : (us : List EdgeUse) → All (λ u. u.member < n) us → of_member over m us % 2 ≡ 1 → ⊥
        by [] low is = absurd (omega (arith, is))
        by (u ∷ us) low is =
            let first : u.member < n = low 0 u (omega arith) in
            let apart : ¬ (u.member ≡ m) = λ same. elim past [ inl e ↦ omega (arith, first, same, e) | inr lt ↦ omega (arith, first, same, lt) ] in
            let zero_here : cond (u.member == m) (over u) 0 ≡ 0 = none_at u.member m (over u) apart in
            let a = sum_by-cons (λ (v : EdgeUse). cond (v.member == m) (over v) 0) u us in
            by us (λ k d within. low (suc k) d (omega (arith, within))) (omega (arith, a, zero_here, is))

    pub holder_merged : ((i j : ℕ) → member_holds uses i p ≡ true → member_holds uses j p ≡ true → i ≡ j) → (m : ℕ) → member_holds uses m p ≡ true → member_holds (merged uses) 0 p ≡ true
    holder_merged one m holds =
        let odd = (odd_of m).0 holds in
        let lt : m < n = elim (cases_lt m n) [
          | inl below_n ↦ below_n
          | inr past ↦ absurd (none_past m (elim (cases_eq n m) [ inl e ↦ inl e | inr other ↦ inr (omega (arith, past, other)) ]) odd)
        ] in
        odd_of_all.1 (ap (λ k. k % 2) (sym (below_all over n uses below)) ∙ one_odd over n uses m lt odd (λ k odd_too. one k m ((odd_of k).1 odd_too) holds))
