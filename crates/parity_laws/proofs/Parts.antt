-- The uses from one place to before another: what they hold.
use Rattle.std.proofs.Common.{◌≡◌, refl, sym, ◌∙◌, ap, ap₂, subst, ℕ, zero, suc, ◌+◌, ◌-◌, ◌<◌, ◌≤◌, ◌%◌, ◌==◌, Bool, true, false, cond, List, [], ◌∷◌, ◌++◌, length, get_or, take, drop, count_by, arith, inl, inr, ◌⊎◌, pos, length-drop, take-add}
use Rattle.std.specs.Prelude.{slice_range}
use Rattle.std.proofs.lemmas.Bool.{lt-ltb, le-ltb, eqb-true, eqb-false, cases_Bool, cases_lt}
use Rattle.std.proofs.lemmas.List.{take_more, get_or-drop, drop-drop}
use Rattle.std.proofs.lemmas.List.Sums.{sum_by-append, sum_by_push}
use Rattle.cov_types.specs.Rings.{IsRing}
use Rattle.cov_types.specs.declared.coord.Coord.{Coord}
use Rattle.cov_types.specs.declared.edge_use.EdgeUse.{EdgeUse}
use Rattle.cov_types.specs.declared.ring_run.RingRun.{RingRun}
use Rattle.parity_laws.specs.Paths.{differ, is_started}
use Rattle.parity_laws.specs.Runs.{part_holds, run_holds, place_in, AreHigher}
use Rattle.parity_laws.proofs.Path.{differ-same, differ-chain, over_higher}
use Rattle.plane.specs.Point.{Point}
use Rattle.plane.specs.Ray.{is_over}

odd_cases : (n : ℕ) → (n % 2 ≡ 0) ⊎ (n % 2 ≡ 1)
odd_cases n =
    elim (cases_Bool (n % 2 == 1)) [
      | inl odd ↦ inr (eqb-true (n % 2) 1 odd)
      | inr even ↦ inl (let apart = eqb-false (n % 2) 1 even in omega arith)
    ]

sum_of : (m n a b c : ℕ) → m % 2 ≡ a → n % 2 ≡ b → (m + n) % 2 ≡ c → (c == 1) ≡ differ (a == 1) (b == 1) → ((m + n) % 2 == 1) ≡ differ (m % 2 == 1) (n % 2 == 1)
sum_of m n a b c e f g h = ap (λ k. k == 1) g ∙ h ∙ sym (ap₂ (λ k l. differ (k == 1) (l == 1)) e f)

-- whether a number is odd, for two numbers added
pub odd_sum : (m n : ℕ) → ((m + n) % 2 == 1) ≡ differ (m % 2 == 1) (n % 2 == 1)
odd_sum m n =
    elim (odd_cases m) [
      | inl even_m ↦ elim (odd_cases n) [
        | inl even_n ↦ sum_of m n 0 0 0 even_m even_n (omega arith) refl
        | inr odd_n ↦ sum_of m n 0 1 1 even_m odd_n (omega arith) refl
      ]
      | inr odd_m ↦ elim (odd_cases n) [
        | inl even_n ↦ sum_of m n 1 0 1 odd_m even_n (omega arith) refl
        | inr odd_n ↦ sum_of m n 1 1 0 odd_m odd_n (omega arith) refl
      ]
    ]

pub odd_one : (t : Bool) → (cond t 1 0 % 2 == 1) ≡ t
odd_one true = refl
odd_one false = refl

differ-false : (a : Bool) → differ a false ≡ a
differ-false true = refl
differ-false false = refl

-- ---- one use, and two parts

-- no use is before the first
pub part-empty : (uses : List EdgeUse) (from to : ℕ) (p : Point) → to ≤ from → part_holds uses from to p ≡ false
part-empty uses from to p h =
    let none : to - from ≡ 0 = omega arith in
    ap (λ n. count_by (λ (u : EdgeUse). is_over u.seg p) (take n (drop from uses)) % 2 == 1) none

-- one use more
slice_range-more : (uses : List EdgeUse) (from to : ℕ) (d : EdgeUse) → from ≤ to → to < length uses → slice_range uses from (to + 1) ≡ slice_range uses from to ++ get_or uses to d ∷ []
slice_range-more uses from to d h within =
    let n = to - from in
    let one : (to + 1) - from ≡ n + 1 = omega arith in
    let back : from + n ≡ to = omega arith in
    let inside : n < length (drop from uses) = omega (arith, length-drop from uses) in
    ap (λ k. take k (drop from uses)) one
    ∙ take_more (drop from uses) n d inside
    ∙ ap (λ u. take n (drop from uses) ++ u ∷ []) (get_or-drop from uses n d ∙ ap (λ k. get_or uses k d) back)

split_range : (uses : List EdgeUse) (from middle to : ℕ) → from ≤ middle → middle ≤ to → slice_range uses from to ≡ slice_range uses from middle ++ slice_range uses middle to
split_range uses from middle to h k =
    let n = middle - from in
    let m = to - middle in
    let rest = drop from uses in
    let long : to - from ≡ n + m = omega arith in
    let back : from + n ≡ middle = omega arith in
    ap (λ j. take j rest) long ∙ take-add n m rest ∙ ap (λ l. take n rest ++ take m l) (drop-drop n from uses ∙ ap (λ j. drop j uses) back)

pub part-more : (uses : List EdgeUse) (from to : ℕ) (p : Point) (d : EdgeUse) → from ≤ to → to < length uses
    → part_holds uses from (to + 1) p ≡ differ (part_holds uses from to p) (is_over (get_or uses to d).seg p)
part-more uses from to p d h within =
    let over : EdgeUse → ℕ = λ u. cond (is_over u.seg p) 1 0 in
    let part = count_by (λ (u : EdgeUse). is_over u.seg p) (slice_range uses from to) in
    let last = is_over (get_or uses to d).seg p in
    let more : count_by (λ (u : EdgeUse). is_over u.seg p) (slice_range uses from (to + 1)) ≡ part + cond last 1 0 =
    ap (count_by (λ (u : EdgeUse). is_over u.seg p)) (slice_range-more uses from to d h within) ∙ sum_by_push over (slice_range uses from to) (get_or uses to d) in
    ap (λ n. n % 2 == 1) more ∙ odd_sum part (cond last 1 0) ∙ ap (differ (part % 2 == 1)) (odd_one last)

-- two parts
pub part-joined : (uses : List EdgeUse) (from middle to : ℕ) (p : Point) → from ≤ middle → middle ≤ to → part_holds uses from to p ≡ differ (part_holds uses from middle p) (part_holds uses middle to p)
part-joined uses from middle to p h k =
    let over : EdgeUse → Bool = λ u. is_over u.seg p in
    let all : slice_range uses from to ≡ slice_range uses from middle ++ slice_range uses middle to = split_range uses from middle to h k in
    ap (λ us. count_by over us % 2 == 1) all
    ∙ ap (λ n. n % 2 == 1) (sum_by-append (λ (u : EdgeUse). cond (over u) 1 0) (slice_range uses from middle) (slice_range uses middle to))
    ∙ odd_sum (count_by over (slice_range uses from middle)) (count_by over (slice_range uses middle to))

-- ---- a part with no use over the point

none_over : (uses : List EdgeUse) (from n : ℕ) (p : Point) → from + n ≤ length uses → ((k : ℕ) (d : EdgeUse) → from ≤ k → k < from + n → is_over (get_or uses k d).seg p ≡ false)
    → part_holds uses from (from + n) p ≡ false
none_over [] from zero p h none = part-empty [] from (from + zero) p (omega arith)
none_over [] from (suc n) p h none = absurd (omega (arith, h))
none_over (u ∷ uses) from zero p h none = part-empty (u ∷ uses) from (from + zero) p (omega arith)
none_over (u ∷ uses) from (suc n) p h none =
    let all = u ∷ uses in
    let step : from + suc n ≡ (from + n) + 1 = omega arith in
    let before = none_over all from n p (omega (arith, h)) (λ k d low high. none k d low (omega (arith, high))) in
    ap (λ k. part_holds all from k p) step
    ∙ part-more all from (from + n) p u (omega arith) (omega (arith, h))
    ∙ ap₂ differ before (none (from + n) u (omega arith) (omega arith))

pub part-none_over : (uses : List EdgeUse) (from to : ℕ) (p : Point) → to ≤ length uses → ((k : ℕ) (d : EdgeUse) → from ≤ k → k < to → is_over (get_or uses k d).seg p ≡ false)
    → part_holds uses from to p ≡ false
part-none_over uses from to p h none =
    elim (cases_lt from to) [
      | inl some ↦
          let end : from + (to - from) ≡ to = omega arith in
          subst (λ k. part_holds uses from k p ≡ false) end (none_over uses from (to - from) p (omega (arith, h)) (λ k d low high. none k d low (omega (arith, high))))
      | inr empty ↦ part-empty uses from to p empty
    ]

-- ---- a part of a ring's run that is higher than the point

place_in-within : (run : RingRun) (k : ℕ) → k < run.to → place_in run k ≡ k
place_in-within run k h = ap (λ b. cond b k run.from) (lt-ltb k run.to h)

higher_from : (uses : List EdgeUse) (starts : List Coord) (run : RingRun) (from n : ℕ) (p : Point) (u : EdgeUse) (d : Coord) → IsRing uses starts run → run.from ≤ from → from + n ≤ run.to
    → AreHigher uses from (from + n) p
    → part_holds uses from (from + n) p ≡ differ (is_started (get_or starts (place_in run from) d) p) (is_started (get_or starts (place_in run (from + n)) d) p)
higher_from uses starts run from zero p u d ring low high above =
    let same : from + zero ≡ from = omega arith in
    part-empty uses from (from + zero) p (omega arith)
    ∙ sym (differ-same (is_started (get_or starts (place_in run from) d) p))
    ∙ ap (λ k. differ (is_started (get_or starts (place_in run from) d) p) (is_started (get_or starts (place_in run k) d) p)) (sym same)
higher_from uses starts run from (suc n) p u d ring low high above =
    let k = from + n in
    let step : from + suc n ≡ k + 1 = omega arith in
    let began : Coord → Bool = λ c. is_started c p in
    let start : ℕ → Coord = λ j. get_or starts (place_in run j) d in
    let before = higher_from uses starts run from n p u d ring low (omega (arith, high)) (λ j e l h. above j e l (omega (arith, h))) in
    let edge = above k u (omega arith) (omega arith) in
    let inside : k < run.to = omega arith in
    let ends = ring.closed k u d (omega arith) inside in
    let here : get_or starts k d ≡ start k = ap (λ j. get_or starts j d) (sym (place_in-within run k inside)) in
    let over = over_higher (get_or uses k u).seg (get_or starts k d) (start (k + 1)) p edge.0 ends edge.1 in
    ap (λ j. part_holds uses from j p) step
    ∙ part-more uses from k p u (omega arith) (omega (arith, ring.uses_end))
    ∙ ap₂ differ before (over ∙ ap (λ c. differ (began c) (began (start (k + 1)))) here)
    ∙ differ-chain (began (start from)) (began (start k)) (began (start (k + 1)))
    ∙ ap (λ j. differ (began (start from)) (began (start j))) (sym step)

-- such a part holds the point where just one of its ends is started
pub part-higher : (uses : List EdgeUse) (starts : List Coord) (run : RingRun) (from to : ℕ) (p : Point) (d : Coord) → IsRing uses starts run → run.from ≤ from → from ≤ to → to ≤ run.to
    → AreHigher uses from to p
    → part_holds uses from to p ≡ differ (is_started (get_or starts (place_in run from) d) p) (is_started (get_or starts (place_in run to) d) p)
part-higher [] starts run from to p d ring low h high above = absurd (omega (arith, ring.some, ring.uses_end))
part-higher (u ∷ uses) starts run from to p d ring low h high above =
    let end : from + (to - from) ≡ to = omega arith in
    subst (λ k. part_holds (u ∷ uses) from k p ≡ differ (is_started (get_or starts (place_in run from) d) p) (is_started (get_or starts (place_in run k) d) p)) end
    (higher_from (u ∷ uses) starts run from (to - from) p u d ring low (omega arith) (λ k e l g. above k e l (omega (arith, g))))

-- so a whole run does not
pub run-higher : (uses : List EdgeUse) (starts : List Coord) (run : RingRun) (p : Point) → IsRing uses starts run → AreHigher uses run.from run.to p → run_holds uses p run ≡ false
run-higher uses starts run p ring above = higher_run uses starts run p ring above
  where
    higher_run : (us : List EdgeUse) (ss : List Coord) (r : RingRun) (q : Point) → IsRing us ss r → AreHigher us r.from r.to q → run_holds us q r ≡ false
    higher_run us ss r q h k =
        let origin : Coord = record { x = pos 0; y = pos 0 } in
        let began : ℕ → Bool = λ j. is_started (get_or ss j origin) q in
        let first : place_in r r.from ≡ r.from = place_in-within r r.from h.some in
        let last : place_in r r.to ≡ r.from = ap (λ b. cond b r.to r.from) (le-ltb r.to r.to (omega arith)) in
        part-higher us ss r r.from r.to q origin h (omega arith) (omega (arith, h.some)) (omega arith) k
        ∙ ap₂ (λ i j. differ (began i) (began j)) first last
        ∙ differ-same (began r.from)
