-- An odd number of a triangle's sides over a point off them: the point is inside.
use mathlib.Core.List.{[], ◌∷◌}
use Rattle.std.proofs.Common.{◌≡◌, ◌⊎◌, inl, inr, refl, sym, ◌∙◌, ap, subst, ◌^◌, ℕ, ◌+◌, ◌%◌, Bool, true, false, true≢false, cond, ℤ, pos, negsuc, neg_ℤ, ◌+ℤ◌, ◌-ℤ◌, ◌*ℤ◌, ◌<ℤ◌, ◌≤ℤ◌, ⊎_elim, arith}
use Rattle.std.specs.Prelude.{sum_by, count_by}
use Rattle.std.proofs.lemmas.Bool.Decides.{Decides-eqb}
use Rattle.std.proofs.lemmas.List.Sums.{sum_by-cons}
use Rattle.integer_laws.proofs.Ring.{lin, by_ring, by_one, Var, Lit, ◌⊕◌, ◌⊖◌, ◌⊗◌, Neg, mul_comm, neg_mul, zero_mul}
use Rattle.integer_laws.proofs.Compare.{lt_or_ge, le_of_lt, trichotomy}
use Rattle.integer_laws.proofs.Order.{lt_mul}
use Rattle.integer_laws.proofs.Sign.{positive_times_positive, positive_times_negative, negative_times_positive, negative_times_negative, nonpos_times_nonpos, nonneg_times_nonpos, positive_factor, negative_factor, positive_cofactor, negative_cofactor}
use Rattle.cov_types.specs.declared.coord.Coord.{Coord}
use Rattle.cov_types.specs.declared.seg.Seg.{Seg}
use Rattle.plane.specs.Point.{Point, at_coord}
use Rattle.plane.specs.Ray.{sweep, is_over, Rises}
use Rattle.plane.specs.Segment.{IsOn, side}
use Rattle.plane.proofs.Forms.{form}
use Rattle.plane.proofs.Over.{IsOver, over-is}
use Rattle.plane.proofs.Points.{d_positive}
use Rattle.plane.proofs.Sides.{side-form}
use Rattle.plane.proofs.Sweeps.{rises-in_range}
use Rattle.plane.specs.Parity.{holds}
use Rattle.greedy_run.specs.Run.{Triangle}
use Rattle.removal_laws.specs.Ear.{AreThreeSides, IsStrictlyWithin}
use Rattle.removal_laws.proofs.Cuts.{depth}
use Rattle.removal_laws.proofs.Inside.{left_of, left-exchanged, area, to_a, to_b, to_c, a_term, b_term, c_term, split-x, split-y, split-d, strictly_by}
use Rattle.removal_laws.proofs.Pasch.{IsUpwards, upwards_of, on_by_sweep, mirror}

-- ---- how many of three

-- an odd number of the three tests pass
abbrev pub IsOddOf : Bool → Bool → Bool → Type 0
IsOddOf x y z = (cond {A = ℕ} x 1 0 + cond {A = ℕ} y 1 0 + cond {A = ℕ} z 1 0) % 2 ≡ 1

odd_turned : (x y z : Bool) → IsOddOf x y z → IsOddOf y z x
odd_turned x y z h = ap (λ n. n % 2) (omega arith) ∙ h

odd_exchanged : (x y z : Bool) → IsOddOf x y z → IsOddOf y x z
odd_exchanged x y z h = ap (λ n. n % 2) (omega arith) ∙ h

-- one of the two tests passes
abbrev IsOneOf : Bool → Bool → Type 0
IsOneOf x y = ((x ≡ true) × (y ≡ false)) ⊎ ((x ≡ false) × (y ≡ true))

one_of : (x y z : Bool) → IsOddOf x y z → z ≡ false → IsOneOf x y
one_of true true z h e = absurd (let c = ap (λ b. cond {A = ℕ} b 1 0) e in omega arith)
one_of true false z h e = inl (refl, refl)
one_of false true z h e = inr (refl, refl)
one_of false false z h e = absurd (let c = ap (λ b. cond {A = ℕ} b 1 0) e in omega arith)

-- ---- one side of all three lines

-- p is strictly on the left of the three sides, or strictly on the right of all
abbrev pub IsOneSide : Triangle → Point → Type 0
IsOneSide t p =
    ((pos 0 <ℤ depth (to_a t) p) × (pos 0 <ℤ depth (to_b t) p) × (pos 0 <ℤ depth (to_c t) p))
    ⊎ ((depth (to_a t) p <ℤ pos 0) × (depth (to_b t) p <ℤ pos 0) × (depth (to_c t) p <ℤ pos 0))

abbrev turned : Triangle → Triangle
turned t = record { a = t.b; b = t.c; c = t.a }

one_side-turned : (t : Triangle) (p : Point) → IsOneSide (turned t) p → IsOneSide t p
one_side-turned t p (inl h) = inl (h.2, h.0, h.1)
one_side-turned t p (inr h) = inr (h.2, h.0, h.1)

one_side-mirror : (t : Triangle) (p : Point) → IsOneSide (mirror t) p → IsOneSide t p
one_side-mirror t p h =
    let a = left-exchanged t.b t.c p in
    let b = left-exchanged t.c t.a p in
    let c = left-exchanged t.a t.b p in
    elim h [
      | inl up ↦ inr ((let g = up.2 in omega (arith, lin)), (let g = up.1 in omega (arith, lin)), (let g = up.0 in omega (arith, lin)))
      | inr down ↦ inl ((let g = down.2 in omega (arith, lin)), (let g = down.1 in omega (arith, lin)), (let g = down.0 in omega (arith, lin)))
    ]

-- ---- the sides and the sweep values

-- how far the sweep value of a corner is past that of p
abbrev past : Coord → Point → ℤ
past v p = (sweep (at_coord v) *ℤ pos p.d) -ℤ sweep p

-- the distances of the corners past p along the sweep, weighted by the sides, balance
sides_balance : (t : Triangle) (p : Point) → ((depth (to_a t) p *ℤ past t.a p) +ℤ (depth (to_b t) p *ℤ past t.b p)) +ℤ (depth (to_c t) p *ℤ past t.c p) ≡ pos 0
unfolding form sweep
sides_balance t p =
    by_ring (t.a.x ∷ t.a.y ∷ t.b.x ∷ t.b.y ∷ t.c.x ∷ t.c.y ∷ p.x ∷ p.y ∷ pos p.d ∷ pos (2 ^ 30) ∷ [])
    ((a_term ⊗ ((Var 9 ⊗ Var 0 ⊕ Var 1) ⊗ Var 8 ⊖ (Var 9 ⊗ Var 6 ⊕ Var 7)) ⊕ b_term ⊗ ((Var 9 ⊗ Var 2 ⊕ Var 3) ⊗ Var 8 ⊖ (Var 9 ⊗ Var 6 ⊕ Var 7)))
    ⊕ c_term ⊗ ((Var 9 ⊗ Var 4 ⊕ Var 5) ⊗ Var 8 ⊖ (Var 9 ⊗ Var 6 ⊕ Var 7))) (Lit (pos 0)) refl

-- two numbers have one strict sign
abbrev HaveOneSign : ℤ → ℤ → Type 0
HaveOneSign a b = ((pos 0 <ℤ a) × (pos 0 <ℤ b)) ⊎ ((a <ℤ pos 0) × (b <ℤ pos 0))

abbrev AreOfOneSign : ℤ → ℤ → ℤ → Type 0
AreOfOneSign a b c = ((pos 0 <ℤ a) × (pos 0 <ℤ b) × (pos 0 <ℤ c)) ⊎ ((a <ℤ pos 0) × (b <ℤ pos 0) × (c <ℤ pos 0))

-- over plain variables: p is between the first corner and the second
first_window : (a b c u v w : ℤ) → ((a *ℤ u) +ℤ (b *ℤ v)) +ℤ (c *ℤ w) ≡ pos 0 → u ≤ℤ pos 0 → pos 0 <ℤ v → pos 0 <ℤ w → HaveOneSign b c → AreOfOneSign a b c
first_window a b c u v w e hu hv hw (inl (hb, hc)) =
    let second = positive_times_positive hb hv in
    let third = positive_times_positive hc hw in
    inl (positive_cofactor u a hu (omega (arith, lin, mul_comm u a)), hb, hc)
first_window a b c u v w e hu hv hw (inr (hb, hc)) =
    let second = negative_times_positive hb hv in
    let third = negative_times_positive hc hw in
    inr (negative_cofactor u a hu (omega (arith, lin, mul_comm u a)), hb, hc)

-- and between the second and the third
last_window : (a b c u v w : ℤ) → ((a *ℤ u) +ℤ (b *ℤ v)) +ℤ (c *ℤ w) ≡ pos 0 → u <ℤ pos 0 → v ≤ℤ pos 0 → pos 0 <ℤ w → HaveOneSign a b → AreOfOneSign a b c
last_window a b c u v w e hu hv hw (inl (ha, hb)) =
    let first = positive_times_negative ha hu in
    let second = nonneg_times_nonpos {x = b} {y = v} (le_of_lt hb) hv in
    inl (ha, hb, positive_factor w c (le_of_lt hw) (omega (arith, lin, mul_comm w c)))
last_window a b c u v w e hu hv hw (inr (ha, hb)) =
    let first = negative_times_negative ha hu in
    let second = nonpos_times_nonpos {x = b} {y = v} (le_of_lt hb) hv in
    inr (ha, hb, negative_factor w c (le_of_lt hw) (omega (arith, lin, mul_comm w c)))

-- ---- a side and a point in its window, or out of it

bool_cases : (b : Bool) → (b ≡ true) ⊎ (b ≡ false)
bool_cases true = inl refl
bool_cases false = inr refl

side_upwards : (a b : Coord) (e : Seg) (p : Point) → IsUpwards a b e → side e p ≡ depth (left_of a b) p
side_upwards a b e p is = side-form e p ∙ (λ i. depth (left_of (is.lo i) (is.hi i)) p)

record IsTest (over : Bool) (at : ℤ) : Type 0 where
  yes : over ≡ true → at <ℤ pos 0
  no : over ≡ false → pos 0 <ℤ at

in_window : (a b : Coord) (e : Seg) (p : Point) → Rises e → IsUpwards a b e → ¬ IsOn e p → past a p ≤ℤ pos 0 → pos 0 <ℤ past b p → IsTest (is_over e p) (depth (left_of a b) p)
in_window a b e p up is off from to =
    let s = side_upwards a b e p is in
    record {
      yes = λ h. (let below = ((over-is e p).0 h).below in omega (arith, lin));
      no = λ h. elim (trichotomy (depth (left_of a b) p) (pos 0)) [
        | inl right ↦ absurd (
            let is_over_p : IsOver e p = record {
              from = subst (λ (v : Coord). (sweep (at_coord v) *ℤ pos p.d) ≤ℤ sweep p) (sym is.lo) (omega (arith, lin));
              to = subst (λ (v : Coord). sweep p <ℤ (sweep (at_coord v) *ℤ pos p.d)) (sym is.hi) (omega (arith, lin));
              below = omega (arith, lin);
            } in
            true≢false (sym ((over-is e p).1 is_over_p) ∙ h)
            )
        | inr others ↦ elim others [
          | inl on ↦ absurd (off (on_by_sweep a b e p up is on (omega (arith, lin)) (omega (arith, lin))))
          | inr left ↦ left
        ]
      ];
    }

out_of_window : (a b : Coord) (e : Seg) (p : Point) → IsUpwards a b e → (pos 0 <ℤ past a p) ⊎ (past b p ≤ℤ pos 0) → is_over e p ≡ false
out_of_window a b e p is out =
    elim (bool_cases (is_over e p)) [
      | inr not_over ↦ not_over
      | inl over ↦ absurd (
          let is_over_p = (over-is e p).0 over in
          let from = subst (λ (v : Coord). (sweep (at_coord v) *ℤ pos p.d) ≤ℤ sweep p) is.lo is_over_p.from in
          let to = subst (λ (v : Coord). sweep p <ℤ (sweep (at_coord v) *ℤ pos p.d)) is.hi is_over_p.to in
          ⊎_elim (λ (h : pos 0 <ℤ past a p). omega (arith, lin)) (λ (h : past b p ≤ℤ pos 0). omega (arith, lin)) out
          )
    ]

-- ---- sides in the order of the sweep

past_grows : (a b : Coord) (p : Point) → sweep (at_coord a) <ℤ sweep (at_coord b) → past a p <ℤ past b p
past_grows a b p h = let l = lt_mul (pos p.d) (d_positive p) h in omega (arith, lin)

-- of the two sides whose window has p one is over it
first_signs : (x z : Bool) (c b back : ℤ) → IsTest x c → IsTest z back → b ≡ neg_ℤ back → IsOneOf x z → HaveOneSign b c
first_signs x z c b back tx tz e (inl (hx, hz)) = let up = tx.yes hx in let down = tz.no hz in inr (omega (arith, lin), up)
first_signs x z c b back tx tz e (inr (hx, hz)) = let up = tx.no hx in let down = tz.yes hz in inl (omega (arith, lin), up)

last_signs : (y z : Bool) (a b back : ℤ) → IsTest y a → IsTest z back → b ≡ neg_ℤ back → IsOneOf y z → HaveOneSign a b
last_signs y z a b back ty tz e (inl (hy, hz)) = let up = ty.yes hy in let down = tz.no hz in inr (up, omega (arith, lin))
last_signs y z a b back ty tz e (inr (hy, hz)) = let up = ty.no hy in let down = tz.yes hz in inl (up, omega (arith, lin))

none_odd : (x y z : Bool) → IsOddOf x y z → x ≡ false → y ≡ false → z ≡ false → ⊥
none_odd x y z h hx hy hz =
    let cx = ap (λ b. cond {A = ℕ} b 1 0) hx in
    let cy = ap (λ b. cond {A = ℕ} b 1 0) hy in
    let cz = ap (λ b. cond {A = ℕ} b 1 0) hz in
    omega arith

sorted : (u v w : Coord) (e f g : Seg) (p : Point) → Rises e → Rises f → Rises g → IsUpwards u v e → IsUpwards v w f → IsUpwards u w g
    → ¬ IsOn e p → ¬ IsOn f p → ¬ IsOn g p → IsOddOf (is_over e p) (is_over f p) (is_over g p) → IsOneSide (record { a = u; b = v; c = w }) p
sorted u v w e f g p up_e up_f up_g is_e is_f is_g off_e off_f off_g odd =
    let t : Triangle = record { a = u; b = v; c = w } in
    let balance = sides_balance t p in
    let first = past_grows u v p is_e.rises in
    let second = past_grows v w p is_f.rises in
    let back = left-exchanged u w p in
    elim (lt_or_ge (pos 0) (past u p)) [
      | inl before ↦ absurd (none_odd _ _ _ odd (out_of_window u v e p is_e (inl before)) (out_of_window v w f p is_f (inl (omega (arith, lin)))) (out_of_window u w g p is_g (inl before)))
      | inr from ↦ elim (lt_or_ge (pos 0) (past v p)) [
        | inl below ↦ (
            let last : pos 0 <ℤ past w p = omega (arith, lin) in
            let one = one_of (is_over e p) (is_over g p) (is_over f p) (odd_exchanged (is_over g p) (is_over e p) (is_over f p) (odd_turned (is_over f p) (is_over g p) (is_over e p)
            (odd_turned (is_over e p) (is_over f p) (is_over g p) odd))) (out_of_window v w f p is_f (inl below)) in
            first_window _ _ _ _ _ _ balance from below last
            (first_signs (is_over e p) (is_over g p) _ _ _ (in_window u v e p up_e is_e off_e from below) (in_window u w g p up_g is_g off_g from last) back one)
            )
        | inr past_v ↦ elim (lt_or_ge (pos 0) (past w p)) [
          | inl below ↦ (
              let one = one_of (is_over f p) (is_over g p) (is_over e p) (odd_turned (is_over e p) (is_over f p) (is_over g p) odd) (out_of_window u v e p is_e (inr past_v)) in
              last_window _ _ _ _ _ _ balance (omega (arith, lin)) past_v below
              (last_signs (is_over f p) (is_over g p) _ _ _ (in_window v w f p up_f is_f off_f past_v below) (in_window u w g p up_g is_g off_g from below) back one)
              )
          | inr past_w ↦ absurd (none_odd _ _ _ odd (out_of_window u v e p is_e (inr past_v)) (out_of_window v w f p is_f (inr past_w)) (out_of_window u w g p is_g (inr past_w)))
        ]
      ]
    ]

-- ---- six orders

odd_reversed : (x y z : Bool) → IsOddOf x y z → IsOddOf z y x
odd_reversed x y z h = ap (λ n. n % 2) (omega arith) ∙ h

odd_last : (x y z : Bool) → IsOddOf x y z → IsOddOf x z y
odd_last x y z h = ap (λ n. n % 2) (omega arith) ∙ h

pub one_side : (t : Triangle) (ab bc ac : Seg) → AreThreeSides t ab bc ac → (p : Point) → ¬ IsOn ab p → ¬ IsOn bc p → ¬ IsOn ac p
    → IsOddOf (is_over ab p) (is_over bc p) (is_over ac p) → IsOneSide t p
one_side t ab bc ac sides p off_ab off_bc off_ac odd =
    let up_ab = rises-in_range ab sides.two.first_in_range in
    let up_bc = rises-in_range bc sides.two.second_in_range in
    let up_ac = rises-in_range ac sides.third_in_range in
    let x = is_over ab p in
    let y = is_over bc p in
    let z = is_over ac p in
    let back = turned (turned t) in
    elim (upwards_of t.a t.b ab up_ab sides.two.first) [
      | inl b_a ↦ elim (upwards_of t.b t.c bc up_bc sides.two.second) [
        | inl c_b ↦ elim (upwards_of t.a t.c ac up_ac sides.third) [
          | inl c_a ↦ sorted t.a t.b t.c ab bc ac p up_ab up_bc up_ac b_a c_b c_a off_ab off_bc off_ac odd
          | inr a_c ↦ absurd (let h = b_a.rises in let k = c_b.rises in let l = a_c.rises in omega (arith, lin))
        ]
        | inr b_c ↦ elim (upwards_of t.a t.c ac up_ac sides.third) [
          | inl c_a ↦
              one_side-turned t p (one_side-mirror (turned t) p (sorted t.a t.c t.b ac bc ab p up_ac up_bc up_ab c_a b_c b_a off_ac off_bc off_ab (odd_reversed x y z odd)))
          | inr a_c ↦
              one_side-turned t p (one_side-turned (turned t) p (sorted t.c t.a t.b ac ab bc p up_ac up_ab up_bc a_c b_a b_c off_ac off_ab off_bc (odd_turned y z x (odd_turned x y z odd))))
        ]
      ]
      | inr a_b ↦ elim (upwards_of t.b t.c bc up_bc sides.two.second) [
        | inl c_b ↦ elim (upwards_of t.a t.c ac up_ac sides.third) [
          | inl c_a ↦
              one_side-turned t p (one_side-turned (turned t) p (one_side-mirror back p (sorted t.b t.a t.c ab ac bc p up_ab up_ac up_bc a_b c_a c_b off_ab off_ac off_bc (odd_last x y z odd))))
          | inr a_c ↦ one_side-turned t p (sorted t.b t.c t.a bc ac ab p up_bc up_ac up_ab c_b a_c a_b off_bc off_ac off_ab (odd_turned x y z odd))
        ]
        | inr b_c ↦ elim (upwards_of t.a t.c ac up_ac sides.third) [
          | inl c_a ↦ absurd (let h = a_b.rises in let k = b_c.rises in let l = c_a.rises in omega (arith, lin))
          | inr a_c ↦ one_side-mirror t p (sorted t.c t.b t.a bc ab ac p up_bc up_ab up_ac b_c a_b a_c off_bc off_ab off_ac (odd_exchanged x y z odd))
        ]
      ]
    ]

-- ---- weights

-- over plain variables: a combination with all signs turned
negated_sum : (k r i p j q l s : ℤ) → k *ℤ r ≡ ((i *ℤ p) +ℤ (j *ℤ q)) +ℤ (l *ℤ s) → neg_ℤ k *ℤ r ≡ ((neg_ℤ i *ℤ p) +ℤ (neg_ℤ j *ℤ q)) +ℤ (neg_ℤ l *ℤ s)
negated_sum k r i p j q l s h =
    by_one (k ∷ r ∷ i ∷ p ∷ j ∷ q ∷ l ∷ s ∷ []) (Neg (Var 0) ⊗ Var 1) ((Neg (Var 2) ⊗ Var 3 ⊕ Neg (Var 4) ⊗ Var 5) ⊕ Neg (Var 6) ⊗ Var 7)
    (Lit (negsuc 0)) (Var 0 ⊗ Var 1) ((Var 2 ⊗ Var 3 ⊕ Var 4 ⊗ Var 5) ⊕ Var 6 ⊗ Var 7) refl h

-- a point on one side of all three lines is strictly in the triangle
pub strictly_of : (t : Triangle) (p : Point) → IsOneSide t p → IsStrictlyWithin t p
strictly_of t p (inl (a, b, c)) =
    let d = split-d t p in
    strictly_by t p (area t) (depth (to_a t) p) (depth (to_b t) p) (depth (to_c t) p) a b c
    (λ flat. let none = ap (λ z. z *ℤ pos p.d) flat ∙ zero_mul (pos p.d) in omega (arith, lin)) (split-x t p) (split-y t p) d
strictly_of t p (inr (a, b, c)) =
    let d = split-d t p in
    strictly_by t p (neg_ℤ (area t)) (neg_ℤ (depth (to_a t) p)) (neg_ℤ (depth (to_b t) p)) (neg_ℤ (depth (to_c t) p)) (omega (arith, lin)) (omega (arith, lin)) (omega (arith, lin))
    (λ flat. let none = ap (λ z. z *ℤ pos p.d) flat ∙ zero_mul (pos p.d) in omega (arith, lin))
    (negated_sum (area t) p.x (depth (to_a t) p) t.a.x (depth (to_b t) p) t.b.x (depth (to_c t) p) t.c.x (split-x t p)) (negated_sum (area t) p.y (depth (to_a t) p) t.a.y (depth (to_b t) p) t.b.y (depth (to_c t) p) t.c.y (split-y t p)) (neg_mul (area t) (pos p.d) ∙ omega (arith, lin))

-- ---- an odd number of the sides

odd_of_holds : (ab bc ac : Seg) (p : Point) → holds (ab ∷ bc ∷ ac ∷ []) p ≡ true → IsOddOf (is_over ab p) (is_over bc p) (is_over ac p)
odd_of_holds ab bc ac p h =
    let f = λ (e : Seg). cond {A = ℕ} (is_over e p) 1 0 in
    let first = sum_by-cons f ab (bc ∷ ac ∷ []) in
    let second = sum_by-cons f bc (ac ∷ []) in
    let third = sum_by-cons f ac [] in
    let total : f ab + f bc + f ac ≡ sum_by f (ab ∷ bc ∷ ac ∷ []) = omega arith in
    ap (λ n. n % 2) total ∙ (Decides-eqb (count_by (λ e. is_over e p) (ab ∷ bc ∷ ac ∷ []) % 2) 1).0 h

pub odd : (t : Triangle) (ab bc ac : Seg) → AreThreeSides t ab bc ac → (p : Point) → ¬ IsOn ab p → ¬ IsOn bc p → ¬ IsOn ac p
    → holds (ab ∷ bc ∷ ac ∷ []) p ≡ true → IsStrictlyWithin t p
odd t ab bc ac sides p off_ab off_bc off_ac h = strictly_of t p (one_side t ab bc ac sides p off_ab off_bc off_ac (odd_of_holds ab bc ac p h))
