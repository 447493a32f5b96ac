-- Off the edges a point is in the part exactly where the shell holds it and no hole does, and exactly where an odd number of the rings' edges is over it.
use mathlib.Core.List.{[], ◌∷◌}
use Rattle.std.proofs.Common.{◌≡◌, ◌⊎◌, refl, sym, ◌∙◌, ap, ℕ, ◌+◌, ◌%◌, ◌==◌, ◌≤◌, ◌↔◌, Bool, true, false, not, ◌&&◌, ◌||◌, cond, List, flat_map, count_by, ℤ, pos, negsuc, ◌+ℤ◌, inl, inr, arith}
use Rattle.std.specs.Prelude.{Contains, All}
use Rattle.std.specs.List.{list_any}
use Rattle.std.proofs.lemmas.Bool.{false≢true}
use Rattle.std.proofs.lemmas.List.Elements.{All-head, All-tail}
use Rattle.std.proofs.lemmas.List.Sums.{sum_by-cons, sum_by-append}
use Rattle.cov_types.specs.declared.seg.Seg.{Seg}
use Rattle.integer_laws.proofs.Ring.{lin}
use Rattle.plane.specs.Joined.{IsOff}
use Rattle.plane.specs.Parity.{holds}
use Rattle.plane.specs.Point.{Point}
use Rattle.plane.specs.Ray.{is_over}
use Rattle.plane.specs.Region.{far_point, IsOuter}
use Rattle.crossing_laws.proofs.Ways.{joined-fewer}
use Rattle.sector_laws.specs.Sector.{HalfEdge, left, AreDistinct, IsPlanar}
use Rattle.sector_laws.proofs.Angles.{true_or_false}
use Rattle.region_owners.proofs.OwnEdges.{sum_joined, own_sum}
use Rattle.region_laws.proofs.Balance.{first_or_later}
use Rattle.region_laws.proofs.Edge.{below_joined, none_below_outer}
use Rattle.region_laws.proofs.Nearest.{nearest_or_none}
use Rattle.shell_laws.specs.Part.{IsPartTest}
use Rattle.shell_laws.specs.Ring.{way_edges, IsInPart, IsRingRound, AreRings, ring_holds, is_within}
use Rattle.shell_laws.proofs.Winding.{winds, over_way, holds_none, holds_one}
use Rattle.shell_laws.proofs.OneRing.{among, far, elsewhere, holds_count}
use Rattle.shell_laws.proofs.AllRings.{wind_all, wind_all_is, test, one_shell}

-- ---- counts and tests

zero_false : (b : Bool) → cond {A = ℕ} b 1 0 ≡ 0 → b ≡ false
zero_false true h = absurd (omega arith)
zero_false false h = refl

one_true : (b : Bool) → pos (cond b 1 0) ≡ pos 1 → b ≡ true
one_true true h = refl
one_true false h = absurd (omega (arith, lin))

none_of : {X : Type 0} (f : X → Bool) (xs : List X) (x : X) → count_by f xs ≡ 0 → Contains xs x → f x ≡ false
none_of f [] x none has = absurd (omega (arith, has.1))
none_of f (y ∷ xs) x none has =
    let sum = sum_by-cons (λ z. cond (f z) 1 0) y xs in
    elim (first_or_later y xs x has) [
      | inl here ↦ ap f (sym here) ∙ zero_false (f y) (omega (arith, sum, none))
      | inr later ↦ none_of f xs x (omega (arith, sum, none)) later
    ]

any_or_none : {X : Type 0} (f : X → Bool) (xs : List X) → ((list_any f xs ≡ true) × (1 ≤ count_by f xs)) ⊎ ((list_any f xs ≡ false) × (count_by f xs ≡ 0))
any_or_none f [] = inr (refl, refl)
any_or_none f (x ∷ xs) = by (f x) (list_any f xs) refl (any_or_none f xs)
  where
    by : (b c : Bool) → f x ≡ b → ((list_any f xs ≡ true) × (1 ≤ count_by f xs)) ⊎ ((list_any f xs ≡ false) × (count_by f xs ≡ 0))
        → ((list_any f (x ∷ xs) ≡ true) × (1 ≤ count_by f (x ∷ xs))) ⊎ ((list_any f (x ∷ xs) ≡ false) × (count_by f (x ∷ xs) ≡ 0))
    by true c is rest = inl (ap (λ t. t || list_any f xs) is, (let one = ap (λ t. cond {A = ℕ} t 1 0) is in let sum = sum_by-cons (λ y. cond (f y) 1 0) x xs in omega (arith, sum, one)))
    by false c is (inl some) =
        let none = ap (λ t. cond {A = ℕ} t 1 0) is in
        let sum = sum_by-cons (λ y. cond (f y) 1 0) x xs in
        let rest = some.1 in
        inl (ap (λ t. t || list_any f xs) is ∙ some.0, omega (arith, sum, none, rest))
    by false c is (inr nothing) =
        let none = ap (λ t. cond {A = ℕ} t 1 0) is in
        let sum = sum_by-cons (λ y. cond (f y) 1 0) x xs in
        let rest = nothing.1 in
        inr (ap (λ t. t || list_any f xs) is ∙ nothing.0, omega (arith, sum, none, rest))

-- ---- how many of the rings' edges are over a point

over_all : (rings : List (List HalfEdge)) (p : Point) → (n : ℕ) × (wind_all rings p +ℤ pos (n + n) ≡ pos (count_by (λ e. is_over e p) (flat_map way_edges rings)))
over_all [] p = (0, refl)
over_all (ring ∷ rings) p =
    let first = over_way ring p in
    let rest = over_all rings p in
    let is_first = first.1 in
    let is_rest = rest.1 in
    let sum = sum_by-append (λ e. cond (is_over e p) 1 0) (way_edges ring) (flat_map way_edges rings) in
    (first.0 + rest.0, omega (arith, lin, sum))

even_of : (w : ℤ) (n count : ℕ) → w ≡ pos 0 → w +ℤ pos (n + n) ≡ pos count → count % 2 ≡ 0
even_of w n count none is = omega (arith, lin)

odd_of : (w : ℤ) (n count : ℕ) → w ≡ pos 1 → w +ℤ pos (n + n) ≡ pos count → count % 2 ≡ 1
odd_of w n count one is = omega (arith, lin)

-- ---- a ring at a point off the edges

-- w and c: how often it winds round the point and round the part
up_or_none : (w c : ℤ) → c ≡ pos 1 → (w ≡ pos 0) ⊎ ((w ≡ c) ⊎ (w +ℤ pos 1 ≡ c)) → (w ≡ pos 0) ⊎ (w ≡ pos 1)
up_or_none w c is (inl none) = inl none
up_or_none w c is (inr (inl same)) = inr (same ∙ is)
up_or_none w c is (inr (inr less)) = inl (omega (arith, lin))

down_or_none : (w c : ℤ) → c ≡ pos 0 → (w ≡ pos 0) ⊎ ((w ≡ c) ⊎ (w +ℤ pos 1 ≡ c)) → (w ≡ pos 0) ⊎ (w ≡ negsuc 0)
down_or_none w c is (inl none) = inl none
down_or_none w c is (inr (inl same)) = inl (same ∙ is)
down_or_none w c is (inr (inr less)) = inr (omega (arith, lin))

module _ (edges : List Seg) (planar : IsPlanar edges) (distinct : AreDistinct edges) (passes : HalfEdge → Bool) (part : IsPartTest edges passes) (shell : List HalfEdge) (holes : List (List HalfEdge))
    (are : AreRings edges passes (shell ∷ holes)) (h : HalfEdge) (in_h : Contains edges h.edge) (pass_h : passes h ≡ true) (holds_h : ring_holds shell (left h) ≡ true) where
  abbrev rings : List (List HalfEdge)
  rings = shell ∷ holes

  off_ring : (ring : List HalfEdge) → IsRingRound edges passes ring → (p : Point) → IsOff edges p → IsOff (way_edges ring) p
  off_ring ring is p off = λ e has. off e (among edges planar passes part ring is e has)

  shell_winds : (p : Point) → IsOff edges p → winds shell p ≡ pos (cond (ring_holds shell p) 1 0)
  shell_winds p off =
      let is = All-head (IsRingRound edges passes) shell holes are.each in
      let once = sym (holds_count edges planar passes part shell is h in_h pass_h) ∙ ap (λ b. pos (cond b 1 0)) holds_h in
      elim (up_or_none _ _ once (elsewhere edges planar passes part shell is h in_h pass_h p (off_ring shell is p off))) [
        | inl none ↦ none ∙ sym (ap (λ b. pos (cond b 1 0)) (holds_none shell p none))
        | inr one ↦ one ∙ sym (ap (λ b. pos (cond b 1 0)) (holds_one shell p (inl one)))
      ]

  hole_winds : (hole : List HalfEdge) → IsRingRound edges passes hole → ring_holds hole (left h) ≡ false → (p : Point) → IsOff edges p → winds hole p +ℤ pos (cond (ring_holds hole p) 1 0) ≡ pos 0
  hole_winds hole is none_h p off =
      let never = sym (holds_count edges planar passes part hole is h in_h pass_h) ∙ ap (λ b. pos (cond b 1 0)) none_h in
      elim (down_or_none _ _ never (elsewhere edges planar passes part hole is h in_h pass_h p (off_ring hole is p off))) [
        | inl none ↦ (let told = ap (λ b. pos (cond b 1 0)) (holds_none hole p none) in omega (arith, lin))
        | inr one ↦ (let told = ap (λ b. pos (cond b 1 0)) (holds_one hole p (inr one)) in omega (arith, lin))
      ]

  holes_wind : (some : List (List HalfEdge)) → All (IsRingRound edges passes) some → count_by (λ ring. ring_holds ring (left h)) some ≡ 0 → (p : Point) → IsOff edges p
      → wind_all some p +ℤ pos (count_by (λ ring. ring_holds ring p) some) ≡ pos 0
  holes_wind [] each none p off = refl
  holes_wind (hole ∷ some) each none p off =
      let sum = sum_by-cons (λ ring. cond (ring_holds ring (left h)) 1 0) hole some in
      let first = hole_winds hole (All-head (IsRingRound edges passes) hole some each) (zero_false (ring_holds hole (left h)) (omega (arith, sum, none))) p off in
      let rest = holes_wind some (All-tail (IsRingRound edges passes) hole some each) (omega (arith, sum, none)) p off in
      omega (arith, lin, sum_by-cons (λ ring. cond (ring_holds ring p) 1 0) hole some)

  holes_none : count_by (λ ring. ring_holds ring (left h)) holes ≡ 0
  holes_none =
      let one = one_shell edges planar distinct passes part rings are h in_h pass_h in
      let sum = sum_by-cons (λ ring. cond (ring_holds ring (left h)) 1 0) shell holes in
      let first = ap (λ b. cond {A = ℕ} b 1 0) holds_h in
      omega (arith, one, sum, first)

  none_outer : (p : Point) → IsOuter edges p → (some : List (List HalfEdge)) → All (IsRingRound edges passes) some → wind_all some p ≡ pos 0
  none_outer p out [] each = refl
  none_outer p out (ring ∷ some) each =
      let is = All-head (IsRingRound edges passes) ring some each in
      let first = far edges planar passes part ring is p (joined-fewer edges (way_edges ring) (among edges planar passes part ring is) p far_point out) in
      let rest = none_outer p out some (All-tail (IsRingRound edges passes) ring some each) in
      omega (arith, lin)

  -- no hole holds the part
  pub no_hole : (hole : List HalfEdge) → Contains holes hole → ring_holds hole (left h) ≡ false
  no_hole hole has = none_of (λ ring. ring_holds ring (left h)) holes hole holes_none has

  module _ (p : Point) (off : IsOff edges p) where
    total : wind_all rings p +ℤ pos (count_by (λ ring. ring_holds ring p) holes) ≡ pos (cond (ring_holds shell p) 1 0)
    total = let first = shell_winds p off in let rest = holes_wind holes (All-tail (IsRingRound edges passes) shell holes are.each) holes_none p off in omega (arith, lin)

    in_once : IsInPart edges passes p → wind_all rings p ≡ pos 1
    in_once (g, has, pass, way) =
        wind_all_is edges passes rings are p
        ∙ sum_joined edges planar distinct passes (test edges planar distinct passes part rings are) p (left g) way
        ∙ own_sum edges planar distinct passes (test edges planar distinct passes part rings are) g has
        ∙ ap (λ b. pos (cond b 1 0)) pass

    in_or_out : (IsInPart edges passes p × (wind_all rings p ≡ pos 1)) ⊎ ((IsInPart edges passes p → ⊥) × (wind_all rings p ≡ pos 0))
    in_or_out = elim (nearest_or_none edges planar p) [
      | inl found ↦ (
          let g : HalfEdge = record { edge = found.0; forwards = true } in
          let has = found.1.below.among in
          let way = below_joined edges planar p off found.0 found.1 in
          elim (true_or_false (passes g)) [
            | inl pass ↦ (let there : IsInPart edges passes p = (g, has, pass, way) in inl (there, in_once there))
            | inr fails ↦ (
                let none = wind_all_is edges passes rings are p
                ∙ sum_joined edges planar distinct passes (test edges planar distinct passes part rings are) p (left g) way
                ∙ own_sum edges planar distinct passes (test edges planar distinct passes part rings are) g has
                ∙ ap (λ b. pos (cond b 1 0)) fails in
                inr ((λ there. (let one = in_once there in absurd (omega (arith, lin)))), none))
          ]
          )
      | inr none ↦ (
          let nowhere = none_outer p (none_below_outer edges planar p off none) rings are.each in
          inr ((λ there. (let one = in_once there in absurd (omega (arith, lin)))), nowhere))
    ]

    within_one : (s any : Bool) (n : ℕ) (w : ℤ) → w +ℤ pos n ≡ pos (cond s 1 0) → ((any ≡ true) × (1 ≤ n)) ⊎ ((any ≡ false) × (n ≡ 0)) → w ≡ pos 1 → s && not any ≡ true
    within_one true any n w sum (inl some) one = absurd (let more = some.1 in omega (arith, lin))
    within_one true any n w sum (inr nothing) one = ap not nothing.0
    within_one false any n w sum tells one = absurd (omega (arith, lin))

    within_none : (s any : Bool) (n : ℕ) (w : ℤ) → w +ℤ pos n ≡ pos (cond s 1 0) → ((any ≡ true) × (1 ≤ n)) ⊎ ((any ≡ false) × (n ≡ 0)) → w ≡ pos 0 → s && not any ≡ false
    within_none true any n w sum (inl some) none = ap not some.0
    within_none true any n w sum (inr nothing) none = absurd (let zero = nothing.1 in omega (arith, lin))
    within_none false any n w sum tells none = refl

    tells : ((list_any (λ hole. ring_holds hole p) holes ≡ true) × (1 ≤ count_by (λ hole. ring_holds hole p) holes)) ⊎ ((list_any (λ hole. ring_holds hole p) holes ≡ false) × (count_by (λ hole. ring_holds hole p) holes ≡ 0))
    tells = any_or_none (λ hole. ring_holds hole p) holes

    pub in_part_within : IsInPart edges passes p ↔ (is_within shell holes p ≡ true)
    in_part_within = elim in_or_out [
      | inl there ↦ ((λ _. within_one (ring_holds shell p) (list_any (λ hole. ring_holds hole p) holes) _ _ total tells there.1), λ _. there.0)
      | inr nowhere ↦ ((λ there. absurd (nowhere.0 there)), λ is. absurd (false≢true (sym (within_none (ring_holds shell p) (list_any (λ hole. ring_holds hole p) holes) _ _ total tells nowhere.1) ∙ is)))
    ]

    pub even_odd : holds (flat_map way_edges rings) p ≡ is_within shell holes p
    even_odd = (let over = over_all rings p in elim in_or_out [
      | inl there ↦ ap (λ n. n == 1) (odd_of _ _ _ there.1 over.1) ∙ sym (within_one (ring_holds shell p) (list_any (λ hole. ring_holds hole p) holes) _ _ total tells there.1)
      | inr nowhere ↦ ap (λ n. n == 1) (even_of _ _ _ nowhere.1 over.1) ∙ sym (within_none (ring_holds shell p) (list_any (λ hole. ring_holds hole p) holes) _ _ total tells nowhere.1)
    ])
