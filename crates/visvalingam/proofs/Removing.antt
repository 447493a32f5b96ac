-- The tables of a state after a point went.
use mathlib.Core.List.{[], ◌∷◌}
use Rattle.std.proofs.Common.{◌≡◌, ◌≢◌, ◌⊎◌, inl, inr, refl, ◌∙◌, suc, List, Bool, true, false, not, cond, ◌↔◌, true≢false, arith}
use Rattle.std.specs.Prelude.{Contains}
use Rattle.cov_types.specs.declared.coord.Coord.{Coord}
use Rattle.cov_types.specs.declared.seg.Seg.{Seg}
use Rattle.cov_types.specs.Seg.{IsSegBetween}
use Rattle.greedy_run.specs.Run.{Simplification, IsRemovable, is_removed, current, current_points, current_edges}
use Rattle.removal_laws.proofs.Removable.{now_ends, next_stays, next_ac, next_was}
use Rattle.removal_laws.proofs.Bridge.{of_flat_map, to_flat_map}
use Rattle.visvalingam.specs.Queue.{at_spot}
use Rattle.visvalingam.specs.declared.spot.QueuedSpot.{QueuedSpot}
use Rattle.visvalingam.proofs.Ready.{kept_point, kept_points, not_removed, first_or_later}

-- ---- segments

-- over plain facts of sets: ab and bc taken out, ac added
module _ (s : Simplification) (removed : List Coord) (q : QueuedSpot) (h : IsRemovable s removed (at_spot q)) (old first second new : Seg → Bool)
    (are : (e : Seg) → (old e ≡ true) ↔ Contains (current_edges s.lines removed) e)
    (without_ab : (e : Seg) → (first e ≡ true) ↔ ((old e ≡ true) × ¬ IsSegBetween h.t.a h.t.b e))
    (without_bc : (e : Seg) → (second e ≡ true) ↔ ((first e ≡ true) × ¬ IsSegBetween h.t.b h.t.c e))
    (with_ac : (e : Seg) → (new e ≡ true) ↔ ((second e ≡ true) ⊎ IsSegBetween h.t.a h.t.c e)) where
  ends_at_b : (a : Coord) (e : Seg) → IsSegBetween a h.t.b e → (e.lo ≡ h.t.b) ⊎ (e.hi ≡ h.t.b)
  ends_at_b a e (inl k) = inr k.1
  ends_at_b a e (inr k) = inl k.0

  begins_at_b : (c : Coord) (e : Seg) → IsSegBetween h.t.b c e → (e.lo ≡ h.t.b) ⊎ (e.hi ≡ h.t.b)
  begins_at_b c e (inl k) = inl k.0
  begins_at_b c e (inr k) = inr k.1

  off : (e : Seg) → e.lo ≢ h.t.b → e.hi ≢ h.t.b → (e.lo ≡ h.t.b) ⊎ (e.hi ≡ h.t.b) → ⊥
  off e lo hi (inl k) = lo k
  off e lo hi (inr k) = hi k

  pub edges_after : (e : Seg) → (new e ≡ true) ↔ Contains (current_edges s.lines (h.t.b ∷ removed)) e
  edges_after e = (there, back)
    where
      there : new e ≡ true → Contains (current_edges s.lines (h.t.b ∷ removed)) e
      there k = elim ((with_ac e).0 k) [
        | inr ac ↦ next_ac s removed (at_spot q) h e ac
        | inl left ↦ (
            let one = (without_bc e).0 left in
            let two = (without_ab e).0 one.0 in
            let has = (are e).0 two.0 in
            let apart : (e.lo ≡ h.t.b) ⊎ (e.hi ≡ h.t.b) → ⊥ = λ at. elim (now_ends s removed (at_spot q) h e has at) [ inl ab ↦ two.1 ab | inr bc ↦ one.1 bc ] in
            next_stays s removed (at_spot q) h e has (λ lo. apart (inl lo)) (λ hi. apart (inr hi)))
      ]

      back : Contains (current_edges s.lines (h.t.b ∷ removed)) e → new e ≡ true
      back has = elim (next_was s removed (at_spot q) h e has) [
        | inr ac ↦ (with_ac e).1 (inr ac)
        | inl k ↦ (with_ac e).1 (inl ((without_bc e).1 ((without_ab e).1 ((are e).1 k.has, λ ab. off e k.lo k.hi (ends_at_b h.t.a e ab)), λ bc. off e k.lo k.hi (begins_at_b h.t.c e bc))))
      ]

-- ---- points

-- a point that is left without b is not b, and was left before
left_of : (b : Coord) (removed points : List Coord) (p : Coord) → Contains (current (b ∷ removed) points) p → (p ≢ b) × Contains (current removed points) p
left_of b removed [] p has = absurd (omega (arith, has.1))
left_of b removed (x ∷ points) p has = by (left_of b removed points p) (is_removed (b ∷ removed) x) refl has
  where
    later : Contains (current removed points) p → (c : Bool) → Contains (cond (not c) (x ∷ current removed points) (current removed points)) p
    later k true = k
    later k false = (suc k.0, omega (arith, k.1), k.2)

    by : (Contains (current (b ∷ removed) points) p → (p ≢ b) × Contains (current removed points) p) → (c : Bool) → is_removed (b ∷ removed) x ≡ c
        → Contains (cond (not c) (x ∷ current (b ∷ removed) points) (current (b ∷ removed) points)) p → (p ≢ b) × Contains (current removed (x ∷ points)) p
    by rest true e k = (let before = rest k in (before.0, later before.1 (is_removed removed x)))
    by rest false e k = elim (first_or_later x (current (b ∷ removed) points) p k) [
      | inl is ↦ (let apart = not_removed removed b x e in (λ same. apart.0 (is ∙ same), here (is_removed removed x) apart.1 is))
      | inr more ↦ (let before = rest more in (before.0, later before.1 (is_removed removed x)))
    ]
      where
        here : (c : Bool) → c ≡ false → x ≡ p → Contains (cond (not c) (x ∷ current removed points) (current removed points)) p
        here true e is = absurd (true≢false e)
        here false e is = (0, omega arith, is)

-- in the first state all points are left
in_first : (xs : List Coord) (p : Coord) → Contains xs p → Contains (current [] xs) p
in_first [] p k = k
in_first (x ∷ xs) p k = elim (first_or_later x xs p k) [ inl is ↦ (0, omega arith, is) | inr more ↦ (let rest = in_first xs p more in (suc rest.0, omega (arith, rest.1), rest.2)) ]

of_first : (xs : List Coord) (p : Coord) → Contains (current [] xs) p → Contains xs p
of_first [] p k = k
of_first (x ∷ xs) p k = elim (first_or_later x (current [] xs) p k) [ inl is ↦ (0, omega arith, is) | inr more ↦ (let rest = of_first xs p more in (suc rest.0, omega (arith, rest.1), rest.2)) ]

pub points_after : (lines : List (List Coord)) (removed cells : List Coord) (b : Coord) → ((p : Coord) → Contains cells p ↔ Contains (current_points lines removed) p)
    → (p : Coord) → Contains (current (b ∷ []) cells) p ↔ Contains (current_points lines (b ∷ removed)) p
points_after lines removed cells b are p = (there, back)
  where
    there : Contains (current (b ∷ []) cells) p → Contains (current_points lines (b ∷ removed)) p
    there has = let was = left_of b [] cells p has in kept_points b removed lines p was.0 ((are p).0 (of_first cells p was.1))

    back : Contains (current_points lines (b ∷ removed)) p → Contains (current (b ∷ []) cells) p
    back has =
        let (line, found) = of_flat_map (current (b ∷ removed)) lines p has in
        let was = left_of b removed line p found.1 in
        kept_point b [] cells p was.0 (in_first cells p ((are p).1 (to_flat_map (current removed) lines line p found.0 was.1)))
