-- The members of the runs of a coverage's rings ascend.
use Rattle.std.proofs.Common.{◌≡◌, ℕ, zero, suc, ◌+◌, ◌<◌, ◌≤◌, Bool, true, false, cond, nat_lt, List, [], ◌∷◌, ◌++◌, length, get_or, flat_map, refl, subst, sym, arith, All}
use Rattle.std.specs.Prelude.{AllPairs}
use Rattle.std.specs.List.{enumerate_from}
use Rattle.std.proofs.lemmas.List.Elements.{All-head, All-tail, All-map}
use Rattle.cov_types.proofs.AllUses.{All-flat_map, All-everywhere}
use Rattle.cov_types.specs.Rings.{poly_rings, member_rings, rings_of, runs_from, runs_of}
use Rattle.cov_types.specs.Uses.{ring_uses}
use Rattle.cov_types.specs.declared.coord.Coord.{Coord}
use Rattle.cov_types.specs.declared.ring_run.RingRun.{RingRun}

-- the numbers ascend, the first of them being no less than m
abbrev Ascends : {X : Type 0} → (X → ℕ) → ℕ → List X → Type 0
Ascends number m [] = Unit {0}
Ascends number m (x ∷ xs) = (m ≤ number x) × Ascends number (number x) xs

ascends-less : {X : Type 0} (number : X → ℕ) (k m : ℕ) (xs : List X) → k ≤ m → Ascends number m xs → Ascends number k xs
ascends-less number k m [] le h = tt
ascends-less number k m (x ∷ xs) le h = (omega (arith, le, h.0), h.1)

-- some that all have the number m, before others
ascends-same : {X : Type 0} (number : X → ℕ) (m : ℕ) (xs ys : List X) → All (λ x. number x ≡ m) xs → Ascends number m ys → Ascends number m (xs ++ ys)
ascends-same number m [] ys all h = h
ascends-same {X} number m (x ∷ xs) ys all h =
    let first : number x ≡ m = All-head (λ (y : X). number y ≡ m) x xs all in
    (omega (arith, first), subst (λ k. Ascends number k (xs ++ ys)) (sym first) (ascends-same number m xs ys (All-tail (λ (y : X). number y ≡ m) x xs all) h))

ascends-at : {X : Type 0} (number : X → ℕ) (m : ℕ) (xs : List X) (j : ℕ) (d : X) → Ascends number m xs → j < length xs → m ≤ number (get_or xs j d)
ascends-at number m [] j d h within = absurd (omega (arith, within))
ascends-at number m (x ∷ xs) zero d h within = h.0
ascends-at number m (x ∷ xs) (suc j) d h within = omega (arith, h.0, ascends-at number (number x) xs j d h.1 (omega (arith, within)))

ascends-pairs : {X : Type 0} (number : X → ℕ) (m : ℕ) (xs : List X) → Ascends number m xs → AllPairs (λ x y. number x ≤ number y) xs
ascends-pairs number m [] h i j d lt within = absurd (omega (arith, within))
ascends-pairs number m (x ∷ xs) h i zero d lt within = absurd (omega (arith, lt))
ascends-pairs number m (x ∷ xs) h zero (suc j) d lt within = ascends-at number (number x) xs j d h.1 (omega (arith, within))
ascends-pairs number m (x ∷ xs) h (suc i) (suc j) d lt within = ascends-pairs number (number x) xs h.1 i j d (omega (arith, lt)) (omega (arith, within))

-- ---- rings

abbrev owner : ℕ × List Coord → ℕ
owner ring = ring.0

member_owner : (member : ℕ) (polys : List (List (List Coord))) → All (λ ring. owner ring ≡ member) (member_rings (member, polys))
member_owner member polys =
    All-flat_map (λ (ring : ℕ × List Coord). owner ring ≡ member) (poly_rings member) polys (All-everywhere _ polys (λ rings.
    All-map (λ (ring : ℕ × List Coord). owner ring ≡ member) (λ points. (member, points)) rings (λ k d h. refl)))

members_ascend : (k : ℕ) (members : List (List (List (List Coord)))) → Ascends owner k (flat_map member_rings (enumerate_from k members))
members_ascend k [] = tt
members_ascend k (polys ∷ members) =
    ascends-same owner k (member_rings (k, polys)) (flat_map member_rings (enumerate_from (k + 1) members)) (member_owner k polys)
    (ascends-less owner k (k + 1) (flat_map member_rings (enumerate_from (k + 1) members)) (omega arith) (members_ascend (k + 1) members))

-- ---- runs

run_ascends : (m member from to : ℕ) (t : Bool) (runs : List RingRun) → m ≤ member → Ascends (λ (r : RingRun). r.member) member runs
    → Ascends (λ (r : RingRun). r.member) m (cond t (record { member = member; from = from; to = to } ∷ []) [] ++ runs)
run_ascends m member from to true runs le h = (le, h)
run_ascends m member from to false runs le h = ascends-less (λ (r : RingRun). r.member) m member runs le h

runs_ascend : (m from : ℕ) (rings : List (ℕ × List Coord)) → Ascends owner m rings → Ascends (λ (r : RingRun). r.member) m (runs_from from rings)
runs_ascend m from [] h = tt
runs_ascend m from (ring ∷ rings) h =
    let to = from + length (ring_uses ring.0 ring.1) in
    run_ascends m ring.0 from to (nat_lt from to) (runs_from to rings) h.0 (runs_ascend ring.0 to rings h.1)

pub ascending : (members : List (List (List (List Coord)))) → AllPairs (λ (r s : RingRun). r.member ≤ s.member) (runs_of members)
ascending members = ascends-pairs (λ (r : RingRun). r.member) 0 (runs_of members) (runs_ascend 0 0 (rings_of members) (members_ascend 0 members))
