-- The runs of rings: one after the other, and each once round its ring.
use Rattle.std.proofs.Common.{◌≡◌, ℕ, zero, suc, ◌+◌, ◌-◌, ◌<◌, ◌≤◌, Bool, true, false, cond, nat_lt, List, [], ◌∷◌, ◌++◌, length, get_or, map, zip, flat_map, option_to_list, refl, sym, ap, ◌∙◌, subst, add-zero, arith, append_assoc, length-append, All, inl, inr}
use Rattle.std.proofs.lemmas.Bool.{ltb-true, ltb-false, cases_Bool}
use Rattle.std.proofs.lemmas.List.{get_or-append-add, get_or_append_left}
use Rattle.std.proofs.lemmas.List.Elements.{All-nil, All-cons}
use Rattle.cov_types.proofs.AllUses.{All-flat_map, All-everywhere, side_members}
use Rattle.cov_types.proofs.Added.{used, begun}
use Rattle.cov_types.proofs.Between.{seg_between_by_ends}
use Rattle.cov_types.specs.Rings.{side_starts, ring_starts, run_between, runs_from, AreInRow, IsRing}
use Rattle.cov_types.specs.Seg.{IsSegBetween}
use Rattle.cov_types.specs.Uses.{sides, side_uses, ring_uses}
use Rattle.cov_types.specs.declared.coord.Coord.{Coord}
use Rattle.cov_types.specs.declared.edge_use.EdgeUse.{EdgeUse}
use Rattle.cov_types.specs.declared.ring_run.RingRun.{RingRun}
use Rattle.cov_types.specs.declared.seg.Seg.{Seg}

-- ---- one after the other

run_row : (member from to end : ℕ) (t : Bool) (runs : List RingRun) → nat_lt from to ≡ t → from ≤ to → AreInRow to runs end
    → AreInRow from (cond t (record { member = member; from = from; to = to } ∷ []) [] ++ runs) end
run_row member from to end true runs h le row = (refl, ltb-true from to h, row)
run_row member from to end false runs h le row =
    let same : to ≡ from = omega (arith, ltb-false from to h) in
    subst (λ n. AreInRow n runs end) same row

in_row-run : (member from to end : ℕ) (runs : List RingRun) → from ≤ to → AreInRow to runs end → AreInRow from (run_between member from to ++ runs) end
in_row-run member from to end runs = run_row member from to end (nat_lt from to) runs refl

pub in_row : (from : ℕ) (rings : List (ℕ × List Coord)) → AreInRow from (runs_from from rings) (from + length (flat_map used rings))
in_row from [] = sym (add-zero from)
in_row from (ring ∷ rings) =
    let to = from + length (used ring) in
    let ends : to + length (flat_map used rings) ≡ from + length (used ring ++ flat_map used rings) = omega (arith, length-append (used ring) (flat_map used rings)) in
    in_row-run ring.0 from to (from + length (used ring ++ flat_map used rings)) (runs_from to rings) (omega arith) (subst (AreInRow to (runs_from to rings)) ends (in_row to rings))

-- ---- once round a ring

-- the uses lead from a to b, each from its start to the next
abbrev Leads : Coord → List Coord → List EdgeUse → Coord → Type 0
Leads a [] [] b = a ≡ b
Leads a [] (u ∷ uses) b = ⊥
Leads a (s ∷ starts) [] b = ⊥
Leads a (s ∷ starts) (u ∷ uses) b = (s ≡ a) × ((c : Coord) × (IsSegBetween a c u.seg × Leads c starts uses b))

-- one side in front
side_leads : (member : ℕ) (a c b : Coord) (starts : List Coord) (uses : List EdgeUse) → Leads c starts uses b → Leads a (side_starts (a, c) ++ starts) (side_uses member (a, c) ++ uses) b
side_leads member a c b starts uses h =
    seg_between_by_ends
    (λ o. Leads a (map (λ (s : Seg). a) (option_to_list o) ++ starts) (map (λ (s : Seg). record { member = member; seg = s }) (option_to_list o) ++ uses) b) a c
    (λ s p q. (refl, (c, (inl (p, q), h))))
    (λ s p q. (refl, (c, (inr (p, q), h))))
    (λ e. subst (λ x. Leads x starts uses b) (sym e) h)

-- the sides from a over some points to b
way_leads : (member : ℕ) (a b : Coord) (points : List Coord)
    → Leads a (flat_map side_starts (zip (a ∷ points) (points ++ b ∷ []))) (flat_map (side_uses member) (zip (a ∷ points) (points ++ b ∷ []))) b
way_leads member a b [] = side_leads member a b b [] [] refl
way_leads member a b (c ∷ points) =
    side_leads member a c b (flat_map side_starts (zip (c ∷ points) (points ++ b ∷ []))) (flat_map (side_uses member) (zip (c ∷ points) (points ++ b ∷ []))) (way_leads member c b points)

-- a ring's uses lead from its first point back to it
ring_leads : (member : ℕ) (a : Coord) (points : List Coord) → Leads a (ring_starts (a ∷ points)) (ring_uses member (a ∷ points)) a
ring_leads member a points = way_leads member a a points

leads-length : (a b : Coord) (starts : List Coord) (uses : List EdgeUse) → Leads a starts uses b → length starts ≡ length uses
leads-length a b [] [] h = refl
leads-length a b [] (u ∷ uses) h = absurd h
leads-length a b (s ∷ starts) [] h = absurd h
leads-length a b (s ∷ starts) (u ∷ uses) h = let (e, (c, (ends, rest))) = h in omega (arith, leads-length c b starts uses rest)

leads-first : (a b : Coord) (starts : List Coord) (uses : List EdgeUse) (d : Coord) → Leads a starts uses b → 0 < length uses → get_or starts 0 d ≡ a
leads-first a b [] [] d h some = absurd (omega (arith, some))
leads-first a b [] (u ∷ uses) d h some = absurd h
leads-first a b (s ∷ starts) [] d h some = absurd h
leads-first a b (s ∷ starts) (u ∷ uses) d h some = h.0

-- a use before the last leads to the next start
leads-next : (a b : Coord) (starts : List Coord) (uses : List EdgeUse) (k : ℕ) (d : EdgeUse) (e : Coord) → Leads a starts uses b → suc k < length uses
    → IsSegBetween (get_or starts k e) (get_or starts (suc k) e) (get_or uses k d).seg
leads-next a b [] [] k d e h within = absurd (omega (arith, within))
leads-next a b [] (u ∷ uses) k d e h within = absurd h
leads-next a b (s ∷ starts) [] k d e h within = absurd h
leads-next a b (s ∷ starts) (u ∷ uses) zero d e h within =
    let (same, (c, (ends, rest))) = h in
    let next = leads-first c b starts uses e rest (omega (arith, within)) in
    subst (λ x. IsSegBetween x (get_or starts 0 e) u.seg) (sym same) (subst (λ x. IsSegBetween a x u.seg) (sym next) ends)
leads-next a b (s ∷ starts) (u ∷ uses) (suc k) d e h within =
    let (same, (c, (ends, rest))) = h in
    leads-next c b starts uses k d e rest (omega (arith, within))

leads-none : (a b : Coord) (starts : List Coord) (uses : List EdgeUse) → Leads a starts uses b → length uses ≡ 0 → a ≡ b
leads-none a b [] [] h none = h
leads-none a b [] (u ∷ uses) h none = absurd h
leads-none a b (s ∷ starts) [] h none = absurd h
leads-none a b (s ∷ starts) (u ∷ uses) h none = absurd (omega (arith, none))

-- the last leads to b
leads-last : (a b : Coord) (starts : List Coord) (uses : List EdgeUse) (k : ℕ) (d : EdgeUse) (e : Coord) → Leads a starts uses b → suc k ≡ length uses
    → IsSegBetween (get_or starts k e) b (get_or uses k d).seg
leads-last a b [] [] k d e h last = absurd (omega (arith, last))
leads-last a b [] (u ∷ uses) k d e h last = absurd h
leads-last a b (s ∷ starts) [] k d e h last = absurd h
leads-last a b (s ∷ starts) (u ∷ uses) zero d e h last =
    let (same, (c, (ends, rest))) = h in
    let end = leads-none c b starts uses rest (omega (arith, last)) in
    subst (λ x. IsSegBetween x b u.seg) (sym same) (subst (λ x. IsSegBetween a x u.seg) end ends)
leads-last a b (s ∷ starts) (u ∷ uses) (suc k) d e h last =
    let (same, (c, (ends, rest))) = h in
    leads-last c b starts uses k d e rest (omega (arith, last))

-- ---- in the list of all uses

-- the elements of a list between two others
get_or-middle : {X : Type 0} (before xs after : List X) (k j : ℕ) (d : X) → k ≡ length before + j → j < length xs → get_or (before ++ (xs ++ after)) k d ≡ get_or xs j d
get_or-middle before xs after k j d e within =
    ap (λ n. get_or (before ++ (xs ++ after)) n d) e ∙ get_or-append-add before (xs ++ after) j d ∙ get_or_append_left xs after d j within

ring_members : (member : ℕ) (points : List Coord) → All (λ (u : EdgeUse). u.member ≡ member) (ring_uses member points)
ring_members member points = All-flat_map (λ (u : EdgeUse). u.member ≡ member) (side_uses member) (sides points) (All-everywhere _ (sides points) (side_members (λ n. n ≡ member) member refl))

-- where the use at the place j of a way that leads back to a goes on to, in the list of all starts
next_start : (a : Coord) (starts before after : List Coord) (uses : List EdgeUse) (from k j : ℕ) (d : EdgeUse) (e : Coord) → Leads a starts uses a → length starts ≡ length uses
    → length before ≡ from → k ≡ from + j → j < length uses
    → IsSegBetween (get_or starts j e) (get_or (before ++ (starts ++ after)) (cond (nat_lt (k + 1) (from + length uses)) (k + 1) from) e) (get_or uses j d).seg
next_start a starts before after uses from k j d e h long even at within =
    let to = from + length uses in
    let reads = λ (i : ℕ) (x : Coord) (place : cond (nat_lt (k + 1) to) (k + 1) from ≡ from + i) (inside : i < length starts) (start : get_or starts i e ≡ x) (ends : IsSegBetween (get_or starts j e) x (get_or uses j d).seg).
    subst (λ (y : Coord). IsSegBetween (get_or starts j e) y (get_or uses j d).seg)
    (sym (ap (λ n. get_or (before ++ (starts ++ after)) n e) place ∙ get_or-middle before starts after (from + i) i e (omega arith) inside ∙ start)) ends in
    elim (cases_Bool (nat_lt (k + 1) to)) [
      | inl more ↦
          let onward : suc j < length uses = omega (arith, ltb-true (k + 1) to more) in
          reads (suc j) (get_or starts (suc j) e) (ap (λ b. cond b (k + 1) from) more ∙ omega arith) (omega arith) refl (leads-next a a starts uses j d e h onward)
      | inr last ↦
          let end : suc j ≡ length uses = omega (arith, ltb-false (k + 1) to last) in
          reads 0 a (ap (λ b. cond b (k + 1) from) last ∙ omega arith) (omega arith) (leads-first a a starts uses e h (omega arith)) (leads-last a a starts uses j d e h end)
    ]

-- the run of a way that leads back to where it begins
round_is_ring : (a : Coord) (member : ℕ) (starts before_starts after_starts : List Coord) (uses before_uses after_uses : List EdgeUse)
    → Leads a starts uses a → All (λ (u : EdgeUse). u.member ≡ member) uses → length before_starts ≡ length before_uses → 0 < length uses
    → IsRing (before_uses ++ (uses ++ after_uses)) (before_starts ++ (starts ++ after_starts)) (record { member = member; from = length before_uses; to = length before_uses + length uses })
round_is_ring a member starts before_starts after_starts uses before_uses after_uses h own even some =
    let from = length before_uses in
    let n = length uses in
    let long = leads-length a a starts uses h in
    record {
      some = omega arith;
      uses_end = omega (arith, length-append before_uses (uses ++ after_uses), length-append uses after_uses);
      starts_end = omega (arith, length-append before_starts (starts ++ after_starts), length-append starts after_starts);
      members = λ k d low high.
          let j = k - from in
          let at : k ≡ from + j = omega arith in
          let within : j < n = omega arith in
          ap (λ (u : EdgeUse). u.member) (get_or-middle before_uses uses after_uses k j d at within) ∙ own j d within;
      closed = λ k d e low high.
          let j = k - from in
          let at : k ≡ from + j = omega arith in
          let at_starts : k ≡ length before_starts + j = omega arith in
          let within : j < n = omega arith in
          let use_is = get_or-middle before_uses uses after_uses k j d at within in
          let start_is = get_or-middle before_starts starts after_starts k j e at_starts (omega arith) in
          subst (λ (u : EdgeUse). IsSegBetween (get_or (before_starts ++ (starts ++ after_starts)) k e) (get_or (before_starts ++ (starts ++ after_starts)) (cond (nat_lt (k + 1) (from + n)) (k + 1) from) e) u.seg) (sym use_is)
          (subst (λ x. IsSegBetween x (get_or (before_starts ++ (starts ++ after_starts)) (cond (nat_lt (k + 1) (from + n)) (k + 1) from) e) (get_or uses j d).seg) (sym start_is)
          (next_start a starts before_starts after_starts uses from k j d e h long even at within));
    }

begun-length : (ring : ℕ × List Coord) → length (begun ring) ≡ length (used ring)
begun-length (member, []) = refl
begun-length (member, a ∷ points) = leads-length a a (ring_starts (a ∷ points)) (ring_uses member (a ∷ points)) (ring_leads member a points)

-- each use has a start
pub starts-length : (rings : List (ℕ × List Coord)) → length (flat_map begun rings) ≡ length (flat_map used rings)
starts-length [] = refl
starts-length (ring ∷ rings) = omega (arith, length-append (begun ring) (flat_map begun rings), length-append (used ring) (flat_map used rings), begun-length ring, starts-length rings)

abbrev whole_run : ℕ → ℕ → ℕ → RingRun
whole_run member from to = record { member = member; from = from; to = to }

ring_is_ring : (ring : ℕ × List Coord) (before_starts after_starts : List Coord) (before_uses after_uses : List EdgeUse) → length before_starts ≡ length before_uses → 0 < length (used ring)
    → IsRing (before_uses ++ (used ring ++ after_uses)) (before_starts ++ (begun ring ++ after_starts)) (whole_run ring.0 (length before_uses) (length before_uses + length (used ring)))
ring_is_ring (member, []) before_starts after_starts before_uses after_uses even some = absurd (omega (arith, some))
ring_is_ring (member, a ∷ points) before_starts after_starts before_uses after_uses even some =
    round_is_ring a member (ring_starts (a ∷ points)) before_starts after_starts (ring_uses member (a ∷ points)) before_uses after_uses
    (ring_leads member a points) (ring_members member (a ∷ points)) even some

run_all : (P : RingRun → Type 0) (member from to : ℕ) (t : Bool) (runs : List RingRun) → nat_lt from to ≡ t → (from < to → P (whole_run member from to)) → All P runs
    → All P (cond t (whole_run member from to ∷ []) [] ++ runs)
run_all P member from to true runs h one rest = All-cons P (whole_run member from to) runs (one (ltb-true from to h)) rest
run_all P member from to false runs h one rest = rest

-- each run goes once round a ring
pub rounds : (rings : List (ℕ × List Coord)) (before_starts : List Coord) (before_uses : List EdgeUse) → length before_starts ≡ length before_uses
    → All (IsRing (before_uses ++ flat_map used rings) (before_starts ++ flat_map begun rings)) (runs_from (length before_uses) rings)
rounds [] before_starts before_uses even = All-nil (IsRing (before_uses ++ []) (before_starts ++ []))
rounds (ring ∷ rings) before_starts before_uses even =
    let from = length before_uses in
    let to = from + length (used ring) in
    let uses = before_uses ++ (used ring ++ flat_map used rings) in
    let starts = before_starts ++ (begun ring ++ flat_map begun rings) in
    let counted = length-append before_uses (used ring) in
    let later = rounds rings (before_starts ++ begun ring) (before_uses ++ used ring) (omega (arith, length-append before_starts (begun ring), counted, begun-length ring)) in
    let rest : All (IsRing uses starts) (runs_from to rings) =
    subst (λ n. All (IsRing uses starts) (runs_from n rings)) counted
    (subst (λ us. All (IsRing us starts) (runs_from (length (before_uses ++ used ring)) rings)) (append_assoc before_uses (used ring) (flat_map used rings))
    (subst (λ ss. All (IsRing ((before_uses ++ used ring) ++ flat_map used rings) ss) (runs_from (length (before_uses ++ used ring)) rings)) (append_assoc before_starts (begun ring) (flat_map begun rings)) later)) in
    run_all (IsRing uses starts) ring.0 from to (nat_lt from to) (runs_from to rings) refl
    (λ some. ring_is_ring ring before_starts (flat_map begun rings) before_uses (flat_map used rings) even (omega (arith, some))) rest
