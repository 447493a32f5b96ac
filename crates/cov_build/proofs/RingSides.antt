-- The sides of the ring that goes back along a closed walk.
use mathlib.Core.List.{List, [], ◌∷◌, ◌++◌, reverse, reverse-cons}
use Rattle.std.proofs.Common.{◌≡◌, refl, sym, ◌∙◌, ap, subst, ℕ, zero, suc, ◌+◌, ◌*◌, ◌<◌, Bool, true, false, length, get_or, take, drop, map, zip, Contains, Some, slice_get, arith}
use Rattle.std.specs.List.Sorted.{IsPermutation}
use Rattle.std.proofs.Math.Seq.{take-suc}
use Rattle.std.proofs.lemmas.List.{take-append-drop, map-append, append_assoc, length-append}
use Rattle.std.proofs.lemmas.List.Sorted.{IsPermutation-sym, IsPermutation-trans, IsPermutation-append_comm, IsPermutation-reverse, IsPermutation-map, Contains-permutation, All-permutation}
use Rattle.cov_types.specs.declared.coord.Coord.{Coord}
use Rattle.cov_types.specs.declared.seg.Seg.{Seg}
use Rattle.cov_types.specs.Coord.{is_before}
use Rattle.cov_types.specs.Uses.{sides}
use Rattle.half_edge.proofs.Counts.{next_begins}
use Rattle.sector_laws.specs.Sector.{HalfEdge, origin, target, twin, half_edges, IsNextNumber}
use Rattle.cov_build.specs.Rings.{IsLeastEnd, IsRingBack}
use Rattle.cov_build.specs.Walks.{first_or, LeadsByNext, IsRound, back_along, ways_back, target_of}

-- ---- walks that begin elsewhere

first-append : (a b : List ℕ) (m : ℕ) → first_or m (a ++ b) ≡ first_or (first_or m b) a
first-append [] b m = refl
first-append (n ∷ a) b m = refl

pub leads_both : (edges : List Seg) (a b : List ℕ) (m : ℕ) → LeadsByNext edges (a ++ b) m → LeadsByNext edges a (first_or m b) × LeadsByNext edges b m
leads_both edges [] b m leads = (tt, leads)
leads_both edges (n ∷ a) b m leads = (let rest = leads_both edges a b m leads.1 in ((subst (IsNextNumber edges n) (first-append a b m) leads.0, rest.0), rest.1))

leads-append : (edges : List Seg) (a b : List ℕ) (m : ℕ) → LeadsByNext edges a (first_or m b) → LeadsByNext edges b m → LeadsByNext edges (a ++ b) m
leads-append edges [] b m first second = second
leads-append edges (n ∷ a) b m first second = (subst (IsNextNumber edges n) (sym (first-append a b m)) first.0, leads-append edges a b m first.1 second)

pub exchanged : (edges : List Seg) (a b : List ℕ) → LeadsByNext edges (a ++ b) (first_or 0 (a ++ b)) → LeadsByNext edges (b ++ a) (first_or 0 (b ++ a))
exchanged edges [] b leads = subst (λ w. LeadsByNext edges w (first_or 0 w)) (sym (let P = λ (xs : List ℕ). xs in nil_end b)) leads
  where
    nil_end : (xs : List ℕ) → xs ++ [] ≡ xs
    nil_end [] = refl
    nil_end (x ∷ xs) = ap (λ ys. x ∷ ys) (nil_end xs)
exchanged edges (n ∷ a) [] leads = subst (λ w. LeadsByNext edges w n) (nil_end (n ∷ a)) leads
  where
    nil_end : (xs : List ℕ) → xs ++ [] ≡ xs
    nil_end [] = refl
    nil_end (x ∷ xs) = ap (λ ys. x ∷ ys) (nil_end xs)
exchanged edges (n ∷ a) (k ∷ b) leads = (let both = leads_both edges (n ∷ a) (k ∷ b) n leads in leads-append edges (k ∷ b) (n ∷ a) k both.1 both.0)

-- ---- chains of ways

start_of : Coord → List (Coord × Coord) → Coord
start_of c [] = c
start_of c (w ∷ ws) = w.0

abbrev Chains : List (Coord × Coord) → Coord → Type 0
Chains [] c = Unit {0}
Chains (w ∷ ws) c = (w.1 ≡ start_of c ws) × Chains ws c

zip_chain : (ws : List (Coord × Coord)) (c : Coord) → Chains ws c → zip (map (λ w. w.0) ws) (drop 1 (map (λ w. w.0) ws) ++ c ∷ []) ≡ ws
unfolding start_of
zip_chain [] c chains = refl
zip_chain (w ∷ []) c chains = (λ i. (w.0, sym chains.0 i) ∷ [])
zip_chain (w ∷ v ∷ ws) c chains = (λ i. (w.0, sym chains.0 i) ∷ zip_chain (v ∷ ws) c chains.1 i)

chain-push : (ws : List (Coord × Coord)) (v : Coord × Coord) (c : Coord) → Chains ws v.0 → v.1 ≡ c → Chains (ws ++ v ∷ []) c
unfolding start_of
chain-push [] v c chains last = (last, tt)
chain-push (w ∷ []) v c chains last = (chains.0, (last, tt))
chain-push (w ∷ u ∷ ws) v c chains last = (chains.0, chain-push (u ∷ ws) v c chains.1 last)

-- the sides of a closed chain
closed_sides : (ws : List (Coord × Coord)) (c : Coord) → Chains ws c → start_of c ws ≡ c → sides (map (λ w. w.0) ws) ≡ ws
unfolding start_of
closed_sides [] c chains closed = refl
closed_sides (w ∷ ws) c chains closed = ap (λ p. zip (map (λ v. v.0) (w ∷ ws)) (map (λ v. v.0) ws ++ p ∷ [])) closed ∙ zip_chain (w ∷ ws) c chains

pub origin-twin : (g : HalfEdge) → origin (twin g) ≡ target g
origin-twin g = by g.forwards
  where
    by : (b : Bool) → origin (twin (record { edge = g.edge; forwards = b })) ≡ target (record { edge = g.edge; forwards = b })
    by true = refl
    by false = refl

-- ---- the ways back along a walk

origin_of : List Seg → ℕ → Coord
origin_of edges n = (back_along (slice_get (half_edges edges) n)).1

joins : (edges : List Seg) (n m : ℕ) → IsNextNumber edges n m → origin_of edges m ≡ target_of edges n
unfolding origin_of
joins edges n m next =
    ap (λ o. (back_along o).1) next.to_is ∙ next_begins edges n m next next.from next.to next.from_is next.to_is ∙ ap (λ o. (back_along o).0) (sym next.from_is)

back_chains : (edges : List Seg) (way : List ℕ) (m : ℕ) → LeadsByNext edges way m → Chains (ways_back edges (reverse way)) (origin_of edges (first_or m way))
unfolding origin_of
back_chains edges [] m leads = tt
back_chains edges (n ∷ way) m leads =
    let rest = subst (Chains (ways_back edges (reverse way))) (joins edges n (first_or m way) leads.0) (back_chains edges way m leads.1) in
    subst (λ ws. Chains ws (origin_of edges n)) (sym (ap (ways_back edges) (reverse-cons n way) ∙ map-append (λ k. back_along (slice_get (half_edges edges) k)) (reverse way) (n ∷ [])))
    (chain-push (ways_back edges (reverse way)) (back_along (slice_get (half_edges edges) n)) (origin_of edges n) rest refl)

start-append : (ws : List (Coord × Coord)) (v : Coord × Coord) (c : Coord) → start_of c (ws ++ v ∷ []) ≡ start_of v.0 ws
unfolding start_of
start-append [] v c = refl
start-append (w ∷ ws) v c = refl

back_starts : (edges : List Seg) (way : List ℕ) (m : ℕ) → LeadsByNext edges way m → start_of (origin_of edges m) (ways_back edges (reverse way)) ≡ origin_of edges m
unfolding start_of
back_starts edges [] m leads = refl
back_starts edges (n ∷ []) m leads = sym (joins edges n m leads.0)
back_starts edges (n ∷ k ∷ way) m leads =
    let rest = back_starts edges (k ∷ way) m leads.1 in
    ap (start_of (origin_of edges m)) (ap (ways_back edges) (reverse-cons n (k ∷ way)) ∙ map-append (λ j. back_along (slice_get (half_edges edges) j)) (reverse (k ∷ way)) (n ∷ []))
    ∙ start-append (ways_back edges (reverse (k ∷ way))) (back_along (slice_get (half_edges edges) n)) (origin_of edges m)
    ∙ some_start (reverse (k ∷ way)) (target_of edges n) (origin_of edges m) (some_reverse k way) ∙ rest
  where
    some_reverse : (k : ℕ) (way : List ℕ) → 0 < length (reverse (k ∷ way))
    some_reverse k way = (let split = ap length (reverse-cons k way) ∙ length-append (reverse way) (k ∷ []) in omega (arith, split))

    some_start : (ns : List ℕ) (c d : Coord) → 0 < length ns → start_of c (ways_back edges ns) ≡ start_of d (ways_back edges ns)
    some_start [] c d less = absurd (omega arith)
    some_start (j ∷ ns) c d less = refl

targets_are : (edges : List Seg) (ns : List ℕ) → map (λ (w : Coord × Coord). w.0) (ways_back edges ns) ≡ map (target_of edges) ns
targets_are edges [] = refl
targets_are edges (n ∷ ns) = ap (λ ps. target_of edges n ∷ ps) (targets_are edges ns)

-- the ring back along a closed walk
pub back_sides : (edges : List Seg) (way : List ℕ) → LeadsByNext edges way (first_or 0 way) → sides (map (target_of edges) (reverse way)) ≡ ways_back edges (reverse way)
back_sides edges way leads =
    ap sides (sym (targets_are edges (reverse way)))
    ∙ closed_sides (ways_back edges (reverse way)) (origin_of edges (first_or 0 way)) (chains_end way leads) (back_starts edges way (first_or 0 way) leads)
  where
    chains_end : (w : List ℕ) → LeadsByNext edges w (first_or 0 w) → Chains (ways_back edges (reverse w)) (origin_of edges (first_or 0 w))
    chains_end [] l = tt
    chains_end (n ∷ w) l = back_chains edges (n ∷ w) n l

-- ---- the ring that begins at its least point

first_reverse : (xs : List ℕ) (x : ℕ) (ys : List ℕ) → reverse (ys ++ xs ++ x ∷ []) ≡ x ∷ reverse (ys ++ xs)
first_reverse xs x [] = reverse-end xs x
  where
    reverse-end : (xs : List ℕ) (x : ℕ) → reverse (xs ++ x ∷ []) ≡ x ∷ reverse xs
    reverse-end [] x = refl
    reverse-end (y ∷ xs) x = reverse-cons y (xs ++ x ∷ []) ∙ ap (λ zs. zs ++ y ∷ []) (reverse-end xs x) ∙ ap (λ zs. x ∷ zs) (sym (reverse-cons y xs))
first_reverse xs x (y ∷ ys) = reverse-cons y (ys ++ xs ++ x ∷ []) ∙ ap (λ zs. zs ++ y ∷ []) (first_reverse xs x ys) ∙ ap (λ zs. x ∷ zs) (sym (reverse-cons y (ys ++ xs)))

contains_map : (edges : List Seg) (ns : List ℕ) (p : Coord) → Contains (map (target_of edges) ns) p → (n : ℕ) × (Contains ns n × (target_of edges n ≡ p))
contains_map edges [] p c = absurd (omega (arith, c.1))
contains_map edges (n ∷ ns) p (zero, below, is) = (n, ((0, omega arith, refl), is))
contains_map edges (n ∷ ns) p (suc k, below, is) = (let rest = contains_map edges ns p (k, omega arith, is) in (rest.0, ((suc rest.1.0.0, (let less = rest.1.0.1 in omega (arith, less)), rest.1.0.2), rest.1.1)))

-- the walk from the half-edge after the one at the place on
abbrev pub turned_walk : List ℕ → ℕ → List ℕ
turned_walk way last = drop (last + 1) way ++ take (last + 1) way

pub turned_leads : (edges : List Seg) (way : List ℕ) (last : ℕ) → IsRound edges way → LeadsByNext edges (turned_walk way last) (first_or 0 (turned_walk way last))
turned_leads edges way last round = exchanged edges (take (last + 1) way) (drop (last + 1) way) (subst (λ w. LeadsByNext edges w (first_or 0 w)) (sym (take-append-drop (last + 1) way)) round.leads)

pub turned_ends : (way : List ℕ) (last : ℕ) → last < length way → turned_walk way last ≡ (drop (last + 1) way ++ take last way) ++ get_or way last 0 ∷ []
turned_ends way last within =
    let ends : take (last + 1) way ≡ take last way ++ get_or way last 0 ∷ [] = ap (λ n. take n way) (let one : last + 1 ≡ suc last = omega arith in one) ∙ take-suc way last 0 within in
    ap (λ xs. drop (last + 1) way ++ xs) ends ∙ sym (append_assoc (drop (last + 1) way) (take last way) (get_or way last 0 ∷ []))

pub turned_front : (way : List ℕ) (last : ℕ) → last < length way → reverse (turned_walk way last) ≡ get_or way last 0 ∷ reverse (drop (last + 1) way ++ take last way)
turned_front way last within = ap reverse (turned_ends way last within) ∙ first_reverse (take last way) (get_or way last 0) (drop (last + 1) way)

pub ring_is : (edges : List Seg) (way : List ℕ) (last : ℕ) → IsRound edges way → last < length way → IsLeastEnd edges way last
    → (points : List Coord) → points ≡ map (target_of edges) (reverse (turned_walk way last)) → IsRingBack edges way points
ring_is edges way last round within least points is =
    let turned : List ℕ = turned_walk way last in
    let leads : LeadsByNext edges turned (first_or 0 turned) = turned_leads edges way last round in
    let same : IsPermutation (reverse turned) way = IsPermutation-trans (reverse turned) turned way (IsPermutation-sym turned (reverse turned) (IsPermutation-reverse turned))
    (subst (IsPermutation turned) (take-append-drop (last + 1) way) (IsPermutation-append_comm (drop (last + 1) way) (take (last + 1) way))) in
    let front : reverse turned ≡ get_or way last 0 ∷ reverse (drop (last + 1) way ++ take last way) = turned_front way last within in
    let points_are : points ≡ target_of edges (get_or way last 0) ∷ map (target_of edges) (reverse (drop (last + 1) way ++ take last way)) = is ∙ ap (map (target_of edges)) front in
    record {
      sides = subst (λ ws. IsPermutation ws (ways_back edges way)) (sym (ap sides is ∙ back_sides edges turned leads)) (IsPermutation-map (λ n. back_along (slice_get (half_edges edges) n)) (reverse turned) way same);
      least = λ p q first has. (
          let is_first : target_of edges (get_or way last 0) ≡ p = one_first points p points_are first in
          let (n, (there, end)) = contains_map edges (reverse turned) q (subst (λ ps. Contains ps q) is has) in
          ap (λ c. is_before c p) (sym end) ∙ ap (is_before (target_of edges n)) (sym is_first) ∙ least n (Contains-permutation (reverse turned) way n same there)
          );
      some = (let long = ap length points_are in omega (arith, long));
    }
  where
    some_same : (a b : Coord) → Some a ≡ Some b → a ≡ b
    some_same a b h = (let o : Coord × Coord = (a, b) in cc)

    one_first : {c : Coord} {cs : List Coord} (points : List Coord) (p : Coord) → points ≡ c ∷ cs → slice_get points 0 ≡ Some p → c ≡ p
    one_first {c} points p are first = some_same c p (sym (ap (λ xs. slice_get xs 0) are) ∙ first)

-- ---- the points as they are listed

pub turned_within : (edges : List Seg) (way : List ℕ) (last : ℕ) (items : List ℕ) → ((k d : ℕ) → k < length way → get_or way k d < 2 * length edges)
    → items ≡ reverse (drop (last + 1) way ++ take (last + 1) way) → (k d : ℕ) → k < length items → get_or items k d < 2 * length edges
turned_within edges way last items within is =
    let turned : List ℕ = drop (last + 1) way ++ take (last + 1) way in
    All-permutation (λ n. n < 2 * length edges) way items (subst (IsPermutation way) (sym is) (IsPermutation-trans way turned (reverse turned)
    (IsPermutation-sym turned way (subst (IsPermutation turned) (take-append-drop (last + 1) way) (IsPermutation-append_comm (drop (last + 1) way) (take (last + 1) way)))) (IsPermutation-reverse turned))) within

pub points_more : (edges : List Seg) (items : List ℕ) (k : ℕ) (p : Coord) (points after : List Coord) → k < length items → p ≡ target_of edges (get_or items k 0)
    → points ≡ map (target_of edges) (take k items) → after ≡ points ++ p ∷ [] → after ≡ map (target_of edges) (take (k + 1) items)
points_more edges items k p points after within is so_far pushed =
    pushed ∙ (λ i. so_far i ++ is i ∷ []) ∙ sym (map-append (target_of edges) (take k items) (get_or items k 0 ∷ []))
    ∙ ap (map (target_of edges)) (sym (take-suc items k 0 within)) ∙ ap (λ n. map (target_of edges) (take n items)) (let one : suc k ≡ k + 1 = omega arith in one)
