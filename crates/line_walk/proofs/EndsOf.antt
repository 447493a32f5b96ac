-- The ends of edges, as a list: one more edge, which ends there are, and how many at a vertex.
use mathlib.Core.List.{[], ◌∷◌, ◌++◌}
use Rattle.std.proofs.Common.{◌≡◌, ◌≢◌, refl, sym, ◌∙◌, ap, subst, ℕ, zero, suc, ◌+◌, ◌<◌, ◌≤◌, ◌&&◌, ◌||◌, eqb, Bool, true, false, cond, List, length, get_or, take, Some, inl, inr, arith}
use Rattle.std.specs.Prelude.{Contains, slice_get, count_by, IsPermutation}
use Rattle.std.proofs.lemmas.Bool.{cases_order, false≢true, and_parts, false_from_ne_true}
use Rattle.std.proofs.lemmas.Bool.Decides.{Decides-eqb}
use Rattle.std.proofs.lemmas.List.{take_more, length-take-le}
use Rattle.std.proofs.lemmas.List.Sums.{sum_by-cons}
use Rattle.std.proofs.lemmas.List.Sorted.{sum_by-IsPermutation, sorted_far, ranks_by}
use Rattle.std.proofs.lemmas.Option.{slice_get_within, get_or_from_slice_get, same_Some, none-some}
use Rattle.std.specs.Cmp.{IsStrictWeakOrder}
use Rattle.std.specs.List.Sorted.{IsSortedByKey}
use Rattle.std.specs.Ordering.{is_lt}
use Rattle.cov_types.specs.declared.coord.Coord.{Coord}
use Rattle.cov_types.specs.declared.seg.Seg.{Seg}
use Rattle.cov_types.specs.Coord.{is_same_coord, coord_cmp}
use Rattle.cov_types.proofs.Equal.{Decides-same_coords}
use Rattle.cov_types.proofs.SegOrder.{coord_cmp_total, is_lt-coord_cmp}
use Rattle.greedy_run.specs.Lines.{degree}
use Rattle.greedy_run.proofs.Threads.{no_loop}
use Rattle.greedy_run.proofs.Trails.{contains_here, contains_there}
use Rattle.line_walk.specs.declared.edge_end.EdgeEnd.{EdgeEnd}
use Rattle.line_walk.specs.Ends.{AreEndsGrouped, ends_from, ends_at_vertex}
use Rattle.line_walk.specs.Partners.{IsAtVertex}

-- ---- one more edge

pub ends_more : (es : List Seg) (e : Seg) (k : ℕ) → ends_from k (es ++ e ∷ []) ≡ (ends_from k es ++ record { vertex = e.lo; edge = k + length es } ∷ []) ++ record { vertex = e.hi; edge = k + length es } ∷ []
ends_more [] e k = (let z : k ≡ k + 0 = omega arith in ap {A = ℕ} {B = List EdgeEnd} (λ n. record { vertex = e.lo; edge = n } ∷ record { vertex = e.hi; edge = n } ∷ []) z)
ends_more (d ∷ es) e k =
    let z : (k + 1) + length es ≡ k + suc (length es) = omega arith in
    ap {A = List EdgeEnd} {B = List EdgeEnd} (λ ends. record { vertex = d.lo; edge = k } ∷ record { vertex = d.hi; edge = k } ∷ ends)
    (ends_more es e (k + 1) ∙ ap {A = ℕ} {B = List EdgeEnd} (λ n. (ends_from (k + 1) es ++ record { vertex = e.lo; edge = n } ∷ []) ++ record { vertex = e.hi; edge = n } ∷ []) z)

pub ends_step : (edges : List Seg) (k : ℕ) (e : Seg) → slice_get edges k ≡ Some e
    → ends_from 0 (take (k + 1) edges) ≡ (ends_from 0 (take k edges) ++ record { vertex = e.lo; edge = k } ∷ []) ++ record { vertex = e.hi; edge = k } ∷ []
ends_step edges k e at =
    let within = slice_get_within edges k e at in
    let z : 0 + length (take k edges) ≡ k = omega (arith, length-take-le k edges (omega arith)) in
    ap (ends_from 0) (take_more edges k e within ∙ ap (λ f. take k edges ++ f ∷ []) (get_or_from_slice_get edges k e e at))
    ∙ ends_more (take k edges) e 0
    ∙ ap {A = ℕ} {B = List EdgeEnd} (λ n. (ends_from 0 (take k edges) ++ record { vertex = e.lo; edge = n } ∷ []) ++ record { vertex = e.hi; edge = n } ∷ []) z

-- ---- which there are

-- each is an end of its edge
pub record IsEndOfEdge (k : ℕ) (es : List Seg) (d : EdgeEnd) : Type 0 where
  pub place : ℕ
  pub edge : Seg
  pub at : slice_get es place ≡ Some edge
  pub numbered : d.edge ≡ k + place
  pub end : IsAtVertex edge d.vertex

later_end : (e : Seg) (k : ℕ) (es : List Seg) (d : EdgeEnd) → IsEndOfEdge (k + 1) es d → IsEndOfEdge k (e ∷ es) d
later_end e k es d h = record { place = suc h.place; edge = h.edge; at = h.at; numbered = (let n = h.numbered in omega (arith, n)); end = h.end }

pub end_of_edge : (k : ℕ) (es : List Seg) (i : ℕ) (d : EdgeEnd) → slice_get (ends_from k es) i ≡ Some d → IsEndOfEdge k es d
end_of_edge k [] i d at = absurd (none-some d at)
end_of_edge k (e ∷ es) zero d at =
    let is = same_Some _ d at in
    record { place = 0; edge = e; at = refl; numbered = (let n = sym (ap (λ (x : EdgeEnd). x.edge) is) in omega (arith, n)); end = inl (ap (λ (x : EdgeEnd). x.vertex) is) }
end_of_edge k (e ∷ es) (suc zero) d at =
    let is = same_Some _ d at in
    record { place = 0; edge = e; at = refl; numbered = (let n = sym (ap (λ (x : EdgeEnd). x.edge) is) in omega (arith, n)); end = inr (ap (λ (x : EdgeEnd). x.vertex) is) }
end_of_edge k (e ∷ es) (suc (suc i)) d at = later_end e k es d (end_of_edge (k + 1) es i d at)

-- both ends of each edge are there
pub has_ends : (k : ℕ) (es : List Seg) (i : ℕ) (e : Seg) → slice_get es i ≡ Some e → (v : Coord) → IsAtVertex e v → Contains (ends_from k es) (record { vertex = v; edge = k + i })
has_ends k [] i e at v end = absurd (none-some e at)
has_ends k (f ∷ es) zero e at v end = by (subst (λ g. IsAtVertex g v) (sym (same_Some f e at)) end)
  where
    z : k ≡ k + 0
    z = omega arith

    by : IsAtVertex f v → Contains (ends_from k (f ∷ es)) (record { vertex = v; edge = k + 0 })
    by (inl lo) = subst {A = EdgeEnd} (Contains (ends_from k (f ∷ es))) (λ i. record { vertex = lo i; edge = z i }) (contains_here (record { vertex = f.lo; edge = k }) (record { vertex = f.hi; edge = k } ∷ ends_from (k + 1) es))
    by (inr hi) = subst {A = EdgeEnd} (Contains (ends_from k (f ∷ es))) (λ i. record { vertex = hi i; edge = z i })
        (contains_there (record { vertex = f.lo; edge = k }) (record { vertex = f.hi; edge = k } ∷ ends_from (k + 1) es) (record { vertex = f.hi; edge = k }) (contains_here (record { vertex = f.hi; edge = k }) (ends_from (k + 1) es)))
has_ends k (f ∷ es) (suc i) e at v end =
    let z : (k + 1) + i ≡ k + suc i = omega arith in
    subst {A = ℕ} (λ n. Contains (ends_from k (f ∷ es)) (record { vertex = v; edge = n })) z
    (contains_there (record { vertex = f.lo; edge = k }) (record { vertex = f.hi; edge = k } ∷ ends_from (k + 1) es) (record { vertex = v; edge = (k + 1) + i })
    (contains_there (record { vertex = f.hi; edge = k }) (ends_from (k + 1) es) (record { vertex = v; edge = (k + 1) + i }) (has_ends (k + 1) es i e at v end)))

-- ---- how many at a vertex

-- as many as edges end there
pub ends-degree : (es : List Seg) (k : ℕ) (v : Coord) → ends_at_vertex (ends_from k es) v ≡ degree es v
ends-degree [] k v = refl
ends-degree (e ∷ es) k v =
    let lo : EdgeEnd = record { vertex = e.lo; edge = k } in
    let hi : EdgeEnd = record { vertex = e.hi; edge = k } in
    let first = sum_by-cons (λ (d : EdgeEnd). cond {A = ℕ} (is_same_coord d.vertex v) 1 0) lo (hi ∷ ends_from (k + 1) es) in
    let second = sum_by-cons (λ (d : EdgeEnd). cond {A = ℕ} (is_same_coord d.vertex v) 1 0) hi (ends_from (k + 1) es) in
    let both = sum_by-cons (λ (s : Seg). cond {A = ℕ} (is_same_coord s.lo v || is_same_coord s.hi v) 1 0) e es in
    let one = one_end (is_same_coord e.lo v) (is_same_coord e.hi v) (λ l h. no_loop v e (inl ((Decides-same_coords e.lo v).0 l, (Decides-same_coords e.hi v).0 h))) in
    let rest = ends-degree es (k + 1) v in
    omega (arith, first, second, both, one, rest)
  where
    one_end : (a b : Bool) → (a ≡ true → b ≡ true → ⊥) → cond {A = ℕ} (a || b) 1 0 ≡ cond {A = ℕ} a 1 0 + cond {A = ℕ} b 1 0
    one_end true true apart = absurd (apart refl refl)
    one_end true false apart = refl
    one_end false true apart = refl
    one_end false false apart = refl

pub permuted-degree : (es : List Seg) (ends : List EdgeEnd) → IsPermutation (ends_from 0 es) ends → (v : Coord) → ends_at_vertex ends v ≡ degree es v
permuted-degree es ends moved v = sum_by-IsPermutation (λ (d : EdgeEnd). cond {A = ℕ} (is_same_coord d.vertex v) 1 0) (ends_from 0 es) ends moved ∙ ends-degree es 0 v

-- ---- no end is there twice

abbrev pub is_end : Coord → ℕ → EdgeEnd → Bool
is_end v k d = is_same_coord d.vertex v && eqb d.edge k

step : (v : Coord) (k : ℕ) (d : EdgeEnd) (ds : List EdgeEnd) → count_by (is_end v k) (d ∷ ds) ≡ cond {A = ℕ} (is_end v k d) 1 0 + count_by (is_end v k) ds
step v k d ds = sum_by-cons (λ (d : EdgeEnd). cond {A = ℕ} (is_end v k d) 1 0) d ds

other_edge : (v : Coord) (k : ℕ) (d : EdgeEnd) → d.edge ≢ k → cond {A = ℕ} (is_end v k d) 1 0 ≡ 0
other_edge v k d differs = ap (λ b. cond {A = ℕ} b 1 0) (false_from_ne_true (is_end v k d) (λ h. differs ((Decides-eqb d.edge k).0 (and_parts _ _ h).1)))

none_earlier : (es : List Seg) (v : Coord) (k j : ℕ) → j < k → count_by (is_end v j) (ends_from k es) ≡ 0
none_earlier [] v k j less = refl
none_earlier (e ∷ es) v k j less =
    let lo : EdgeEnd = record { vertex = e.lo; edge = k } in
    let hi : EdgeEnd = record { vertex = e.hi; edge = k } in
    let a = other_edge v j lo (λ same. omega (arith, same, less)) in
    let b = other_edge v j hi (λ same. omega (arith, same, less)) in
    omega (arith, step v j lo (hi ∷ ends_from (k + 1) es), step v j hi (ends_from (k + 1) es), a, b, none_earlier es v (k + 1) j (omega arith))

once : (es : List Seg) (v : Coord) (k j : ℕ) → count_by (is_end v j) (ends_from k es) ≤ 1
once [] v k j = omega arith
once (e ∷ es) v k j = elim (cases_order k j) [
  | inl same ↦ (
      let lo : EdgeEnd = record { vertex = e.lo; edge = k } in
      let hi : EdgeEnd = record { vertex = e.hi; edge = k } in
      let rest = none_earlier es v (k + 1) j (omega (arith, same)) in
      let one = at_most_one (is_same_coord e.lo v) (is_same_coord e.hi v) (eqb k j) (λ l h. no_loop v e (inl ((Decides-same_coords e.lo v).0 l, (Decides-same_coords e.hi v).0 h))) in
      omega (arith, step v j lo (hi ∷ ends_from (k + 1) es), step v j hi (ends_from (k + 1) es), one, rest))
  | inr apart ↦ (
      let lo : EdgeEnd = record { vertex = e.lo; edge = k } in
      let hi : EdgeEnd = record { vertex = e.hi; edge = k } in
      let differs : k ≢ j = λ same. elim apart [ inl less ↦ omega (arith, same, less) | inr more ↦ omega (arith, same, more) ] in
      let a = other_edge v j lo differs in
      let b = other_edge v j hi differs in
      omega (arith, step v j lo (hi ∷ ends_from (k + 1) es), step v j hi (ends_from (k + 1) es), a, b, once es v (k + 1) j))
]
  where
    at_most_one : (a b c : Bool) → (a ≡ true → b ≡ true → ⊥) → cond {A = ℕ} (a && c) 1 0 + cond {A = ℕ} (b && c) 1 0 ≤ 1
    at_most_one true true c apart = absurd (apart refl refl)
    at_most_one true false true apart = omega arith
    at_most_one true false false apart = omega arith
    at_most_one false true true apart = omega arith
    at_most_one false true false apart = omega arith
    at_most_one false false c apart = omega arith

itself : (v : Coord) (k : ℕ) (d : EdgeEnd) → d ≡ record { vertex = v; edge = k } → cond {A = ℕ} (is_end v k d) 1 0 ≡ 1
itself v k d is = ap (λ b. cond {A = ℕ} b 1 0) (both _ _ ((Decides-same_coords d.vertex v).1 (ap (λ (x : EdgeEnd). x.vertex) is)) ((Decides-eqb d.edge k).1 (ap (λ (x : EdgeEnd). x.edge) is)))
  where
    both : (a b : Bool) → a ≡ true → b ≡ true → (a && b) ≡ true
    both true true h k = refl
    both true false h k = absurd (false≢true k)
    both false b h k = absurd (false≢true h)

some_times : (v : Coord) (k : ℕ) (ends : List EdgeEnd) (i : ℕ) → slice_get ends i ≡ Some (record { vertex = v; edge = k }) → 1 ≤ count_by (is_end v k) ends
some_times v k [] i at = absurd (none-some _ at)
some_times v k (d ∷ ds) zero at = (let one = itself v k d (same_Some d _ at) in omega (arith, step v k d ds, one))
some_times v k (d ∷ ds) (suc i) at = (let rest = some_times v k ds i at in omega (arith, step v k d ds, rest))

twice : (v : Coord) (k : ℕ) (ends : List EdgeEnd) (i j : ℕ) → i < j → slice_get ends i ≡ Some (record { vertex = v; edge = k }) → slice_get ends j ≡ Some (record { vertex = v; edge = k }) → 2 ≤ count_by (is_end v k) ends
twice v k [] i j less at at_j = absurd (none-some _ at)
twice v k (d ∷ ds) i zero less at at_j = absurd (omega arith)
twice v k (d ∷ ds) zero (suc j) less at at_j = (let one = itself v k d (same_Some d _ at) in let rest = some_times v k ds j at_j in omega (arith, step v k d ds, one, rest))
twice v k (d ∷ ds) (suc i) (suc j) less at at_j = (let rest = twice v k ds i j (omega arith) at at_j in omega (arith, step v k d ds, rest))

-- the same end stands at one place alone
pub one_place : (es : List Seg) (ends : List EdgeEnd) → IsPermutation (ends_from 0 es) ends → (v : Coord) (k i j : ℕ) → slice_get ends i ≡ Some (record { vertex = v; edge = k }) → slice_get ends j ≡ Some (record { vertex = v; edge = k }) → i ≡ j
one_place es ends moved v k i j at at_j =
    let same = sum_by-IsPermutation (λ (d : EdgeEnd). cond {A = ℕ} (is_end v k d) 1 0) (ends_from 0 es) ends moved in
    let most = once es v 0 k in
    elim (cases_order i j) [
      | inl it ↦ it
      | inr apart ↦ elim apart [
        | inl less ↦ absurd (omega (arith, same, most, twice v k ends i j less at at_j))
        | inr more ↦ absurd (omega (arith, same, most, twice v k ends j i more at_j at))
      ]
    ]

-- ---- sorted by vertices

vertex_weak : IsStrictWeakOrder (λ (d e : EdgeEnd). is_lt (coord_cmp d.vertex e.vertex))
vertex_weak = ranks_by coord_cmp_total (λ (d : EdgeEnd). d.vertex)

pub together : (ends : List EdgeEnd) → IsSortedByKey (λ (d : EdgeEnd). d.vertex) coord_cmp ends → AreEndsGrouped ends
together ends sorted i j d before within =
    sym (is_lt-coord_cmp (get_or ends j d).vertex (get_or ends i d).vertex) ∙ sorted_far (λ (a b : EdgeEnd). is_lt (coord_cmp a.vertex b.vertex)) vertex_weak ends sorted i j d (omega arith) within
