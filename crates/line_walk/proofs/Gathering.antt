-- The lines that are found, and the edges that are seen.
use mathlib.Core.List.{[], ◌∷◌, ◌++◌}
use Rattle.std.proofs.Common.{◌≡◌, ◌≢◌, refl, sym, ◌∙◌, ap, subst, ℕ, zero, suc, ◌+◌, ◌<◌, ◌≤◌, ◌↔◌, Bool, true, false, List, length, get_or, replicate, IsTrue, Ordering, Some, inl, inr, arith}
use Rattle.std.specs.Prelude.{All, AllPairs, Contains, slice_get, option_map}
use Rattle.std.specs.Cmp.{IsStrictWeakOrder, both_ways}
use Rattle.std.specs.Cmp.Lexicographic.{pointwise}
use Rattle.std.specs.Global.{Vec}
use Rattle.std.specs.List.Sorted.{IsPermutation, IsSortedBy}
use Rattle.std.specs.declared.cmp.Ordering.TheVariants.{Less, Equal, Greater}
use Rattle.std.specs.Ordering.{is_lt, is_le, ordering_reverse}
use Rattle.std.proofs.lemmas.Bool.{cases_order, true≢false}
use Rattle.std.proofs.lemmas.List.{length-map, map-append, get_or-replicate, length-replicate}
use Rattle.std.proofs.lemmas.List.Elements.{All-nil, All-push, All-contains, All-tail, Contains-push, Contains-push_cases, Contains-append_left}
use Rattle.std.proofs.lemmas.List.Kept.{AllPairs-cons}
use Rattle.std.proofs.lemmas.List.Sorted.{IsPermutation-map, All-permutation, Contains-permutation, sorted_far, ranks_by}
use Rattle.std.proofs.lemmas.Map.Keys.{IsDistinct-IsPermutation}
use Rattle.std.proofs.lemmas.Map.Made.{AllPairs-from_IsDistinct, IsDistinct-from_AllPairs}
use Rattle.std.proofs.lemmas.Option.{slice_get-map, slice_get_within, slice_get-get_or, get_or_from_slice_get}
use Rattle.std.proofs.lemmas.Slice.Eq.{slice_eq-Decides}
use Rattle.cov_types.specs.declared.coord.Coord.{Coord}
use Rattle.cov_types.specs.declared.seg.Seg.{Seg}
use Rattle.cov_types.specs.Coord.{is_same_coord, points_cmp}
use Rattle.cov_types.proofs.Equal.{Decides-same_coords}
use Rattle.plane.specs.Snapping.{chain_edges}
use Rattle.arrangement.specs.Noding.{IsAscending}
use Rattle.arrangement.proofs.PointOrders.{points_total, points_same}
use Rattle.greedy_run.specs.Lines.{IsLine, AreLines, PathsAscend}
use Rattle.greedy_run.proofs.OneLine.{common_edge, covering}
use Rattle.line_walk.specs.Line.{plain_lists, IsFirstOfLine, IsLineWith, AreLinesUnsorted, IsMarkedBy}
use Rattle.line_walk.specs.Walk.{IsAtPlaces}
use Rattle.line_walk.proofs.Walking.{places_apart}

-- ---- one more element after all others

head_pairs : {X : Type 0} (R : X → X → Type 0) (x : X) (xs : List X) → AllPairs R (x ∷ xs) → All (R x) xs
head_pairs R x xs h j d within = h 0 (suc j) d (omega arith) (omega arith)

tail_pairs : {X : Type 0} (R : X → X → Type 0) (x : X) (xs : List X) → AllPairs R (x ∷ xs) → AllPairs R xs
tail_pairs R x xs h i j d less within = h (suc i) (suc j) d (omega arith) (omega arith)

pub pairs_push : {X : Type 0} (R : X → X → Type 0) (xs : List X) (y : X) → AllPairs R xs → All (λ x. R x y) xs → AllPairs R (xs ++ y ∷ [])
pairs_push R [] y h all = λ i j d less within. absurd (omega arith)
pairs_push R (x ∷ xs) y h all = AllPairs-cons R x (xs ++ y ∷ []) (All-push (R x) xs y (head_pairs R x xs h) (all 0 x (omega arith))) (pairs_push R xs y (tail_pairs R x xs h) (All-tail (λ z. R z y) x xs all))

pub some_at : {X : Type 0} (xs : List X) (k : ℕ) → k < length xs → (x : X) × (slice_get xs k ≡ Some x)
some_at [] k inside = absurd (omega arith)
some_at (x ∷ xs) zero inside = (x, refl)
some_at (x ∷ xs) (suc k) inside = some_at xs k (omega arith)

-- ---- the lines so far

-- the edge is on one of the lines
abbrev pub IsOnOne : List (List Coord) → Seg → Type 0
IsOnOne lines e = (points : List Coord) × (Contains lines points × Contains (chain_edges points) e)

-- the lines of the first so many edges, whose edges are seen
pub record AreLinesTo (edges : List Seg) (count : ℕ) (seen : List Bool) (lines : List (List Coord)) : Type 0 where
  pub size : length seen ≡ length edges
  pub each : All (IsLine edges) lines
  pub exact : (k : ℕ) (e : Seg) → slice_get edges k ≡ Some e → (slice_get seen k ≡ Some true) ↔ IsOnOne lines e
  pub before : (k : ℕ) → k < count → slice_get seen k ≡ Some true
  pub once : AllPairs (λ l m. l ≢ m) lines

none_seen : (n k : ℕ) → slice_get (replicate n false) k ≡ Some true → ⊥
none_seen n k at =
    let within = slice_get_within (replicate n false) k true at in
    let inside : k < n = omega (arith, within, length-replicate n false) in
    true≢false (sym (get_or_from_slice_get (replicate n false) k true false at) ∙ get_or-replicate n k false false inside)

pub lines_none : (edges : List Seg) (seen : List Bool) → seen ≡ replicate (length edges) false → AreLinesTo edges 0 seen []
lines_none edges seen is = record {
  size = ap length is ∙ length-replicate (length edges) false;
  each = All-nil (IsLine edges);
  exact = λ k e at. (λ marked. absurd (none_seen (length edges) k (sym (ap (λ xs. slice_get xs k) is) ∙ marked)), λ on. (let none = on.1.0.1 in absurd (omega arith)));
  before = λ k less. absurd (omega arith);
  once = λ i j d less within. absurd (omega arith);
}

module _ (edges : List Seg) (ascending : IsAscending edges) (first : ℕ) (seen : List Bool) (lines : List (List Coord)) (h : AreLinesTo edges first seen lines) (within : first < length edges) where
  -- ---- an edge that is seen

  pub lines_same : slice_get seen first ≡ Some true → AreLinesTo edges (first + 1) seen lines
  lines_same marked = record {
    size = h.size;
    each = h.each;
    exact = h.exact;
    before = λ k less. elim (cases_order k first) [
      | inl same ↦ ap (slice_get seen) same ∙ marked
      | inr rest ↦ elim rest [ inl earlier ↦ h.before k earlier | inr later ↦ absurd (omega arith) ]
    ];
    once = h.once;
  }

  -- ---- an edge that is not seen is the first of its line

  module _ (free : slice_get seen first ≢ Some true) where
    pub first_of_line : IsFirstOfLine edges first
    first_of_line points e f k line at_e at_f less has_e has_f =
        let other = (h.exact k f at_f).0 (h.before k less) in
        let its = All-contains (IsLine edges) lines other.0 h.each other.1.0 in
        let same = common_edge edges other.0 points its line f other.1.1 has_f in
        free ((h.exact first e at_e).1 (other.0, (other.1.0, subst (λ ps. Contains (chain_edges ps) e) (sym same) has_e)))

    module _ (points : List Coord) (places : List ℕ) (line : IsLineWith edges first points places) (now : List Bool) (marked : IsMarkedBy places seen now) where
      on_it : (k : ℕ) (e : Seg) → slice_get edges k ≡ Some e → Contains (chain_edges points) e → Contains places k
      on_it k e at has = by ((line.passed e).0 has)
        where
          by : IsAtPlaces edges places e → Contains places k
          by (j, it) = elim (cases_order j k) [
            | inl same ↦ subst (Contains places) same it.0
            | inr apart ↦ absurd (places_apart edges ascending j k e e it.1 at (λ same. elim apart [ inl low ↦ omega (arith, same, low) | inr high ↦ omega (arith, same, high) ]) refl)
          ]

      new_exact : (k : ℕ) (e : Seg) → slice_get edges k ≡ Some e → (slice_get now k ≡ Some true) ↔ IsOnOne (lines ++ points ∷ []) e
      new_exact k e at = (to, back)
        where
          to : slice_get now k ≡ Some true → IsOnOne (lines ++ points ∷ []) e
          to is = elim ((marked.exact k).0 is) [
            | inl old ↦ (let on = (h.exact k e at).0 old in (on.0, (Contains-append_left lines (points ∷ []) on.0 on.1.0, on.1.1)))
            | inr new ↦ (points, (Contains-push lines points, (line.passed e).1 (k, (new.1, at))))
          ]

          back : IsOnOne (lines ++ points ∷ []) e → slice_get now k ≡ Some true
          back (ps, on) = elim (Contains-push_cases lines points ps on.0) [
            | inl old ↦ (marked.exact k).1 (inl ((h.exact k e at).1 (ps, (old, on.1))))
            | inr same ↦ (let inside = slice_get_within edges k e at in let size = h.size in (marked.exact k).1 (inr (omega arith, on_it k e at (subst (λ qs. Contains (chain_edges qs) e) (sym same) on.1))))
          ]

      not_before : (ps : List Coord) → Contains lines ps → ps ≢ points
      not_before ps has same =
          let (e, at) = some_at edges first within in
          free ((h.exact first e at).1 (ps, (has, subst (λ qs. Contains (chain_edges qs) e) (sym same) ((line.passed e).1 (first, (line.has_first, at))))))

      pub lines_more : AreLinesTo edges (first + 1) now (lines ++ points ∷ [])
      lines_more = record {
        size = marked.size ∙ h.size;
        each = All-push (IsLine edges) lines points h.each line.line;
        exact = new_exact;
        before = λ k less. elim (cases_order k first) [
          | inl same ↦ (let size = h.size in (marked.exact k).1 (inr (omega arith, subst (Contains places) (sym same) line.has_first)))
          | inr rest ↦ elim rest [ inl earlier ↦ (marked.exact k).1 (inl (h.before k earlier)) | inr later ↦ absurd (omega arith) ]
        ];
        once = pairs_push (λ l m. l ≢ m) lines points h.once (λ i d inside. not_before (get_or lines i d) (i, inside, get_or_same lines i d inside));
      }
        where
          get_or_same : (xs : List (List Coord)) (i : ℕ) (d : List Coord) → i < length xs → get_or xs i (get_or xs i d) ≡ get_or xs i d
          get_or_same xs i d inside = get_or_from_slice_get xs i (get_or xs i d) (get_or xs i d) (slice_get-get_or xs i d inside)

pub lines_all : (edges : List Seg) (count : ℕ) (seen : List Bool) (lines : List (List Coord)) → length edges ≤ count → AreLinesTo edges count seen lines → AreLinesUnsorted edges lines
lines_all edges count seen lines all h = record {
  each = h.each;
  every = λ e has. (let (k, within, is) = has in (h.exact k e (slice_get-get_or edges k e within ∙ ap Some is)).0 (h.before k (omega arith)));
  once = h.once;
}

-- ---- lists of points that code has

pub plain-push : (lists : List (Vec Coord)) (v : Vec Coord) → plain_lists (lists ++ v ∷ []) ≡ plain_lists lists ++ v.items ∷ []
plain-push lists v = map-append (λ (x : Vec Coord). x.items) lists (v ∷ [])

-- ---- in order

same_list : List Coord → List Coord → Bool
same_list xs ys = pointwise is_same_coord xs ys

decides_list : (xs ys : List Coord) → (same_list xs ys ≡ true) ↔ (xs ≡ ys)
unfolding same_list
decides_list xs ys = slice_eq-Decides Decides-same_coords xs ys (pointwise is_same_coord xs ys) refl

flips : (xs ys : List Coord) → same_list xs ys ≡ same_list ys xs
flips xs ys = both_ways (same_list xs ys) (same_list ys xs) (λ h. (decides_list ys xs).1 (sym ((decides_list xs ys).0 h))) (λ h. (decides_list xs ys).1 (sym ((decides_list ys xs).0 h)))

once_permuted : (xs ys : List (List Coord)) → IsPermutation xs ys → AllPairs (λ l m. l ≢ m) xs → AllPairs (λ l m. l ≢ m) ys
once_permuted xs ys moved apart = AllPairs-from_IsDistinct decides_list ys (IsDistinct-IsPermutation same_list flips xs ys moved (IsDistinct-from_AllPairs decides_list xs apart))

points_weak : IsStrictWeakOrder (λ (l m : List Coord). is_lt (points_cmp l m))
points_weak = ranks_by {R = points_cmp} points_total (λ (l : List Coord). l)

pub lists_weak : IsStrictWeakOrder (λ (l m : Vec Coord). is_lt (points_cmp l.items m.items))
lists_weak = ranks_by {R = points_cmp} points_total (λ (l : Vec Coord). l.items)

-- not past it and another one, so before it
strict : (l m : List Coord) → is_lt (points_cmp m l) ≡ false → l ≢ m → IsTrue (is_lt (points_cmp l m))
strict l m not_past apart = by (points_cmp l m) refl
  where
    turned : (r : Ordering) → points_cmp l m ≡ r → points_cmp m l ≡ ordering_reverse r
    turned r is = points_total.antisymm m l ∙ ap ordering_reverse is

    by : (r : Ordering) → points_cmp l m ≡ r → IsTrue (is_lt (points_cmp l m))
    by Less is = ap is_lt is
    by Equal is = absurd (apart (points_same l m (ap is_le is) (ap is_le (turned Equal is))))
    by Greater is = absurd (true≢false (sym (ap is_lt (turned Greater is)) ∙ not_past))

module _ (edges : List Seg) (lines sorted : List (Vec Coord)) (h : AreLinesUnsorted edges (plain_lists lines)) (moved : IsPermutation lines sorted) (up : IsSortedBy (λ (l m : Vec Coord). is_lt (points_cmp l.items m.items)) sorted) where
  plainly : IsPermutation (plain_lists lines) (plain_lists sorted)
  plainly = IsPermutation-map (λ (v : Vec Coord). v.items) lines sorted moved

  plain_at : (k : ℕ) (v : Vec Coord) (d : List Coord) → slice_get sorted k ≡ Some v → get_or (plain_lists sorted) k d ≡ v.items
  plain_at k v d at = get_or_from_slice_get (plain_lists sorted) k v.items d (slice_get-map (λ (x : Vec Coord). x.items) sorted k ∙ ap (option_map (λ (x : Vec Coord). x.items)) at)

  ascend : PathsAscend (plain_lists sorted)
  ascend i j d less within =
      let count = length-map sorted (λ (x : Vec Coord). x.items) in
      let (v, at_v) = some_at sorted i (omega (arith, count, less, within)) in
      let (w, at_w) = some_at sorted j (omega (arith, count, within)) in
      let far = sorted_far (λ (l m : Vec Coord). is_lt (points_cmp l.items m.items)) lists_weak sorted up i j v (omega (arith, less)) (omega (arith, count, within)) in
      let not_past : is_lt (points_cmp w.items v.items) ≡ false = subst (λ (x : Vec Coord). is_lt (points_cmp x.items v.items) ≡ false) (get_or_from_slice_get sorted j w v at_w)
      (subst (λ (x : Vec Coord). is_lt (points_cmp (get_or sorted j v).items x.items) ≡ false) (get_or_from_slice_get sorted i v v at_v) far) in
      let apart = once_permuted (plain_lists lines) (plain_lists sorted) plainly h.once i j d less within in
      subst (λ l. IsTrue (is_lt (points_cmp l (get_or (plain_lists sorted) j d)))) (sym (plain_at i v d at_v))
      (subst (λ m. IsTrue (is_lt (points_cmp v.items m))) (sym (plain_at j w d at_w))
      (strict v.items w.items not_past (λ same. apart (plain_at i v d at_v ∙ same ∙ sym (plain_at j w d at_w)))))

  pub lines_sorted : AreLines edges (plain_lists sorted)
  lines_sorted = covering edges (plain_lists sorted) (record {
    ascending = ascend;
    each = All-permutation (IsLine edges) (plain_lists lines) (plain_lists sorted) plainly h.each;
    every = λ e has. (let it = h.every e has in (it.0, (Contains-permutation (plain_lists lines) (plain_lists sorted) it.0 plainly it.1.0, it.1.1)));
  })
