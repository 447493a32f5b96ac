-- The boundaries of parts, edge by edge.
use mathlib.Core.List.{List, [], ◌∷◌, ◌++◌}
use Rattle.std.proofs.Common.{◌≡◌, refl, sym, ◌∙◌, ap, subst, ℕ, zero, suc, ◌+◌, ◌*◌, ◌<◌, Bool, true, false, true≢false, cond, length, get_or, set, take, flat_map, add-one, Option, Some, None, slice_get, ◌⊎◌, inl, inr, arith}
use Rattle.std.specs.List.{enumerate_from}
use Rattle.std.specs.Global.{Vec}
use Rattle.std.proofs.Math.Seq.{take-suc}
use Rattle.std.proofs.lemmas.Bool.{cases_eq, eqb-true, eq-eqb, ne_eqb}
use Rattle.std.proofs.lemmas.List.{length-set, get_or-set_same, get_or-set_other, length_push, length-take-le, append-nil, append_assoc}
use Rattle.std.proofs.lemmas.List.Concat.{flat_map-append}
use Rattle.std.proofs.lemmas.Option.{slice_get-get_or, get_or_from_slice_get, slice_get_within, same_Some, none-some}
use Rattle.cov_types.specs.declared.seg.Seg.{Seg}
use Rattle.cov_build.specs.Boundaries.{boundary_edge, boundary_list, AreBoundaries, AreAdded}
use Rattle.cov_build.specs.Parted.{is_part, part_at}
use Rattle.cov_build.specs.declared.boundary.BoundaryEdge.{BoundaryEdge}
use Rattle.cov_build.specs.declared.part.Part.{Part}

-- ---- elements of a list that was written or grew

-- the element is the written one at its place, and an old one elsewhere
pub get-set : {X : Type 0} (xs : List X) (i : ℕ) (y : X) (k : ℕ) (v : X) → slice_get (set xs i y) k ≡ Some v → ((k ≡ i) × (v ≡ y)) ⊎ ((k ≡ i → ⊥) × (slice_get xs k ≡ Some v))
get-set xs i y k v at =
    let within : k < length xs = (let h = slice_get_within (set xs i y) k v at in omega (arith, length-set xs i y)) in
    let is = get_or_from_slice_get (set xs i y) k v v at in
    elim (cases_eq k i) [
      | inl same ↦ inl (same, sym is ∙ ap (λ j. get_or (set xs i y) j v) same ∙ get_or-set_same xs i y v (omega arith))
      | inr other ↦ inr (other, slice_get-get_or xs k v within ∙ ap (λ w. Some w) (sym (get_or-set_other xs i k y v other) ∙ is))
    ]

pub get-push : {X : Type 0} (xs : List X) (y : X) (k : ℕ) (v : X) → slice_get (xs ++ y ∷ []) k ≡ Some v → ((k ≡ length xs) × (v ≡ y)) ⊎ (slice_get xs k ≡ Some v)
get-push [] y zero v at = inl (refl, sym (same_Some y v at))
get-push [] y (suc k) v at = absurd (none-some v at)
get-push (x ∷ xs) y zero v at = inr at
get-push (x ∷ xs) y (suc k) v at = elim (get-push xs y k v at) [ inl last ↦ inl (ap suc last.0, last.1) | inr old ↦ inr old ]

pub some_at : {X : Type 0} (xs : List X) (k : ℕ) → k < length xs → (x : X) × (slice_get xs k ≡ Some x)
some_at [] k below = absurd (omega arith)
some_at (x ∷ xs) zero below = (x, refl)
some_at (x ∷ xs) (suc k) below = some_at xs k (omega arith)

pub enumerate-push : {X : Type 0} (n : ℕ) (xs : List X) (y : X) → enumerate_from n (xs ++ y ∷ []) ≡ enumerate_from n xs ++ (n + length xs, y) ∷ []
enumerate-push {X} n [] y = (let same : n ≡ n + 0 = omega arith in ap {B = List (ℕ × X)} (λ m. (m, y) ∷ []) same)
enumerate-push {X} n (x ∷ xs) y =
    let same : n + 1 + length xs ≡ n + length (x ∷ xs) = omega arith in
    ap (λ zs. (n, x) ∷ zs) (enumerate-push (n + 1) xs y ∙ ap {B = List (ℕ × X)} (λ m. enumerate_from (n + 1) xs ++ (m, y) ∷ []) same)

-- ---- empty lists

pub record AreEmpty (n : ℕ) (lists : List (Vec BoundaryEdge)) : Type 0 where
  pub count : length lists ≡ n
  pub each : (r : ℕ) (v : Vec BoundaryEdge) → slice_get lists r ≡ Some v → v.items ≡ []

pub empty-none : (lists : List (Vec BoundaryEdge)) → lists ≡ [] → AreEmpty 0 lists
empty-none lists none = subst (AreEmpty 0) (sym none) (record { count = refl; each = λ r v at. absurd (none-some v at) })

pub empty-new : (n : ℕ) (lists lists' : List (Vec BoundaryEdge)) (v : Vec BoundaryEdge) → v.items ≡ [] → lists' ≡ lists ++ v ∷ [] → AreEmpty n lists → AreEmpty (n + 1) lists'
empty-new n lists lists' v empty pushed are = subst (λ ls. AreEmpty (n + 1) ls) (sym pushed) (record {
  count = length_push lists v ∙ ap (λ k. k + 1) are.count;
  each = λ k w at. elim (get-push lists v k w at) [ inl last ↦ ap (λ (u : Vec BoundaryEdge). u.items) last.1 ∙ empty | inr old ↦ are.each k w old ];
})

pub empty-boundaries : (n m : ℕ) (lists : List (Vec BoundaryEdge)) → m ≡ n → AreEmpty m lists → (parts : List (Option Part)) → length parts ≡ n → AreBoundaries parts [] lists
empty-boundaries n m lists same are parts long = record { count = are.count ∙ same ∙ sym long; each = are.each }

-- ---- an edge more in a list

pub added-none : (edge : BoundaryEdge) (lists : List (Vec BoundaryEdge)) → AreAdded (λ p. cond (is_part None p) (edge ∷ []) []) lists lists
added-none edge lists = record {
  count = refl;
  each = λ p v w at_v at_w. ap (λ (u : Vec BoundaryEdge). u.items) (same_Some w v (sym at_w ∙ at_v)) ∙ sym (append-nil v.items);
}

pub added-at : (edge : BoundaryEdge) (lists : List (Vec BoundaryEdge)) (part : Part) (before after : Vec BoundaryEdge) → part.least < length lists → before ≡ get_or lists part.least before
    → after.items ≡ before.items ++ edge ∷ [] → AreAdded (λ p. cond (is_part (Some part) p) (edge ∷ []) []) lists (set lists part.least after)
added-at edge lists part before after within here pushed = record {
  count = length-set lists part.least after;
  each = λ p v w at_v at_w. elim (get-set lists part.least after p w at_w) [
    | inl written ↦ (
        let was : before ≡ v = here ∙ ap (λ k. get_or lists k before) (sym written.0) ∙ get_or_from_slice_get lists p v before at_v in
        ap (λ (u : Vec BoundaryEdge). u.items) written.1 ∙ pushed ∙ ap (λ (u : Vec BoundaryEdge). u.items ++ edge ∷ []) was
        ∙ ap (λ t. v.items ++ cond t (edge ∷ []) []) (sym (eq-eqb part.least p (sym written.0)))
        )
    | inr kept ↦
        ap (λ (u : Vec BoundaryEdge). u.items) (same_Some w v (sym kept.1 ∙ at_v)) ∙ sym (append-nil v.items)
        ∙ ap (λ t. v.items ++ cond t (edge ∷ []) []) (sym (ne_eqb part.least p (λ e. kept.0 (sym e))))
  ];
}

pub is_part_some : (a : Option Part) (p : ℕ) → is_part a p ≡ true → a ≡ Some (record { least = p })
is_part_some None p h = absurd (true≢false (sym h))
is_part_some (Some part) p h = (let same = eqb-true part.least p h in λ i. Some (record { least = same i }))

one_of : (a b : Option Part) (edge : Seg) (p : ℕ) (s t : Bool) → is_part a p ≡ s → is_part b p ≡ t → (a ≡ b → ⊥)
    → cond s (record { edge = edge; above = true } ∷ []) [] ++ cond t (record { edge = edge; above = false } ∷ []) [] ≡ boundary_edge s t edge
one_of a b edge p true true is_s is_t apart = absurd (apart (is_part_some a p is_s ∙ sym (is_part_some b p is_t)))
one_of a b edge p true false is_s is_t apart = refl
one_of a b edge p false true is_s is_t apart = refl
one_of a b edge p false false is_s is_t apart = refl

pub added-both : (a b : Option Part) (edge : Seg) (first second third : List (Vec BoundaryEdge)) → (a ≡ b → ⊥)
    → AreAdded (λ p. cond (is_part a p) (record { edge = edge; above = true } ∷ []) []) first second → AreAdded (λ p. cond (is_part b p) (record { edge = edge; above = false } ∷ []) []) second third
    → AreAdded (λ p. boundary_edge (is_part a p) (is_part b p) edge) first third
added-both a b edge first second third apart one two = record {
  count = two.count ∙ one.count;
  each = λ p v w at_v at_w. (
      let (u, at_u) = some_at second p (let less = slice_get_within first p v at_v in omega (arith, less, one.count)) in
      two.each p u w at_u at_w
      ∙ ap (λ xs. xs ++ cond (is_part b p) (record { edge = edge; above = false } ∷ []) []) (one.each p v u at_v at_u)
      ∙ append_assoc v.items (cond (is_part a p) (record { edge = edge; above = true } ∷ []) []) (cond (is_part b p) (record { edge = edge; above = false } ∷ []) [])
      ∙ ap (λ xs. v.items ++ xs) (one_of a b edge p (is_part a p) (is_part b p) refl refl apart)
      );
}

neither : (edge : Seg) (t : Bool) → boundary_edge t t edge ≡ []
neither edge true = refl
neither edge false = refl

pub added-neither : (a b : Option Part) (edge : Seg) (lists : List (Vec BoundaryEdge)) → a ≡ b → AreAdded (λ p. boundary_edge (is_part a p) (is_part b p) edge) lists lists
added-neither a b edge lists same = record {
  count = refl;
  each = λ p v w at_v at_w.
      ap (λ (u : Vec BoundaryEdge). u.items) (same_Some w v (sym at_w ∙ at_v)) ∙ sym (append-nil v.items)
      ∙ ap (λ xs. v.items ++ xs) (sym (neither edge (is_part a p)) ∙ ap (λ t. boundary_edge (is_part a p) t edge) (ap (λ q. is_part q p) same));
}

-- ---- an edge more of the list

boundary-push : (parts : List (Option Part)) (p : ℕ) (edges : List Seg) (e : Seg)
    → boundary_list parts p (edges ++ e ∷ []) ≡ boundary_list parts p edges ++ boundary_edge (is_part (part_at parts (2 * length edges)) p) (is_part (part_at parts (2 * length edges + 1)) p) e
boundary-push parts p edges e =
    let f : ℕ × Seg → List BoundaryEdge = λ q. boundary_edge (is_part (part_at parts (2 * q.0)) p) (is_part (part_at parts (2 * q.0 + 1)) p) q.1 in
    ap (flat_map f) (enumerate-push 0 edges e) ∙ flat_map-append f (enumerate_from 0 edges) ((0 + length edges, e) ∷ [])
    ∙ ap (λ xs. flat_map f (enumerate_from 0 edges) ++ xs) (append-nil (f (0 + length edges, e)))
    ∙ ap (λ n. flat_map f (enumerate_from 0 edges) ++ f (n, e)) (let same : 0 + length edges ≡ length edges = omega arith in same)

pub boundaries-more : (parts : List (Option Part)) (edges : List Seg) (k : ℕ) (e : Seg) (above below : Option Part) (before after : List (Vec BoundaryEdge)) → k < length edges → e ≡ get_or edges k e
    → above ≡ part_at parts (2 * k) → below ≡ part_at parts (2 * k + 1)
    → AreAdded (λ p. boundary_edge (is_part above p) (is_part below p) e) before after → AreBoundaries parts (take k edges) before → AreBoundaries parts (take (k + 1) edges) after
boundaries-more parts edges k e above below before after within here is_above is_below added are =
    let long : length (take k edges) ≡ k = length-take-le k edges (omega (arith, within)) in
    let longer : take (k + 1) edges ≡ take k edges ++ e ∷ [] = rw add-one (take-suc edges k e within ∙ ap (λ x. take k edges ++ x ∷ []) (sym here)) in
    subst (λ es. AreBoundaries parts es after) (sym longer) (record {
      count = added.count ∙ are.count;
      each = λ p w at_w. (
          let (v, at_v) = some_at before p (let less = slice_get_within after p w at_w in omega (arith, less, added.count)) in
          added.each p v w at_v at_w ∙ ap (λ xs. xs ++ boundary_edge (is_part above p) (is_part below p) e) (are.each p v at_v)
          ∙ ap (λ q. boundary_list parts p (take k edges) ++ boundary_edge (is_part q p) (is_part below p) e) (is_above ∙ ap (λ n. part_at parts (2 * n)) (sym long))
          ∙ ap (λ q. boundary_list parts p (take k edges) ++ boundary_edge (is_part (part_at parts (2 * length (take k edges))) p) (is_part q p) e) (is_below ∙ ap (λ n. part_at parts (2 * n + 1)) (sym long))
          ∙ sym (boundary-push parts p (take k edges) e)
          );
    })

pub part_is_at : (parts : List (Option Part)) (n : ℕ) → part_at parts n ≡ get_or parts n None
part_is_at [] n = refl
part_is_at (p ∷ parts) zero = refl
part_is_at (p ∷ parts) (suc n) = part_is_at parts n
