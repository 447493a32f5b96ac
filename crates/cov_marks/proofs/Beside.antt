-- The edges beside some regions, while they are listed.
use Rattle.std.proofs.Common.{◌≡◌, ◌⊎◌, sym, ◌∙◌, ap, subst, ℕ, ◌+◌, ◌*◌, ◌<◌, ◌≤◌, List, [], ◌∷◌, ◌++◌, length, get_or, Some, inl, inr, arith}
use Rattle.std.specs.Prelude.{Contains, IsTrue, ◌↔◌, slice_get, slice_index}
use Rattle.std.proofs.lemmas.Bool.{cases_lt}
use Rattle.std.proofs.lemmas.List.Elements.{Contains-append_left, Contains-get_or, Contains-push, Contains-push_cases}
use Rattle.std.proofs.lemmas.List.Quantifiers.{all_pairs_push}
use Rattle.std.proofs.lemmas.Option.{same_Some, slice_get_within, get_or_from_slice_get}
use Rattle.cov_types.specs.Seg.{is_seg_before}
use Rattle.cov_types.specs.declared.seg.Seg.{Seg}
use Rattle.arrangement.specs.Noding.{IsAscending}
use Rattle.cov_marks.specs.Beside.{IsBesideAny}

-- ---- one edge more

-- the edges before a place that are beside one of the regions
pub record AreBesideBefore (edges : List Seg) (numbers regions : List ℕ) (n : ℕ) (list : List Seg) : Type 0 where
  pub sound : (s : Seg) → Contains list s → (is : IsBesideAny edges numbers regions s) × (is.edge < n)
  pub complete : (s : Seg) (is : IsBesideAny edges numbers regions s) → is.edge < n → Contains list s

-- the list ascends, and an edge from the place on comes after it
pub record IsAscendingTo (edges : List Seg) (n : ℕ) (list : List Seg) : Type 0 where
  pub ascending : IsAscending list
  pub earlier : (s : Seg) → Contains list s → (k : ℕ) × ((k < n) × (slice_get edges k ≡ Some s))

pub ascending_none : (edges : List Seg) → IsAscendingTo edges 0 []
ascending_none edges = record { ascending = λ i j d h k. absurd (omega (arith, k)); earlier = λ s has. absurd (omega (arith, has.1)) }

pub beside_none : (edges : List Seg) (numbers regions : List ℕ) → AreBesideBefore edges numbers regions 0 []
beside_none edges numbers regions = record { sound = λ s has. absurd (omega (arith, has.1)); complete = λ s is below. absurd (omega (arith, below)) }

module _ (edges : List Seg) (n : ℕ) (e : Seg) (at : slice_get edges n ≡ Some e) (list : List Seg) where
  pub ascending_same : IsAscendingTo edges n list → IsAscendingTo edges (n + 1) list
  ascending_same to = record { ascending = to.ascending; earlier = λ s has. (let h = to.earlier s has in (h.0, (omega (arith, h.1.0), h.1.1))) }

  pub ascending_more : IsAscending edges → IsAscendingTo edges n list → IsAscendingTo edges (n + 1) (list ++ e ∷ [])
  ascending_more up to = record {
    ascending = all_pairs_push (λ (s t : Seg). IsTrue (is_seg_before s t)) list e to.ascending (λ k d within. before (get_or list k d) (Contains-get_or list k d within));
    earlier = λ s has. elim (Contains-push_cases list e s has) [
      | inl old ↦ (let h = to.earlier s old in (h.0, (omega (arith, h.1.0), h.1.1)))
      | inr new ↦ (n, (omega arith, at ∙ ap (λ (t : Seg). Some t) new))
    ];
  }
    where
      before : (s : Seg) → Contains list s → IsTrue (is_seg_before s e)
      before s has =
          let h = to.earlier s has in
          let first = get_or_from_slice_get edges h.0 s s h.1.1 in
          let last = get_or_from_slice_get edges n e s at in
          subst (λ t. IsTrue (is_seg_before s t)) last (subst (λ t. IsTrue (is_seg_before t (get_or edges n s))) first (up h.0 n s h.1.0 (slice_get_within edges n e at)))

  module _ (numbers regions : List ℕ) (so_far : AreBesideBefore edges numbers regions n list) where
    -- the edge at the place is that of the segment
    there : (s : Seg) (is : IsBesideAny edges numbers regions s) → is.edge ≡ n → e ≡ s
    there s is same = same_Some e s (sym at ∙ ap (slice_get edges) (sym same) ∙ is.listed)

    pub beside_same : (Contains regions (slice_index numbers (2 * n)) → ⊥) → (Contains regions (slice_index numbers (2 * n + 1)) → ⊥) → AreBesideBefore edges numbers regions (n + 1) list
    beside_same above below = record {
      sound = λ s has. (let h = so_far.sound s has in (h.0, omega (arith, h.1)));
      complete = λ s is low. elim (cases_lt is.edge n) [
        | inl earlier ↦ so_far.complete s is earlier
        | inr later ↦
            let same : is.edge ≡ n = omega arith in
            absurd (elim is.beside [
              | inl up ↦ above (subst (λ k. Contains regions (slice_index numbers (2 * k))) same up)
              | inr down ↦ below (subst (λ k. Contains regions (slice_index numbers (2 * k + 1))) same down)
            ])
      ];
    }

    pub beside_more : Contains regions (slice_index numbers (2 * n)) ⊎ Contains regions (slice_index numbers (2 * n + 1)) → AreBesideBefore edges numbers regions (n + 1) (list ++ e ∷ [])
    beside_more beside = record {
      sound = λ s has. elim (Contains-push_cases list e s has) [
        | inl old ↦ (let h = so_far.sound s old in (h.0, omega (arith, h.1)))
        | inr new ↦ (record { edge = n; listed = at ∙ ap (λ (t : Seg). Some t) new; beside = beside }, omega arith)
      ];
      complete = λ s is low. elim (cases_lt is.edge n) [
        | inl earlier ↦ Contains-append_left list (e ∷ []) s (so_far.complete s is earlier)
        | inr later ↦
            let same : is.edge ≡ n = omega arith in
            subst (Contains (list ++ e ∷ [])) (there s is same) (Contains-push list e)
      ];
    }

-- after the last edge
pub beside_all : (edges : List Seg) (numbers regions : List ℕ) (n : ℕ) (list : List Seg) → length edges ≤ n → AreBesideBefore edges numbers regions n list → (s : Seg) → Contains list s ↔ IsBesideAny edges numbers regions s
beside_all edges numbers regions n list past are s = (
  (λ has. (are.sound s has).0),
  (λ is. are.complete s is (let within = slice_get_within edges is.edge s is.listed in omega (arith, within, past))),
)
