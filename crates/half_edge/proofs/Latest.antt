-- The last half-edge so far that leaves a vertex, departure by departure.
use mathlib.Core.List.{List}
use Rattle.std.proofs.Common.{◌≡◌, refl, sym, ◌∙◌, ap, subst, ℕ, ◌+◌, ◌<◌, ◌≤◌, length, set, Some, slice_get, inl, inr, ◌⊎◌, arith}
use Rattle.std.proofs.lemmas.Bool.{cases_lt, cases_eq}
use Rattle.std.proofs.lemmas.List.{get_or-set_same, get_or-set_other, length-set}
use Rattle.std.proofs.lemmas.Option.{same_Some, slice_get_within, slice_get-get_or, get_or_from_slice_get}
use Rattle.half_edge.specs.Departures.{IsLatest, AreLast}
use Rattle.half_edge.specs.declared.departure.Departure.{Departure}
use Rattle.half_edge.specs.declared.side.Side.{Side}

-- ---- a table after a write

pub read_same : {X : Type 0} (xs : List X) (i : ℕ) (y x : X) → slice_get (set xs i y) i ≡ Some x → y ≡ x
read_same xs i y x at =
    let below = slice_get_within (set xs i y) i x at in
    let len = length-set xs i y in
    sym (get_or-set_same xs i y x (omega (arith, below, len))) ∙ get_or_from_slice_get (set xs i y) i x x at

pub read_other : {X : Type 0} (xs : List X) (i j : ℕ) (y x : X) → (j ≡ i → ⊥) → slice_get (set xs i y) j ≡ Some x → slice_get xs j ≡ Some x
read_other xs i j y x apart at =
    let below = slice_get_within (set xs i y) j x at in
    let len = length-set xs i y in
    slice_get-get_or xs j x (omega (arith, below, len)) ∙ ap Some (sym (get_or-set_other xs i j y x apart) ∙ get_or_from_slice_get (set xs i y) j x x at)

-- ---- the last so far

-- none of the first departures leaves the vertex
abbrev pub IsFresh : List Departure → ℕ → ℕ → Type 0
IsFresh list count v = (j : ℕ) (d : Departure) → j < count → slice_get list j ≡ Some d → ¬ (d.vertex.number ≡ v)

-- the table has for each vertex that one of the first departures leaves the last of them
abbrev pub AreLatest : List Departure → ℕ → List Side → Type 0
AreLatest list count table = (j : ℕ) (d : Departure) (id : Side) → j < count → slice_get list j ≡ Some d → slice_get table d.vertex.number ≡ Some id → IsLatest list count d.vertex.number id

module _ (list : List Departure) (i : ℕ) (a : Departure) (here : slice_get list i ≡ Some a) where
  same_departure : (j : ℕ) (d : Departure) → j ≡ i → slice_get list j ≡ Some d → a ≡ d
  same_departure j d place at = same_Some a d (sym here ∙ ap (λ n. slice_get list n) (sym place) ∙ at)

  -- it is the last so far of its vertex
  pub latest-here : (id : Side) → a.id ≡ id → IsLatest list (i + 1) a.vertex.number id
  latest-here id is = record { place = i; departure = a; within = omega arith; at_place = here; leaves = refl; is = is; latest = λ j d after within at. absurd (omega arith) }

  -- and the last of another vertex stays
  pub latest-kept : (v : ℕ) (id : Side) → ¬ (a.vertex.number ≡ v) → IsLatest list i v id → IsLatest list (i + 1) v id
  latest-kept v id other old =
      let before = old.within in
      record {
        place = old.place;
        departure = old.departure;
        within = omega arith;
        at_place = old.at_place;
        leaves = old.leaves;
        is = old.is;
        latest = λ j d after within at.
            elim (cases_lt j i) [
              | inl early ↦ old.latest j d after early at
              | inr late ↦ subst (λ (x : Departure). ¬ (x.vertex.number ≡ v)) (same_departure j d (omega arith) at) other
            ];
      }

  pub fresh-kept : (v : ℕ) → ¬ (a.vertex.number ≡ v) → IsFresh list i v → IsFresh list (i + 1) v
  fresh-kept v other old =
      λ j d within at.
      elim (cases_lt j i) [
        | inl early ↦ old j d early at
        | inr late ↦ subst (λ (x : Departure). ¬ (x.vertex.number ≡ v)) (same_departure j d (omega arith) at) other
      ]

  pub latest-more : (table : List Side) → AreLatest list i table → AreLatest list (i + 1) (set table a.vertex.number a.id)
  latest-more table old =
      λ j d id within at read.
      elim (cases_eq d.vertex.number a.vertex.number) [
        | inl same ↦
            subst (λ v. IsLatest list (i + 1) v id) (sym same) (latest-here id (read_same table a.vertex.number a.id id (subst (λ v. slice_get (set table a.vertex.number a.id) v ≡ Some id) same read)))
        | inr other ↦
            latest-kept d.vertex.number id (λ same. other (sym same))
            (old j d id (earlier j d within at other) at (read_other table a.vertex.number d.vertex.number a.id id other read))
      ]
    where
      earlier : (j : ℕ) (d : Departure) → j < i + 1 → slice_get list j ≡ Some d → ¬ (d.vertex.number ≡ a.vertex.number) → j < i
      earlier j d within at other =
          elim (cases_lt j i) [
            | inl early ↦ early
            | inr late ↦ absurd (other (ap (λ (x : Departure). x.vertex.number) (sym (same_departure j d (omega arith) at))))
          ]

pub latest-none : (list : List Departure) (table : List Side) → AreLatest list 0 table
latest-none list table = λ j d id within. absurd (omega arith)

-- past the end of the list it is the last of all
pub latest-past : (list : List Departure) (n v : ℕ) (id : Side) → length list ≤ n → IsLatest list n v id → IsLatest list (length list) v id
latest-past list n v id long last = record {
  place = last.place;
  departure = last.departure;
  within = slice_get_within list last.place last.departure last.at_place;
  at_place = last.at_place;
  leaves = last.leaves;
  is = last.is;
  latest = λ j d after within at. last.latest j d after (omega arith) at;
}

pub latest-all : (list : List Departure) (table : List Side) (n : ℕ) → length list ≤ n → AreLatest list n table → AreLast list table
latest-all list table n long latest = λ j d id at read.
    let below = slice_get_within list j d at in
    latest-past list n d.vertex.number id long (latest j d id (omega arith) at read)

-- ---- the one before, round the vertex

-- the half-edge before the next one that leaves the vertex: the last so far, or at first the last of all
abbrev pub IsBefore : List Departure → ℕ → ℕ → Side → Type 0
IsBefore list count v id = IsLatest list count v id ⊎ (IsFresh list count v × IsLatest list (length list) v id)

-- the table has it for each vertex
abbrev pub AreBefore : List Departure → ℕ → List Side → Type 0
AreBefore list count table = (j : ℕ) (d : Departure) (id : Side) → slice_get list j ≡ Some d → slice_get table d.vertex.number ≡ Some id → IsBefore list count d.vertex.number id

pub before-none : (list : List Departure) (table : List Side) → AreLast list table → AreBefore list 0 table
before-none list table last = λ j d id at read. inr ((λ k e below. absurd (omega arith)), last j d id at read)

pub before-more : (list : List Departure) (i : ℕ) (a : Departure) → slice_get list i ≡ Some a → (table : List Side) → AreBefore list i table → AreBefore list (i + 1) (set table a.vertex.number a.id)
before-more list i a here table old =
    λ j d id at read.
    elim (cases_eq d.vertex.number a.vertex.number) [
      | inl same ↦
          inl
          (subst (λ v. IsLatest list (i + 1) v id) (sym same)
          (latest-here list i a here id (read_same table a.vertex.number a.id id (subst (λ v. slice_get (set table a.vertex.number a.id) v ≡ Some id) same read))))
      | inr other ↦ (
          let apart : ¬ (a.vertex.number ≡ d.vertex.number) = λ same. other (sym same) in
          elim (old j d id at (read_other table a.vertex.number d.vertex.number a.id id other read)) [
            | inl latest ↦ inl (latest-kept list i a here d.vertex.number id apart latest)
            | inr first ↦ inr (fresh-kept list i a here d.vertex.number apart first.0, first.1)
          ]
          )
    ]
