-- Round a vertex each half-edge follows the twin of the one after it.
use mathlib.Core.List.{List}
use Rattle.std.proofs.Common.{◌≡◌, refl, sym, ◌∙◌, ap, subst, ℕ, ◌*◌, ◌<◌, ◌≤◌, Bool, true, false, cond, ◌&&◌, ◌||◌, length, All, Some, slice_get, inl, inr, ◌⊎◌, arith}
use Rattle.std.proofs.lemmas.Bool.{cases_lt}
use Rattle.std.proofs.lemmas.Option.{slice_get_within, slice_get-get_or, get_or_from_slice_get}
use Rattle.cov_types.specs.declared.seg.Seg.{Seg}
use Rattle.sector_laws.proofs.AtVertex.{at_vertex}
use Rattle.half_edge.proofs.Counts.{number_within}
use Rattle.half_edge.proofs.Latest.{IsBefore}
use Rattle.half_edge.specs.Departures.{IsDeparture, AreDepartures, AreInOrder}
use Rattle.half_edge.specs.Directed.{half_edge_to}
use Rattle.half_edge.specs.declared.departure.Departure.{Departure}
use Rattle.half_edge.specs.declared.side.Side.{Side}
use Rattle.sector_laws.specs.Sector.{HalfEdge, origin, target, twin, is_before_by_angle, is_in_sector, IsHalfEdge, Leaves, IsNext, IsNextNumber, IsPlanar, AreDistinct}
use Rattle.sector_laws.proofs.Angles.{not_both}
use Rattle.sector_laws.proofs.Next.{twin-twin}
use Rattle.sector_laws.proofs.Numbers.{half_edge_among, one_half_edge, some_number, one_number}
use Rattle.sector_laws.proofs.Order.{one_or_before}
use Rattle.sector_laws.proofs.Sectors.{twin_leaves}

-- ---- what is outside a sector

and_false : (x : Bool) → (x && false) ≡ false
and_false true = refl
and_false false = refl

out_of_less : (g a k : HalfEdge) → is_before_by_angle g a ≡ true → (is_before_by_angle g k ≡ false) ⊎ (is_before_by_angle k a ≡ false) → is_in_sector g a k ≡ false
out_of_less g a k less out =
    (λ i. cond (less i) (is_before_by_angle g k && is_before_by_angle k a) (is_before_by_angle g k || is_before_by_angle k a))
    ∙ elim out [
      | inl h ↦ ap (λ t. t && is_before_by_angle k a) h
      | inr h ↦ ap (λ t. is_before_by_angle g k && t) h ∙ and_false (is_before_by_angle g k)
    ]

out_of_rest : (g a k : HalfEdge) → is_before_by_angle g a ≡ false → is_before_by_angle g k ≡ false → is_before_by_angle k a ≡ false → is_in_sector g a k ≡ false
out_of_rest g a k rest first second =
    (λ i. cond (rest i) (is_before_by_angle g k && is_before_by_angle k a) (is_before_by_angle g k || is_before_by_angle k a)) ∙ (λ i. first i || second i)

-- the half-edge of a departure
abbrev half : Departure → HalfEdge
half d = half_edge_to d.direction

module _ (edges : List Seg) (list : List Departure) (all : AreDepartures edges list) (i : ℕ) (d : Departure) (at : slice_get list i ≡ Some d) where
  pub departure_is : IsDeparture edges d
  departure_is = subst (IsDeparture edges) (get_or_from_slice_get list i d d at) (all.each i d (slice_get_within list i d at))

  pub departure_within : d.id.number < 2 * length edges
  departure_within = number_within edges d.id.number (half d) departure_is

pub vertex_within : (list : List Departure) (n : ℕ) → All (λ (d : Departure). d.vertex.number < n) list → (i : ℕ) (d : Departure) → slice_get list i ≡ Some d → d.vertex.number < n
vertex_within list n below i d at = subst (λ (x : Departure). x.vertex.number < n) (get_or_from_slice_get list i d d at) (below i d (slice_get_within list i d at))

module _ (edges : List Seg) (planar : IsPlanar edges) (distinct : AreDistinct edges) (list : List Departure) (all : AreDepartures edges list) (sorted : AreInOrder list) where
  -- ---- departures of one vertex

  numbered_at : (i : ℕ) (d : Departure) → slice_get list i ≡ Some d → IsDeparture edges d
  numbered_at i d at = departure_is edges list all i d at

  leaves_at : (i : ℕ) (d : Departure) → slice_get list i ≡ Some d → Leaves edges (origin (half d)) (half d)
  leaves_at i d at = record { among = half_edge_among edges d.id.number (half d) (numbered_at i d at); from = refl }

  -- the vertices are one where their numbers are
  one_vertex : (i j : ℕ) (d e : Departure) → slice_get list i ≡ Some d → slice_get list j ≡ Some e → d.vertex.number ≡ e.vertex.number → origin (half d) ≡ origin (half e)
  one_vertex i j d e at_d at_e same =
      (all.numbered d e (i, slice_get_within list i d at_d, get_or_from_slice_get list i d d at_d) (j, slice_get_within list j e at_e, get_or_from_slice_get list j e e at_e)).0 same

  -- each half-edge that leaves has a place
  place_of : (i : ℕ) (a : Departure) → slice_get list i ≡ Some a → (k : HalfEdge) → Leaves edges (origin (half a)) k
      → (j : ℕ) × (d : Departure) × (slice_get list j ≡ Some d) × (half d ≡ k) × (d.vertex.number ≡ a.vertex.number)
  place_of i a at k leaves =
      let (n, numbered) = some_number edges k leaves.among in
      let (d, ((j, below, is), same)) = all.all n (number_within edges n k numbered) in
      let at_d : slice_get list j ≡ Some d = slice_get-get_or list j d below ∙ ap Some is in
      let one : half d ≡ k = one_half_edge edges n (half d) k (subst (λ m. IsHalfEdge edges m (half d)) same (numbered_at j d at_d)) numbered in
      let vertex = (all.numbered d a (j, below, is) (i, slice_get_within list i a at, get_or_from_slice_get list i a a at)).1 (ap origin one ∙ leaves.from) in
      (j, d, at_d, one, vertex)

  -- what stands at a place, or after it, does not come before
  not_before : (i j : ℕ) (d e : Departure) → i ≤ j → slice_get list i ≡ Some d → slice_get list j ≡ Some e → origin (half d) ≡ origin (half e) → is_before_by_angle (half e) (half d) ≡ false
  not_before i j d e le at_d at_e met =
      at_vertex (half e) (half d) (sym met)
      ∙ sorted i j d e le at_d at_e
      ((all.numbered d e (i, slice_get_within list i d at_d, get_or_from_slice_get list i d d at_d) (j, slice_get_within list j e at_e, get_or_from_slice_get list j e e at_e)).1 met)

  -- and what stands before it comes before
  before_at : (i j : ℕ) (d e : Departure) → i < j → slice_get list i ≡ Some d → slice_get list j ≡ Some e → origin (half d) ≡ origin (half e) → is_before_by_angle (half d) (half e) ≡ true
  before_at i j d e lt at_d at_e met =
      elim (one_or_before edges planar (origin (half e)) (half d) (half e) (subst (λ v. Leaves edges v (half d)) met (leaves_at i d at_d)) (leaves_at j e at_e)) [
        | inl one ↦ absurd
            (all.once i j d lt (slice_get_within list j e at_e)
            (ap (λ (x : Departure). x.id.number) (get_or_from_slice_get list i d d at_d)
            ∙ one_number edges distinct d.id.number e.id.number (half e) (subst (λ h. IsHalfEdge edges d.id.number h) one (numbered_at i d at_d)) (numbered_at j e at_e)
            ∙ ap (λ (x : Departure). x.id.number) (sym (get_or_from_slice_get list j e d at_e))))
        | inr apart ↦ elim apart [
          | inl before ↦ before
          | inr after ↦ absurd (not_both after (not_before i j d e (omega arith) at_d at_e met))
        ]
      ]

  -- ---- neighbours

  follows : (g a : HalfEdge) → Leaves edges (origin a) g → Leaves edges (origin a) a → ((k : HalfEdge) → Leaves edges (origin a) k → is_in_sector g a k ≡ false) → IsNext edges (twin a) g
  follows g a at_g at_a none =
      let ends : origin a ≡ target (twin a) = sym (ap origin (twin-twin a)) ∙ (twin_leaves edges planar (twin a) at_a.among).from in
      record {
        among = at_a.among;
        leaves = subst (λ v. Leaves edges v g) ends at_g;
        none_inside = λ k at. subst (λ b. is_in_sector g b k ≡ false) (sym (twin-twin a)) (none k (subst (λ v. Leaves edges v k) (sym ends) at));
      }

  module _ (i : ℕ) (a : Departure) (at_a : slice_get list i ≡ Some a) where
    -- the last so far of the vertex, or the last of all where this one is the first: none is between them
    none_between : (j : ℕ) (g : Departure) → slice_get list j ≡ Some g → g.vertex.number ≡ a.vertex.number
        → ((j < i) × ((p : ℕ) (d : Departure) → j < p → p < i → slice_get list p ≡ Some d → ¬ (d.vertex.number ≡ a.vertex.number)))
        ⊎ ((i ≤ j) × ((p : ℕ) (d : Departure) → (p < i) ⊎ (j < p) → slice_get list p ≡ Some d → ¬ (d.vertex.number ≡ a.vertex.number)))
        → (k : HalfEdge) → Leaves edges (origin (half a)) k → is_in_sector (half g) (half a) k ≡ false
    none_between j g at_g vertex (inl (lt, none)) k leaves =
        let (p, d, at_d, one, same) = place_of i a at_a k leaves in
        let met = one_vertex j i g a at_g at_a vertex in
        let met_d = one_vertex p i d a at_d at_a same in
        subst (λ h. is_in_sector (half g) (half a) h ≡ false) one
        (out_of_less (half g) (half a) (half d) (before_at j i g a lt at_g at_a met)
        (elim (cases_lt j p) [
          | inr early ↦ inl (not_before p j d g early at_d at_g (met_d ∙ sym met))
          | inl after ↦ elim (cases_lt p i) [
            | inl between ↦ absurd (none p d after between at_d same)
            | inr late ↦ inr (not_before i p a d late at_a at_d (sym met_d))
          ]
        ]))
    none_between j g at_g vertex (inr (le, none)) k leaves =
        let (p, d, at_d, one, same) = place_of i a at_a k leaves in
        let met = one_vertex j i g a at_g at_a vertex in
        let met_d = one_vertex p i d a at_d at_a same in
        subst (λ h. is_in_sector (half g) (half a) h ≡ false) one
        (elim (cases_lt p i) [
          | inl early ↦ absurd (none p d (inl early) at_d same)
          | inr from ↦ elim (cases_lt j p) [
            | inl late ↦ absurd (none p d (inr late) at_d same)
            | inr to ↦
                out_of_rest (half g) (half a) (half d) (not_before i j a g le at_a at_g (sym met)) (not_before p j d g to at_d at_g (met_d ∙ sym met)) (not_before i p a d from at_a at_d (sym met_d))
          ]
        ])

    -- the half-edge before this one follows its twin
    pub follows_before : (id : Side) → IsBefore list i a.vertex.number id → (w : ℕ) → IsHalfEdge edges w (twin (half a)) → IsNextNumber edges w id.number
    follows_before id before w at_w =
        elim before [
          | inl last ↦ number_of last.place last.departure last.at_place last.leaves last.is (inl (last.within, last.latest))
          | inr first ↦ (
              let last = first.1 in
              number_of last.place last.departure last.at_place last.leaves last.is
              (inr (
                elim (cases_lt last.place i) [
                  | inl early ↦ absurd (first.0 last.place last.departure early last.at_place last.leaves)
                  | inr late ↦ late
                ],
                λ p d out at. elim out [
                  | inl early ↦ first.0 p d early at
                  | inr late ↦ last.latest p d late (slice_get_within list p d at) at
                ],
              ))
              )
        ]
      where
        number_of : (j : ℕ) (g : Departure) → slice_get list j ≡ Some g → g.vertex.number ≡ a.vertex.number → g.id ≡ id
            → ((j < i) × ((p : ℕ) (d : Departure) → j < p → p < i → slice_get list p ≡ Some d → ¬ (d.vertex.number ≡ a.vertex.number)))
            ⊎ ((i ≤ j) × ((p : ℕ) (d : Departure) → (p < i) ⊎ (j < p) → slice_get list p ≡ Some d → ¬ (d.vertex.number ≡ a.vertex.number)))
            → IsNextNumber edges w id.number
        number_of j g at_g vertex is where_g =
            record {
              from = twin (half a);
              to = half g;
              from_is = at_w;
              to_is = subst (λ (x : Side). IsHalfEdge edges x.number (half g)) is (numbered_at j g at_g);
              follows = follows (half g) (half a) (subst (λ v. Leaves edges v (half g)) (one_vertex j i g a at_g at_a vertex) (leaves_at j g at_g)) (leaves_at i a at_a) (none_between j g at_g vertex where_g);
            }
