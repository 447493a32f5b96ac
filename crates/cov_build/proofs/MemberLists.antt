-- The polygons of the parts of members, part by part.
use mathlib.Core.List.{List, [], ◌∷◌, ◌++◌}
use Rattle.std.proofs.Common.{◌≡◌, refl, sym, ◌∙◌, ap, subst, ℕ, zero, suc, ◌+◌, ◌<◌, Bool, true, false, true≢false, cond, length, get_or, set, map, flat_map, replicate, Contains, Option, Some, slice_get, inl, inr, arith}
use Rattle.std.specs.Global.{Vec}
use Rattle.std.specs.List.Sorted.{IsPermutation}
use Rattle.std.proofs.lemmas.Bool.{cases_eq}
use Rattle.std.proofs.lemmas.List.{length-set, length_push, length-replicate}
use Rattle.std.proofs.lemmas.List.Elements.{Contains-append_left, Contains-push, Contains-push_cases, Contains-get_or}
use Rattle.std.proofs.lemmas.List.Quantifiers.{all_pairs_push}
use Rattle.std.proofs.lemmas.List.Sorted.{Contains-permutation}
use Rattle.std.proofs.lemmas.Option.{none-some, same_Some, slice_get_within, slice_get-get_or}
use Rattle.cov_types.specs.declared.coord.Coord.{Coord}
use Rattle.cov_types.specs.declared.seg.Seg.{Seg}
use Rattle.cov_types.specs.Coord.{is_before}
use Rattle.cov_types.specs.Coverage.{Members}
use Rattle.cov_types.specs.Uses.{sides}
use Rattle.cov_types.proofs.Equal.{same_segs}
use Rattle.cov_types.proofs.Order.{is_before-asymm}
use Rattle.region_laws.proofs.Balance.{first_or_later}
use Rattle.crossing_laws.proofs.Lists.{contains_here, contains_there}
use Rattle.cov_build.specs.Boundaries.{way_round}
use Rattle.cov_build.specs.Members.{IsMemberPart, AreApart, AreListsApart, IsPartPolygon, ArePartPolygons, AreAllPartPolygons, AreShellsSorted, AreSortedMembers}
use Rattle.cov_build.specs.Rings.{IsBoundaryPolygon}
use Rattle.cov_build.specs.declared.boundary.BoundaryEdge.{BoundaryEdge}
use Rattle.cov_build.proofs.BoundaryLists.{get-set, get-push}

-- ---- ways round

pub from_map : {X Y : Type 0} (f : X → Y) (xs : List X) (y : Y) → Contains (map f xs) y → (x : X) × (Contains xs x × (f x ≡ y))
from_map f [] y c = absurd (omega (arith, c.1))
from_map f (x ∷ xs) y c = elim (first_or_later (f x) (map f xs) y c) [
  | inl here ↦ (x, (contains_here x xs, here))
  | inr later ↦ (let (z, (there, is)) = from_map f xs y later in (z, (contains_there x z xs there, is)))
]

same_edges : (a b : BoundaryEdge) → a.edge ≡ b.edge → a.above ≡ b.above → a ≡ b
same_edges a b edge above = λ i. record { edge = edge i; above = above i }

abbrev way_of : Bool → Seg → Coord × Coord
way_of s e = cond s (e.lo, e.hi) (e.hi, e.lo)

-- a way round is of one edge
pub one_way : (a b : BoundaryEdge) → way_round a ≡ way_round b → a ≡ b
one_way a b same = by a.above b.above refl refl same
  where
    against : (e f : Seg) → e.lo ≡ f.hi → e.hi ≡ f.lo → ⊥
    against e f first second = true≢false (sym f.ordered ∙ (λ i. is_before (sym second i) (sym first i)) ∙ is_before-asymm e.lo e.hi e.ordered)

    by : (s t : Bool) → a.above ≡ s → b.above ≡ t → way_of s a.edge ≡ way_of t b.edge → a ≡ b
    by true true is_a is_b way = same_edges a b (same_segs a.edge b.edge (λ i. (way i).0) (λ i. (way i).1)) (is_a ∙ sym is_b)
    by false false is_a is_b way = same_edges a b (same_segs a.edge b.edge (λ i. (way i).1) (λ i. (way i).0)) (is_a ∙ sym is_b)
    by true false is_a is_b way = absurd (against a.edge b.edge (λ i. (way i).0) (λ i. (way i).1))
    by false true is_a is_b way = absurd (against b.edge a.edge (λ i. (sym way i).0) (λ i. (sym way i).1))

-- ---- part by part

module _ (lists : List (Vec BoundaryEdge)) (owners : List (Option ℕ)) where
  pub polygons_none : (i : ℕ) → ArePartPolygons lists owners 0 i []
  polygons_none i = record {
    each = λ rings c. absurd (omega (arith, c.1));
    every = λ p boundary below. absurd (omega (arith, below));
    apart = λ j k d before within. absurd (omega (arith, within));
  }

  longer : (first i : ℕ) (rings : List (List Coord)) → IsPartPolygon lists owners first i rings → IsPartPolygon lists owners (first + 1) i rings
  longer first i rings is = record { place = is.place; boundary = is.boundary; before = (let before = is.before in omega (arith, before)); member_part = is.member_part; polygon = is.polygon }

  pub polygons_skip : (first i : ℕ) (polys : List (List (List Coord))) → ((boundary : List BoundaryEdge) → IsMemberPart lists owners i first boundary → ⊥) → ArePartPolygons lists owners first i polys
      → ArePartPolygons lists owners (first + 1) i polys
  polygons_skip first i polys none are = record {
    each = λ rings c. longer first i rings (are.each rings c);
    every = λ p boundary below part. elim (cases_eq p first) [
      | inl here ↦ absurd (none boundary (subst (λ q. IsMemberPart lists owners i q boundary) here part))
      | inr apart ↦ are.every p boundary (omega (arith, below, apart)) part
    ];
    apart = are.apart;
  }

  one_boundary : (i j p : ℕ) (a b : List BoundaryEdge) → IsMemberPart lists owners i p a → IsMemberPart lists owners j p b → a ≡ b
  one_boundary i j p a b first second = sym first.is ∙ ap (λ (v : Vec BoundaryEdge). v.items) (same_Some first.vec second.vec (sym first.at ∙ second.at)) ∙ second.is

  apart_from : AreListsApart lists → (i j p q : ℕ) (a b : List BoundaryEdge) (x y : List (List Coord)) → (p ≡ q → ⊥) → IsMemberPart lists owners i p a → IsMemberPart lists owners j q b
      → IsBoundaryPolygon a x → IsBoundaryPolygon b y → AreApart x y
  apart_from apart i j p q a b x y other part_p part_q of_a of_b way in_x in_y =
      let (e, (in_a, is_e)) = from_map way_round a way (Contains-permutation (flat_map sides x) (map way_round a) way of_a.bounds.sides in_x) in
      let (f, (in_b, is_f)) = from_map way_round b way (Contains-permutation (flat_map sides y) (map way_round b) way of_b.bounds.sides in_y) in
      apart p q part_p.vec part_q.vec part_p.at part_q.at other e f (subst (λ es. Contains es e) (sym part_p.is) in_a) (subst (λ es. Contains es f) (sym part_q.is) in_b) (one_way e f (is_e ∙ sym is_f))

  pub polygons_more : AreListsApart lists → (first i : ℕ) (polys : List (List (List Coord))) (boundary : List BoundaryEdge) (rings : List (List Coord)) → IsMemberPart lists owners i first boundary
      → IsBoundaryPolygon boundary rings → ArePartPolygons lists owners first i polys → ArePartPolygons lists owners (first + 1) i (polys ++ rings ∷ [])
  polygons_more apart first i polys boundary rings part polygon are = record {
    each = λ x c. elim (Contains-push_cases polys rings x c) [
      | inl old ↦ longer first i x (are.each x old)
      | inr new ↦ subst (IsPartPolygon lists owners (first + 1) i) new (record { place = first; boundary = boundary; before = omega arith; member_part = part; polygon = polygon })
    ];
    every = λ p b below p_part. elim (cases_eq p first) [
      | inl here ↦ (rings, (Contains-push polys rings, subst (λ bs. IsBoundaryPolygon bs rings) (one_boundary i i first boundary b part (subst (λ q. IsMemberPart lists owners i q b) here p_part)) polygon))
      | inr other ↦ (let (x, (there, is)) = are.every p b (omega (arith, below, other)) p_part in (x, (Contains-append_left polys (rings ∷ []) x there, is)))
    ];
    apart = all_pairs_push AreApart polys rings are.apart (λ k d within. (
        let old = are.each (get_or polys k d) (Contains-get_or polys k d within) in
        let before = old.before in
        apart_from apart i i old.place first old.boundary boundary (get_or polys k d) rings (λ same. omega (arith, same, before)) old.member_part part old.polygon polygon
        ));
  }

  -- ---- for all members

  pub members_none : (members : ℕ) (out : Members) → out ≡ replicate members [] → AreAllPartPolygons lists owners 0 members out
  members_none members out all = subst (AreAllPartPolygons lists owners 0 members) (sym all) (record {
    count = length-replicate members [];
    each = λ i polys at. subst (ArePartPolygons lists owners 0 i) (empty members i polys at) (polygons_none i);
  })
    where
      empty : (n i : ℕ) (polys : List (List (List Coord))) → slice_get (replicate n []) i ≡ Some polys → [] ≡ polys
      empty zero i polys at = absurd (none-some polys at)
      empty (suc n) zero polys at = same_Some [] polys at
      empty (suc n) (suc i) polys at = empty n i polys at

  pub members_skip : (first members : ℕ) (out : Members) → ((i : ℕ) (boundary : List BoundaryEdge) → IsMemberPart lists owners i first boundary → ⊥) → AreAllPartPolygons lists owners first members out
      → AreAllPartPolygons lists owners (first + 1) members out
  members_skip first members out none are = record { count = are.count; each = λ i polys at. polygons_skip first i polys (none i) (are.each i polys at) }

  pub members_more : AreListsApart lists → (first members : ℕ) (out : Members) (i : ℕ) (before after : List (List (List Coord))) (boundary : List BoundaryEdge) (rings : List (List Coord))
      → i < length out → before ≡ get_or out i before → after ≡ before ++ rings ∷ [] → IsMemberPart lists owners i first boundary → IsBoundaryPolygon boundary rings
      → AreAllPartPolygons lists owners first members out → AreAllPartPolygons lists owners (first + 1) members (set out i after)
  members_more apart first members out i before after boundary rings within here pushed part polygon are = record {
    count = length-set out i after ∙ are.count;
    each = λ j polys at. elim (get-set out i after j polys at) [
      | inl written ↦
          subst (ArePartPolygons lists owners (first + 1) j) (sym (written.1 ∙ pushed))
          (subst (λ k. ArePartPolygons lists owners (first + 1) k (before ++ rings ∷ [])) (sym written.0)
          (polygons_more apart first i before boundary rings part polygon (are.each i before (slice_get-get_or out i before within ∙ ap (λ x. Some x) (sym here)))))
      | inr kept ↦
          polygons_skip first j polys (λ b other. kept.0 (same_Some j i (sym other.owned ∙ part.owned))) (are.each j polys kept.1)
    ];
  }

-- ---- sorted members

pub sorted_none : (out : Members) → out ≡ [] → AreSortedMembers [] out
sorted_none out none = subst (AreSortedMembers []) (sym none) (record { count = refl; each = λ i a b at. absurd (none-some a at) })

pub sorted_more : (before after more : Members) (a b : List (List (List Coord))) → IsPermutation a b → AreShellsSorted b → more ≡ after ++ b ∷ [] → AreSortedMembers before after → AreSortedMembers (before ++ a ∷ []) more
sorted_more before after more a b same sorted pushed are = subst (AreSortedMembers (before ++ a ∷ [])) (sym pushed) (record {
  count = length_push after b ∙ ap (λ n. n + 1) are.count ∙ sym (length_push before a);
  each = λ i x y at_x at_y. elim (get-push before a i x at_x) [
    | inl last_x ↦ elim (get-push after b i y at_y) [
      | inl last_y ↦ (subst (λ z. IsPermutation z y) (sym last_x.1) (subst (IsPermutation a) (sym last_y.1) same), subst AreShellsSorted (sym last_y.1) sorted)
      | inr old_y ↦ absurd (let short = slice_get_within after i y old_y in let count = are.count in let place = last_x.0 in omega (arith, short, count, place))
    ]
    | inr old_x ↦ elim (get-push after b i y at_y) [
      | inl last_y ↦ absurd (let short = slice_get_within before i x old_x in let count = are.count in let place = last_y.0 in omega (arith, short, count, place))
      | inr old_y ↦ are.each i x y old_x old_y
    ]
  ];
})
