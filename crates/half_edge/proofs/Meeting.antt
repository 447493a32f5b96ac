-- Edges that meet in ends alone.
use mathlib.Core.List.{List}
use Rattle.std.proofs.Common.{◌≡◌, refl, sym, ◌∙◌, ap, subst, ℕ, ◌+◌, ◌-◌, ◌<◌, ◌≤◌, ◌↔◌, Bool, true, false, true≢false, length, drop, map, get_or, Some, slice_get, inl, inr, arith, length-take, length-drop}
use Rattle.std.specs.Prelude.{All, Contains, slice_range}
use Rattle.std.specs.Option.{option_map}
use Rattle.std.proofs.lemmas.Bool.{cases_lt}
use Rattle.std.proofs.lemmas.List.{get_or-take, get_or-drop, get_or-map, get_or_default, length-map}
use Rattle.std.proofs.lemmas.List.Elements.{All-contains, Contains-get_or}
use Rattle.std.proofs.lemmas.Option.{slice_get-get_or, slice_get-map}
use Rattle.box_tree.specs.Places.{places}
use Rattle.box_tree.specs.Rect.{IsInside, box_of_segment, is_touching}
use Rattle.box_tree.specs.declared.rect.Rect.{Rect}
use Rattle.box_tree.proofs.CommonPoint.{touch-common_of_segments}
use Rattle.box_tree.proofs.PlaceLaws.{place_in, place_below}
use Rattle.cov_types.specs.Range.{IsSegInRange}
use Rattle.cov_types.specs.declared.seg.Seg.{Seg}
use Rattle.half_edge.proofs.Places.{read_at}
use Rattle.half_edge.specs.Arranged.{IsArranged, AreAscending, MeetInEndsAt, AreNodedFrom}
use Rattle.plane.specs.declared.contact.Contact.TheVariants.{Apart, CommonEnd}
use Rattle.plane.specs.Contact.{IsContact, MeetsBadly}
use Rattle.plane.specs.Noded.{MeetInEnds, IsNodedFully}
use Rattle.plane.proofs.Contacts.{end-same}
use Rattle.plane.proofs.Points.{same_point-sym}

-- ---- by contact

pub meet_apart : (e f : Seg) → IsContact e f Apart → MeetInEnds e f
meet_apart e f apart = inr (λ r common. absurd (apart r common))

pub meet_in_end : (e f : Seg) → IsContact e f CommonEnd → MeetInEnds e f
meet_in_end e f (p, contact) =
    inr (λ r common.
    let back = same_point-sym r p (contact.0.only r common) in
    (end-same e p r back contact.1, end-same f p r back contact.2))

pub bad_meets_not : (e f : Seg) → MeetsBadly e f → ¬ MeetInEnds e f
bad_meets_not e f (apart, (r, (common, not_ends))) meet =
    elim meet [
      | inl same ↦ apart same
      | inr ends ↦ not_ends (ends r common)
    ]

-- edges whose boxes are apart meet in ends alone
meet_beside : (e f : Seg) → is_touching (box_of_segment e) (box_of_segment f) ≡ false → MeetInEnds e f
meet_beside e f beside = inr (λ r common. absurd (true≢false (sym (touch-common_of_segments e f r common.0 common.1) ∙ beside)))

-- ---- one edge and those near it

module _ (e : Seg) (edges : List Seg) (near : List ℕ) (found : near ≡ places (is_touching (box_of_segment e)) 0 (map box_of_segment edges)) where
  pub near_within : All (λ k. k < length edges) near
  near_within =
      subst (All (λ k. k < length edges)) (sym found)
      (subst (λ n. All (λ k. k < n) (places (is_touching (box_of_segment e)) 0 (map box_of_segment edges))) (length-map edges box_of_segment) (place_below (is_touching (box_of_segment e)) (map box_of_segment edges)))

  meet_by_touch : (k : ℕ) (d : Seg) (touches : Bool) → k < length edges → is_touching (box_of_segment e) (box_of_segment (get_or edges k d)) ≡ touches → MeetInEndsAt e edges near → MeetInEnds e (get_or edges k d)
  meet_by_touch k d true within touch meet =
      let box : slice_get (map box_of_segment edges) k ≡ Some (box_of_segment (get_or edges k d)) =
      slice_get-map box_of_segment edges k ∙ ap (option_map box_of_segment) (slice_get-get_or edges k d within) in
      let has : Contains near k = subst (λ (ks : List ℕ). Contains ks k) (sym found) ((place_in (is_touching (box_of_segment e)) (map box_of_segment edges) k).1 (box_of_segment (get_or edges k d), box, touch)) in
      All-contains (λ j. (c : Seg) → MeetInEnds e (get_or edges j c)) near k meet has d
  meet_by_touch k d false within apart meet = meet_beside e (get_or edges k d) apart

  -- the edge meets all in ends alone where it meets those near it so
  pub meet_all : MeetInEndsAt e edges near → All (MeetInEnds e) edges
  meet_all meet k d within = meet_by_touch k d (is_touching (box_of_segment e) (box_of_segment (get_or edges k d))) within refl meet

  pub meet_near : All (MeetInEnds e) edges → MeetInEndsAt e edges near
  meet_near all i j within d = all (get_or near i j) d (near_within i j within)

-- ---- block by block

pub noded_none : (edges : List Seg) (n : ℕ) → AreNodedFrom edges n n
noded_none edges n = λ k d from lt. absurd (omega arith)

pub noded_more : (edges : List Seg) (first k : ℕ) (e : Seg) → k < length edges → e ≡ get_or edges k e → All (MeetInEnds e) edges → AreNodedFrom edges first k → AreNodedFrom edges first (k + 1)
noded_more edges first k e within at meet before =
    λ j d from lt.
    elim (cases_lt j k) [
      | inl early ↦ before j d from early
      | inr late ↦
          let here : j ≡ k = omega (arith, lt, late) in
          subst (λ n. All (MeetInEnds (get_or edges n d)) edges) (sym here) (subst (λ s. All (MeetInEnds s) edges) (sym (read_at edges k e d within at)) meet)
    ]

pub noded_then : (edges : List Seg) (first middle past : ℕ) → AreNodedFrom edges first middle → AreNodedFrom edges middle past → AreNodedFrom edges first past
noded_then edges first middle past before after =
    λ k d from lt.
    elim (cases_lt k middle) [
      | inl early ↦ before k d from early
      | inr late ↦ after k d (omega (arith, late)) lt
    ]

-- an edge of the block that does not meet all so
pub not_noded_at : (edges : List Seg) (first past k : ℕ) (e : Seg) → first ≤ k → k < past → k < length edges → e ≡ get_or edges k e → ¬ All (MeetInEnds e) edges → ¬ AreNodedFrom edges first past
not_noded_at edges first past k e from to within at fails noded =
    fails (subst (λ s. All (MeetInEnds s) edges) (read_at edges k e e within at) (noded k e from to))

pub noded_all : (edges : List Seg) (n : ℕ) → length edges ≤ n → AreNodedFrom edges 0 n → IsNodedFully edges
noded_all edges n long noded e f (k, within, at) has =
    subst (λ s. MeetInEnds s f) at (All-contains (MeetInEnds (get_or edges k e)) edges f (noded k e (omega arith) (omega (arith, within, long))) has)

pub noded_fails : (edges : List Seg) (first past : ℕ) → past ≤ length edges → ¬ AreNodedFrom edges first past → ¬ IsNodedFully edges
noded_fails edges first past within fails noded =
    fails (λ k d from lt j c below. noded (get_or edges k d) (get_or edges j c) (Contains-get_or edges k d (omega (arith, within, lt))) (Contains-get_or edges j c below))

-- ---- in another order

module _ (edges along : List Seg) (same : (e : Seg) → Contains along e ↔ Contains edges e) where
  pub in_range_along : All IsSegInRange edges → All IsSegInRange along
  in_range_along in_range k d within = All-contains IsSegInRange edges (get_or along k d) in_range ((same (get_or along k d)).0 (Contains-get_or along k d within))

  pub noded_along : IsNodedFully edges ↔ IsNodedFully along
  noded_along = (λ noded e f has_e has_f. noded e f ((same e).0 has_e) ((same f).0 has_f), λ noded e f has_e has_f. noded e f ((same e).1 has_e) ((same f).1 has_f))

-- ---- a block and its hull

-- a box of a block is within its hull
pub in_hull : (boxes : List Rect) (first past k : ℕ) (round b : Rect) → All (λ c. IsInside c round) (slice_range boxes first past) → first ≤ k → k < past → past ≤ length boxes → b ≡ get_or boxes k b → IsInside b round
in_hull boxes first past k round b all low high within at =
    let j = k - first in
    let back : first + j ≡ k = omega arith in
    let short : j < past - first = omega arith in
    let inside : j < length (slice_range boxes first past) = omega (arith, length-take (past - first) (drop first boxes), length-drop first boxes) in
    let same : get_or (slice_range boxes first past) j b ≡ b =
    get_or-take (past - first) (drop first boxes) j b short ∙ get_or-drop first boxes j b ∙ ap (λ n. get_or boxes n b) back ∙ sym at in
    subst (λ c. IsInside c round) same (all j b inside)

-- and the box of an edge is that of its place
box_at : (edges : List Seg) (boxes : List Rect) (k : ℕ) (e : Seg) (b : Rect) → boxes ≡ map box_of_segment edges → k < length edges → e ≡ get_or edges k e → b ≡ get_or boxes k b → b ≡ box_of_segment e
box_at edges boxes k e b same within at_e at_b =
    let long = length-map edges box_of_segment in
    at_b ∙ get_or_default boxes k b (box_of_segment e) (omega (arith, within, long, ap length same)) ∙ ap (λ bs. get_or bs k (box_of_segment e)) same ∙ get_or-map box_of_segment edges k e (box_of_segment e) within
    ∙ ap box_of_segment (sym at_e)

-- so what is found near the box at a place is near the edge there
pub near_found : (edges : List Seg) (boxes : List Rect) (k : ℕ) (e : Seg) (b : Rect) (near found : List ℕ) → boxes ≡ map box_of_segment edges → k < length edges → e ≡ get_or edges k e → b ≡ get_or boxes k b
    → near ≡ found → found ≡ places (is_touching b) 0 boxes → near ≡ places (is_touching (box_of_segment e)) 0 (map box_of_segment edges)
near_found edges boxes k e b near found same within at_e at_b read is =
    let box : b ≡ box_of_segment e = box_at edges boxes k e b same within at_e at_b in
    read ∙ is ∙ (λ i. places (is_touching (box i)) 0 (same i))

-- what makes a list of edges fit for an arena
pub arranged : (edges : List Seg) → All IsSegInRange edges → AreAscending edges → IsNodedFully edges → IsArranged edges
arranged edges in_range up noded = record { planar = record { in_range = in_range; noded = noded }; ascending = up }
