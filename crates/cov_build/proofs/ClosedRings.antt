-- The rings of closed walks as closed ways of half-edges, and which of them is the shell.
use mathlib.Core.List.{List, [], ◌∷◌, ◌++◌, reverse, reverse-cons}
use Rattle.std.proofs.Common.{◌≡◌, refl, sym, ◌∙◌, ap, subst, ℕ, zero, suc, ◌+◌, ◌<◌, Bool, true, false, true≢false, not, cond, length, get_or, take, drop, map, set, swap, remove, Contains, inl, inr, arith}
use Rattle.std.specs.Prelude.{⊤}
use Rattle.std.specs.List.Sorted.{IsPermutation}
use Rattle.std.proofs.lemmas.List.{length-map, map-append, map-set, take-map, drop-map, get_or_append_left}
use Rattle.std.proofs.Math.ListN.{get_or-map}
use Rattle.std.proofs.Math.Seq.{get_or-append_seam}
use Rattle.std.proofs.lemmas.List.Elements.{All-nil, All-push, Contains-push_cases}
use Rattle.std.proofs.lemmas.List.Sorted.{IsPermutation-refl, IsPermutation-sym, IsPermutation-trans, IsPermutation-cons, IsPermutation-swap, IsPermutation-keeps, IsPermutation-remove, Contains-permutation, All-permutation}
use Rattle.cov_types.specs.declared.coord.Coord.{Coord}
use Rattle.cov_types.specs.declared.seg.Seg.{Seg}
use Rattle.sector_laws.specs.Sector.{HalfEdge, origin, twin, is_before_by_angle, IsHalfEdge, IsNext, IsNextNumber}
use Rattle.sector_laws.proofs.Next.{twin-twin}
use Rattle.sector_laws.proofs.Numbers.{one_half_edge}
use Rattle.shell_laws.specs.Part.{IsTurn, AreTurns}
use Rattle.shell_laws.specs.Ring.{IsClosed, last_of}
use Rattle.part_polygons.specs.Inside.{points_of}
use Rattle.cov_build.specs.Rings.{IsClosedFrom, is_open_down, AreClosedRings, IsInFront}
use Rattle.cov_build.specs.Walks.{first_or, LeadsByNext, IsRound, back_along, target_of}
use Rattle.cov_build.proofs.RingSides.{turned_walk, turned_leads, turned_ends, turned_front, leads_both, origin-twin}

-- ---- numbers back along a walk, and their half-edges

module _ (edges : List Seg) where
  -- each follows the next one of the list, and m the last of it
  abbrev LeadsBack : List ℕ → ℕ → Type 0
  LeadsBack [] m = ⊤
  LeadsBack (n ∷ ns) m = IsNextNumber edges (first_or m ns) n × LeadsBack ns m

  back_push : (ns : List ℕ) (n m : ℕ) → LeadsBack ns n → IsNextNumber edges m n → LeadsBack (ns ++ n ∷ []) m
  back_push [] n m leads next = (next, tt)
  back_push (k ∷ []) n m leads next = (leads.0, (next, tt))
  back_push (k ∷ j ∷ ns) n m leads next = (leads.0, back_push (j ∷ ns) n m leads.1 next)

  back_of : (way : List ℕ) (m end : ℕ) → IsNextNumber edges m (first_or end way) → LeadsByNext edges way end → LeadsBack (reverse way) m
  back_of [] m end next leads = tt
  back_of (n ∷ way) m end next leads = subst (λ ns. LeadsBack ns m) (sym (reverse-cons n way)) (back_push (reverse way) n m (back_of way n end leads.0 leads.1) next)

  -- the half-edges with the numbers
  abbrev AreHalves : List ℕ → List HalfEdge → Type 0
  AreHalves [] [] = ⊤
  AreHalves [] (h ∷ hs) = ⊥
  AreHalves (n ∷ ns) [] = ⊥
  AreHalves (n ∷ ns) (h ∷ hs) = IsHalfEdge edges n h × AreHalves ns hs

  halves_of : (ns : List ℕ) (m : ℕ) → LeadsBack ns m → (hs : List HalfEdge) × AreHalves ns hs
  halves_of [] m leads = ([], tt)
  halves_of (n ∷ ns) m leads = (let rest = halves_of ns m leads.1 in (leads.0.to ∷ rest.0, (leads.0.to_is, rest.1)))

  turn_back : (n m : ℕ) → IsNextNumber edges n m → (f g : HalfEdge) → IsHalfEdge edges n f → IsHalfEdge edges m g → IsTurn edges (twin g) (twin f)
  turn_back n m next f g at_f at_g =
      let follows : IsNext edges f g = subst (λ x. IsNext edges x g) (one_half_edge edges n next.from f next.from_is at_f) (subst (λ y. IsNext edges next.from y) (one_half_edge edges m next.to g next.to_is at_g) next.follows) in
      subst (λ x. IsNext edges x (twin (twin g))) (sym (twin-twin f)) (subst (λ y. IsNext edges f y) (sym (twin-twin g)) follows)

  turns_back : (n : ℕ) (ns : List ℕ) (m : ℕ) (k : HalfEdge) (ks : List HalfEdge) (end : HalfEdge) → LeadsBack (n ∷ ns) m → IsHalfEdge edges n k → AreHalves ns ks → IsHalfEdge edges m end
      → AreTurns edges (twin k ∷ (map twin ks ++ twin end ∷ []))
  turns_back n [] m k [] end leads at halves at_end = (turn_back m n leads.0 end k at_end at, tt)
  turns_back n [] m k (j ∷ ks) end leads at halves at_end = absurd halves
  turns_back n (i ∷ ns) m k [] end leads at halves at_end = absurd halves
  turns_back n (i ∷ ns) m k (j ∷ ks) end leads at halves at_end = (turn_back i n leads.0 j k halves.0 at, turns_back i ns m j ks end leads.1 halves.0 halves.1 at_end)

  target_is : (n : ℕ) (h : HalfEdge) → IsHalfEdge edges n h → target_of edges n ≡ origin (twin h)
  target_is n h at = ap (λ o. (back_along o).0) at ∙ sym (origin-twin h)

  targets_are : (ns : List ℕ) (hs : List HalfEdge) → AreHalves ns hs → map (target_of edges) ns ≡ points_of (map twin hs)
  targets_are [] [] halves = refl
  targets_are [] (h ∷ hs) halves = absurd halves
  targets_are (n ∷ ns) [] halves = absurd halves
  targets_are (n ∷ ns) (h ∷ hs) halves = λ i. target_is n h halves.0 i ∷ targets_are ns hs halves.1 i

first_again : (way : List ℕ) → first_or (first_or 0 way) way ≡ first_or 0 way
first_again [] = refl
first_again (n ∷ way) = refl

pub closed_from : (edges : List Seg) (way : List ℕ) (last : ℕ) → IsRound edges way → last < length way → (points : List Coord) → points ≡ map (target_of edges) (reverse (turned_walk way last))
    → IsClosedFrom edges (get_or way last 0) points
closed_from edges way last round within points is =
    let turned : List ℕ = turned_walk way last in
    let n : ℕ = get_or way last 0 in
    let before : List ℕ = drop (last + 1) way ++ take last way in
    let rest : List ℕ = reverse before in
    let leads : LeadsByNext edges turned (first_or 0 turned) = turned_leads edges way last round in
    let onto = leads_both edges before (n ∷ []) (first_or 0 turned) (subst (λ w. LeadsByNext edges w (first_or 0 turned)) (turned_ends way last within) leads) in
    let next : IsNextNumber edges n (first_or 0 turned) = onto.1.0 in
    let front : reverse turned ≡ n ∷ rest = turned_front way last within in
    let back : LeadsBack edges (n ∷ rest) n = subst (λ ns. LeadsBack edges ns n) front (back_of edges turned n (first_or 0 turned) (subst (IsNextNumber edges n) (sym (first_again turned)) next) leads) in
    let f = back.0.to in
    let at_f : IsHalfEdge edges n f = back.0.to_is in
    let halves = halves_of edges rest n back.1 in
    record {
      first = twin f;
      way = map twin halves.0;
      points_are = is ∙ ap (map (target_of edges)) front ∙ (λ i. target_is edges n f at_f i ∷ targets_are edges rest halves.0 halves.1 i);
      closed = turns_back edges n rest n f halves.0 f back at_f halves.1 at_f;
      back = subst (IsHalfEdge edges n) (sym (twin-twin f)) at_f;
    }

-- ---- a ring more, which may be the shell

last_turn : (edges : List Seg) (h : HalfEdge) (way : List HalfEdge) (end : HalfEdge) → AreTurns edges (h ∷ (way ++ end ∷ [])) → IsTurn edges (last_of h way) end
last_turn edges h [] end turns = turns.0
last_turn edges h (k ∷ ks) end turns = last_turn edges k ks end turns.1

open_within : (ways : List (List HalfEdge)) (k : ℕ) → is_open_down (get_or ways k []) ≡ true → k < length ways
open_within [] k opens = absurd (true≢false (sym opens))
open_within (way ∷ ways) zero opens = omega arith
open_within (way ∷ ways) (suc k) opens = (let rest = open_within ways k opens in omega (arith, rest))

abbrev IsTold : List (List HalfEdge) → ℕ → Type 0
IsTold ways shell = (way : List HalfEdge) → Contains ways way → is_open_down way ≡ true → is_open_down (get_or ways shell []) ≡ true

told_more : (ways : List (List HalfEdge)) (new : List HalfEdge) (shell : ℕ) → IsTold ways shell → (b : Bool) → is_open_down new ≡ b → IsTold (ways ++ new ∷ []) (cond b (length ways) shell)
told_more ways new shell told true is way has opens = ap is_open_down (get_or-append_seam ways new [] []) ∙ is
told_more ways new shell told false is way has opens = elim (Contains-push_cases ways new way has) [
  | inl old ↦ (let there = told way old opens in ap is_open_down (get_or_append_left ways (new ∷ []) [] shell (open_within ways shell there)) ∙ there)
  | inr here ↦ absurd (true≢false (sym opens ∙ ap is_open_down (sym here) ∙ is))
]

pub closed_more : (edges : List Seg) (n : ℕ) (down : Bool) (shell : ℕ) (rings more : List (List Coord)) (points : List Coord) → IsClosedFrom edges n points
    → ((f g : HalfEdge) → IsHalfEdge edges n f → IsNext edges f g → down ≡ not (is_before_by_angle g (twin f)))
    → more ≡ rings ++ points ∷ [] → AreClosedRings edges shell rings → AreClosedRings edges (cond down (length rings) shell) more
closed_more edges n down shell rings more points from tells pushed are =
    let new : List HalfEdge = from.first ∷ from.way in
    let last = last_of from.first from.way in
    let opens : is_open_down new ≡ down = sym (tells (twin from.first) (twin last) from.back (last_turn edges from.first from.way from.first from.closed) ∙ ap (λ h. not (is_before_by_angle (twin last) h)) (twin-twin from.first)) in
    let long : length rings ≡ length are.ways = ap length are.points_are ∙ length-map are.ways points_of in
    record {
      ways = are.ways ++ new ∷ [];
      points_are = pushed ∙ (λ i. are.points_are i ++ from.points_are i ∷ []) ∙ sym (map-append points_of are.ways (new ∷ []));
      closed = All-push (IsClosed edges) are.ways new are.closed from.closed;
      told = subst (λ k. IsTold (are.ways ++ new ∷ []) (cond down k shell)) (sym long) (told_more are.ways new shell are.told down opens);
    }

pub closed_none : (edges : List Seg) (shell : ℕ) (rings : List (List Coord)) → rings ≡ [] → AreClosedRings edges shell rings
closed_none edges shell rings none = record { ways = []; points_are = none; closed = All-nil (IsClosed edges); told = λ way has opens. absurd (omega (arith, has.1)) }

-- ---- the shell in front

map-swap : {X Y : Type 0} (f : X → Y) (xs : List X) (i j : ℕ) → swap (map f xs) i j ≡ map f (swap xs i j)
map-swap f [] i j = refl
map-swap f (d ∷ ys) i j =
    let xs = d ∷ ys in
    (λ t. set (set (map f xs) i (get_or-map f xs j d t)) j (get_or-map f xs i d t))
    ∙ ap (λ l. set l j (f (get_or xs i d))) (sym (map-set f xs i (get_or xs j d)))
    ∙ sym (map-set f (set xs i (get_or xs j d)) j (get_or xs i d))

-- a list that a map gives in another order is a map of the other order
map_permuted : {X Y : Type 0} (f : X → Y) (xs : List X) (ys : List Y) → IsPermutation (map f xs) ys → (zs : List X) × (IsPermutation xs zs × (ys ≡ map f zs))
map_permuted {X} f xs ys same = IsPermutation-keeps (map f xs) (λ l. (zs : List X) × (IsPermutation xs zs × (l ≡ map f zs))) (xs, (IsPermutation-refl xs, refl))
    (λ l i j in_i in_j (zs, (moved, is)). (
    let long : length l ≡ length zs = ap length is ∙ length-map zs f in
    (swap zs i j, (IsPermutation-trans xs zs (swap zs i j) moved (IsPermutation-swap zs (swap zs i j) i j (omega (arith, in_i, long)) (omega (arith, in_j, long)) refl), ap (λ v. swap v i j) is ∙ map-swap f zs i j))
    ))
    ys same

map_remove : {X Y : Type 0} (f : X → Y) (xs : List X) (k : ℕ) → remove (map f xs) k ≡ map f (remove xs k)
map_remove f xs k = (λ i. take-map f k xs i ++ drop-map f (suc k) xs i) ∙ sym (map-append f (take k xs) (drop (suc k) xs))

pub closed_front : (edges : List Seg) (shell : ℕ) (rings out : List (List Coord)) → shell < length rings → IsInFront shell rings out → AreClosedRings edges shell rings → AreClosedRings edges 0 out
closed_front edges shell rings out within front are =
    let ways = are.ways in
    let long : length rings ≡ length ways = ap length are.points_are ∙ length-map ways points_of in
    let inside : shell < length ways = omega (arith, within, long) in
    let first : List HalfEdge = get_or ways shell [] in
    let left : remove rings shell ≡ map points_of (remove ways shell) = ap (λ rs. remove rs shell) are.points_are ∙ map_remove points_of ways shell in
    let (others, (same, others_are)) = map_permuted points_of (remove ways shell) front.others (subst (λ rs. IsPermutation rs front.others) left front.same) in
    let moved : IsPermutation ways (first ∷ others) = IsPermutation-trans ways (first ∷ remove ways shell) (first ∷ others) (IsPermutation-remove ways shell first inside (first_at ways shell inside)) (IsPermutation-cons first (remove ways shell) others same) in
    record {
      ways = first ∷ others;
      points_are = front.is ∙ (λ i. (ap (λ rs. get_or rs shell []) are.points_are ∙ get_or-map points_of ways shell []) i ∷ others_are i);
      closed = All-permutation (IsClosed edges) ways (first ∷ others) moved are.closed;
      told = λ way has opens. are.told way (Contains-permutation (first ∷ others) ways way (IsPermutation-sym ways (first ∷ others) moved) has) opens;
    }
  where
    first_at : (ways : List (List HalfEdge)) (k : ℕ) → k < length ways → get_or ways k [] ≡ get_or ways k (get_or ways k [])
    first_at [] k less = absurd (omega arith)
    first_at (way ∷ ways) zero less = refl
    first_at (way ∷ ways) (suc k) less = first_at ways k (omega (arith, less))
