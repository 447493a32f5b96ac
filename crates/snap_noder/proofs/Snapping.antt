-- The uses of chain edges.
use mathlib.Core.List.{[], ◌∷◌}
use Rattle.std.proofs.Common.{◌≡◌, inl, inr, refl, sym, ◌∙◌, ap, subst, ℕ, ◌+◌, ◌<◌, ◌≤◌, ◌%◌, ◌==◌, ◌↔◌, Bool, true, false, cond, IsTrue, nat_lt, List, ◌++◌, get_or, length, take, map, Option, Some, None, slice_get, IsPermutation, arith}
use Rattle.std.specs.Prelude.{All, Contains, sum_by, flat_map, zip, option_to_list}
use Rattle.std.specs.List.{AllZip}
use Rattle.std.proofs.lemmas.List.{append-nil, append_assoc, map-append, take_more, take_all, get_or_default}
use Rattle.std.proofs.lemmas.List.Elements.{All-contains, All-map, Contains-get_or, Contains-append_cases}
use Rattle.std.proofs.lemmas.List.Concat.{flat_map-append}
use Rattle.std.proofs.lemmas.List.Sums.{sum_by-append, sum_by-cons}
use Rattle.std.proofs.lemmas.Bool.Decides.{nat_tests}
use Rattle.std.proofs.lemmas.List.Sorted.{sum_by-IsPermutation, IsPermutation-sym, All-permutation}
use Rattle.std.proofs.lemmas.Option.{slice_get-get_or, get_or_from_slice_get}
use Rattle.cov_types.specs.Range.{IsSegInRange}
use Rattle.cov_types.specs.Uses.{seg_between, ends_inside, HasEvenEnds}
use Rattle.cov_types.specs.declared.coord.Coord.{Coord}
use Rattle.cov_types.specs.declared.edge_use.EdgeUse.{EdgeUse}
use Rattle.cov_types.specs.declared.seg.Seg.{Seg}
use Rattle.cov_types.proofs.Equal.{Decides-same_segs}
use Rattle.crossing_laws.specs.Across.{is_same_seg}
use Rattle.plane.specs.Noded.{IsNodedFully}
use Rattle.plane.specs.Snapping.{IsChain, chain_edges}
use Rattle.plane.proofs.Sweeps.{rises-in_range}
use Rattle.rounding_laws.specs.Laws.{IsNodedEdge}
use Rattle.rounding_laws.proofs.Edges.{chain_edge, edge_in_range}
use Rattle.rounding_laws.proofs.Ends.{even_ends}
use Rattle.rounding_laws.proofs.Noded.{list_fully_noded}
use Rattle.rounding_laws.proofs.Shadow.{half_unit}
use Rattle.arrangement.specs.declared.odd_use.OddUse.{OddUse}
use Rattle.arrangement.specs.Noding.{segments, AreChains, snapped_uses, AreSnapped, AreEdges, IsNoded, odd_uses}
use Rattle.crossing_laws.proofs.Lists.{contains_here, contains_there, contains-map}
use Rattle.snap_noder.specs.Snapped.{chain_uses, HasSegmentBefore, AreSnappedOver, IsNearSegments}
use Rattle.snap_noder.proofs.Alike.{HaveSameElements, Follows, follow, sum_of_pieces, firsts_of_zip, zip_of_parts, each_of_zip, zip_of_each, alike_edges}
use Rattle.snap_noder.proofs.LiveUses.{even_odd}
use Rattle.snap_noder.proofs.ParityLemmas.{contains_mapped}
use Rattle.snap_noder.proofs.Zip.{zip_more, zipped_push}

-- ---- the loop over the uses

pub snapped_start : (segs : List Seg) (out : List EdgeUse) → out ≡ [] → AreSnappedOver segs [] out
snapped_start segs out empty = record { chains = []; are_chains = tt; made = empty }

snapped_push : (segs : List Seg) (uses : List EdgeUse) (chains : List (List Coord)) (u : EdgeUse) (chain : List Coord) → AllZip (λ v c. IsChain segs v.seg c) uses chains
    → snapped_uses (uses ++ u ∷ []) (chains ++ chain ∷ []) ≡ snapped_uses uses chains ++ chain_uses (u, chain)
snapped_push segs uses chains u chain each =
    ap (flat_map chain_uses) (zipped_push (λ v c. IsChain segs v.seg c) uses chains u chain each)
    ∙ flat_map-append chain_uses (zip uses chains) ((u, chain) ∷ [])
    ∙ ap (λ us. snapped_uses uses chains ++ us) (append-nil (chain_uses (u, chain)))

-- u is the use at i, and its chain follows
pub snapped_more : (segs : List Seg) (list before after : List EdgeUse) (i : ℕ) (u : EdgeUse) (chain read : List Coord) → i < length list → u ≡ get_or list i u
    → AreSnappedOver segs (take i list) before → IsChain segs u.seg chain → read ≡ chain → after ≡ before ++ chain_uses (u, read) → AreSnappedOver segs (take (i + 1) list) after
snapped_more segs list before after i u chain read within is so_far along same pushed = record {
  chains = so_far.chains ++ chain ∷ [];
  are_chains = zip_more (λ v c. IsChain segs v.seg c) list so_far.chains i u chain within is so_far.are_chains along;
  made =
      pushed
      ∙ (λ j. so_far.made j ++ chain_uses (u, same j))
      ∙ sym (snapped_push segs (take i list) so_far.chains u chain so_far.are_chains)
      ∙ ap (λ us. snapped_uses us (so_far.chains ++ chain ∷ [])) (ap (λ v. take i list ++ v ∷ []) is ∙ sym (take_more list i u within));
}

pub snapped_all : (segs : List Seg) (list out : List EdgeUse) (i : ℕ) → length list ≤ i → AreSnappedOver segs (take i list) out → AreSnappedOver segs list out
snapped_all segs list out i past h = subst (λ (us : List EdgeUse). AreSnappedOver segs us out) (take_all i list past) h

-- the chain that the loop has is that of the use before i
abbrev pub IsChainBefore : List Seg → List EdgeUse → ℕ → List Coord → Type 0
IsChainBefore segs list i chain = (u : EdgeUse) (k : ℕ) → k + 1 ≡ i → slice_get list k ≡ Some u → IsChain segs u.seg chain

pub chain_before_none : (segs : List Seg) (list : List EdgeUse) (chain : List Coord) → IsChainBefore segs list 0 chain
chain_before_none segs list chain u k next at = absurd (omega arith)

-- u is the use at i: its chain is that which the loop has, where the use before has the same segment
pub chain_again : (segs : List Seg) (list : List EdgeUse) (i : ℕ) (u : EdgeUse) (chain now : List Coord) → i < length list → u ≡ get_or list i u → IsChainBefore segs list i chain → HasSegmentBefore list i → now ≡ chain → IsChain segs u.seg now
chain_again segs list i u chain now within is along before same =
    let here : before.here ≡ u = sym (get_or_from_slice_get list i before.here u before.at_here) ∙ sym is in
    subst (IsChain segs u.seg) (sym same) (subst (λ (s : Seg). IsChain segs s chain) (before.same ∙ ap (λ (v : EdgeUse). v.seg) here) (along before.before before.earlier before.next before.at_before))

-- and then it is that which the loop has for the next use
pub chain_kept : (segs : List Seg) (list : List EdgeUse) (i : ℕ) (u : EdgeUse) (chain : List Coord) → u ≡ get_or list i u → IsChain segs u.seg chain → IsChainBefore segs list (i + 1) chain
chain_kept segs list i u chain is along v k next at =
    let place : k ≡ i = omega arith in
    subst (λ (w : EdgeUse). IsChain segs w.seg chain) (is ∙ ap (λ n. get_or list n u) (sym place) ∙ get_or_from_slice_get list k v u at) along

-- the test of the uses at j and at i, one after the other
pub same_before : (list : List EdgeUse) (i j : ℕ) (d e : EdgeUse) (b : Bool) → i < length list → j + 1 ≡ i → b ≡ is_same_seg (get_or list j d).seg (get_or list i e).seg → IsTrue b ↔ HasSegmentBefore list i
same_before list i j d e b within next told = (there, back)
  where
    there : IsTrue b → HasSegmentBefore list i
    there h = record {
      earlier = j;
      before = get_or list j d;
      here = get_or list i e;
      next = next;
      at_before = slice_get-get_or list j d (omega arith);
      at_here = slice_get-get_or list i e within;
      same = (Decides-same_segs (get_or list j d).seg (get_or list i e).seg).0 (sym told ∙ h);
    }

    back : HasSegmentBefore list i → IsTrue b
    back h =
        let place : h.earlier ≡ j = omega (arith, h.next) in
        let before = ap (λ n. get_or list n d) (sym place) ∙ get_or_from_slice_get list h.earlier h.before d h.at_before in
        let here = get_or_from_slice_get list i h.here e h.at_here in
        told ∙ (Decides-same_segs (get_or list j d).seg (get_or list i e).seg).1 (ap (λ (w : EdgeUse). w.seg) before ∙ h.same ∙ ap (λ (w : EdgeUse). w.seg) (sym here))

-- the first use has none before it
pub none_before : (list : List EdgeUse) (i : ℕ) → i ≤ 0 → IsTrue (nat_lt 0 i) ↔ HasSegmentBefore list i
none_before list i none = (λ h. absurd (grind (arith, nat_tests)), λ h. absurd (omega (arith, h.next)))

-- ---- uses in another order

-- the uses of the chain edges, in the order of the list
pub record AreSnappedAlike (list out : List EdgeUse) : Type 0 where
  pub snapped : List EdgeUse
  pub are : AreSnapped list snapped
  pub alike : HaveSameElements snapped out

module _ (list sorted out : List EdgeUse) (moved : IsPermutation list sorted) (over : AreSnappedOver (segments list) sorted out) where
  -- each use of the list with its chain
  paired : Follows (zip sorted over.chains) list
  paired = follow (zip sorted over.chains) list (subst (λ us. IsPermutation us list) (sym (firsts_of_zip (λ u c. IsChain (segments list) u.seg c) sorted over.chains over.are_chains)) (IsPermutation-sym list sorted moved))

  paired_zip : paired.there ≡ zip list (map (λ p. p.1) paired.there)
  paired_zip = sym (zip_of_parts paired.there) ∙ ap (λ us. zip us (map (λ p. p.1) paired.there)) paired.are

  paired_chains : AreChains list (map (λ p. p.1) paired.there)
  paired_chains =
      subst (λ us. AllZip (λ u c. IsChain (segments list) u.seg c) us (map (λ p. p.1) paired.there)) paired.are
      (zip_of_each (λ u c. IsChain (segments list) u.seg c) paired.there
      (All-permutation (λ p. IsChain (segments list) p.0.seg p.1) (zip sorted over.chains) paired.there paired.moved (each_of_zip (λ u c. IsChain (segments list) u.seg c) sorted over.chains over.are_chains)))

  pub in_list_order : AreSnappedAlike list out
  in_list_order = record {
    snapped = flat_map chain_uses paired.there;
    are = record { chains = map (λ p. p.1) paired.there; are_chains = paired_chains; made = ap (flat_map chain_uses) paired_zip };
    alike = λ f.
        sum_of_pieces f chain_uses paired.there
        ∙ sum_by-IsPermutation (λ p. sum_by f (chain_uses p)) (zip sorted over.chains) paired.there paired.moved
        ∙ sym (sum_of_pieces f chain_uses (zip sorted over.chains))
        ∙ ap (sum_by f) (sym over.made);
  }

-- ---- the loop along a chain

edges_between : Coord → Coord → List Seg
edges_between a b = option_to_list (seg_between a b)

chain_push : (front : List Coord) (a b : Coord) → chain_edges (front ++ a ∷ b ∷ []) ≡ chain_edges (front ++ a ∷ []) ++ edges_between a b
unfolding edges_between
chain_push [] a b = append-nil (edges_between a b)
chain_push (x ∷ []) a b = ap (λ es. edges_between x a ++ es) (chain_push [] a b) ∙ sym (append_assoc (edges_between x a) [] (edges_between a b))
chain_push (x ∷ y ∷ front) a b = ap (λ es. edges_between x y ++ es) (chain_push (y ∷ front) a b) ∙ sym (append_assoc (edges_between x y) (chain_edges (y ∷ front ++ a ∷ [])) (edges_between a b))

-- the uses along the first i centres of a chain
abbrev pub AlongSoFar : List EdgeUse → EdgeUse → List Coord → ℕ → List EdgeUse → Type 0
AlongSoFar start u chain i out = out ≡ start ++ chain_uses (u, take i chain)

pub along_start : (start : List EdgeUse) (u : EdgeUse) (chain : List Coord) → AlongSoFar start u chain 1 start
along_start start u [] = sym (append-nil start)
along_start start u (a ∷ chain) = sym (append-nil start)

pub along_all : (start : List EdgeUse) (u : EdgeUse) (chain : List Coord) (i : ℕ) (out : List EdgeUse) → length chain ≤ i → AlongSoFar start u chain i out → out ≡ start ++ chain_uses (u, chain)
along_all start u chain i out past so_far = so_far ∙ ap (λ (c : List Coord). start ++ chain_uses (u, c)) (take_all i chain past)

-- a and b are the centres at j and i, neighbours
along_split : (chain : List Coord) (i j : ℕ) (a b : Coord) → j + 1 ≡ i → i < length chain → a ≡ get_or chain j a → b ≡ get_or chain i b
    → (take i chain ≡ take j chain ++ a ∷ []) × (take (i + 1) chain ≡ take j chain ++ a ∷ b ∷ [])
along_split chain i j a b next within at_a at_b =
    let first : take i chain ≡ take j chain ++ a ∷ [] =
    ap (λ n. take n chain) (sym next) ∙ take_more chain j a (omega arith) ∙ ap (λ (c : Coord). take j chain ++ c ∷ []) (sym at_a) in
    (first, take_more chain i b within ∙ (λ k. first k ++ sym at_b k ∷ []) ∙ append_assoc (take j chain) (a ∷ []) (b ∷ []))

pub along_more : (start before after : List EdgeUse) (u : EdgeUse) (chain : List Coord) (i j : ℕ) (a b : Coord) → j + 1 ≡ i → i < length chain → a ≡ get_or chain j a → b ≡ get_or chain i b
    → AlongSoFar start u chain i before → after ≡ before ++ map (λ e. record { member = u.member; seg = e }) (option_to_list (seg_between a b)) → AlongSoFar start u chain (i + 1) after
unfolding edges_between
along_more start before after u chain i j a b next within at_a at_b so_far pushed =
    let split = along_split chain i j a b next within at_a at_b in
    let name : Seg → EdgeUse = λ e. record { member = u.member; seg = e } in
    pushed
    ∙ (λ k. so_far k ++ map name (edges_between a b))
    ∙ append_assoc start (chain_uses (u, take i chain)) (map name (edges_between a b))
    ∙ ap (λ us. start ++ us)
    (ap (λ (c : List Coord). map name (chain_edges c) ++ map name (edges_between a b)) split.0
    ∙ sym (map-append name (chain_edges (take j chain ++ a ∷ [])) (edges_between a b))
    ∙ ap (map name) (sym (chain_push (take j chain) a b))
    ∙ ap (λ (c : List Coord). map name (chain_edges c)) (sym split.1))

-- the centres at j and i, as the loop reads them, and the segment between them, if there is one
module _ (start before after : List EdgeUse) (u : EdgeUse) (chain : List Coord) (i j : ℕ) (d e : Coord) (next : j + 1 ≡ i) (within : i < length chain) (so_far : AlongSoFar start u chain i before)
    (found : Option Seg) (between : found ≡ seg_between (get_or chain j d) (get_or chain i e)) where
  along_read : after ≡ before ++ map (λ s. record { member = u.member; seg = s }) (option_to_list found) → AlongSoFar start u chain (i + 1) after
  along_read pushed =
      along_more start before after u chain i j (get_or chain j d) (get_or chain i e) next within (get_or_default chain j d (get_or chain j d) (omega arith)) (get_or_default chain i e (get_or chain i e) within) so_far
      (pushed ∙ ap (λ (o : Option Seg). before ++ map (λ s. record { member = u.member; seg = s }) (option_to_list o)) between)

  pub along_found : (seg : Seg) → found ≡ Some seg → after ≡ before ++ record { member = u.member; seg = seg } ∷ [] → AlongSoFar start u chain (i + 1) after
  along_found seg is pushed = along_read (pushed ∙ ap (λ (o : Option Seg). before ++ map (λ s. record { member = u.member; seg = s }) (option_to_list o)) (sym is))

  pub along_none : found ≡ None → after ≡ before → AlongSoFar start u chain (i + 1) after
  along_none is same = along_read (same ∙ sym (append-nil before) ∙ ap (λ (o : Option Seg). before ++ map (λ s. record { member = u.member; seg = s }) (option_to_list o)) (sym is))

-- ---- what the uses are

-- the use of a chain edge: of u, along the chain
pub record IsAlong (segs : List Seg) (uses : List EdgeUse) (v : EdgeUse) : Type 0 where
  pub of : EdgeUse
  pub chain : List Coord
  pub used : Contains uses of
  pub is_chain : IsChain segs of.seg chain
  pub edge : Contains (chain_edges chain) v.seg

of_chain : (segs : List Seg) (uses : List EdgeUse) (u v : EdgeUse) (chain : List Coord) → Contains uses u → IsChain segs u.seg chain → Contains (chain_uses (u, chain)) v → IsAlong segs uses v
of_chain segs uses u v chain used is_chain h =
    let edge = contains_mapped (λ e. record { member = u.member; seg = e }) (chain_edges chain) v h in
    record { of = u; chain = chain; used = used; is_chain = is_chain; edge = subst (λ (e : Seg). Contains (chain_edges chain) e) (ap (λ (w : EdgeUse). w.seg) edge.1.1) edge.1.0 }

snapped_along : (segs : List Seg) (uses : List EdgeUse) (chains : List (List Coord)) → AllZip (λ u c. IsChain segs u.seg c) uses chains → (v : EdgeUse) → Contains (snapped_uses uses chains) v → IsAlong segs uses v
snapped_along segs [] [] each v (k, within, is) = absurd (omega arith)
snapped_along segs [] (c ∷ chains) each v h = absurd each
snapped_along segs (u ∷ uses) [] each v h = absurd each
snapped_along segs (u ∷ uses) (c ∷ chains) each v h =
    elim (Contains-append_cases (chain_uses (u, c)) (snapped_uses uses chains) v h) [
      | inl here ↦ of_chain segs (u ∷ uses) u v c (contains_here u uses) each.0 here
      | inr later ↦ (let rest = snapped_along segs uses chains each.1 v later in
          record { of = rest.of; chain = rest.chain; used = contains_there u rest.of uses rest.used; is_chain = rest.is_chain; edge = rest.edge })
    ]

module _ (list : List EdgeUse) (in_range : All (λ u. IsSegInRange u.seg) list) (chains : List (List Coord)) (are : AreChains list chains) where
  segs_in_range : All IsSegInRange (segments list)
  segs_in_range = All-map IsSegInRange (λ (u : EdgeUse). u.seg) list in_range

  edge_along : (e : Seg) → Contains (segments (snapped_uses list chains)) e → (v : EdgeUse) × (IsAlong (segments list) list v × (v.seg ≡ e))
  edge_along e h =
      let v = contains_mapped (λ (w : EdgeUse). w.seg) (snapped_uses list chains) e h in
      (v.0, (snapped_along (segments list) list chains are v.0 v.1.0, v.1.1))

  noded_edge : (e : Seg) → Contains (segments (snapped_uses list chains)) e → IsNodedEdge (segments list) e
  noded_edge e h =
      let v = edge_along e h in
      let along = v.1.0 in
      (along.of.seg, (along.chain, (contains-map (λ (w : EdgeUse). w.seg) list along.of along.used, along.is_chain, subst (λ (f : Seg). Contains (chain_edges along.chain) f) v.1.1 along.edge)))

  module _ (edges : List Seg) (listed : (e : Seg) → Contains edges e ↔ Contains (segments (snapped_uses list chains)) e) where
    noded_all : All (IsNodedEdge (segments list)) edges
    noded_all k d within = noded_edge (get_or edges k d) ((listed (get_or edges k d)).0 (Contains-get_or edges k d within))

    pub edges_fully_noded : IsNodedFully edges
    edges_fully_noded = list_fully_noded (segments list) segs_in_range edges noded_all

    pub edges_in_range : All IsSegInRange edges
    edges_in_range k d within =
        let noded = noded_all k d within in
        let range = All-contains IsSegInRange (segments list) noded.0 segs_in_range noded.1.1.0 in
        edge_in_range (segments list) noded.0 (get_or edges k d) range (chain_edge (segments list) noded.0 noded.1.0 (get_or edges k d) (rises-in_range noded.0 range) noded.1.1.1 noded.1.1.2)

-- every point of a chain edge is near a point of its segment
pub near_segments : (list : List EdgeUse) (edges : List Seg) → All (λ u. IsSegInRange u.seg) list → IsNearSegments list edges
near_segments list edges in_range e listed u chain used along has =
    half_unit (segments list) u.seg chain e (rises-in_range u.seg (All-contains (λ (v : EdgeUse). IsSegInRange v.seg) list u in_range used)) along has

-- ---- even ends

-- the sum of a test's value over edges
tested_sum : (t : Bool) (f : Seg → ℕ) (edges : List Seg) → sum_by (λ e. cond t (f e) 0) edges ≡ cond t (sum_by f edges) 0
tested_sum true f edges = refl
tested_sum false f [] = refl
tested_sum false f (e ∷ edges) = sum_by-cons (λ g. cond false (f g) 0) e edges ∙ omega (arith, tested_sum false f edges)

tested_parity : (t : Bool) (m n : ℕ) → m % 2 ≡ n % 2 → cond t m 0 % 2 ≡ cond t n 0 % 2
tested_parity true m n h = h
tested_parity false m n h = refl

sum_of_mapped : {X Y : Type 0} (f : Y → ℕ) (g : X → Y) (xs : List X) → sum_by f (map g xs) ≡ sum_by (λ x. f (g x)) xs
sum_of_mapped f g [] = refl
sum_of_mapped f g (x ∷ xs) = sum_by-cons f (g x) (map g xs) ∙ ap (λ n. f (g x) + n) (sum_of_mapped f g xs) ∙ sym (sum_by-cons (λ y. f (g y)) x xs)

parity_of_sum : (a b c d : ℕ) → a % 2 ≡ c % 2 → b % 2 ≡ d % 2 → (a + b) % 2 ≡ (c + d) % 2
parity_of_sum a b c d e f = omega arith

module _ (segs : List Seg) (inside : Coord → Bool) (member : ℕ) where
  ends : EdgeUse → ℕ
  ends u = cond (u.member == member) (ends_inside inside u.seg) 0

  chain_even : (u : EdgeUse) (chain : List Coord) → IsSegInRange u.seg → Contains segs u.seg → IsChain segs u.seg chain → sum_by ends (chain_uses (u, chain)) % 2 ≡ ends u % 2
  unfolding ends
  chain_even u chain range has along =
      ap (λ n. n % 2) (sum_of_mapped ends (λ e. record { member = u.member; seg = e }) (chain_edges chain) ∙ tested_sum (u.member == member) (ends_inside inside) (chain_edges chain))
      ∙ tested_parity (u.member == member) _ _ (even_ends segs u.seg chain (rises-in_range u.seg range) has along inside)

  snapped_parity : (uses : List EdgeUse) (chains : List (List Coord)) → ((u : EdgeUse) → Contains uses u → IsSegInRange u.seg × Contains segs u.seg) → AllZip (λ u c. IsChain segs u.seg c) uses chains
      → sum_by ends (snapped_uses uses chains) % 2 ≡ sum_by ends uses % 2
  snapped_parity [] [] all each = refl
  snapped_parity [] (c ∷ chains) all each = absurd each
  snapped_parity (u ∷ uses) [] all each = absurd each
  snapped_parity (u ∷ uses) (c ∷ chains) all each =
      let here = all u (contains_here u uses) in
      ap (λ n. n % 2) (sum_by-append ends (chain_uses (u, c)) (snapped_uses uses chains))
      ∙ parity_of_sum _ _ _ _ (chain_even u c here.0 here.1 each.0) (snapped_parity uses chains (λ v h. all v (contains_there u v uses h)) each.1)
      ∙ ap (λ n. n % 2) (sym (sum_by-cons ends u uses))

pub snapped_even : (list : List EdgeUse) (chains : List (List Coord)) → All (λ u. IsSegInRange u.seg) list → AreChains list chains → HasEvenEnds list → HasEvenEnds (snapped_uses list chains)
unfolding ends
snapped_even list chains in_range are even inside member =
    snapped_parity (segments list) inside member list chains
    (λ u h. (All-contains (λ (v : EdgeUse). IsSegInRange v.seg) list u in_range h, contains-map (λ (v : EdgeUse). v.seg) list u h)) are
    ∙ even inside member

-- ---- what the code ends with: the edges of the snapped uses, which it made in another order

module _ (list sorted seen uses : List EdgeUse) (segs : List Seg) (in_range : All (λ u. IsSegInRange u.seg) list) (built : segs ≡ segments list) (moved : IsPermutation list sorted) (same : seen ≡ sorted)
    (over : AreSnappedOver segs seen uses) (edges : List Seg) (odd : List OddUse) (are : AreEdges uses edges odd) where
  alike : AreSnappedAlike list uses
  alike = in_list_order list sorted uses moved (subst (λ (ss : List Seg). AreSnappedOver ss sorted uses) built (subst (λ (us : List EdgeUse). AreSnappedOver segs us uses) same over))

  are_edges : AreEdges alike.snapped edges odd
  are_edges = alike_edges alike.snapped uses edges odd alike.alike are

  listed : (e : Seg) → Contains edges e ↔ Contains (segments (snapped_uses list alike.are.chains)) e
  listed = (subst (λ (us : List EdgeUse). AreEdges us edges odd) alike.are.made are_edges).exact

  pub is_noded : IsNoded list edges odd
  is_noded = record { snapped = alike.snapped; are_snapped = alike.are; are_edges = are_edges }

  pub is_fully_noded : IsNodedFully edges
  is_fully_noded = edges_fully_noded list in_range alike.are.chains alike.are.are_chains edges listed

  pub is_in_range : All IsSegInRange edges
  is_in_range = edges_in_range list in_range alike.are.chains alike.are.are_chains edges listed

  pub is_even : HasEvenEnds list → HasEvenEnds (odd_uses edges odd)
  is_even even = even_odd alike.snapped edges odd are_edges (subst HasEvenEnds (sym alike.are.made) (snapped_even list alike.are.chains in_range alike.are.are_chains even))
