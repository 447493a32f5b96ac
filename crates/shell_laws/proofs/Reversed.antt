-- A walk round a part from outside, by next half-edges, is a ring round it when it is taken back: reversed, and each half-edge as its twin.
use mathlib.Core.List.{[], ◌∷◌, reverse-cons}
use Rattle.std.proofs.Common.{◌≡◌, refl, sym, ◌∙◌, ap, subst, zero, suc, Bool, true, List, ◌++◌, map, reverse, get_or, inl, inr, arith}
use Rattle.std.specs.Prelude.{Contains, All, AllPairs}
use Rattle.std.proofs.lemmas.List.{get_or_default, append_assoc, append-nil}
use Rattle.std.proofs.lemmas.List.Elements.{All-nil, All-cons, All-head, All-tail}
use Rattle.cov_types.specs.declared.seg.Seg.{Seg}
use Rattle.crossing_laws.proofs.Lists.{contains_here, contains_there}
use Rattle.sector_laws.specs.Sector.{HalfEdge, twin, IsNext}
use Rattle.sector_laws.proofs.Next.{twin-twin}
use Rattle.region_laws.proofs.Balance.{first_or_later}
use Rattle.shell_laws.specs.Part.{part_boundary, IsTurn, AreTurns}
use Rattle.shell_laws.specs.Ring.{IsClosed, IsRingRound, last_of, AreNexts, IsWalkOutside}

-- the twins of the walk in reverse order, before the others
onto : List HalfEdge → List HalfEdge → List HalfEdge
onto done [] = done
onto done (k ∷ ks) = onto (twin k ∷ done) ks

reversed : (done ks : List HalfEdge) → reverse (map twin ks) ++ done ≡ onto done ks
unfolding onto
reversed done [] = refl
reversed done (k ∷ ks) =
    ap (λ xs. xs ++ done) (reverse-cons (twin k) (map twin ks))
    ∙ append_assoc (reverse (map twin ks)) (twin k ∷ []) done
    ∙ reversed (twin k ∷ done) ks

-- ---- turns

turn_back : (boundary : List Seg) (f g : HalfEdge) → IsNext boundary f g → IsTurn boundary (twin g) (twin f)
turn_back boundary f g next = subst (λ x. IsNext boundary x (twin (twin g))) (sym (twin-twin f)) (subst (λ y. IsNext boundary f y) (sym (twin-twin g)) next)

closed_end : (boundary : List Seg) (h : HalfEdge) (way : List HalfEdge) (end : HalfEdge) → AreTurns boundary (h ∷ way) → IsTurn boundary (last_of h way) end → AreTurns boundary (h ∷ (way ++ end ∷ []))
closed_end boundary h [] end turns last = (last, tt)
closed_end boundary h (k ∷ ks) end turns last = (turns.0, closed_end boundary k ks end turns.1 last)

without_end : (boundary : List Seg) (h : HalfEdge) (way : List HalfEdge) (end : HalfEdge) → AreTurns boundary (h ∷ (way ++ end ∷ [])) → AreTurns boundary (h ∷ way)
without_end boundary h [] end turns = tt
without_end boundary h (k ∷ ks) end turns = (turns.0, without_end boundary k ks end turns.1)

closed_turns : (boundary : List Seg) (ring : List HalfEdge) → IsClosed boundary ring → AreTurns boundary ring
closed_turns boundary [] closed = tt
closed_turns boundary (h ∷ way) closed = without_end boundary h way h closed

closed_onto : (boundary : List Seg) (f k : HalfEdge) (done ks : List HalfEdge) → AreTurns boundary (twin k ∷ done) → last_of (twin k) done ≡ twin f → AreNexts boundary (k ∷ (ks ++ f ∷ []))
    → IsClosed boundary (onto (twin k ∷ done) ks)
unfolding onto
closed_onto boundary f k done [] turns last nexts = closed_end boundary (twin k) done (twin k) turns (subst (λ x. IsTurn boundary x (twin k)) (sym last) (turn_back boundary k f nexts.0))
closed_onto boundary f k done (m ∷ ms) turns last nexts = closed_onto boundary f m (twin k ∷ done) ms (turn_back boundary k m nexts.0, turns) last nexts.1

-- ---- elements

all_onto : (P : HalfEdge → Type 0) (done ks : List HalfEdge) → All P done → All (λ k. P (twin k)) ks → All P (onto done ks)
unfolding onto
all_onto P done [] all twins = all
all_onto P done (k ∷ ks) all twins = all_onto P (twin k ∷ done) ks (All-cons P (twin k) done (All-head (λ m. P (twin m)) k ks twins) all) (All-tail (λ m. P (twin m)) k ks twins)

abbrev Differ : HalfEdge → HalfEdge → Type 0
Differ h g = ¬ (h.edge ≡ g.edge)

pairs_cons : (h : HalfEdge) (hs : List HalfEdge) → ((g : HalfEdge) → Contains hs g → Differ h g) → AllPairs Differ hs → AllPairs Differ (h ∷ hs)
pairs_cons h hs new pairs i zero d less within = absurd (omega arith)
pairs_cons h hs new pairs zero (suc j) d less within = new (get_or hs j d) (j, omega arith, get_or_default hs j (get_or hs j d) d (omega arith))
pairs_cons h hs new pairs (suc i) (suc j) d less within = pairs i j d (omega arith) (omega arith)

apart_first : (h : HalfEdge) (hs : List HalfEdge) → AllPairs Differ (h ∷ hs) → (g : HalfEdge) → Contains hs g → Differ h g
apart_first h hs pairs g (j, within, is) same = pairs zero (suc j) g (omega arith) (omega arith) (same ∙ sym (ap (λ (x : HalfEdge). x.edge) is))

pairs_onto : (done ks : List HalfEdge) → AllPairs Differ done → ((m g : HalfEdge) → Contains done m → Contains ks g → Differ m g) → AllPairs Differ ks → AllPairs Differ (onto done ks)
unfolding onto
pairs_onto done [] pairs apart rest = pairs
pairs_onto done (k ∷ ks) pairs apart rest =
    pairs_onto (twin k ∷ done) ks (pairs_cons (twin k) done (λ g has same. apart g k has (contains_here k ks) (sym same)) pairs)
    (λ m g in_done in_rest. elim (first_or_later (twin k) done m in_done) [
      | inl here ↦ (λ same. apart_first k ks rest g in_rest (ap (λ (x : HalfEdge). x.edge) here ∙ same))
      | inr later ↦ apart m g later (contains_there k g ks in_rest)
    ])
    (λ i j d less within. rest (suc i) (suc j) d (omega arith) (omega arith))

-- ---- the ring

pub walk_ring : (edges : List Seg) (passes : HalfEdge → Bool) (f : HalfEdge) (walk : List HalfEdge) → IsWalkOutside edges passes f walk → IsRingRound edges passes (reverse (map twin (f ∷ walk)))
unfolding onto
walk_ring edges passes f walk is = subst (IsRingRound edges passes) (sym (reversed [] (f ∷ walk)) ∙ append-nil (reverse (map twin (f ∷ walk)))) (record {
  way = record {
    border = all_onto (λ k. Contains boundary k.edge) [] (f ∷ walk) (All-nil (λ k. Contains boundary k.edge)) is.border;
    inside = all_onto (λ k. passes k ≡ true) [] (f ∷ walk) (All-nil (λ k. passes k ≡ true)) is.inside;
    turns = closed_turns boundary (onto [] (f ∷ walk)) closed;
    once = pairs_onto [] (f ∷ walk) (λ i j d less within. absurd (omega arith)) (λ m g has. absurd (omega (arith, has.1))) is.once;
  };
  closed = closed;
})
  where
    boundary : List Seg
    boundary = part_boundary edges passes

    closed : IsClosed boundary (onto [] (f ∷ walk))
    closed = closed_onto boundary f f [] walk tt refl is.nexts
