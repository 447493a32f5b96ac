-- The live edges: those of the odd uses.
use mathlib.Core.List.{[], ◌∷◌}
use Rattle.std.proofs.Common.{◌≡◌, inl, inr, sym, ◌∙◌, ap, subst, true≢false, ℕ, ◌+◌, ◌<◌, ◌≤◌, ◌%◌, ◌==◌, ◌↔◌, true, false, cond, List, ◌++◌, get_or, length, Option, Some, slice_get, map, take, arith}
use Rattle.std.specs.Prelude.{AllPairs, Contains, option_to_list}
use Rattle.std.proofs.lemmas.Bool.{false_from_ne_true}
use Rattle.std.proofs.lemmas.List.{append-nil, take_more, take_all}
use Rattle.std.proofs.lemmas.List.Concat.{flat_map-append}
use Rattle.std.proofs.lemmas.List.Elements.{All-contains}
use Rattle.std.proofs.lemmas.List.Sums.{sum_by-cons}
use Rattle.std.proofs.lemmas.Option.{slice_get-get_or}
use Rattle.cov_types.specs.Seg.{is_seg_before}
use Rattle.cov_types.specs.Uses.{ends_inside, HasEvenEnds}
use Rattle.cov_types.specs.declared.edge_use.EdgeUse.{EdgeUse}
use Rattle.cov_types.specs.declared.seg.Seg.{Seg}
use Rattle.cov_types.proofs.SegOrder.{is_seg_before-irrefl}
use Rattle.sector_laws.specs.Sector.{AreDistinct}
use Rattle.crossing_laws.specs.Across.{member_times}
use Rattle.hot_pixel.proofs.Ascending.{all_pairs_head, all_pairs_tail}
use Rattle.arrangement.specs.declared.odd_use.OddUse.{OddUse}
use Rattle.arrangement.specs.Noding.{IsAscending, IsOdd, AreEdges, odd_uses}
use Rattle.arrangement.proofs.OddUses.{is_same_use, Decides-same_use, same_parity, odd_used}
use Rattle.snap_noder.specs.Places.{HavePlaces}
use Rattle.snap_noder.proofs.Times.{contains_cases, odd_has, times_has}

-- ---- the loop over the odd pairs

-- the use that a pair stands for
abbrev uses_of_pair : List Seg → OddUse → List EdgeUse
uses_of_pair edges o = map (λ e. record { member = o.member; seg = e }) (option_to_list (slice_get edges o.edge))

-- the pair at i, read through a slice, and its edge
pub odd_uses_more : (edges : List Seg) (odd shown : List OddUse) (before after : List EdgeUse) (i : ℕ) (d : OddUse) (e : Seg) → HavePlaces edges odd → shown ≡ odd → i < length shown
    → e ≡ get_or edges (get_or shown i d).edge e
    → before ≡ odd_uses edges (take i odd) → after ≡ before ++ record { member = (get_or shown i d).member; seg = e } ∷ [] → after ≡ odd_uses edges (take (i + 1) odd)
odd_uses_more edges odd shown before after i d e places same within is so_far pushed =
    let o = get_or shown i d in
    let read : o ≡ get_or odd i d = ap (λ (ps : List OddUse). get_or ps i d) same in
    let place : o.edge < length edges = subst (λ (p : OddUse). p.edge < length edges) (sym read) (places i d (omega (arith, ap length same))) in
    let at : slice_get edges o.edge ≡ Some e = slice_get-get_or edges o.edge e place ∙ ap Some (sym is) in
    let name : Seg → EdgeUse = λ s. record { member = o.member; seg = s } in
    pushed
    ∙ (λ j. so_far j ++ name e ∷ [])
    ∙ ap (λ (found : Option Seg). odd_uses edges (take i odd) ++ map name (option_to_list found)) (sym at)
    ∙ ap (λ us. odd_uses edges (take i odd) ++ us) (sym (append-nil (uses_of_pair edges o)))
    ∙ sym (flat_map-append (uses_of_pair edges) (take i odd) (o ∷ []))
    ∙ ap (odd_uses edges) (ap (λ (p : OddUse). take i odd ++ p ∷ []) read ∙ sym (take_more odd i d (omega (arith, ap length same))))

pub odd_uses_all : (edges : List Seg) (odd shown : List OddUse) (out : List EdgeUse) (i : ℕ) → shown ≡ odd → length shown ≤ i → out ≡ odd_uses edges (take i odd) → out ≡ odd_uses edges odd
odd_uses_all edges odd shown out i same past so_far = so_far ∙ ap (odd_uses edges) (take_all i odd (omega (arith, ap length same)))

-- ---- a list without repeats

-- each of its uses is there once
once : (u : EdgeUse) (uses : List EdgeUse) → AllPairs (λ v w. ¬ (v ≡ w)) uses → Contains uses u → member_times u.seg uses u.member ≡ 1
once u [] differ (k, within, is) = absurd (omega arith)
once u (v ∷ uses) differ h =
    let cons = sum_by-cons (λ w. cond (is_same_use w u) 1 0) v uses in
    elim (contains_cases v u uses h) [
      | inl here ↦ (
          let test : is_same_use v u ≡ true = (Decides-same_use v u).1 here in
          let none : member_times u.seg uses u.member ≡ 0 = none_of (member_times u.seg uses u.member) (λ some. later_differs here (times_has is_same_use Decides-same_use u uses some)) in
          cons ∙ (λ i. cond (test i) 1 0 + none i) ∙ omega arith)
      | inr later ↦ (
          let test : is_same_use v u ≡ false = false_from_ne_true (is_same_use v u) (λ t. later_differs ((Decides-same_use v u).0 t) later) in
          cons ∙ (λ i. cond (test i) 1 0 + once u uses (all_pairs_tail (λ x w. ¬ (x ≡ w)) v uses differ) later i) ∙ omega arith)
    ]
  where
    later_differs : v ≡ u → Contains uses u → ⊥
    later_differs here later = All-contains (λ w. ¬ (v ≡ w)) uses u (all_pairs_head (λ x w. ¬ (x ≡ w)) v uses differ) later here

    none_of : (n : ℕ) → ¬ (0 < n) → n ≡ 0
    none_of n not_some = omega arith

-- a use is odd there just where it is listed
pub odd_in_distinct : (u : EdgeUse) (uses : List EdgeUse) → AllPairs (λ v w. ¬ (v ≡ w)) uses → IsOdd uses u.member u.seg ↔ Contains uses u
odd_in_distinct u uses differ = (λ odd. odd_has is_same_use Decides-same_use u uses odd, λ has. ap (λ n. n % 2) (once u uses differ has) ∙ omega arith)

-- ---- even ends

-- the odd uses have even ends where the uses have
pub even_odd : (uses : List EdgeUse) (edges : List Seg) (odd : List OddUse) → AreEdges uses edges odd → HasEvenEnds uses → HasEvenEnds (odd_uses edges odd)
even_odd uses edges odd are even inside member =
    sym (same_parity uses edges odd are.ascending are.pairs (λ m e is_odd. (are.exact e).1 (odd_used uses m e is_odd)) (λ u. cond (u.member == member) (ends_inside inside u.seg) 0)) ∙ even inside member

-- ---- ascending edges differ

pub ascending_distinct : (edges : List Seg) → IsAscending edges → AreDistinct edges
ascending_distinct edges up i j d before within same =
    true≢false (sym (up i j d before within) ∙ ap (λ (s : Seg). is_seg_before s (get_or edges j d)) same ∙ is_seg_before-irrefl (get_or edges j d))
