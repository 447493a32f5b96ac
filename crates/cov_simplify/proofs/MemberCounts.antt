-- Counting the members of each edge.
use Rattle.std.proofs.Common.{◌≡◌, inl, inr, sym, ◌∙◌, ap, subst, ℕ, ◌+◌, ◌<◌, ◌≤◌, ◌==◌, List, length, get_or, set, take, arith}
use Rattle.std.proofs.lemmas.Bool.{cases_eq, eq-eqb, ne_eqb}
use Rattle.std.proofs.lemmas.List.{length-set, take_all, get_or_read, get_or-set_same, get_or-set_other, length-take-le}
use Rattle.std.proofs.lemmas.List.Sums.{count_by_more_yes, count_by_more_no, count_by-le-length}
use Rattle.std.specs.Prelude.{All}
use Rattle.cov_types.specs.declared.seg.Seg.{Seg}
use Rattle.arrangement.specs.declared.odd_use.OddUse.{OddUse}
use Rattle.cov_simplify.specs.Inner.{AreMemberCounts}

pub counts_more : (odd : List OddUse) (counts : List ℕ) (i : ℕ) (o : OddUse) (before : ℕ) → i < length odd → o ≡ get_or odd i o → o.edge < length counts → before ≡ get_or counts o.edge before
    → AreMemberCounts (take i odd) counts → AreMemberCounts (take (i + 1) odd) (set counts o.edge (before + 1))
counts_more odd counts i o before inside is below read are k within =
    elim (cases_eq k o.edge) [
      | inl same ↦
          ap (λ j. get_or (set counts o.edge (before + 1)) j 0) same ∙ get_or-set_same counts o.edge (before + 1) 0 below
          ∙ ap (λ n. n + 1) (get_or_read counts o.edge before below read 0 ∙ ap (λ j. get_or counts j 0) (sym same) ∙ are k (omega (arith, length-set counts o.edge (before + 1))))
          ∙ sym (count_by_more_yes (λ (p : OddUse). p.edge == k) odd i o inside (eq-eqb (get_or odd i o).edge k (ap (λ (p : OddUse). p.edge) (sym is) ∙ sym same)))
      | inr other ↦
          get_or-set_other counts o.edge k (before + 1) 0 other ∙ are k (omega (arith, length-set counts o.edge (before + 1)))
          ∙ sym (count_by_more_no (λ (p : OddUse). p.edge == k) odd i o inside (ne_eqb (get_or odd i o).edge k (λ e. other (sym (ap (λ (p : OddUse). p.edge) is ∙ e)))))
    ]

pub counts_so_far : (odd : List OddUse) (counts : List ℕ) (i : ℕ) (e before : ℕ) → i ≤ length odd → e < length counts → before ≡ get_or counts e before → AreMemberCounts (take i odd) counts → before ≤ i
counts_so_far odd counts i e before inside below read are =
    omega (arith, get_or_read counts e before below read 0, are e below, count_by-le-length (λ (p : OddUse). p.edge == e) (take i odd), length-take-le i odd inside)

pub counts_all : (odd : List OddUse) (counts : List ℕ) (i : ℕ) → length odd ≤ i → AreMemberCounts (take i odd) counts → AreMemberCounts odd counts
counts_all odd counts i past are = subst (λ os. AreMemberCounts os counts) (take_all i odd past) are

pub edge_below : (edges : List Seg) (odd items : List OddUse) (counts : List ℕ) (i : ℕ) (d : OddUse) → All (λ o. o.edge < length edges) odd → items ≡ odd → length counts ≡ length edges → i < length items
    → (get_or items i d).edge < length counts
edge_below edges odd items counts i d places same long within = let below = subst (λ os. All (λ (o : OddUse). o.edge < length edges) os) (sym same) places i d within in omega arith
