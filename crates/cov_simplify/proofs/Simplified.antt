-- The coverage of the last state of the run is the coverage, simplified, and it is formed.
use mathlib.Core.List.{[], ◌∷◌, ◌++◌}
use Rattle.std.proofs.Common.{◌≡◌, inl, inr, refl, sym, ◌∙◌, ap, subst, ℕ, suc, ◌+◌, ◌-◌, ◌<◌, ◌≤◌, Bool, true, false, not, ◌||◌, cond, List, length, get_or, map, Some, IsTrue, ◌↔◌, arith}
use Rattle.std.specs.Prelude.{All, Contains, filter, reverse, slice_get}
use Rattle.std.specs.Global.{Vec}
use Rattle.std.specs.List.{list_any}
use Rattle.std.proofs.lemmas.Bool.{cases_lt}
use Rattle.std.proofs.lemmas.List.{get_or_default, length-map, reverse-append}
use Rattle.std.proofs.lemmas.List.Elements.{All-contains}
use Rattle.cov_types.specs.declared.coord.Coord.{Coord}
use Rattle.cov_types.specs.declared.edge_use.EdgeUse.{EdgeUse}
use Rattle.cov_types.specs.declared.seg.Seg.{Seg}
use Rattle.cov_types.specs.Coord.{is_same_coord}
use Rattle.cov_types.specs.Coverage.{Members, AllInRange, IsFormed}
use Rattle.cov_types.specs.Range.{IsInRange, IsSegInRange}
use Rattle.cov_types.specs.Seg.{IsSegBetween}
use Rattle.cov_types.specs.Uses.{uses_of}
use Rattle.cov_types.proofs.AllUses.{uses-in_range}
use Rattle.plane.specs.Validity.{IsValid}
use Rattle.arrangement.specs.declared.odd_use.OddUse.{OddUse}
use Rattle.arrangement.specs.Noding.{AreEdges}
use Rattle.arrangement.proofs.Labels.{mapped}
use Rattle.greedy_run.specs.Lines.{AreLines, IsLine}
use Rattle.greedy_run.specs.Run.{Simplification, is_removed, is_one_point, coverage_without, IsFinalState, IsInner, IsSimplified}
use Rattle.greedy_run.proofs.OneLine.{along}
use Rattle.line_walk.specs.Line.{plain_lists}
use Rattle.removal_laws.proofs.RunStates.{run_sound}
use Rattle.visvalingam.specs.State.{IsAsked}
use Rattle.cov_simplify.specs.Inner.{AreOpen}
use Rattle.cov_simplify.proofs.Formed.{formed_without}
use Rattle.cov_simplify.proofs.Marks.{plain_has}

-- ---- removed points in either order

module _ (test : Coord → Bool) where
  any_or : (b c : Bool) → (b || c) ≡ (c || b)
  any_or true true = refl
  any_or true false = refl
  any_or false true = refl
  any_or false false = refl

  any_last : (xs : List Coord) (x : Coord) → list_any test (xs ++ x ∷ []) ≡ (list_any test xs || test x)
  any_last [] x = any_or (test x) false
  any_last (y ∷ ys) x = ap (λ b. test y || b) (any_last ys x) ∙ grouped (test y) (list_any test ys) (test x)
    where
      grouped : (b c d : Bool) → (b || (c || d)) ≡ ((b || c) || d)
      grouped true c d = refl
      grouped false c d = refl

  any_reversed : (xs : List Coord) → list_any test xs ≡ list_any test (reverse xs)
  any_reversed [] = refl
  any_reversed (x ∷ xs) =
      ap (λ b. test x || b) (any_reversed xs) ∙ any_or (test x) (list_any test (reverse xs)) ∙ sym (any_last (reverse xs) x) ∙ ap (list_any test) (sym (reverse-append (x ∷ []) xs))

without_reversed : (removed : List Coord) (members : Members) → coverage_without removed members ≡ coverage_without (reverse removed) members
without_reversed removed members =
    λ i. map (λ polys. map (λ rings. map (λ points. cond (is_one_point points) points (filter (λ p. not (any_reversed (is_same_coord p) removed i)) points)) rings) polys) members

-- ---- the run over the lines

-- what is simplified
abbrev pub asked_of : (members : Members) (edges : List Seg) (lines : List (List Coord)) → AreLines edges lines → ℕ → Bool → Simplification
asked_of members edges lines all tolerance inner = record { uses = uses_of members; edges = edges; lines = lines; are_lines = all; tolerance = tolerance; inner_only = inner }

pub simplified_by : (members : Members) (edges : List Seg) (odd : List OddUse) → AreEdges (uses_of members) edges odd → (lines : List (List Coord)) (all : AreLines edges lines) (tolerance : ℕ) (inner : Bool) (removed : List Coord)
    → IsFinalState (asked_of members edges lines all tolerance inner) (reverse removed) → IsSimplified members tolerance inner (coverage_without removed members)
simplified_by members edges odd are lines all tolerance inner removed final = record {
  s = asked_of members edges lines all tolerance inner;
  of = record { by_uses = refl; odd = odd; are_edges = are; by_tolerance = refl; by_flag = refl };
  removed = reverse removed;
  final = final;
  without = without_reversed removed members;
}

-- the run over these lines is asked for
pub asked_is : (members : Members) (edges : List Seg) (lines shown : List (Vec Coord)) (all : AreLines edges (plain_lists lines)) (tolerance : ℕ) (inner : Bool) (marks told : List Bool)
    → AreOpen (uses_of members) inner (plain_lists lines) marks → shown ≡ lines → told ≡ marks → IsAsked (asked_of members edges (plain_lists lines) all tolerance inner) shown told tolerance
asked_is members edges lines shown all tolerance inner marks told is_open same same_too = record {
  lines_are = sym (ap plain_lists same);
  tolerance_is = refl;
  all_marked = ap (λ (ms : List Bool). length ms) same_too ∙ is_open.long ∙ length-map lines (λ (v : Vec Coord). v.items) ∙ sym (ap (λ (ls : List (Vec Coord)). length ls) same);
  open_are = subst (λ (ms : List Bool). (i : ℕ) (points : List Coord) (mark : Bool) → slice_get (plain_lists lines) i ≡ Some points → slice_get ms i ≡ Some mark → IsTrue mark ↔ (inner ≡ true → IsInner (uses_of members) points)) (sym same_too) is_open.each;
}

-- in other spellings
pub simplified_as : (members shown given : Members) (tolerance : ℕ) (inner : Bool) (removed told : List Coord) (out : Members) → shown ≡ members → given ≡ members → told ≡ removed
    → out ≡ coverage_without told given → IsSimplified shown tolerance inner (coverage_without removed shown) → IsSimplified members tolerance inner out
simplified_as members shown given tolerance inner removed told out same_shown same_given same_told is h =
    subst (λ (o : Members). IsSimplified members tolerance inner o) (sym (is ∙ (λ i. coverage_without (same_told i) (same_given i))))
    (subst (λ (ms : Members). IsSimplified ms tolerance inner (coverage_without removed ms)) same_shown h)

-- a valid and formed coverage, simplified, is formed
pub simplified_formed : (members : Members) (tolerance : ℕ) (inner : Bool) (out : Members) → IsFormed members → IsValid (uses_of members) → IsSimplified members tolerance inner out → IsFormed out
simplified_formed members tolerance inner out formed valid h =
    let sound = run_sound members tolerance inner h.s h.of formed.in_range valid h.removed h.final.run in
    subst IsFormed (sym h.without) (formed_without h.removed members formed sound.keeps sound.valid sound.in_range)

-- ---- range

first_range : (p q : Coord) (e : Seg) → IsSegBetween p q e → IsSegInRange e → IsInRange p
first_range p q e (inl is) r = subst IsInRange is.0 r.lo
first_range p q e (inr is) r = subst IsInRange is.1 r.hi

second_range : (p q : Coord) (e : Seg) → IsSegBetween p q e → IsSegInRange e → IsInRange q
second_range p q e (inl is) r = subst IsInRange is.1 r.hi
second_range p q e (inr is) r = subst IsInRange is.0 r.lo

module _ (members : Members) (in_range : AllInRange members) (edges : List Seg) (odd : List OddUse) (are : AreEdges (uses_of members) edges odd) where
  edge_range : (e : Seg) → Contains edges e → IsSegInRange e
  edge_range e has =
      mapped (λ u. u.seg) IsSegInRange (uses_of members) (λ u in_uses. All-contains (λ (v : EdgeUse). IsSegInRange v.seg) (uses_of members) u (uses-in_range members in_range) in_uses) e ((are.exact e).0 has)

  line_range : (points : List Coord) → IsLine edges points → All IsInRange points
  line_range points line k d within =
      elim (cases_lt (k + 1) (length points)) [
        | inl before ↦ (let (e, (has, ends)) = along edges points line.walk d k (omega arith) in first_range (get_or points k d) (get_or points (suc k) d) e ends (edge_range e has))
        | inr last ↦ (
            let long = line.long in
            let (e, (has, ends)) = along edges points line.walk d (k - 1) (omega arith) in
            let next : suc (k - 1) ≡ k = omega arith in
            subst (λ j. IsInRange (get_or points j d)) next (second_range (get_or points (k - 1) d) (get_or points (suc (k - 1)) d) e ends (edge_range e has))
            )
      ]

  -- the points of the lines of a coverage are in range
  pub lines_range : (lines : List (Vec Coord)) → AreLines edges (plain_lists lines) → All (λ (v : Vec Coord). All IsInRange v.items) lines
  lines_range lines all k d within =
      let v = get_or lines k d in
      line_range v.items ((all.exact v.items).0 (plain_has lines k v within (get_or_default lines k d v within)))
