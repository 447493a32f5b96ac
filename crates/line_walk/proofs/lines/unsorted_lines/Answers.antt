use Rattle.std.proofs.Common.{◌≡◌, ◌≢◌, ◌∙◌, refl, ap, sym, subst, length, arith, ◌+◌, ◌<◌, Vec, Global, List, ℕ, Bool, true, false, Some, slice_get, All, ◌∷◌, ◌++◌, []}
use Rattle.std.proofs.lemmas.Bool.{false≢true}
use Rattle.std.proofs.lemmas.List.{with_items_is}
use Rattle.std.proofs.lemmas.Option.{slice_get_read, same_Some}
use Rattle.cov_types.specs.declared.coord.Coord.{Coord}
use Rattle.line_walk.specs.Line.{plain_lists, IsMarkedBy}
use Rattle.line_walk.proofs.Gathering.{AreLinesTo, lines_none, lines_same, lines_more, lines_all, first_of_line, plain-push}
use Rattle.line_walk.proofs.lines.unsorted_lines.Goals.{then-not-index+in_ok-line+in_ok-push, else-not-index}
use Rattle.line_walk.proofs.lines.unsorted_lines.Goals as goal

-- what is read is not there
not_marked : (seen : List Bool) (k : ℕ) (is : Bool) → slice_get seen k ≡ Some is → is ≡ false → slice_get seen k ≢ Some true
not_marked seen k is at none marked = false≢true (sym none ∙ same_Some is true (sym at ∙ marked))

pub loop-first-init : goal.loop-first-init
loop-first-init c =
    subst (AreLinesTo c.args.edges.now 0 c.in_ok-seen.seen.items) (ap plain_lists (sym c.new-lines.ensures.items)) (lines_none c.args.edges.now c.in_ok-seen.seen.items (c.in_ok-seen.ensures.items_if_clones_equal (λ y is. is)))

pub line_from-requires-clause-first : goal.line_from-requires-clause-first
line_from-requires-clause-first c =
    let seen = c.loop-first.seen.items in
    let at : slice_get seen c.loop-first.first ≡ Some c.index.result.now = slice_get_read seen (length seen) c.loop-first.first c.index.result.now refl (omega (arith, c.loop-first-test.true, c.loop-first.invariant.size)) c.index.ensures in
    first_of_line c.args.edges.now c.requires.ascending c.loop-first.first seen (plain_lists c.loop-first.lines.items) c.loop-first.invariant c.loop-first-test.true (not_marked seen c.loop-first.first c.index.result.now at c.if-not-index.true)

pub mark-requires : goal.mark-requires
mark-requires c =
    let size : length c.deref_mut.result.now ≡ length c.args.edges.now = ap length c.deref_mut.ensures.value ∙ c.loop-first.invariant.size in
    subst (λ n. All (λ k. k < n) c.deref.result.now) (sym size) (subst (λ (ks : List ℕ). All (λ k. k < length c.args.edges.now) ks) (sym c.deref.ensures.value) c.in_ok-line.ensures.within)

pub loop-first-preserved : goal.loop-first-preserved
loop-first-preserved c =
    let edges = c.args.edges.now in
    let first = c.loop-first.first in
    let seen = c.loop-first.seen.items in
    let lines = plain_lists c.loop-first.lines.items in
    let at : slice_get seen first ≡ Some c.index.result.now = slice_get_read seen (length seen) first c.index.result.now refl (omega (arith, c.loop-first-test.true, c.loop-first.invariant.size)) c.index.ensures in
    elim c.if-not-index.branch [
      | then-not-index+in_ok-line+in_ok-push w ↦ (
          let after = w.mark.new.seen in
          let was : w.deref_mut.result.now ≡ seen = w.deref_mut.ensures.value in
          let size : length after ≡ length seen = w.mark.auto.seen ∙ ap length was in
          let made : c.if-not-index.seen.items ≡ after = ap (λ (v : Vec Bool Global). v.items) w.seen-is ∙ with_items_is c.loop-first.seen after (size ∙ omega (arith, c.loop-first.seen.ok.0)) in
          let marked : IsMarkedBy w.in_ok-line.line.edges.items seen after = subst (λ (ks : List ℕ). IsMarkedBy ks seen after) w.deref.ensures.value (subst (λ (bs : List Bool). IsMarkedBy w.deref.result.now bs after) was w.mark.ensures) in
          let listed : plain_lists c.if-not-index.lines.items ≡ lines ++ w.in_ok-line.line.points.items ∷ [] =
          ap plain_lists (ap (λ (v : Vec (Vec Coord Global) Global). v.items) w.lines-is ∙ w.in_ok-push.ensures.items) ∙ plain-push c.loop-first.lines.items w.in_ok-line.line.points in
          subst (λ (bs : List Bool). AreLinesTo edges (first + 1) bs (plain_lists c.if-not-index.lines.items)) (sym made)
          (subst (AreLinesTo edges (first + 1) after) (sym listed)
          (lines_more edges c.requires.ascending first seen lines c.loop-first.invariant c.loop-first-test.true (not_marked seen first c.index.result.now at w.if-not-index.true) w.in_ok-line.line.points.items w.in_ok-line.line.edges.items
          w.in_ok-line.ensures after marked)))
      | else-not-index w ↦
          subst (λ (bs : List Bool). AreLinesTo edges (first + 1) bs (plain_lists c.if-not-index.lines.items)) (ap (λ (v : Vec Bool Global). v.items) (sym w.seen-is))
          (subst (AreLinesTo edges (first + 1) seen) (ap (λ (v : Vec (Vec Coord Global) Global). plain_lists v.items) (sym w.lines-is))
          (lines_same edges c.requires.ascending first seen lines c.loop-first.invariant c.loop-first-test.true (at ∙ ap Some w.if-not-index.false)))
    ]

pub returns : goal.returns
returns c = lines_all c.args.edges.now c.loop-first.first c.loop-first.seen.items (plain_lists c.loop-first.lines.items) c.loop-first-test.false c.loop-first.invariant
