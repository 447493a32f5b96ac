-- Marks of lines, one more at a time.
use mathlib.Core.List.{[], ◌∷◌, ◌++◌}
use Rattle.std.proofs.Common.{◌≡◌, sym, ◌∙◌, ap, subst, ℕ, zero, suc, ◌+◌, ◌<◌, Bool, List, length, get_or, Some, None, arith}
use Rattle.std.specs.Prelude.{Contains, slice_get}
use Rattle.std.specs.Global.{Vec}
use Rattle.std.proofs.lemmas.Option.{none-some, slice_get_within, get_or_from_slice_get}
use Rattle.cov_types.specs.declared.coord.Coord.{Coord}
use Rattle.cov_types.specs.declared.edge_use.EdgeUse.{EdgeUse}
use Rattle.cov_types.specs.declared.seg.Seg.{Seg}
use Rattle.cov_types.specs.Uses.{HasEvenEnds}
use Rattle.plane.specs.Validity.{IsValid}
use Rattle.arrangement.specs.declared.odd_use.OddUse.{OddUse}
use Rattle.arrangement.specs.Noding.{AreEdges}
use Rattle.line_walk.specs.Line.{plain_lists}
use Rattle.cov_simplify.specs.Inner.{AreMemberCounts, AreCountedUses}

some_is : {X : Type 0} (x y : X) → Some x ≡ Some y → x ≡ y
some_is x y h = cc

pub marks_more : (P : List Coord → Bool → Type 0) (lists : List (List Coord)) (marks : List Bool) (b : Bool)
    → ((k : ℕ) (points : List Coord) (mark : Bool) → slice_get lists k ≡ Some points → slice_get marks k ≡ Some mark → P points mark)
    → ((points : List Coord) → slice_get lists (length marks) ≡ Some points → P points b)
    → (k : ℕ) (points : List Coord) (mark : Bool) → slice_get lists k ≡ Some points → slice_get (marks ++ b ∷ []) k ≡ Some mark → P points mark
marks_more P lists [] b each last zero points mark at is = subst (P points) (some_is b mark is) (last points at)
marks_more P lists [] b each last (suc k) points mark at is = absurd (none-some mark is)
marks_more P [] (m ∷ marks) b each last k points mark at is = absurd (none-some points at)
marks_more P (l ∷ lists) (m ∷ marks) b each last zero points mark at is = each 0 points mark at is
marks_more P (l ∷ lists) (m ∷ marks) b each last (suc k) points mark at is = marks_more P lists marks b (λ j. each (suc j)) last k points mark at is

pub plain_at : (lines : List (Vec Coord)) (i : ℕ) (v : Vec Coord) → i < length lines → v ≡ get_or lines i v → slice_get (plain_lists lines) i ≡ Some v.items
plain_at [] i v within is = absurd (omega arith)
plain_at (w ∷ lines) zero v within is = ap (λ (x : Vec Coord). Some x.items) (sym is)
plain_at (w ∷ lines) (suc i) v within is = plain_at lines i v (omega arith) is

pub same_points : (lines : List (Vec Coord)) (i n : ℕ) (v : Vec Coord) (points : List Coord) → n ≡ i → i < length lines → v ≡ get_or lines i v → slice_get (plain_lists lines) n ≡ Some points → v.items ≡ points
same_points lines i n v points same within is at = some_is v.items points (sym (plain_at lines i v within is) ∙ ap (slice_get (plain_lists lines)) (sym same) ∙ at)

pub plain_has : (lines : List (Vec Coord)) (i : ℕ) (v : Vec Coord) → i < length lines → v ≡ get_or lines i v → Contains (plain_lists lines) v.items
plain_has lines i v within is =
    let at = plain_at lines i v within is in
    (i, slice_get_within (plain_lists lines) i v.items at, get_or_from_slice_get (plain_lists lines) i v.items v.items at)

pub counted_uses : (uses : List EdgeUse) (edges shown : List Seg) (odd : List OddUse) (counts told : List ℕ) → IsValid uses → HasEvenEnds uses → AreEdges uses edges odd → shown ≡ edges → told ≡ counts
    → length counts ≡ length edges → AreMemberCounts odd counts → AreCountedUses uses shown odd told
counted_uses uses edges shown odd counts told valid even are same same_too long counted = record {
  valid = valid;
  even = even;
  are_edges = subst (λ (es : List Seg). AreEdges uses es odd) (sym same) are;
  long = ap (λ (ns : List ℕ). length ns) same_too ∙ long ∙ sym (ap (λ (es : List Seg). length es) same);
  counted = subst (λ (ns : List ℕ). AreMemberCounts odd ns) (sym same_too) counted;
}
