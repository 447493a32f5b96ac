-- What `==` decides of coordinates, segments and uses.
use mathlib.Core.Bool.{Bool-set}
use mathlib.Core.HLevel.{is_prop→PathP}
use Rattle.std.proofs.Common.{◌≡◌, Bool, true, ◌&&◌, eqb, int_eq, IsTrue, ◌↔◌, Decides, ap, sym, ◌∙◌}
use Rattle.std.proofs.lemmas.Bool.{and_parts, and_from}
use Rattle.std.proofs.lemmas.Bool.Decides.{Decides-int_eq, Decides-eqb}
use Rattle.cov_types.proofs.Order.{same_coords}
use Rattle.cov_types.specs.Coord.{is_before}
use Rattle.cov_types.specs.declared.coord.Coord.{Coord}
use Rattle.cov_types.specs.declared.edge_use.EdgeUse.{EdgeUse}
use Rattle.cov_types.specs.declared.seg.Seg.{Seg}

-- two segments with the same ends are one
pub same_segs : (s t : Seg) → s.lo ≡ t.lo → s.hi ≡ t.hi → s ≡ t
same_segs s t e f =
    λ i. record { lo = e i; hi = f i; ordered = is_prop→PathP (λ j. IsTrue (is_before (e j) (f j))) (λ j. Bool-set (is_before (e j) (f j)) true) s.ordered t.ordered i }

-- two uses with the same member and the same segment are one
pub same_uses : (u v : EdgeUse) → u.member ≡ v.member → u.seg ≡ v.seg → u ≡ v
same_uses u v e f = λ i. record { member = e i; seg = f i }

-- two tests that decide the parts of a fact decide it together
Decides-both : {P Q R : Type 0} (x y : Bool) → Decides x P → Decides y Q → (P → Q → R) → (R → P) → (R → Q) → Decides (x && y) R
Decides-both x y p q join left right =
    (λ h. let parts = and_parts x y h in join (p.0 parts.0) (q.0 parts.1), λ r. and_from x y (p.1 (left r)) (q.1 (right r)))

-- what `==` answers decides whether two coordinates, segments or uses are one
pub Decides-same_coords : (a b : Coord) → Decides (int_eq a.x b.x && int_eq a.y b.y) (a ≡ b)
Decides-same_coords a b =
    Decides-both _ _ (Decides-int_eq a.x b.x) (Decides-int_eq a.y b.y) (same_coords a b) (ap (λ (c : Coord). c.x)) (ap (λ (c : Coord). c.y))

pub Decides-same_segs : (s t : Seg) → Decides ((int_eq s.lo.x t.lo.x && int_eq s.lo.y t.lo.y) && (int_eq s.hi.x t.hi.x && int_eq s.hi.y t.hi.y)) (s ≡ t)
Decides-same_segs s t =
    Decides-both _ _ (Decides-same_coords s.lo t.lo) (Decides-same_coords s.hi t.hi) (same_segs s t) (ap (λ (u : Seg). u.lo)) (ap (λ (u : Seg). u.hi))

pub Decides-same_uses : (u v : EdgeUse)
    → Decides (eqb u.member v.member && ((int_eq u.seg.lo.x v.seg.lo.x && int_eq u.seg.lo.y v.seg.lo.y) && (int_eq u.seg.hi.x v.seg.hi.x && int_eq u.seg.hi.y v.seg.hi.y))) (u ≡ v)
Decides-same_uses u v =
    Decides-both _ _ (Decides-eqb u.member v.member) (Decides-same_segs u.seg v.seg) (same_uses u v) (ap (λ (w : EdgeUse). w.member)) (ap (λ (w : EdgeUse). w.seg))

-- a test that decides whether two lists are one decides it of the values that they are the fields of
pub Decides-along : {X : Type 0} (xs ys us vs : X) (r : Bool) → xs ≡ us → ys ≡ vs → Decides r (xs ≡ ys) → IsTrue r ↔ (us ≡ vs)
Decides-along xs ys us vs r e f d = (λ h. sym e ∙ (d.0 h ∙ f), λ p. d.1 (e ∙ (p ∙ sym f)))
