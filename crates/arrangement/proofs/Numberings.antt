-- The sides of edge k.
use mathlib.Core.List.{[], ◌∷◌}
use Rattle.std.proofs.Common.{◌≡◌, sym, ap, subst, ℕ, zero, suc, ◌+◌, ◌*◌, List, arith}
use Rattle.std.specs.Prelude.{Some, slice_get, option_map}
use Rattle.std.proofs.lemmas.Option.{none-some}
use Rattle.cov_types.specs.declared.seg.Seg.{Seg}
use Rattle.plane.specs.Region.{IsSide}
use Rattle.plane.specs.Segment.{upper, lower}

twice_next : (k : ℕ) → 2 * suc k ≡ suc (suc (2 * k))
twice_next k = omega arith

twice_next_one : (k : ℕ) → 2 * suc k + 1 ≡ suc (suc (2 * k + 1))
twice_next_one k = omega arith

pub upper_side : (edges : List Seg) (k : ℕ) (e : Seg) → slice_get edges k ≡ Some e → IsSide edges (2 * k) (upper e)
upper_side [] k e h = absurd (none-some e h)
upper_side (f ∷ edges) zero e h = ap (option_map upper) h
upper_side (f ∷ edges) (suc k) e h = subst (λ n. IsSide (f ∷ edges) n (upper e)) (sym (twice_next k)) (upper_side edges k e h)

pub lower_side : (edges : List Seg) (k : ℕ) (e : Seg) → slice_get edges k ≡ Some e → IsSide edges (2 * k + 1) (lower e)
lower_side [] k e h = absurd (none-some e h)
lower_side (f ∷ edges) zero e h = ap (option_map lower) h
lower_side (f ∷ edges) (suc k) e h = subst (λ n. IsSide (f ∷ edges) n (lower e)) (sym (twice_next_one k)) (lower_side edges k e h)
