-- Sides that are joined round a part's boundary alone are both in the part or both out: what the edges over them weigh is the same.
use Rattle.std.proofs.Common.{◌≡◌, refl, sym, ◌∙◌, ap, Bool, true, false, not, cond, List, pos, ◌-ℤ◌, arith}
use Rattle.std.specs.Prelude.{Contains}
use Rattle.std.proofs.lemmas.Bool.{false≢true}
use Rattle.integer_laws.proofs.Ring.{lin}
use Rattle.cov_types.specs.declared.seg.Seg.{Seg}
use Rattle.plane.specs.Joined.{Joined}
use Rattle.crossing_laws.proofs.Ways.{joined-fewer}
use Rattle.sector_laws.specs.Sector.{HalfEdge, left, twin, IsNext, AreDistinct, IsPlanar}
use Rattle.sector_laws.proofs.Sectors.{next_joined}
use Rattle.arrangement.proofs.LiveOverlays.{kept, kept_is}
use Rattle.region_owners.proofs.NearestOwn.{fewer, fewer_is, sum_way}
use Rattle.region_owners.proofs.OwnEdges.{IsSideTest, jump, own_sum}
use Rattle.shell_laws.specs.Part.{IsPartTest, is_part_border, part_boundary}
use Rattle.shell_laws.proofs.OneRing.{planar_fewer}
use Rattle.shell_laws.proofs.Simple.{by_direction}

-- an edge that weighs something is of the boundary
weighs_border : (passes : HalfEdge → Bool) (e : Seg) → (jump passes e ≡ pos 0 → ⊥) → is_part_border passes e ≡ true
weighs_border passes e weighs = by (passes (record { edge = e; forwards = true })) (passes (record { edge = e; forwards = false })) weighs
  where
    by : (up down : Bool) → (pos (cond down 1 0) -ℤ pos (cond up 1 0) ≡ pos 0 → ⊥) → cond up (not down) down ≡ true
    by true true h = absurd (h refl)
    by true false h = refl
    by false true h = refl
    by false false h = absurd (h refl)

same_test : (a b : Bool) → pos (cond a 1 0) ≡ pos (cond b 1 0) → a ≡ b
same_test true true h = refl
same_test false false h = refl
same_test true false h = absurd (omega (arith, lin))
same_test false true h = absurd (omega (arith, lin))

pub outside_kept : (edges : List Seg) → IsPlanar edges → AreDistinct edges → (passes : HalfEdge → Bool) → IsPartTest edges passes → (h g : HalfEdge) → Contains edges h.edge → Contains edges g.edge
    → Joined (part_boundary edges passes) (left h) (left g) → passes h ≡ passes g
outside_kept edges planar distinct passes part h g in_h in_g j =
    let test : IsSideTest edges passes = record { same = part.same; outside = part.outside } in
    let fewer_there = λ (e : Seg) (has : Contains (fewer passes edges) e). (let is = fewer_is passes edges e has in kept (is_part_border passes) edges e is.0 (weighs_border passes e is.1)) in
    let way = joined-fewer (part_boundary edges passes) (fewer passes edges) fewer_there (left h) (left g) j in
    same_test (passes h) (passes g) (sym (own_sum edges planar distinct passes test h in_h) ∙ sum_way edges planar distinct passes test (left h) (left g) way ∙ own_sum edges planar distinct passes test g in_g)

-- ---- next half-edges round the boundary keep the part on the right

one_side : (passes : HalfEdge → Bool) (k : HalfEdge) → is_part_border passes k.edge ≡ true → passes k ≡ not (passes (twin k))
one_side passes = by_direction (λ k. is_part_border passes k.edge ≡ true → passes k ≡ not (passes (twin k)))
    (λ e. up (passes (record { edge = e; forwards = true })) (passes (record { edge = e; forwards = false })))
    (λ e. down (passes (record { edge = e; forwards = true })) (passes (record { edge = e; forwards = false })))
  where
    up : (a b : Bool) → cond a (not b) b ≡ true → a ≡ not b
    up true false h = refl
    up false true h = refl
    up true true h = absurd (false≢true h)
    up false false h = absurd (false≢true h)

    down : (a b : Bool) → cond a (not b) b ≡ true → b ≡ not a
    down true false h = refl
    down false true h = refl
    down true true h = absurd (false≢true h)
    down false false h = absurd (false≢true h)

other_side : (passes : HalfEdge → Bool) (k : HalfEdge) → is_part_border passes k.edge ≡ true → passes (twin k) ≡ not (passes k)
other_side passes k border = flipped (passes k) (passes (twin k)) (one_side passes k border)
  where
    flipped : (a b : Bool) → a ≡ not b → b ≡ not a
    flipped true true h = absurd (false≢true (sym h))
    flipped true false h = refl
    flipped false true h = refl
    flipped false false h = absurd (false≢true h)

pub next_outside : (edges : List Seg) → IsPlanar edges → AreDistinct edges → (passes : HalfEdge → Bool) → IsPartTest edges passes → (f g : HalfEdge) → IsNext (part_boundary edges passes) f g
    → passes (twin f) ≡ true → passes (twin g) ≡ true
next_outside edges planar distinct passes part f g next pass =
    let boundary = part_boundary edges passes in
    let of_f = kept_is (is_part_border passes) edges f.edge next.among in
    let of_g = kept_is (is_part_border passes) edges g.edge next.leaves.among in
    let flat = planar_fewer edges boundary planar (λ e has. (kept_is (is_part_border passes) edges e has).0) in
    let same = outside_kept edges planar distinct passes part f g of_f.0 of_g.0 (next_joined boundary flat f g next) in
    other_side passes g of_g.1 ∙ ap not (sym same ∙ one_side passes f of_f.1 ∙ ap not pass)
