-- An odd number of the edges with a part on one side alone is over a point exactly where its region is in the part.
use mathlib.Core.List.{[], ◌∷◌}
use Rattle.std.proofs.Common.{◌≡◌, refl, sym, ◌∙◌, ap, subst, ℕ, ◌+◌, ◌%◌, Bool, true, false, cond, List, Option, ℤ, pos, ◌+ℤ◌, ◌-ℤ◌, arith}
use Rattle.std.specs.Prelude.{Contains, sum_by}
use Rattle.std.specs.List.{enumerate_from}
use Rattle.std.proofs.lemmas.List.Sums.{sum_by-cons}
use Rattle.cov_types.specs.declared.seg.Seg.{Seg}
use Rattle.integer_laws.proofs.Ring.{lin}
use Rattle.plane.specs.Joined.{Joined}
use Rattle.plane.specs.Point.{Point}
use Rattle.plane.specs.Ray.{is_over}
use Rattle.plane.specs.Region.{IsRegionOf, AreRegions}
use Rattle.crossing_laws.specs.Crossing.{crossing_sum}
use Rattle.crossing_laws.proofs.Lists.{contains_here, contains_there}
use Rattle.crossing_laws.proofs.Located.{one_region, region-joined}
use Rattle.sector_laws.specs.Sector.{HalfEdge, left, AreDistinct, IsPlanar}
use Rattle.region_laws.specs.Weights.{weigh_sides}
use Rattle.region_laws.proofs.Numbered.{side_half_edge}
use Rattle.region_owners.proofs.OwnEdges.{IsSideTest, sum_at, sum_joined, own_sum}
use Rattle.arrangement.specs.Overlay.{Overlay, region_above, region_below}
use Rattle.sound_polygons.specs.Parts.{IsPartOf}
use Rattle.part_polygons.specs.Inside.{TellsInside}
use Rattle.part_polygons.proofs.PartTest.{on_left, part_test}
use Rattle.part_polygons.proofs.TestExists.{test_exists}
use Rattle.cleaned_laws.specs.Owning.{AreMemberOwners}
use Rattle.cleaned_laws.proofs.PartEdges.{if_one, boundary_value, boundary_total}

-- 1 for an edge over the point
abbrev pub over : Point → Seg → ℕ
over p e = cond (is_over e p) 1 0

-- over or not, above inside or not, below inside or not
one_over : (b a c : Bool) → (m : ℕ) × (cond b (pos (cond c 1 0) -ℤ pos (cond a 1 0)) (pos 0) +ℤ pos (m + m) ≡ pos (if_one a c (cond b 1 0)))
one_over true true true = (0, refl)
one_over true true false = (1, refl)
one_over true false true = (0, refl)
one_over true false false = (0, refl)
one_over false true true = (0, refl)
one_over false true false = (0, refl)
one_over false false true = (0, refl)
one_over false false false = (0, refl)

parity_of : (b : Bool) (w : ℤ) (m count : ℕ) → w ≡ pos (cond b 1 0) → w +ℤ pos (m + m) ≡ pos count → count % 2 ≡ cond b 1 0
parity_of true w m count is sum = omega (arith, lin)
parity_of false w m count is sum = omega (arith, lin)

module _ (o : Overlay) (planar : IsPlanar o.edges) (distinct : AreDistinct o.edges) (regions : AreRegions o.edges o.numbers) (inside : ℕ → Bool) (passes : HalfEdge → Bool) (tells : TellsInside o inside passes)
    (test : IsSideTest o.edges passes) (p : Point) where
  all_over : (n : ℕ) (es : List Seg) → ((k : ℕ) (e : Seg) → Contains (enumerate_from n es) (k, e)
      → (passes (record { edge = e; forwards = true }) ≡ inside (region_above o k)) × (passes (record { edge = e; forwards = false }) ≡ inside (region_below o k)))
      → (m : ℕ) × (crossing_sum (weigh_sides passes es) p +ℤ pos (m + m) ≡ pos (sum_by (boundary_value o (over p) inside) (enumerate_from n es)))
  all_over n [] each = (0, refl)
  all_over n (e ∷ es) each =
      let here = each n e (contains_here (n, e) (enumerate_from (n + 1) es)) in
      let rest = all_over (n + 1) es (λ k f has. each k f (contains_there (n, e) (k, f) (enumerate_from (n + 1) es) has)) in
      let first = one_over (is_over e p) (passes (record { edge = e; forwards = true })) (passes (record { edge = e; forwards = false })) in
      let is_first = first.1 in
      let is_rest = rest.1 in
      let told : if_one (passes (record { edge = e; forwards = true })) (passes (record { edge = e; forwards = false })) (over p e) ≡ boundary_value o (over p) inside (n, e) = λ i. if_one (here.0 i) (here.1 i) (over p e) in
      (first.0 + rest.0, omega (arith, lin, told, sum_by-cons (boundary_value o (over p) inside) (n, e) (enumerate_from (n + 1) es)))

  module _ (r : ℕ) (own : IsRegionOf o.edges p r) where
    level : sum_at o.edges planar distinct passes test p ≡ pos (cond (inside r) 1 0)
    level =
        let found = side_half_edge o.edges r own.joined.at own.joined.side in
        let h = found.0 in
        let j = subst (Joined o.edges p) (sym found.1.point) own.joined.joined in
        let n = on_left o regions inside passes tells h found.1.among in
        sum_joined o.edges planar distinct passes test p (left h) j
        ∙ own_sum o.edges planar distinct passes test h found.1.among
        ∙ ap (λ b. pos (cond b 1 0)) (n.1.told ∙ ap inside (one_region o.edges (left h) n.0 r n.1.own (region-joined o.edges p (left h) r j own)))

    level_parity : boundary_total o (over p) inside % 2 ≡ cond (inside r) 1 0
    level_parity = let sum = all_over 0 o.edges (λ k e has. (tells.above k e has, tells.below k e has)) in parity_of (inside r) _ sum.0 _ level sum.1

pub part_parity : (o : Overlay) (owners : ℕ → Option ℕ) (members : ℕ) → AreMemberOwners o owners members → (i g : ℕ) (inside : ℕ → Bool) → IsPartOf o owners i g inside
    → (p : Point) (r : ℕ) → IsRegionOf o.edges p r → boundary_total o (over p) inside % 2 ≡ cond (inside r) 1 0
part_parity o owners members are i g inside is p r own =
    let told = test_exists o are.distinct inside in
    let part = part_test o are.regions inside told.0 told.1 owners i g is (λ h out. are.outer_free h i out) in
    level_parity o are.planar are.distinct are.regions inside told.0 told.1 (record { same = part.same; outside = part.outside }) p r own
