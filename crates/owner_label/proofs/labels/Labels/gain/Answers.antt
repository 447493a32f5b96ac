use Rattle.std.proofs.Common.{◌≡◌, ◌+◌, ◌*◌, refl, sym, subst, ◌∙◌}
use Rattle.plane.specs.Parity.{member_holds}
use Rattle.plane.specs.Point.{Point}
use Rattle.plane.specs.Region.{IsSide}
use Rattle.arrangement.specs.Noding.{odd_uses}
use Rattle.owner_label.proofs.Gains.{gain-alike, gain-below, gain-above}
use Rattle.owner_label.proofs.Trapezoids.{small_is, negated_is}
use Rattle.owner_label.proofs.labels.Labels.gain.Goals as goal

pub trapezoid_of-area-requires-clause-within : goal.trapezoid_of-area-requires-clause-within
trapezoid_of-area-requires-clause-within c = rw (← c.self.view_is) at c.requires.within

pub trapezoid_of-area-requires-clause-in_range : goal.trapezoid_of-area-requires-clause-in_range
trapezoid_of-area-requires-clause-in_range c = c.self.invariant.tables.sided.planar.in_range

pub returns-then-below-above-clause-exact : goal.returns-then-below-above-clause-exact
returns-then-below-above-clause-exact c =
    let below = rw (← c.self.view_is) at c.holds-below.ensures in
    let above = rw (← c.self.view_is) at c.holds-above.ensures in
    let is_below : (p : Point) → IsSide c.self.inside.edges.now (2 * c.args.o.edge + 1) p → c.holds-below.result ≡ member_holds (odd_uses c.self.inside.edges.now c.self.inside.odd.now) c.args.o.member p =
    λ p side. below p (subst (λ n. IsSide c.self.inside.edges.now n p) (sym c.lower.ensures) side) in
    let is_above : (p : Point) → IsSide c.self.inside.edges.now (2 * c.args.o.edge) p → c.holds-above.result ≡ member_holds (odd_uses c.self.inside.edges.now c.self.inside.odd.now) c.args.o.member p =
    λ p side. above p (subst (λ n. IsSide c.self.inside.edges.now n p) (sym c.upper.ensures) side) in
    rw (← c.self.view_is) (λ e at. gain-alike (record { edges = c.self.inside.edges.now; odd = c.self.inside.odd.now }) c.args.o.member c.args.o refl c.holds-below.result c.holds-above.result e e at at is_below is_above c.if-below-above.true)

pub returns-then-below-clause-exact : goal.returns-then-below-clause-exact
returns-then-below-clause-exact c =
    let below = rw (← c.self.view_is) at c.holds-below.ensures in
    let above = rw (← c.self.view_is) at c.holds-above.ensures in
    let is_below : (p : Point) → IsSide c.self.inside.edges.now (2 * c.args.o.edge + 1) p → c.holds-below.result ≡ member_holds (odd_uses c.self.inside.edges.now c.self.inside.odd.now) c.args.o.member p =
    λ p side. below p (subst (λ n. IsSide c.self.inside.edges.now n p) (sym c.lower.ensures) side) in
    let is_above : (p : Point) → IsSide c.self.inside.edges.now (2 * c.args.o.edge) p → c.holds-above.result ≡ member_holds (odd_uses c.self.inside.edges.now c.self.inside.odd.now) c.args.o.member p =
    λ p side. above p (subst (λ n. IsSide c.self.inside.edges.now n p) (sym c.upper.ensures) side) in
    rw (← c.self.view_is) (λ e at.
    small_is c.trapezoid_of-area.result c.trapezoid_of-area.ensures.small
    ∙ gain-below (record { edges = c.self.inside.edges.now; odd = c.self.inside.odd.now }) c.args.o.member c.args.o refl c.holds-below.result c.holds-above.result e e at at is_below is_above
    c.if-below.true c.if-below-above.false c.trapezoid_of-area.result (c.trapezoid_of-area.ensures.exact e at))

pub returns-else-below-clause-exact : goal.returns-else-below-clause-exact
returns-else-below-clause-exact c =
    let below = rw (← c.self.view_is) at c.holds-below.ensures in
    let above = rw (← c.self.view_is) at c.holds-above.ensures in
    let is_below : (p : Point) → IsSide c.self.inside.edges.now (2 * c.args.o.edge + 1) p → c.holds-below.result ≡ member_holds (odd_uses c.self.inside.edges.now c.self.inside.odd.now) c.args.o.member p =
    λ p side. below p (subst (λ n. IsSide c.self.inside.edges.now n p) (sym c.lower.ensures) side) in
    let is_above : (p : Point) → IsSide c.self.inside.edges.now (2 * c.args.o.edge) p → c.holds-above.result ≡ member_holds (odd_uses c.self.inside.edges.now c.self.inside.odd.now) c.args.o.member p =
    λ p side. above p (subst (λ n. IsSide c.self.inside.edges.now n p) (sym c.upper.ensures) side) in
    rw (← c.self.view_is) (λ e at.
    negated_is c.trapezoid_of-area.result c.trapezoid_of-area.ensures.small
    ∙ gain-above (record { edges = c.self.inside.edges.now; odd = c.self.inside.odd.now }) c.args.o.member c.args.o refl c.holds-below.result c.holds-above.result e e at at is_below is_above
    c.if-below.false c.if-below-above.false c.trapezoid_of-area.result (c.trapezoid_of-area.ensures.exact e at))
