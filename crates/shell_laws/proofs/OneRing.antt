-- One ring of a part: it winds as often round each point of the part, once or never, and once less or never elsewhere.
use mathlib.Core.List.{[], ◌∷◌}
use Rattle.std.proofs.Common.{◌≡◌, ◌⊎◌, refl, sym, ◌∙◌, ap, subst, Bool, true, false, not, cond, List, get_or, ℤ, pos, ◌+ℤ◌, inl, inr, arith}
use Rattle.std.specs.Prelude.{Contains}
use Rattle.std.proofs.lemmas.Bool.{false≢true}
use Rattle.std.proofs.lemmas.List.{get_or_default}
use Rattle.std.proofs.lemmas.List.Elements.{All-contains}
use Rattle.cov_types.specs.declared.seg.Seg.{Seg}
use Rattle.cov_types.specs.Range.{IsSegInRange}
use Rattle.integer_laws.proofs.Ring.{lin}
use Rattle.plane.specs.Joined.{IsOff, Joined}
use Rattle.plane.specs.Point.{Point}
use Rattle.plane.specs.Region.{far_point, IsOuter}
use Rattle.plane.specs.Segment.{upper}
use Rattle.crossing_laws.proofs.Lists.{contains_here, contains_there, contains-map}
use Rattle.crossing_laws.proofs.Ways.{joined-fewer}
use Rattle.sector_laws.specs.Sector.{HalfEdge, left, twin, IsPlanar}
use Rattle.sector_laws.proofs.Leaving.{same_or_other}
use Rattle.region_laws.proofs.Balance.{first_or_later}
use Rattle.region_laws.proofs.Edge.{below_joined, none_below_outer}
use Rattle.region_laws.proofs.Links.{link_out}
use Rattle.region_laws.proofs.Nearest.{nearest_or_none}
use Rattle.region_laws.proofs.Outwards.{some_out, leaves_at}
use Rattle.arrangement.proofs.LiveOverlays.{kept_is}
use Rattle.shell_laws.specs.Part.{LeadsAcross, IsPartTest, is_part_border, part_boundary}
use Rattle.shell_laws.specs.Ring.{way_edges, IsClosed, IsRingRound, ring_holds}
use Rattle.shell_laws.proofs.Winding.{winds, closed_balanced, winds_joined, winds_swept, winds_own, winds_other, winds_far, holds_none, holds_one}

-- ---- edges of ways

-- an edge of a way is that of one of its half-edges
pub way_has : (way : List HalfEdge) (e : Seg) → Contains (way_edges way) e → (k : HalfEdge) × (Contains way k × (k.edge ≡ e))
way_has [] e has = absurd (omega (arith, has.1))
way_has (k ∷ way) e has = elim (first_or_later k.edge (way_edges way) e has) [
  | inl here ↦ (k, (contains_here k way, here))
  | inr later ↦ (let rest = way_has way e later in (rest.0, (contains_there k rest.0 way rest.1.0, rest.1.1)))
]

-- two half-edges of one edge are one or twins
pub same_edge : (k o : HalfEdge) → k.edge ≡ o.edge → (o ≡ k) ⊎ (o ≡ twin k)
same_edge k o same = elim (same_or_other o.forwards k.forwards) [
  | inl dir ↦ inl (λ i. record { edge = sym same i; forwards = dir i })
  | inr dir ↦ inr (λ i. record { edge = sym same i; forwards = dir i })
]

-- fewer edges of planar ones are planar
pub planar_fewer : (edges fewer : List Seg) → IsPlanar edges → ((e : Seg) → Contains fewer e → Contains edges e) → IsPlanar fewer
planar_fewer edges fewer planar among = record {
  in_range = λ k d within. All-contains IsSegInRange edges (get_or fewer k d) planar.in_range (among (get_or fewer k d) (k, within, get_or_default fewer k (get_or fewer k d) d within));
  noded = λ e f has_e has_f. planar.noded e f (among e has_e) (among f has_f);
}

-- an edge with the part on both sides is not of its boundary
two_sided : (passes : HalfEdge → Bool) (k : HalfEdge) → passes k ≡ true → passes (twin k) ≡ true → is_part_border passes k.edge ≡ true → ⊥
two_sided passes k one other border = by k.edge k.forwards one other border
  where
    both : (a b : Bool) → a ≡ true → b ≡ true → cond a (not b) b ≡ true → ⊥
    both true true h k is = false≢true is
    both true false h k is = false≢true k
    both false b h k is = false≢true h

    by : (e : Seg) (b : Bool) → passes (record { edge = e; forwards = b }) ≡ true → passes (record { edge = e; forwards = not b }) ≡ true → is_part_border passes e ≡ true → ⊥
    by e true one other is = both _ _ one other is
    by e false one other is = both _ _ other one is

-- ---- one ring

module _ (edges : List Seg) (planar : IsPlanar edges) (passes : HalfEdge → Bool) (part : IsPartTest edges passes) (ring : List HalfEdge) (is : IsRingRound edges passes ring) where
  abbrev own : List Seg
  own = way_edges ring

  pub of_boundary : (e : Seg) → Contains own e → Contains edges e × (is_part_border passes e ≡ true)
  of_boundary e has = (
      let found = way_has ring e has in
      let border = All-contains (λ m. Contains (part_boundary edges passes) m.edge) ring found.0 is.way.border found.1.0 in
      kept_is (is_part_border passes) edges e (subst (Contains (part_boundary edges passes)) found.1.1 border))

  pub among : (e : Seg) → Contains own e → Contains edges e
  among e has = (of_boundary e has).0

  pub planar_own : IsPlanar own
  planar_own = planar_fewer edges own planar among

  pub along : (p q : Point) → Joined own p q → winds ring p ≡ winds ring q
  along p q j = winds_joined ring (winds_swept edges planar ring among is.way.once) (closed_balanced (part_boundary edges passes) ring is.closed) p q j

  pub far : (p : Point) → IsOuter own p → winds ring p ≡ pos 0
  far p out = along p far_point out ∙ winds_far edges planar ring among is.way.once

  pub inner_step : (k : HalfEdge) → Contains ring k → winds ring (left k) ≡ winds ring (left (twin k)) +ℤ pos 1
  inner_step k has = winds_own edges planar ring among is.way.once k has

  led : (h g : HalfEdge) (way : List HalfEdge) → LeadsAcross edges passes h way g → winds ring (left h) ≡ winds ring (left g)
  led h g [] leads = along (left h) (left g) (joined-fewer edges own among (left h) (left g) leads)
  led h g (k ∷ way) leads =
      along (left h) (left k) (joined-fewer edges own among (left h) (left k) leads.0)
      ∙ winds_other edges planar ring among is.way.once k leads.1 (λ has. two_sided passes k leads.2 leads.3 (of_boundary k.edge has).1)
      ∙ led (twin k) g way leads.4

  -- it winds as often round all of the part
  pub same_in_part : (h g : HalfEdge) → Contains edges h.edge → Contains edges g.edge → passes h ≡ true → passes g ≡ true → winds ring (left h) ≡ winds ring (left g)
  same_in_part h g in_h in_g pass_h pass_g = let way = part.connected h g in_h in_g pass_h pass_g in led h g way.0 way.1

  module _ (g : HalfEdge) (in_g : Contains edges g.edge) (pass_g : passes g ≡ true) where
    abbrev pub count : ℤ
    count = winds ring (left g)

    pub own_count : (k : HalfEdge) → Contains ring k → winds ring (left k) ≡ count
    own_count k has = same_in_part k g (of_boundary k.edge (edge_has k has)).0 in_g (All-contains (λ m. passes m ≡ true) ring k is.way.inside has) pass_g
      where
        edge_has : (k : HalfEdge) → Contains ring k → Contains own k.edge
        edge_has k has = contains-map (λ (x : HalfEdge). x.edge) ring k has

    -- at a side of its edges it winds as often as round the part, or once less
    beside : (o : HalfEdge) → Contains own o.edge → (winds ring (left o) ≡ count) ⊎ (winds ring (left o) +ℤ pos 1 ≡ count)
    beside o has =
        let found = way_has ring o.edge has in
        let k = found.0 in
        let here = own_count k found.1.0 in
        elim (same_edge k o found.1.1) [
          | inl one ↦ inl (ap (λ x. winds ring (left x)) one ∙ here)
          | inr other ↦ inr (ap (λ x. winds ring (left x) +ℤ pos 1) other ∙ sym (inner_step k found.1.0) ∙ here)
        ]

    pub once_or_never : (count ≡ pos 0) ⊎ (count ≡ pos 1)
    once_or_never = by ring is.closed (λ k has. contains-map (λ (x : HalfEdge). x.edge) ring k has)
      where
        by : (some : List HalfEdge) → IsClosed (part_boundary edges passes) some → ((k : HalfEdge) → Contains some k → Contains own k.edge) → (count ≡ pos 0) ⊎ (count ≡ pos 1)
        by [] closed there = absurd closed
        by (h ∷ rest) closed there =
            let out = some_out own planar_own h (there h (contains_here h rest)) in
            let o = out.half_edge in
            let none = far (left o) (link_out own planar_own out.vertex o out.leaves out.none) in
            elim (beside o (leaves_at own out.vertex o out.leaves).among) [
              | inl same ↦ inl (sym same ∙ none)
              | inr less ↦ inr (sym less ∙ ap (λ n. n +ℤ pos 1) none)
            ]

    -- at a point off its edges too, or it does not wind round it
    pub elsewhere : (p : Point) → IsOff own p → (winds ring p ≡ pos 0) ⊎ ((winds ring p ≡ count) ⊎ (winds ring p +ℤ pos 1 ≡ count))
    elsewhere p off = elim (nearest_or_none own planar_own p) [
      | inl found ↦ (
          let e = found.0 in
          let same = along p (upper e) (below_joined own planar_own p off e found.1) in
          inr (elim (beside (record { edge = e; forwards = true }) found.1.below.among) [
            | inl here ↦ inl (same ∙ here)
            | inr less ↦ inr (ap (λ n. n +ℤ pos 1) same ∙ less)
          ])
          )
      | inr none ↦ inl (far p (none_below_outer own planar_own p off none))
    ]

    -- so whether it holds the part is how often it winds round it
    pub holds_count : pos (cond (ring_holds ring (left g)) 1 0) ≡ count
    holds_count = elim once_or_never [
      | inl never ↦ ap (λ b. pos (cond b 1 0)) (holds_none ring (left g) never) ∙ sym never
      | inr once ↦ ap (λ b. pos (cond b 1 0)) (holds_one ring (left g) (inl once)) ∙ sym once
    ]

  same_count : (m n : ℤ) (a b : Bool) → pos (cond a 1 0) ≡ m → pos (cond b 1 0) ≡ n → m ≡ n → a ≡ b
  same_count m n true true h k e = refl
  same_count m n false false h k e = refl
  same_count m n true false h k e = absurd (omega (arith, lin))
  same_count m n false true h k e = absurd (omega (arith, lin))

  -- it holds all of the part or none of it
  pub all_or_none : (h g : HalfEdge) → Contains edges h.edge → Contains edges g.edge → passes h ≡ true → passes g ≡ true → ring_holds ring (left h) ≡ ring_holds ring (left g)
  all_or_none h g in_h in_g pass_h pass_g =
      same_count _ _ _ _ (holds_count h in_h pass_h) (holds_count g in_g pass_g) (same_in_part h g in_h in_g pass_h pass_g)
