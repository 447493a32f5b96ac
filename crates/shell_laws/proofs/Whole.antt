-- Edges of a part's boundary with even ends have two half-edges that follow one another round the part, or neither.
use mathlib.Core.List.{[], ◌∷◌}
use Rattle.std.proofs.Common.{◌≡◌, ◌⊎◌, refl, sym, ◌∙◌, ap, subst, ℕ, ◌+◌, ◌%◌, ◌↔◌, Bool, true, false, not, cond, List, get_or, inl, inr, arith}
use Rattle.std.specs.Prelude.{Contains}
use Rattle.std.proofs.lemmas.Bool.{false≢true}
use Rattle.std.proofs.lemmas.List.{get_or_default}
use Rattle.std.proofs.lemmas.List.Elements.{All-contains}
use Rattle.std.proofs.lemmas.List.Sums.{sum_by-cons}
use Rattle.cov_types.specs.declared.seg.Seg.{Seg}
use Rattle.cov_types.specs.Range.{IsSegInRange}
use Rattle.cov_types.proofs.Equal.{Decides-same_segs}
use Rattle.plane.specs.Joined.{Joined}
use Rattle.plane.specs.Parity.{holds}
use Rattle.plane.specs.Segment.{upper, lower}
use Rattle.plane.proofs.Sweeps.{rises-in_range}
use Rattle.crossing_laws.specs.Across.{is_same_seg, times}
use Rattle.crossing_laws.specs.Crossing.{IsSwept, HaveEvenEnds}
use Rattle.crossing_laws.proofs.Changes.{holds-across}
use Rattle.crossing_laws.proofs.Lists.{contains_here, contains_there}
use Rattle.crossing_laws.proofs.Sums.{holds-joined}
use Rattle.crossing_laws.proofs.Ways.{joined-fewer}
use Rattle.sector_laws.specs.Sector.{HalfEdge, left, twin, AreDistinct, IsPlanar}
use Rattle.sector_laws.proofs.Sectors.{next_joined}
use Rattle.region_laws.proofs.Balance.{first_or_later, distinct_first, distinct_rest}
use Rattle.arrangement.proofs.LiveOverlays.{kept_is}
use Rattle.shell_laws.specs.Part.{LeadsAcross, IsPartTest, is_part_border, part_boundary, IsTurn}

-- ---- how often an edge stands in a list of distinct ones

abbrev IsCounted : Seg → List Seg → Type 0
IsCounted e es = (Contains es e × (times e es ≡ 1)) ⊎ ((Contains es e → ⊥) × (times e es ≡ 0))

counted : (e : Seg) (es : List Seg) → AreDistinct es → IsCounted e es
counted e [] distinct = inr (λ c. (let within = c.1 in omega arith), refl)
counted e (x ∷ xs) distinct = by (counted e xs (distinct_rest x xs distinct)) (is_same_seg e x) refl
  where
    sum : times e (x ∷ xs) ≡ cond (is_same_seg e x) 1 0 + times e xs
    sum = sum_by-cons (λ y. cond (is_same_seg e y) 1 0) x xs

    by : IsCounted e xs → (b : Bool) → is_same_seg e x ≡ b → IsCounted e (x ∷ xs)
    by (inl there) true is = absurd (distinct_first x xs distinct (subst (λ y. Contains xs y) ((Decides-same_segs e x).0 is) there.0))
    by (inr none) true is =
        let one : cond {A = ℕ} (is_same_seg e x) 1 0 ≡ 1 = ap (λ b. cond {A = ℕ} b 1 0) is in
        inl (subst (λ y. Contains (x ∷ xs) y) (sym ((Decides-same_segs e x).0 is)) (contains_here x xs), (let rest = none.1 in omega (arith, sum, one)))
    by (inl there) false is =
        let none : cond {A = ℕ} (is_same_seg e x) 1 0 ≡ 0 = ap (λ b. cond {A = ℕ} b 1 0) is in
        inl (contains_there x e xs there.0, (let rest = there.1 in omega (arith, sum, none)))
    by (inr none) false is =
        let zero : cond {A = ℕ} (is_same_seg e x) 1 0 ≡ 0 = ap (λ b. cond {A = ℕ} b 1 0) is in
        inr (
          (λ c. elim (first_or_later x xs e c) [
            | inl here ↦ false≢true (sym is ∙ (Decides-same_segs e x).1 (sym here))
            | inr later ↦ none.0 later
          ]),
          (let rest = none.1 in omega (arith, sum, zero)),
        )

-- ---- which sides the edges hold

module _ (edges : List Seg) (planar : IsPlanar edges) (passes : HalfEdge → Bool) (part : IsPartTest edges passes) where
  abbrev boundary : List Seg
  boundary = part_boundary edges passes

  of_boundary : (e : Seg) → Contains boundary e → Contains edges e × (is_part_border passes e ≡ true)
  of_boundary e has = kept_is (is_part_border passes) edges e has

  in_range : (e : Seg) → Contains edges e → IsSegInRange e
  in_range e has = All-contains IsSegInRange edges e planar.in_range has

  planar_boundary : IsPlanar boundary
  planar_boundary = record {
    in_range = λ k d within. in_range (get_or boundary k d) (of_boundary (get_or boundary k d) (k, within, get_or_default boundary k (get_or boundary k d) d within)).0;
    noded = λ e f has_e has_f. planar.noded e f (of_boundary e has_e).0 (of_boundary f has_f).0;
  }

  module _ (some : List Seg) (distinct : AreDistinct some) (among : (e : Seg) → Contains some e → Contains boundary e) (even : HaveEvenEnds some) where
    swept : IsSwept some
    swept = λ e has. rises-in_range e (in_range e (of_boundary e (among e has)).0)

    alike : (h g : HalfEdge) → Joined boundary (left h) (left g) → holds some (left h) ≡ holds some (left g)
    alike h g j = holds-joined some swept even (left h) (left g) (joined-fewer boundary some among (left h) (left g) j)

    alike_all : (h g : HalfEdge) → Joined edges (left h) (left g) → holds some (left h) ≡ holds some (left g)
    alike_all h g j = alike h g (joined-fewer edges boundary (λ e has. (of_boundary e has).0) (left h) (left g) j)

    -- the two sides of an edge are held alike exactly where it is not one of these
    across : (h : HalfEdge) → Contains edges h.edge → (holds some (left h) ≡ holds some (left (twin h))) ↔ (times h.edge some % 2 ≡ 0)
    across h has = by h.edge h.forwards has
      where
        by : (e : Seg) (b : Bool) → Contains edges e
            → (holds some (left (record { edge = e; forwards = b })) ≡ holds some (left (twin (record { edge = e; forwards = b })))) ↔ (times e some % 2 ≡ 0)
        by e b has = at b (holds-across e some (in_range e has) (λ f in_some. (let there = (of_boundary f (among f in_some)).0 in (in_range f there, planar.noded e f has there))))
          where
            at : (b : Bool) → ((holds some (lower e) ≡ holds some (upper e)) ↔ (times e some % 2 ≡ 0))
                → (holds some (left (record { edge = e; forwards = b })) ≡ holds some (left (twin (record { edge = e; forwards = b })))) ↔ (times e some % 2 ≡ 0)
            at true is = (λ h. is.0 (sym h), λ h. sym (is.1 h))
            at false is = is

    -- an edge with the part on both sides is none of these
    not_both_sides : (k : HalfEdge) → passes k ≡ true → passes (twin k) ≡ true → Contains some k.edge → ⊥
    not_both_sides k one other has = by k.edge k.forwards one other (of_boundary k.edge (among k.edge has)).1
      where
        none : (a b : Bool) → a ≡ true → b ≡ true → cond a (not b) b ≡ true → ⊥
        none true true h k is = false≢true is
        none true false h k is = false≢true k
        none false b h k is = false≢true h

        by : (e : Seg) (b : Bool) → passes (record { edge = e; forwards = b }) ≡ true → passes (record { edge = e; forwards = not b }) ≡ true → is_part_border passes e ≡ true → ⊥
        by e true one other is = none _ _ one other is
        by e false one other is = none _ _ other one is

    led : (h g : HalfEdge) (way : List HalfEdge) → LeadsAcross edges passes h way g → holds some (left h) ≡ holds some (left g)
    led h g [] leads = alike_all h g leads
    led h g (k ∷ way) leads =
        let over : holds some (left k) ≡ holds some (left (twin k)) = (across k leads.1).1 (elim (counted k.edge some distinct) [
          | inl there ↦ absurd (not_both_sides k leads.2 leads.3 there.0)
          | inr none ↦ ap (λ n. n % 2) none.1
        ]) in
        alike_all h k leads.0 ∙ over ∙ led (twin k) g way leads.4

    both : (h g : HalfEdge) → Contains edges h.edge → Contains edges g.edge → holds some (left h) ≡ holds some (left g) → holds some (left (twin h)) ≡ holds some (left (twin g))
        → Contains some h.edge → Contains some g.edge
    both h g in_h in_g on_left on_right has = elim (counted g.edge some distinct) [
      | inl there ↦ there.0
      | inr none ↦ (
          let same = on_left ∙ (across g in_g).1 (ap (λ n. n % 2) none.1) ∙ sym on_right in
          elim (counted h.edge some distinct) [
            | inl once ↦ (let even_times = (across h in_h).0 same in let one = once.1 in absurd (omega arith))
            | inr never ↦ absurd (never.0 has)
          ])
    ]

    both_ways : (h g : HalfEdge) → passes h ≡ true → passes g ≡ true → IsTurn boundary h g → Contains some h.edge ↔ Contains some g.edge
    both_ways h g pass_h pass_g turn =
        let in_g = (of_boundary g.edge turn.among).0 in
        let in_h = (of_boundary h.edge turn.leaves.among).0 in
        let way = part.connected h g in_h in_g pass_h pass_g in
        let on_left = led h g way.0 way.1 in
        let on_right = alike (twin g) (twin h) (next_joined boundary planar_boundary (twin g) (twin h) turn) in
        (both h g in_h in_g on_left (sym on_right), both g h in_g in_h (sym on_left) on_right)

pub both_or_neither : (edges : List Seg) → IsPlanar edges → (passes : HalfEdge → Bool) → IsPartTest edges passes → (h g : HalfEdge) → passes h ≡ true → passes g ≡ true → IsTurn (part_boundary edges passes) h g
    → (some : List Seg) → AreDistinct some → ((e : Seg) → Contains some e → Contains (part_boundary edges passes) e) → HaveEvenEnds some → Contains some h.edge ↔ Contains some g.edge
both_or_neither edges planar passes part h g pass_h pass_g turn some distinct among even = both_ways edges planar passes part some distinct among even h g pass_h pass_g turn
