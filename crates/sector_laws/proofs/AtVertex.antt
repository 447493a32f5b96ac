-- At one vertex the order of directions is the order by angle.
use Rattle.std.proofs.Common.{◌≡◌, refl, sym, ◌∙◌, ap, Bool, true, false, cond, int_lt, inl, inr, ℤ, pos, neg_ℤ, arith}
use Rattle.std.specs.Cmp.{tied_back}
use Rattle.std.specs.Ordering.{int_cmp, is_lt}
use Rattle.std.specs.declared.cmp.Ordering.TheVariants.{Less, Equal, Greater}
use Rattle.integer_laws.proofs.Compare.{int_tests, lt_or_ge}
use Rattle.integer_laws.proofs.Ring.{lin}
use Rattle.cov_types.specs.declared.seg.Seg.{Seg}
use Rattle.sector_laws.specs.Direction.{turn_cmp, direction_cmp}
use Rattle.sector_laws.specs.DirectionLaws.{AtVertexLaw, OneLaw}
use Rattle.sector_laws.proofs.Turning.{direction_total}
use Rattle.plane.specs.Segment.{turn_of}
use Rattle.plane.proofs.Sides.{turn-first_two, turn-same_ends, turn-same_last}
use Rattle.sector_laws.specs.Sector.{HalfEdge, origin, is_left_of, is_before_by_angle}
use Rattle.sector_laws.proofs.Angles.{not_both}
use Rattle.sector_laws.proofs.Order.{one_or_before}

lt_of_tests : (p q : Bool) → is_lt (cond p Less (cond q Greater Equal)) ≡ p
lt_of_tests true q = refl
lt_of_tests false true = refl
lt_of_tests false false = refl

is_lt-int_cmp : (x y : ℤ) → is_lt (int_cmp x y) ≡ int_lt x y
is_lt-int_cmp x y = lt_of_tests (int_lt x y) (int_lt y x)

turned_test : (x y : ℤ) → y ≡ neg_ℤ x → int_lt (pos 0) y ≡ int_lt x (pos 0)
turned_test x y turned =
    elim (lt_or_ge x (pos 0)) [
      | inl below ↦ (let first : int_lt (pos 0) y ≡ true = omega (arith, lin, int_tests) in let second : int_lt x (pos 0) ≡ true = omega (arith, lin, int_tests) in first ∙ sym second)
      | inr from ↦ (let first : int_lt (pos 0) y ≡ false = omega (arith, lin, int_tests) in let second : int_lt x (pos 0) ≡ false = omega (arith, lin, int_tests) in first ∙ sym second)
    ]

-- forwards, the turn of the other's hi; its lo is on the line
left_forwards : (e f : Seg) → e.lo ≡ f.lo → is_left_of (record { edge = f; forwards = true }) (record { edge = e; forwards = true }) ≡ is_lt (turn_cmp e f)
left_forwards e f same =
    ap (λ x. int_lt x (turn_of e.lo e.hi f.hi)) (sym (ap (λ v. turn_of e.lo e.hi v) (sym same) ∙ turn-same_ends e.lo e.hi))
    ∙ sym (is_lt-int_cmp (turn_of e.lo e.hi f.lo) (turn_of e.lo e.hi f.hi))

-- and back, that of its lo
left_back : (e f : Seg) → e.hi ≡ f.hi → is_left_of (record { edge = f; forwards = false }) (record { edge = e; forwards = false }) ≡ is_lt (turn_cmp e f)
left_back e f same =
    turned_test (turn_of e.lo e.hi f.lo) (turn_of e.hi e.lo f.lo) (turn-first_two e.lo e.hi f.lo)
    ∙ ap (λ x. int_lt (turn_of e.lo e.hi f.lo) x) (sym (ap (λ v. turn_of e.lo e.hi v) (sym same) ∙ turn-same_last e.lo e.hi))
    ∙ sym (is_lt-int_cmp (turn_of e.lo e.hi f.lo) (turn_of e.lo e.hi f.hi))

at_vertex_of : (e f : Seg) (p q : Bool) → let h : HalfEdge = record { edge = e; forwards = p } in let g : HalfEdge = record { edge = f; forwards = q } in
    origin h ≡ origin g → is_before_by_angle h g ≡ is_lt (direction_cmp h g)
at_vertex_of e f true true same = left_forwards e f same
at_vertex_of e f true false same = refl
at_vertex_of e f false true same = refl
at_vertex_of e f false false same = left_back e f same

pub at_vertex : AtVertexLaw
at_vertex h g same = at_vertex_of h.edge g.edge h.forwards g.forwards same

pub one_direction : OneLaw
one_direction edges planar v h g at_h at_g level =
    elim (one_or_before edges planar v h g at_h at_g) [
      | inl same ↦ same
      | inr apart ↦ elim apart [
        | inl before ↦ absurd (not_both before (at_vertex h g (at_h.from ∙ sym at_g.from) ∙ ap is_lt level))
        | inr after ↦ absurd (not_both after (at_vertex g h (at_g.from ∙ sym at_h.from) ∙ ap is_lt (tied_back direction_total h g level)))
      ]
    ]
