-- Two pieces whose chain edges cross would cross themselves, in a hot pixel: so no two chain edges cross.
use mathlib.Core.List.{List, [], ◌∷◌}
use Rattle.std.proofs.Common.{◌≡◌, inl, inr, refl, sym, ◌∙◌, subst, ◌+◌, ◌≤◌, ℤ, pos, negsuc, neg_ℤ, ◌+ℤ◌, ◌-ℤ◌, ◌*ℤ◌, ◌<ℤ◌, ◌≤ℤ◌, arith}
use Rattle.integer_laws.proofs.Ring.{lin, by_ring, Term, Var, ◌⊖◌, ◌⊗◌, Neg, one_mul, neg_mul}
use Rattle.integer_laws.proofs.Compare.{lt_or_ge, le_of_lt}
use Rattle.integer_laws.proofs.Order.{cancel_eq_right}
use Rattle.integer_laws.proofs.Sign.{positive_times_positive, positive_times_negative, nonneg_times_nonneg}
use Rattle.cov_types.specs.declared.coord.Coord.{Coord}
use Rattle.cov_types.specs.declared.seg.Seg.{Seg}
use Rattle.plane.specs.Point.{Point, IsBetween}
use Rattle.plane.specs.Segment.{turn_of}
use Rattle.plane.specs.Snapping.{IsInPixel, IsHot}
use Rattle.plane.proofs.Points.{d_positive, between_by}
use Rattle.rounding_laws.proofs.Near.{Near, near_same, mean_near, pixel-near, near-pixel}
use Rattle.rounding_laws.proofs.Means.{mean, mean-between}
use Rattle.rounding_laws.proofs.Vectors.{Moving, before, after, ahead, turned, turned-exchanged, common_u, common_v, common_w}
use Rattle.rounding_laws.proofs.Moves.{Misses, end_stays, Crosses, Stay, stay_exchanged, crossing_survives}
use Rattle.rounding_laws.proofs.Pieces.{IsPiece, piece_turned}

-- ---- the means of a piece

module _ (segs : List Seg) (s : Seg) (a b : Coord) (piece : IsPiece segs s a b) where
  -- the weight and the coordinates of a mean of the two points of the piece
  abbrev weight_at : ℤ → ℤ → ℤ
  weight_at i j = (i *ℤ pos piece.from.d) +ℤ (j *ℤ pos piece.until.d)

  abbrev x_at : ℤ → ℤ → ℤ
  x_at i j = (i *ℤ piece.from.x) +ℤ (j *ℤ piece.until.x)

  abbrev y_at : ℤ → ℤ → ℤ
  y_at i j = (i *ℤ piece.from.y) +ℤ (j *ℤ piece.until.y)

  -- no mean of the piece is in another hot pixel
  no_mean : (c : Coord) → IsHot segs c → ¬ (c ≡ a) → ¬ (c ≡ b) → (i j : ℤ) → pos 0 ≤ℤ i → pos 0 ≤ℤ j → pos 0 <ℤ (i +ℤ j)
      → Near (c.x *ℤ weight_at i j) (x_at i j) (weight_at i j) → Near (c.y *ℤ weight_at i j) (y_at i j) (weight_at i j) → ⊥
  no_mean c hot not_a not_b (pos m) (pos n) hi hj positive x y =
      let weighted : 1 ≤ m + n = omega (arith, lin) in
      let here = near-pixel (mean piece.from piece.until m n weighted) c x y in
      elim (piece.alone c (mean piece.from piece.until m n weighted) hot (mean-between piece.from piece.until m n weighted) here) [ inl e ↦ not_a e | inr e ↦ not_b e ]
  no_mean c hot not_a not_b (pos m) (negsuc n) hi hj positive x y = absurd hj.le
  no_mean c hot not_a not_b (negsuc m) j hi hj positive x y = absurd hi.le

-- ---- the two moves of a point in the pixel of c: its x goes to the centre, and then its y

abbrev pub x_move : (p : Point) (c : Coord) → IsInPixel p c → Moving
x_move p c h = record { u = p.y; v = p.x; w = pos p.d; centre = c.x; positive = d_positive p; near = (pixel-near p c h).0 }

abbrev pub y_move : (p : Point) (c : Coord) → IsInPixel p c → Moving
y_move p c h = record { u = c.x *ℤ pos p.d; v = p.y; w = pos p.d; centre = c.y; positive = d_positive p; near = (pixel-near p c h).1 }

-- over plain variables: a factor of a product moved
factor_moved : (c d w : ℤ) → (c *ℤ d) *ℤ w ≡ (c *ℤ w) *ℤ d
factor_moved c d w = by_ring (c ∷ d ∷ w ∷ []) ((Var 0 ⊗ Var 1) ⊗ Var 2) ((Var 0 ⊗ Var 2) ⊗ Var 1) refl

weight_positive : (i j d e : ℤ) → pos 0 ≤ℤ i → pos 0 ≤ℤ j → pos 0 <ℤ (i +ℤ j) → pos 0 <ℤ d → pos 0 <ℤ e → pos 0 <ℤ ((i *ℤ d) +ℤ (j *ℤ e))
weight_positive i j d e hi hj positive hd he =
    let first = nonneg_times_nonneg hi (le_of_lt hd) in
    let second = nonneg_times_nonneg hj (le_of_lt he) in
    elim (lt_or_ge (pos 0) i) [
      | inl l ↦ (let strict = positive_times_positive l hd in omega (arith, lin))
      | inr g ↦ (let strict = positive_times_positive {x = j} {y = e} (omega (arith, lin)) he in omega (arith, lin))
    ]

module _ (segs : List Seg) (s : Seg) (a b : Coord) (piece : IsPiece segs s a b) (c : Coord) (hot : IsHot segs c) (not_a : ¬ (c ≡ a)) (not_b : ¬ (c ≡ b)) (g : Point) (inside : IsInPixel g c) where
  x_misses : Misses (x_move piece.from a piece.from_in) (x_move piece.until b piece.until_in) (x_move g c inside)
  x_misses i j hi hj positive level near =
      let w = weight_positive i j (pos piece.from.d) (pos piece.until.d) hi hj positive (d_positive piece.from) (d_positive piece.until) in
      no_mean segs s a b piece c hot not_a not_b i j hi hj positive near
      (near_same c.y g.y (pos g.d) (y_at segs s a b piece i j) (weight_at segs s a b piece i j) (d_positive g) w (sym level) (pixel-near g c inside).1)

  y_misses : Misses (y_move piece.from a piece.from_in) (y_move piece.until b piece.until_in) (y_move g c inside)
  y_misses i j hi hj positive level near =
      let w = weight_at segs s a b piece i j in
      let x = mean_near i j (a.x *ℤ pos piece.from.d) piece.from.x (pos piece.from.d) (b.x *ℤ pos piece.until.d) piece.until.x (pos piece.until.d)
      hi hj positive (pixel-near piece.from a piece.from_in).0 (pixel-near piece.until b piece.until_in).0 in
      let column : (i *ℤ (a.x *ℤ pos piece.from.d)) +ℤ (j *ℤ (b.x *ℤ pos piece.until.d)) ≡ c.x *ℤ w =
      cancel_eq_right (pos g.d) ((i *ℤ (a.x *ℤ pos piece.from.d)) +ℤ (j *ℤ (b.x *ℤ pos piece.until.d))) (c.x *ℤ w) (d_positive g) (level ∙ factor_moved c.x (pos g.d) w) in
      no_mean segs s a b piece c hot not_a not_b i j hi hj positive (subst (λ v. Near v (x_at segs s a b piece i j) w) column x) near

-- ---- what the turns say before and after each move

-- the coordinates of three points and of three centres, numbered
abbrev nine : (p q r : Point) (a b c : Coord) → List ℤ
nine p q r a b c = p.x ∷ p.y ∷ pos p.d ∷ q.x ∷ q.y ∷ pos q.d ∷ r.x ∷ r.y ∷ pos r.d ∷ a.x ∷ a.y ∷ b.x ∷ b.y ∷ c.x ∷ c.y ∷ []

-- the turn of three vectors, by what stays (u), what moves (v) and the weight of each
abbrev vectors_term : Term → Term → Term → Term → Term → Term → Term → Term → Term → Term
vectors_term u v w u' v' w' u'' v'' w'' = v'' ⊗ (w ⊗ u' ⊖ u ⊗ w') ⊖ v' ⊗ (w ⊗ u'' ⊖ u ⊗ w'') ⊖ v ⊗ (w'' ⊗ u' ⊖ u'' ⊗ w')

module _ (p q r : Point) (a b c : Coord) (in_a : IsInPixel p a) (in_b : IsInPixel q b) (in_c : IsInPixel r c) where
  -- after both moves it is the turn of the centres
  y_after : turned after (y_move p a in_a) (y_move q b in_b) (y_move r c in_c) ≡ ((pos p.d *ℤ pos q.d) *ℤ pos r.d) *ℤ turn_of a b c
  unfolding turned ahead turn_of
  y_after =
      by_ring (nine p q r a b c)
      (vectors_term (Var 9 ⊗ Var 2) (Var 10 ⊗ Var 2) (Var 2) (Var 11 ⊗ Var 5) (Var 12 ⊗ Var 5) (Var 5) (Var 13 ⊗ Var 8) (Var 14 ⊗ Var 8) (Var 8))
      (((Var 2 ⊗ Var 5) ⊗ Var 8) ⊗ ((Var 11 ⊖ Var 9) ⊗ (Var 14 ⊖ Var 10) ⊖ (Var 12 ⊖ Var 10) ⊗ (Var 13 ⊖ Var 9))) refl

  -- between the moves the two coordinates change their parts, and the turn its sign
  between_moves : turned after (x_move p a in_a) (x_move q b in_b) (x_move r c in_c) ≡ neg_ℤ (turned before (y_move p a in_a) (y_move q b in_b) (y_move r c in_c))
  unfolding turned ahead
  between_moves =
      by_ring (nine p q r a b c)
      (vectors_term (Var 1) (Var 9 ⊗ Var 2) (Var 2) (Var 4) (Var 11 ⊗ Var 5) (Var 5) (Var 7) (Var 13 ⊗ Var 8) (Var 8))
      (Neg (vectors_term (Var 9 ⊗ Var 2) (Var 1) (Var 2) (Var 11 ⊗ Var 5) (Var 4) (Var 5) (Var 13 ⊗ Var 8) (Var 7) (Var 8))) refl

  weights_product : pos 0 <ℤ ((pos p.d *ℤ pos q.d) *ℤ pos r.d)
  weights_product = positive_times_positive (positive_times_positive (d_positive p) (d_positive q)) (d_positive r)

  turn_left : pos 0 <ℤ turn_of a b c → pos 0 <ℤ turned after (y_move p a in_a) (y_move q b in_b) (y_move r c in_c)
  turn_left h = let product = positive_times_positive weights_product h in omega (arith, lin, y_after)

  turn_right : turn_of a b c <ℤ pos 0 → turned after (y_move p a in_a) (y_move q b in_b) (y_move r c in_c) <ℤ pos 0
  turn_right h = let product = positive_times_negative weights_product h in omega (arith, lin, y_after)

-- ---- two pieces

-- the centres of two chain edges cross properly
pub record CentresCross (a b c d : Coord) : Type 0 where
  pub c_left : pos 0 <ℤ turn_of a b c
  pub d_right : turn_of a b d <ℤ pos 0
  pub b_left : pos 0 <ℤ turn_of c d b
  pub a_right : turn_of c d a <ℤ pos 0

-- two pieces with no common centre
pub record TwoPieces (segs : List Seg) (s t : Seg) (a b c d : Coord) : Type 0 where
  pub first : IsPiece segs s a b
  pub second : IsPiece segs t c d
  pub a_hot : IsHot segs a
  pub b_hot : IsHot segs b
  pub c_hot : IsHot segs c
  pub d_hot : IsHot segs d
  pub not_ac : ¬ (a ≡ c)
  pub not_ad : ¬ (a ≡ d)
  pub not_bc : ¬ (b ≡ c)
  pub not_bd : ¬ (b ≡ d)

-- the ends of two pieces stay, where each misses the others
module _
    (move : (p : Point) (c : Coord) → IsInPixel p c → Moving)
    (misses : (segs : List Seg) (s : Seg) (a b : Coord) (piece : IsPiece segs s a b) (c : Coord) → IsHot segs c → ¬ (c ≡ a) → ¬ (c ≡ b) → (g : Point) (inside : IsInPixel g c)
    → Misses (move piece.from a piece.from_in) (move piece.until b piece.until_in) (move g c inside))
    (segs : List Seg) (s t : Seg) (a b c d : Coord) (two : TwoPieces segs s t a b c d) where
  ends_stay : Stay (move two.first.from a two.first.from_in) (move two.first.until b two.first.until_in) (move two.second.from c two.second.from_in) (move two.second.until d two.second.until_in)
  ends_stay =
      let p = two.first in
      let q = two.second in
      let p_back = piece_turned segs s a b p in
      let q_back = piece_turned segs t c d q in
      let a' = move p.from a p.from_in in
      let b' = move p.until b p.until_in in
      let c' = move q.from c q.from_in in
      let d' = move q.until d q.until_in in
      record {
        c_stays = end_stays a' b' c' (misses segs s a b p c two.c_hot (λ e. two.not_ac (sym e)) (λ e. two.not_bc (sym e)) q.from q.from_in);
        d_stays = end_stays a' b' d' (misses segs s a b p d two.d_hot (λ e. two.not_ad (sym e)) (λ e. two.not_bd (sym e)) q.until q.until_in);
        c_back = end_stays b' a' c' (misses segs s b a p_back c two.c_hot (λ e. two.not_bc (sym e)) (λ e. two.not_ac (sym e)) q.from q.from_in);
        d_back = end_stays b' a' d' (misses segs s b a p_back d two.d_hot (λ e. two.not_bd (sym e)) (λ e. two.not_ad (sym e)) q.until q.until_in);
        a_stays = end_stays c' d' a' (misses segs t c d q a two.a_hot two.not_ac two.not_ad p.from p.from_in);
        b_stays = end_stays c' d' b' (misses segs t c d q b two.b_hot two.not_bc two.not_bd p.until p.until_in);
        a_back = end_stays d' c' a' (misses segs t d c q_back a two.a_hot two.not_ad two.not_ac p.from p.from_in);
        b_back = end_stays d' c' b' (misses segs t d c q_back b two.b_hot two.not_bd two.not_bc p.until p.until_in);
      }

module _ (segs : List Seg) (s t : Seg) (a b c d : Coord) (two : TwoPieces segs s t a b c d) where
  abbrev first : IsPiece segs s a b
  first = two.first

  abbrev second : IsPiece segs t c d
  second = two.second

  -- the centres after both moves
  cross_after : CentresCross a b c d
      → Crosses after (y_move first.from a first.from_in) (y_move first.until b first.until_in) (y_move second.from c second.from_in) (y_move second.until d second.until_in)
  cross_after h = record {
    c_left = turn_left first.from first.until second.from a b c first.from_in first.until_in second.from_in h.c_left;
    d_right = turn_right first.from first.until second.until a b d first.from_in first.until_in second.until_in h.d_right;
    b_left = turn_left second.from second.until first.until c d b second.from_in second.until_in first.until_in h.b_left;
    a_right = turn_right second.from second.until first.from c d a second.from_in second.until_in first.from_in h.a_right;
  }

  -- between the moves c and d change places
  cross_between : Crosses before (y_move first.from a first.from_in) (y_move first.until b first.until_in) (y_move second.from c second.from_in) (y_move second.until d second.until_in)
      → Crosses after (x_move first.from a first.from_in) (x_move first.until b first.until_in) (x_move second.until d second.until_in) (x_move second.from c second.from_in)
  cross_between h =
      let c_left = h.c_left in
      let d_right = h.d_right in
      let b_left = h.b_left in
      let a_right = h.a_right in
      record {
        c_left = omega (arith, lin, between_moves first.from first.until second.until a b d first.from_in first.until_in second.until_in);
        d_right = omega (arith, lin, between_moves first.from first.until second.from a b c first.from_in first.until_in second.from_in);
        b_left = omega (
          arith,
          lin,
          between_moves second.from second.until first.until c d b second.from_in second.until_in first.until_in,
          turned-exchanged after (x_move second.from c second.from_in) (x_move second.until d second.until_in) (x_move first.until b first.until_in),
        );
        a_right = omega (
          arith,
          lin,
          between_moves second.from second.until first.from c d a second.from_in second.until_in first.from_in,
          turned-exchanged after (x_move second.from c second.from_in) (x_move second.until d second.until_in) (x_move first.from a first.from_in),
        );
      }

-- the pieces cross where the centres do
pub pieces_cross : (segs : List Seg) (s t : Seg) (a b c d : Coord) (two : TwoPieces segs s t a b c d) → CentresCross a b c d
    → Crosses before (x_move two.first.from a two.first.from_in) (x_move two.first.until b two.first.until_in)
    (x_move two.second.until d two.second.until_in) (x_move two.second.from c two.second.from_in)
pieces_cross segs s t a b c d two h =
    let p = two.first in
    let q = two.second in
    let y = crossing_survives (y_move p.from a p.from_in) (y_move p.until b p.until_in) (y_move q.from c q.from_in) (y_move q.until d q.until_in)
    (ends_stay y_move y_misses segs s t a b c d two) (cross_after segs s t a b c d two h) in
    crossing_survives (x_move p.from a p.from_in) (x_move p.until b p.until_in) (x_move q.until d q.until_in) (x_move q.from c q.from_in)
    (stay_exchanged (x_move p.from a p.from_in) (x_move p.until b p.until_in) (x_move q.from c q.from_in) (x_move q.until d q.until_in) (ends_stay x_move x_misses segs s t a b c d two))
    (cross_between segs s t a b c d two y)

-- ---- the common point of two pieces that cross

-- one point as a mean of p and q and as a mean of r and z
common_mean : (p q r z : Point) (m n k l : ℤ) → pos 0 <ℤ m → pos 0 <ℤ n → pos 0 <ℤ k → pos 0 <ℤ l
    → (m *ℤ p.x) +ℤ (n *ℤ q.x) ≡ (k *ℤ r.x) +ℤ (l *ℤ z.x) → (m *ℤ p.y) +ℤ (n *ℤ q.y) ≡ (k *ℤ r.y) +ℤ (l *ℤ z.y)
    → (m *ℤ pos p.d) +ℤ (n *ℤ pos q.d) ≡ (k *ℤ pos r.d) +ℤ (l *ℤ pos z.d) → (g : Point) × IsBetween g p q × IsBetween g r z
common_mean p q r z (pos m) (pos n) k l hm hn hk hl x y d =
    let weighted : 1 ≤ m + n = omega (arith, lin) in
    let g = mean p q m n weighted in
    (g, mean-between p q m n weighted, between_by g r z (pos 1) k l (le_of_lt hk) (le_of_lt hl) (omega (arith, lin)) (one_mul g.x ∙ x) (one_mul g.y ∙ y) (one_mul (pos g.d) ∙ d))
common_mean p q r z (pos m) (negsuc n) k l hm hn hk hl x y d = absurd hn.lt
common_mean p q r z (negsuc m) n k l hm hn hk hl x y d = absurd hm.lt

-- over plain variables: the difference of products as a sum
as_sum : (m n k l p q r z : ℤ) → (m *ℤ p) -ℤ (n *ℤ q) ≡ (k *ℤ r) -ℤ (l *ℤ z) → (m *ℤ p) +ℤ (neg_ℤ n *ℤ q) ≡ (k *ℤ r) +ℤ (neg_ℤ l *ℤ z)
as_sum m n k l p q r z e = omega (arith, lin, neg_mul n q, neg_mul l z)

-- two pieces that cross have a point in common
pub common_of_pieces : (segs : List Seg) (s t : Seg) (a b c d : Coord) (two : TwoPieces segs s t a b c d) → CentresCross a b c d
    → (g : Point) × IsBetween g two.first.from two.first.until × IsBetween g two.second.from two.second.until
common_of_pieces segs s t a b c d two h =
    let p = two.first in
    let q = two.second in
    let a' = x_move p.from a p.from_in in
    let b' = x_move p.until b p.until_in in
    let c' = x_move q.until d q.until_in in
    let d' = x_move q.from c q.from_in in
    let cross = pieces_cross segs s t a b c d two h in
    let c_left = cross.c_left in
    let d_right = cross.d_right in
    let b_left = cross.b_left in
    let a_right = cross.a_right in
    let cdb = turned before c' d' b' in
    let cda = turned before c' d' a' in
    let abc = turned before a' b' c' in
    let abd = turned before a' b' d' in
    common_mean p.from p.until q.from q.until cdb (neg_ℤ cda) abc (neg_ℤ abd)
    b_left (omega (arith, lin)) c_left (omega (arith, lin))
    (as_sum cdb cda abc abd p.from.x p.until.x q.from.x q.until.x (common_v before a' b' c' d'))
    (as_sum cdb cda abc abd p.from.y p.until.y q.from.y q.until.y (common_u before a' b' c' d'))
    (as_sum cdb cda abc abd (pos p.from.d) (pos p.until.d) (pos q.from.d) (pos q.until.d) (common_w before a' b' c' d'))
