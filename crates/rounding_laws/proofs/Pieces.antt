-- The piece of a segment between neighbours of its chain.
use Rattle.std.proofs.Common.{◌≡◌, ◌⊎◌, inl, inr, sym, ◌∙◌, subst, ℕ, suc, ◌<◌, ◌*ℤ◌, ◌<ℤ◌, pos, List, length, get_or, arith}
use Rattle.std.specs.Prelude.{Contains}
use Rattle.std.proofs.lemmas.Bool.{cases_order}
use Rattle.std.proofs.lemmas.List.{get_or_default}
use Rattle.std.proofs.lemmas.List.Elements.{Contains-get_or}
use Rattle.integer_laws.proofs.Compare.{le_of_lt, lt_excludes_le}
use Rattle.cov_types.specs.declared.coord.Coord.{Coord}
use Rattle.cov_types.specs.declared.seg.Seg.{Seg}
use Rattle.plane.specs.Point.{Point, IsBetween}
use Rattle.plane.specs.Segment.{IsOn}
use Rattle.plane.specs.Ray.{sweep, Rises}
use Rattle.plane.specs.Snapping.{IsInPixel, IsHot, IsChain}
use Rattle.plane.proofs.Points.{between-sym}
use Rattle.rounding_laws.proofs.Passing.{between_from, between_to, between_on, before_sweep}

-- a point of s in the pixel of a and one in that of b, such that a hot pixel with a point between the two is that of a or of b
pub record IsPiece (segs : List Seg) (s : Seg) (a b : Coord) : Type 0 where
  pub from : Point
  pub until : Point
  pub from_on : IsOn s from
  pub until_on : IsOn s until
  pub from_in : IsInPixel from a
  pub until_in : IsInPixel until b
  pub alone : (r : Coord) (m : Point) → IsHot segs r → IsBetween m from until → IsInPixel m r → (r ≡ a) ⊎ (r ≡ b)

pub alone_turned : (segs : List Seg) (s : Seg) (a b : Coord) (h : IsPiece segs s a b) (r : Coord) (m : Point) → IsHot segs r → IsBetween m h.until h.from → IsInPixel m r → (r ≡ b) ⊎ (r ≡ a)
alone_turned segs s a b h r m hot between in_r = elim (h.alone r m hot (between-sym m h.until h.from between) in_r) [ inl e ↦ inr e | inr e ↦ inl e ]

-- the same piece with its ends exchanged
abbrev pub piece_turned : (segs : List Seg) (s : Seg) (a b : Coord) → IsPiece segs s a b → IsPiece segs s b a
piece_turned segs s a b h = record {
  from = h.until;
  until = h.from;
  from_on = h.until_on;
  until_on = h.from_on;
  from_in = h.until_in;
  until_in = h.from_in;
  alone = alone_turned segs s a b h;
}

-- ---- neighbours of a chain

-- a place before i, i itself, the next one, or one after that
places : (k i : ℕ) → (k < i) ⊎ ((k ≡ i) ⊎ ((k ≡ suc i) ⊎ (suc i < k)))
places k i =
    elim (cases_order k i) [
      | inl e ↦ inr (inl e)
      | inr rest ↦ elim rest [
        | inl l ↦ inl l
        | inr g ↦ elim (cases_order k (suc i)) [
          | inl e ↦ inr (inr (inl e))
          | inr rest ↦ elim rest [
            | inl l ↦ absurd (omega arith)
            | inr g ↦ inr (inr (inr g))
          ]
        ]
      ]
    ]

module _ (segs : List Seg) (s : Seg) (c : List Coord) (rises : Rises s) (chain : IsChain segs s c) where
  -- a point of s in the pixel of a centre of the chain
  pub point_in : (r : Coord) → Contains c r → (p : Point) × (IsOn s p × IsInPixel p r)
  point_in r h = ((chain.members r).0 h).1

  -- s passes the points in the pixels of the chain in the order of the chain
  pub in_order : (i j : ℕ) (d : Coord) → i < j → j < length c → (p q : Point) → IsOn s p → IsInPixel p (get_or c i d) → IsOn s q → IsInPixel q (get_or c j d)
      → (sweep p *ℤ pos q.d) <ℤ (sweep q *ℤ pos p.d)
  in_order i j d l within p q on_p in_p on_q in_q = before_sweep s p q rises on_p on_q (chain.in_order i j d l within p q on_p in_p on_q in_q)

  -- a hot pixel with a point of s between those of two neighbours is one of theirs
  alone_at : (i : ℕ) (d : Coord) → suc i < length c → (from until : Point) → IsOn s from → IsInPixel from (get_or c i d) → IsOn s until → IsInPixel until (get_or c (suc i) d)
      → (r : Coord) (m : Point) → IsHot segs r → IsBetween m from until → IsInPixel m r → (r ≡ get_or c i d) ⊎ (r ≡ get_or c (suc i) d)
  alone_at i d within from until from_on from_in until_on until_in r m hot between in_r =
      let on = between_on s m from until rises from_on until_on between in
      let step = in_order i (suc i) d (omega arith) within from until from_on from_in until_on until_in in
      let low = between_from m from until between (le_of_lt step) in
      let high = between_to m from until between (le_of_lt step) in
      let place = (chain.members r).1 (hot, (m, (on, in_r))) in
      let here = get_or_default c place.0 d r place.1 ∙ place.2 in
      elim (places place.0 i) [
        | inl l ↦ absurd (lt_excludes_le (in_order place.0 i d l (omega arith) m from on (subst (λ (q : Coord). IsInPixel m q) (sym here) in_r) from_on from_in) low)
        | inr rest ↦ elim rest [
          | inl e ↦ inl (sym here ∙ (λ t. get_or c (e t) d))
          | inr rest ↦ elim rest [
            | inl e ↦ inr (sym here ∙ (λ t. get_or c (e t) d))
            | inr g ↦ absurd (lt_excludes_le (in_order (suc i) place.0 d g place.1 until m until_on until_in on (subst (λ (q : Coord). IsInPixel m q) (sym here) in_r)) high)
          ]
        ]
      ]

  -- neighbours of a chain have a piece between them
  pub piece_at : (i : ℕ) (d : Coord) → suc i < length c → IsPiece segs s (get_or c i d) (get_or c (suc i) d)
  piece_at i d within =
      let first = point_in (get_or c i d) (Contains-get_or c i d (omega arith)) in
      let second = point_in (get_or c (suc i) d) (Contains-get_or c (suc i) d within) in
      record {
        from = first.0;
        until = second.0;
        from_on = first.1.0;
        until_on = second.1.0;
        from_in = first.1.1;
        until_in = second.1.1;
        alone = alone_at i d within first.0 second.0 first.1.0 first.1.1 second.1.0 second.1.1;
      }
