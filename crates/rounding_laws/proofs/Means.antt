-- Means of two points, as points.
use Rattle.std.proofs.Common.{ℕ, ◌+◌, ◌*◌, ◌≤◌, pos, ◌+ℤ◌, ◌*ℤ◌, arith}
use Rattle.integer_laws.proofs.Ring.{mul_comm}
use Rattle.plane.specs.Point.{Point, IsBetween}
use Rattle.plane.proofs.Points.{weights_positive}

-- the mean of p and q with the weights m and n
abbrev pub mean : (p q : Point) (m n : ℕ) → 1 ≤ m + n → Point
mean p q m n weighted = record {
  x = (pos m *ℤ p.x) +ℤ (pos n *ℤ q.x);
  y = (pos m *ℤ p.y) +ℤ (pos n *ℤ q.y);
  d = m * p.d + n * q.d;
  positive = (let w = weights_positive m n p.d q.d weighted p.positive q.positive in omega arith);
}

pub mean-between : (p q : Point) (m n : ℕ) (weighted : 1 ≤ m + n) → IsBetween (mean p q m n weighted) p q
mean-between p q m n weighted = record {
  first = m;
  second = n;
  weighted = weighted;
  x = mul_comm ((pos m *ℤ p.x) +ℤ (pos n *ℤ q.x)) (pos (m * p.d + n * q.d));
  y = mul_comm ((pos m *ℤ p.y) +ℤ (pos n *ℤ q.y)) (pos (m * p.d + n * q.d));
}
