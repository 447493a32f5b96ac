-- The two parts of a block.
use mir.Syntax.{w32}
use Rattle.std.proofs.Common.{◌≡◌, refl, sym, subst, to_z, of_z, ◌<◌, ◌+◌, ℕ, ℤ, pos, neg_ℤ, ◌+ℤ◌, ◌-ℤ◌, ◌≤ℤ◌, ◌<ℤ◌, unsigned_abs, arith}
use Rattle.std.proofs.lemmas.Int.{ints}
use Rattle.integer_laws.proofs.Compare.{le_refl}
use Rattle.integer_laws.proofs.Ring.{lin}
use Rattle.cov_types.specs.declared.coord.TheConstants.{LIMIT}
use Rattle.clearance_laws.proofs.Blocks.{across_covered, upwards_covered, in_whole}
use Rattle.gap_width.specs.declared.block.Block.{Block}
use Rattle.gap_width.specs.Search.{IsBlock, AreHalves}

-- a part of a length is shorter
shorter : (l h m : ℤ) (n : ℕ) → l ≤ℤ m → m <ℤ h → unsigned_abs (m -ℤ l) + n < unsigned_abs (h -ℤ l) + n
shorter l h m n from before = omega (arith, ints, lin)

shorter_after : (l h m : ℤ) (n : ℕ) → l ≤ℤ m → m <ℤ h → unsigned_abs (h -ℤ (m +ℤ pos 1)) + n < unsigned_abs (h -ℤ l) + n
shorter_after l h m n from before = omega (arith, ints, lin)

lower : (l h m : ℤ) (n : ℕ) → l ≤ℤ m → m <ℤ h → n + unsigned_abs (m -ℤ l) < n + unsigned_abs (h -ℤ l)
lower l h m n from before = omega (arith, ints, lin)

lower_after : (l h m : ℤ) (n : ℕ) → l ≤ℤ m → m <ℤ h → n + unsigned_abs (h -ℤ (m +ℤ pos 1)) < n + unsigned_abs (h -ℤ l)
lower_after l h m n from before = omega (arith, ints, lin)

-- the number and its next are between
up_to : (l h m : ℤ) → m <ℤ h → h ≤ℤ LIMIT → m ≤ℤ LIMIT
up_to l h m before right = omega (arith, lin)

next_from : (l m : ℤ) → (neg : ℤ) → neg ≤ℤ l → l ≤ℤ m → neg ≤ℤ (m +ℤ pos 1)
next_from l m neg left from = omega (arith, lin)

next_before : (m h : ℤ) → m <ℤ h → (m +ℤ pos 1) ≤ℤ h
next_before m h before = omega (arith, lin)

less : (m h : ℤ) → m <ℤ h → m ≤ℤ h
less m h before = omega (arith, lin)

past : (l m : ℤ) → l ≤ℤ m → l ≤ℤ (m +ℤ pos 1)
past l m from = omega (arith, lin)

-- numbers of the code
pub kept : (l h : ℤ) → (neg_ℤ LIMIT) ≤ℤ l → l ≤ℤ h → h ≤ℤ LIMIT → to_z w32 (of_z w32 h) ≡ h
kept l h left order right = omega (arith, ints, lin)

pub from_kept : (l h : ℤ) → (neg_ℤ LIMIT) ≤ℤ l → l ≤ℤ h → h ≤ℤ LIMIT → to_z w32 (of_z w32 l) ≡ l
from_kept l h left order right = omega (arith, ints, lin)

pub before_kept : (l m h : ℤ) → (neg_ℤ LIMIT) ≤ℤ l → l ≤ℤ m → m <ℤ h → h ≤ℤ LIMIT → to_z w32 (of_z w32 m) ≡ m
before_kept l m h left from before right = omega (arith, ints, lin)

pub next_kept : (l m h : ℤ) → (neg_ℤ LIMIT) ≤ℤ l → l ≤ℤ m → m <ℤ h → h ≤ℤ LIMIT → to_z w32 (of_z w32 (to_z w32 (of_z w32 m) +ℤ pos 1)) ≡ m +ℤ pos 1
next_kept l m h left from before right = omega (arith, ints, lin)

module _ (s : Block) (is : IsBlock s) (m : ℤ) where
  module _ (from : s.lo.x ≤ℤ m) (before : m <ℤ s.hi.x) where
    abbrev pub west : Block
    west = record { lo = s.lo; hi = record { x = m; y = s.hi.y }; inside = s.inside }

    abbrev pub east : Block
    east = record { lo = record { x = m +ℤ pos 1; y = s.lo.y }; hi = s.hi; inside = s.inside }

    pub west_is : IsBlock west
    west_is = record { left = is.left; across = from; right = up_to s.lo.x s.hi.x m before is.right; bottom = is.bottom; upwards = is.upwards; top = is.top }

    pub east_is : IsBlock east
    east_is = record { left = next_from s.lo.x m _ is.left from; across = next_before m s.hi.x before; right = is.right; bottom = is.bottom; upwards = is.upwards; top = is.top }

    across_halves : AreHalves s west east
    across_halves = record {
      first = λ c. in_whole s.lo s.hi west.lo west.hi c (le_refl s.lo.x) (le_refl s.lo.y) (less m s.hi.x before) (le_refl s.hi.y);
      second = λ c. in_whole s.lo s.hi east.lo east.hi c (past s.lo.x m from) (le_refl s.lo.y) (le_refl s.hi.x) (le_refl s.hi.y);
      cover = λ q. across_covered s.lo s.hi q m;
      first_inside = refl;
      second_inside = refl;
      first_less = shorter s.lo.x s.hi.x m (unsigned_abs (s.hi.y -ℤ s.lo.y)) from before;
      second_less = shorter_after s.lo.x s.hi.x m (unsigned_abs (s.hi.y -ℤ s.lo.y)) from before;
    }

    -- with numbers that are equal to these
    pub across_parts : (m_is n y z : ℤ) → m_is ≡ m → n ≡ m +ℤ pos 1 → y ≡ s.hi.y → z ≡ s.lo.y
        → AreHalves s (record { lo = s.lo; hi = record { x = m_is; y = y }; inside = s.inside }) (record { lo = record { x = n; y = z }; hi = s.hi; inside = s.inside })
    across_parts m_is n y z is_m is_n is_y is_z =
        subst (λ b. AreHalves s b (record { lo = record { x = n; y = z }; hi = s.hi; inside = s.inside })) (λ i. record { lo = s.lo; hi = record { x = sym is_m i; y = sym is_y i }; inside = s.inside })
        (subst (λ b. AreHalves s west b) (λ i. record { lo = record { x = sym is_n i; y = sym is_z i }; hi = s.hi; inside = s.inside }) across_halves)

  module _ (from : s.lo.y ≤ℤ m) (before : m <ℤ s.hi.y) where
    abbrev pub south : Block
    south = record { lo = s.lo; hi = record { x = s.hi.x; y = m }; inside = s.inside }

    abbrev pub north : Block
    north = record { lo = record { x = s.lo.x; y = m +ℤ pos 1 }; hi = s.hi; inside = s.inside }

    pub south_is : IsBlock south
    south_is = record { left = is.left; across = is.across; right = is.right; bottom = is.bottom; upwards = from; top = up_to s.lo.y s.hi.y m before is.top }

    pub north_is : IsBlock north
    north_is = record { left = is.left; across = is.across; right = is.right; bottom = next_from s.lo.y m _ is.bottom from; upwards = next_before m s.hi.y before; top = is.top }

    upwards_halves : AreHalves s south north
    upwards_halves = record {
      first = λ c. in_whole s.lo s.hi south.lo south.hi c (le_refl s.lo.x) (le_refl s.lo.y) (le_refl s.hi.x) (less m s.hi.y before);
      second = λ c. in_whole s.lo s.hi north.lo north.hi c (le_refl s.lo.x) (past s.lo.y m from) (le_refl s.hi.x) (le_refl s.hi.y);
      cover = λ q. upwards_covered s.lo s.hi q m;
      first_inside = refl;
      second_inside = refl;
      first_less = lower s.lo.y s.hi.y m (unsigned_abs (s.hi.x -ℤ s.lo.x)) from before;
      second_less = lower_after s.lo.y s.hi.y m (unsigned_abs (s.hi.x -ℤ s.lo.x)) from before;
    }

    -- with numbers that are equal to these
    pub upwards_parts : (m_is n x w : ℤ) → m_is ≡ m → n ≡ m +ℤ pos 1 → x ≡ s.hi.x → w ≡ s.lo.x
        → AreHalves s (record { lo = s.lo; hi = record { x = x; y = m_is }; inside = s.inside }) (record { lo = record { x = w; y = n }; hi = s.hi; inside = s.inside })
    upwards_parts m_is n x w is_m is_n is_x is_w =
        subst (λ b. AreHalves s b (record { lo = record { x = w; y = n }; hi = s.hi; inside = s.inside })) (λ i. record { lo = s.lo; hi = record { x = sym is_x i; y = sym is_m i }; inside = s.inside })
        (subst (λ b. AreHalves s south b) (λ i. record { lo = record { x = sym is_w i; y = sym is_n i }; hi = s.hi; inside = s.inside }) upwards_halves)
