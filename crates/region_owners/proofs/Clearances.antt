-- A region has one clearance at most, and is narrow where that is passed.
use Rattle.std.proofs.Common.{◌≡◌, ◌↔◌, ℕ, ◌*◌, ◌<◌, ◌≤◌, zero, suc, List, inl, inr, pos, ◌*ℤ◌, ◌≤ℤ◌, arith}
use Rattle.std.proofs.lemmas.Bool.{cases_lt}
use Rattle.std.proofs.lemmas.Nat.{mul-le}
use Rattle.integer_laws.proofs.Compare.{le_trans}
use Rattle.integer_laws.proofs.Order.{le_mul}
use Rattle.integer_laws.proofs.Ring.{lin}
use Rattle.cov_types.specs.declared.seg.Seg.{Seg}
use Rattle.region_owners.specs.Gap.{HasRoomWithin, IsClearance, IsNarrow}

-- a lesser number has a lesser square
squares : (v w : ℕ) → v ≤ w → v * v ≤ w * w
squares v w h = mul-le v v w w h h

squares_times : (v w k : ℕ) → v ≤ w → (pos (v * v) *ℤ pos k) ≤ℤ (pos (w * w) *ℤ pos k)
squares_times v w k h =
    let s = squares v w h in
    let zero : pos 0 ≤ℤ pos k = omega (arith, lin) in
    let less : pos (v * v) ≤ℤ pos (w * w) = omega (arith, lin) in
    le_mul (pos k) zero less

-- room is room for less
room_for_less : (edges : List Seg) (r v w : ℕ) → v ≤ w → HasRoomWithin edges r w → HasRoomWithin edges r v
room_for_less edges r v w less h = record {
  at = h.at;
  within = h.within;
  room = λ e i p on. le_trans (squares_times v w (p.d * p.d) less) (h.room e i p on);
}

-- a clearance is not more than another
at_most : (edges : List Seg) (r v w : ℕ) → IsClearance edges r v → IsClearance edges r w → v ≤ w
at_most edges r zero w h k = omega arith
at_most edges r (suc v) w h k = k.greatest (suc v) (omega arith) (h.reached (omega arith))

pub clearance_unique : (edges : List Seg) (r v w : ℕ) → IsClearance edges r v → IsClearance edges r w → v ≡ w
clearance_unique edges r v w h k = let a = at_most edges r v w h k in let b = at_most edges r w v k h in omega arith

pub narrow_is : (edges : List Seg) (r c w : ℕ) → IsClearance edges r c → IsNarrow edges r w ↔ (c < w)
narrow_is edges r c w h = (there, back)
  where
    there : IsNarrow edges r w → c < w
    there narrow =
        elim (cases_lt c w) [
          | inl less ↦ less
          | inr more ↦ (let some = narrow.wide in absurd (narrow.no_room (room_for_less edges r w c more (h.reached (omega arith)))))
        ]

    back : c < w → IsNarrow edges r w
    back less = record { wide = omega arith; no_room = λ room. (let most = h.greatest w (omega arith) room in absurd (omega arith)) }
