-- Taking the point between two neighbouring segments out of a list of uses.
use Rattle.std.specs.Prelude.{◌≡◌, ◌⊎◌, ℕ, cond, List, sum_by, Contains}
use Rattle.cov_types.specs.declared.edge_use.EdgeUse.{EdgeUse}
use Rattle.cov_types.specs.declared.seg.Seg.{Seg}
use Rattle.crossing_laws.specs.Across.{is_same_seg}
use Rattle.greedy_run.specs.Run.{Triangle}
use Rattle.removal_laws.specs.Ear.{AreThreeSides, HasFreeEnds}

-- the triangle is an ear of the uses: some use is of ab and some of bc, and each other is not ac and has free ends
pub record IsEar (t : Triangle) (ab bc ac : Seg) (uses : List EdgeUse) : Type 0 where
  pub sides : AreThreeSides t ab bc ac
  pub one : ℕ
  pub has_first : Contains uses (record { member = one; seg = ab })
  pub other : ℕ
  pub has_second : Contains uses (record { member = other; seg = bc })
  pub others : (u : EdgeUse) → Contains uses u → (u.seg ≡ ab) ⊎ ((u.seg ≡ bc) ⊎ HasFreeEnds t u.seg)

-- what a use adds to a sum once b is taken out: ab counts as ac of the same member, and bc as nothing
abbrev pub value_after : (ab bc ac : Seg) → (EdgeUse → ℕ) → EdgeUse → ℕ
value_after ab bc ac f u = cond (is_same_seg ab u.seg) (f (record { member = u.member; seg = ac })) (cond (is_same_seg bc u.seg) 0 (f u))

-- the new uses are the old ones without b: each sum over them is that over the old ones so
abbrev pub IsExchange : (ab bc ac : Seg) → (old new : List EdgeUse) → Type 0
IsExchange ab bc ac old new = (f : EdgeUse → ℕ) → sum_by f new ≡ sum_by (value_after ab bc ac f) old
