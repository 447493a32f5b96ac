-- In a valid coverage a point off the segments has one holder.
use mathlib.Core.List.{[], ◌∷◌}
use Rattle.std.proofs.Common.{◌≡◌, refl, sym, ◌∙◌, ap, subst, ℕ, zero, suc, ◌%◌, ◌<◌, ◌==◌, ◌&&◌, ◌↔◌, Bool, true, false, cond, List, arith}
use Rattle.std.specs.Prelude.{All, Contains, Some, filter, slice_get, unwrap_or}
use Rattle.std.proofs.lemmas.Bool.{and_parts, false≢true}
use Rattle.std.proofs.lemmas.Bool.Decides.{Decides-eqb}
use Rattle.std.proofs.lemmas.List.Elements.{All-contains}
use Rattle.std.proofs.lemmas.Option.{none-some}
use Rattle.cov_types.specs.declared.edge_use.EdgeUse.{EdgeUse}
use Rattle.plane.specs.Joined.{IsOff}
use Rattle.plane.specs.Label.{numbers_below}
use Rattle.plane.specs.Parity.{member_holds}
use Rattle.plane.specs.Point.{Point}
use Rattle.plane.specs.Ray.{is_over}
use Rattle.plane.specs.Validity.{IsValid}
use Rattle.arrangement.specs.Noding.{segments}
use Rattle.arrangement.proofs.LiveOverlays.{number_below}
use Rattle.arrangement.proofs.OddUses.{some_passes}
use Rattle.greedy_run.specs.Sides.{holder}

some_is : (a b : ℕ) → Some a ≡ Some b → a ≡ b
some_is a b h = ap (λ o. unwrap_or o a) h

-- the first element that passes passes
first_passes : (test : ℕ → Bool) (xs : List ℕ) (i : ℕ) → slice_get (filter test xs) 0 ≡ Some i → test i ≡ true
first_passes test [] i h = absurd (none-some i h)
first_passes test (x ∷ xs) i h = by (first_passes test xs i) (test x) refl h
  where
    by : (slice_get (filter test xs) 0 ≡ Some i → test i ≡ true) → (b : Bool) → test x ≡ b → slice_get (cond b (x ∷ filter test xs) (filter test xs)) 0 ≡ Some i → test i ≡ true
    by later true is h = subst (λ n. test n ≡ true) (some_is x i h) is
    by later false is h = later h

-- where one passes there is a first that does
some_first : (test : ℕ → Bool) (xs : List ℕ) (i : ℕ) → Contains xs i → test i ≡ true → (j : ℕ) × (slice_get (filter test xs) 0 ≡ Some j)
some_first test [] i (k, within, is) passes = absurd (omega arith)
some_first test (x ∷ xs) i has passes = by (λ rest. some_first test xs i rest passes) (test x) refl has
  where
    by : (Contains xs i → (j : ℕ) × (slice_get (filter test xs) 0 ≡ Some j)) → (b : Bool) → test x ≡ b → Contains (x ∷ xs) i → (j : ℕ) × (slice_get (cond b (x ∷ filter test xs) (filter test xs)) 0 ≡ Some j)
    by later true it has = (x, refl)
    by later false it (zero, within, is) = absurd (false≢true (sym it ∙ ap test is ∙ passes))
    by later false it (suc k, within, is) = later (k, omega arith, is)

odd_from_test : (n : ℕ) → (n % 2 == 1) ≡ true → n % 2 ≡ 1
odd_from_test n h = (Decides-eqb (n % 2) 1).0 h

-- a member that holds a point has uses
pub below_members : (uses : List EdgeUse) (members : ℕ) → All (λ u. u.member < members) uses → (p : Point) (i : ℕ) → member_holds uses i p ≡ true → i < members
below_members uses members below p i holds =
    let found = some_passes (λ u. (u.member == i) && is_over u.seg p) uses (odd_from_test _ holds) in
    let same = (Decides-eqb (found.0).member i).0 (and_parts _ _ found.1.1).0 in
    let less = All-contains (λ u. u.member < members) uses found.0 below found.1.0 in
    omega arith

pub holder_is : (uses : List EdgeUse) → IsValid uses → (members : ℕ) → All (λ u. u.member < members) uses → (p : Point) → IsOff (segments uses) p
    → (i : ℕ) → (holder uses members p ≡ Some i) ↔ (member_holds uses i p ≡ true)
holder_is uses valid members below p off i = (
  first_passes (λ m. member_holds uses m p) (numbers_below members) i,
  λ holds. (
      let first = some_first (λ m. member_holds uses m p) (numbers_below members) i (number_below members i (below_members uses members below p i holds)) holds in
      let its = first_passes (λ m. member_holds uses m p) (numbers_below members) first.0 first.1 in
      first.1 ∙ ap Some (valid.apart p off first.0 i its holds)),
)
