-- What the inputs hold, and what they do not hold then.
use Rattle.std.proofs.Common.{◌≡◌, ℕ, ◌≤◌, ◌<◌, List, [], ◌∷◌, length, Some, refl, sym, subst, ◌∙◌, arith, zero, suc}
use Rattle.std.specs.Prelude.{Any}
use Rattle.cov_io.specs.Calls.{IsPromised}
use Rattle.cov_io.specs.Frame.{KeepsOutput}
use Rattle.cov_io.specs.State.{State, IsTelling}
use Rattle.cover_cli.specs.Input.{Holds, HoldsTooMuch, AreInputs}
use Rattle.geo_text.specs.declared.reader.TheConstants.{LONGEST_INPUT}

-- a file holds the same bytes always
one_content : (b c : List ℕ) → Some b ≡ Some c → b ≡ c
one_content b c h = cc

-- the files of these names hold one list of inputs
pub same_inputs : (s : State) (names inputs others : List (List ℕ)) → AreInputs s names inputs → AreInputs s names others → inputs ≡ others
same_inputs s [] [] [] are more = refl
same_inputs s [] [] (o ∷ os) are more = absurd more
same_inputs s [] (i ∷ is) others are more = absurd are
same_inputs s (n ∷ ns) [] others are more = absurd are
same_inputs s (n ∷ ns) (i ∷ is) [] are more = absurd more
same_inputs s (n ∷ ns) (i ∷ is) (o ∷ os) are more =
    let first : i ≡ o = one_content i o (sym are.0.file ∙ more.0.file) in
    λ j. first j ∷ same_inputs s ns is os are.1 more.1 j

-- a file that is an input is not too long
not_too_long : (s : State) (name input : List ℕ) → Holds s name input → HoldsTooMuch s name → ⊥
not_too_long s name input holds long =
    let same : long.bytes ≡ input = one_content long.bytes input (sym long.file ∙ holds.file) in
    let longer : LONGEST_INPUT < length input = subst (λ (b : List ℕ). LONGEST_INPUT < length b) same long.longer in
    let within : length input ≤ LONGEST_INPUT = holds.within in
    omega arith

pub none_too_long : (s : State) (names inputs : List (List ℕ)) → AreInputs s names inputs → Any (HoldsTooMuch s) names → ⊥
none_too_long s [] inputs are (k, x, within, at, long) = absurd (omega arith)
none_too_long s (n ∷ ns) [] are any = absurd are
none_too_long s (n ∷ ns) (i ∷ is) are (zero, x, within, at, long) = not_too_long s n i are.0 (subst (HoldsTooMuch s) (sym at) long)
none_too_long s (n ∷ ns) (i ∷ is) are (suc k, x, within, at, long) = none_too_long s ns is are.1 (k, x, omega arith, at, long)

-- a room that is told before the inputs are read is told after it, and a file has its name still
pub promised_after : (name : List ℕ) (old mid : State) → IsTelling old → KeepsOutput old mid → IsPromised name old → IsPromised name mid
promised_after name old mid telling kept p = record {
  room = kept.tells.room ∙ p.room;
  held = p.held;
  file = kept.files (telling.files p.room) name ∙ p.file;
}
