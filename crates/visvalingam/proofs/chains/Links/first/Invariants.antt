use Rattle.std.proofs.Common.{◌≡◌, ℕ, length, Option, Some, slice_get}
use Rattle.visvalingam.specs.Chains.{IsFirstLinks}
use Rattle.visvalingam.specs.declared.chains.Links.{Links}
use Rattle.visvalingam.proofs.chains.Links.first.Given as goal

abbrev pub invariant-loop-place : goal.invariant-loop-place
invariant-loop-place l = record {
  count : length l.links.items ≡ l.place;
  each : (k : ℕ) (o : Option Links) → slice_get l.links.items k ≡ Some o → (own : Links) × ((o ≡ Some own) × IsFirstLinks l.count k own);
}
