-- Frames of two calls, one after the other.
use Rattle.std.proofs.Common.{refl, ◌∙◌}
use Rattle.cov_io.specs.State.{State}
use Rattle.cov_io.specs.Frame.{TellsTheSame, KeepsOutput, KeepsInput}

pub tells-then : (a b c : State) → TellsTheSame a b → TellsTheSame b c → TellsTheSame a c
tells-then a b c p q = record {
  output = q.output ∙ p.output;
  left = q.left ∙ p.left;
  files = q.files ∙ p.files;
  room = q.room ∙ p.room;
  bytes = λ t. q.bytes (p.room ∙ t) ∙ p.bytes t;
}

pub output-then : (a b c : State) → KeepsOutput a b → KeepsOutput b c → KeepsOutput a c
output-then a b c p q = record {
  tells = tells-then a b c p.tells q.tells;
  faults = q.faults ∙ p.faults;
  present = q.present ∙ p.present;
  output = λ t. q.output (p.tells.output ∙ t) ∙ p.output t;
  files = λ t name. q.files (p.tells.files ∙ t) name ∙ p.files t name;
}

pub input-then : (a b c : State) → KeepsInput a b → KeepsInput b c → KeepsInput a c
input-then a b c p q = record {
  tells = tells-then a b c p.tells q.tells;
  faults = q.faults ∙ p.faults;
  present = q.present ∙ p.present;
}

pub input-stays : (a : State) → KeepsInput a a
input-stays a = record {
  tells = record { output = refl; left = refl; files = refl; room = refl; bytes = λ _. refl };
  faults = refl;
  present = refl;
}
