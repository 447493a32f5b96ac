use Rattle.cover_cli.proofs.CallerRules.{caller_rules}
use Rattle.cover_cli.proofs.laws.caller_rules_law.Goals as goal

pub returns : goal.returns
returns c = caller_rules
