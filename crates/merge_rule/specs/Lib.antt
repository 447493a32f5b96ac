pub mod RuleState
pub mod InTurn
