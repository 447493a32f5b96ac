use Rattle.std.proofs.Common.{ℕ, map, subst}
use Rattle.std.proofs.lemmas.List.{length-map}
use Rattle.std.specs.Prelude.{IfSome}
use Rattle.std.specs.Result.{IfOk}
use Rattle.std.specs.String.{string_bytes}
use Rattle.cover_words.specs.Named.{IsNamed, named as code_named}
use Rattle.cover_words.specs.Words.{IsWithinLimit, operation_of}
use Rattle.cover_words.proofs.Limits.{accepted_named, within_named}
use Rattle.cover_words.proofs.Takings.{first_names}
use Rattle.cover_words.proofs.words.operation_named.Goals as goal

pub returns-in-len1-up : goal.returns-in-len1-up
returns-in-len1-up c =
    let names = map (λ n. n.now) c.args.names.now in
    let words = map string_bytes c.args.words.now in
    let named : IfOk c.operation_by.result (IsNamed (operation_of names words)) =
    first_names names c.args.words.now c.word-item.result c.deref.result.now c.operation_by.result c.in-len1-up.len_at_least c.word-item.is c.deref.ensures c.operation_by.ensures in
    record {
      named = named;
      accepted = accepted_named names words c.operation_by.result named;
      within = subst (λ (rules : ℕ). IfOk c.operation_by.result (λ o. IfSome o (λ x. IsWithinLimit rules (code_named x)))) (length-map c.args.names.now (λ n. n.now))
          (within_named names words c.operation_by.result named);
    }
