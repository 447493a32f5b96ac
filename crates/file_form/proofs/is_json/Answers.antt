-- The name ends in the second suffix, and not in the first.
use Rattle.std.proofs.Common.{◌∙◌, ◌||◌, Bool, List, ℕ, ap, sym, codes, eqb}
use Rattle.std.specs.List.{ends_with}
use Rattle.std.proofs.lemmas.Str.Pattern.{ends_text}
use Rattle.file_form.proofs.is_json.Goals as goal

pub returns-else-ends_with : goal.returns-else-ends_with
returns-else-ends_with c =
    let name : List ℕ = c.args.name.now in
    let first = ends_text c.ends_with.result (codes ".json") name c.ends_with.ensures.cases in
    let second = ends_text c.ends_with-else-ends_with.result (codes ".geojson") name c.ends_with-else-ends_with.ensures.cases in
    second ∙ sym (ap (λ (b : Bool). b || ends_with eqb name (codes ".geojson")) (sym first ∙ c.if-ends_with.false))
