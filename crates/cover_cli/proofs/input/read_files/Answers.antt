-- The next file is read, or refused for its cause.
use Rattle.std.proofs.Common.{◌≡◌, ◌≤◌, ℕ, List, [], ◌∷◌, ◌++◌, length, map, take, Err, Bor, Vec, Global, ap, subst, ◌∙◌, arith}
use Rattle.std.proofs.lemmas.List.{length-map, length-append, get_or-map, map-append}
use Rattle.std.proofs.lemmas.List.Elements.{All-get_or, All-push}
use Rattle.std.proofs.lemmas.Result.{err_from_is_err_and}
use Rattle.cov_io.specs.Calls.{IsPromised}
use Rattle.cover_cli.proofs.Reading.{read_more, next_unread, next_promised, names_more}
use Rattle.geo_text.specs.declared.reader.TheConstants.{LONGEST_INPUT}
use Rattle.cover_cli.proofs.input.read_files.Goals as goal

pub returns-in_err-input-clause-cause : goal.returns-in_err-input-clause-cause
returns-in_err-input-clause-cause g c =
    let p = err_from_is_err_and c.from_residual.result c.from_residual.ensures.1 in
    let now : Bor (List ℕ) → List ℕ = λ n. n.now in
    let k = c.loop-name.name-index in
    let d : Bor (List ℕ) = record { ref_ptr = (0, 0); now = [] } in
    rw (p.1, p.2) (next_unread c.in_err-input.field-0.0 (map now c.args.names.now) (map now (take k c.args.names.now)) _ k [] _ _ _ _ c.loop-name.invariant.read
    (omega (arith, length-map c.args.names.now now)) (get_or-map now c.args.names.now k d [] c.loop-name-test.true)
    (λ h. c.in_err-input.ensures.too_long (ap Err h)) c.in_err-input.ensures.cause.counted)

pub returns-in_err-input-clause-promised : goal.returns-in_err-input-clause-promised
returns-in_err-input-clause-promised g c = λ all h.
    (let p = err_from_is_err_and c.from_residual.result c.from_residual.ensures.1 in
    let now : Bor (List ℕ) → List ℕ = λ n. n.now in
    let k = c.loop-name.name-index in
    let d : Bor (List ℕ) = record { ref_ptr = (0, 0); now = [] } in
    let Promised : List ℕ → Type 0 = λ name. IsPromised name (g.F.Files.state c.args.files.now) in
    next_promised c.in_err-input.field-0.0 _ _ _ _ _ (g.met.F.Files.telling c.args.files.now) c.loop-name.invariant.read (λ promised e. c.in_err-input.ensures.promised promised (ap Err e))
    (subst Promised (get_or-map now c.args.names.now k d [] c.loop-name-test.true) (All-get_or Promised (map now c.args.names.now) k [] (omega (arith, length-map c.args.names.now now)) all)) cc)

pub loop-name-preserved : goal.loop-name-preserved
loop-name-preserved g c =
    let now : Bor (List ℕ) → List ℕ = λ n. n.now in
    let items : Vec ℕ Global → List ℕ = λ i. i.items in
    let k = c.loop-name.name-index in
    let d : Bor (List ℕ) = record { ref_ptr = (0, 0); now = [] } in
    let inputs = c.loop-name.inputs.items in
    let pushed : c.push.new.self.items ≡ inputs ++ c.in_ok-input.input ∷ [] = c.in_ok-push.ensures.items in
    let slurped = c.in_ok-input.ensures in
    record {
      read = read_more _ _ _ _ _ _ _ _ _ c.loop-name.invariant.read (names_more c.args.names.now k d c.loop-name-test.true) (ap (map items) pushed ∙ map-append items inputs (c.in_ok-input.input ∷ []))
          slurped.all slurped.within slurped.cause.counted slurped.kept;
      count = omega (arith, ap length pushed, length-append inputs (c.in_ok-input.input ∷ []), c.loop-name.invariant.count);
      within = rw pushed (All-push (λ (i : Vec ℕ Global). length i.items ≤ LONGEST_INPUT) inputs c.in_ok-input.input c.loop-name.invariant.within slurped.within);
    }
