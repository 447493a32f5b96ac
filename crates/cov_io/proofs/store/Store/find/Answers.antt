use Rattle.std.proofs.Common.{ℕ, List, map, length, ap, sym, subst, arith, slice_index_or, below_more, ◌≡◌, ◌≢◌, ◌<◌, ◌∙◌, vec_len, Some, None}
use Rattle.std.proofs.lemmas.List.{length-map}
use Rattle.cov_io.specs.Entry.{Stored, held, entry_of, entry_at}
use Rattle.cov_io.proofs.Entries.{held-at, held-none}
use Rattle.cov_io.proofs.Changes.{named-here, named-else}
use Rattle.cov_io.proofs.store.Store.find.Goals as goal

pub returns-then-eq-clause-found : goal.returns-then-eq-clause-found
returns-then-eq-clause-found c =
    let files = c.self.inside.files.items in
    let P : Stored → Type 0 = λ s. (c.loop-i.i < length s.entries) × ((entry_at s.entries c.loop-i.i).name ≡ c.args.name.now) in
    let under : c.loop-i.i < length files = omega (arith, c.self.inside.files.ok) in
    subst P c.self.view_is (
      omega (arith, under, length-map files entry_of),
      named-here files c.loop-i.i c.index.result.now c.as_str.result.now c.args.name.now under c.index.ensures c.as_str.ensures.value (sym c.eq.ensures ∙ c.if-eq.true),
    )

pub returns-then-eq-clause-held : goal.returns-then-eq-clause-held
returns-then-eq-clause-held c =
    let files = c.self.inside.files.items in
    let under : c.loop-i.i < length files = omega (arith, c.self.inside.files.ok) in
    let name = named-here files c.loop-i.i c.index.result.now c.as_str.result.now c.args.name.now under c.index.ensures c.as_str.ensures.value (sym c.eq.ensures ∙ c.if-eq.true) in
    let P : Stored → Type 0 = λ s. held s.entries c.args.name.now ≡ Some (entry_at s.entries c.loop-i.i).bytes in
    subst P c.self.view_is (ap (held (map entry_of files)) (sym name)
    ∙ held-at (map entry_of files) c.loop-i.i (omega (arith, under, length-map files entry_of)) c.self.invariant.0)

pub loop-i-preserved : goal.loop-i-preserved
loop-i-preserved c =
    let files = c.self.inside.files.items in
    let under : c.loop-i.i < length files = omega (arith, c.self.inside.files.ok) in
    let P : Stored → Type 0 = λ s. (entry_at s.entries c.loop-i.i).name ≢ c.args.name.now in
    below_more _ _ c.loop-i.invariant (subst P c.self.view_is
    (named-else files c.loop-i.i c.index.result.now c.as_str.result.now c.args.name.now under c.index.ensures c.as_str.ensures.value (sym c.eq.ensures ∙ c.if-eq.false)))

pub returns-clause-missing : goal.returns-clause-missing
returns-clause-missing c =
    let files = c.self.inside.files in
    let all : vec_len files ≡ length c.args.self.now.entries =
    omega (arith, files.ok, length-map files.items entry_of, ap (λ (s : Stored). length s.entries) c.self.view_is) in
    held-none c.args.self.now.entries c.args.name.now (λ k below. c.loop-i.invariant k (omega arith))
