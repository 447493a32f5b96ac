use Rattle.std.proofs.Common.{◌≡◌, Some, length, map, ap, subst, arith, sym}
use Rattle.std.proofs.lemmas.List.{length-map}
use Rattle.cov_io.specs.Entry.{Stored, held, entry_of, entry_at}
use Rattle.cov_io.proofs.Entries.{held-at}
use Rattle.cov_io.proofs.Changes.{place-below}
use Rattle.cov_io.proofs.store.Store.free.Goals as goal

pub returns-clause-held : goal.returns-clause-held
returns-clause-held c =
    let files = c.self.inside.files.items in
    let under = place-below files c.args.self.now.entries c.args.i (ap (λ (s : Stored). s.entries) c.self.view_is) c.requires in
    let P : Stored → Type 0 = λ s. held s.entries (entry_at s.entries c.args.i).name ≡ Some (entry_at s.entries c.args.i).bytes in
    subst P c.self.view_is (held-at (map entry_of files) c.args.i (omega (arith, under, length-map files entry_of)) c.self.invariant.0)
