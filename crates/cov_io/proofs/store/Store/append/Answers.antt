use Rattle.std.proofs.Common.{◌≡◌, ℕ, List, map, set, length, refl, sym, ap, subst, ◌≤◌, ◌<◌, ◌∙◌, arith, vec_capacity, ◌++◌}
use Rattle.std.proofs.lemmas.List.Elements.{All-set}
use Rattle.cov_io.specs.declared.shelf_file.ShelfFile.{ShelfFile}
use Rattle.cov_io.specs.Contents.{HoldsNow, Appends}
use Rattle.cov_io.specs.Entry.{Stored, held, entry_of, entry_at, SameNames}
use Rattle.cov_io.proofs.Changes.{IsChange, place-below, change-distinct, change-holds, change-appends, change-names}
use Rattle.cov_io.proofs.store.Store.append.Goals as goal

pub invariant_of-self : goal.invariant_of-self
invariant_of-self c =
    let files = c.self.inside.files.items in
    let under : c.args.i < length files = place-below files c.args.self.now.entries c.args.i (ap (λ (s : Stored). s.entries) c.self.view_is) c.requires.at in
    let change : IsChange files c.args.i c.index_mut.result.now (record { name = c.index_mut.result.now.name; bytes = c.extend_from_slice.new.self })
    = record { below = under; at = c.index_mut.ensures.value; name = refl } in
    let capacity : c.self.inside.room ≤ vec_capacity c.extend_from_slice.new.self = omega (
      arith,
      c.self.invariant.1 c.args.i c.index_mut.result.now under,
      ap (λ (f : ShelfFile). vec_capacity f.bytes) c.index_mut.ensures.value,
      c.extend_from_slice.ensures.capacity,
    ) in (
      change-distinct _ _ _ _ change c.self.invariant.0,
      All-set (λ f. c.self.inside.room ≤ vec_capacity f.bytes) files c.args.i _ capacity c.self.invariant.1,
    )

pub returns-clause-names : goal.returns-clause-names
returns-clause-names c =
    let files = c.self.inside.files.items in
    let new : ShelfFile = record { name = c.index_mut.result.now.name; bytes = c.extend_from_slice.new.self } in
    let under : c.args.i < length files = place-below files c.args.self.now.entries c.args.i (ap (λ (s : Stored). s.entries) c.self.view_is) c.requires.at in
    let change : IsChange files c.args.i c.index_mut.result.now new
    = record { below = under; at = c.index_mut.ensures.value; name = refl } in
    let P : Stored → Type 0 = λ s. SameNames s (record { entries = map entry_of (set files c.args.i new); room = c.self.inside.room }) in
    subst P c.self.view_is (change-names _ _ _ _ c.self.inside.room change)

pub returns-clause-appended : goal.returns-clause-appended
returns-clause-appended c =
    let files = c.self.inside.files.items in
    let new : ShelfFile = record { name = c.index_mut.result.now.name; bytes = c.extend_from_slice.new.self } in
    let under : c.args.i < length files = place-below files c.args.self.now.entries c.args.i (ap (λ (s : Stored). s.entries) c.self.view_is) c.requires.at in
    let change : IsChange files c.args.i c.index_mut.result.now new
    = record { below = under; at = c.index_mut.ensures.value; name = refl } in
    let put : c.extend_from_slice.new.self.items ≡ c.index_mut.result.now.bytes.items ++ c.args.piece.now = grind arith in
    let P : Stored → Type 0 = λ s. Appends (entry_at s.entries c.args.i).name c.args.piece.now (held s.entries) (held (map entry_of (set files c.args.i new))) in
    subst P c.self.view_is (change-appends _ _ _ _ c.args.piece.now change c.self.invariant.0 put)
