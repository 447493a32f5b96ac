-- A file of a store gets other bytes.
use Rattle.std.proofs.Common.{◌≡◌, ◌≢◌, true, false, ℕ, ◌<◌, ◌≤◌, List, ◌++◌, map, set, length, get_or, Some, IsTrue, refl, sym, ◌∙◌, ap, subst, arith, length-set}
use Rattle.std.specs.Prelude.{string_bytes}
use Rattle.std.specs.Str.{bytes_eq}
use Rattle.std.proofs.lemmas.Slice.Eq.{bytes_eq-Decides}
use Rattle.std.proofs.lemmas.List.{length-map, map-set, get_or-map, get_or-set_same}
use Rattle.cov_io.specs.declared.shelf_file.ShelfFile.{ShelfFile}
use Rattle.cov_io.specs.Contents.{HoldsNow, Appends}
use Rattle.cov_io.specs.Entry.{Entry, Stored, held, are_distinct, entry_of, entry_at, SameNames}
use Rattle.cov_io.proofs.Entries.{held-at, held-set-other, distinct-set, names-set}

-- the file at this place gives way to one of its name
pub record IsChange (files : List ShelfFile) (i : ℕ) (old new : ShelfFile) : Type 0 where
  pub below : i < length files
  pub at : old ≡ get_or files i old
  pub name : string_bytes new.name ≡ string_bytes old.name

pub place-below : (files : List ShelfFile) (es : List Entry) (i : ℕ) → map entry_of files ≡ es → i < length es → i < length files
place-below files es i e below = omega (arith, ap length e, length-map files entry_of)

pub entry-of-at : (files : List ShelfFile) (i : ℕ) (old new : ShelfFile) → IsChange files i old new
    → entry_at (map entry_of files) i ≡ entry_of old
entry-of-at files i old new c = get_or-map entry_of files i old _ c.below ∙ ap entry_of (sym c.at)

pub same-at : (files : List ShelfFile) (i : ℕ) (old new : ShelfFile) → IsChange files i old new
    → (entry_of new).name ≡ (entry_at (map entry_of files) i).name
same-at files i old new c = c.name ∙ ap (λ e. e.name) (sym (entry-of-at files i old new c))

pub change-distinct : (files : List ShelfFile) (i : ℕ) (old new : ShelfFile) → IsChange files i old new
    → IsTrue (are_distinct (map entry_of files)) → IsTrue (are_distinct (map entry_of (set files i new)))
change-distinct files i old new c d =
    ap are_distinct (map-set entry_of files i new)
    ∙ (distinct-set (map entry_of files) i (entry_of new) (same-at files i old new c) ∙ d)

pub change-holds : (files : List ShelfFile) (i : ℕ) (old new : ShelfFile) → IsChange files i old new
    → IsTrue (are_distinct (map entry_of files))
    → HoldsNow (entry_at (map entry_of files) i).name new.bytes.items (held (map entry_of files)) (held (map entry_of (set files i new)))
change-holds files i old new c d =
    let es = map entry_of files in
    let same = same-at files i old new c in
    let is : map entry_of (set files i new) ≡ set es i (entry_of new) = map-set entry_of files i new in
    let under : i < length es = omega (arith, length-map files entry_of, c.below) in
    let there : entry_at (set es i (entry_of new)) i ≡ entry_of new = get_or-set_same es i (entry_of new) _ under in
    let within : i < length (set es i (entry_of new)) = omega (arith, length-set es i (entry_of new)) in
    let put = held-at (set es i (entry_of new)) i within (distinct-set es i (entry_of new) same ∙ d) in
    record {
      here = ap (λ l. held l (entry_at es i).name) is ∙ ap (held (set es i (entry_of new))) (sym same ∙ ap (λ e. e.name) (sym there))
          ∙ put ∙ ap (λ e. Some e.bytes) there;
      others = λ other ne. ap (λ l. held l other) is
          ∙ held-set-other es i (entry_of new) same other (λ q. ne (q ∙ same));
    }

pub change-appends : (files : List ShelfFile) (i : ℕ) (old new : ShelfFile) (piece : List ℕ) → IsChange files i old new
    → IsTrue (are_distinct (map entry_of files)) → new.bytes.items ≡ old.bytes.items ++ piece
    → Appends (entry_at (map entry_of files) i).name piece (held (map entry_of files)) (held (map entry_of (set files i new)))
change-appends files i old new piece c d put =
    let es = map entry_of files in
    let now = change-holds files i old new c d in
    let under : i < length es = omega (arith, length-map files entry_of, c.below) in
    let was : held es (entry_at es i).name ≡ Some old.bytes.items = held-at es i under d
    ∙ ap (λ e. Some e.bytes) (entry-of-at files i old new c) in
    record {
      here = λ bytes e. now.here ∙ ap Some put ∙ ap (λ l. Some (l ++ piece)) (let k : Some old.bytes.items ≡ Some bytes = sym was ∙ e in cc);
      others = now.others;
    }

pub change-names : (files : List ShelfFile) (i : ℕ) (old new : ShelfFile) (room : ℕ) → IsChange files i old new
    → SameNames (record { entries = map entry_of files; room = room }) (record { entries = map entry_of (set files i new); room = room })
change-names files i old new room c =
    let es = map entry_of files in
    let is : map entry_of (set files i new) ≡ set es i (entry_of new) = map-set entry_of files i new in
    record {
      count = ap length is ∙ length-set es i (entry_of new);
      names = λ j. ap (λ l. (entry_at l j).name) is ∙ names-set es i (entry_of new) (same-at files i old new c) j;
      room = refl;
    }

-- whether the name of the file at a place is this one
pub named-here : (files : List ShelfFile) (i : ℕ) (file : ShelfFile) (text name : List ℕ) → i < length files
    → file ≡ get_or files i file → text ≡ string_bytes file.name → bytes_eq text name ≡ true
    → (entry_at (map entry_of files) i).name ≡ name
named-here files i file text name under at is t =
    ap (λ e. e.name) (get_or-map entry_of files i file _ under ∙ ap entry_of (sym at))
    ∙ sym is ∙ (bytes_eq-Decides text name).0 t

pub named-else : (files : List ShelfFile) (i : ℕ) (file : ShelfFile) (text name : List ℕ) → i < length files
    → file ≡ get_or files i file → text ≡ string_bytes file.name → bytes_eq text name ≡ false
    → (entry_at (map entry_of files) i).name ≢ name
named-else files i file text name under at is f same =
    let e = ap (λ e. e.name) (get_or-map entry_of files i file _ under ∙ ap entry_of (sym at)) in
    let t = (bytes_eq-Decides text name).1 (is ∙ sym e ∙ same) in cc
