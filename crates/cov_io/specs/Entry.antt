-- Files by their names.
use Rattle.std.specs.Prelude.{◌≡◌, ℕ, List, [], ◌∷◌, Option, Some, None, Bool, true, ◌&&◌, is_none, if◌then◌else◌, slice_index_or, string_bytes, length}
use Rattle.std.specs.Str.{bytes_eq}
use Rattle.cov_io.specs.declared.shelf_file.ShelfFile.{ShelfFile}

-- a file: its name and the bytes that it holds
pub record Entry : Type 0 where
  pub name : List ℕ
  pub bytes : List ℕ

-- a file of a shelf as one
abbrev pub entry_of : ShelfFile → Entry
entry_of f = record { name = string_bytes f.name; bytes = f.bytes.items }

-- what the file of this name holds
abbrev pub held : List Entry → List ℕ → Option (List ℕ)
held [] name = None
held (e ∷ es) name = if bytes_eq e.name name then Some e.bytes else held es name

-- no two files have one name
abbrev pub are_distinct : List Entry → Bool
are_distinct [] = true
are_distinct (e ∷ es) = is_none (held es e.name) && are_distinct es

-- the file at this place, by default one without a name
abbrev pub entry_at : List Entry → ℕ → Entry
entry_at es i = slice_index_or es i (record { name = []; bytes = [] })

-- the files of a shelf, and how many bytes each can hold
pub record Stored : Type 0 where
  pub entries : List Entry
  pub room : ℕ

-- the same names stand at the same places, with the same room
pub record SameNames (old new : Stored) : Type 0 where
  pub count : length new.entries ≡ length old.entries
  pub names : (i : ℕ) → (entry_at new.entries i).name ≡ (entry_at old.entries i).name
  pub room : new.room ≡ old.room
