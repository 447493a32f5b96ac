-- The files that a case begins with.
use Rattle.std.specs.Prelude.{ℕ, List, [], ◌∷◌, None, codes}
use Rattle.cov_io.specs.declared.fail.Fail.{Fail}
use Rattle.cov_io.specs.Entry.{Entry}
use Rattle.cov_io.specs.Shelf.{Shelved}

-- `in` with the input, and `out`, which was written before
abbrev pub files_of : List ℕ → List Entry
files_of input = record { name = codes "in"; bytes = input } ∷ record { name = codes "out"; bytes = codes "as it was\n" } ∷ []

-- a shelf of the two files, on which nothing was called yet
abbrev pub shelf_of : List ℕ → List Fail → ℕ → ℕ → Shelved
shelf_of input fails piece room = record {
  stored = record { entries = files_of input; room = room };
  planned = record { fails = fails; opened = 0; read = 0; created = 0; written = 0; closed = 0 };
  piece = piece;
  read_faults = 0;
  write_faults = 0;
  left = None;
  output = None;
}
