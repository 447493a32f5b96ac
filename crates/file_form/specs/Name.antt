-- The form that the name of a file says.
use Rattle.std.specs.Prelude.{ℕ, Bool, ◌||◌, nat_eq, List, codes}
use Rattle.std.specs.List.{ends_with}

-- a file of this name is GeoJSON: the name ends in `.json` or `.geojson`, in these letters; every other file is text
abbrev pub is_json : List ℕ → Bool
is_json name = ends_with nat_eq name (codes ".json") || ends_with nat_eq name (codes ".geojson")
