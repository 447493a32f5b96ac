-- The rows of places, one more at a time.
use Rattle.std.proofs.Common.{◌≡◌, sym, ◌∙◌, ap, ℕ, ◌<◌, ◌+◌, ◌≤◌, List, [], ◌∷◌, ◌++◌, length, take, get_or, append-nil}
use Rattle.std.specs.List.{AllZip}
use Rattle.std.specs.Prelude.{flat_map}
use Rattle.std.proofs.lemmas.Grind.{flat_map-append}
use Rattle.std.proofs.lemmas.List.{take_all, take_more}
use Rattle.cov_locate.specs.Where.{IsWhere}
use Rattle.cov_locate.specs.declared.place.Where.{Where}
use Rattle.cov_types.specs.declared.coord.Coord.{Coord}
use Rattle.cov_types.specs.declared.edge_use.EdgeUse.{EdgeUse}
use Rattle.cover_cli.specs.Locate.{place_row, ArePlaceRows}

-- the row of one place more
pub row_more : (places : List Where) (k : ℕ) (place : Where) (before after : List ℕ) → k < length places → place ≡ get_or places k place → before ≡ flat_map place_row (take k places) → after ≡ before ++ place_row place
    → after ≡ flat_map place_row (take (k + 1) places)
row_more places k place before after within at so_far appended =
    appended
    ∙ (λ i. so_far i ++ sym (append-nil (place_row place)) i)
    ∙ sym (flat_map-append place_row (take k places) (place ∷ []))
    ∙ ap (λ (w : Where). flat_map place_row (take k places ++ w ∷ [])) at
    ∙ sym (ap (flat_map place_row) (take_more places k place within))

-- all places have their rows
pub all_rows : (places : List Where) (k : ℕ) (text : List ℕ) → length places ≤ k → text ≡ flat_map place_row (take k places) → text ≡ flat_map place_row places
all_rows places k text past rows = rows ∙ ap (flat_map place_row) (take_all k places past)

-- which are the rows of the points that lie there
pub rows_of_points : (uses : List EdgeUse) (points : List Coord) (places : List Where) (text : List ℕ) → AllZip (IsWhere uses) points places → text ≡ flat_map place_row places → ArePlaceRows uses points text
rows_of_points uses points places text each rows = record { places = places; each = each; rows = rows }
