-- The line of a list that is not empty, piece by piece as it is written.
use Rattle.std.proofs.Common.{◌≡◌, ◌++◌, ◌<◌, ℕ, List, [], ◌∷◌, length, append_assoc, ap, ◌∙◌, arith, rules}
use Rattle.std.specs.Prelude.{codes, Option}
use Rattle.cov_types.specs.declared.coord.Coord.{Coord}
use Rattle.cov_types.specs.declared.seg.Seg.{Seg}
use Rattle.cov_write.specs.Written.{number_text, position_text, separated, segment_text, segments_line}

-- the pieces of the line of a list that is not empty, each appended to the one before
pub segments_line_appended : (scale : Option ℕ) (segs : List Seg) (before opened listed closed : List ℕ) → 0 < length segs → opened ≡ before ++ codes "MULTILINESTRING (" → listed ≡ opened ++ separated (segment_text scale) segs → closed ≡ listed ++ codes ")\n" → closed ≡ before ++ segments_line scale segs
segments_line_appended scale [] before opened listed closed some o l c = absurd (omega arith)
segments_line_appended scale (s ∷ segs) before opened listed closed some o l c = search (rules, append_assoc)

regroup : (before x y : List ℕ) → ((before ++ x) ++ codes " ") ++ y ≡ before ++ (x ++ codes " " ++ y)
regroup before x y = simp append_assoc

-- the pieces of a position
pub position_appended : (scale : Option ℕ) (p : Coord) (before one two three : List ℕ) → one ≡ before ++ number_text scale p.x → two ≡ one ++ codes " " → three ≡ two ++ number_text scale p.y → three ≡ before ++ position_text scale p
position_appended scale p before one two three x space y =
    y ∙ ap (λ xs. xs ++ number_text scale p.y) (space ∙ ap (λ xs. xs ++ codes " ") x) ∙ regroup before (number_text scale p.x) (number_text scale p.y)
