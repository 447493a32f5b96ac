-- Properties, put together piece by piece.
use Rattle.std.proofs.Common.{◌≡◌, ℕ, ℤ, List, ◌++◌}
use Rattle.std.specs.Prelude.{codes}
use Rattle.std.specs.Fmt.{decimal, signed_decimal}
use Rattle.fault_text.specs.MapText.{members_text, overlap_properties, gap_properties}
use Rattle.json_write.proofs.Pieces.{piece_more, three_pieces}

-- five pieces, each appended to the one before
five_pieces : (before a b c d e first second third fourth fifth : List ℕ) → first ≡ before ++ a → second ≡ first ++ b → third ≡ second ++ c → fourth ≡ third ++ d → fifth ≡ fourth ++ e
    → fifth ≡ before ++ (a ++ b ++ c ++ d ++ e)
five_pieces before a b c d e first second third fourth fifth f s t u v =
    piece_more before (a ++ b ++ c ++ d) e fourth fifth (piece_more before (a ++ b ++ c) d third fourth (three_pieces before a b c first second third f s t) u) v

-- the properties of an overlap
pub overlap_appended : (members : List ℕ) (area2 : ℤ) (region : ℕ) (before first second third fourth fifth sixth last : List ℕ)
    → first ≡ before ++ codes "{\"kind\":\"overlap\",\"members\":" → second ≡ first ++ members_text members → third ≡ second ++ codes ",\"area2\":" → fourth ≡ third ++ signed_decimal area2
    → fifth ≡ fourth ++ codes ",\"region\":" → sixth ≡ fifth ++ decimal region → last ≡ sixth ++ codes "}" → last ≡ before ++ overlap_properties members area2 region
overlap_appended members area2 region before first second third fourth fifth sixth last e1 e2 e3 e4 e5 e6 e7 =
    let start = codes "{\"kind\":\"overlap\",\"members\":" ++ members_text members ++ codes ",\"area2\":" ++ signed_decimal area2 ++ codes ",\"region\":" in
    piece_more before (start ++ decimal region) (codes "}") sixth last
    (piece_more before start (decimal region) fifth sixth
    (five_pieces before (codes "{\"kind\":\"overlap\",\"members\":") (members_text members) (codes ",\"area2\":") (signed_decimal area2) (codes ",\"region\":") first second third fourth fifth e1 e2 e3 e4 e5) e6) e7

-- those of a gap
pub gap_appended : (area2 : ℤ) (clearance region : ℕ) (members : List ℕ) (before first second third fourth fifth sixth seventh eighth last : List ℕ)
    → first ≡ before ++ codes "{\"kind\":\"gap\",\"area2\":" → second ≡ first ++ signed_decimal area2 → third ≡ second ++ codes ",\"clearance\":" → fourth ≡ third ++ decimal clearance
    → fifth ≡ fourth ++ codes ",\"region\":" → sixth ≡ fifth ++ decimal region → seventh ≡ sixth ++ codes ",\"members\":" → eighth ≡ seventh ++ members_text members → last ≡ eighth ++ codes "}"
    → last ≡ before ++ gap_properties area2 clearance region members
gap_appended area2 clearance region members before first second third fourth fifth sixth seventh eighth last e1 e2 e3 e4 e5 e6 e7 e8 e9 =
    let start = codes "{\"kind\":\"gap\",\"area2\":" ++ signed_decimal area2 ++ codes ",\"clearance\":" ++ decimal clearance ++ codes ",\"region\":" in
    piece_more before (start ++ decimal region ++ codes ",\"members\":" ++ members_text members) (codes "}") eighth last
    (piece_more before (start ++ decimal region ++ codes ",\"members\":") (members_text members) seventh eighth
    (piece_more before (start ++ decimal region) (codes ",\"members\":") sixth seventh
    (piece_more before start (decimal region) fifth sixth
    (five_pieces before (codes "{\"kind\":\"gap\",\"area2\":") (signed_decimal area2) (codes ",\"clearance\":") (decimal clearance) (codes ",\"region\":") first second third fourth fifth e1 e2 e3 e4 e5) e6) e7) e8) e9
