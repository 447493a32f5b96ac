-- The text of a formed coverage spells its geometries.
use Rattle.std.proofs.Common.{◌≡◌, ℕ, suc, ◌+◌, ◌^◌, ◌<◌, ◌≤◌, false, List, [], ◌∷◌, ◌++◌, length, length-append, Option, Some, None, ℤ, pos, negsuc, neg_ℤ, ◌≤ℤ◌, inl, inr, sym, refl, ap, subst, arith, append-nil, codes}
use Rattle.std.specs.List.{AllByRecursion}
use Rattle.std.specs.Fmt.{decimal}
use Rattle.std.proofs.lemmas.Int.{ints}
use Rattle.cov_types.specs.Range.{IsInRange}
use Rattle.cov_types.specs.declared.coord.Coord.{Coord}
use Rattle.cov_types.specs.declared.coord.TheConstants.{LIMIT}
use Rattle.geo_text.specs.Token.{Token, Word, Number, Close, Polygon, MultiPolygon, Empty, IsNumeral, is_alike, Spells}
use Rattle.geo_text.specs.Grammar.{position, ring, polygon_body, multi_body, element, file}
use Rattle.cov_write.specs.Written.{number_text, position_text, ring_text, polygon_text, member_line, coverage_text, separated, in_parentheses}
use Rattle.round_trip_laws.proofs.Lists.{all_append}
use Rattle.round_trip_laws.proofs.Spelling.{Writes, Written, IsFree, joined, white_written, token_written, others, bracketed_written}
use Rattle.round_trip_laws.proofs.Numbers.{IsSmall, number_at, number_is_numeral}
use Rattle.round_trip_laws.proofs.Tree.{position_at, ring_at, polygon_at, element_at, coverage_at}

-- ---- what is asked of the parts of a coverage

-- three points or more, in range
pub record IsGoodRing (points : List Coord) : Type 0 where
  pub long : 3 ≤ length points
  pub in_range : AllByRecursion IsInRange points

-- a good ring or more
pub record IsGoodPolygon (rings : List (List Coord)) : Type 0 where
  pub some_ring : 1 ≤ length rings
  pub rings_good : AllByRecursion IsGoodRing rings

abbrev pub IsGoodMember : List (List (List Coord)) → Type 0
IsGoodMember polys = AllByRecursion IsGoodPolygon polys

-- ---- the numbers of a point

pub x_small : (c : Coord) → IsInRange c → IsSmall c.x
x_small c h = record { low = h.left; high = h.right }

pub y_small : (c : Coord) → IsInRange c → IsSmall c.y
y_small c h = record { low = h.bottom; high = h.top }

module _ (scale : Option ℕ) where
  -- ---- numbers

  number_written : (at : ℕ) (p : Option Token) (z : ℤ) → IsFree p → IsSmall z → Writes at p (Number (number_at scale at z) ∷ []) (number_text scale z) (Some (Number (number_at scale at z)))
  number_written at p z free h = token_written at p (Number (number_at scale at z)) (number_text scale z) (free (Number (number_at scale at z))) (refl, number_is_numeral scale at z h)

  -- ---- positions, rings and polygons

  position_written : (at : ℕ) (p : Option Token) (c : Coord) → IsFree p → IsInRange c → Written at p (position (position_at scale at c)) (position_text scale c)
  position_written at p c free h =
      let n = length (number_text scale c.x) in
      let x = number_at scale at c.x in
      let y = number_at scale (at + n + 1) c.y in
      let spaced = joined at (at + n) p (Some (Number x)) None (Number x ∷ []) [] (number_text scale c.x) (codes " ") refl (number_written at p c.x free (x_small c h)) (white_written (at + n) (Some (Number x)) (codes " ") (refl, tt) (omega arith)) in
      let second = number_written (at + n + 1) None c.y (λ token. refl) (y_small c h) in
      record { last = Some (Number y); writes = joined at (at + n + 1) p None (Some (Number y)) (Number x ∷ []) (Number y ∷ []) (number_text scale c.x ++ codes " ") (number_text scale c.y) (omega (arith, length-append (number_text scale c.x) (codes " "))) spaced second }

  ring_written : (at : ℕ) (p : Option Token) (points : List Coord) → IsFree p → IsGoodRing points → Written at p (ring (ring_at scale at points)) (ring_text scale points)
  ring_written at p [] free h = absurd (omega (arith, h.long))
  ring_written at p (c ∷ cs) free h =
      record { last = Some Close; writes = bracketed_written (position_text scale) (position_at scale) position IsInRange position_written c (cs ++ c ∷ []) at p h.in_range.0 (all_append IsInRange cs (c ∷ []) h.in_range.1 (h.in_range.0, tt)) }

  polygon_written : (at : ℕ) (p : Option Token) (rings : List (List Coord)) → IsFree p → IsGoodPolygon rings → Written at p (polygon_body (polygon_at scale at rings)) (polygon_text scale rings)
  polygon_written at p [] free h = absurd (omega (arith, h.some_ring))
  polygon_written at p (r ∷ rs) free h =
      record { last = Some Close; writes = bracketed_written (ring_text scale) (ring_at scale) ring IsGoodRing ring_written r rs at p h.rings_good.0 h.rings_good.1 }

  -- ---- lines

  -- a word at the start of a line
  headed : (at next : ℕ) (token : Token) (word text : List ℕ) (tokens : List Token) → is_alike None token ≡ false → Writes at None (token ∷ []) word (Some token) → next ≡ at + suc (length word) → ((p : Option Token) → IsFree p → Written next p tokens text) → Writes at None (token ∷ tokens) ((word ++ codes " ") ++ (text ++ codes "\n")) None
  headed at next token word text tokens apart w place each =
      let body = each None (λ t. refl) in
      let line_end = white_written (next + length text) body.last (codes "\n") (refl, tt) (omega arith) in
      let ended = joined next (next + length text) None body.last None tokens [] text (codes "\n") refl body.writes line_end in
      let ended_too : Writes next None tokens (text ++ codes "\n") None = subst (λ (ts : List Token). Writes next None ts (text ++ codes "\n") None) (append-nil tokens) ended in
      let space = joined at (at + length word) None (Some token) None (token ∷ []) [] word (codes " ") refl w (white_written (at + length word) (Some token) (codes " ") (refl, tt) (omega arith)) in
      joined at next None None None (token ∷ []) tokens (word ++ codes " ") (text ++ codes "\n") (omega (arith, place, length-append word (codes " "))) space ended_too

  empty_written : (at : ℕ) (p : Option Token) → IsFree p → Written at p (polygon_body []) (codes "EMPTY")
  empty_written at p free = record { last = Some (Word Empty); writes = token_written at p (Word Empty) (codes "EMPTY") (free (Word Empty)) refl }

  line_written : (at : ℕ) (polys : List (List (List Coord))) → IsGoodMember polys → Writes at None (element (element_at scale at polys)) (member_line scale polys) None
  line_written at [] h = headed at (at + 8) (Word Polygon) (codes "POLYGON") (codes "EMPTY") (polygon_body []) refl (token_written at None (Word Polygon) (codes "POLYGON") refl refl) (omega arith) (empty_written (at + 8))
  line_written at (p ∷ []) h = headed at (at + 8) (Word Polygon) (codes "POLYGON") (polygon_text scale p) (polygon_body (polygon_at scale (at + 8) p)) refl (token_written at None (Word Polygon) (codes "POLYGON") refl refl) (omega arith) (λ q free. polygon_written (at + 8) q p free h.0)
  line_written at (p ∷ q ∷ ps) h =
      headed at (at + 13) (Word MultiPolygon) (codes "MULTIPOLYGON") (in_parentheses (separated (polygon_text scale) (p ∷ q ∷ ps))) (multi_body (polygon_at scale (at + 13 + 1) p ∷ others (polygon_text scale) (polygon_at scale) (at + 13 + 1 + length (polygon_text scale p)) (q ∷ ps))) refl
      (token_written at None (Word MultiPolygon) (codes "MULTIPOLYGON") refl refl) (omega arith)
      (λ previous free. record { last = Some Close; writes = bracketed_written (polygon_text scale) (polygon_at scale) polygon_body IsGoodPolygon polygon_written p (q ∷ ps) (at + 13) previous h.0 h.1 })

  pub coverage_spelled : (members : List (List (List (List Coord)))) (at : ℕ) → AllByRecursion IsGoodMember members → Spells at None (file (coverage_at scale at members)) (coverage_text scale members)
  coverage_spelled [] at h = tt
  coverage_spelled (m ∷ ms) at h = (line_written at m h.0).follows (file (coverage_at scale (at + length (member_line scale m)) ms)) (coverage_text scale ms) (coverage_spelled ms (at + length (member_line scale m)) h.1)
