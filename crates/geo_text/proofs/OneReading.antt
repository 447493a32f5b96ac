-- A file has at most one reading at a scale: whatever the cap of sizes, the machine reads the same of it.
use Rattle.std.proofs.Common.{◌≡◌, ℕ, ◌+◌, ◌≤◌, List, [], ◌∷◌, flat_map, Option, ℤ, pos, negsuc, neg_ℤ, suc, unsigned_abs, sym, ap, ◌∙◌, arith}
use Rattle.std.specs.List.{AllByRecursion}
use Rattle.cov_types.specs.Coverage.{Members}
use Rattle.geo_text.specs.Token.{Numeral}
use Rattle.geo_text.specs.Decimal.{value}
use Rattle.geo_text.specs.Number.{Precision}
use Rattle.geo_text.specs.Grammar.{Geometry}
use Rattle.geo_text.specs.Reading.{elements, coverage, Reads}
use Rattle.geo_text.specs.Fault.{numbers}
use Rattle.geo_text.specs.Machine.{ParserState}
use Rattle.geo_text.proofs.Options.{some_equal}
use Rattle.geo_text.proofs.Limits.{limit, capped-small}
use Rattle.geo_text.proofs.Keeping.{read_value}
use Rattle.geo_text.proofs.Parsing.{end_of}
use Rattle.geo_text.proofs.Alive.{read_bytes-file}
use Rattle.geo_text.proofs.Rings.{alike_members}

limit_wide : (cap : ℕ) (z : ℤ) → unsigned_abs z ≤ cap → limit cap z ≡ z
limit_wide cap (pos n) h = ap pos (capped-small cap n h)
limit_wide cap (negsuc n) h = ap (λ k. neg_ℤ (pos k)) (capped-small cap (suc n) h)

module _ (scale : Option ℕ) where
  -- a cap that no value passes
  abbrev sizes : List Numeral → ℕ
  sizes [] = 0
  sizes (n ∷ ns) = unsigned_abs (value scale n) + sizes ns

  abbrev up_to : ℕ → Precision
  up_to cap = record { scale = scale; cap = cap }

  read_true : (ns : List Numeral) (cap : ℕ) → sizes ns ≤ cap → AllByRecursion (λ n. read_value (up_to cap) n ≡ value scale n) ns
  read_true [] cap h = tt
  read_true (n ∷ ns) cap h = (limit_wide cap (value scale n) (omega arith), read_true ns cap (omega arith))

  members_read : (cap : ℕ) (gs : List Geometry) → sizes (numbers gs) ≤ cap → (end_of (up_to cap) gs).kept.members ≡ coverage scale gs
  members_read cap gs h = alike_members (read_value (up_to cap)) (value scale) (flat_map elements gs) (read_true (numbers gs) cap h)

  pub one_reading : (bytes : List ℕ) (c d : Members) → Reads scale bytes c → Reads scale bytes d → c ≡ d
  one_reading bytes c d (gs, is_file, c_is) (hs, is_file_too, d_is) =
      let cap = sizes (numbers gs) + sizes (numbers hs) in
      let same : end_of (up_to cap) gs ≡ end_of (up_to cap) hs = some_equal (end_of (up_to cap) gs) (end_of (up_to cap) hs) (sym (read_bytes-file (up_to cap) bytes gs is_file) ∙ read_bytes-file (up_to cap) bytes hs is_file_too) in
      c_is ∙ sym (members_read cap gs (omega arith)) ∙ ap (λ (s : ParserState). s.kept.members) same ∙ members_read cap hs (omega arith) ∙ sym d_is
