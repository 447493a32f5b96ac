-- The lines of a points file, one after the other.
use Rattle.std.proofs.Common.{◌≡◌, refl, sym, ◌∙◌, ap, subst, ℕ, ◌+◌, ◌<◌, ◌≤◌, ◌==◌, Bool, cond, List, [], ◌∷◌, ◌++◌, length, arith, inl, inr, append_assoc, append-nil, length-drop}
use Rattle.std.specs.Prelude.{Option, Some}
use Rattle.std.specs.List.{slice_split, position_or_len, before_first, after_first}
use Rattle.std.proofs.lemmas.Bool.{cases_lt, ne_eqb}
use Rattle.std.proofs.lemmas.List.{take_all, drop_all}
use Rattle.std.proofs.lemmas.List.Splits.{slice_split_first, slice_split_none}
use Rattle.std.proofs.lemmas.List.Sums.{fails_before_first}
use Rattle.cov_locate.specs.Points.{lines_of, without_empty_end, line_of, points_of, point_of, fault_from, fault_or, ArePoints}
use Rattle.cov_locate.specs.declared.line.Line.{Line}
use Rattle.cov_locate.specs.declared.points.PointsFault.{PointsFault}
use Rattle.cov_types.specs.declared.coord.Coord.{Coord}

-- line feed
abbrev is_feed : ℕ → Bool
is_feed b = b == 10

-- there is a first part
pub record HasFirst (bytes : List ℕ) : Type 0 where
  pub first : List ℕ
  pub others : List (List ℕ)
  pub is : slice_split is_feed bytes ≡ first ∷ others

all_one : (bytes : List ℕ) → length bytes ≤ position_or_len is_feed bytes → slice_split is_feed bytes ≡ bytes ∷ []
all_one bytes h = slice_split_none is_feed bytes (λ k d within. fails_before_first is_feed bytes k d (omega (arith, within, h)))

first_of : (bytes : List ℕ) → HasFirst bytes
first_of bytes =
    elim (cases_lt (position_or_len is_feed bytes) (length bytes)) [
      | inl h ↦ record { first = before_first is_feed bytes; others = slice_split is_feed (after_first is_feed bytes); is = slice_split_first is_feed bytes 0 h }
      | inr h ↦ record { first = bytes; others = []; is = all_one bytes h }
    ]

-- the first line, and the lines of the rest
split_lines : (rest : List ℕ) → (position_or_len is_feed rest < length rest) → lines_of rest ≡ before_first is_feed rest ∷ lines_of (after_first is_feed rest)
split_lines rest h =
    let more = first_of (after_first is_feed rest) in
    let line : List ℕ = before_first is_feed rest in
    ap without_empty_end (slice_split_first is_feed rest 0 h)
    ∙ ap (λ (parts : List (List ℕ)). without_empty_end (line ∷ parts)) more.is
    ∙ ap (λ (parts : List (List ℕ)). line ∷ without_empty_end parts) (sym more.is)

-- or nothing more
last_line : (rest : List ℕ) → 0 < length rest → length rest ≤ position_or_len is_feed rest → (lines_of rest ≡ before_first is_feed rest ∷ []) × (after_first is_feed rest ≡ [])
last_line rest some h = (
  ap without_empty_end (all_one rest h) ∙ ap (λ t. cond t [] (rest ∷ [])) (ne_eqb (length rest) 0 (λ e. omega (arith, some, e)))
      ∙ ap (λ l. l ∷ []) (sym (take_all (position_or_len is_feed rest) rest h)),
  drop_all (position_or_len is_feed rest + 1) rest (omega (arith, h)),
)

pub fault_step : (number : ℕ) (rest : List ℕ) → 0 < length rest → fault_from number (lines_of rest) ≡ fault_or number (line_of (before_first is_feed rest)) (fault_from (number + 1) (lines_of (after_first is_feed rest)))
fault_step number rest some =
    elim (cases_lt (position_or_len is_feed rest) (length rest)) [
      | inl h ↦ ap (fault_from number) (split_lines rest h)
      | inr h ↦
          let last = last_line rest some h in
          ap (fault_from number) last.0 ∙ ap (λ bytes. fault_or number (line_of (before_first is_feed rest)) (fault_from (number + 1) (lines_of bytes))) (sym last.1)
    ]

pub points_step : (rest : List ℕ) → 0 < length rest → points_of (lines_of rest) ≡ point_of (line_of (before_first is_feed rest)) ++ points_of (lines_of (after_first is_feed rest))
points_step rest some =
    elim (cases_lt (position_or_len is_feed rest) (length rest)) [
      | inl h ↦ ap points_of (split_lines rest h)
      | inr h ↦
          let last = last_line rest some h in
          ap points_of last.0 ∙ ap (λ bytes. point_of (line_of (before_first is_feed rest)) ++ points_of (lines_of bytes)) (sym last.1)
    ]

pub after_shorter : (rest : List ℕ) → 0 < length rest → length (after_first is_feed rest) < length rest
after_shorter rest some = omega (arith, some, length-drop (position_or_len is_feed rest + 1) rest)

-- what is read so far, with what the rest says, is what the file says
pub record IsReadTo (bytes rest : List ℕ) (number : ℕ) (points : List Coord) : Type 0 where
  pub points_are : points ++ points_of (lines_of rest) ≡ points_of (lines_of bytes)
  pub fault_is : fault_from number (lines_of rest) ≡ fault_from 0 (lines_of bytes)
  pub short : number + length rest ≤ length bytes

pub read_none : (bytes : List ℕ) (points : List Coord) → points ≡ [] → IsReadTo bytes bytes 0 points
read_none bytes points is = record { points_are = ap (λ ps. ps ++ points_of (lines_of bytes)) is; fault_is = refl; short = omega arith }

-- one line more without a fault
pub read_more : (bytes rest after : List ℕ) (number : ℕ) (points more : List Coord) (line : Line) → 0 < length rest → after ≡ after_first is_feed rest → line ≡ line_of (before_first is_feed rest)
    → ((found : Option PointsFault) → fault_or number line found ≡ found) → more ≡ points ++ point_of line → IsReadTo bytes rest number points → IsReadTo bytes after (number + 1) more
read_more bytes rest after number points more line some is line_is faultless pushed so_far =
    subst (λ (later : List ℕ). IsReadTo bytes later (number + 1) more) (sym is)
    (record {
      points_are =
          ap (λ ps. ps ++ points_of (lines_of (after_first is_feed rest))) (pushed ∙ ap (λ l. points ++ point_of l) line_is)
          ∙ append_assoc points (point_of (line_of (before_first is_feed rest))) (points_of (lines_of (after_first is_feed rest)))
          ∙ ap (λ ps. points ++ ps) (sym (points_step rest some)) ∙ so_far.points_are;
      fault_is =
          sym (faultless (fault_from (number + 1) (lines_of (after_first is_feed rest))))
          ∙ ap (λ l. fault_or number l (fault_from (number + 1) (lines_of (after_first is_feed rest)))) line_is ∙ sym (fault_step number rest some) ∙ so_far.fault_is;
      short = omega (arith, so_far.short, after_shorter rest some);
    })

-- a line with a fault
pub fault_found : (bytes rest : List ℕ) (number : ℕ) (points : List Coord) (line : Line) (f : PointsFault) → 0 < length rest → line ≡ line_of (before_first is_feed rest) → ((found : Option PointsFault) → fault_or number line found ≡ Some f)
    → IsReadTo bytes rest number points → fault_from 0 (lines_of bytes) ≡ Some f
fault_found bytes rest number points line f some line_is faulty so_far =
    sym so_far.fault_is ∙ fault_step number rest some ∙ ap (λ l. fault_or number l (fault_from (number + 1) (lines_of (after_first is_feed rest)))) (sym line_is)
    ∙ faulty (fault_from (number + 1) (lines_of (after_first is_feed rest)))

-- the end
pub read_all : (bytes rest : List ℕ) (number : ℕ) (points : List Coord) → length rest ≡ 0 → IsReadTo bytes rest number points → ArePoints bytes points
read_all bytes [] number points none so_far = record { faultless = sym so_far.fault_is; are = sym (append-nil points) ∙ so_far.points_are }
read_all bytes (b ∷ rest) number points none so_far = absurd (omega (arith, none))
