-- Labels that stand in one list.
use Rattle.std.specs.Prelude.{ℕ, ◌≤◌, List, All, length, map, slice_range}
use Rattle.owner_label.specs.declared.toggle.Span.{Span}

-- the part of the list at the span
abbrev pub at_span : List ℕ → Span → List ℕ
at_span members s = slice_range members s.from s.to

-- the label at each span
abbrev pub labels_at : List Span → List ℕ → List (List ℕ)
labels_at spans members = map (at_span members) spans

-- the span is in the list
pub record IsSpan (members : List ℕ) (s : Span) : Type 0 where
  pub rises : s.from ≤ s.to
  pub within : s.to ≤ length members

-- and so is each
abbrev pub AreSpans : List Span → List ℕ → Type 0
AreSpans spans members = All (IsSpan members) spans
