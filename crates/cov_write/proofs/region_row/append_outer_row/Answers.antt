use Rattle.std.proofs.Common.{◌≡◌, ◌++◌, ℕ, List, append_assoc, ap, ◌∙◌, sym}
use Rattle.std.specs.Prelude.{codes}
use Rattle.std.specs.Fmt.{decimal}
use Rattle.cov_write.specs.Rows.{outer_row}
use Rattle.cov_write.proofs.region_row.append_outer_row.Goals as goal

-- the number, and then the rest of the row
row_is : (number : List ℕ) → number ++ codes " " ++ codes "outer" ++ codes " " ++ codes "-" ++ codes " " ++ codes "-" ++ codes " " ++ codes "-" ++ codes "\n" ≡ number ++ codes " outer - - -\n"
row_is number = simp append_assoc

row_appended : (number : ℕ) (before numbered after : List ℕ) → numbered ≡ before ++ decimal number → after ≡ numbered ++ codes " outer - - -\n" → after ≡ before ++ outer_row number
row_appended number before numbered after n a =
    a ∙ ap (λ (xs : List ℕ). xs ++ codes " outer - - -\n") n ∙ append_assoc before (decimal number) (codes " outer - - -\n") ∙ ap (λ (xs : List ℕ). before ++ xs) (sym (row_is (decimal number)))

pub returns : goal.returns
returns c = row_appended c.args.number _ _ _ c.in_ok-append_number.ensures c.in_ok-extend_from_slice.ensures.items
