-- The text has the lists of the marked uses.
use Rattle.std.proofs.Common.{◌≡◌, ◌∙◌, ap, sym, length, arith}
use Rattle.cov_types.specs.Uses.{uses_of}
use Rattle.cov_write.specs.Written.{lines_text}
use Rattle.cover_cli.proofs.Listing.{member_lists_are, lists_moved}
use Rattle.cover_cli.specs.Lines.{marked_uses, AreMemberLists}
use Rattle.cover_cli.specs.Validate.{marking}
use Rattle.cover_cli.proofs.validate.validation.Goals as goal

pub returns : goal.returns
returns c =
    let uses : c.deref.result.now ≡ uses_of c.args.c.now = c.deref.ensures.value ∙ c.in_ok-uses.ensures.exact in
    let marked : c.deref-3.result.now ≡ marked_uses (uses_of c.args.c.now) c.in_ok-marks.marks.items =
    c.deref-3.ensures.value ∙ c.in_ok-marked.ensures ∙ (λ i. marked_uses (uses i) (c.deref-2.ensures.value i)) in
    let count : c.len.result ≡ length c.args.c.now = omega (arith, ap length c.c.view_is) in
    let lists : AreMemberLists (marked_uses (uses_of c.args.c.now) c.in_ok-marks.marks.items) (length c.args.c.now) c.deref-4.result.now =
    lists_moved _ _ _ _ _ _ marked count (sym c.deref-4.ensures.value) c.in_ok-lists.ensures in
    record {
      marks = c.in_ok-marks.marks.items;
      marked = c.in_ok-marks.ensures.exact;
      counted = c.outcome_of-outcome.ensures ∙ ap marking (omega arith);
      lines = c.in_ok-text.ensures ∙ ap (lines_text c.args.scale) (member_lists_are (marked_uses (uses_of c.args.c.now) c.in_ok-marks.marks.items) c.args.c.now c.deref-4.result.now lists);
    }
