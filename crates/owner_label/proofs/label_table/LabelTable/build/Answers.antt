use Rattle.owner_label.proofs.Tables.{empty_table}
use Rattle.owner_label.proofs.label_table.LabelTable.build.Goals as goal

pub returns : goal.returns
returns c = empty_table _ _ _ _ (c.in_ok-spans.ensures.items_if_clones_equal (λ y is. is)) c.new.ensures.items
