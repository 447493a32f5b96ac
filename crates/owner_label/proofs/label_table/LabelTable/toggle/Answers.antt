use Rattle.std.proofs.Common.{◌<◌, length, arith}
use Rattle.owner_label.proofs.Tables.{labels-length, toggled_read}
use Rattle.owner_label.proofs.label_table.LabelTable.toggle.Goals as goal

pub returns : goal.returns
returns c =
    let neighbour = rw (← c.self.view_is) at c.requires.neighbour in
    let within : c.args.neighbour < length c.self.inside.spans.items = omega (arith, neighbour, labels-length c.self.inside.spans.items c.self.inside.members.items) in
    rw (← c.self.view_is) (toggled_read c.self.inside.spans.items c.self.inside.members.items c.args.number c.args.neighbour c.index.result.now within c.index.ensures _ c.append_toggled.new.list.items
    (record { from = c.len-from.result; to = c.len.result }) c.self.invariant c.in_ok-append_toggled.ensures.toggled (omega (arith, c.len-from.ensures)) (omega (arith, c.len.ensures)))
