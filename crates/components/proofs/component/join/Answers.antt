use Rattle.std.proofs.Common.{sym, ◌∙◌, ◌<◌, length, arith}
use Rattle.components.proofs.Ways.{connected-sym, connected-trans}
use Rattle.components.proofs.Down.{connected-set, bottom-set}
use Rattle.components.proofs.component.join.Goals as goal

pub returns-then-first-second-clause-kept : goal.returns-then-first-second-clause-kept
returns-then-first-second-clause-kept c =
    let lower = c.bottom-second.new.lower in
    let within : c.bottom-second.result < length lower = omega arith in
    λ number kept.
    let (rest, same) = bottom-set lower c.bottom-second.result c.bottom-first.result within c.bottom-second.ensures.bottom number kept in
    let (first, y_same) = c.bottom-second.ensures.kept number rest in
    let (before, x_same) = c.bottom-first.ensures.kept number first in
    (before, x_same ∙ sym same ∙ sym y_same)

pub returns-else-first-second-clause-kept : goal.returns-else-first-second-clause-kept
returns-else-first-second-clause-kept c =
    let lower = c.bottom-second.new.lower in
    let within : c.bottom-first.result < length lower = omega arith in
    λ number kept.
    let (rest, same) = bottom-set lower c.bottom-first.result c.bottom-second.result within (c.bottom-second.ensures.others c.bottom-first.result c.bottom-first.ensures.bottom) number kept in
    let (first, y_same) = c.bottom-second.ensures.kept number rest in
    let (before, x_same) = c.bottom-first.ensures.kept number first in
    (before, x_same ∙ same ∙ sym y_same)

pub returns-then-first-second-clause-connected : goal.returns-then-first-second-clause-connected
returns-then-first-second-clause-connected c =
    let lower = c.bottom-second.new.lower in
    let within : c.bottom-second.result < length lower = omega arith in
    λ links tied all.
    let (mid, x_way) = c.bottom-first.ensures.connected links all in
    let (rest, y_way) = c.bottom-second.ensures.connected links mid in
    let back = connected-trans links c.bottom-second.result c.args.y c.args.x (connected-sym links c.args.y c.bottom-second.result y_way) (connected-sym links c.args.x c.args.y tied) in
    connected-set lower c.bottom-second.result c.bottom-first.result within links (connected-trans links c.bottom-second.result c.args.x c.bottom-first.result back x_way) rest

pub returns-else-first-second-clause-connected : goal.returns-else-first-second-clause-connected
returns-else-first-second-clause-connected c =
    let lower = c.bottom-second.new.lower in
    let within : c.bottom-first.result < length lower = omega arith in
    λ links tied all.
    let (mid, x_way) = c.bottom-first.ensures.connected links all in
    let (rest, y_way) = c.bottom-second.ensures.connected links mid in
    let back = connected-trans links c.bottom-first.result c.args.x c.args.y (connected-sym links c.args.x c.bottom-first.result x_way) tied in
    connected-set lower c.bottom-first.result c.bottom-second.result within links (connected-trans links c.bottom-first.result c.args.y c.bottom-second.result back y_way) rest
