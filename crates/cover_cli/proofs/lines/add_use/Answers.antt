-- The list of the use's member has one segment more, or there is none.
use Rattle.std.proofs.Common.{sym, arith}
use Rattle.cover_cli.proofs.Marking.{member_lists-push}
use Rattle.cover_cli.proofs.lines.add_use.Goals as goal

pub returns : goal.returns
returns c = λ uses members are. member_lists-push uses members _ c.args.edge c.index_mut-list.result.now _ (omega arith) (sym c.index_mut-list.ensures.value) c.in_ok-push.ensures.items are
