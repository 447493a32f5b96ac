use Rattle.std.proofs.Common.{sym, subst, arith}
use Rattle.fault_map.specs.Polygon.{IsInner}
use Rattle.fault_map.proofs.Pieces.{AreDone, none_done, all_done, one_more_done, all_in_piece, piece_ascends}
use Rattle.fault_map.proofs.polygons.region_polygons.Goals as goal

pub piece-init : goal.piece-init
piece-init c = subst (AreDone c.args.a.now c.args.listed.now) (sym c.new-found.ensures.items) (none_done c.args.a.now c.args.listed.now)

pub append_polygons-requires-clause-inner : goal.append_polygons-requires-clause-inner
append_polygons-requires-clause-inner c =
    all_in_piece c.args.listed.now c.piece_from-piece.result.now c.len-in-piece.result c.piece_from-piece.ensures.within c.piece_from-piece.ensures.piece (IsInner c.args.a.now) c.requires.inner

pub append_polygons-requires-clause-ascending : goal.append_polygons-requires-clause-ascending
append_polygons-requires-clause-ascending c =
    piece_ascends c.args.listed.now c.piece_from-piece.result.now c.len-in-piece.result c.piece_from-piece.ensures.within c.piece_from-piece.ensures.piece c.requires.ascending

pub piece-preserved : goal.piece-preserved
piece-preserved c =
    let more = c.in_ok-append_polygons.ensures in
    one_more_done c.args.listed.now c.piece_from-piece.result.now c.len-in-piece.result c.piece_from-piece.ensures.within c.piece_from-piece.ensures.piece c.args.a.now c.piece.found.items more.0 c.append_polygons.new.found.items
    (omega (arith, c.len-in-piece.ensures, c.piece.found.ok.0)) c.piece.invariant more.1.0 more.1.1

pub returns : goal.returns
returns c = all_done c.args.a.now c.args.listed.now c.piece.found.items (omega (arith, c.piece-test.false, c.len.ensures, c.piece.found.ok.0)) c.piece.invariant
