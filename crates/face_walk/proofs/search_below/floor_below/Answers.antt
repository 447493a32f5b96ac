use Rattle.std.proofs.Common.{◌^◌, ◌-ℤ◌, refl, sym, length, negsuc, lit<, subst, IsTrue}
use Rattle.std.proofs.lemmas.Option.{slice_get_read, slice_get_within}
use mir.Syntax.{w32}
use Rattle.cov_types.specs.declared.seg.Seg.{Seg}
use Rattle.grid_pred.proofs.Sizes.{y_within}
use Rattle.grid_pred.proofs.Small.{read, minus_fits, minus_is}
use Rattle.plane.specs.Point.{at_coord}
use Rattle.region_laws.specs.Below.{is_under}
use Rattle.face_walk.specs.Boxes.{IsFloor}
use Rattle.face_walk.specs.Nearest.{IsCandidate}
use Rattle.face_walk.proofs.Nearer.{in_range_of}
use Rattle.face_walk.proofs.Searching.{floor_none, floor_some}
use Rattle.face_walk.proofs.Settling.{contains_at, one_at}
use Rattle.face_walk.proofs.search_below.floor_below.Goals as goal

pub rows_down-requires-clause-edge_in_range : goal.rows_down-requires-clause-edge_in_range
rows_down-requires-clause-edge_in_range c =
    let edges = c.args.edges.now in
    let (e, (at, under)) = subst (λ n. IsCandidate edges (at_coord c.args.p) n) c.in-Some.is c.requires.candidate in
    let at_place = slice_get_read edges (length edges) c.in-Some.place c.index-edges-place.result refl (slice_get_within edges c.in-Some.place e at) c.index-edges-place.is in
    in_range_of edges c.requires.planar c.index-edges-place.result (contains_at edges c.in-Some.place c.index-edges-place.result at_place)

pub rows_down-requires-clause-under : goal.rows_down-requires-clause-under
rows_down-requires-clause-under c =
    let edges = c.args.edges.now in
    let (e, (at, under)) = subst (λ n. IsCandidate edges (at_coord c.args.p) n) c.in-Some.is c.requires.candidate in
    let at_place = slice_get_read edges (length edges) c.in-Some.place c.index-edges-place.result refl (slice_get_within edges c.in-Some.place e at) c.index-edges-place.is in
    subst (λ (d : Seg). IsTrue (is_under d (at_coord c.args.p))) (one_at edges c.in-Some.place e c.index-edges-place.result at at_place) under

pub overflow_sub-result : goal.overflow_sub-result
overflow_sub-result c = minus_fits w32 c.args.p.y c.rows_down.result (2 ^ 28) (2 ^ 29) (lit< tt) (lit< tt) (y_within c.args.p c.requires.in_range) c.rows_down.ensures.small (lit< tt)

pub returns-in-Some : goal.returns-in-Some
returns-in-Some c =
    let edges = c.args.edges.now in
    let place = c.in-Some.place in
    let (e, (at, under)) = subst (λ n. IsCandidate edges (at_coord c.args.p) n) c.in-Some.is c.requires.candidate in
    let at_place = slice_get_read edges (length edges) place c.index-edges-place.result refl (slice_get_within edges place e at) c.index-edges-place.is in
    let row = minus_is w32 c.args.p.y c.rows_down.result (2 ^ 28) (2 ^ 29) (lit< tt) (lit< tt) (y_within c.args.p c.requires.in_range) c.rows_down.ensures.small (lit< tt) in
    let height = read w32 (read w32 c.args.p.y -ℤ read w32 c.rows_down.result) in
    subst (λ n. IsFloor edges (at_coord c.args.p) n height) (sym c.in-Some.is)
    (floor_some edges c.args.p place c.index-edges-place.result c.rows_down.result height c.requires.planar at_place c.rows_down.ensures.rows row)

pub returns-in-None : goal.returns-in-None
returns-in-None c =
    subst (λ n. IsFloor c.args.edges.now (at_coord c.args.p) n (negsuc 268435455)) (sym c.in-None.is) (floor_none c.args.edges.now c.args.p (negsuc 268435455) c.requires.planar refl)
