use Rattle.std.proofs.Common.{◌≡◌, ◌∙◌, refl, sym, ap, subst, ℕ, ◌+◌, ◌*◌, ◌<◌, Bool, false, length, List, Some, slice_get, replicate, arith, ◌++◌}
use Rattle.std.specs.Global.{Vec}
use Rattle.std.proofs.lemmas.List.{with_items_is, get_or_read, length-replicate}
use Rattle.std.proofs.lemmas.Option.{slice_get_read}
use Rattle.cov_types.specs.declared.seg.Seg.{Seg}
use Rattle.cov_build.specs.Boundaries.{boundary_edges}
use Rattle.cov_build.specs.Rings.{outside_of, AreRingsBack, AreClosedRings}
use Rattle.cov_build.specs.Walks.{is_visited, IsWalkFrom}
use Rattle.cov_build.specs.declared.polygon.RingList.{RingList}
use Rattle.cov_build.proofs.ClosedRings.{closed_none}
use Rattle.cov_build.proofs.Passed.{IsWalkedTo, walked_none, walked_same, walked_more, walked_all, some_ring, outside_within, none_marked}
use Rattle.cov_build.proofs.polygon.walked_rings.Goals.{then-not-index+in_ok-way+in_ok-add_ring, else-not-index}
use Rattle.cov_build.proofs.polygon.walked_rings.Goals as goal

pub loop-k-init : goal.loop-k-init
loop-k-init c =
    let seen = c.in_ok-seen.seen.items in
    let all : seen ≡ replicate c.len.result false = c.in_ok-seen.ensures.items_if_clones_equal (λ y is. is) in
    record {
      walked = walked_none c.args.boundary.now c.requires.boundary seen (ap length all ∙ length-replicate c.len.result false ∙ c.len.ensures.count ∙ ap (λ (es : List Seg). 2 * length es) c.requires.arena)
          (λ n. ap (λ xs. is_visited xs n) all ∙ none_marked c.len.result n) c.new.result.items c.new.ensures.items;
      closed = closed_none (boundary_edges c.args.boundary.now) 0 c.new.result.items c.new.ensures.items;
      shell = omega arith;
    }

pub loop-k-preserved : goal.loop-k-preserved
loop-k-preserved c =
    let boundary = c.args.boundary.now in
    let edges = boundary_edges boundary in
    let k = c.loop-k.k in
    let b = c.index-boundary-k.result in
    let seen = c.loop-k.seen.items in
    let start = c.outside-start.result in
    let within = c.loop-k-test.true in
    let at : slice_get boundary k ≡ Some b = slice_get_read boundary (length boundary) k b refl within c.index-boundary-k.is in
    let is_start : start ≡ outside_of k b.above = c.outside-start.ensures in
    let fits : start < length seen = (let far = outside_within boundary k b.above within in let long = c.loop-k.invariant.walked.flags.count in omega (arith, far, long, is_start)) in
    let read : c.index.result.now ≡ is_visited seen start = get_or_read seen start c.index.result.now fits c.index.ensures false in
    elim c.if-not-index.branch [
      | then-not-index+in_ok-way+in_ok-add_ring w ↦ (
          let way = w.in_ok-way.way.items in
          let after = w.walk.new.seen in
          let was : w.deref_mut.result.now ≡ seen = w.deref_mut.ensures.value in
          let size : length after ≡ length seen = w.walk.auto.seen ∙ ap (λ (xs : List Bool). length xs) was in
          let made : c.if-not-index.seen.items ≡ after = ap (λ (v : Vec Bool). v.items) w.seen-is ∙ with_items_is c.loop-k.seen after (size ∙ omega (arith, c.loop-k.seen.ok.0)) in
          let listed : c.if-not-index.rings.list.items ≡ w.add_ring.new.rings.list.items = ap (λ (r : RingList). r.list.items) w.rings-is in
          let walked : IsWalkFrom edges start seen way after = subst (λ (es : List Seg). IsWalkFrom es start seen way after) c.requires.arena
          (subst (λ xs. IsWalkFrom c.args.a.now start xs way after) was w.in_ok-way.ensures) in
          let more : (passed : List ℕ) → AreRingsBack edges passed c.loop-k.rings.list.items → AreRingsBack edges (passed ++ way) w.add_ring.new.rings.list.items =
          subst (λ (es : List Seg). (passed : List ℕ) → AreRingsBack es passed c.loop-k.rings.list.items → AreRingsBack es (passed ++ way) w.add_ring.new.rings.list.items) c.requires.arena w.in_ok-add_ring.ensures.rings in
          let closed : AreClosedRings edges w.add_ring.new.rings.shell w.add_ring.new.rings.list.items =
          subst (λ (es : List Seg). AreClosedRings es c.loop-k.rings.shell c.loop-k.rings.list.items → AreClosedRings es w.add_ring.new.rings.shell w.add_ring.new.rings.list.items) c.requires.arena w.in_ok-add_ring.ensures.closed
          c.loop-k.invariant.closed in
          record {
            walked = subst (λ xs. IsWalkedTo boundary (k + 1) xs c.if-not-index.rings.list.items) (sym made)
                (subst (IsWalkedTo boundary (k + 1) after) (sym listed) (walked_more boundary c.requires.boundary k b at seen c.loop-k.rings.list.items c.loop-k.invariant.walked start is_start way after walked w.add_ring.new.rings.list.items more));
            closed = subst (λ (r : RingList). AreClosedRings edges r.shell r.list.items) (sym w.rings-is) closed;
            shell = (let less = w.in_ok-add_ring.ensures.shell in let same_shell = ap (λ (r : RingList). r.shell) w.rings-is in let same_len = ap (λ (r : RingList). r.list.len) w.rings-is in omega (arith, less, same_shell, same_len));
          }
          )
      | else-not-index w ↦ (
          let same = ap (λ (v : Vec Bool). v.items) w.seen-is in
          let listed = ap (λ (r : RingList). r.list.items) w.rings-is in
          record {
            walked = subst (λ xs. IsWalkedTo boundary (k + 1) xs c.if-not-index.rings.list.items) (sym same)
                (subst (IsWalkedTo boundary (k + 1) seen) (sym listed) (walked_same boundary c.requires.boundary k b at seen c.loop-k.rings.list.items c.loop-k.invariant.walked
                (ap (is_visited seen) (sym is_start) ∙ sym read ∙ w.if-not-index.false)));
            closed = subst (λ (r : RingList). AreClosedRings edges r.shell r.list.items) (sym w.rings-is) c.loop-k.invariant.closed;
            shell = (let so_far = c.loop-k.invariant.shell in let same_shell = ap (λ (r : RingList). r.shell) w.rings-is in let same_len = ap (λ (r : RingList). r.list.len) w.rings-is in omega (arith, so_far, same_shell, same_len));
          }
          )
    ]

pub returns-clause-rings : goal.returns-clause-rings
returns-clause-rings c = walked_all c.args.boundary.now c.requires.boundary c.loop-k.k c.loop-k.seen.items c.loop-k.rings.list.items c.loop-k-test.false c.loop-k.invariant.walked

pub returns-clause-closed : goal.returns-clause-closed
returns-clause-closed c = c.loop-k.invariant.closed

pub returns-clause-shell : goal.returns-clause-shell
returns-clause-shell c =
    let some = some_ring c.args.boundary.now c.requires.boundary c.loop-k.rings.list.items (returns-clause-rings c) in
    omega (arith, some, c.loop-k.invariant.shell, c.loop-k.rings.list.ok.0)
