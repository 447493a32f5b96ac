use Rattle.std.proofs.Common.{◌≡◌, sym, ◌∙◌, ap, subst, ℕ, ◌+◌, List, length, slice_get, slice_index, option_map, arith}
use Rattle.std.proofs.lemmas.List.{get_or_read}
use Rattle.cov_types.specs.declared.seg.Seg.{Seg}
use Rattle.components.specs.declared.link.Link.{Link}
use Rattle.components.specs.Connected.{AreLinksWithin, AreComponents}
use Rattle.components.proofs.Numbers.{number-low}
use Rattle.face_walk.specs.Links.{AreLinks}
use Rattle.face_walk.specs.Numbers.{AreLeastSides, IsNumberTable}
use Rattle.face_walk.specs.declared.cycle.Cycle.{Cycle}
use Rattle.face_walk.proofs.Numbering.{links_within, numbered}
use Rattle.face_walk.proofs.region.Regions.build.Goals as goal

pub components-requires : goal.components-requires
components-requires c =
    let edges = c.args.a.now in
    let of = c.in_ok-cycles.cycles.of.items in
    let list = c.in_ok-cycles.cycles.list.items in
    let size : c.len-past_range.result ≡ length list = omega (arith, c.len-past_range.ensures) in
    let links = c.deref.result.now in
    let made = subst (λ (ls : List Link). AreLinks edges of list ls) (sym c.deref.ensures.value) c.in_ok-links.ensures in
    record { within = subst (λ (n : ℕ). AreLinksWithin (n + 1) links) (sym size) (links_within edges c.edges-edges.ensures.planar of list c.in_ok-cycles.ensures c.edges-edges.ensures.distinct links made) }

pub least_sides-requires : goal.least_sides-requires
least_sides-requires c =
    let edges = c.args.a.now in
    let of = c.in_ok-cycles.cycles.of.items in
    let list = c.in_ok-cycles.cycles.list.items in
    let cycles = c.in_ok-cycles.ensures in
    let size : c.len-past_range.result ≡ length list = omega (arith, c.len-past_range.ensures) in
    let connected = c.deref-2.result.now in
    let all : AreComponents (c.len-past_range.result + 1) c.deref.result.now connected =
    subst (λ (ns : List ℕ). AreComponents (c.len-past_range.result + 1) c.deref.result.now ns) (sym c.deref-2.ensures.value) c.in_ok-connected.ensures in
    let long = all.count in
    let count = cycles.count in
    record {
      within = λ n below. (let lt = cycles.within n (omega (arith, below, count)) in omega (arith, lt, long, size));
      some = λ n below. (
          let lt = cycles.within n (omega (arith, below, count)) in
          let low = number-low (c.len-past_range.result + 1) c.deref.result.now connected (slice_index of n) all (omega (arith, lt, size)) in
          omega (arith, lt, low)
          );
    }

pub invariant_of-result : goal.invariant_of-result
invariant_of-result c =
    let edges = c.args.a.now in
    let of = c.in_ok-cycles.cycles.of.items in
    let list = c.in_ok-cycles.cycles.list.items in
    let size : c.len-past_range.result ≡ length list = omega (arith, c.len-past_range.ensures) in
    let links = c.deref.result.now in
    let made = subst (λ (ls : List Link). AreLinks edges of list ls) (sym c.deref.ensures.value) c.in_ok-links.ensures in
    let connected = c.in_ok-connected.connected.items in
    let components : AreComponents (length list + 1) links connected = subst (λ (n : ℕ). AreComponents (n + 1) links connected) size c.in_ok-connected.ensures in
    let least = subst (λ (ns : List ℕ). AreLeastSides of list ns c.in_ok-least.least.items) c.deref-2.ensures.value c.in_ok-least.ensures in
    let long = components.count in
    let place : c.index.result.now ≡ slice_index connected (length list) =
    get_or_read connected c.len-past_range.result c.index.result.now (omega (arith, size, long)) c.index.ensures 0 ∙ ap (λ k. slice_index connected k) size in
    let outer : c.least_side-outer.result ≡ option_map (λ (x : Cycle). x.least) (slice_get list (slice_index connected (length list))) =
    c.least_side-outer.ensures ∙ ap (λ k. option_map (λ (x : Cycle). x.least) (slice_get list k)) place in
    subst (λ (es : List Seg). IsNumberTable es c.in_ok-least.least.items c.least_side-outer.result) (sym c.edges-edges.ensures.edges)
    (numbered edges c.edges-edges.ensures.planar of list c.in_ok-cycles.ensures c.edges-edges.ensures.distinct links made connected components c.in_ok-least.least.items c.least_side-outer.result least outer)
