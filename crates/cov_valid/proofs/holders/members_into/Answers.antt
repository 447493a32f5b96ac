use Rattle.std.proofs.Common.{◌≡◌, ◌<◌, ◌≤◌, ◌++◌, ◌∷◌, [], ℕ, All, List, Vec, Global, length, get_or, take, refl, sym, ap, ◌∙◌, subst, arith}
use Rattle.std.proofs.lemmas.List.{get_or_default, take_more, take_all}
use Rattle.box_tree.specs.Rect.{box_of_segment, is_touching}
use Rattle.cov_types.specs.Rings.{IsRing}
use Rattle.cov_types.specs.declared.ring_run.RingRun.{RingRun}
use Rattle.cov_valid.proofs.Runs.{AreHeldAt, run_at, no_run, held_none, held_kept, held_toggled, holders_all, found_within, members_below}
use Rattle.cov_valid.proofs.holders.members_into.Goals as goal
use Rattle.cov_valid.proofs.holders.members_into.Goals.{then-run_holds+in_ok-toggle, else-run_holds}
use Rattle.cov_valid.specs.Holders.{IsMemberToggled}
use Rattle.parity_laws.specs.Runs.{run_holds}
use Rattle.plane.specs.Segment.{midpoint}

pub loop-k-init : goal.loop-k-init
loop-k-init c = held_none c.args.outline.now.uses.items (midpoint c.args.s) c.args.outline.now.rings.items [] c.clear.new.self.items refl c.clear.ensures.items

pub index-run-requires : goal.index-run-requires
index-run-requires c =
    let rings = c.args.outline.now.rings in
    let within : get_or c.args.rings.now c.loop-k.k-index 0 < length rings.items =
    found_within (is_touching (box_of_segment c.args.s)) c.args.index.now.rings rings.items c.args.rings.now c.loop-k.k-index 0 c.requires.found c.requires.indexed.boxes.count c.loop-k-test.true in
    omega (arith, within)

pub run_holds-requires-clause-ring : goal.run_holds-requires-clause-ring
run_holds-requires-clause-ring c =
    let outline = c.args.outline.now in
    let k : ℕ = get_or c.args.rings.now c.loop-k.k-index 0 in
    let within : k < length outline.rings.items =
    found_within (is_touching (box_of_segment c.args.s)) c.args.index.now.rings outline.rings.items c.args.rings.now c.loop-k.k-index 0 c.requires.found c.requires.indexed.boxes.count c.loop-k-test.true in
    subst (IsRing outline.uses.items outline.starts.items) (sym c.index-run.ensures) (c.requires.in_order.round k c.index-run.result.now within)

pub toggle-requires-clause-ascending : goal.toggle-requires-clause-ascending
toggle-requires-clause-ascending c = c.loop-k.invariant.ascending

pub toggle-requires-clause-at_most : goal.toggle-requires-clause-at_most
toggle-requires-clause-at_most c =
    let runs = c.args.outline.now.rings.items in
    let k : ℕ = get_or c.args.rings.now c.loop-k.k-index 0 in
    let test = is_touching (box_of_segment c.args.s) in
    let within : k < length runs = found_within test c.args.index.now.rings runs c.args.rings.now c.loop-k.k-index 0 c.requires.found c.requires.indexed.boxes.count c.loop-k-test.true in
    let run_is : run_at runs k ≡ c.index-run.result.now = get_or_default runs k no_run c.index-run.result.now within ∙ sym c.index-run.ensures in
    subst (λ (r : RingRun). All (λ (m : ℕ). m ≤ r.member) c.loop-k.members.items) run_is
    (c.loop-k.invariant.at_most (run_at runs k).member
    (members_below test c.args.index.now.rings runs c.args.rings.now c.loop-k.k-index 0 c.requires.found c.requires.indexed.boxes.count c.requires.in_order.ascending c.loop-k-test.true))

pub loop-k-preserved : goal.loop-k-preserved
loop-k-preserved c =
    let uses = c.args.outline.now.uses.items in
    let runs = c.args.outline.now.rings.items in
    let p = midpoint c.args.s in
    let found = c.args.rings.now in
    let i = c.loop-k.k-index in
    let k : ℕ = get_or found i 0 in
    let within : k < length runs = found_within (is_touching (box_of_segment c.args.s)) c.args.index.now.rings runs found i 0 c.requires.found c.requires.indexed.boxes.count c.loop-k-test.true in
    let run_is : run_at runs k ≡ c.index-run.result.now = get_or_default runs k no_run c.index-run.result.now within ∙ sym c.index-run.ensures in
    let told : run_holds uses p (run_at runs k) ≡ c.run_holds.result = ap (run_holds uses p) run_is ∙ sym c.run_holds.ensures in
    let step : AreHeldAt uses p runs (take i found ++ k ∷ []) c.if-run_holds.members.items =
    elim c.if-run_holds.branch [
      | then-run_holds+in_ok-toggle w ↦
          subst (AreHeldAt uses p runs (take i found ++ k ∷ [])) (sym (ap (λ (v : Vec ℕ Global). v.items) w.members-is))
          (held_toggled uses p runs (take i found) c.loop-k.members.items w.toggle.new.members.items k (told ∙ w.if-run_holds.true)
          (subst (λ (r : RingRun). IsMemberToggled c.loop-k.members.items r.member w.toggle.new.members.items) (sym run_is) w.in_ok-toggle.ensures)
          c.loop-k.invariant)
      | else-run_holds w ↦
          subst (AreHeldAt uses p runs (take i found ++ k ∷ [])) (sym (ap (λ (v : Vec ℕ Global). v.items) w.members-is))
          (held_kept uses p runs (take i found) c.loop-k.members.items k (told ∙ w.if-run_holds.false) c.loop-k.invariant)
    ] in
    subst (λ (ks : List ℕ). AreHeldAt uses p runs ks c.if-run_holds.members.items) (sym (take_more found i 0 c.loop-k-test.true)) step

pub returns : goal.returns
returns c =
    holders_all c.args.outline.now c.args.index.now.rings c.args.s c.args.rings.now c.loop-k.members.items c.requires.in_order c.requires.indexed.boxes c.requires.in_range c.requires.found
    (subst (λ (ks : List ℕ). AreHeldAt c.args.outline.now.uses.items (midpoint c.args.s) c.args.outline.now.rings.items ks c.loop-k.members.items) (take_all c.loop-k.k-index c.args.rings.now c.loop-k-test.false) c.loop-k.invariant)
