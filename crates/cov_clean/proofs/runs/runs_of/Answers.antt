-- One side more, and after the last.
use Rattle.std.proofs.Common.{◌<◌, ◌^◌, List, length, get_or, rules}
use Rattle.std.proofs.lemmas.List.{get_or_default}
use Rattle.owner_label.specs.declared.owned_side.OwnedSide.{OwnedSide}
use Rattle.cov_clean.proofs.RunLengths.{run_fits, runs_more, runs_all}
use Rattle.cov_clean.proofs.runs.runs_of.Goals as goal

abbrev none : OwnedSide
none = record { member = 0; length = 0 }

pub add_side-requires : goal.add_side-requires
add_side-requires c =
    let sides : List OwnedSide = c.args.sides.now in
    let k = c.loop-side.side-index in
    let s = get_or sides k none in
    let count : length sides < 2 ^ 64 = search rules in
    record {
      short = run_fits sides k s c.loop-side-test.true (get_or_default sides k none s c.loop-side-test.true) c.requires.ascending (c.requires.long k none c.loop-side-test.true)
          c.loop-side.runs.items c.loop-side.invariant c.loop-side.runs.items c.requires.short count (c.requires.short k none c.loop-side-test.true);
    }

pub loop-side-preserved : goal.loop-side-preserved
loop-side-preserved c =
    let sides : List OwnedSide = c.args.sides.now in
    let k = c.loop-side.side-index in
    let s = get_or sides k none in
    runs_more sides k s c.loop-side-test.true (get_or_default sides k none s c.loop-side-test.true) c.requires.ascending (c.requires.long k none c.loop-side-test.true)
    c.loop-side.runs.items c.loop-side.invariant c.add_side.new.runs.items c.in_ok-add_side.ensures

pub returns : goal.returns
returns c = runs_all c.args.sides.now c.loop-side.side-index c.loop-side.runs.items c.loop-side-test.false c.loop-side.invariant
