-- One gap more.
use Rattle.std.proofs.Common.{◌≡◌, sym, ◌∙◌, subst, ◌<◌, ℕ, List, length, get_or, Option, IfSome, arith}
use Rattle.std.specs.Prelude.{All}
use Rattle.std.proofs.lemmas.List.{length-set, get_or_default}
use Rattle.crossing_laws.proofs.Located.{side_within}
use Rattle.region_owners.specs.Owner.{neighbour_of}
use Rattle.owner_label.specs.Labelled.{owner_in}
use Rattle.owner_label.specs.OwnedSides.{IsOwnedSide, owned_length}
use Rattle.owner_label.specs.declared.owned_side.OwnedSide.{OwnedSide}
use Rattle.cov_clean.specs.Longest.{IsLongest}
use Rattle.cov_clean.proofs.Filling.{filled_more, longest_below, longest_owner, sides_long}
use Rattle.cov_clean.proofs.gaps.filled_owners.Goals as goal

pub longest-requires-clause-long : goal.longest-requires-clause-long
longest-requires-clause-long c =
    subst (λ (ss : List OwnedSide). All (λ (s : OwnedSide). 0 < s.length) ss) (sym c.deref-in-loop-gap-2.ensures.value) (sides_long c.deref-in-loop-gap.result.now c.in_ok-sides.sides.items c.in_ok-sides.ensures.each)

pub index_mut-requires : goal.index_mut-requires
index_mut-requires c =
    let region = c.requires.gaps c.loop-gap.gap-index 0 c.loop-gap-test.true in
    let within = side_within c.args.labels.now.edges (get_or c.args.gaps.now c.loop-gap.gap-index 0) region.at region.side in
    let long = c.loop-gap.invariant.long in
    let owners = c.requires.owners in
    omega (arith, within, long, owners)

pub loop-gap-preserved : goal.loop-gap-preserved
loop-gap-preserved c =
    let gaps : List ℕ = c.args.gaps.now in
    let k = c.loop-gap.gap-index in
    let g : ℕ = get_or gaps k 0 in
    let owners : List (Option ℕ) = c.args.owners.items in
    let shown : c.deref-in-loop-gap.result.now ≡ owners = c.deref-in-loop-gap.ensures.value in
    let sides : List OwnedSide = c.in_ok-sides.sides.items in
    let each : All (IsOwnedSide owners) sides = subst (λ (os : List (Option ℕ)). All (IsOwnedSide os) sides) shown c.in_ok-sides.ensures.each in
    let longest : IsLongest (owned_length sides) c.longest.result = subst (λ (ss : List OwnedSide). IsLongest (owned_length ss) c.longest.result) c.deref-in-loop-gap-2.ensures.value c.longest.ensures.longest in
    let region = c.requires.gaps k 0 c.loop-gap-test.true in
    let within = side_within c.args.labels.now.edges g region.at region.side in
    let there : g < length owners = (let count = c.requires.owners in omega (arith, within, count)) in
    record {
      filled = λ o is many. (
          let below : All (λ found. IfSome found (λ i. i < o.members)) owners = subst (λ (n : ℕ). All (λ found. IfSome found (λ i. i < n)) owners) (sym many) c.requires.below in
          let its : c.longest.result ≡ neighbour_of o (owner_in owners) g =
          subst (λ (os : List (Option ℕ)). c.longest.result ≡ neighbour_of o (owner_in os) g) shown
          (longest_owner o c.deref-in-loop-gap.result.now g sides c.longest.result (λ member. c.in_ok-sides.ensures.borders o member is) (longest_below owners sides o.members each below c.longest.result longest) longest) in
          filled_more (neighbour_of o (owner_in owners)) owners gaps k g c.loop-gap-test.true (get_or_default gaps k 0 g c.loop-gap-test.true) c.loop-gap.filled.items (c.loop-gap.invariant.filled o is many) there c.longest.result its);
      long = length-set c.loop-gap.filled.items g c.longest.result ∙ c.loop-gap.invariant.long;
      clear = c.longest.ensures.clear;
      count = c.longest.ensures.count ∙ c.loop-gap.invariant.count;
    }
