use Rattle.std.proofs.Common.{◌<◌, length, get_or, refl}
use Rattle.std.proofs.lemmas.Bool.{false≢true, iff_false}
use Rattle.std.proofs.lemmas.List.{get_or_default}
use Rattle.std.proofs.lemmas.List.Elements.{AllWithin-more, Contains-get_or, at_read}
use Rattle.cov_valid.proofs.Meeting.{IsBadAt, bad_at, not_bad_at}
use Rattle.cov_valid.proofs.Searches.{none_among}
use Rattle.cov_valid.proofs.contacts.is_met_at.Goals as goal

pub returns-then-meets_badly : goal.returns-then-meets_badly
returns-then-meets_badly c =
    let places = c.args.places.now in
    let i = c.loop-k.k-index in
    let within : get_or places i 0 < length c.args.groups.now = c.requires.within i 0 c.loop-k-test.true in
    (λ h. (get_or places i 0, (Contains-get_or places i 0 c.loop-k-test.true, bad_at c.args.groups.now c.args.s (get_or places i 0) _ within (c.meets_badly.ensures.0 c.if-meets_badly.true))), λ w. refl)

pub loop-k-preserved : goal.loop-k-preserved
loop-k-preserved c =
    let places = c.args.places.now in
    let i = c.loop-k.k-index in
    let k = get_or places i 0 in
    AllWithin-more (λ j. ¬ IsBadAt c.args.groups.now c.args.s j) places 0 i c.loop-k.invariant
    (at_read places (λ j. ¬ IsBadAt c.args.groups.now c.args.s j) i k c.loop-k-test.true (get_or_default places i 0 k c.loop-k-test.true)
    (not_bad_at c.args.groups.now c.args.s k _ (iff_false c.meets_badly.ensures c.if-meets_badly.false)))

pub returns : goal.returns
returns c =
    (λ h. absurd (false≢true h), λ (k, (has, bad)). absurd (none_among (IsBadAt c.args.groups.now c.args.s) c.args.places.now c.loop-k.k-index c.loop-k-test.false c.loop-k.invariant k has bad))
