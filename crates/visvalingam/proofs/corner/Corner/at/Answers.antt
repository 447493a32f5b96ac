use Rattle.std.proofs.Common.{refl, sym, ◌∙◌, ap, Some, None, pos, get_or, true≢false, arith}
use Rattle.std.proofs.lemmas.Option.{slice_get-get_or}
use Rattle.visvalingam.proofs.Chained.{none_at_gone, none_at_end, corner_is}
use Rattle.visvalingam.proofs.corner.Corner.at.Goals as goal

pub returns-in_default-clause-answer : goal.returns-in_default-clause-answer
returns-in_default-clause-answer c removed linked corner k =
    none_at_gone removed c.args.points.now c.args.links.now c.args.place linked (slice_get-get_or c.args.links.now c.args.place None c.if-place-links.false ∙ ap Some c.in_default.is) corner k

pub returns-then-not-is_inner-clause-answer : goal.returns-then-not-is_inner-clause-answer
returns-then-not-is_inner-clause-answer c removed linked corner k =
    none_at_end removed c.args.points.now c.args.links.now c.args.place c.in-Some.own linked (slice_get-get_or c.args.links.now c.args.place None c.if-place-links.false ∙ ap Some c.in-Some.is)
    (λ inner. true≢false (sym (c.is_inner.ensures.1 inner) ∙ c.if-not-is_inner.true)) corner k

pub returns-clause-standing : goal.returns-clause-standing
returns-clause-standing c =
    let inner = c.is_inner.ensures.0 c.if-not-is_inner.false in
    let same = c.if-links-points.false in
    let within = inner.1.1 in
    record {
      own = c.in-Some.own;
      here = slice_get-get_or c.args.links.now c.args.place None c.if-place-links.false ∙ ap Some c.in-Some.is;
      before = inner.0;
      after = inner.1.0;
      within = omega arith;
    }

pub returns-clause-answer : goal.returns-clause-answer
returns-clause-answer c removed linked =
    let points = c.args.points.now in
    let inner = c.is_inner.ensures.0 c.if-not-is_inner.false in
    let same = c.if-links-points.false in
    let low = inner.0 in
    let high = inner.1.0 in
    let within = inner.1.1 in
    let own = c.in-Some.own in
    corner_is removed points c.args.links.now c.args.place own
    (record { a = get_or points own.before (record { x = pos 0; y = pos 0 }); b = get_or points c.args.place (record { x = pos 0; y = pos 0 }); c = get_or points own.after (record { x = pos 0; y = pos 0 }); before = own.before; after = own.after })
    linked (slice_get-get_or c.args.links.now c.args.place None c.if-place-links.false ∙ ap Some c.in-Some.is) low high
    (slice_get-get_or points c.args.place (record { x = pos 0; y = pos 0 }) (omega arith)) (slice_get-get_or points own.before (record { x = pos 0; y = pos 0 }) (omega arith)) (slice_get-get_or points own.after (record { x = pos 0; y = pos 0 }) (omega arith)) refl refl
