use Rattle.std.proofs.Common.{sym, true≢false, arith}
use Rattle.std.proofs.lemmas.Int.{ints}
use Rattle.rounding_laws.proofs.Meets.{meets-is}
use Rattle.hot_pixel.proofs.Beside.{beside_up, beside_down}
use Rattle.hot_pixel.proofs.passing.meets.Goals as goal
use Rattle.hot_pixel.proofs.passing.meets.Goals.{then-r-s-via-then-r-s, then-r-s-via-else-r-s+then-s-r}

pub returns-then-r-s : goal.returns-then-r-s
returns-then-r-s c =
    let meet = meets-is c.args.s c.args.r in
    elim c.then-r-s.branch [
      | then-r-s-via-then-r-s w ↦ (λ h. absurd (true≢false (sym h)), λ h. absurd (let from = (meet.0 h).from in omega (arith, ints, w.if-r-s.true)))
      | then-r-s-via-else-r-s+then-s-r w ↦ (λ h. absurd (true≢false (sym h)), λ h. absurd (let to = (meet.0 h).to in omega (arith, ints, w.if-s-r.true)))
    ]

pub returns-then-s : goal.returns-then-s
returns-then-s c =
    let beside = beside_up c.args.s c.args.r (omega (arith, ints, c.if-r-s.false)) (omega (arith, ints, c.if-s-r.false)) (omega (arith, ints, c.if-s.true)) in
    let meet = meets-is c.args.s c.args.r in
    (λ h. meet.1 (beside.0 (c.is_beside_up.ensures.0 h)), λ h. c.is_beside_up.ensures.1 (beside.1 (meet.0 h)))

pub returns-else-s : goal.returns-else-s
returns-else-s c =
    let beside = beside_down c.args.s c.args.r (omega (arith, ints, c.if-r-s.false)) (omega (arith, ints, c.if-s-r.false)) (omega (arith, ints, c.if-s.false)) in
    let meet = meets-is c.args.s c.args.r in
    (λ h. meet.1 (beside.0 (c.is_beside_down.ensures.0 h)), λ h. c.is_beside_down.ensures.1 (beside.1 (meet.0 h)))
