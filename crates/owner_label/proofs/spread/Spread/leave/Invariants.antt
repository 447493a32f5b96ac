use Rattle.std.proofs.Common.{take}
use Rattle.owner_label.specs.Spread.{IsSpread, Grows, AreReachedAcross}
use Rattle.owner_label.proofs.spread.Spread.leave.Given as goal

abbrev pub invariant-loop-side : goal.invariant-loop-side
invariant-loop-side l = record {
  spread : IsSpread l.map l.self;
  grows : Grows l.fn.self l.self;
  crossed : AreReachedAcross l.map l.self (take l.side-index l.sides);
}
