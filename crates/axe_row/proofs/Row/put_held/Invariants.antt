use Rattle.axe_row.proofs.HeldWrites.{IsHeldBelow}
use Rattle.axe_row.proofs.Row.put_held.Given as goal

abbrev pub invariant-loop-at : goal.invariant-loop-at
invariant-loop-at g l = IsHeldBelow l.at l.held l.self
