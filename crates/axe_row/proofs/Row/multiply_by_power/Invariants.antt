use Rattle.axe_row.proofs.MultiplesByX.{IsTimesPower}
use Rattle.axe_row.proofs.Row.multiply_by_power.Given as goal

abbrev pub invariant-loop : goal.invariant-loop
invariant-loop l = IsTimesPower l.counter l.fn.self l.self
