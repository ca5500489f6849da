use Rattle.std.proofs.Common.{rules}
use Rattle.axe_echelon.proofs.subspace.Subspace.reserve.Goals as goal

pub invariant_of-self : goal.invariant_of-self
invariant_of-self c = rw c.reserve_exact.ensures.items c.self.invariant

pub returns-in_err-reserve_exact-clause-same : goal.returns-in_err-reserve_exact-clause-same
returns-in_err-reserve_exact-clause-same c = rw c.reserve_exact.ensures.items c.self.view_is

pub returns-in_err-reserve_exact-clause-memory : goal.returns-in_err-reserve_exact-clause-memory
returns-in_err-reserve_exact-clause-memory c = search rules

pub invariant_of-self-2 : goal.invariant_of-self-2
invariant_of-self-2 c = rw c.reserve_exact.ensures.items c.self.invariant

pub returns-clause-same : goal.returns-clause-same
returns-clause-same c = rw c.reserve_exact.ensures.items c.self.view_is

pub returns-clause-memory : goal.returns-clause-memory
returns-clause-memory c = tt
