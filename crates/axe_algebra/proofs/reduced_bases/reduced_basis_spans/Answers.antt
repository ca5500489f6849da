use Rattle.axe_algebra.specs.Bridge.{field_of}
use Rattle.axe_algebra.proofs.ReducedBases.{reduced_spans, reduced_independent}
use Rattle.axe_algebra.proofs.reduced_bases.reduced_basis_spans.Goals as goal

pub returns-clause-spans : goal.returns-clause-spans
returns-clause-spans c K = reduced_spans (field_of K)

pub returns-clause-independent : goal.returns-clause-independent
returns-clause-independent c K = reduced_independent (field_of K)
