use Rattle.axe_echelon.proofs.Exits.{no_memory}
use Rattle.axe_echelon.proofs.null_spaces.reduced_where_many.Goals as goal

pub returns : goal.returns
returns c = c.in_ok-reduced.ensures.basis

pub returns-then-count-dim : goal.returns-then-count-dim
returns-then-count-dim c = tt

pub returns-in_err-reduced : goal.returns-in_err-reduced
returns-in_err-reduced c = no_memory _ c.from_residual.result _ c.from_residual.ensures.1 c.in_err-reduced.ensures.basis
