use Rattle.axe_action.proofs.QuotientRows.{free_exactly}
use Rattle.axe_action.proofs.quotients.is_free.Goals as goal

pub returns : goal.returns
returns c = free_exactly c.args.span.now c.args.column c.is_pivot.result c.requires c.is_pivot.ensures
