use Rattle.std.proofs.Common.{rules}
use Rattle.axe_row.proofs.Row.is_empty.Goals as goal

pub returns : goal.returns
returns c = search rules
