use Rattle.std.proofs.Common.{rules}
use Rattle.axe_action.proofs.known_rows.known_row.Goals as goal

pub returns-in-UnitVector : goal.returns-in-UnitVector
returns-in-UnitVector c = search rules

pub returns-in-ProductRow : goal.returns-in-ProductRow
returns-in-ProductRow c = search rules
