use Rattle.std.proofs.Common.{rules}
use Rattle.axe_file.proofs.reading.take_marks.Goals as goal

pub take_many-requires-in-3-clause-table : goal.take_many-requires-in-3-clause-table
take_many-requires-in-3-clause-table c = search rules

pub returns-in-3 : goal.returns-in-3
returns-in-3 c = search rules
