use Rattle.std.proofs.Common.{rules}
use Rattle.axe_plan.specs.Inputs.{text_matrix_in}
use Rattle.axe_plan.proofs.reading.read_text_file.Goals as goal

pub returns-in_err-bytes-clause-reads : goal.returns-in_err-bytes-clause-reads
unfolding text_matrix_in
returns-in_err-bytes-clause-reads g c = search rules

pub returns-in-Ok-clause-reads : goal.returns-in-Ok-clause-reads
unfolding text_matrix_in
returns-in-Ok-clause-reads g c = search rules

pub returns-clause-reads : goal.returns-clause-reads
unfolding text_matrix_in
returns-clause-reads g c = search rules
