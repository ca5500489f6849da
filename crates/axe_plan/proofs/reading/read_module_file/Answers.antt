use Rattle.std.proofs.Common.{rules}
use Rattle.axe_plan.specs.Inputs.{packed_generators_in}
use Rattle.axe_plan.proofs.reading.read_module_file.Goals as goal

pub returns-in_err-bytes-clause-reads : goal.returns-in_err-bytes-clause-reads
unfolding packed_generators_in
returns-in_err-bytes-clause-reads g c = search rules

pub returns-in-Ok-clause-reads : goal.returns-in-Ok-clause-reads
unfolding packed_generators_in
returns-in-Ok-clause-reads g c = search rules

pub returns-clause-reads : goal.returns-clause-reads
unfolding packed_generators_in
returns-clause-reads g c = search rules
