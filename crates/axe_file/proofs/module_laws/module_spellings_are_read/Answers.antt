use Rattle.axe_file.proofs.ModuleSpellings.{packed_module_faultless, unpacked_packed_module}
use Rattle.axe_file.proofs.module_laws.module_spellings_are_read.Goals as goal

pub returns-clause-faultless : goal.returns-clause-faultless
returns-clause-faultless c = packed_module_faultless

pub returns-clause-module : goal.returns-clause-module
returns-clause-module c = unpacked_packed_module
