use Rattle.axe_file.proofs.ModuleSpellings.{packed_module_within}
use Rattle.axe_file.proofs.module_laws.module_spellings_keep_the_limit.Goals as goal

pub returns : goal.returns
returns c = packed_module_within
