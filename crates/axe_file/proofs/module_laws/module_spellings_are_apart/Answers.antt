use Rattle.axe_file.proofs.ModuleSpellings.{packed_modules_apart}
use Rattle.axe_file.proofs.module_laws.module_spellings_are_apart.Goals as goal

pub returns : goal.returns
returns c = packed_modules_apart
