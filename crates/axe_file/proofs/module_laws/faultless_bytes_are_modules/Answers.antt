use Rattle.axe_file.proofs.ModuleSpellings.{sound_module, respelled_module, unpacked_generators}
use Rattle.axe_file.proofs.module_laws.faultless_bytes_are_modules.Goals as goal

pub returns-clause-module : goal.returns-clause-module
returns-clause-module c = λ bytes e. unpacked_generators bytes (sound_module bytes e).0

pub returns-clause-spelling : goal.returns-clause-spelling
returns-clause-spelling c = respelled_module
