use Rattle.axe_file.proofs.ModuleSpellings.{no_spelling_of_both, matrix_is_no_module, module_is_no_matrix}
use Rattle.axe_file.proofs.module_laws.no_bytes_spell_both.Goals as goal

pub returns-clause-apart : goal.returns-clause-apart
returns-clause-apart c = no_spelling_of_both

pub returns-clause-matrix : goal.returns-clause-matrix
returns-clause-matrix c = matrix_is_no_module

pub returns-clause-module : goal.returns-clause-module
returns-clause-module c = module_is_no_matrix
