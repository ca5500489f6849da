use Rattle.axe_file.proofs.TextTexts.{text_fault_is, is_text_fault, faultless_is_text, text_is_faultless}
use Rattle.axe_file.proofs.text_laws.text_faults_are_first.Goals as goal

pub returns-clause-fault : goal.returns-clause-fault
returns-clause-fault c = text_fault_is

pub returns-clause-only_fault : goal.returns-clause-only_fault
returns-clause-only_fault c = is_text_fault

pub returns-clause-text : goal.returns-clause-text
returns-clause-text c = faultless_is_text

pub returns-clause-faultless : goal.returns-clause-faultless
returns-clause-faultless c = text_is_faultless
