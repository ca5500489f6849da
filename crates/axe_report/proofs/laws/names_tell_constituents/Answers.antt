use Rattle.axe_report.proofs.Letters.{letters_injective}
use Rattle.axe_report.proofs.Numerals.{name_unique}
use Rattle.axe_report.proofs.laws.names_tell_constituents.Goals as goal

pub returns-clause-letters : goal.returns-clause-letters
returns-clause-letters c = letters_injective

pub returns-clause-names : goal.returns-clause-names
returns-clause-names c = name_unique
