use Rattle.axe_iso.proofs.OneForm.{match_is_one}
use Rattle.axe_iso.proofs.SomeForm.{some_match}
use Rattle.axe_iso.proofs.laws.a_form_gives_one_match.Goals as goal

pub returns-clause-some : goal.returns-clause-some
returns-clause-some c = some_match

pub returns-clause-one : goal.returns-clause-one
returns-clause-one c = match_is_one
