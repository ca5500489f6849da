use Rattle.axe_iso.proofs.OneForm.{form_is_one}
use Rattle.axe_iso.proofs.SomeForm.{some_form}
use Rattle.axe_iso.proofs.laws.a_vector_gives_one_form.Goals as goal

pub returns-clause-some : goal.returns-clause-some
returns-clause-some c = some_form

pub returns-clause-one : goal.returns-clause-one
returns-clause-one c = form_is_one
