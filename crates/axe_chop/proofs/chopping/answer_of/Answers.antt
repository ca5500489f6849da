use Rattle.std.proofs.Common.{subst}
use Rattle.axe_chop.specs.Searches.{IsSearched}
use Rattle.axe_chop.proofs.AnswerLaws.{searched_is_undecided, searched_is_chopped, no_memory_to_chop}
use Rattle.axe_chop.proofs.chopping.answer_of.Goals as goal

pub returns-in_ok-named-in-Complete : goal.returns-in_ok-named-in-Complete
returns-in_ok-named-in-Complete c = λ m seed words searched.
    searched_is_chopped m seed words c.in-Complete.found c.in_ok-named-in-Complete.field-0 (subst (IsSearched m seed words) c.in-Complete.is searched)
    c.in_ok-named-in-Complete.ensures.named c.in_ok-named-in-Complete.ensures.basis

pub returns-in_err-named-in-Complete : goal.returns-in_err-named-in-Complete
returns-in_err-named-in-Complete c = λ m seed words searched. no_memory_to_chop m seed words c.from_residual.result c.from_residual.ensures.1

pub returns-in-Open : goal.returns-in-Open
returns-in-Open c = λ m seed words searched.
    searched_is_undecided m seed words c.in-Open.basis c.in-Open.offset c.in-Open.dim (subst (IsSearched m seed words) c.in-Open.is searched)
