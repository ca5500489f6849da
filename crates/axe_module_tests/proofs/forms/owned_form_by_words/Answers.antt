use Rattle.std.proofs.Common.{refl, subst, option_copied}
use Rattle.axe_norton.specs.Verdicts.{Decides}
use Rattle.axe_chop.proofs.Placing.{shown_in}
use Rattle.axe_module_tests.proofs.forms.owned_form_by_words.Goals as goal

pub form_of_owned-requires-clause-vector : goal.form_of_owned-requires-clause-vector
form_of_owned-requires-clause-vector g c =
    (shown_in c.args.module c.args.module 1 c.in-Irreducible.word c.in-Irreducible.poly (option_copied c.as_ref-lent.result) c.in-Irreducible.vector
    refl c.as_ref-lent.ensures.value (20, subst (Decides c.args.module 1 20) c.in-Irreducible.is c.in_ok-word.ensures.decides)).of_module

pub form_of_owned-requires-clause-null : goal.form_of_owned-requires-clause-null
form_of_owned-requires-clause-null g c =
    (shown_in c.args.module c.args.module 1 c.in-Irreducible.word c.in-Irreducible.poly (option_copied c.as_ref-lent.result) c.in-Irreducible.vector
    refl c.as_ref-lent.ensures.value (20, subst (Decides c.args.module 1 20) c.in-Irreducible.is c.in_ok-word.ensures.decides)).null

pub form_of_owned-requires-clause-generates : goal.form_of_owned-requires-clause-generates
form_of_owned-requires-clause-generates g c =
    (shown_in c.args.module c.args.module 1 c.in-Irreducible.word c.in-Irreducible.poly (option_copied c.as_ref-lent.result) c.in-Irreducible.vector
    refl c.as_ref-lent.ensures.value (20, subst (Decides c.args.module 1 20) c.in-Irreducible.is c.in_ok-word.ensures.decides)).generates

pub form_of_owned-requires-clause-small : goal.form_of_owned-requires-clause-small
form_of_owned-requires-clause-small g c =
    (shown_in c.args.module c.args.module 1 c.in-Irreducible.word c.in-Irreducible.poly (option_copied c.as_ref-lent.result) c.in-Irreducible.vector
    refl c.as_ref-lent.ensures.value (20, subst (Decides c.args.module 1 20) c.in-Irreducible.is c.in_ok-word.ensures.decides)).small
