use Rattle.std.proofs.Common.{sym, ap, option_copied}
use Rattle.axe_chop.specs.Kept.{acting_module}
use Rattle.axe_chop.proofs.Placing.{shown_in, form_in}
use Rattle.axe_chop.proofs.section.Action.into_form.Goals as goal

pub form_of-requires-clause-vector : goal.form_of-requires-clause-vector
form_of-requires-clause-vector c =
    (shown_in (acting_module c.args.self) c.in-Lent.module.now c.args.seed c.args.witness.now.word c.args.witness.now.poly
    (option_copied c.as_ref-poly.result) c.args.witness.now.vector (sym (ap acting_module c.in-Lent.is)) c.as_ref-poly.ensures.value c.requires).of_module

pub form_of-requires-clause-null : goal.form_of-requires-clause-null
form_of-requires-clause-null c =
    (shown_in (acting_module c.args.self) c.in-Lent.module.now c.args.seed c.args.witness.now.word c.args.witness.now.poly
    (option_copied c.as_ref-poly.result) c.args.witness.now.vector (sym (ap acting_module c.in-Lent.is)) c.as_ref-poly.ensures.value c.requires).null

pub form_of-requires-clause-generates : goal.form_of-requires-clause-generates
form_of-requires-clause-generates c =
    (shown_in (acting_module c.args.self) c.in-Lent.module.now c.args.seed c.args.witness.now.word c.args.witness.now.poly
    (option_copied c.as_ref-poly.result) c.args.witness.now.vector (sym (ap acting_module c.in-Lent.is)) c.as_ref-poly.ensures.value c.requires).generates

pub form_of-requires-clause-small : goal.form_of-requires-clause-small
form_of-requires-clause-small c =
    (shown_in (acting_module c.args.self) c.in-Lent.module.now c.args.seed c.args.witness.now.word c.args.witness.now.poly
    (option_copied c.as_ref-poly.result) c.args.witness.now.vector (sym (ap acting_module c.in-Lent.is)) c.as_ref-poly.ensures.value c.requires).small

pub returns-in-Lent-clause-form : goal.returns-in-Lent-clause-form
returns-in-Lent-clause-form c =
    form_in (acting_module c.args.self) c.in-Lent.module.now c.args.seed c.args.witness.now.word c.args.witness.now.poly
    (option_copied c.as_ref-poly.result) c.args.witness.now.vector c.form_of.result (sym (ap acting_module c.in-Lent.is)) c.as_ref-poly.ensures.value
    c.form_of.ensures.form

pub form_of_owned-requires-clause-vector : goal.form_of_owned-requires-clause-vector
form_of_owned-requires-clause-vector c =
    (shown_in (acting_module c.args.self) c.in-Owned.module c.args.seed c.args.witness.now.word c.args.witness.now.poly
    (option_copied c.as_ref-poly.result) c.args.witness.now.vector (sym (ap acting_module c.in-Owned.is)) c.as_ref-poly.ensures.value c.requires).of_module

pub form_of_owned-requires-clause-null : goal.form_of_owned-requires-clause-null
form_of_owned-requires-clause-null c =
    (shown_in (acting_module c.args.self) c.in-Owned.module c.args.seed c.args.witness.now.word c.args.witness.now.poly
    (option_copied c.as_ref-poly.result) c.args.witness.now.vector (sym (ap acting_module c.in-Owned.is)) c.as_ref-poly.ensures.value c.requires).null

pub form_of_owned-requires-clause-generates : goal.form_of_owned-requires-clause-generates
form_of_owned-requires-clause-generates c =
    (shown_in (acting_module c.args.self) c.in-Owned.module c.args.seed c.args.witness.now.word c.args.witness.now.poly
    (option_copied c.as_ref-poly.result) c.args.witness.now.vector (sym (ap acting_module c.in-Owned.is)) c.as_ref-poly.ensures.value c.requires).generates

pub form_of_owned-requires-clause-small : goal.form_of_owned-requires-clause-small
form_of_owned-requires-clause-small c =
    (shown_in (acting_module c.args.self) c.in-Owned.module c.args.seed c.args.witness.now.word c.args.witness.now.poly
    (option_copied c.as_ref-poly.result) c.args.witness.now.vector (sym (ap acting_module c.in-Owned.is)) c.as_ref-poly.ensures.value c.requires).small

pub returns-in-Owned-clause-form : goal.returns-in-Owned-clause-form
returns-in-Owned-clause-form c =
    form_in (acting_module c.args.self) c.in-Owned.module c.args.seed c.args.witness.now.word c.args.witness.now.poly
    (option_copied c.as_ref-poly.result) c.args.witness.now.vector c.form_of_owned.result (sym (ap acting_module c.in-Owned.is)) c.as_ref-poly.ensures.value
    c.form_of_owned.ensures.form
