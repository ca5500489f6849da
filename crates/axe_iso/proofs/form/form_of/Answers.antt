use Rattle.axe_iso.proofs.FormAnswers.{row-nonzero}
use Rattle.axe_iso.proofs.form.form_of.Goals as goal

pub standard_basis-requires-clause-nonzero : goal.standard_basis-requires-clause-nonzero
standard_basis-requires-clause-nonzero c = row-nonzero c.args.module.now c.args.vector.now c.dim.ensures.well_formed c.requires.generates
