use Rattle.std.proofs.Common.{[]}
use Rattle.axe_norton.specs.declared.verdicts.At.TheVariants.{Reducible}
use Rattle.axe_norton.proofs.SaidLaws.{said_is_true}
use Rattle.axe_norton.proofs.ZeroLaws.{is_last_row, no_terms_in, last_fits, last_nonzero, row_generates, proper_said, transposed_said, left_said}
use Rattle.axe_norton.proofs.decisions.decide_zero.Goals as goal

pub proper_last-requires-clause-fits : goal.proper_last-requires-clause-fits
proper_last-requires-clause-fits c =
    last_fits c.args.module.now c.field.ensures.well_formed c.requires.many c.in_ok-last.last
    (is_last_row c.args.module.now _ _ c.in_ok-last.last c.field.ensures.order c.dim-dim.ensures.count c.in_ok-last.ensures.unit)

pub proper_last-requires-clause-nonzero : goal.proper_last-requires-clause-nonzero
proper_last-requires-clause-nonzero c =
    last_nonzero c.args.module.now c.field.ensures.well_formed c.requires.many c.in_ok-last.last
    (is_last_row c.args.module.now _ _ c.in_ok-last.last c.field.ensures.order c.dim-dim.ensures.count c.in_ok-last.ensures.unit)

pub proper_last-requires-clause-last : goal.proper_last-requires-clause-last
proper_last-requires-clause-last c = λ known.
    row_generates c.args.module.now c.field.ensures.well_formed c.requires.many c.in_ok-last.last
    (is_last_row c.args.module.now _ _ c.in_ok-last.last c.field.ensures.order c.dim-dim.ensures.count c.in_ok-last.ensures.unit)
    (c.requires.last known)

pub returns-in-Some-clause-says : goal.returns-in-Some-clause-says
returns-in-Some-clause-says c =
    proper_said c.args.module.now c.field.ensures.well_formed c.requires.many c.in_ok-last.last
    (is_last_row c.args.module.now _ _ c.in_ok-last.last c.field.ensures.order c.dim-dim.ensures.count c.in_ok-last.ensures.unit)
    c.in-Some.space (rw c.in-Some.is at c.in_ok-space.ensures)

pub returns-in-Some-clause-holds : goal.returns-in-Some-clause-holds
returns-in-Some-clause-holds c =
    said_is_true c.args.module.now c.field.ensures.well_formed [] (Reducible c.in-Some.space) (no_terms_in c.args.module.now)
    (proper_said c.args.module.now c.field.ensures.well_formed c.requires.many c.in_ok-last.last
    (is_last_row c.args.module.now _ _ c.in_ok-last.last c.field.ensures.order c.dim-dim.ensures.count c.in_ok-last.ensures.unit)
    c.in-Some.space (rw c.in-Some.is at c.in_ok-space.ensures))

pub transposed_space-requires-clause-fits : goal.transposed_space-requires-clause-fits
transposed_space-requires-clause-fits c =
    last_fits c.args.module.now c.field.ensures.well_formed c.requires.many c.in_ok-last-2.last
    (is_last_row c.args.module.now _ _ c.in_ok-last-2.last c.field.ensures.order c.dim-dim.ensures.count c.in_ok-last-2.ensures.unit)

pub transposed_space-requires-clause-nonzero : goal.transposed_space-requires-clause-nonzero
transposed_space-requires-clause-nonzero c =
    last_nonzero c.args.module.now c.field.ensures.well_formed c.requires.many c.in_ok-last-2.last
    (is_last_row c.args.module.now _ _ c.in_ok-last-2.last c.field.ensures.order c.dim-dim.ensures.count c.in_ok-last-2.ensures.unit)

pub returns-in-Some-2-clause-says : goal.returns-in-Some-2-clause-says
returns-in-Some-2-clause-says c =
    transposed_said c.args.module.now c.field.ensures.well_formed c.requires.many c.in_ok-last.last
    (is_last_row c.args.module.now _ _ c.in_ok-last.last c.field.ensures.order c.dim-dim.ensures.count c.in_ok-last.ensures.unit)
    (rw c.in_default.is at c.in_ok-space.ensures) c.in_ok-last-2.last
    (is_last_row c.args.module.now _ _ c.in_ok-last-2.last c.field.ensures.order c.dim-dim.ensures.count c.in_ok-last-2.ensures.unit)
    c.in-Some-2.space (rw c.in-Some-2.is at c.in_ok-space-2.ensures.found)

pub returns-in-Some-2-clause-holds : goal.returns-in-Some-2-clause-holds
returns-in-Some-2-clause-holds c =
    said_is_true c.args.module.now c.field.ensures.well_formed [] (Reducible c.in-Some-2.space) (no_terms_in c.args.module.now)
    (transposed_said c.args.module.now c.field.ensures.well_formed c.requires.many c.in_ok-last.last
    (is_last_row c.args.module.now _ _ c.in_ok-last.last c.field.ensures.order c.dim-dim.ensures.count c.in_ok-last.ensures.unit)
    (rw c.in_default.is at c.in_ok-space.ensures) c.in_ok-last-2.last
    (is_last_row c.args.module.now _ _ c.in_ok-last-2.last c.field.ensures.order c.dim-dim.ensures.count c.in_ok-last-2.ensures.unit)
    c.in-Some-2.space (rw c.in-Some-2.is at c.in_ok-space-2.ensures.found))

pub returns-in-None-clause-says : goal.returns-in-None-clause-says
returns-in-None-clause-says c =
    left_said c.args.module.now c.field.ensures.well_formed c.requires.many c.in_ok-last.last
    (is_last_row c.args.module.now _ _ c.in_ok-last.last c.field.ensures.order c.dim-dim.ensures.count c.in_ok-last.ensures.unit)
    (rw c.in_default.is at c.in_ok-space.ensures) c.in_ok-last-2.last
    (is_last_row c.args.module.now _ _ c.in_ok-last-2.last c.field.ensures.order c.dim-dim.ensures.count c.in_ok-last-2.ensures.unit)
    (rw c.in-None.is at c.in_ok-space-2.ensures.found)
