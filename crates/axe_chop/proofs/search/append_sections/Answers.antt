use Rattle.std.proofs.Common.{arith}
use Rattle.std.proofs.lemmas.List.{drop_all}
use Rattle.axe_echelon.proofs.Exits.{no_memory}
use Rattle.axe_chop.proofs.Stepping.{opening_end}
use Rattle.axe_chop.proofs.search.append_sections.Goals as goal

pub returns-in_err-append_rows_to-clause-appended : goal.returns-in_err-append_rows_to-clause-appended
returns-in_err-append_rows_to-clause-appended c =
    no_memory _ c.from_residual.result _ c.from_residual.ensures.1 c.in_err-append_rows_to.ensures.rows

pub returns-in_err-append_rows_to-clause-well_formed : goal.returns-in_err-append_rows_to-clause-well_formed
returns-in_err-append_rows_to-clause-well_formed c =
    no_memory _ c.from_residual.result _ c.from_residual.ensures.1 c.in_err-append_rows_to.ensures.rows

pub returns-clause-appended : goal.returns-clause-appended
returns-clause-appended c =
    opening_end _ c.loop-index.basis _ c.loop-index.invariant
    (drop_all c.loop-index.index c.args.sections.now.items (omega (arith, c.loop-index-test.false, c.len-index-end.ensures)))

pub returns-clause-well_formed : goal.returns-clause-well_formed
returns-clause-well_formed c = c.loop-index.invariant.formed
