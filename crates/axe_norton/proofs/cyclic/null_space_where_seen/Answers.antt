use Rattle.std.proofs.Common.{sym, ◌∙◌}
use Rattle.axe_norton.specs.NullRows.{AreNullPowers}
use Rattle.axe_norton.proofs.NullSpaceLaws.{null_space_of_rows}
use Rattle.axe_norton.proofs.cyclic.null_space_where_seen.Goals as goal

pub returns : goal.returns
returns c =
    let are : AreNullPowers c.args.matrix.now c.args.poly.now c.in-Some.rows = rw c.in-Some.is at c.in_ok-rows.ensures in
    null_space_of_rows c.args.matrix.now c.args.poly.now c.in-Some.rows c.in_ok-space.space _ c.requires.square
    c.requires.field c.degree.ensures.well_formed c.requires.fits are c.in_ok-space.ensures.span
    (sym c.dim.ensures.count ∙ c.if-dim-degree.false ∙ c.degree.ensures.value) c.in_ok-into_reduced.ensures.basis
    c.in_ok-into_reduced.ensures.matrix_well_formed
