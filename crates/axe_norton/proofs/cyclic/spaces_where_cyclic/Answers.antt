use Rattle.std.proofs.Common.{sym, ◌∙◌, arith}
use Rattle.axe_norton.specs.SmallFactors.{first_unit_row}
use Rattle.axe_norton.proofs.CyclicLaws.{divisor_is_no_greater, cyclic_fits, cyclic_spaces}
use Rattle.axe_norton.proofs.MisfitLaws.{basis_like}
use Rattle.axe_norton.proofs.cyclic.spaces_where_cyclic.Goals as goal

pub null_space_where_seen-requires-clause-basis : goal.null_space_where_seen-requires-clause-basis
null_space_where_seen-requires-clause-basis c =
    basis_like c.args.matrix.now (first_unit_row c.args.matrix.now) c.args.first.now c.requires.first

pub null_space_where_seen-requires-clause-fits : goal.null_space_where_seen-requires-clause-fits
null_space_where_seen-requires-clause-fits c =
    cyclic_fits c.args.matrix.now c.args.poly.now c.args.first.now c.requires.square c.requires.field c.requires.first
    c.degree.ensures.well_formed c.requires.divides
    (sym c.degree-2.ensures.value ∙ c.if-degree-cols.false ∙ c.cols.ensures.count)

pub polynomial_rows-requires-clause-field : goal.polynomial_rows-requires-clause-field
polynomial_rows-requires-clause-field c = c.requires.field ∙ sym c.requires.first.field

pub polynomial_rows-requires-clause-enough : goal.polynomial_rows-requires-clause-enough
polynomial_rows-requires-clause-enough c = omega (
  arith,
  c.requires.first.count,
  divisor_is_no_greater c.args.matrix.now c.args.poly.now c.args.first.now c.requires.square c.requires.field c.requires.first
      c.degree.ensures.well_formed c.requires.divides,
)

pub returns : goal.returns
returns c =
    cyclic_spaces c.args.matrix.now c.args.poly.now c.args.first.now c.requires.square c.requires.field c.requires.first
    c.degree.ensures.well_formed c.requires.divides
    (sym c.degree-2.ensures.value ∙ c.if-degree-cols.false ∙ c.cols.ensures.count) c.in-Some.null_space c.in_ok-rows.rows
    (rw c.in-Some.is at c.in_ok-null_space.ensures) c.in_ok-rows.ensures
