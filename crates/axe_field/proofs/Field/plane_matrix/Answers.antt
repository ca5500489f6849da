use Rattle.axe_field.proofs.Lookup.{matrices-at, matrix_along}
use Rattle.axe_field.proofs.Field.plane_matrix.Goals as goal

pub returns : goal.returns
returns c = record {
  value = matrix_along _ _ _ _ _ c.tables.ensures c.from.ensures (matrices-at c.args.self.now c.args.element c.requires);
}
