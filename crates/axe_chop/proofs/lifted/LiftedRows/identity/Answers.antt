use Rattle.axe_chop.proofs.Choosing.{identity_is_matrix}
use Rattle.axe_chop.proofs.lifted.LiftedRows.identity.Goals as goal

pub invariant_of-result : goal.invariant_of-result
invariant_of-result c = record {
  well_formed = identity_is_matrix c.args.field c.args.dim c.requires.some_column c.requires.columns_fit;
  within = tt;
}
