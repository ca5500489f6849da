use Rattle.std.proofs.Common.{◌≡◌}
use Rattle.axe_matrix.specs.Matrices.{IsMatrix}
use Rattle.axe_matrix.proofs.FormProducts.{product_of_terms}
use Rattle.axe_matrix.proofs.forms.product_by_forms.Given as goal

abbrev pub invariant-loop-index : goal.invariant-loop-index
invariant-loop-index l = record {
  so_far : l.product ≡ product_of_terms l.terms l.a l.b l.index;
  well_formed : IsMatrix l.product;
}
