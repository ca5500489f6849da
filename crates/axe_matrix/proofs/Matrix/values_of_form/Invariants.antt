use Rattle.std.proofs.Common.{[], get_or, map}
use Rattle.axe_field.specs.Forms.{prime_order, form_value}
use Rattle.axe_matrix.proofs.PartialMatrices.{IsPartialMatrix}
use Rattle.axe_matrix.proofs.Matrix.values_of_form.Given as goal

abbrev pub invariant-loop-index : goal.invariant-loop-index
invariant-loop-index l =
    IsPartialMatrix (prime_order l.self.order) l.self.cols
    (λ i. map (form_value l.self.order l.form) (get_or l.self.rows i [])) l.index l.values
