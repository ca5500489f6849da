use Rattle.std.proofs.Common.{◌≡◌, ◌++◌, None, sym, ap, subst, ◌∙◌}
use Rattle.axe_row.specs.Refusals.{Answers}
use Rattle.axe_matrix.specs.Matrices.{MatrixValue}
use Rattle.axe_chop.specs.Kept.{kept_rows}
use Rattle.axe_chop.proofs.lifted.LiftedRows.append_to.Goals as goal

pub returns-in_ok-units-in-Identity : goal.returns-in_ok-units-in-Identity
returns-in_ok-units-in-Identity c =
    let same : c.in_ok-units-in-Identity.units ≡ c.args.self.now =
    c.in_ok-units-in-Identity.ensures.identity ∙ sym (ap kept_rows c.in-Identity.is) ∙ c.self.view_is in
    record {
      rows = subst (λ (m : MatrixValue).
          Answers None (λ _. c.append_matrix.new.self ≡ record c.args.basis.now { rows = c.args.basis.now.rows ++ m.rows }) c.append_matrix.result)
          same c.append_matrix.ensures.rows;
    }
