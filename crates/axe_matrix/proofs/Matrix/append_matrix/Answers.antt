use Rattle.std.proofs.lemmas.Grind.{common_steps}
use Rattle.std.proofs.Common.{◌≡◌, ◌+◌, ◌≤◌, length, inl, inr, subst, sym, ap, ◌∙◌, arith}
use Rattle.std.proofs.lemmas.Bool.{cases_cond}
use Rattle.axe_matrix.specs.Limits.{most_rows}
use Rattle.axe_matrix.specs.Matrices.{MatrixValue}
use Rattle.axe_matrix.specs.RowLists.{matrix_from_rows, MakeMatrix}
use Rattle.axe_matrix.proofs.SplitRows.{MakeMatrix-append}
use Rattle.axe_matrix.proofs.Matrix.append_matrix.Goals as goal

pub invariant_of-self-2 : goal.invariant_of-self-2
invariant_of-self-2 c =
    let o = c.self.inside.field in
    let n = c.self.inside.cols in
    let field : c.other.inside.field ≡ o =
    ap (λ (m : MatrixValue). m.order) c.other.view_is ∙ c.requires.field ∙ ap (λ (m : MatrixValue). m.order) (sym c.self.view_is) in
    let fits : c.other.inside.cols ≡ n =
    ap (λ (m : MatrixValue). m.cols) c.other.view_is ∙ c.requires.fits ∙ ap (λ (m : MatrixValue). m.cols) (sym c.self.view_is) in
    let more : MakeMatrix o n c.other.inside.rows.items =
    subst (λ x. MakeMatrix x n c.other.inside.rows.items) field
    (subst (λ x. MakeMatrix c.other.inside.field x c.other.inside.rows.items) fits c.other.invariant) in
    let mine = ap (λ (m : MatrixValue). length m.rows) c.self.view_is in
    let others = ap (λ (m : MatrixValue). length m.rows) c.other.view_is in
    let room : length (matrix_from_rows o n c.self.inside.rows.items).rows + length (matrix_from_rows o n c.other.inside.rows.items).rows ≤ most_rows =
    omega (arith, mine, others, c.requires.room) in
    elim (cases_cond _ _ _ _ c.append.ensures.items) [
      | inl e ↦ rw e (MakeMatrix-append o n c.self.inside.rows.items c.other.inside.rows.items c.self.invariant more room)
      | inr e ↦ rw e c.self.invariant
    ]

pub returns-clause-well_formed : goal.returns-clause-well_formed
returns-clause-well_formed c = (invariant_of-self-2 c).matrix

pub returns-clause-rows : goal.returns-clause-rows
returns-clause-rows c = grind (arith, common_steps)
