use Rattle.std.proofs.Common.{◌≡◌, ◌<◌, length, map, inl, inr, sym, ap, ◌∙◌, arith}
use Rattle.std.proofs.lemmas.Bool.{cases_cond}
use Rattle.axe_row.specs.Rows.{RowValue}
use Rattle.axe_matrix.specs.Limits.{most_rows}
use Rattle.axe_matrix.specs.Matrices.{MatrixValue}
use Rattle.axe_matrix.proofs.RowListLaws.{MakeMatrix-push}
use Rattle.axe_matrix.proofs.sums.MatrixSum.append.Goals as goal

pub invariant_of-self : goal.invariant_of-self
invariant_of-self c =
    let field : c.args.sum.order ≡ c.self.inside.field = c.requires.field ∙ ap (λ (m : MatrixValue). m.order) (sym c.self.view_is) in
    let fits : length c.args.sum.entries ≡ c.self.inside.cols = c.requires.fits ∙ ap (λ (m : MatrixValue). m.cols) (sym c.self.view_is) in
    let room : length (map (λ (row : RowValue). row.entries) c.self.inside.rows.items) < most_rows =
    omega (arith, ap (λ (m : MatrixValue). length m.rows) c.self.view_is, c.requires.room) in
    let after = MakeMatrix-push c.self.inside.field c.self.inside.cols c.self.inside.rows.items c.args.sum c.self.invariant c.requires.row field fits room in
    elim (cases_cond _ _ _ _ c.push.ensures.items) [ inl e ↦ rw e after | inr e ↦ rw e c.self.invariant ]

pub returns-clause-well_formed : goal.returns-clause-well_formed
returns-clause-well_formed c = (invariant_of-self c).matrix
