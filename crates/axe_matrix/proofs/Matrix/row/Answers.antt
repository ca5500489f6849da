use Rattle.std.proofs.lemmas.Grind.{common_steps}
use Rattle.std.proofs.Common.{◌≡◌, ◌<◌, length, sym, ap, ◌∙◌, arith}
use Rattle.std.proofs.lemmas.List.{length-map}
use Rattle.axe_row.specs.Rows.{RowValue}
use Rattle.axe_matrix.specs.Matrices.{MatrixValue}
use Rattle.axe_matrix.proofs.RowListLaws.{IsRow-at, length-at}
use Rattle.axe_matrix.proofs.Matrix.row.Goals as goal

within : (c : goal.After-index) → c.args.index < length c.self.inside.rows.items
within c =
    let same : length c.args.self.now.rows ≡ length c.self.inside.rows.items =
    ap (λ (m : MatrixValue). length m.rows) (sym c.self.view_is) ∙ length-map c.self.inside.rows.items (λ (row : RowValue). row.entries) in
    omega (arith, same, c.requires)

pub returns-clause-as_long : goal.returns-clause-as_long
returns-clause-as_long c =
    length-at _ _ c.self.inside.rows.items c.args.index c.index.result.now c.self.invariant (within c) c.index.ensures ∙ ap (λ (m : MatrixValue). m.cols) c.self.view_is

pub returns-clause-row_well_formed : goal.returns-clause-row_well_formed
returns-clause-row_well_formed c = IsRow-at _ _ c.self.inside.rows.items c.args.index c.index.result.now c.self.invariant (within c) c.index.ensures

pub index-requires : goal.index-requires
index-requires c = grind (arith, common_steps)

pub returns-clause-value : goal.returns-clause-value
returns-clause-value c = grind (arith, common_steps)
