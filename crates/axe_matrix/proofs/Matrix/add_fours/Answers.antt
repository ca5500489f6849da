use Rattle.std.proofs.Common.{refl, sym, ap, ◌∙◌, subst}
use Rattle.std.specs.List.{All}
use Rattle.axe_field.specs.Order.{Order, IsElement}
use Rattle.axe_row.proofs.RowLaws.{same_row}
use Rattle.axe_matrix.specs.VectorTerms.{row_with_first_terms}
use Rattle.axe_matrix.proofs.DirectRows.{so_many_terms, no_terms}
use Rattle.axe_matrix.proofs.Matrix.add_fours.Goals as goal

pub returns-then-scalar-ne1-clause-sum : goal.returns-then-scalar-ne1-clause-sum
returns-then-scalar-ne1-clause-sum c =
    let over_r = subst (λ (o : Order). All (IsElement o) c.args.row.now.entries) c.requires.row_field c.len.ensures.well_formed.elements in
    same_row c.args.row.now (row_with_first_terms c.args.row.now c.args.scalar c.args.vector.now c.args.self.now 0) refl
    (no_terms c.args.self.now c.args.row.now.entries c.args.scalar c.args.vector.now.entries c.requires.element over_r c.requires.columns_fit
    ∙ ap (λ (o : Order). so_many_terms (record { order = o; cols = c.args.self.now.cols; rows = c.args.self.now.rows }) c.args.row.now.entries c.args.scalar c.args.vector.now.entries 0)
    (sym c.requires.row_field))
