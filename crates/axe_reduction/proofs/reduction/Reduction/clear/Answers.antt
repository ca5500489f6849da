use Rattle.std.proofs.Common.{rules, ◌≡◌, arith, ap, sym, ◌∙◌, length, vec_len}
use Rattle.std.proofs.lemmas.Bool.{eqb-true}
use Rattle.axe_matrix.specs.Matrices.{MatrixValue}
use Rattle.axe_reduction.proofs.ClearLaws.{cleared_of_none}
use Rattle.axe_algebra.proofs.ListEntries.{listed_length}
use Rattle.axe_reduction.proofs.reduction.Reduction.clear.Goals as goal

pub returns-then-is_empty-clause-cleared : goal.returns-then-is_empty-clause-cleared
returns-then-is_empty-clause-cleared c =
    let empty : vec_len c.args.self.now.pivots ≡ 0 =
    eqb-true (vec_len c.args.self.now.pivots) 0 (sym c.if-is_empty.ensures) in
    cleared_of_none c.args.self.now.pivots.items c.args.self.now.reduced c.args.rows c.rows-3.ensures.well_formed
    (omega (arith, c.rows.ensures.count, c.len.ensures, c.if-prove.false, empty))

pub plus_product-requires-clause-rows_fit : goal.plus_product-requires-clause-rows_fit
plus_product-requires-clause-rows_fit c =
    ap (λ (m : MatrixValue). length m.rows) c.in_ok-entries.ensures.entries ∙ listed_length _ _

pub plus_product-requires-clause-element : goal.plus_product-requires-clause-element
plus_product-requires-clause-element c = search rules

pub returns-clause-cleared : goal.returns-clause-cleared
returns-clause-cleared c = search rules
