use Rattle.std.proofs.Common.{◌-◌, length, sym, ap, ◌∙◌, arith}
use Rattle.axe_field.specs.NumberFields.{number_field}
use Rattle.axe_field.specs.Order.{Order}
use Rattle.axe_row.specs.Rows.{RowValue}
use Rattle.axe_row.proofs.RowLaws.{same_row}
use Rattle.axe_matrix.specs.Products.{row_with_terms}
use Rattle.axe_matrix.specs.VectorTerms.{row_with_terms_between}
use Rattle.axe_matrix.proofs.BlockLaws.{length-row_with_terms}
use Rattle.axe_matrix.proofs.FourTerms.{over_field}
use Rattle.axe_matrix.proofs.LastTerms.{none_from, found_from, all_from}
use Rattle.axe_matrix.proofs.Matrix.add_last_terms.Goals as goal

pub loop-index-init : goal.loop-index-init
loop-index-init c =
    let over = over_field c.args.self.now c.args.sum.now c.args.vector.now c.rows.ensures.well_formed c.requires.well_formed c.len.ensures.well_formed
    c.requires.sum_field c.requires.vector_field in
    record {
      begun = omega arith;
      fits = c.requires.start;
      field = c.requires.sum_field;
      so_far = none_from c.args.self.now c.args.sum.now.entries c.args.vector.now.entries c.args.start over c.requires.columns_fit;
      well_formed = c.requires.well_formed;
    }

pub add_scaled_from-requires-clause-fits : goal.add_scaled_from-requires-clause-fits
add_scaled_from-requires-clause-fits c =
    c.row.ensures.as_long ∙ sym (ap length c.loop-index.invariant.so_far ∙ length-row_with_terms (number_field c.args.self.now.order) _ _ _ _ _ _ _)

pub loop-index-preserved : goal.loop-index-preserved
loop-index-preserved c =
    let invariant = c.loop-index.invariant in
    let next = c.in-Some.ensures in
    let over = over_field c.args.self.now c.args.sum.now c.args.vector.now c.rows.ensures.well_formed c.requires.well_formed c.len.ensures.well_formed
    c.requires.sum_field c.requires.vector_field in
    record {
      begun = omega (arith, invariant.begun, next.not_before);
      fits = omega (arith, next.within);
      field = ap (λ (r : RowValue). r.order) c.add_scaled_from.ensures.sum ∙ invariant.field;
      so_far =
          ap (λ (r : RowValue). r.entries) c.add_scaled_from.ensures.sum
          ∙ found_from c.args.self.now c.args.sum.now.entries c.args.vector.now.entries c.args.start over c.loop-index.place c.in-Some.index _ c.loop-index.sum _
          invariant.begun invariant.field invariant.so_far next c.get.ensures.entry c.row.ensures.value;
      well_formed = c.add_scaled_from.ensures.well_formed;
    }

pub returns-clause-sum : goal.returns-clause-sum
returns-clause-sum c =
    let invariant = c.loop-index.invariant in
    let over = over_field c.args.self.now c.args.sum.now c.args.vector.now c.rows.ensures.well_formed c.requires.well_formed c.len.ensures.well_formed
    c.requires.sum_field c.requires.vector_field in
    let v = c.args.vector.now.entries in
    let at = c.args.start in
    same_row c.loop-index.sum (row_with_terms_between c.args.sum.now 1 c.args.vector.now c.args.self.now at (length v)) (invariant.field ∙ sym c.requires.sum_field)
    (all_from c.args.self.now c.args.sum.now.entries v at over c.loop-index.place c.loop-index.sum.entries invariant.begun invariant.fits invariant.so_far
    c.in_default.ensures
    ∙ ap (λ (o : Order). row_with_terms (number_field o) c.args.self.now.cols c.args.sum.now.entries 1 v c.args.self.now.rows at (length v - at)) (sym c.requires.sum_field))

pub returns-clause-as_long : goal.returns-clause-as_long
returns-clause-as_long c =
    ap length c.loop-index.invariant.so_far ∙ length-row_with_terms (number_field c.args.self.now.order) _ _ _ _ _ _ _ ∙ sym c.requires.columns_fit
