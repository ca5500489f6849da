use Rattle.std.proofs.Common.{◌≡◌, ◌-◌, ◌∙◌, sym, suc, [], Bool, true, false, arith}
use Rattle.std.proofs.lemmas.List.{length-reverse}
use Rattle.axe_echelon.proofs.Exits.{no_memory}
use Rattle.axe_echelon.proofs.OrthogonalSpaces.{orthogonal_none, orthogonal_pivot, orthogonal_column, orthogonal_whole}
use Rattle.axe_echelon.proofs.null_spaces.orthogonal_rows.Goals as goal

not_both : (b : Bool) → b ≡ true → b ≡ false → ⊥
not_both b t f = cc

pub loop-column-init : goal.loop-column-init
loop-column-init c = record {
  so_far = orthogonal_none c.args.space.now c.cols-column.result c.in_ok-orthogonal.orthogonal
      (c.in_ok-orthogonal.ensures.no_rows
      ∙ (λ i. record { order = c.field.ensures.order i; cols = c.cols-2.ensures.count i; rows = [] }))
      c.cols-column.ensures.count;
  well_formed = c.in_ok-orthogonal.ensures.well_formed;
}

pub loop-column-preserved : goal.loop-column-preserved
loop-column-preserved c =
    let left : c.loop-column.column ≡ suc (c.loop-column.column - 1) = omega (arith, c.loop-column-test.true) in
    record {
      so_far = orthogonal_column c.args.space.now (c.loop-column.column - 1) c.loop-column.column c.loop-column.orthogonal c.append.new.self
          c.in_ok-vector.vector left c.loop-column.invariant.so_far (λ pivot. not_both c.is_pivot.result (c.is_pivot.ensures.1 pivot) c.if-is_pivot.false)
          c.in_ok-vector.ensures c.in_ok-append.ensures.appended;
      well_formed = c.append.ensures.well_formed;
    }

pub loop-column-preserved-then-is_pivot : goal.loop-column-preserved-then-is_pivot
loop-column-preserved-then-is_pivot c =
    let left : c.loop-column.column ≡ suc (c.loop-column.column - 1) = omega (arith, c.loop-column-test.true) in
    record {
      so_far = orthogonal_pivot c.args.space.now (c.loop-column.column - 1) c.loop-column.column c.loop-column.orthogonal left
          c.loop-column.invariant.so_far (c.is_pivot.ensures.0 c.if-is_pivot.true);
      well_formed = c.loop-column.invariant.well_formed;
    }

pub orthogonal_vector-requires-clause-no_pivot : goal.orthogonal_vector-requires-clause-no_pivot
orthogonal_vector-requires-clause-no_pivot c = λ pivot. not_both c.is_pivot.result (c.is_pivot.ensures.1 pivot) c.if-is_pivot.false

pub returns-clause-basis : goal.returns-clause-basis
returns-clause-basis c =
    let whole : c.loop-column.column ≡ 0 = omega (arith, c.loop-column-test.false) in
    orthogonal_whole c.args.space.now c.loop-column.column c.loop-column.orthogonal c.cols.ensures.well_formed c.loop-column.invariant.so_far whole

pub returns-clause-well_formed : goal.returns-clause-well_formed
returns-clause-well_formed c = c.loop-column.invariant.well_formed

pub with_capacity-requires-clause-some_column : goal.with_capacity-requires-clause-some_column
with_capacity-requires-clause-some_column c = omega (arith, c.cols-2.ensures.count, c.cols-2.ensures.well_formed.some_column)

pub with_capacity-requires-clause-columns_fit : goal.with_capacity-requires-clause-columns_fit
with_capacity-requires-clause-columns_fit c = omega (arith, c.cols-2.ensures.count, c.cols-2.ensures.well_formed.columns_fit)

pub orthogonal_vector-requires-clause-reduced : goal.orthogonal_vector-requires-clause-reduced
orthogonal_vector-requires-clause-reduced c = c.requires

pub append-requires-clause-field : goal.append-requires-clause-field
append-requires-clause-field c = c.in_ok-vector.ensures.field ∙ sym c.loop-column.invariant.so_far.field

pub append-requires-clause-fits : goal.append-requires-clause-fits
append-requires-clause-fits c =
    sym (length-reverse c.in_ok-vector.vector.entries) ∙ c.in_ok-vector.ensures.over.length_is ∙ sym c.loop-column.invariant.so_far.width

pub append-requires-clause-room : goal.append-requires-clause-room
append-requires-clause-room c =
    omega (arith, c.loop-column.invariant.so_far.few, c.loop-column-test.true, c.cols.ensures.well_formed.columns_fit)

pub returns-in_err-orthogonal-clause-basis : goal.returns-in_err-orthogonal-clause-basis
returns-in_err-orthogonal-clause-basis c = no_memory _ c.from_residual.result _ c.from_residual.ensures.1 c.in_err-orthogonal.ensures.no_rows

pub returns-in_err-orthogonal-clause-well_formed : goal.returns-in_err-orthogonal-clause-well_formed
returns-in_err-orthogonal-clause-well_formed c = no_memory _ c.from_residual.result _ c.from_residual.ensures.1 c.in_err-orthogonal.ensures.no_rows

pub returns-in_err-vector-clause-basis : goal.returns-in_err-vector-clause-basis
returns-in_err-vector-clause-basis c = no_memory _ c.from_residual-in_err-vector.result _ c.from_residual-in_err-vector.ensures.1 c.in_err-vector.ensures

pub returns-in_err-vector-clause-well_formed : goal.returns-in_err-vector-clause-well_formed
returns-in_err-vector-clause-well_formed c = no_memory _ c.from_residual-in_err-vector.result _ c.from_residual-in_err-vector.ensures.1 c.in_err-vector.ensures

pub returns-in_err-append-clause-basis : goal.returns-in_err-append-clause-basis
returns-in_err-append-clause-basis c = no_memory _ c.from_residual-in_err-append.result _ c.from_residual-in_err-append.ensures.1 c.in_err-append.ensures.appended

pub returns-in_err-append-clause-well_formed : goal.returns-in_err-append-clause-well_formed
returns-in_err-append-clause-well_formed c =
    no_memory _ c.from_residual-in_err-append.result _ c.from_residual-in_err-append.ensures.1 c.in_err-append.ensures.appended
