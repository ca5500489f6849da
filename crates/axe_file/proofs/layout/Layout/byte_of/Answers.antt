use Rattle.std.proofs.Common.{ℕ, ◌+◌, ◌*◌, get_or, refl, sym, ◌∙◌, arith}
use Rattle.axe_algebra.specs.Digits.{number_with_digits}
use Rattle.axe_file.proofs.Digits.{number_more}
use Rattle.axe_file.proofs.Bytes.{eight-marks, element_at}
use Rattle.axe_file.proofs.Layouts.{column_fits, step_fits, byte_by_digits}
use Rattle.axe_file.proofs.layout.Layout.byte_of.Goals as goal

pub overflow_mul-place : goal.overflow_mul-place
overflow_mul-place c =
    omega (arith, column_fits c.args.self.now.field c.args.self.now.columns c.args.place c.args.self.now.marks c.args.self.now.columns_fit c.requires.place c.args.self.now.marks_is)

pub overflow_add-place : goal.overflow_add-place
overflow_add-place c =
    omega (arith, c.args.self.now.marks_is, eight-marks c.args.self.now.field, column_fits c.args.self.now.field c.args.self.now.columns c.args.place c.args.self.now.marks c.args.self.now.columns_fit c.requires.place c.args.self.now.marks_is)

pub loop-index-init : goal.loop-index-init
unfolding number_with_digits
loop-index-init c = refl

pub overflow_mul-byte : goal.overflow_mul-byte
overflow_mul-byte c =
    let d = λ (j : ℕ). get_or c.args.row.now (c.args.place * c.args.self.now.marks + j) 0 in
    let fits = step_fits c.args.self.now.field c.order-order.result c.args.self.now.marks d c.loop-index.index c.order-order.ensures.value c.args.self.now.marks_is
    c.loop-index-test.true (λ j. element_at c.args.self.now.field c.args.row.now (c.args.place * c.args.self.now.marks + j) c.requires.elements) in
    rw c.loop-index.invariant (omega (arith, fits))

pub overflow_add-byte : goal.overflow_add-byte
overflow_add-byte c =
    let d = λ (j : ℕ). get_or c.args.row.now (c.args.place * c.args.self.now.marks + j) 0 in
    let fits = step_fits c.args.self.now.field c.order-order.result c.args.self.now.marks d c.loop-index.index c.order-order.ensures.value c.args.self.now.marks_is
    c.loop-index-test.true (λ j. element_at c.args.self.now.field c.args.row.now (c.args.place * c.args.self.now.marks + j) c.requires.elements) in
    rw (c.loop-index.invariant, c.mark_in.ensures) (omega (arith, fits))

pub loop-index-preserved : goal.loop-index-preserved
loop-index-preserved c =
    rw (c.loop-index.invariant, c.mark_in.ensures) (sym (number_more c.order-order.result (λ j. get_or c.args.row.now (c.args.place * c.args.self.now.marks + j) 0) c.loop-index.index))

pub returns : goal.returns
returns c =
    c.loop-index.invariant
    ∙ byte_by_digits c.args.self.now.field c.order-order.result c.args.self.now.marks c.args.row.now c.args.place c.loop-index.index
    c.order-order.ensures.value c.args.self.now.marks_is (omega arith)
