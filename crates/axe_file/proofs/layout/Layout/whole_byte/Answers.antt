use Rattle.std.proofs.Common.{ℕ, ◌+◌, ◌*◌, get_or, refl, sym, ◌∙◌, arith}
use Rattle.axe_algebra.specs.Digits.{number_with_digits}
use Rattle.axe_file.proofs.Digits.{number_more}
use Rattle.axe_file.proofs.Bytes.{element_at}
use Rattle.axe_file.proofs.Layouts.{step_fits, byte_by_digits}
use Rattle.axe_file.proofs.layout.Layout.whole_byte.Goals as goal

pub loop-index-init : goal.loop-index-init
unfolding number_with_digits
loop-index-init g c = refl

pub overflow_mul-byte : goal.overflow_mul-byte
overflow_mul-byte g c =
    let d = λ (j : ℕ). get_or c.args.row.now (c.args.place * g.row.COUNT + j) 0 in
    let fits = step_fits c.args.self.now.field c.order-order.result g.row.COUNT d c.loop-index.index c.order-order.ensures.value (sym c.requires.marks ∙ c.args.self.now.marks_is)
    c.loop-index-test.true (λ j. element_at c.args.self.now.field c.args.row.now (c.args.place * g.row.COUNT + j) c.requires.elements) in
    record { fits = rw c.loop-index.invariant (omega (arith, fits)) }

pub overflow_add-byte-in-loop-index : goal.overflow_add-byte-in-loop-index
overflow_add-byte-in-loop-index g c =
    let d = λ (j : ℕ). get_or c.args.row.now (c.args.place * g.row.COUNT + j) 0 in
    let fits = step_fits c.args.self.now.field c.order-order.result g.row.COUNT d c.loop-index.index c.order-order.ensures.value (sym c.requires.marks ∙ c.args.self.now.marks_is)
    c.loop-index-test.true (λ j. element_at c.args.self.now.field c.args.row.now (c.args.place * g.row.COUNT + j) c.requires.elements) in
    record { fits = rw c.loop-index.invariant (omega (arith, fits)) }

pub loop-index-preserved : goal.loop-index-preserved
loop-index-preserved g c =
    rw c.loop-index.invariant (sym (number_more c.order-order.result (λ j. get_or c.args.row.now (c.args.place * g.row.COUNT + j) 0) c.loop-index.index))

pub returns : goal.returns
returns g c =
    c.loop-index.invariant
    ∙ byte_by_digits c.args.self.now.field c.order-order.result g.row.COUNT c.args.row.now c.args.place c.loop-index.index
    c.order-order.ensures.value (sym c.requires.marks ∙ c.args.self.now.marks_is) (omega arith)
