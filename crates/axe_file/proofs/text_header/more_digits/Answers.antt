use Rattle.std.proofs.Common.{◌+◌, sym, ◌∙◌, rules, arith}
use Rattle.axe_file.proofs.TextScans.{digit_low, digit_high, fits_so_far, digits_more, digits_stopped, digits_ended}
use Rattle.axe_file.proofs.text_header.more_digits.Goals as goal

pub returns-then-not-is_digit-clause-read : goal.returns-then-not-is_digit-clause-read
returns-then-not-is_digit-clause-read c next =
    digits_stopped c.args.bytes.now c.args.start c.args.first c.loop-at.at c.loop-at.value c.loop-at.invariant (omega arith) (omega arith) (sym c.is_digit.ensures ∙ c.if-not-is_digit.true) next

pub overflow_mul-value : goal.overflow_mul-value
overflow_mul-value c =
    let small = fits_so_far c.args.bytes.now c.args.start c.args.first c.loop-at.at c.loop-at.value c.loop-at.invariant (omega arith) in
    omega arith

pub overflow_sub-bytes-in-loop-at : goal.overflow_sub-bytes-in-loop-at
overflow_sub-bytes-in-loop-at c = digit_low _ (sym c.is_digit.ensures ∙ c.if-not-is_digit.false)

pub overflow_add-value : goal.overflow_add-value
overflow_add-value c =
    let small = fits_so_far c.args.bytes.now c.args.start c.args.first c.loop-at.at c.loop-at.value c.loop-at.invariant (omega arith) in
    let high = digit_high _ (sym c.is_digit.ensures ∙ c.if-not-is_digit.false) in
    omega arith

pub loop-at-preserved : goal.loop-at-preserved
loop-at-preserved c =
    digits_more c.args.bytes.now c.args.start c.args.first c.loop-at.at c.loop-at.value c.from.result c.loop-at.invariant (omega arith) (omega arith) (sym c.is_digit.ensures ∙ c.if-not-is_digit.false) (search rules)

pub returns-clause-read : goal.returns-clause-read
returns-clause-read c next =
    digits_ended c.args.bytes.now c.args.start c.args.first c.loop-at.at c.loop-at.value (c.args.start + c.min.result) c.loop-at.invariant c.requires.within (omega arith) (omega arith) (omega arith) next
