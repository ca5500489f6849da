use Rattle.std.proofs.Common.{refl, sym, ◌∙◌, rules, arith}
use Rattle.axe_file.proofs.TextScans.{digit_low, digit_high, numeral_read, numeral_unread, numeral_at_end}
use Rattle.axe_file.proofs.text_header.numeral.Goals as goal
use Rattle.axe_file.proofs.text_header.numeral.Goals.{else-start-bytes-via-then-start-bytes+else-is_digit, else-start-bytes-via-else-start-bytes}

pub overflow_sub-bytes : goal.overflow_sub-bytes
overflow_sub-bytes c = digit_low _ (sym c.is_digit.ensures ∙ c.if-is_digit.true)

pub more_digits-requires-clause-digit : goal.more_digits-requires-clause-digit
more_digits-requires-clause-digit c =
    let high = digit_high _ (sym c.is_digit.ensures ∙ c.if-is_digit.true) in
    omega arith

pub returns-then-is_digit-clause-read : goal.returns-then-is_digit-clause-read
returns-then-is_digit-clause-read c next =
    numeral_read c.args.bytes.now c.args.start c.from.result c.if-start-bytes.true (sym c.is_digit.ensures ∙ c.if-is_digit.true) (search rules) next ∙ c.more_digits.ensures.read next

pub returns-else-start-bytes-clause-read : goal.returns-else-start-bytes-clause-read
returns-else-start-bytes-clause-read c next = elim c.else-start-bytes.branch [
  | else-start-bytes-via-then-start-bytes+else-is_digit w ↦ (c.args.start, refl, numeral_unread c.args.bytes.now c.args.start w.if-start-bytes.true (sym w.is_digit.ensures ∙ w.if-is_digit.false) next)
  | else-start-bytes-via-else-start-bytes w ↦ (c.args.start, refl, numeral_at_end c.args.bytes.now c.args.start w.if-start-bytes.false next)
]
