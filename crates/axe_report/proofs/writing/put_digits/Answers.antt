use Rattle.std.proofs.Common.{refl}
use Rattle.axe_report.proofs.Lines.{digit_more, digits_begun}
use Rattle.axe_report.proofs.writing.put_digits.Goals as goal

pub loop-digit-init : goal.loop-digit-init
loop-digit-init c = digits_begun c.args.text.now.items

pub loop-digit-preserved : goal.loop-digit-preserved
loop-digit-preserved c =
    digit_more c.args.digits.now c.loop-digit.digit-index _ c.args.text.now.items c.loop-digit.text.items c.push.new.self.items c.loop-digit-test.true refl c.loop-digit.invariant c.in_ok-push.ensures.items
