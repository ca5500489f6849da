use Rattle.std.proofs.Common.{refl}
use Rattle.axe_report.proofs.Lines.{digit_read, no_digits_read}
use Rattle.axe_report.proofs.WitnessLaws.{digit_least}
use Rattle.axe_report.proofs.witnesses.digits_of.Goals as goal

pub loop-byte-init : goal.loop-byte-init
loop-byte-init c = no_digits_read c.new-digits.result.items c.new-digits.ensures.items

pub loop-byte-preserved : goal.loop-byte-preserved
loop-byte-preserved c =
    digit_read c.args.numeral.now c.loop-byte.digits.items c.push.new.self.items c.loop-byte.byte-index _ c.loop-byte-test.true refl
    (digit_least _ (c.requires c.loop-byte.byte-index 0 c.loop-byte-test.true)) c.loop-byte.invariant c.in_ok-push.ensures.items
