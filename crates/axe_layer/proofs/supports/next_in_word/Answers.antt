use Rattle.std.proofs.Common.{arith}
use Rattle.axe_layer.proofs.NextDigits.{within_word}
use Rattle.axe_layer.proofs.SupportLaws.{first_place, no_place}
use Rattle.axe_layer.proofs.supports.next_in_word.Goals as goal

pub returns-then-rest-eq0 : goal.returns-then-rest-eq0
returns-then-rest-eq0 c = λ numbers support. no_place numbers c.args.start c.args.word support c.if-rest-eq0.true

pub overflow_add-result : goal.overflow_add-result
overflow_add-result c =
    omega (arith, within_word c.args.word c.args.start c.ranges.word.fits c.if-rest-eq0.false, c.ranges.start.fits)

pub returns : goal.returns
returns c = λ numbers support. first_place numbers c.args.start c.args.word support c.ranges.word.fits c.if-rest-eq0.false
