use Rattle.std.proofs.Common.{◌∙◌, rules, arith}
use Rattle.axe_report.proofs.WitnessLaws.{word_is, poly_stops, witness_open, witness_there}
use Rattle.axe_report.proofs.witnesses.witness.Goals as goal

pub returns-in_default : goal.returns-in_default
returns-in_default c = λ w x is e. c.in_default.ensures w.word _ (omega (arith, is.word, c.requires.words)) (poly_stops w.poly x) (e ∙ witness_open w x)

pub returns-then-word-from : goal.returns-then-word-from
returns-then-word-from c = λ w x is e.
    let word = word_is c.args.text.now c.in-Some.after_word.now c.in-Some.word c.args.header.now w x c.requires (search rules) c.in-Some.ensures.0 c.in-Some.ensures.1 is e in
    omega (arith, word.0, is.word, c.if-word-from.true, c.from.ensures)

pub returns-in_default-2 : goal.returns-in_default-2
returns-in_default-2 c = λ w x is e.
    let word = word_is c.args.text.now c.in-Some.after_word.now c.in-Some.word c.args.header.now w x c.requires (search rules) c.in-Some.ensures.0 c.in-Some.ensures.1 is e in
    let none = rw c.in_default-2.is at c.in_ok-poly.ensures in
    none w.poly x is.poly word.1

pub returns : goal.returns
returns c =
    let found = rw c.in-Some-2.is at c.in_ok-poly.ensures in
    rw c.new.ensures (
      record { word = omega (arith, c.if-word-from.false, c.from.ensures); poly = found.0 },
      witness_there c.args.text.now c.in-Some.after_word.now c.in-Some-2.rest.now _ c.in-Some.ensures.0 found.1,
    )
