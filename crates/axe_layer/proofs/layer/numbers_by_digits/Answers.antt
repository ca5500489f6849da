use Rattle.std.proofs.Common.{◌+◌, ◌*◌, ◌≤◌, arith, refl}
use Rattle.axe_layer.proofs.PieceBits.{four_pieces}
use Rattle.axe_layer.proofs.layer.numbers_by_digits.Goals as goal

pub returns-then-size-gt2-clause-value : goal.returns-then-size-gt2-clause-value
returns-then-size-gt2-clause-value c =
    let inside : c.args.at + 4 * c.args.size ≤ c.args.len = omega (arith, c.if-at-len.false, c.if-len-at.false) in
    four_pieces _ _ _ _ c.args.at _ _ c.args.words.now _ c.if-base-eq3.true refl inside c.requires.short c.word_from-word.ensures
    c.numbers_in_base_three.ensures.value

pub returns-in-1-clause-value : goal.returns-in-1-clause-value
returns-in-1-clause-value c =
    let inside : c.args.at + 4 * c.args.size ≤ c.args.len = omega (arith, c.if-at-len.false, c.if-len-at.false) in
    four_pieces _ _ _ _ c.args.at _ _ c.args.words.now _ refl c.in-1.is inside c.requires.short c.word_from-word.ensures c.numbers_of_word.ensures.value

pub returns-in-2-clause-value : goal.returns-in-2-clause-value
returns-in-2-clause-value c =
    let inside : c.args.at + 4 * c.args.size ≤ c.args.len = omega (arith, c.if-at-len.false, c.if-len-at.false) in
    four_pieces _ _ _ _ c.args.at _ _ c.args.words.now _ refl c.in-2.is inside c.requires.short c.word_from-word.ensures c.numbers_of_word-in-2.ensures.value

pub returns-in-3-clause-value : goal.returns-in-3-clause-value
returns-in-3-clause-value c =
    let inside : c.args.at + 4 * c.args.size ≤ c.args.len = omega (arith, c.if-at-len.false, c.if-len-at.false) in
    four_pieces _ _ _ _ c.args.at _ _ c.args.words.now _ refl c.in-3.is inside c.requires.short c.word_from-word.ensures c.numbers_of_word-in-3.ensures.value

pub returns-in-4-clause-value : goal.returns-in-4-clause-value
returns-in-4-clause-value c =
    let inside : c.args.at + 4 * c.args.size ≤ c.args.len = omega (arith, c.if-at-len.false, c.if-len-at.false) in
    four_pieces _ _ _ _ c.args.at _ _ c.args.words.now _ refl c.in-4.is inside c.requires.short c.word_from-word.ensures c.numbers_of_word-in-4.ensures.value
