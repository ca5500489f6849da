use Rattle.std.proofs.Common.{arith, ◌∙◌, sym}
use Rattle.std.proofs.lemmas.List.{get_or_past}
use Rattle.std.proofs.lemmas.Grind.{get_or_default_zero}
use Rattle.axe_layer.proofs.WordWrites.{word_of_digits}
use Rattle.axe_bits.proofs.bits.BitPlane.word.Goals as goal

pub returns-then-at-len : goal.returns-then-at-len
returns-then-at-len c = λ i low.
    word_of_digits _ _ _ c.args.at _ i c.self.invariant c.self.view_is
    (c.index.ensures ∙ get_or_default_zero c.self.inside.words.items c.args.at c.index.result.now (omega (arith, c.if-at-len.true, c.len.ensures))) low

pub returns-else-at-len : goal.returns-else-at-len
returns-else-at-len c = λ i low.
    word_of_digits _ _ _ c.args.at 0 i c.self.invariant c.self.view_is
    (sym (get_or_past c.self.inside.words.items c.args.at 0 (omega (arith, c.if-at-len.false, c.len.ensures)))) low
