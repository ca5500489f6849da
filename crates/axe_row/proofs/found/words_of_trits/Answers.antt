use Rattle.std.proofs.Common.{refl, sym, arith}
use Rattle.std.proofs.lemmas.List.{get_or_past}
use Rattle.axe_bits.proofs.TritWordWrites.{digit_of_layers}
use Rattle.axe_row.proofs.found.words_of_trits.Goals as goal

pub returns-then-at-ones : goal.returns-then-at-ones
returns-then-at-ones c = λ i low.
    digit_of_layers _ _ _ _ c.args.at _ _ i c.layers.ensures.holds c.layers.ensures.digits refl refl low

pub returns-else-at-ones : goal.returns-else-at-ones
returns-else-at-ones c = λ i low.
    let ones = c.layers.ensures.holds.ones_held.long in
    let twos = c.layers.ensures.holds.twos_held.long in
    digit_of_layers _ _ _ _ c.args.at 0 0 i c.layers.ensures.holds c.layers.ensures.digits
    (sym (get_or_past c.layers.result.0.now c.args.at 0 (omega (arith, c.if-at-ones.false))))
    (sym (get_or_past c.layers.result.1.now c.args.at 0 (omega (arith, ones, twos, c.if-at-ones.false)))) low
