use Rattle.std.proofs.Common.{◌≡◌, ◌*◌, ◌%◌, ◌^◌, ◌∙◌, sym, arith, lit<}
use Rattle.std.specs.Int.{w64}
use Rattle.std.proofs.lemmas.Nat.{or_lt, mod_below}
use Rattle.std.proofs.lemmas.Nat.Bits.{bit_at_set_same, bit_at_set_other, bit_at_clear_same, bit_at_clear_other}
use Rattle.axe_layer.proofs.parts.with_bit.Goals as goal

pub returns-then-bit-eq0-clause-changed : goal.returns-then-bit-eq0-clause-changed
returns-then-bit-eq0-clause-changed c = bit_at_clear_same w64 c.args.word c.args.place c.requires.place ∙ sym c.if-bit-eq0.true

pub returns-then-bit-eq0-clause-kept : goal.returns-then-bit-eq0-clause-kept
returns-then-bit-eq0-clause-kept c = bit_at_clear_other w64 c.args.word c.args.place c.requires.place

pub returns-else-bit-eq0-clause-fits : goal.returns-else-bit-eq0-clause-fits
returns-else-bit-eq0-clause-fits c =
    or_lt 64 c.args.word (1 * 2 ^ c.args.place % 2 ^ 64) c.ranges.word.fits (mod_below (1 * 2 ^ c.args.place) (2 ^ 64) (lit< tt))

pub returns-else-bit-eq0-clause-changed : goal.returns-else-bit-eq0-clause-changed
returns-else-bit-eq0-clause-changed c =
    let one : c.args.bit ≡ 1 = omega arith in
    bit_at_set_same w64 c.args.word c.args.place c.requires.place ∙ sym one

pub returns-else-bit-eq0-clause-kept : goal.returns-else-bit-eq0-clause-kept
returns-else-bit-eq0-clause-kept c = λ i _. bit_at_set_other w64 c.args.word c.args.place c.requires.place i
