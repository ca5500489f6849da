use Rattle.std.proofs.Common.{arith}
use Rattle.axe_layer.proofs.BitLaws.{plane_long}
use Rattle.axe_layer.proofs.WordWrites.{IsCutWord, HoldsBits-cut, bits-cut, digits_with_word-past}
use Rattle.axe_bits.proofs.bits.BitPlane.set_word.Goals as goal

pub invariant_of-self : goal.invariant_of-self
invariant_of-self c =
    let cut : IsCutWord c.self.inside.len c.self.inside.words.items c.args.at c.args.word c.lowest.result = record {
      within = omega (arith, c.if-at-len.true, c.len.ensures);
      fits = c.lowest.type_inv;
      kept = c.lowest.ensures.kept;
      cleared = c.lowest.ensures.cleared;
    } in
    HoldsBits-cut _ _ _ _ _ cut c.self.invariant

pub returns-then-at-len : goal.returns-then-at-len
returns-then-at-len c =
    let cut : IsCutWord c.self.inside.len c.self.inside.words.items c.args.at c.args.word c.lowest.result = record {
      within = omega (arith, c.if-at-len.true, c.len.ensures);
      fits = c.lowest.type_inv;
      kept = c.lowest.ensures.kept;
      cleared = c.lowest.ensures.cleared;
    } in
    bits-cut _ _ _ _ _ _ cut c.self.view_is

pub returns-else-at-len : goal.returns-else-at-len
returns-else-at-len c =
    digits_with_word-past _ _ _ (omega (arith, c.if-at-len.false, c.len.ensures, c.self.invariant.long, plane_long _ _ _ c.self.view_is))
