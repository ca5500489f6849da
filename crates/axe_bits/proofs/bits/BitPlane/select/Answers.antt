use Rattle.std.proofs.Common.{length, ap, ◌∙◌, arith}
use Rattle.axe_layer.specs.Bits.{bits}
use Rattle.axe_layer.proofs.BitLaws.{plane_long, written}
use Rattle.axe_layer.proofs.DigitWords.{digits_gathered}
use Rattle.axe_bits.proofs.bits.BitPlane.select.Goals as goal

pub fill_with_selected-requires-clause-within : goal.fill_with_selected-requires-clause-within
fill_with_selected-requires-clause-within c = λ k d inside.
    omega (arith, c.requires.within k d inside, plane_long _ _ _ c.self.view_is, c.self.invariant.long, ap length c.deref.ensures.value)

pub returns : goal.returns
returns c =
    ap (bits (length c.args.indices.now))
    (written _ _ _ c.in_ok-words.words.ok.0
    (omega (arith, c.fill_with_selected.ensures.holds.long, c.in_ok-words.ensures.len, c.in_ok-words.words.ok.0, c.div_ceil.ensures)))
    ∙ c.fill_with_selected.ensures.digits
    ∙ digits_gathered c.self.inside.len c.deref.result.now _ _ (rw c.deref.ensures.value c.self.view_is) c.requires.within
