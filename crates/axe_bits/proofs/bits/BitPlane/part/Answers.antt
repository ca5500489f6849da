use Rattle.std.proofs.Common.{◌≡◌, ◌+◌, List, ℕ, length, get_or, ap, ◌∙◌, arith}
use Rattle.axe_algebra.specs.Lists.{listed}
use Rattle.axe_layer.specs.Bits.{bits}
use Rattle.axe_layer.proofs.BitLaws.{plane_long, written}
use Rattle.axe_layer.proofs.DigitWords.{digits_of_part}
use Rattle.axe_bits.proofs.bits.BitPlane.part.Goals as goal

pub fill_with_part-requires-clause-within : goal.fill_with_part-requires-clause-within
fill_with_part-requires-clause-within c =
    omega (arith, c.requires, plane_long _ _ _ c.self.view_is, c.self.invariant.long, ap length c.deref.ensures.value)

pub fill_with_part-requires-clause-counted : goal.fill_with_part-requires-clause-counted
fill_with_part-requires-clause-counted c = omega (arith, c.requires, plane_long _ _ _ c.self.view_is, c.self.invariant.counted)

pub returns : goal.returns
returns c =
    let plane : bits c.self.inside.len c.deref.result.now ≡ c.args.self.now = rw c.deref.ensures.value c.self.view_is in
    ap (bits c.args.len)
    (written _ _ _ c.in_ok-words.words.ok.0
    (omega (arith, c.fill_with_part.ensures.holds.long, c.in_ok-words.ensures.len, c.in_ok-words.words.ok.0, c.div_ceil.ensures)))
    ∙ c.fill_with_part.ensures.digits
    ∙ digits_of_part c.self.inside.len _ _ _ (omega (arith, c.requires, plane_long _ _ _ c.self.view_is))
    ∙ ap (λ (x : List ℕ). listed c.args.len (λ j. get_or x (c.args.start + j) 0)) plane
