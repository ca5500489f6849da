use Rattle.std.proofs.Common.{◌≡◌, ◌+◌, ◌/◌, length, replicate, ap, sym, ◌∙◌, arith, subst, lit<}
use Rattle.axe_lane.proofs.ByteLaws.{multiple_by_zero, multiple_by_one}
use Rattle.axe_layer.specs.Bits.{bits, HoldsBits}
use Rattle.axe_lane.specs.Bytes.{AreDigits}
use Rattle.axe_layer.proofs.BitLaws.{AreDigits-bits, HoldsBits-zeros, bits-zeros, length-bits}
use Rattle.axe_bits.proofs.bits.BitPlane.scale.Goals as goal

pub invariant_of-self : goal.invariant_of-self
invariant_of-self c =
    let size : c.self.inside.words.len ≡ (c.self.inside.len + 63) / 64 = omega (arith, c.self.invariant.long, c.self.inside.words.ok.0) in
    subst (HoldsBits c.self.inside.len) (sym (c.fill.ensures.items (λ y e. e))) (HoldsBits-zeros c.self.inside.len c.self.inside.words.len c.self.invariant.counted size)

pub returns-then-factor-eq0 : goal.returns-then-factor-eq0
returns-then-factor-eq0 c =
    let long : c.self.inside.len ≡ length c.args.self.now =
    sym (length-bits c.self.inside.len c.self.inside.words.items) ∙ ap length c.self.view_is in
    ap (bits c.self.inside.len) (c.fill.ensures.items (λ y e. e)) ∙ bits-zeros c.self.inside.len c.self.inside.words.len
    ∙ ap (λ n. replicate n 0) long ∙ multiple_by_zero 2 c.args.factor c.if-factor-eq0.true (lit< tt) c.args.self.now

pub returns-else-factor-eq0 : goal.returns-else-factor-eq0
returns-else-factor-eq0 c =
    let one : c.args.factor ≡ 1 = omega arith in
    multiple_by_one 2 c.args.factor one c.args.self.now
    (subst (AreDigits 2) c.self.view_is (AreDigits-bits c.self.inside.len c.self.inside.words.items))
