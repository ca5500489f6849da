use Rattle.std.proofs.Common.{◌-◌, ap, ◌∙◌}
use Rattle.axe_bits.proofs.TritHalves.{HoldLayers-multiple, trits-multiple}
use Rattle.axe_bits.proofs.trits.TritPlane.multiple_layers.Goals as goal

pub returns-clause-holds : goal.returns-clause-holds
returns-clause-holds c =
    HoldLayers-multiple _ c.args.factor _ _ _ _ _ _ c.self.invariant c.self.view_is c.requires.some c.requires.factor c.deref.ensures.value c.deref-2.ensures.value
    (λ z. c.half_of.ensures.first (c.from-first.ensures ∙ z)) (λ z. c.half_of.ensures.second (c.from-first.ensures ∙ z))
    (λ z. c.half_of-2.ensures.first (ap (λ k. 1 - k) c.from-first.ensures ∙ z)) (λ z. c.half_of-2.ensures.second (ap (λ k. 1 - k) c.from-first.ensures ∙ z))

pub returns-clause-digits : goal.returns-clause-digits
returns-clause-digits c =
    trits-multiple _ c.args.factor _ _ _ _ _ _ c.self.invariant c.self.view_is c.requires.some c.requires.factor c.deref.ensures.value c.deref-2.ensures.value
    (λ z. c.half_of.ensures.first (c.from-first.ensures ∙ z)) (λ z. c.half_of.ensures.second (c.from-first.ensures ∙ z))
    (λ z. c.half_of-2.ensures.first (ap (λ k. 1 - k) c.from-first.ensures ∙ z)) (λ z. c.half_of-2.ensures.second (ap (λ k. 1 - k) c.from-first.ensures ∙ z))
