use Rattle.std.proofs.Common.{◌∙◌}
use Rattle.axe_bits.proofs.TritHalves.{HoldLayers-all, HoldLayers-split, trits-all, trits-split}
use Rattle.axe_bits.proofs.trits.TritPlane.layers.Goals as goal

pub returns-clause-holds : goal.returns-clause-holds
returns-clause-holds c =
    HoldLayers-all _ _ _ _ _ c.self.view_is
    (HoldLayers-split _ _ _ _ _ _ _ c.self.invariant c.self.view_is c.deref.ensures.value (c.len.ensures ∙ c.self.inside.words.ok.0) c.split_at.ensures.front c.split_at.ensures.back)

pub returns-clause-digits : goal.returns-clause-digits
returns-clause-digits c =
    trits-all _ _ _ _ _ c.self.view_is
    (trits-split _ _ _ _ _ _ _ c.self.invariant c.self.view_is c.deref.ensures.value (c.len.ensures ∙ c.self.inside.words.ok.0) c.split_at.ensures.front c.split_at.ensures.back)
