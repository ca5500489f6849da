use Rattle.std.proofs.Common.{ap, subst, sym, ◌∙◌}
use Rattle.axe_layer.specs.Bits.{bits}
use Rattle.axe_layer.specs.Digits.{digits_with_multiple}
use Rattle.axe_bits.specs.Trits.{trits, HoldLayers}
use Rattle.axe_bits.proofs.trit_table.TritTable.add_entry.Goals as goal

pub add_layers-requires-clause-layers : goal.add_layers-requires-clause-layers
add_layers-requires-clause-layers c =
    subst (λ n. HoldLayers n c.entry.result.0.now c.entry.result.1.now) c.requires.fits c.entry.ensures.holds

pub returns : goal.returns
returns c =
    c.add_layers.ensures
    ∙ ap (digits_with_multiple 3 c.args.plane.now c.args.factor)
    (ap (λ n. trits (bits n c.entry.result.0.now) (bits n c.entry.result.1.now)) (sym c.requires.fits) ∙ c.entry.ensures.digits)
