use Rattle.axe_layer.proofs.BitLaws.{bits-set, HoldsBits-set}
use Rattle.axe_layer.proofs.layer.set_bit.Goals as goal

pub returns-clause-holds : goal.returns-clause-holds
returns-clause-holds c = λ n below held.
    HoldsBits-set n _ _ c.args.digit _ below (record {
      within = c.requires.index;
      fits = c.with_bit.ensures.fits;
      changed = c.with_bit.ensures.changed;
      kept = c.with_bit.ensures.kept;
    }) held

pub returns-clause-digits : goal.returns-clause-digits
returns-clause-digits c = λ n below.
    bits-set n _ _ c.args.digit _ below (record {
      within = c.requires.index;
      fits = c.with_bit.ensures.fits;
      changed = c.with_bit.ensures.changed;
      kept = c.with_bit.ensures.kept;
    })
