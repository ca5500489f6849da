use Rattle.std.proofs.Common.{refl}
use Rattle.axe_word.proofs.TestedLaws.{null_accepted}
use Rattle.axe_word.proofs.tested.Tested.of.Goals as goal

pub returns : goal.returns
returns c = (
  refl,
  record {
    null_space = null_accepted c.args.matrix _ c.requires c.in_ok-null_space.ensures.basis;
    well_formed = c.in_ok-null_space.ensures.well_formed;
  },
)
