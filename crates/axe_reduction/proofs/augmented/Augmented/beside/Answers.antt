use Rattle.axe_reduction.proofs.BesideLaws.{augmented-IsAugmented}
use Rattle.axe_reduction.proofs.augmented.Augmented.beside.Goals as goal

pub returns-clause-well_formed : goal.returns-clause-well_formed
returns-clause-well_formed c =
    augmented-IsAugmented c.args.left c.args.right (record {
      field = c.requires.field;
      as_many = c.requires.as_many;
      left = c.rows.ensures.well_formed;
      right = c.rows-2.ensures.well_formed;
    })
