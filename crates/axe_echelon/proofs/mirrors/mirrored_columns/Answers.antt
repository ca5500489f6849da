use Rattle.axe_echelon.proofs.MirroredLists.{columns_answer}
use Rattle.axe_echelon.proofs.mirrors.mirrored_columns.Goals as goal

pub returns : goal.returns
returns c =
    columns_answer c.args.matrix.now c.transpose_from_last.result c.cols.ensures.well_formed c.requires c.transpose_from_last.ensures.transpose
    c.transpose_from_last.ensures.well_formed
