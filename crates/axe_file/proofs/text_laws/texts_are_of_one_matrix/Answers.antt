use Rattle.axe_file.proofs.TextTexts.{one_matrix}
use Rattle.axe_file.proofs.text_laws.texts_are_of_one_matrix.Goals as goal

pub returns : goal.returns
returns c = one_matrix
