use Rattle.axe_file.proofs.Soundness.{sound_bytes}
use Rattle.axe_file.proofs.Respelling.{respelled, unpacked_is_matrix}
use Rattle.axe_file.proofs.laws.faultless_bytes_are_spellings.Goals as goal

pub returns-clause-matrix : goal.returns-clause-matrix
returns-clause-matrix c = λ bytes e. unpacked_is_matrix bytes (sound_bytes bytes e).0

pub returns-clause-spelling : goal.returns-clause-spelling
returns-clause-spelling c = respelled
