use Rattle.std.proofs.Common.{rules}
use Rattle.axe_plane.proofs.number_words.words_of_block.Goals as goal

pub returns : goal.returns
returns c = search rules
