use Rattle.axe_algebra.specs.Bridge.{field_of}
use Rattle.axe_algebra.proofs.Flags.{diagonal_block_is_section, section_is_diagonal_block}
use Rattle.axe_algebra.proofs.modules.diagonal_blocks_are_section_actions.Goals as goal

pub returns-clause-forth : goal.returns-clause-forth
returns-clause-forth c K = diagonal_block_is_section (field_of K)

pub returns-clause-back : goal.returns-clause-back
returns-clause-back c K = section_is_diagonal_block (field_of K)
