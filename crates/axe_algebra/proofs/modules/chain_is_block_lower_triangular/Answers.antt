use Rattle.axe_algebra.specs.Bridge.{field_of}
use Rattle.axe_algebra.proofs.Flags.{flag_is_block_triangular, block_triangular_is_flag}
use Rattle.axe_algebra.proofs.modules.chain_is_block_lower_triangular.Goals as goal

pub returns-clause-forth : goal.returns-clause-forth
returns-clause-forth c K = flag_is_block_triangular (field_of K)

pub returns-clause-back : goal.returns-clause-back
returns-clause-back c K = block_triangular_is_flag (field_of K)
