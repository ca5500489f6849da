use Rattle.std.proofs.Common.{rules}
use Rattle.axe_word.proofs.products.times.Goals as goal

pub returns-clause-product : goal.returns-clause-product
returns-clause-product c = search rules
