use Rattle.axe_file.proofs.Bytes.{limit-fits, greatest}
use Rattle.axe_file.proofs.laws.digits_per_byte_is_greatest.Goals as goal

pub returns-clause-fit : goal.returns-clause-fit
returns-clause-fit c = limit-fits

pub returns-clause-greatest : goal.returns-clause-greatest
returns-clause-greatest c = greatest
