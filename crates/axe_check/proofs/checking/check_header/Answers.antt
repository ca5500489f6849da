use Rattle.std.proofs.Common.{rules}
use Rattle.axe_check.proofs.checking.check_header.Goals as goal

pub returns-then-ne : goal.returns-then-ne
returns-then-ne c = search rules

pub returns : goal.returns
returns c = search rules
