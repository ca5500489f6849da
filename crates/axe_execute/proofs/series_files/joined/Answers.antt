use Rattle.std.proofs.Common.{rules}
use Rattle.axe_execute.proofs.series_files.joined.Goals as goal

pub returns : goal.returns
returns c = search rules
