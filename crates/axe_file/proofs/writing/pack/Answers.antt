use Rattle.std.proofs.Common.{rules}
use Rattle.axe_file.proofs.writing.pack.Goals as goal

pub pack_many-requires-in-4-clause-marks : goal.pack_many-requires-in-4-clause-marks
pack_many-requires-in-4-clause-marks c = search rules
