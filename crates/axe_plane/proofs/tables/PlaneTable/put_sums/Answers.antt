use Rattle.std.proofs.Common.{rules}
use Rattle.axe_plane.proofs.tables.PlaneTable.put_sums.Goals as goal

pub returns-in-Bits-clause-sums : goal.returns-in-Bits-clause-sums
returns-in-Bits-clause-sums c = search rules

pub returns-in-Trits-clause-sums : goal.returns-in-Trits-clause-sums
returns-in-Trits-clause-sums c = search rules

pub returns-in-Bytes-clause-sums : goal.returns-in-Bytes-clause-sums
returns-in-Bytes-clause-sums c = search rules
