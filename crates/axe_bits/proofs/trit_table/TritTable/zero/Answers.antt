use Rattle.std.proofs.Common.{ap₂, ◌∙◌}
use Rattle.axe_bits.specs.Trits.{trit_entries}
use Rattle.axe_bits.proofs.TritTables.{zero_trit_entries}
use Rattle.axe_bits.proofs.trit_table.TritTable.zero.Goals as goal

pub returns : goal.returns
returns c = ap₂ trit_entries c.in_ok-ones.ensures c.in_ok-twos.ensures ∙ zero_trit_entries c.args.count c.args.len
