use Rattle.std.proofs.Common.{List, ℕ, length, ap, subst, arith}
use Rattle.axe_bits.specs.Combinations.{HaveEntrySums}
use Rattle.axe_bits.specs.Trits.{trit_entries}
use Rattle.axe_bits.proofs.TritTables.{length-trit_entries}
use Rattle.axe_bits.proofs.trit_table.TritTable.put_sums.Goals as goal

pub put_layer_sums-requires-clause-within : goal.put_layer_sums-requires-clause-within
put_layer_sums-requires-clause-within c =
    omega (arith, c.requires.within, ap length c.self.view_is, length-trit_entries c.self.inside.ones c.self.inside.twos)

pub returns : goal.returns
returns c =
    subst (λ (s : List (List ℕ)). HaveEntrySums 3 c.args.start c.args.count s (trit_entries c.put_layer_sums.new.ones c.put_layer_sums.new.twos))
    c.self.view_is c.put_layer_sums.ensures.sums
