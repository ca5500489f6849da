use Rattle.std.proofs.Common.{length, ap, sym, ◌∙◌, arith}
use Rattle.std.proofs.lemmas.List.{length-set}
use Rattle.axe_bits.proofs.EntrySums.{AreSumsOfCopies-none, AreSumsOfCopies-more, AreSumsOfCopies-all}
use Rattle.axe_bits.proofs.TritTables.{length-trit_entries, HoldTritEntries-copies, trit_entries-copies}
use Rattle.axe_bits.proofs.bit_table.put_layer_sums.Goals as goal

pub loop-index-init : goal.loop-index-init
loop-index-init c = record {
  as_many = c.copy_entries.ensures.as_many;
  holds =
      HoldTritEntries-copies _ _ _ _ _ _ c.requires.entries c.requires.within c.copy_entries.ensures c.copy_entries-2.ensures;
  sums =
      AreSumsOfCopies-none _ _ _ _ _
      (trit_entries-copies _ _ _ _ _ _ c.requires.entries c.requires.within c.copy_entries.ensures c.copy_entries-2.ensures
      c.requires.some);
}

pub loop-index-preserved : goal.loop-index-preserved
loop-index-preserved c = record {
  as_many =
      sym (length-trit_entries _ _) ∙ ap length c.add_layers_to_later.ensures.digits ∙ length-set _ _ _
      ∙ length-trit_entries _ _ ∙ c.loop-index.invariant.as_many;
  holds = c.add_layers_to_later.ensures.holds;
  sums =
      AreSumsOfCopies-more _ _ _ _ _ _ _ c.loop-index.invariant.sums c.loop-index.auto.index c.loop-index-test.true
      (omega (
        arith,
        c.loop-index-test.true,
        c.requires.within,
        c.loop-index.invariant.as_many,
        length-trit_entries c.loop-index.ones c.loop-index.twos,
      )) c.add_layers_to_later.ensures.digits;
}

pub returns-clause-sums : goal.returns-clause-sums
returns-clause-sums c = AreSumsOfCopies-all _ _ _ _ _ _ c.loop-index.invariant.sums (omega (arith, c.loop-index-test.false))
