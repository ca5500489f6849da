use Rattle.std.proofs.Common.{◌∙◌, sym}
use Rattle.axe_bits.proofs.TableLaws.{bit_index, entry_words}
use Rattle.axe_bits.proofs.TritEntries.{added_entries, layers_of_entry, other_index}
use Rattle.axe_bits.proofs.TritWords.{layers_are_trits}
use Rattle.axe_bits.proofs.bit_table.add_layers_to_entry.Goals as goal

pub start_of-start-requires-clause-within : goal.start_of-start-requires-clause-within
start_of-start-requires-clause-within c = bit_index _ _ _ _ _ _ c.ones.view_is c.requires.to

pub start_of-second-requires-clause-within : goal.start_of-second-requires-clause-within
start_of-second-requires-clause-within c =
    bit_index _ _ _ _ _ _ c.twos.view_is (other_index _ _ _ c.requires.entries c.requires.to)

pub add_trits-requires-clause-fits : goal.add_trits-requires-clause-fits
add_trits-requires-clause-fits c =
    let mine =
    entry_words _ _ _ c.args.to _ _ _ _ c.ones.invariant c.ones.view_is c.requires.to
    c.start_of-start.ensures.start c.deref_mut.ensures.value in
    c.requires.more.ones_held.long ∙ sym mine.holds.long

pub add_trits-requires-clause-row : goal.add_trits-requires-clause-row
add_trits-requires-clause-row c =
    let there = other_index _ _ _ c.requires.entries c.requires.to in
    let mine =
    entry_words _ _ _ c.args.to _ _ _ _ c.ones.invariant c.ones.view_is c.requires.to
    c.start_of-start.ensures.start c.deref_mut.ensures.value in
    let its =
    entry_words _ _ _ c.args.to _ _ _ _ c.twos.invariant c.twos.view_is there
    c.start_of-second.ensures.start c.deref_mut-2.ensures.value in
    layers_are_trits _ _ _ (layers_of_entry _ _ c.args.to _ _ c.requires.entries c.requires.to mine its)

pub add_trits-requires-clause-more : goal.add_trits-requires-clause-more
add_trits-requires-clause-more c = layers_are_trits _ _ _ c.requires.more

pub invariant_of-ones : goal.invariant_of-ones
invariant_of-ones c =
    (added_entries _ _ _ _ _ _ c.args.to _ _ _ _ _ _ _ _ _ _ _ _ _ _ c.ones.invariant c.twos.invariant c.ones.view_is
    c.twos.view_is c.requires.entries c.requires.to c.requires.more c.deref_mut.ensures.value
    c.deref_mut-2.ensures.value c.ones.inside.words.ok.0 c.twos.inside.words.ok.0 c.start_of-start.ensures.start c.start_of-start.ensures.end
    c.start_of-second.ensures.start c.start_of-second.ensures.end c.add_trits.ensures).ones_held

pub invariant_of-twos : goal.invariant_of-twos
invariant_of-twos c =
    (added_entries _ _ _ _ _ _ c.args.to _ _ _ _ _ _ _ _ _ _ _ _ _ _ c.ones.invariant c.twos.invariant c.ones.view_is
    c.twos.view_is c.requires.entries c.requires.to c.requires.more c.deref_mut.ensures.value
    c.deref_mut-2.ensures.value c.ones.inside.words.ok.0 c.twos.inside.words.ok.0 c.start_of-start.ensures.start c.start_of-start.ensures.end
    c.start_of-second.ensures.start c.start_of-second.ensures.end c.add_trits.ensures).twos_held

pub returns-clause-holds : goal.returns-clause-holds
returns-clause-holds c =
    (added_entries _ _ _ _ _ _ c.args.to _ _ _ _ _ _ _ _ _ _ _ _ _ _ c.ones.invariant c.twos.invariant c.ones.view_is
    c.twos.view_is c.requires.entries c.requires.to c.requires.more c.deref_mut.ensures.value
    c.deref_mut-2.ensures.value c.ones.inside.words.ok.0 c.twos.inside.words.ok.0 c.start_of-start.ensures.start c.start_of-start.ensures.end
    c.start_of-second.ensures.start c.start_of-second.ensures.end c.add_trits.ensures).together

pub returns-clause-digits : goal.returns-clause-digits
returns-clause-digits c =
    (added_entries _ _ _ _ _ _ c.args.to _ _ _ _ _ _ _ _ _ _ _ _ _ _ c.ones.invariant c.twos.invariant c.ones.view_is
    c.twos.view_is c.requires.entries c.requires.to c.requires.more c.deref_mut.ensures.value
    c.deref_mut-2.ensures.value c.ones.inside.words.ok.0 c.twos.inside.words.ok.0 c.start_of-start.ensures.start c.start_of-start.ensures.end
    c.start_of-second.ensures.start c.start_of-second.ensures.end c.add_trits.ensures).digits
