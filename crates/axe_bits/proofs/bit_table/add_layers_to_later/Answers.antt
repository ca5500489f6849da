use Rattle.std.proofs.Common.{rules, Fits, w64, ◌+◌, arith}
use Rattle.axe_bits.proofs.EarlierEntries.{added_later, earlier_layers, own_layers}
use Rattle.axe_bits.proofs.TableLaws.{bit_index}
use Rattle.axe_bits.proofs.TritEntries.{other_index}
use Rattle.axe_bits.proofs.TritWords.{layers_are_trits}
use Rattle.axe_bits.proofs.bit_table.add_layers_to_later.Goals as goal

pub start_of-one-requires-clause-within : goal.start_of-one-requires-clause-within
start_of-one-requires-clause-within c = omega (arith, bit_index _ _ _ _ _ _ c.ones.view_is c.requires.within)

pub start_of-two-requires-clause-within : goal.start_of-two-requires-clause-within
start_of-two-requires-clause-within c =
    omega (arith, bit_index _ _ _ _ _ _ c.twos.view_is (other_index _ _ _ c.requires.entries c.requires.within))

pub overflow_add-start : goal.overflow_add-start
overflow_add-start c =
    let counted : Fits w64 c.ones.inside.count = search rules in
    omega (arith, bit_index _ _ _ _ _ _ c.ones.view_is c.requires.within, counted)

pub start_of-to_one-requires-clause-within : goal.start_of-to_one-requires-clause-within
start_of-to_one-requires-clause-within c = bit_index _ _ _ _ _ _ c.ones.view_is c.requires.within

pub overflow_add-start-2 : goal.overflow_add-start-2
overflow_add-start-2 c =
    let counted : Fits w64 c.ones.inside.count = search rules in
    omega (arith, bit_index _ _ _ _ _ _ c.ones.view_is c.requires.within, counted)

pub start_of-to_two-requires-clause-within : goal.start_of-to_two-requires-clause-within
start_of-to_two-requires-clause-within c =
    bit_index _ _ _ _ _ _ c.twos.view_is (other_index _ _ _ c.requires.entries c.requires.within)

pub add_trits-requires-clause-row : goal.add_trits-requires-clause-row
add_trits-requires-clause-row c =
    layers_are_trits _ _ _
    (own_layers _ _ _ _ _ _ c.args.start (c.args.start + c.args.index) _ _ _ _ _ _ _ _ _ _ _ _ _ _ _ _ c.requires.entries
    (record {
      held = c.ones.invariant;
      view_is = c.ones.view_is;
      within = c.requires.within;
      earlier = omega (arith, c.requires.some);
      same = c.deref_mut.ensures.value;
      all = c.ones.inside.words.ok.0;
      source_is = c.start_of-one.ensures.start;
      start_is = c.start_of-to_one.ensures.start;
      room = c.start_of-to_one.ensures.end;
      front_is = c.split_at_mut-ones_before.ensures.front;
      back_is = c.split_at_mut-ones_before.ensures.back;
    })
    (record {
      held = c.twos.invariant;
      view_is = c.twos.view_is;
      within = other_index _ _ _ c.requires.entries c.requires.within;
      earlier = omega (arith, c.requires.some);
      same = c.deref_mut-2.ensures.value;
      all = c.twos.inside.words.ok.0;
      source_is = c.start_of-two.ensures.start;
      start_is = c.start_of-to_two.ensures.start;
      room = c.start_of-to_two.ensures.end;
      front_is = c.split_at_mut-twos_before.ensures.front;
      back_is = c.split_at_mut-twos_before.ensures.back;
    }))

pub add_trits-requires-clause-more : goal.add_trits-requires-clause-more
add_trits-requires-clause-more c =
    layers_are_trits _ _ _
    (earlier_layers _ _ _ _ _ _ c.args.start (c.args.start + c.args.index) _ _ _ _ _ _ _ _ _ _ _ _ _ _ _ _ c.requires.entries
    (record {
      held = c.ones.invariant;
      view_is = c.ones.view_is;
      within = c.requires.within;
      earlier = omega (arith, c.requires.some);
      same = c.deref_mut.ensures.value;
      all = c.ones.inside.words.ok.0;
      source_is = c.start_of-one.ensures.start;
      start_is = c.start_of-to_one.ensures.start;
      room = c.start_of-to_one.ensures.end;
      front_is = c.split_at_mut-ones_before.ensures.front;
      back_is = c.split_at_mut-ones_before.ensures.back;
    })
    (record {
      held = c.twos.invariant;
      view_is = c.twos.view_is;
      within = other_index _ _ _ c.requires.entries c.requires.within;
      earlier = omega (arith, c.requires.some);
      same = c.deref_mut-2.ensures.value;
      all = c.twos.inside.words.ok.0;
      source_is = c.start_of-two.ensures.start;
      start_is = c.start_of-to_two.ensures.start;
      room = c.start_of-to_two.ensures.end;
      front_is = c.split_at_mut-twos_before.ensures.front;
      back_is = c.split_at_mut-twos_before.ensures.back;
    }))

pub invariant_of-ones : goal.invariant_of-ones
invariant_of-ones c =
    (added_later _ _ _ _ _ _ c.args.start (c.args.start + c.args.index) _ _ _ _ _ _ _ _ _ _ _ _ _ _ _ _ c.requires.entries
    (record {
      held = c.ones.invariant;
      view_is = c.ones.view_is;
      within = c.requires.within;
      earlier = omega (arith, c.requires.some);
      same = c.deref_mut.ensures.value;
      all = c.ones.inside.words.ok.0;
      source_is = c.start_of-one.ensures.start;
      start_is = c.start_of-to_one.ensures.start;
      room = c.start_of-to_one.ensures.end;
      front_is = c.split_at_mut-ones_before.ensures.front;
      back_is = c.split_at_mut-ones_before.ensures.back;
    })
    (record {
      held = c.twos.invariant;
      view_is = c.twos.view_is;
      within = other_index _ _ _ c.requires.entries c.requires.within;
      earlier = omega (arith, c.requires.some);
      same = c.deref_mut-2.ensures.value;
      all = c.twos.inside.words.ok.0;
      source_is = c.start_of-two.ensures.start;
      start_is = c.start_of-to_two.ensures.start;
      room = c.start_of-to_two.ensures.end;
      front_is = c.split_at_mut-twos_before.ensures.front;
      back_is = c.split_at_mut-twos_before.ensures.back;
    })
    _ _ c.add_trits.ensures).ones_held

pub invariant_of-twos : goal.invariant_of-twos
invariant_of-twos c =
    (added_later _ _ _ _ _ _ c.args.start (c.args.start + c.args.index) _ _ _ _ _ _ _ _ _ _ _ _ _ _ _ _ c.requires.entries
    (record {
      held = c.ones.invariant;
      view_is = c.ones.view_is;
      within = c.requires.within;
      earlier = omega (arith, c.requires.some);
      same = c.deref_mut.ensures.value;
      all = c.ones.inside.words.ok.0;
      source_is = c.start_of-one.ensures.start;
      start_is = c.start_of-to_one.ensures.start;
      room = c.start_of-to_one.ensures.end;
      front_is = c.split_at_mut-ones_before.ensures.front;
      back_is = c.split_at_mut-ones_before.ensures.back;
    })
    (record {
      held = c.twos.invariant;
      view_is = c.twos.view_is;
      within = other_index _ _ _ c.requires.entries c.requires.within;
      earlier = omega (arith, c.requires.some);
      same = c.deref_mut-2.ensures.value;
      all = c.twos.inside.words.ok.0;
      source_is = c.start_of-two.ensures.start;
      start_is = c.start_of-to_two.ensures.start;
      room = c.start_of-to_two.ensures.end;
      front_is = c.split_at_mut-twos_before.ensures.front;
      back_is = c.split_at_mut-twos_before.ensures.back;
    })
    _ _ c.add_trits.ensures).twos_held

pub returns-clause-holds : goal.returns-clause-holds
returns-clause-holds c =
    (added_later _ _ _ _ _ _ c.args.start (c.args.start + c.args.index) _ _ _ _ _ _ _ _ _ _ _ _ _ _ _ _ c.requires.entries
    (record {
      held = c.ones.invariant;
      view_is = c.ones.view_is;
      within = c.requires.within;
      earlier = omega (arith, c.requires.some);
      same = c.deref_mut.ensures.value;
      all = c.ones.inside.words.ok.0;
      source_is = c.start_of-one.ensures.start;
      start_is = c.start_of-to_one.ensures.start;
      room = c.start_of-to_one.ensures.end;
      front_is = c.split_at_mut-ones_before.ensures.front;
      back_is = c.split_at_mut-ones_before.ensures.back;
    })
    (record {
      held = c.twos.invariant;
      view_is = c.twos.view_is;
      within = other_index _ _ _ c.requires.entries c.requires.within;
      earlier = omega (arith, c.requires.some);
      same = c.deref_mut-2.ensures.value;
      all = c.twos.inside.words.ok.0;
      source_is = c.start_of-two.ensures.start;
      start_is = c.start_of-to_two.ensures.start;
      room = c.start_of-to_two.ensures.end;
      front_is = c.split_at_mut-twos_before.ensures.front;
      back_is = c.split_at_mut-twos_before.ensures.back;
    })
    _ _ c.add_trits.ensures).together

pub returns-clause-digits : goal.returns-clause-digits
returns-clause-digits c =
    (added_later _ _ _ _ _ _ c.args.start (c.args.start + c.args.index) _ _ _ _ _ _ _ _ _ _ _ _ _ _ _ _ c.requires.entries
    (record {
      held = c.ones.invariant;
      view_is = c.ones.view_is;
      within = c.requires.within;
      earlier = omega (arith, c.requires.some);
      same = c.deref_mut.ensures.value;
      all = c.ones.inside.words.ok.0;
      source_is = c.start_of-one.ensures.start;
      start_is = c.start_of-to_one.ensures.start;
      room = c.start_of-to_one.ensures.end;
      front_is = c.split_at_mut-ones_before.ensures.front;
      back_is = c.split_at_mut-ones_before.ensures.back;
    })
    (record {
      held = c.twos.invariant;
      view_is = c.twos.view_is;
      within = other_index _ _ _ c.requires.entries c.requires.within;
      earlier = omega (arith, c.requires.some);
      same = c.deref_mut-2.ensures.value;
      all = c.twos.inside.words.ok.0;
      source_is = c.start_of-two.ensures.start;
      start_is = c.start_of-to_two.ensures.start;
      room = c.start_of-to_two.ensures.end;
      front_is = c.split_at_mut-twos_before.ensures.front;
      back_is = c.split_at_mut-twos_before.ensures.back;
    })
    _ _ c.add_trits.ensures).digits
