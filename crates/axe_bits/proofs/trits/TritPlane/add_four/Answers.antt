use Rattle.std.proofs.Common.{List, ℕ, length, subst, sym, ap, arith}
use Rattle.axe_lane.specs.Trits.{AreTrits}
use Rattle.axe_bits.specs.Trits.{first_half, second_half}
use Rattle.axe_bits.proofs.TritHalves.{halves_long, halves_wide, half_trits-five, HalvesHold-five}
use Rattle.axe_bits.proofs.TritWords.{layers_are_trits}
use Rattle.axe_bits.proofs.trits.TritPlane.add_four.Goals as goal

pub add_four_to_halves-requires-clause-row : goal.add_four_to_halves-requires-clause-row
add_four_to_halves-requires-clause-row c =
    subst (λ (v : List ℕ). AreTrits (first_half v) (second_half v)) (sym c.deref_mut.ensures.value) (layers_are_trits _ _ _ c.self.invariant)

pub add_four_to_halves-requires-clause-a : goal.add_four_to_halves-requires-clause-a
add_four_to_halves-requires-clause-a c = record {
  long = omega (arith, c.requires.a.ones_held.long, halves_wide _ _ c.self.invariant, halves_long _ _ _ c.self.view_is, ap length c.deref_mut.ensures.value);
  are_trits = layers_are_trits _ _ _ c.requires.a;
}

pub add_four_to_halves-requires-clause-b : goal.add_four_to_halves-requires-clause-b
add_four_to_halves-requires-clause-b c = record {
  long = omega (arith, c.requires.b.ones_held.long, halves_wide _ _ c.self.invariant, halves_long _ _ _ c.self.view_is, ap length c.deref_mut.ensures.value);
  are_trits = layers_are_trits _ _ _ c.requires.b;
}

pub add_four_to_halves-requires-clause-c : goal.add_four_to_halves-requires-clause-c
add_four_to_halves-requires-clause-c c = record {
  long = omega (arith, c.requires.c.ones_held.long, halves_wide _ _ c.self.invariant, halves_long _ _ _ c.self.view_is, ap length c.deref_mut.ensures.value);
  are_trits = layers_are_trits _ _ _ c.requires.c;
}

pub add_four_to_halves-requires-clause-d : goal.add_four_to_halves-requires-clause-d
add_four_to_halves-requires-clause-d c = record {
  long = omega (arith, c.requires.d.ones_held.long, halves_wide _ _ c.self.invariant, halves_long _ _ _ c.self.view_is, ap length c.deref_mut.ensures.value);
  are_trits = layers_are_trits _ _ _ c.requires.d;
}

pub invariant_of-self : goal.invariant_of-self
invariant_of-self c =
    HalvesHold-five _ _ _ _ _ _ _ _ _ _ _ _ _ _ c.self.invariant c.self.view_is c.deref_mut.ensures.value c.self.inside.words.ok.0
    c.add_four_to_halves.ensures.long c.requires.a c.requires.b c.requires.c c.requires.d c.add_four_to_halves.ensures.sum

pub returns : goal.returns
returns c =
    half_trits-five _ _ _ _ _ _ _ _ _ _ _ _ _ _ c.self.invariant c.self.view_is c.deref_mut.ensures.value c.self.inside.words.ok.0
    c.add_four_to_halves.ensures.long c.requires.a c.requires.b c.requires.c c.requires.d c.add_four_to_halves.ensures.sum
