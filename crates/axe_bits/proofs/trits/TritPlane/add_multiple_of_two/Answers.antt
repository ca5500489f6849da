use Rattle.std.proofs.Common.{◌+◌, ◌%◌, ◌∙◌, List, ℕ, length, subst, sym, ap, arith}
use Rattle.axe_lane.specs.Entries.{AreZerosBefore}
use Rattle.axe_lane.specs.Trits.{AreTrits}
use Rattle.axe_bits.specs.Combinations.{digits_with_two}
use Rattle.axe_bits.specs.Trits.{first_half, second_half}
use Rattle.axe_bits.proofs.TritEnds.{zero_layers_before}
use Rattle.axe_bits.proofs.TritHalves.{halves_long, halves_wide}
use Rattle.axe_bits.proofs.TritMultiples.{half_trits-multiples, HalvesHold-multiples}
use Rattle.axe_bits.proofs.TritWords.{layers_are_trits}
use Rattle.axe_bits.proofs.trits.TritPlane.add_multiple_of_two.Goals as goal

pub add_to_two_halves-requires-clause-within : goal.add_to_two_halves-requires-clause-within
add_to_two_halves-requires-clause-within c =
    omega (arith, c.requires.within, halves_wide _ _ c.first.invariant, halves_long _ _ _ c.first.view_is, ap length c.deref_mut.ensures.value)

pub add_to_two_halves-requires-clause-fits : goal.add_to_two_halves-requires-clause-fits
add_to_two_halves-requires-clause-fits c =
    omega (
      arith,
      c.requires.second_fits,
      halves_wide _ _ c.first.invariant,
      halves_long _ _ _ c.first.view_is,
      ap length c.deref_mut.ensures.value,
      halves_wide _ _ c.second.invariant,
      halves_long _ _ _ c.second.view_is,
      ap length c.deref_mut-2.ensures.value,
    )

pub add_to_two_halves-requires-clause-constant : goal.add_to_two_halves-requires-clause-constant
add_to_two_halves-requires-clause-constant c =
    subst (λ (v : List ℕ). AreTrits (first_half v) (second_half v)) (sym c.deref_mut.ensures.value) (layers_are_trits _ _ _ c.first.invariant)

pub add_to_two_halves-requires-clause-linear : goal.add_to_two_halves-requires-clause-linear
add_to_two_halves-requires-clause-linear c =
    subst (λ (v : List ℕ). AreTrits (first_half v) (second_half v)) (sym c.deref_mut-2.ensures.value)
    (layers_are_trits _ _ _ c.second.invariant)

pub add_to_two_halves-requires-clause-a : goal.add_to_two_halves-requires-clause-a
add_to_two_halves-requires-clause-a c = record {
  long =
      omega (
        arith,
        c.layers-a.ensures.holds.ones_held.long,
        c.requires.a_fits,
        halves_wide _ _ c.first.invariant,
        halves_long _ _ _ c.first.view_is,
        ap length c.deref_mut.ensures.value,
      );
  are_trits = layers_are_trits _ _ _ c.layers-a.ensures.holds;
}

pub add_to_two_halves-requires-clause-b : goal.add_to_two_halves-requires-clause-b
add_to_two_halves-requires-clause-b c = record {
  long =
      omega (
        arith,
        c.layers-b.ensures.holds.ones_held.long,
        c.requires.b_fits,
        halves_wide _ _ c.first.invariant,
        halves_long _ _ _ c.first.view_is,
        ap length c.deref_mut.ensures.value,
      );
  are_trits = layers_are_trits _ _ _ c.layers-b.ensures.holds;
}

pub add_to_two_halves-requires-clause-a_zeros : goal.add_to_two_halves-requires-clause-a_zeros
add_to_two_halves-requires-clause-a_zeros c =
    zero_layers_before _ c.args.start _ _ c.layers-a.ensures.holds
    (subst (λ (v : List ℕ). AreZerosBefore v c.args.start) (sym c.layers-a.ensures.digits) c.requires.a_zeros)

pub add_to_two_halves-requires-clause-b_zeros : goal.add_to_two_halves-requires-clause-b_zeros
add_to_two_halves-requires-clause-b_zeros c =
    zero_layers_before _ c.args.start _ _ c.layers-b.ensures.holds
    (subst (λ (v : List ℕ). AreZerosBefore v c.args.start) (sym c.layers-b.ensures.digits) c.requires.b_zeros)

pub invariant_of-first : goal.invariant_of-first
invariant_of-first c =
    HalvesHold-multiples _ _ c.args.p c.args.q _ _ _ _ _ _ _ _ _ _ c.first.invariant c.first.view_is
    c.deref_mut.ensures.value c.first.inside.words.ok.0 c.add_to_two_halves.ensures.constant_long
    c.requires.p c.requires.q
    c.requires.a_fits c.requires.b_fits c.layers-a.ensures.holds c.layers-b.ensures.holds
    c.layers-a.ensures.digits c.layers-b.ensures.digits c.add_to_two_halves.ensures.constant

pub returns-clause-first : goal.returns-clause-first
unfolding digits_with_two
returns-clause-first c =
    half_trits-multiples _ _ c.args.p c.args.q _ _ _ _ _ _ _ _ _ _ c.first.invariant c.first.view_is
    c.deref_mut.ensures.value c.first.inside.words.ok.0 c.add_to_two_halves.ensures.constant_long
    c.requires.p c.requires.q
    c.requires.a_fits c.requires.b_fits c.layers-a.ensures.holds c.layers-b.ensures.holds
    c.layers-a.ensures.digits c.layers-b.ensures.digits c.add_to_two_halves.ensures.constant

pub invariant_of-second : goal.invariant_of-second
invariant_of-second c =
    HalvesHold-multiples _ _ c.args.q ((c.args.p + c.args.q) % 3) _ _ _ _ _ _ _ _ _ _ c.second.invariant c.second.view_is
    c.deref_mut-2.ensures.value c.second.inside.words.ok.0 c.add_to_two_halves.ensures.linear_long
    c.requires.q (omega arith)
    (c.requires.a_fits ∙ sym c.requires.second_fits) (c.requires.b_fits ∙ sym c.requires.second_fits) c.layers-a.ensures.holds c.layers-b.ensures.holds
    c.layers-a.ensures.digits c.layers-b.ensures.digits c.add_to_two_halves.ensures.linear

pub returns-clause-second : goal.returns-clause-second
unfolding digits_with_two
returns-clause-second c =
    half_trits-multiples _ _ c.args.q ((c.args.p + c.args.q) % 3) _ _ _ _ _ _ _ _ _ _ c.second.invariant c.second.view_is
    c.deref_mut-2.ensures.value c.second.inside.words.ok.0 c.add_to_two_halves.ensures.linear_long
    c.requires.q (omega arith)
    (c.requires.a_fits ∙ sym c.requires.second_fits) (c.requires.b_fits ∙ sym c.requires.second_fits) c.layers-a.ensures.holds c.layers-b.ensures.holds
    c.layers-a.ensures.digits c.layers-b.ensures.digits c.add_to_two_halves.ensures.linear
