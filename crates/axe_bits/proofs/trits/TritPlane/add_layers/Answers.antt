use Rattle.std.proofs.Common.{◌≡◌, List, ℕ, length, subst, sym, ap, ◌∙◌, lit<, refl, arith}
use Rattle.axe_lane.specs.Trits.{AreTrits}
use Rattle.axe_layer.specs.Bits.{bits}
use Rattle.axe_layer.specs.Digits.{digits_with_multiple}
use Rattle.axe_bits.specs.Trits.{trits, first_half, second_half}
use Rattle.axe_layer.proofs.DigitLaws.{digits_with_multiple-none}
use Rattle.axe_layer.proofs.EndLaws.{word_within}
use Rattle.axe_bits.proofs.TritEnds.{zero_ones_before, zero_twos_before}
use Rattle.axe_bits.proofs.TritHalves.{halves_long, halves_wide, half_trits-sum, HalvesHold-sum}
use Rattle.axe_bits.proofs.TritPlaneLaws.{trits_below}
use Rattle.axe_bits.proofs.TritWords.{exchanged, layers_are_trits, twice_layers}
use Rattle.axe_bits.proofs.trits.TritPlane.add_layers.Goals as goal

pub add_to_halves-requires-clause-fits : goal.add_to_halves-requires-clause-fits
add_to_halves-requires-clause-fits c =
    omega (
      arith,
      c.requires.layers.ones_held.long,
      halves_wide _ _ c.self.invariant,
      halves_long _ _ _ c.self.view_is,
      ap length c.deref_mut.ensures.value,
    )

pub add_to_halves-requires-clause-row : goal.add_to_halves-requires-clause-row
add_to_halves-requires-clause-row c =
    subst (λ (v : List ℕ). AreTrits (first_half v) (second_half v)) (sym c.deref_mut.ensures.value)
    (layers_are_trits _ _ _ c.self.invariant)

pub add_to_halves-requires-clause-more : goal.add_to_halves-requires-clause-more
add_to_halves-requires-clause-more c = layers_are_trits _ _ _ c.requires.layers

pub add_to_halves-requires-in_default-clause-fits : goal.add_to_halves-requires-in_default-clause-fits
add_to_halves-requires-in_default-clause-fits c =
    omega (
      arith,
      c.requires.layers.twos_held.long,
      halves_wide _ _ c.self.invariant,
      halves_long _ _ _ c.self.view_is,
      ap length c.deref_mut-in_default.ensures.value,
    )

pub add_to_halves-requires-in_default-clause-row : goal.add_to_halves-requires-in_default-clause-row
add_to_halves-requires-in_default-clause-row c =
    subst (λ (v : List ℕ). AreTrits (first_half v) (second_half v)) (sym c.deref_mut-in_default.ensures.value)
    (layers_are_trits _ _ _ c.self.invariant)

pub add_to_halves-requires-in_default-clause-more : goal.add_to_halves-requires-in_default-clause-more
add_to_halves-requires-in_default-clause-more c = layers_are_trits _ _ _ (exchanged _ _ _ c.requires.layers)

pub add_to_halves-requires-clause-within : goal.add_to_halves-requires-clause-within
add_to_halves-requires-clause-within c = word_within _ c.args.start _ c.requires.layers.ones_held c.requires.within

pub add_to_halves-requires-clause-zero_ones : goal.add_to_halves-requires-clause-zero_ones
add_to_halves-requires-clause-zero_ones c = zero_ones_before _ c.args.start _ _ c.requires.layers c.requires.zeros

pub add_to_halves-requires-clause-zero_twos : goal.add_to_halves-requires-clause-zero_twos
add_to_halves-requires-clause-zero_twos c = zero_twos_before _ c.args.start _ _ c.requires.layers c.requires.zeros

pub add_to_halves-requires-in_default-clause-within : goal.add_to_halves-requires-in_default-clause-within
add_to_halves-requires-in_default-clause-within c = word_within _ c.args.start _ c.requires.layers.twos_held c.requires.within

pub add_to_halves-requires-in_default-clause-zero_ones : goal.add_to_halves-requires-in_default-clause-zero_ones
add_to_halves-requires-in_default-clause-zero_ones c = zero_twos_before _ c.args.start _ _ c.requires.layers c.requires.zeros

pub add_to_halves-requires-in_default-clause-zero_twos : goal.add_to_halves-requires-in_default-clause-zero_twos
add_to_halves-requires-in_default-clause-zero_twos c = zero_ones_before _ c.args.start _ _ c.requires.layers c.requires.zeros

pub invariant_of-self : goal.invariant_of-self
invariant_of-self c =
    HalvesHold-sum _ _ _ _ _ _ _ _ c.self.invariant c.self.view_is c.deref_mut.ensures.value c.self.inside.words.ok.0
    c.add_to_halves.ensures.long c.requires.layers c.add_to_halves.ensures.sum

pub invariant_of-self-in_default : goal.invariant_of-self-in_default
invariant_of-self-in_default c =
    HalvesHold-sum _ _ _ _ _ _ _ _ c.self.invariant c.self.view_is c.deref_mut-in_default.ensures.value
    c.self.inside.words.ok.0 c.add_to_halves-in_default.ensures.long (exchanged _ _ _ c.requires.layers)
    c.add_to_halves-in_default.ensures.sum

pub returns-in-0 : goal.returns-in-0
returns-in-0 c =
    digits_with_multiple-none 3 _ _ _ (lit< tt) c.in-0.is (trits_below _ _ _ c.self.invariant.together c.self.view_is)

pub returns-in-1 : goal.returns-in-1
returns-in-1 c =
    let self = c.args.self.now in
    half_trits-sum _ _ _ _ _ _ _ _ c.self.invariant c.self.view_is c.deref_mut.ensures.value c.self.inside.words.ok.0
    c.add_to_halves.ensures.long c.requires.layers c.add_to_halves.ensures.sum
    ∙ ap (λ m. digits_with_multiple 3 self m (trits (bits (length self) c.args.ones.now) (bits (length self) c.args.twos.now)))
    (sym c.in-1.is)

pub returns-in_default : goal.returns-in_default
returns-in_default c =
    let a = c.args.ones.now in
    let b = c.args.twos.now in
    let self = c.args.self.now in
    let two : 2 ≡ c.args.factor = omega arith in
    half_trits-sum _ _ _ _ _ _ _ _ c.self.invariant c.self.view_is c.deref_mut-in_default.ensures.value
    c.self.inside.words.ok.0 c.add_to_halves-in_default.ensures.long (exchanged _ _ _ c.requires.layers)
    c.add_to_halves-in_default.ensures.sum
    ∙ twice_layers (length self) self a b refl
    ∙ ap (λ m. digits_with_multiple 3 self m (trits (bits (length self) a) (bits (length self) b))) two
