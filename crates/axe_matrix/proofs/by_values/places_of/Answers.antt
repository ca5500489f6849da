use Rattle.std.proofs.Common.{◌≢◌, ◌+◌, ◌*◌, ◌/◌, ◌%◌, ◌<◌, ℕ, min, cond, eqb, slice_index, sym, ap, subst, ◌∙◌, arith}
use Rattle.std.specs.Int.{bit_at}
use Rattle.std.specs.List.{All}
use Rattle.std.proofs.lemmas.Nat.Bits.{bit_at_and}
use Rattle.axe_field.specs.Order.{Order, degree_of, IsElement}
use Rattle.axe_layer.specs.Words.{digit_of_words}
use Rattle.axe_row.specs.Planes.{coefficients_at}
use Rattle.axe_matrix.proofs.ValueDigits.{coefficient_below_three, degree_above_one, three_coefficients, place_by_two, place_by_three}
use Rattle.axe_matrix.proofs.by_values.places_of.Goals as goal

pub places_of_digit-linear-requires-clause-digits : goal.places_of_digit-linear-requires-clause-digits
places_of_digit-linear-requires-clause-digits c = λ i low.
    let o = c.args.vector.now.order in
    let high : degree_of o ≢ 1 = subst (λ (p : Order). degree_of p ≢ 1) (sym c.requires.field) c.requires.not_prime in
    subst (λ d. d < 3) (sym (c.digit_words.ensures i low))
    (coefficient_below_three o 1 _ c.args.vector.now.entries high (degree_above_one o high) c.len.ensures.well_formed.elements)

pub places_of_digit-requires-clause-digits : goal.places_of_digit-requires-clause-digits
places_of_digit-requires-clause-digits c = λ i low.
    let o = c.args.vector.now.order in
    let high : degree_of o ≢ 1 = subst (λ (p : Order). degree_of p ≢ 1) (sym c.requires.field) c.requires.not_prime in
    subst (λ d. d < 3) (sym (c.digit_words-2.ensures i low))
    (coefficient_below_three o 0 _ c.args.vector.now.entries high (omega (arith, degree_above_one o high)) c.len.ensures.well_formed.elements)

pub places_of_digit-requires-2-clause-digits : goal.places_of_digit-requires-2-clause-digits
places_of_digit-requires-2-clause-digits c = λ i low.
    let o = c.args.vector.now.order in
    let high : degree_of o ≢ 1 = subst (λ (p : Order). degree_of p ≢ 1) (sym c.requires.field) c.requires.not_prime in
    let three = three_coefficients c.args.field.now c.requires.not_prime (λ two. c.if-degree-eq2.false (c.degree.ensures ∙ two)) in
    subst (λ d. d < 3) (sym (c.digit_words-3.ensures i low))
    (coefficient_below_three o 2 _ c.args.vector.now.entries high (subst (λ (p : Order). 2 < degree_of p) (sym c.requires.field) three.0) c.len.ensures.well_formed.elements)

pub returns-then-degree-eq2 : goal.returns-then-degree-eq2
returns-then-degree-eq2 c = λ i low.
    let f = c.args.field.now in
    let entries = c.args.vector.now.entries in
    let over = subst (λ (p : Order). All (IsElement p) entries) c.requires.field c.len.ensures.well_formed.elements in
    let field = λ (j : ℕ). ap (λ (p : Order). slice_index (coefficients_at p j entries) (c.args.at * 64 + i)) c.requires.field in
    place_by_two f c.args.value (c.args.at * 64 + i) entries c.requires.not_prime c.requires.value c.requires.nonzero over _ _ _ _ _
    (sym c.degree.ensures ∙ c.if-degree-eq2.true) (c.digit_words-2.ensures i low ∙ field 0) (c.digit_words.ensures i low ∙ field 1)
    (c.places_of_digit.ensures i low ∙ ap (λ p. cond (eqb (digit_of_words c.digit_words-2.result i) (c.args.value % p)) 1 0) c.prime-prime.ensures)
    (c.places_of_digit-linear.ensures i low ∙ ap (λ p. cond (eqb (digit_of_words c.digit_words.result i) (c.args.value / p % p)) 1 0) c.prime-prime.ensures)
    (bit_at_and _ _ i)

pub returns : goal.returns
returns c = λ i low.
    let f = c.args.field.now in
    let entries = c.args.vector.now.entries in
    let over = subst (λ (p : Order). All (IsElement p) entries) c.requires.field c.len.ensures.well_formed.elements in
    let not_two : degree_of f ≢ 2 = λ two. c.if-degree-eq2.false (c.degree.ensures ∙ two) in
    let field = λ (j : ℕ). ap (λ (p : Order). slice_index (coefficients_at p j entries) (c.args.at * 64 + i)) c.requires.field in
    place_by_three f c.args.value (c.args.at * 64 + i) entries c.requires.not_prime c.requires.value c.requires.nonzero over _ _ _ _ _ _ _
    not_two (three_coefficients f c.requires.not_prime not_two).0
    (c.digit_words-2.ensures i low ∙ field 0) (c.digit_words.ensures i low ∙ field 1) (c.digit_words-3.ensures i low ∙ field 2)
    (c.places_of_digit.ensures i low ∙ ap (λ p. cond (eqb (digit_of_words c.digit_words-2.result i) (c.args.value % p)) 1 0) c.prime-prime.ensures)
    (c.places_of_digit-linear.ensures i low ∙ ap (λ p. cond (eqb (digit_of_words c.digit_words.result i) (c.args.value / p % p)) 1 0) c.prime-prime.ensures)
    (c.places_of_digit-2.ensures i low ∙ ap (λ p. cond (eqb (digit_of_words c.digit_words-3.result i) (c.args.value / (p * p))) 1 0) c.prime-prime.ensures)
    (bit_at_and _ _ i ∙ ap (λ b. min b (bit_at c.places_of_digit-2.result i)) (bit_at_and c.places_of_digit.result c.places_of_digit-linear.result i))
