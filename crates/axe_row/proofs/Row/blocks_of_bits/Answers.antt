use Rattle.std.proofs.Common.{◌≡◌, ◌≢◌, ◌∙◌, ap, length, arith}
use Rattle.axe_field.specs.Order.{order_number, prime_of, degree_of}
use Rattle.axe_plane.specs.Planes.{digits_of}
use Rattle.axe_row.specs.HigherPlanes.{linear_of, quadratic_of}
use Rattle.axe_row.specs.Rows.{RowValue}
use Rattle.axe_row.proofs.AddedPlanes.{degree_of_two}
use Rattle.axe_row.proofs.BitBlockLaws.{bit_block_of_planes}
use Rattle.axe_row.proofs.HeldLaws.{block_of_words, four_has_no_square, no_bit, no_bits, square_is_there}
use Rattle.axe_row.proofs.KeptPlanes.{kept_planes, kept_view, kept_not_prime, linear_is_there, no_linear, no_quadratic}
use Rattle.axe_row.proofs.RowPlanes.{length_of_row}
use Rattle.axe_row.proofs.RowPlanes.{no_quadratic as no_squares}
use Rattle.axe_row.proofs.Row.blocks_of_bits.Goals as goal

pub words_of_bits-constant-requires : goal.words_of_bits-constant-requires
words_of_bits-constant-requires g c =
    let long = length_of_row _ c.self.inside.constant (linear_of c.self.inside.field c.self.inside.higher) (quadratic_of c.self.inside.field c.self.inside.higher) _ c.self.view_is in (
      omega (arith, c.requires.words, c.len.ensures.count),
      (c.self.invariant.planes.constant.prime ∙ ap (λ (r : RowValue). prime_of r.order) c.self.view_is ∙ c.requires.characteristic, omega (arith, c.requires.words, long)),
    )

pub returns-then-this-eq2-clause-blocks : goal.returns-then-this-eq2-clause-blocks
returns-then-this-eq2-clause-blocks g c k inside =
    let even : prime_of c.self.inside.field ≡ 2 = ap (λ (r : RowValue). prime_of r.order) c.self.view_is ∙ c.requires.characteristic in
    let one : degree_of c.self.inside.field ≡ 1 =
    degree_of_two _ (ap (λ (r : RowValue). order_number r.order) c.self.view_is ∙ c.requires.order ∙ c.if-this-eq2.true) in
    let planes = c.self.invariant.planes in
    block_of_words _ _ _ _ _ _ _ (c.blocks_of_words.ensures k inside)
    (bit_block_of_planes _ _ _ _ _ planes c.self.view_is k _ even (λ i low. c.words_of_bits-constant.ensures k i inside low)
    (λ i low. no_bits (linear_of c.self.inside.field c.self.inside.higher) g.row.W k i (planes.linear.long ∙ no_linear _ _ one))
    (λ i low. no_bits (quadratic_of c.self.inside.field c.self.inside.higher) g.row.W k i (planes.quadratic.long ∙ no_quadratic _ _ one)) (λ i low. no_bit g.row.W k i))

pub words_of_bits-linear-requires : goal.words_of_bits-linear-requires
words_of_bits-linear-requires g c =
    let even : prime_of c.self.inside.field ≡ 2 = ap (λ (r : RowValue). prime_of r.order) c.self.view_is ∙ c.requires.characteristic in
    let planes = kept_planes _ _ _ _ c.self.invariant _ _ _ c.in-Some.is c.deref.ensures c.deref.ensures in
    let long = length_of_row _ c.self.inside.constant (linear_of c.self.inside.field c.self.inside.higher) (quadratic_of c.self.inside.field c.self.inside.higher) _ c.self.view_is in
    let there = linear_is_there _ (length (digits_of c.self.inside.constant)) (kept_not_prime _ _ _ _ c.self.invariant _ c.in-Some.is) in (
      omega (arith, c.requires.words, c.len.ensures.count),
      (planes.linear.prime ∙ even, omega (arith, c.requires.words, long, there, planes.linear.long)),
    )

pub returns-then-this-eq4-clause-blocks : goal.returns-then-this-eq4-clause-blocks
returns-then-this-eq4-clause-blocks g c k inside =
    let even : prime_of c.self.inside.field ≡ 2 = ap (λ (r : RowValue). prime_of r.order) c.self.view_is ∙ c.requires.characteristic in
    let not_three : degree_of c.self.inside.field ≢ 3 =
    four_has_no_square _ (ap (λ (r : RowValue). order_number r.order) c.self.view_is ∙ c.requires.order ∙ c.if-this-eq4.true) in
    let planes = kept_planes _ _ _ _ c.self.invariant _ _ _ c.in-Some.is c.deref.ensures c.deref.ensures in
    let view_is = kept_view _ c.self.inside.constant _ _ _ _ _ c.self.view_is c.in-Some.is c.deref.ensures c.deref.ensures in
    block_of_words _ _ _ _ _ _ _ (c.blocks_of_words-then-this-eq4.ensures k inside)
    (bit_block_of_planes _ c.self.inside.constant _ _ _ planes view_is k _ even (λ i low. c.words_of_bits-constant.ensures k i inside low)
    (λ i low. c.words_of_bits-linear.ensures k i inside low)
    (λ i low. no_bits c.deref.result.now.quadratic g.row.W k i (no_squares _ _ c.deref.result.now.quadratic planes.quadratic not_three))
    (λ i low. no_bit g.row.W k i))

pub words_of_bits-requires : goal.words_of_bits-requires
words_of_bits-requires g c =
    let same = ap (λ (r : RowValue). order_number r.order) c.self.view_is ∙ c.requires.order in
    let even : prime_of c.self.inside.field ≡ 2 = ap (λ (r : RowValue). prime_of r.order) c.self.view_is ∙ c.requires.characteristic in
    let planes = kept_planes _ _ _ _ c.self.invariant _ _ _ c.in-Some.is c.deref.ensures c.deref-2.ensures in
    let long = length_of_row _ c.self.inside.constant (linear_of c.self.inside.field c.self.inside.higher) (quadratic_of c.self.inside.field c.self.inside.higher) _ c.self.view_is in
    let there = square_is_there c.self.inside.field (length (digits_of c.self.inside.constant)) (λ two. omega (arith, same, two, c.if-this-eq2.false))
    (λ four. omega (arith, same, four, c.if-this-eq4.false)) even in (
      omega (arith, c.requires.words, c.len.ensures.count),
      (planes.quadratic.prime ∙ even, omega (arith, c.requires.words, long, there, planes.quadratic.long)),
    )

pub returns-clause-blocks : goal.returns-clause-blocks
returns-clause-blocks g c k inside =
    let even : prime_of c.self.inside.field ≡ 2 = ap (λ (r : RowValue). prime_of r.order) c.self.view_is ∙ c.requires.characteristic in
    let planes = kept_planes _ _ _ _ c.self.invariant _ _ _ c.in-Some.is c.deref.ensures c.deref-2.ensures in
    let view_is = kept_view _ c.self.inside.constant _ _ _ _ _ c.self.view_is c.in-Some.is c.deref.ensures c.deref-2.ensures in
    block_of_words _ _ _ _ _ _ _ (c.blocks_of_words-2.ensures k inside)
    (bit_block_of_planes _ c.self.inside.constant _ _ _ planes view_is k _ even (λ i low. c.words_of_bits-constant.ensures k i inside low)
    (λ i low. c.words_of_bits-linear.ensures k i inside low) (λ i low. c.words_of_bits.ensures k i inside low)
    (λ i low. no_bit g.row.W k i))
