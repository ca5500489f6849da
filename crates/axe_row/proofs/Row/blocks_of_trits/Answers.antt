use Rattle.std.proofs.Common.{◌≡◌, ◌∙◌, ap, length, arith}
use Rattle.axe_field.specs.Order.{order_number, prime_of, degree_of}
use Rattle.axe_plane.specs.Planes.{digits_of}
use Rattle.axe_row.specs.HigherPlanes.{linear_of, quadratic_of}
use Rattle.axe_row.specs.Rows.{RowValue}
use Rattle.axe_row.proofs.BitBlockLaws.{trit_block_of_planes}
use Rattle.axe_row.proofs.HeldLaws.{block_of_words, degree_of_three, no_trits}
use Rattle.axe_row.proofs.KeptPlanes.{kept_planes, kept_view, kept_not_prime, linear_is_there, no_linear}
use Rattle.axe_row.proofs.RowPlanes.{length_of_row}
use Rattle.axe_row.proofs.Row.blocks_of_trits.Goals as goal

pub words_of_layers-ones-requires : goal.words_of_layers-ones-requires
words_of_layers-ones-requires g c =
    let long = length_of_row _ c.self.inside.constant (linear_of c.self.inside.field c.self.inside.higher) (quadratic_of c.self.inside.field c.self.inside.higher) _ c.self.view_is in (
      omega (arith, c.requires.words, c.len.ensures.count),
      (c.self.invariant.planes.constant.prime ∙ ap (λ (r : RowValue). prime_of r.order) c.self.view_is ∙ c.requires.characteristic, omega (arith, c.requires.words, long)),
    )

pub returns-then-this-eq3-clause-blocks : goal.returns-then-this-eq3-clause-blocks
returns-then-this-eq3-clause-blocks g c k inside =
    let three : prime_of c.self.inside.field ≡ 3 = ap (λ (r : RowValue). prime_of r.order) c.self.view_is ∙ c.requires.characteristic in
    let one : degree_of c.self.inside.field ≡ 1 =
    degree_of_three _ (ap (λ (r : RowValue). order_number r.order) c.self.view_is ∙ c.requires.order ∙ c.if-this-eq3.true) in
    let planes = c.self.invariant.planes in
    block_of_words _ _ _ _ _ _ _ (c.blocks_of_words.ensures k inside)
    (trit_block_of_planes _ _ _ _ _ planes c.self.view_is k _ three (λ i low. c.words_of_layers-ones.ensures k i inside low)
    (λ i low. no_trits (linear_of c.self.inside.field c.self.inside.higher) g.row.W k i (planes.linear.long ∙ no_linear _ _ one)))

pub words_of_layers-high_ones-requires : goal.words_of_layers-high_ones-requires
words_of_layers-high_ones-requires g c =
    let three : prime_of c.self.inside.field ≡ 3 = ap (λ (r : RowValue). prime_of r.order) c.self.view_is ∙ c.requires.characteristic in
    let planes = kept_planes _ _ _ _ c.self.invariant _ _ _ c.in-Some.is c.deref.ensures c.deref.ensures in
    let long = length_of_row _ c.self.inside.constant (linear_of c.self.inside.field c.self.inside.higher) (quadratic_of c.self.inside.field c.self.inside.higher) _ c.self.view_is in
    let there = linear_is_there _ (length (digits_of c.self.inside.constant)) (kept_not_prime _ _ _ _ c.self.invariant _ c.in-Some.is) in (
      omega (arith, c.requires.words, c.len.ensures.count),
      (planes.linear.prime ∙ three, omega (arith, c.requires.words, long, there, planes.linear.long)),
    )

pub returns-clause-blocks : goal.returns-clause-blocks
returns-clause-blocks g c k inside =
    let three : prime_of c.self.inside.field ≡ 3 = ap (λ (r : RowValue). prime_of r.order) c.self.view_is ∙ c.requires.characteristic in
    let planes = kept_planes _ _ _ _ c.self.invariant _ _ _ c.in-Some.is c.deref.ensures c.deref.ensures in
    let view_is = kept_view _ c.self.inside.constant _ _ _ _ _ c.self.view_is c.in-Some.is c.deref.ensures c.deref.ensures in
    block_of_words _ _ _ _ _ _ _ (c.blocks_of_words-2.ensures k inside)
    (trit_block_of_planes _ c.self.inside.constant _ _ _ planes view_is k _ three (λ i low. c.words_of_layers-ones.ensures k i inside low)
    (λ i low. c.words_of_layers-high_ones.ensures k i inside low))
