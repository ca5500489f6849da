use Rattle.std.proofs.Common.{◌≢◌, ◌≤◌, ap, sym, subst, ◌∙◌, arith}
use Rattle.std.specs.Int.{bit_at}
use Rattle.std.proofs.lemmas.Nat.Bits.{bit_at-zero}
use Rattle.axe_field.specs.Order.{order_number, prime_of}
use Rattle.axe_row.specs.BitBlocks.{low_at}
use Rattle.axe_row.specs.HigherPlanes.{linear_of, quadratic_of}
use Rattle.axe_row.specs.Rows.{RowValue, IsRow}
use Rattle.axe_row.specs.declared.bit_block.BitBlock.{BitBlock}
use Rattle.axe_row.proofs.BitBlockLaws.{bit_block_of_planes, bit_of_plane, block_of_one_plane, trit_block_of_planes}
use Rattle.axe_row.proofs.BlockElements.{high_at}
use Rattle.axe_row.proofs.EntryWordLaws.{three_of_nine, two_of_kept}
use Rattle.axe_row.proofs.KeptPlanes.{kept_planes, kept_view, linear_is_empty, quadratic_is_empty}
use Rattle.axe_row.proofs.RowPlanes.{IsRow-of_planes}
use Rattle.axe_row.proofs.Row.bit_block.Goals as goal

pub returns-in_default-clause-block : goal.returns-in_default-clause-block
returns-in_default-clause-block c = λ small.
    let own : prime_of c.self.inside.field ≤ 3 = omega (arith, small, ap (λ (r : RowValue). prime_of r.order) c.self.view_is) in
    let planes = c.self.invariant.planes in
    block_of_one_plane _ c.self.inside.constant (linear_of c.self.inside.field c.self.inside.higher) (quadratic_of c.self.inside.field c.self.inside.higher)
    _ planes c.self.view_is c.args.at c.of_words.result own (linear_is_empty _ _ _ _ c.self.invariant c.in_default.is)
    (quadratic_is_empty _ _ _ _ c.self.invariant c.in_default.is)
    (λ i low. ap (λ (b : BitBlock). low_at b i) c.of_words.ensures ∙ c.words_of_plane-constant.ensures (omega (arith, own, planes.constant.prime)) i low)
    (λ i low. ap (λ (b : BitBlock). high_at b i) c.of_words.ensures ∙ omega (arith, bit_at-zero i))

pub returns-in_default-clause-well_formed : goal.returns-in_default-clause-well_formed
returns-in_default-clause-well_formed c = subst IsRow c.self.view_is (IsRow-of_planes _ _ _ _ _ c.self.invariant.planes)

pub returns-then-nine-clause-block : goal.returns-then-nine-clause-block
returns-then-nine-clause-block c = λ small.
    let three = three_of_nine c.self.inside.field (sym c.order-nine.ensures.value ∙ c.if-nine.true) in
    let planes = kept_planes _ _ _ _ c.self.invariant _ _ _ c.in-Some.is c.deref.ensures c.deref.ensures in
    let view_is = kept_view _ c.self.inside.constant _ _ _ _ _ c.self.view_is c.in-Some.is c.deref.ensures c.deref.ensures in
    trit_block_of_planes _ c.self.inside.constant _ _ _ planes view_is c.args.at c.of_words-then-nine.result three
    (λ i low. ap (λ (b : BitBlock). low_at b i) c.of_words-then-nine.ensures
    ∙ c.words_of_plane-constant.ensures (omega (arith, three, planes.constant.prime)) i low)
    (λ i low. ap (λ (b : BitBlock). high_at b i) c.of_words-then-nine.ensures
    ∙ c.words_of_plane-linear.ensures (omega (arith, three, planes.linear.prime)) i low)

pub returns-then-nine-clause-well_formed : goal.returns-then-nine-clause-well_formed
returns-then-nine-clause-well_formed c = subst IsRow c.self.view_is (IsRow-of_planes _ _ _ _ _ c.self.invariant.planes)

pub returns-clause-block : goal.returns-clause-block
returns-clause-block c = λ small.
    let other : order_number c.self.inside.field ≢ 9 = λ nine. c.if-nine.false (c.order-nine.ensures.value ∙ nine) in
    let two = two_of_kept _ _ _ _ _ c.self.invariant c.in-Some.is other in
    let planes = kept_planes _ _ _ _ c.self.invariant _ _ _ c.in-Some.is c.deref.ensures c.deref-2.ensures in
    let view_is = kept_view _ c.self.inside.constant _ _ _ _ _ c.self.view_is c.in-Some.is c.deref.ensures c.deref-2.ensures in
    bit_block_of_planes _ c.self.inside.constant _ _ _ planes view_is c.args.at c.of_words-2.result two
    (λ i low. ap (λ (b : BitBlock). bit_at b.ones i) c.of_words-2.ensures
    ∙ bit_of_plane _ _ _ c.words_of_plane-constant.result _ i two planes.constant
    (c.words_of_plane-constant.ensures (omega (arith, two, planes.constant.prime)) i low))
    (λ i low. ap (λ (b : BitBlock). bit_at b.twos i) c.of_words-2.ensures
    ∙ bit_of_plane _ _ _ c.words_of_plane-linear.result _ i two planes.linear
    (c.words_of_plane-linear.ensures (omega (arith, two, planes.linear.prime)) i low))
    (λ i low. ap (λ (b : BitBlock). bit_at b.high_ones i) c.of_words-2.ensures
    ∙ bit_of_plane _ _ _ c.words_of_plane-quadratic.result _ i two planes.quadratic
    (c.words_of_plane-quadratic.ensures (omega (arith, two, planes.quadratic.prime)) i low))
    (λ i low. ap (λ (b : BitBlock). bit_at b.high_twos i) c.of_words-2.ensures ∙ bit_at-zero i)

pub returns-clause-well_formed : goal.returns-clause-well_formed
returns-clause-well_formed c = subst IsRow c.self.view_is (IsRow-of_planes _ _ _ _ _ c.self.invariant.planes)
