use Rattle.std.proofs.Common.{◌≢◌, ◌∙◌, sym}
use Rattle.axe_field.specs.Order.{order_number}
use Rattle.axe_row.proofs.EntryWordLaws.{plane_number-below, three_of_nine, two_of_kept, words_alone_make, words_of_bits_make, words_of_trits_make}
use Rattle.axe_row.proofs.KeptPlanes.{alone_entries, kept_planes, kept_view}
use Rattle.axe_row.proofs.Row.entry_word.Goals as goal

pub returns-in_default : goal.returns-in_default
returns-in_default c =
    c.of_numbers.ensures
    ∙ words_alone_make _ _ c.number_words-constant.result c.args.at (alone_entries _ _ _ _ c.self.invariant c.self.view_is c.in_default.is)
    c.number_words-constant.ensures

pub of_trits-requires-clause-linear : goal.of_trits-requires-clause-linear
of_trits-requires-clause-linear c = λ i low.
    let nine = sym c.order-nine.ensures.value ∙ c.if-nine.true in
    let planes = kept_planes _ _ _ _ c.self.invariant _ _ _ c.in-Some.is c.deref.ensures c.deref.ensures in
    plane_number-below _ 3 _ _ _ _ (three_of_nine c.self.inside.field nine) planes.linear (c.number_words-linear.ensures i low)

pub returns-then-nine : goal.returns-then-nine
returns-then-nine c =
    let nine = sym c.order-nine.ensures.value ∙ c.if-nine.true in
    let planes = kept_planes _ _ _ _ c.self.invariant _ _ _ c.in-Some.is c.deref.ensures c.deref.ensures in
    let view_is = kept_view _ c.self.inside.constant _ _ _ _ _ c.self.view_is c.in-Some.is c.deref.ensures c.deref.ensures in
    c.of_trits.ensures
    ∙ words_of_trits_make _ _ _ _ _ planes view_is c.args.at c.number_words-constant.result c.number_words-linear.result nine c.number_words-constant.ensures
    c.number_words-linear.ensures

pub of_bits-requires-clause-linear : goal.of_bits-requires-clause-linear
of_bits-requires-clause-linear c = λ i low.
    let other : order_number c.self.inside.field ≢ 9 = λ nine. c.if-nine.false (c.order-nine.ensures.value ∙ nine) in
    let two = two_of_kept _ _ _ _ _ c.self.invariant c.in-Some.is other in
    let planes = kept_planes _ _ _ _ c.self.invariant _ _ _ c.in-Some.is c.deref.ensures c.deref-2.ensures in
    plane_number-below _ 2 _ _ _ _ two planes.linear (c.number_words-linear.ensures i low)

pub of_bits-requires-clause-quadratic : goal.of_bits-requires-clause-quadratic
of_bits-requires-clause-quadratic c = λ i low.
    let other : order_number c.self.inside.field ≢ 9 = λ nine. c.if-nine.false (c.order-nine.ensures.value ∙ nine) in
    let two = two_of_kept _ _ _ _ _ c.self.invariant c.in-Some.is other in
    let planes = kept_planes _ _ _ _ c.self.invariant _ _ _ c.in-Some.is c.deref.ensures c.deref-2.ensures in
    plane_number-below _ 2 _ _ _ _ two planes.quadratic (c.number_words.ensures i low)

pub returns : goal.returns
returns c =
    let other : order_number c.self.inside.field ≢ 9 = λ nine. c.if-nine.false (c.order-nine.ensures.value ∙ nine) in
    let two = two_of_kept _ _ _ _ _ c.self.invariant c.in-Some.is other in
    let planes = kept_planes _ _ _ _ c.self.invariant _ _ _ c.in-Some.is c.deref.ensures c.deref-2.ensures in
    let view_is = kept_view _ c.self.inside.constant _ _ _ _ _ c.self.view_is c.in-Some.is c.deref.ensures c.deref-2.ensures in
    c.of_bits.ensures
    ∙ words_of_bits_make _ _ _ _ _ planes view_is c.args.at c.number_words-constant.result c.number_words-linear.result c.number_words.result two
    c.number_words-constant.ensures c.number_words-linear.ensures c.number_words.ensures
