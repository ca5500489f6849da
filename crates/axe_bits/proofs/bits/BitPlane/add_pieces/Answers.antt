use Rattle.std.proofs.Common.{◌≡◌, ◌+◌, ◌*◌, ◌/◌, length, refl, ap, ◌∙◌, arith}
use Rattle.axe_layer.proofs.BitLaws.{plane_long}
use Rattle.axe_bits.proofs.PieceEntries.{number_of_digits, HoldsBits-entry, bits-entry, four_entries_same}
use Rattle.axe_bits.proofs.bits.BitPlane.add_pieces.Goals as goal

pub word_from-word-requires : goal.word_from-word-requires
word_from-word-requires c =
    let words : length c.deref.result.now ≡ (c.of.inside.len + 63) / 64 = ap length c.deref.ensures.value ∙ c.of.invariant.long in
    omega (arith, words, plane_long _ _ _ c.of.view_is, c.requires.within, c.requires.some)

pub entry-a-requires : goal.entry-a-requires
entry-a-requires c = omega (arith, number_of_digits c.args.size c.args.at 0 c.args.at _ _ _ _ _ _ (omega arith) c.of.view_is c.deref.ensures.value (omega (arith, c.requires.within)) (omega (arith, c.requires.short)) c.word_from-word.ensures c.piece_number.ensures.value, c.requires.a.within)

pub entry-b-requires : goal.entry-b-requires
entry-b-requires c = omega (arith, number_of_digits c.args.size c.args.at c.args.size (c.args.at + c.args.size) _ _ _ _ _ _ refl c.of.view_is c.deref.ensures.value (omega (arith, c.requires.within)) (omega (arith, c.requires.short)) c.word_from-word.ensures c.piece_number-2.ensures.value, c.requires.b.within)

pub entry-c-requires : goal.entry-c-requires
entry-c-requires c = omega (arith, number_of_digits c.args.size c.args.at (2 * c.args.size) (c.args.at + 2 * c.args.size) _ _ _ _ _ _ refl c.of.view_is c.deref.ensures.value (omega (arith, c.requires.within)) (omega (arith, c.requires.short)) c.word_from-word.ensures c.piece_number-3.ensures.value, c.requires.c.within)

pub entry-d-requires : goal.entry-d-requires
entry-d-requires c = omega (arith, number_of_digits c.args.size c.args.at (3 * c.args.size) (c.args.at + 3 * c.args.size) _ _ _ _ _ _ refl c.of.view_is c.deref.ensures.value (omega (arith, c.requires.within)) (omega (arith, c.requires.short)) c.word_from-word.ensures c.piece_number-4.ensures.value, c.requires.d.within)

pub add_four-requires-clause-a : goal.add_four-requires-clause-a
add_four-requires-clause-a c = HoldsBits-entry _ _ _ _ _ c.requires.a
    (number_of_digits c.args.size c.args.at 0 c.args.at _ _ _ _ _ _ (omega arith) c.of.view_is c.deref.ensures.value (omega (arith, c.requires.within)) (omega (arith, c.requires.short)) c.word_from-word.ensures c.piece_number.ensures.value) c.entry-a.ensures.holds

pub add_four-requires-clause-b : goal.add_four-requires-clause-b
add_four-requires-clause-b c = HoldsBits-entry _ _ _ _ _ c.requires.b
    (number_of_digits c.args.size c.args.at c.args.size (c.args.at + c.args.size) _ _ _ _ _ _ refl c.of.view_is c.deref.ensures.value (omega (arith, c.requires.within)) (omega (arith, c.requires.short)) c.word_from-word.ensures c.piece_number-2.ensures.value) c.entry-b.ensures.holds

pub add_four-requires-clause-c : goal.add_four-requires-clause-c
add_four-requires-clause-c c = HoldsBits-entry _ _ _ _ _ c.requires.c
    (number_of_digits c.args.size c.args.at (2 * c.args.size) (c.args.at + 2 * c.args.size) _ _ _ _ _ _ refl c.of.view_is c.deref.ensures.value (omega (arith, c.requires.within)) (omega (arith, c.requires.short)) c.word_from-word.ensures c.piece_number-3.ensures.value) c.entry-c.ensures.holds

pub add_four-requires-clause-d : goal.add_four-requires-clause-d
add_four-requires-clause-d c = HoldsBits-entry _ _ _ _ _ c.requires.d
    (number_of_digits c.args.size c.args.at (3 * c.args.size) (c.args.at + 3 * c.args.size) _ _ _ _ _ _ refl c.of.view_is c.deref.ensures.value (omega (arith, c.requires.within)) (omega (arith, c.requires.short)) c.word_from-word.ensures c.piece_number-4.ensures.value) c.entry-d.ensures.holds

pub returns : goal.returns
returns c =
    let a = bits-entry _ _ _ _ _ c.requires.a
    (number_of_digits c.args.size c.args.at 0 c.args.at _ _ _ _ _ _ (omega arith) c.of.view_is c.deref.ensures.value (omega (arith, c.requires.within)) (omega (arith, c.requires.short)) c.word_from-word.ensures c.piece_number.ensures.value) c.entry-a.ensures.digits in
    let b = bits-entry _ _ _ _ _ c.requires.b
    (number_of_digits c.args.size c.args.at c.args.size (c.args.at + c.args.size) _ _ _ _ _ _ refl c.of.view_is c.deref.ensures.value (omega (arith, c.requires.within)) (omega (arith, c.requires.short)) c.word_from-word.ensures c.piece_number-2.ensures.value) c.entry-b.ensures.digits in
    let e = bits-entry _ _ _ _ _ c.requires.c
    (number_of_digits c.args.size c.args.at (2 * c.args.size) (c.args.at + 2 * c.args.size) _ _ _ _ _ _ refl c.of.view_is c.deref.ensures.value (omega (arith, c.requires.within)) (omega (arith, c.requires.short)) c.word_from-word.ensures c.piece_number-3.ensures.value) c.entry-c.ensures.digits in
    let d = bits-entry _ _ _ _ _ c.requires.d
    (number_of_digits c.args.size c.args.at (3 * c.args.size) (c.args.at + 3 * c.args.size) _ _ _ _ _ _ refl c.of.view_is c.deref.ensures.value (omega (arith, c.requires.within)) (omega (arith, c.requires.short)) c.word_from-word.ensures c.piece_number-4.ensures.value) c.entry-d.ensures.digits in
    c.add_four.ensures ∙ four_entries_same c.args.self.now _ _ _ _ _ _ _ _ a b e d
