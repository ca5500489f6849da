use Rattle.std.proofs.Common.{◌∙◌, sym, arith}
use Rattle.std.proofs.lemmas.Nat.{and_le_l}
use Rattle.axe_row.specs.BitBlocks.{bits_of_word}
use Rattle.axe_row.proofs.BitBlockLaws.{bits_left}
use Rattle.axe_row.proofs.SumRows.{entry_of_sums}
use Rattle.axe_row.proofs.SumWords.{support_of_bits, place_low, found_there, left_there, passed_there, less_there, none_left}
use Rattle.axe_row.proofs.combos.row_sum.RowSum.next_in_word.Goals as goal

pub overflow_shl-places : goal.overflow_shl-places
overflow_shl-places c = place_low _ _ _ _ c.loop-place.invariant _ (c.in-Some.ensures _ (support_of_bits c.loop-place.places))

pub overflow_add-at : goal.overflow_add-at
overflow_add-at c =
    omega (arith, c.requires, place_low _ _ _ _ c.loop-place.invariant _ (c.in-Some.ensures _ (support_of_bits c.loop-place.places)))

pub returns-then-entry-ne0-clause-found : goal.returns-then-entry-ne0-clause-found
returns-then-entry-ne0-clause-found c =
    found_there _ _ _ _ c.loop-place.invariant _ (c.in-Some.ensures _ (support_of_bits c.loop-place.places)) _
    (entry_of_sums _ c.self.inside.sums _ c.self.invariant c.self.view_is _ _ c.digit-entry.ensures.value) c.if-entry-ne0.true

pub returns-then-entry-ne0-clause-rest : goal.returns-then-entry-ne0-clause-rest
returns-then-entry-ne0-clause-rest c =
    let next = c.in-Some.ensures _ (support_of_bits c.loop-place.places) in
    left_there _ _ _ _ c.loop-place.invariant _ next _ (bits_left _ _ (place_low _ _ _ _ c.loop-place.invariant _ next))

pub loop-place-smaller : goal.loop-place-smaller
loop-place-smaller c =
    let next = c.in-Some.ensures _ (support_of_bits c.loop-place.places) in
    less_there _ _ _ _ c.loop-place.invariant _ next _ (bits_left _ _ (place_low _ _ _ _ c.loop-place.invariant _ next)) (and_le_l _ _)

pub loop-place-preserved : goal.loop-place-preserved
loop-place-preserved c =
    let next = c.in-Some.ensures _ (support_of_bits c.loop-place.places) in
    passed_there _ _ _ _ c.loop-place.invariant _ next _ (bits_left _ _ (place_low _ _ _ _ c.loop-place.invariant _ next))
    (sym (entry_of_sums _ c.self.inside.sums _ c.self.invariant c.self.view_is _ _ c.digit-entry.ensures.value) ∙ c.if-entry-ne0.false)

pub returns-clause-found : goal.returns-clause-found
returns-clause-found c =
    none_left _ _ _ _ c.loop-place.invariant
    (c.in_default.ensures (bits_of_word c.loop-place.places) (support_of_bits c.loop-place.places))
