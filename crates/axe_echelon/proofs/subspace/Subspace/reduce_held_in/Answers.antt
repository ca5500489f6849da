use Rattle.std.proofs.Common.{arith}
use Rattle.axe_echelon.specs.Subspaces.{IsReducedBelow}
use Rattle.axe_echelon.proofs.StepLaws.{over_of_row}
use Rattle.axe_echelon.proofs.WordsOfPivots.{reduced_below_none, reduced_below_all}
use Rattle.axe_echelon.proofs.subspace.Subspace.reduce_held_in.Goals as goal

pub returns-clause-representative : goal.returns-clause-representative
returns-clause-representative g c =
    let none : IsReducedBelow c.args.self.now 0 c.args.row.now c.hold-held.result =
    rw c.hold-held.ensures.value (
    reduced_below_none c.args.self.now c.args.row.now c.requires.field
    (over_of_row _ _ c.args.row.now c.requires.field c.requires.elements c.requires.fits)) in
    let below-0 = c.clear_word_of_held.ensures.reduced c.args.row.now none in
    let below-1 = c.clear_word_of_held-2.ensures.reduced c.args.row.now below-0 in
    let below-2 = c.clear_word_of_held-3.ensures.reduced c.args.row.now below-1 in
    let below-3 = c.clear_word_of_held-4.ensures.reduced c.args.row.now below-2 in
    rw c.put_held.ensures.value (reduced_below_all c.args.self.now 256 c.args.row.now c.clear_word_of_held-4.new.held below-3 (omega (arith, c.requires.words, c.requires.few)))
