use Rattle.std.proofs.Common.{◌∙◌, replicate, arith}
use Rattle.axe_echelon.specs.Subspaces.{IsClearedBelow}
use Rattle.axe_echelon.proofs.HeldWords.{cleared_below_none}
use Rattle.axe_echelon.proofs.StepLaws.{over_of_row}
use Rattle.axe_echelon.proofs.WordsOfPivots.{cleared_below_all}
use Rattle.axe_echelon.proofs.subspace.Subspace.reduce_with_held_in.Goals as goal

pub returns : goal.returns
returns g c =
    let none : IsClearedBelow c.args.self.now 0 c.args.row.now c.hold-held.result c.args.multipliers.now =
    rw c.hold-held.ensures.value (
    cleared_below_none c.args.self.now c.args.row.now c.args.multipliers.now c.requires.field
    (over_of_row _ _ c.args.row.now c.requires.field c.requires.elements c.requires.fits)
    (c.requires.zeros ∙ (λ i. record { order = c.requires.field i; entries = replicate (c.requires.fits i) 0 }))) in
    let below-0 = c.clear_word_of_held_with.ensures.cleared c.args.row.now none in
    let below-1 = c.clear_word_of_held_with-2.ensures.cleared c.args.row.now below-0 in
    let below-2 = c.clear_word_of_held_with-3.ensures.cleared c.args.row.now below-1 in
    let below-3 = c.clear_word_of_held_with-4.ensures.cleared c.args.row.now below-2 in
    rw c.put_held.ensures.value (cleared_below_all c.args.self.now 256 c.args.row.now c.clear_word_of_held_with-4.new.held c.clear_word_of_held_with-4.new.multipliers below-3 (omega (arith, c.requires.words, c.requires.few)))
