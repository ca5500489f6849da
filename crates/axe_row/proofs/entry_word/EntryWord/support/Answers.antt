use Rattle.std.proofs.Common.{List, ℕ, length, sym, ap, subst, ◌∙◌}
use Rattle.std.specs.Int.RustNames.{bit_or}
use Rattle.axe_layer.specs.Supports.{IsSupportWord}
use Rattle.axe_row.proofs.EntryWordLaws.{length-weighted_numbers, support_of_weighted}
use Rattle.axe_row.proofs.entry_word.EntryWord.support.Goals as goal

pub returns-clause-support : goal.returns-clause-support
returns-clause-support c =
    let x = c.self.inside in
    subst (λ (numbers : List ℕ). IsSupportWord numbers 0 (bit_or (bit_or (bit_or x.ones x.twos) x.high_ones) x.high_twos)) c.self.view_is
    (support_of_weighted _ _ _ _ x.weight c.self.invariant)

pub returns-clause-long : goal.returns-clause-long
returns-clause-long c =
    let x = c.self.inside in
    sym (ap length c.self.view_is) ∙ length-weighted_numbers x.ones x.twos x.high_ones x.high_twos x.weight
