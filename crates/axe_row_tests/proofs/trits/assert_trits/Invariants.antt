use Rattle.axe_row_tests.proofs.ApartWords.{AreApartBefore}
use Rattle.axe_row_tests.proofs.trits.assert_trits.Given as goal

abbrev pub invariant-loop-at : goal.invariant-loop-at
invariant-loop-at g l = AreApartBefore l.ones l.twos l.at
