use Rattle.axe_execute.proofs.VerifiedSeries.{series_found}
use Rattle.axe_execute.proofs.HeldVerified.{held_is_verified, chopped_is_verified}
use Rattle.axe_execute.proofs.laws.verify_finds_a_series.Goals as goal

pub returns-clause-yes : goal.returns-clause-yes
returns-clause-yes c = series_found

pub returns-clause-held : goal.returns-clause-held
returns-clause-held c = held_is_verified

pub returns-clause-chopped : goal.returns-clause-chopped
returns-clause-chopped c = chopped_is_verified
