use Rattle.axe_matrix.proofs.TableLaws.{new_table}
use Rattle.axe_matrix.proofs.products.two_tables.Goals as goal

pub returns-in-Ok-clause-first : goal.returns-in-Ok-clause-first
returns-in-Ok-clause-first c = new_table _ _ _ _ c.in_ok-first.ensures.zeros c.in_ok-first.ensures.well_formed

pub returns-in-Ok-clause-second : goal.returns-in-Ok-clause-second
returns-in-Ok-clause-second c = new_table _ _ _ _ c.in-Ok.ensures.zeros c.in-Ok.ensures.well_formed
