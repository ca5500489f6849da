use Rattle.std.proofs.Common.{rules, ◌∙◌}
use Rattle.axe_row.proofs.TablePlanes.{count_fits}
use Rattle.axe_row.proofs.combos.table_rows.Goals as goal

pub pow-requires : goal.pow-requires
pow-requires c = count_fits c.args.field.now _ _ (c.from.ensures ∙ c.order.ensures.value) c.requires

pub returns : goal.returns
returns c = search rules

pub overflow_cast-size : goal.overflow_cast-size
overflow_cast-size c = search rules
