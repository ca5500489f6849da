use Rattle.std.proofs.Common.{◌*◌, ◌≤◌, arith}
use Rattle.std.proofs.lemmas.Grind.{common_steps}
use Rattle.axe_matrix.specs.Limits.{most_rows}
use Rattle.axe_file.specs.Packed.{packed}
use Rattle.axe_file.proofs.Scans.{most_data, data_fits}
use Rattle.axe_file.proofs.writing.write_packed.Goals as goal

pub overflow_mul-rows : goal.overflow_mul-rows
overflow_mul-rows c =
    let layout = c.new-layout.result in
    let rows : c.rows.result ≤ most_rows = omega (arith, c.rows.ensures.count, c.rows.ensures.well_formed.rows_fit) in
    let fits : c.rows.result * layout.width ≤ most_data = rw layout.width_is (data_fits layout.field c.rows.result layout.columns rows layout.columns_fit) in
    omega arith

pub overflow_add-rows : goal.overflow_add-rows
overflow_add-rows c =
    let layout = c.new-layout.result in
    let rows : c.rows.result ≤ most_rows = omega (arith, c.rows.ensures.count, c.rows.ensures.well_formed.rows_fit) in
    let fits : c.rows.result * layout.width ≤ most_data = rw layout.width_is (data_fits layout.field c.rows.result layout.columns rows layout.columns_fit) in
    omega arith

pub overflow_add-layout : goal.overflow_add-layout
overflow_add-layout c =
    let layout = c.new-layout.result in
    let fits : 1 * layout.width ≤ most_data = rw layout.width_is (data_fits layout.field 1 layout.columns (omega arith) layout.columns_fit) in
    omega (arith, fits, layout.columns_fit)

pub returns-clause-spelling : goal.returns-clause-spelling
unfolding packed
returns-clause-spelling c = grind (arith, common_steps)
