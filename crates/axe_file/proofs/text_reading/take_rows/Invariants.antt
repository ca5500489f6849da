use Rattle.axe_file.proofs.TextScans.{RowsRead}
use Rattle.axe_file.proofs.text_reading.take_rows.Given as goal

abbrev pub invariant-loop : goal.invariant-loop
invariant-loop l = RowsRead l.field l.rows l.columns l.bytes l.start l.counter l.at l.matrix
