use Rattle.std.proofs.Common.{◌≡◌, ◌≤◌, ◌*◌, ◌∙◌, length, ap, take_at, arith}
use Rattle.axe_algebra.proofs.ListEntries.{listed_length}
use Rattle.axe_file.proofs.MarkTables.{few_marks, long_table, width_is_enough, taken_marks}
use Rattle.axe_file.proofs.reading.marks_of.Goals as goal

pub take_marks-requires-clause-few : goal.take_marks-requires-clause-few
take_marks-requires-clause-few c =
    omega (arith, c.args.layout.now.marks_is, few_marks c.args.layout.now.field c.requires.more)

pub take_marks-requires-clause-table : goal.take_marks-requires-clause-table
take_marks-requires-clause-table c =
    omega (arith, long_table c.args.layout.now.field c.args.layout.now.marks c.args.table.now c.requires.table c.args.layout.now.marks_is)

pub take_marks-requires-clause-bytes : goal.take_marks-requires-clause-bytes
take_marks-requires-clause-bytes c =
    let layout = c.args.layout.now in
    let enough : layout.columns ≤ length c.args.bytes.now * layout.marks = rw (layout.marks_is, c.requires.bytes) (width_is_enough layout.field layout.columns) in
    omega (arith, enough, c.deref_mut.ensures.len, c.in_ok-marks.ensures.len)

pub returns-clause-value : goal.returns-clause-value
returns-clause-value c =
    let layout = c.args.layout.now in
    let columns : length c.deref_mut.result.now ≡ layout.columns = omega (arith, c.deref_mut.ensures.len, c.in_ok-marks.ensures.len) in
    let marks = taken_marks layout.field layout.marks layout.columns (length c.deref_mut.result.now) c.args.table.now c.args.bytes.now c.requires.table layout.marks_is (λ i. (c.type_inv.bytes i).fits) columns in
    let long : length c.take_marks.new.marks ≡ c.in_ok-marks.marks.len =
    ap length c.take_marks.ensures ∙ listed_length (length c.deref_mut.result.now) _ ∙ omega (arith, c.deref_mut.ensures.len, c.in_ok-marks.marks.ok.0) in
    take_at c.take_marks.new.marks _ c.in_ok-marks.marks.len long ∙ c.take_marks.ensures ∙ marks
