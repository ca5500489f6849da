use Rattle.std.proofs.Common.{◌≡◌, ◌≤◌, true, false, sym, ◌∙◌}
use Rattle.std.proofs.lemmas.Result.{err_from_is_err_and}
use Rattle.axe_matrix.specs.Limits.{most_rows, most_columns}
use Rattle.axe_file.specs.Packed.{is_out_of_range, header_rows, header_columns}
use Rattle.axe_file.proofs.Checks.{fault_in_beginning, bad_reserved, bad_rows, bad_columns}
use Rattle.axe_file.proofs.Soundness.{sound_beginning, in_range, header_is_sound}
use Rattle.axe_file.proofs.reading.header_of.Goals as goal

pub returns-in_err-field-clause-fault : goal.returns-in_err-field-clause-fault
returns-in_err-field-clause-fault c =
    let p = err_from_is_err_and c.from_residual.result c.from_residual.ensures.1 in
    rw (p.1, p.2) (fault_in_beginning c.args.bytes.now _ c.in_err-field.ensures.fault)

pub returns-then-has_reserved-clause-fault : goal.returns-then-has_reserved-clause-fault
returns-then-has_reserved-clause-fault c =
    bad_reserved c.args.bytes.now c.in_ok-field.ensures.faultless (sym c.has_reserved.ensures ∙ c.if-has_reserved.true)

pub returns-then-rows-gt-MAX_ROWS-clause-fault : goal.returns-then-rows-gt-MAX_ROWS-clause-fault
unfolding header_rows
returns-then-rows-gt-MAX_ROWS-clause-fault c =
    bad_rows c.args.bytes.now c.in_ok-field.ensures.faultless (sym c.has_reserved.ensures ∙ c.if-has_reserved.false)
    (rw c.number_at-rows.ensures at c.if-rows-gt-MAX_ROWS.true)

pub returns-then-is_out_of_range-clause-fault : goal.returns-then-is_out_of_range-clause-fault
unfolding header_rows header_columns
returns-then-is_out_of_range-clause-fault c =
    let few : header_rows c.args.bytes.now ≤ most_rows = rw (← c.number_at-rows.ensures) c.if-rows-gt-MAX_ROWS.false in
    let other : is_out_of_range most_columns (header_columns c.args.bytes.now) ≡ true =
    rw (← c.number_at-columns.ensures) (sym c.is_out_of_range.ensures ∙ c.if-is_out_of_range.true) in
    bad_columns c.args.bytes.now c.in_ok-field.ensures.faultless (sym c.has_reserved.ensures ∙ c.if-has_reserved.false) few other

pub returns-clause-faultless : goal.returns-clause-faultless
unfolding header_rows header_columns
returns-clause-faultless c =
    let few : header_rows c.args.bytes.now ≤ most_rows = rw (← c.number_at-rows.ensures) c.if-rows-gt-MAX_ROWS.false in
    let within : is_out_of_range most_columns (header_columns c.args.bytes.now) ≡ false =
    rw (← c.number_at-columns.ensures) (sym c.is_out_of_range.ensures ∙ c.if-is_out_of_range.false) in
    let columns = in_range (header_columns c.args.bytes.now) most_columns within in
    header_is_sound c.args.bytes.now (record {
      begun = sound_beginning _ c.args.bytes.now c.in_ok-field.ensures.faultless;
      reserved = sym c.has_reserved.ensures ∙ c.if-has_reserved.false;
      rows_fit = few;
      some_column = columns.0;
      columns_fit = columns.1;
    })

pub new-requires : goal.new-requires
new-requires c = (in_range c.number_at-columns.result most_columns (sym c.is_out_of_range.ensures ∙ c.if-is_out_of_range.false)).1

pub returns-clause-says : goal.returns-clause-says
unfolding header_rows header_columns
returns-clause-says c = record {
  order = c.in_ok-field.ensures.names ∙ sym c.new.ensures.field;
  rows = sym c.number_at-rows.ensures;
  columns = sym c.number_at-columns.ensures ∙ sym c.new.ensures.columns;
}
