use Rattle.std.proofs.Common.{length, refl, arith}
use Rattle.std.specs.Vec.{vec_len}
use Rattle.axe_echelon.proofs.LeadingRowLaws.{left_fits, taken_out_of, taken_out_moved}
use Rattle.axe_echelon.proofs.leading_rows.take_row.Goals as goal

pub move_row-requires : goal.move_row-requires
move_row-requires c =
    left_fits c.args.rows.now.items c.swap_remove-taken.new.self.items c.row_of-index.result (vec_len c.args.rows.now)
    (length c.args.pivots.now.rows.items) c.index.result.now c.requires.fits (omega (arith, c.args.rows.now.ok.0))
    (omega (arith, c.swap_remove-taken.ensures.len, c.args.rows.now.ok.0, c.swap_remove-taken.new.self.ok.0))
    c.swap_remove-taken.ensures.by_index.0 (omega (arith, c.if-index-len.true, c.len.ensures, c.swap_remove-taken.new.self.ok.0)) c.index.ensures

pub returns-then-index-len : goal.returns-then-index-len
returns-then-index-len c =
    taken_out_moved c.args.rows.now.items c.swap_remove-taken.new.self.items c.args.pivots.now c.move_row.new.self c.args.column c.row_of-index.result
    (vec_len c.args.rows.now) c.swap_remove-taken.result c.row_of-index.ensures (omega (arith, c.row_of-index.ensures, c.requires.within, c.args.rows.now.ok.0))
    (omega (arith, c.args.rows.now.ok.0)) c.swap_remove-taken.ensures.value
    (omega (arith, c.swap_remove-taken.ensures.len, c.args.rows.now.ok.0, c.swap_remove-taken.new.self.ok.0))
    c.swap_remove-taken.ensures.by_index.0 c.swap_remove-taken.ensures.by_index.1 c.index.result.now
    (omega (arith, c.if-index-len.true, c.len.ensures, c.swap_remove-taken.new.self.ok.0)) c.index.ensures c.move_row.ensures.marks c.move_row.ensures.blocks
    c.move_row.ensures.rows

pub returns-else-index-len : goal.returns-else-index-len
returns-else-index-len c =
    taken_out_of c.args.rows.now.items c.swap_remove-taken.new.self.items c.args.pivots.now c.args.pivots.now c.args.column c.row_of-index.result
    (vec_len c.args.rows.now) c.swap_remove-taken.result c.row_of-index.ensures (omega (arith, c.row_of-index.ensures, c.requires.within, c.args.rows.now.ok.0))
    (omega (arith, c.args.rows.now.ok.0)) c.swap_remove-taken.ensures.value
    (omega (arith, c.swap_remove-taken.ensures.len, c.args.rows.now.ok.0, c.swap_remove-taken.new.self.ok.0))
    c.swap_remove-taken.ensures.by_index.0 c.swap_remove-taken.ensures.by_index.1 refl refl
    (λ p within p_is. absurd (omega (arith, within, c.if-index-len.false, c.len.ensures, c.swap_remove-taken.new.self.ok.0))) (λ past. refl)
