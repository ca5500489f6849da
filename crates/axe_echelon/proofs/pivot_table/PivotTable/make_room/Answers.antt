use Rattle.std.proofs.Common.{◌≡◌, ◌∙◌, ℕ, List, length, get_or, ap, refl, arith}
use Rattle.axe_echelon.proofs.PivotTableLaws.{no_marks, room_made, pivots_stay}
use Rattle.axe_echelon.proofs.StepLaws.{get_or_copies}
use Rattle.axe_echelon.proofs.pivot_table.PivotTable.make_room.Goals.{In_ok-zero}
use Rattle.axe_echelon.proofs.pivot_table.PivotTable.make_room.Goals as goal

long : (c : In_ok-zero) → length c.resize.new.self.items ≡ c.args.cols
long c = omega (arith, c.in_ok-resize.ensures.len, c.resize.new.self.ok.0)

blocks_long : (c : In_ok-zero) → length c.resize-then-is_none.new.self.items ≡ c.args.cols
blocks_long c = omega (arith, c.in_ok-resize-2.ensures.len, c.resize-then-is_none.new.self.ok.0)

pub returns-in_ok-zero-clause-pivots : goal.returns-in_ok-zero-clause-pivots
returns-in_ok-zero-clause-pivots c = λ pivots has.
    pivots_stay c.args.cols pivots c.args.self.now _ has c.in_ok-zero.field-0
    (no_marks c.args.self.now.marks c.is_none.result c.is_none.ensures c.if-is_none.true) refl c.in_ok-zero.ensures (long (goal.at.returns-in_ok-zero-clause-pivots c).In_ok-zero)
    (blocks_long (goal.at.returns-in_ok-zero-clause-pivots c).In_ok-zero)

pub returns-in_ok-zero-clause-room : goal.returns-in_ok-zero-clause-room
returns-in_ok-zero-clause-room c = λ pivots has.
    room_made c.args.cols pivots c.args.self.now _ has c.in_ok-zero.field-0
    (no_marks c.args.self.now.marks c.is_none.result c.is_none.ensures c.if-is_none.true) refl c.in_ok-zero.ensures (long (goal.at.returns-in_ok-zero-clause-room c).In_ok-zero)
    (blocks_long (goal.at.returns-in_ok-zero-clause-room c).In_ok-zero)

pub returns-in_ok-zero-clause-has_blocks : goal.returns-in_ok-zero-clause-has_blocks
returns-in_ok-zero-clause-has_blocks c = λ rows has column p block marked is block_is small.
    absurd (marked (ap (λ (l : List ℕ). get_or l column 0) c.in_ok-zero.ensures ∙ get_or_copies 0 c.args.cols column))
