use Rattle.std.proofs.Common.{◌≡◌, ◌+◌, length, rules, arith}
use Rattle.axe_folder.proofs.SourceLaws.{ReadsPiece-interrupted, ReadsPiece-failed, ReadsPiece-unstored, ReadsPiece-too_long, ReadsPiece-appended}
use Rattle.axe_folder.proofs.reading.read_piece.Goals as goal

-- the piece goes past the limit
pub returns-in-Ok : goal.returns-in-Ok
returns-in-Ok g c =
    let asked : length c.read.new.buf ≡ c.min-asked.result + 1 = search rules in
    ReadsPiece-too_long _ c.read.new.buf c.in-Ok.count _ _ _ c.in-Ok.ensures.bytes.0 c.in-Ok.ensures.bound.0 (omega arith) (omega arith)

-- the piece stands after the bytes before it
pub returns-in_ok-extend_from_slice-in-Ok-2 : goal.returns-in_ok-extend_from_slice-in-Ok-2
returns-in_ok-extend_from_slice-in-Ok-2 g c =
    let asked : length c.read.new.buf ≡ c.min-asked.result + 1 = search rules in
    ReadsPiece-appended _ c.read.new.buf _ _ c.in-Ok.count _ _ _ c.in-Ok.ensures.bytes c.in-Ok.ensures.bound.0 (omega arith) (omega arith)
    c.in_ok-extend_from_slice-in-Ok-2.ensures.items

-- there was no memory for the piece
pub returns-in_err-extend_from_slice-in-Ok-2 : goal.returns-in_err-extend_from_slice-in-Ok-2
returns-in_err-extend_from_slice-in-Ok-2 g c =
    ReadsPiece-unstored _ _ c.read.new.buf _ c.in-Ok.count _ _ _ c.from_residual.ensures.1 c.in_err-extend_from_slice-in-Ok-2.ensures.items
    c.in-Ok.ensures.bytes.0 c.in-Ok.ensures.bound.0 (omega arith)

-- the read was interrupted
pub returns-in-Err : goal.returns-in-Err
returns-in-Err g c = ReadsPiece-interrupted _ _ _ _ c.in-Err.ensures.bytes (omega arith)

-- the read failed
pub returns-in-Err-2 : goal.returns-in-Err-2
returns-in-Err-2 g c = ReadsPiece-failed _ _ _ _ c.in-Err-2.ensures.bytes (omega arith)
