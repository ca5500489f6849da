-- What a bounded read of a source answers, and what it takes from the source.
use Rattle.std.specs.Prelude.{◌≡◌, ⊤, ℕ, ◌+◌, ◌<◌, ◌≤◌, Bool, IsTrue, List, ◌++◌, length, Option, Result, Ok, Err, Vec}
use Rattle.std.specs.Io.KnownBytes.{Consumes, IsAtEnd}
use Rattle.axe_folder.specs.declared.fault.FolderFault.{FolderFault}
use Rattle.axe_folder.specs.declared.fault.FolderFault.TheVariants.{Missing, TooLong, Device, Memory}

-- of a source with these bytes: all of them, where they keep the limit; TooLong only where they don't; Device or Memory
abbrev pub ReadsWithin : {Z : Type 0} → Result (Vec ℕ Z) FolderFault → List ℕ → ℕ → Type 0
ReadsWithin (Ok bytes) source limit = (bytes.items ≡ source) × (length source ≤ limit)
ReadsWithin (Err Missing) source limit = ⊥
ReadsWithin (Err TooLong) source limit = limit < length source
ReadsWithin (Err Device) source limit = ⊤
ReadsWithin (Err Memory) source limit = ⊤

-- of the bytes that a source is known to have, no more than `most` were taken
abbrev pub ConsumesAtMost : Option (List ℕ) → Option (List ℕ) → ℕ → Type 0
ConsumesAtMost old new most = (taken : List ℕ) × (Consumes old new taken × (length taken ≤ most))

-- one turn: the piece stands after the bytes before it, true only where the source has ended; TooLong only where
-- the limit is passed with it; Device or Memory
abbrev pub PieceOutcome : Result Bool FolderFault → List ℕ → List ℕ → List ℕ → Option (List ℕ) → ℕ → Type 0
PieceOutcome (Ok ended) before after piece rest limit =
    (after ≡ before ++ piece) × (length after ≤ limit) × (IsTrue ended → IsAtEnd rest)
PieceOutcome (Err Missing) before after piece rest limit = ⊥
PieceOutcome (Err TooLong) before after piece rest limit = limit < length before + length piece
PieceOutcome (Err Device) before after piece rest limit = ⊤
PieceOutcome (Err Memory) before after piece rest limit = ⊤

-- a turn of a bounded read takes a piece that goes at most one byte past the limit
pub record ReadsPiece (result : Result Bool FolderFault) (before after : List ℕ) (old new : Option (List ℕ))
    (limit : ℕ) : Type 0 where
  pub piece : List ℕ
  pub taken : Consumes old new piece
  pub frugal : length before + length piece ≤ limit + 1
  pub outcome : PieceOutcome result before after piece new limit
