-- What can stand against a command, and what a fault says of a command.
use Rattle.std.specs.Prelude.{ℕ, List, string_bytes}
use Rattle.axe_row.specs.declared.refusals.Refusal.{Refusal}
use Rattle.axe_matrix.specs.Matrices.{MatrixValue}
use Rattle.axe_report.specs.declared.fault.ReportFault.{ReportFault}
use Rattle.axe_report.specs.Reasons.{reason_text}
use Rattle.axe_file.specs.declared.fault.FileFault.{FileFault}
use Rattle.axe_folder.specs.declared.fault.FolderFault.{FolderFault}
use Rattle.axe_folder.specs.declared.fault.FolderFault.TheVariants as folder
use Rattle.axe_fault.specs.declared.fault.Fault.{Fault}
use Rattle.axe_fault.specs.declared.fault.Fault.TheVariants.{File, Report, Folder, Refused, Undecided, NotVerified}
use Rattle.axe_fault.specs.declared.fault.Fault.TheVariants.{Usage, Memory}

-- what can stand against a command: a file that is absent or too long, a file that is no spelling of what is asked
-- for, a file that is no report that can be used, each with its name, a refusal of the operation, a section that stays
-- undecided, with a basis that shows it, the number of rows before its own, and its dimension, and the reason why a
-- certificate is not right, by its text
pub data Problem : Type 0 where
  Unfetched : List ℕ → FolderFault → Problem
  Unreadable : List ℕ → FileFault → Problem
  Unreported : List ℕ → ReportFault → Problem
  Refuses : Refusal → Problem
  StaysOpen : MatrixValue → ℕ → ℕ → Problem
  Uncertified : List ℕ → Problem

-- why a command ends with a fault: a problem stands against it, a device failed at the file of this name, or there was
-- no memory; and the fault of what is no command
pub data Cause : Type 0 where
  Stands : Problem → Cause
  DeviceFailed : List ℕ → Cause
  NoMemory : Cause
  NoCommand : Cause

-- the cause of a fault; a command ends with no fault of usage, and tells want of memory in a folder as Memory
abbrev pub cause_of : Fault → Cause
cause_of (File name fault) = Stands (Unreadable (string_bytes name) fault)
cause_of (Report name fault) = Stands (Unreported (string_bytes name) fault)
cause_of (Folder name folder.Missing) = Stands (Unfetched (string_bytes name) folder.Missing)
cause_of (Folder name folder.TooLong) = Stands (Unfetched (string_bytes name) folder.TooLong)
cause_of (Folder name folder.Device) = DeviceFailed (string_bytes name)
cause_of (Folder name folder.Memory) = NoCommand
cause_of (Refused refusal) = Stands (Refuses refusal)
cause_of (Undecided basis offset dim) = Stands (StaysOpen basis offset dim)
cause_of (NotVerified reason) = Stands (Uncertified (reason_text reason))
cause_of (Usage text) = NoCommand
cause_of Memory = NoMemory
