-- The status, the number and the printed line of a fault.
use Rattle.std.specs.Prelude.{ℕ, List, [], ◌++◌, Option, Some, None, codes, decimal, string_bytes}
use Rattle.axe_row.specs.declared.refusals.Refusal.{Refusal}
use Rattle.axe_row.specs.declared.refusals.Refusal.TheVariants as refusal
use Rattle.axe_report.specs.declared.fault.ReportFault.{ReportFault}
use Rattle.axe_report.specs.declared.fault.ReportFault.TheVariants as report
use Rattle.axe_report.specs.declared.reasons.Reason.{Reason}
use Rattle.axe_report.specs.Reasons.{reason_text}
use Rattle.axe_file.specs.declared.fault.FileFault.{FileFault}
use Rattle.axe_file.specs.declared.fault.FileFault.TheVariants as file
use Rattle.axe_folder.specs.declared.fault.FolderFault.{FolderFault}
use Rattle.axe_folder.specs.declared.fault.FolderFault.TheVariants as folder
use Rattle.axe_fault.specs.declared.fault.Fault.{Fault}
use Rattle.axe_fault.specs.declared.fault.Fault.TheVariants.{File, Report, Folder, Refused, Undecided, NotVerified}
use Rattle.axe_fault.specs.declared.fault.Fault.TheVariants.{Usage, Memory}

-- the number of a fault in a file's bytes
abbrev pub file_number : FileFault → ℕ
file_number file.ShortHeader = 1
file_number file.BadMagic = 2
file_number file.BadField = 3
file_number file.BadReserved = 4
file_number file.BadRows = 5
file_number file.BadCols = 6
file_number file.Truncated = 7
file_number (file.BadByte offset) = 8
file_number (file.BadPadding offset) = 9
file_number file.TrailingBytes = 10
file_number (file.BadHeader offset) = 11
file_number file.BadMode = 12
file_number (file.BadDigit offset) = 13
file_number file.TooFewDigits = 14
file_number (file.TrailingText offset) = 15
file_number file.BadGens = 16
file_number file.Memory = 50

-- the number of a refusal
abbrev pub refusal_number : Refusal → ℕ
refusal_number refusal.FieldsDiffer = 20
refusal_number refusal.ShapesDiffer = 21
refusal_number refusal.NotSquare = 22
refusal_number refusal.Singular = 23
refusal_number refusal.NotInvariant = 24
refusal_number refusal.WholeSpace = 25
refusal_number refusal.ZeroSeed = 26
refusal_number refusal.NoRows = 27
refusal_number refusal.ZeroSpace = 28
refusal_number refusal.Memory = 50

-- the number of a folder's fault
abbrev pub folder_number : FolderFault → ℕ
folder_number folder.Missing = 40
folder_number folder.TooLong = 41
folder_number folder.Device = 42
folder_number folder.Memory = 50

-- the number of a fault in a report's bytes
abbrev pub report_number : ReportFault → ℕ
report_number (report.BadReport line) = 61
report_number report.OldReport = 62
report_number report.Memory = 50

-- the number of a fault
abbrev pub fault_number : Fault → ℕ
fault_number (File name fault) = file_number fault
fault_number (Report name fault) = report_number fault
fault_number (Folder name fault) = folder_number fault
fault_number (Refused refusal) = refusal_number refusal
fault_number (Undecided basis offset dim) = 30
fault_number (NotVerified reason) = 63
fault_number (Usage text) = 60
fault_number Memory = 50

-- the exit status for a fault in a file's bytes
abbrev pub file_status : FileFault → ℕ
file_status file.Memory = 7
file_status fault = 3

-- the exit status for a fault in a report's bytes
abbrev pub report_status : ReportFault → ℕ
report_status report.Memory = 7
report_status fault = 3

-- the exit status for a folder's fault
abbrev pub folder_status : FolderFault → ℕ
folder_status folder.Memory = 7
folder_status fault = 6

-- the exit status for a refusal
abbrev pub refusal_status : Refusal → ℕ
refusal_status refusal.Memory = 7
refusal_status refusal = 4

-- the exit status for a fault
abbrev pub status_of : Fault → ℕ
status_of (File name fault) = file_status fault
status_of (Report name fault) = report_status fault
status_of (Folder name fault) = folder_status fault
status_of (Refused refusal) = refusal_status refusal
status_of (Undecided basis offset dim) = 5
status_of (NotVerified reason) = 8
status_of (Usage text) = 2
status_of Memory = 7

-- the printed name of a fault in a file's bytes
abbrev pub file_text : FileFault → List ℕ
file_text file.ShortHeader = codes "ShortHeader"
file_text file.BadMagic = codes "BadMagic"
file_text file.BadField = codes "BadField"
file_text file.BadGens = codes "BadGens"
file_text file.BadReserved = codes "BadReserved"
file_text file.BadRows = codes "BadRows"
file_text file.BadCols = codes "BadCols"
file_text file.Truncated = codes "Truncated"
file_text (file.BadByte offset) = codes "BadByte"
file_text (file.BadPadding offset) = codes "BadPadding"
file_text file.TrailingBytes = codes "TrailingBytes"
file_text (file.BadHeader offset) = codes "BadHeader"
file_text file.BadMode = codes "BadMode"
file_text (file.BadDigit offset) = codes "BadDigit"
file_text file.TooFewDigits = codes "TooFewDigits"
file_text (file.TrailingText offset) = codes "TrailingText"
file_text file.Memory = codes "Memory"

-- how a fault in a report's bytes is printed: its name, and the line where it stands if it has one
abbrev pub report_text : ReportFault → List ℕ
report_text (report.BadReport line) = codes "BadReport line " ++ decimal line
report_text report.OldReport = codes "OldReport"
report_text report.Memory = codes "Memory"

-- the printed name of a folder's fault
abbrev pub folder_text : FolderFault → List ℕ
folder_text folder.Missing = codes "Missing"
folder_text folder.TooLong = codes "TooLong"
folder_text folder.Device = codes "Device"
folder_text folder.Memory = codes "Memory"

-- the printed name of a refusal
abbrev pub refusal_text : Refusal → List ℕ
refusal_text refusal.FieldsDiffer = codes "FieldsDiffer"
refusal_text refusal.ShapesDiffer = codes "ShapesDiffer"
refusal_text refusal.NotSquare = codes "NotSquare"
refusal_text refusal.Singular = codes "Singular"
refusal_text refusal.NotInvariant = codes "NotInvariant"
refusal_text refusal.WholeSpace = codes "WholeSpace"
refusal_text refusal.ZeroSeed = codes "ZeroSeed"
refusal_text refusal.NoRows = codes "NoRows"
refusal_text refusal.ZeroSpace = codes "ZeroSpace"
refusal_text refusal.Memory = codes "Memory"

-- the place in a file's bytes where a fault stands, if it has one
abbrev pub file_offset : FileFault → Option ℕ
file_offset (file.BadByte offset) = Some offset
file_offset (file.BadPadding offset) = Some offset
file_offset (file.BadHeader offset) = Some offset
file_offset (file.BadDigit offset) = Some offset
file_offset (file.TrailingText offset) = Some offset
file_offset fault = None

-- how an offset is printed: in decimal
abbrev pub offset_text : Option ℕ → List ℕ
offset_text None = []
offset_text (Some offset) = codes " at " ++ decimal offset

-- a line of the program
abbrev pub program_line : List ℕ → List ℕ
program_line text = codes "axe: " ++ text ++ codes "\n"

-- a line of the program on a file: its name, the fault, and the place in its bytes if there is one
abbrev pub file_line : List ℕ → List ℕ → Option ℕ → List ℕ
file_line name text offset = program_line (name ++ codes ": " ++ text ++ offset_text offset)

-- how a section that stays undecided is printed: where its block begins, and its dimension
abbrev pub undecided_text : ℕ → ℕ → List ℕ
undecided_text offset dim = codes "Undecided offset=" ++ decimal offset ++ codes " dim=" ++ decimal dim

-- a line of the program on a report: its file's name, and the fault
abbrev pub report_line : List ℕ → ReportFault → List ℕ
report_line name fault = program_line (name ++ codes ": " ++ report_text fault)

-- how the reason is printed why a certificate is not right
abbrev pub reason_line : Reason → List ℕ
reason_line reason = program_line (codes "NotVerified " ++ reason_text reason)

-- the printed line of a fault. The text of a Usage is its line
abbrev pub line_of : Fault → List ℕ
line_of (File name fault) = file_line (string_bytes name) (file_text fault) (file_offset fault)
line_of (Report name fault) = report_line (string_bytes name) fault
line_of (Folder name fault) = file_line (string_bytes name) (folder_text fault) None
line_of (Refused refusal) = program_line (refusal_text refusal)
line_of (Undecided basis offset dim) = program_line (undecided_text offset dim)
line_of (NotVerified reason) = reason_line reason
line_of (Usage text) = string_bytes text
line_of Memory = program_line (codes "Memory")
