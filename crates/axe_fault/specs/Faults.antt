-- How a fault of a lower layer becomes a fault of a command.
use Rattle.std.specs.Prelude.{String}
use Rattle.std.specs.declared.alloc.Global.{Global}
use Rattle.axe_row.specs.declared.refusals.Refusal.{Refusal}
use Rattle.axe_row.specs.declared.refusals.Refusal.TheVariants as refusal
use Rattle.axe_report.specs.declared.fault.ReportFault.{ReportFault}
use Rattle.axe_report.specs.declared.fault.ReportFault.TheVariants as report
use Rattle.axe_file.specs.declared.fault.FileFault.{FileFault}
use Rattle.axe_file.specs.declared.fault.FileFault.TheVariants as file
use Rattle.axe_folder.specs.declared.fault.FolderFault.{FolderFault}
use Rattle.axe_folder.specs.declared.fault.FolderFault.TheVariants as folder
use Rattle.axe_fault.specs.declared.fault.Fault.{Fault}
use Rattle.axe_fault.specs.declared.fault.Fault.TheVariants.{File, Report, Folder, Refused, Memory}

-- of the bytes of the file of this name; Memory is Memory
abbrev pub file_fault : String Global → FileFault → Fault
file_fault name file.Memory = Memory
file_fault name fault = File name fault

-- of the bytes of the report of this name; Memory is Memory
abbrev pub report_fault : String Global → ReportFault → Fault
report_fault name report.Memory = Memory
report_fault name fault = Report name fault

-- of a folder at the file of this name; Memory is Memory
abbrev pub folder_fault : String Global → FolderFault → Fault
folder_fault name folder.Memory = Memory
folder_fault name fault = Folder name fault

-- of an operation; Memory is Memory
abbrev pub refusal_fault : Refusal → Fault
refusal_fault refusal.Memory = Memory
refusal_fault refusal = Refused refusal
