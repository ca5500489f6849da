-- What a reader of files answers.
use Rattle.std.specs.Prelude.{◌≡◌, Option, Some, None, Result, Ok, Err}
use Rattle.axe_file.specs.declared.fault.FileFault.{FileFault}
use Rattle.axe_file.specs.declared.fault.FileFault.TheVariants.{Memory}

-- where there is a fault, that fault, whatever the memory; where there is none, a value of which P holds, or Memory
abbrev pub AnswersFile : {T : Type 0} → Option FileFault → (T → Type 0) → Result T FileFault → Type 0
AnswersFile (Some fault) P result = result ≡ Err fault
AnswersFile None P (Ok value) = P value
AnswersFile None P (Err fault) = fault ≡ Memory
