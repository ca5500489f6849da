-- What each command means, and which files it reads.
use Rattle.std.specs.Prelude.{◌≡◌, ℕ, List, [], ◌∷◌, ◌++◌}
use Rattle.axe_folder.specs.Files.{Files}
use Rattle.axe_arguments.specs.declared.command.Command.{Command}
use Rattle.axe_arguments.specs.declared.command.Command.TheVariants.{Zcv, ZcvModule, Zpr, Zmu, Zad}
use Rattle.axe_arguments.specs.declared.command.Command.TheVariants.{Ztr, Ziv, Znu, Zsp, Zqt, Chop, Verify}
use Rattle.axe_plan.specs.Plans.{Plan}
use Rattle.axe_plan.specs.Meanings.{Meaning}
use Rattle.axe_plan.specs.Inputs.{numbered_names, module_names}
use Rattle.axe_execute.specs.MatrixCommands.{ConversionPlan, PrintingPlan, ProductPlan, SumPlan, TransposePlan}
use Rattle.axe_execute.specs.MatrixCommands.{InversePlan, NullSpacePlan}
use Rattle.axe_execute.specs.ModuleCommands.{ModuleConversionPlan, SpinPlan, QuotientPlan}
use Rattle.axe_execute.specs.ChopCommand.{ChopPlan}
use Rattle.axe_execute.specs.VerifyCommand.{VerifyPlan, AreReadToVerify}

-- these are the files that a command reads, in order, where the folder has these files: what it reads first may tell
-- what it reads next
abbrev pub AreRead : Command → Files → List (List ℕ) → Type 0
AreRead (Zcv input out) files read = read ≡ input ∷ []
AreRead (ZcvModule generators name out) files read = read ≡ numbered_names name generators
AreRead (Zpr input out) files read = read ≡ input ∷ []
AreRead (Zmu left right out) files read = read ≡ left ∷ right ∷ []
AreRead (Zad left right out) files read = read ≡ left ∷ right ∷ []
AreRead (Ztr input out) files read = read ≡ input ∷ []
AreRead (Ziv input out) files read = read ≡ input ∷ []
AreRead (Znu input out) files read = read ≡ input ∷ []
AreRead (Zsp generators standard action name seed out) files read = read ≡ numbered_names name generators ++ seed ∷ []
AreRead (Zqt generators subspace name out) files read = read ≡ subspace ∷ numbered_names name generators
AreRead (Chop stored seed words name) files read = read ≡ module_names stored name
AreRead (Verify layout name) files read = AreReadToVerify layout name files read

-- the meaning of a command
abbrev pub Means : Command → Files → Meaning Plan
Means (Zcv input out) files = ConversionPlan input out files
Means (ZcvModule generators name out) files = ModuleConversionPlan generators name out files
Means (Zpr input out) files = PrintingPlan input out files
Means (Zmu left right out) files = ProductPlan left right out files
Means (Zad left right out) files = SumPlan left right out files
Means (Ztr input out) files = TransposePlan input out files
Means (Ziv input out) files = InversePlan input out files
Means (Znu input out) files = NullSpacePlan input out files
Means (Zsp generators standard action name seed out) files = SpinPlan generators standard action name seed out files
Means (Zqt generators subspace name out) files = QuotientPlan generators subspace name out files
Means (Chop stored seed words name) files = ChopPlan stored seed words name files
Means (Verify layout name) files = VerifyPlan layout name files
