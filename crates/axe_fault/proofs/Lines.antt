-- Lines as they are written.
use Rattle.std.proofs.Common.{◌≡◌, ◌∙◌, ℕ, ◌++◌, codes, append_assoc, sym, ap}
use Rattle.std.specs.Prelude.{decimal}
use Rattle.axe_fault.specs.Printed.{program_line, undecided_text}

pub undecided_written : (offset dim : ℕ) →
    codes "axe: Undecided offset=" ++ (decimal offset ++ (codes " dim=" ++ (decimal dim ++ codes "\n"))) ≡ program_line (undecided_text offset dim)
undecided_written offset dim =
    ap (λ rest. codes "axe: Undecided offset=" ++ rest)
    (sym (append_assoc (decimal offset ++ codes " dim=") (decimal dim) (codes "\n") ∙ append_assoc (decimal offset) (codes " dim=") (decimal dim ++ codes "\n")))
