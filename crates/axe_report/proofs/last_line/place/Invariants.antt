use Rattle.std.proofs.Common.{◌≡◌, ◌<◌, ℕ, [], get_or}
use Rattle.axe_report.specs.Reports.{names}
use Rattle.axe_report.proofs.last_line.place.Given as goal

abbrev pub invariant-loop-place : goal.invariant-loop-place
invariant-loop-place l = (p : ℕ) → p < l.place → get_or (names l.factors) p [] ≡ l.name → ⊥
