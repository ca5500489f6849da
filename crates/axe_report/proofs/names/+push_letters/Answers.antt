use Rattle.std.proofs.Common.{◌≡◌, ◌≤◌, ◌<◌, ◌++◌, ◌/◌, ◌-◌, ◌⊎◌, string_bytes, ap, ◌∙◌, inl, inr, rules}
use Rattle.axe_report.specs.Names.{letters}
use Rattle.axe_report.proofs.Letters.{letters_pushed}
use Rattle.axe_report.proofs.names.«+push_letters».Goals as goal
use Rattle.axe_report.proofs.names.«+push_letters».Goals.{then-number-ge26+in_ok-push_letters, else-number-ge26}

pub returns : goal.returns
returns t c =
    let n = c.args.number in
    let old = string_bytes c.args.name.now in
    let items = string_bytes c.if-number-ge26.name in
    let before : ((n < 26) × (items ≡ old)) ⊎ ((26 ≤ n) × (items ≡ old ++ letters (n / 26 - 1))) = elim c.if-number-ge26.branch [
      | then-number-ge26+in_ok-push_letters w ↦ inr (w.if-number-ge26.true, ap (λ (s : _). string_bytes s) w.name-is ∙ w.in_ok-push_letters.ensures)
      | else-number-ge26 w ↦ inl (w.if-number-ge26.false, ap (λ (s : _). string_bytes s) w.name-is)
    ] in
    letters_pushed n old items _ c.from.result before (search rules) (search rules)
