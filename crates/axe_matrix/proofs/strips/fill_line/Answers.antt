use Rattle.std.proofs.Common.{◌<◌, List, ℕ, length, drop, get_or, ap, ◌∙◌, arith}
use Rattle.std.proofs.lemmas.List.{get_or_append_left}
use Rattle.axe_matrix.proofs.strips.fill_line.Goals as goal

pub returns : goal.returns
returns c = λ j below.
    let inside : j < length c.copy_to.new.entries = omega (arith, ap (λ (x : List ℕ). length x) c.copy_to.ensures) in
    get_or_append_left c.copy_to.new.entries (drop c.len.result c.args.line.now) 0 j inside ∙ ap (λ (x : List ℕ). get_or x j 0) c.copy_to.ensures
