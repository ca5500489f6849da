use Rattle.std.proofs.Common.{◌≡◌, length, ap, sym, ◌∙◌, subst, arith}
use Rattle.std.specs.Vec.{vec_len}
use Rattle.std.proofs.lemmas.List.{length-map}
use Rattle.axe_matrix.specs.Matrices.{MatrixValue}
use Rattle.axe_spin.specs.Modules.{ModuleValue, IsModule}
use Rattle.axe_spin.proofs.module.Module.gens.Goals as goal

items_counted : (c : goal.After-len) → vec_len c.self.inside.generators ≡ length c.self.inside.generators.items
items_counted c = omega (arith, c.self.inside.generators.ok.0)

pub returns-clause-count : goal.returns-clause-count
returns-clause-count c =
    c.len.ensures ∙ items_counted c ∙ sym (length-map c.self.inside.generators.items (λ (m : MatrixValue). m.rows))
    ∙ ap (λ (m : ModuleValue). length m.generators) c.self.view_is

pub returns-clause-well_formed : goal.returns-clause-well_formed
returns-clause-well_formed c = subst IsModule c.self.view_is c.self.invariant.well_formed
