use Rattle.std.proofs.Common.{ℕ, List, [], ◌∷◌, ◌++◌, ap, ◌∙◌}
use Rattle.std.specs.Prelude.{codes}
use Rattle.std.specs.Int.{w32, to_le_bytes}
use Rattle.axe_field.specs.Order.{order_number}
use Rattle.axe_file.specs.PackedModules.{module_header}
use Rattle.axe_file.proofs.Lists.{four_put}
use Rattle.axe_file.proofs.module_writing.put_module_header.Goals as goal

pub returns : goal.returns
unfolding module_header
returns c =
    let o = c.args.layout.now.field in
    let g = c.args.generators in
    four_put c.args.bytes.now.items c.extend_from_slice.new.self.items c.extend_from_slice-2.new.self.items c.extend_from_slice-3.new.self.items
    c.extend_from_slice-4.new.self.items
    (codes "AXP2") (order_number o ∷ g ∷ 0 ∷ 0 ∷ []) (to_le_bytes w32 c.args.layout.now.columns) (0 ∷ 0 ∷ 0 ∷ 0 ∷ [])
    c.in_ok-extend_from_slice.ensures.items
    (c.in_ok-extend_from_slice-2.ensures.items ∙ ap (λ (n : ℕ). c.extend_from_slice.new.self.items ++ (n ∷ g ∷ 0 ∷ 0 ∷ [])) c.order.ensures.value)
    (c.in_ok-extend_from_slice-3.ensures.items ∙ ap (λ (xs : List ℕ). c.extend_from_slice-2.new.self.items ++ xs) c.to_le_bytes.ensures)
    c.in_ok-extend_from_slice-4.ensures.items
