use Rattle.std.proofs.Common.{◌≡◌, ◌*◌, ◌∙◌, rules, ap, List, ℕ}
use Rattle.axe_plane.specs.FlatTables.{byte_entries}
use Rattle.axe_plane.proofs.TableLaws.{zero_byte_entries, zero_digits_held}
use Rattle.axe_bits.proofs.TableLaws.{zeros_of}
use Rattle.axe_plane.proofs.PlaneLaws.{byte_prime-positive}
use Rattle.axe_plane.proofs.byte_table.ByteTable.zero.Goals as goal

pub invariant_of-result : goal.invariant_of-result
invariant_of-result c =
    let all : c.in_ok-all.all ≡ c.args.count * c.args.len = search rules in
    rw (c.in_ok-bytes.ensures.items_if_clones_equal (λ y e. e), all) (zero_digits_held _ c.args.len c.args.count (byte_prime-positive c.args.prime))

pub returns : goal.returns
returns c =
    let all : c.in_ok-all.all ≡ c.args.count * c.args.len = search rules in
    ap (λ (l : List (List ℕ)). record { prime = c.args.prime; entries = l })
    (ap (byte_entries c.args.len c.args.count) (c.in_ok-bytes.ensures.items_if_clones_equal (λ y e. e) ∙ zeros_of _ _ all)
    ∙ zero_byte_entries c.args.len c.args.count)
