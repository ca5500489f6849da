use Rattle.std.proofs.Common.{◌≡◌, ◌+◌, ◌*◌, ◌/◌, ◌∙◌, arith, rules, ap}
use Rattle.axe_bits.specs.FlatTables.{bit_entries}
use Rattle.axe_bits.proofs.TableLaws.{zero_bit_entries, zero_entries_held, zeros_of}
use Rattle.axe_bits.proofs.bit_table.BitTable.zero.Goals as goal

pub invariant_of-result : goal.invariant_of-result
invariant_of-result c =
    let all : c.in_ok-all.all ≡ c.args.count * c.div_ceil-width.result = search rules in
    let wide : c.div_ceil-width.result ≡ (c.args.len + 63) / 64 = omega (arith, c.div_ceil-width.ensures) in
    rw (c.in_ok-words.ensures.items_if_clones_equal (λ y e. e), all) (zero_entries_held c.args.len c.div_ceil-width.result c.args.count c.ranges.len.fits wide)

pub returns : goal.returns
returns c =
    let all : c.in_ok-all.all ≡ c.args.count * c.div_ceil-width.result = search rules in
    ap (bit_entries c.args.len c.div_ceil-width.result c.args.count) (c.in_ok-words.ensures.items_if_clones_equal (λ y e. e) ∙ zeros_of _ _ all)
    ∙ zero_bit_entries c.args.len c.div_ceil-width.result c.args.count
