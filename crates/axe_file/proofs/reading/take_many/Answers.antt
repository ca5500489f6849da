use Rattle.std.proofs.Common.{rules, ◌≡◌, ◌<◌, ◌≤◌, ◌+◌, ◌-◌, ◌*◌, ◌/◌, ◌∙◌, length, take, sym, subst, arith}
use Rattle.std.proofs.lemmas.List.{take_all}
use Rattle.std.proofs.lemmas.Nat.{mul-le, div-add-mod', mod_below}
use Rattle.std.proofs.Math.Nat.{div-mul-le_self}
use Rattle.axe_algebra.specs.Lists.{listed}
use Rattle.axe_file.proofs.MarkTables.{taken, taken_more}
use Rattle.axe_file.proofs.reading.take_many.Goals as goal

pub loop-place-preserved : goal.loop-place-preserved
loop-place-preserved g c =
    let m = g.row.COUNT in
    let k = c.loop-place.place in
    let whole = div-mul-le_self (length c.args.marks.now) m in
    let room : (k + 1) * m ≤ length c.args.marks.now / m * m = mul-le (k + 1) m (length c.args.marks.now / m) m (omega (arith, c.loop-place-test.true)) (omega arith) in
    let spread : (k + 1) * m ≡ k * m + m = omega arith in
    let byte : c.from.result < 256 = search rules in
    let piece : (c.from.result + 1) * m ≤ 256 * m = mul-le (c.from.result + 1) m 256 m (omega (arith, byte)) (omega arith) in
    let wide : (c.from.result + 1) * m ≡ c.from.result * m + m = omega arith in (
      taken_more m k c.from.result m _ ((k + 1) * m) c.args.table.now c.args.bytes.now c.loop-place.marks c.copy_from_slice.new.self (omega arith) c.loop-place.invariant.0
          (omega (arith, whole, room, c.loop-place.invariant.1)) c.from.ensures (omega (arith, piece, c.requires.table)) c.copy_from_slice.ensures.after spread,
      search rules,
    )

pub returns-then-start-marks : goal.returns-then-start-marks
returns-then-start-marks g c =
    let m = g.row.COUNT in
    let long = length c.args.marks.now in
    let k = long / m in
    let left = length c.loop-place.marks - k * m in
    let all : long ≡ k * m + left = omega (arith, div-mul-le_self long m, c.loop-place.invariant.1) in
    let short : left < m = omega (arith, all, div-add-mod' long m, mod_below long m (omega (arith, c.requires.some))) in
    let done : c.loop-place.place ≡ k = omega (arith, c.loop-place-test.false, c.loop-place.auto) in
    let byte : c.from-from.result < 256 = search rules in
    let piece : (c.from-from.result + 1) * m ≤ 256 * m = mul-le (c.from-from.result + 1) m 256 m (omega (arith, byte)) (omega arith) in
    let wide : (c.from-from.result + 1) * m ≡ c.from-from.result * m + m = omega arith in
    let after = taken_more m k c.from-from.result left _ long c.args.table.now c.args.bytes.now c.loop-place.marks c.copy_from_slice-then-start-marks.new.self (omega (arith, short))
    (subst (λ n. take (n * m) c.loop-place.marks ≡ listed (n * m) (taken m c.args.table.now c.args.bytes.now)) done c.loop-place.invariant.0)
    (omega (arith, all, c.loop-place.invariant.1)) c.from-from.ensures (omega (arith, piece, short, c.requires.table)) c.copy_from_slice-then-start-marks.ensures.after all in
    sym (take_all long _ (search rules)) ∙ after
