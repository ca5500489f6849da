use Rattle.std.proofs.Common.{ℕ, ◌≡◌, ◌<◌, ◌+◌, ◌*◌, ◌/◌, ◌∙◌, [], length, set, take, sym, ap, subst, get_or, arith}
use Rattle.std.proofs.lemmas.List.{length-set, take_all, take_more_set}
use Rattle.axe_algebra.specs.Lists.{listed}
use Rattle.axe_row.specs.ByteDigits.{digits_per_byte}
use Rattle.axe_file.specs.Marks.{byte_with_marks, bytes_per_row}
use Rattle.axe_file.specs.Packed.{packed_row}
use Rattle.axe_file.proofs.Bytes.{whole_bytes}
use Rattle.axe_file.proofs.Lists.{listed_more}
use Rattle.axe_file.proofs.writing.pack_many.Goals as goal

pub bounds-bytes-place : goal.bounds-bytes-place
bounds-bytes-place g c =
    let layout = c.args.layout.now in
    let few = whole_bytes layout.field layout.columns (length c.args.row.now) g.row.COUNT c.requires.columns (sym c.requires.marks ∙ layout.marks_is) in
    omega (arith, few.0, c.loop-place-test.true, c.loop-place.auto.bytes, c.requires.room, layout.width_is)

pub loop-place-preserved : goal.loop-place-preserved
loop-place-preserved g c =
    let layout = c.args.layout.now in
    let bytes = c.loop-place.bytes in
    let place = c.loop-place.place in
    let few = whole_bytes layout.field layout.columns (length c.args.row.now) g.row.COUNT c.requires.columns (sym c.requires.marks ∙ layout.marks_is) in
    let inside : place < length bytes = omega (arith, few.0, c.loop-place-test.true, c.loop-place.auto.bytes, c.requires.room, layout.width_is) in (
      listed_more [] (take place bytes) _
          (λ k. byte_with_marks layout.field (λ j. get_or c.args.row.now (k * digits_per_byte layout.field + j) 0))
          place c.whole_byte.result c.loop-place.invariant.0 c.whole_byte.ensures (take_more_set bytes place _ inside),
      length-set bytes place _ ∙ c.loop-place.invariant.1,
    )

pub returns-then-whole-bytes : goal.returns-then-whole-bytes
unfolding packed_row
returns-then-whole-bytes g c =
    let layout = c.args.layout.now in
    let bytes = c.loop-place.bytes in
    let whole = length c.args.row.now / g.row.COUNT in
    let f : ℕ → ℕ = λ k. byte_with_marks layout.field (λ j. get_or c.args.row.now (k * digits_per_byte layout.field + j) 0) in
    let few = whole_bytes layout.field layout.columns (length c.args.row.now) g.row.COUNT c.requires.columns (sym c.requires.marks ∙ layout.marks_is) in
    let done : c.loop-place.place ≡ whole = omega (arith, c.loop-place-test.false, c.loop-place.auto.place-end) in
    let long : whole + 1 ≡ bytes_per_row layout.field layout.columns = omega (arith, few.1, c.if-whole-bytes.true, c.loop-place.auto.bytes, c.requires.room, layout.width_is) in
    let before : take whole bytes ≡ listed whole f = subst (λ n. take n bytes ≡ listed n f) done c.loop-place.invariant.0 in
    let all = take_all (whole + 1) (set bytes whole c.byte_of.result) (omega (arith, length-set bytes whole c.byte_of.result, long, c.loop-place.invariant.1, layout.width_is)) in
    sym all
    ∙ listed_more [] (take whole bytes) _ f whole c.byte_of.result before c.byte_of.ensures (take_more_set bytes whole _ c.if-whole-bytes.true)
    ∙ ap (λ n. listed n f) long

pub returns-else-whole-bytes : goal.returns-else-whole-bytes
unfolding packed_row
returns-else-whole-bytes g c =
    let layout = c.args.layout.now in
    let bytes = c.loop-place.bytes in
    let f : ℕ → ℕ = λ k. byte_with_marks layout.field (λ j. get_or c.args.row.now (k * digits_per_byte layout.field + j) 0) in
    let few = whole_bytes layout.field layout.columns (length c.args.row.now) g.row.COUNT c.requires.columns (sym c.requires.marks ∙ layout.marks_is) in
    let done : c.loop-place.place ≡ bytes_per_row layout.field layout.columns =
    omega (arith, few.0, c.loop-place-test.false, c.loop-place.auto.place-end, c.if-whole-bytes.false, c.loop-place.auto.bytes, c.requires.room, layout.width_is) in
    let all = take_all c.loop-place.place bytes (omega (arith, done, c.loop-place.invariant.1, layout.width_is)) in
    sym all ∙ c.loop-place.invariant.0 ∙ ap (λ n. listed n f) done
