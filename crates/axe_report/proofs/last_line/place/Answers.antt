use Rattle.std.proofs.Common.{sym, ◌∙◌, arith}
use Rattle.std.proofs.lemmas.List.Sums.{prefix_len-le-length}
use Rattle.std.proofs.lemmas.Slice.Eq.{slice_eq-Decides}
use Rattle.std.proofs.lemmas.Bool.Decides.{Decides-eqb}
use Rattle.axe_report.specs.Fronts.{is_no_separator}
use Rattle.axe_report.proofs.LastLines.{place_there, no_place, none_more}
use Rattle.axe_report.proofs.last_line.place.Goals as goal

pub split_at-requires : goal.split_at-requires
split_at-requires c = omega (arith, c.word_len.ensures, prefix_len-le-length is_no_separator c.args.text.now)

pub returns-then-eq : goal.returns-then-eq
returns-then-eq c =
    let same = (slice_eq-Decides Decides-eqb c.as_bytes.result.now c.split_at.result.0.now c.eq.result c.eq.ensures).0 c.if-eq.true in
    place_there c.args.factors.now c.args.text.now c.split_at.result.0.now c.split_at.result.1.now c.word_len.result c.loop-place.place c.index-factors-place.result c.word_len.ensures c.split_at.ensures.front
    c.split_at.ensures.back c.loop-place-test.true c.index-factors-place.is (sym (c.as_bytes.ensures.value ∙ c.name.ensures) ∙ same)

pub loop-place-preserved : goal.loop-place-preserved
loop-place-preserved c =
    none_more c.args.factors.now c.split_at.result.0.now c.loop-place.place c.index-factors-place.result c.loop-place-test.true c.index-factors-place.is
    (λ e. let yes = (slice_eq-Decides Decides-eqb c.as_bytes.result.now c.split_at.result.0.now c.eq.result c.eq.ensures).1 (c.as_bytes.ensures.value ∙ c.name.ensures ∙ e) in absurd (cc (yes, c.if-eq.false)))
    c.loop-place.invariant

pub returns : goal.returns
returns c p x lt stops e =
    no_place c.args.factors.now c.args.text.now c.split_at.result.0.now c.word_len.result c.requires c.word_len.ensures c.split_at.ensures.front
    (λ q within same. c.loop-place.invariant q (omega arith) same) p x lt stops e
