use Rattle.std.proofs.Common.{arith}
use Rattle.axe_layer.proofs.FourPlaces.{are_places, fewer_than_four, four_places}
use Rattle.axe_layer.proofs.supports.four_in_word.Goals as goal

pub returns-then-fourth-eq0 : goal.returns-then-fourth-eq0
returns-then-fourth-eq0 c = λ numbers support.
    fewer_than_four numbers c.args.start c.args.word support c.ranges.word.fits _ _ _
    (record { fits = c.without_lowest-second.type_inv; bit = c.without_lowest-second.ensures })
    (record { fits = c.without_lowest-third.type_inv; bit = c.without_lowest-third.ensures })
    (record { fits = c.without_lowest-fourth.type_inv; bit = c.without_lowest-fourth.ensures }) c.if-fourth-eq0.true

pub overflow_add-result : goal.overflow_add-result
overflow_add-result c =
    omega (
      arith,
      (are_places c.args.start c.args.word _ _ _ c.ranges.start.fits c.ranges.word.fits
          (record { fits = c.without_lowest-second.type_inv; bit = c.without_lowest-second.ensures })
          (record { fits = c.without_lowest-third.type_inv; bit = c.without_lowest-third.ensures })
          (record { fits = c.without_lowest-fourth.type_inv; bit = c.without_lowest-fourth.ensures }) c.if-fourth-eq0.false).first,
    )

pub overflow_add-result-2 : goal.overflow_add-result-2
overflow_add-result-2 c =
    omega (
      arith,
      (are_places c.args.start c.args.word _ _ _ c.ranges.start.fits c.ranges.word.fits
          (record { fits = c.without_lowest-second.type_inv; bit = c.without_lowest-second.ensures })
          (record { fits = c.without_lowest-third.type_inv; bit = c.without_lowest-third.ensures })
          (record { fits = c.without_lowest-fourth.type_inv; bit = c.without_lowest-fourth.ensures }) c.if-fourth-eq0.false).second,
    )

pub overflow_add-result-3 : goal.overflow_add-result-3
overflow_add-result-3 c =
    omega (
      arith,
      (are_places c.args.start c.args.word _ _ _ c.ranges.start.fits c.ranges.word.fits
          (record { fits = c.without_lowest-second.type_inv; bit = c.without_lowest-second.ensures })
          (record { fits = c.without_lowest-third.type_inv; bit = c.without_lowest-third.ensures })
          (record { fits = c.without_lowest-fourth.type_inv; bit = c.without_lowest-fourth.ensures }) c.if-fourth-eq0.false).third,
    )

pub overflow_add-result-4 : goal.overflow_add-result-4
overflow_add-result-4 c =
    omega (
      arith,
      (are_places c.args.start c.args.word _ _ _ c.ranges.start.fits c.ranges.word.fits
          (record { fits = c.without_lowest-second.type_inv; bit = c.without_lowest-second.ensures })
          (record { fits = c.without_lowest-third.type_inv; bit = c.without_lowest-third.ensures })
          (record { fits = c.without_lowest-fourth.type_inv; bit = c.without_lowest-fourth.ensures }) c.if-fourth-eq0.false).fourth,
    )

pub returns : goal.returns
returns c = λ numbers support.
    four_places numbers c.args.start c.args.word support c.ranges.word.fits _ _ _
    (record { fits = c.without_lowest-second.type_inv; bit = c.without_lowest-second.ensures })
    (record { fits = c.without_lowest-third.type_inv; bit = c.without_lowest-third.ensures })
    (record { fits = c.without_lowest-fourth.type_inv; bit = c.without_lowest-fourth.ensures }) c.if-fourth-eq0.false
