use Rattle.std.proofs.Common.{refl}
use Rattle.std.proofs.lemmas.Result.{err_from_is_err_and}
use Rattle.axe_plan.proofs.Sequences.{among_same}
use Rattle.axe_plan.proofs.ReadCalls.{reads_no_more, reads_all}
use Rattle.axe_execute.proofs.planning.draft_of.Goals as goal

pub returns-in-Zcv : goal.returns-in-Zcv
returns-in-Zcv g c = λ tells. rw (c.in-Zcv.is) (_, refl, c.conversion_draft.ensures tells)

pub returns-in-ZcvModule : goal.returns-in-ZcvModule
returns-in-ZcvModule g c = λ tells. rw (c.in-ZcvModule.is) (_, refl, c.module_conversion_draft.ensures tells)

pub returns-in-Zpr : goal.returns-in-Zpr
returns-in-Zpr g c = λ tells.
    let right = c.printing_draft.ensures tells in
    rw (c.in-Zpr.is) (_, refl, rw c.as_ref.ensures.value at right)

pub returns-in-Zmu : goal.returns-in-Zmu
returns-in-Zmu g c = λ tells. rw (c.in-Zmu.is) (_, refl, c.draft_of_two.ensures tells)

pub returns-in-Zad : goal.returns-in-Zad
returns-in-Zad g c = λ tells. rw (c.in-Zad.is) (_, refl, c.draft_of_two-in-Zad.ensures tells)

pub returns-in-Ztr : goal.returns-in-Ztr
returns-in-Ztr g c = λ tells. rw (c.in-Ztr.is) (_, refl, c.draft_of_one.ensures tells)

pub returns-in-Ziv : goal.returns-in-Ziv
returns-in-Ziv g c = λ tells. rw (c.in-Ziv.is) (_, refl, c.draft_of_one-in-Ziv.ensures tells)

pub returns-in-Znu : goal.returns-in-Znu
returns-in-Znu g c = λ tells. rw (c.in-Znu.is) (_, refl, c.draft_of_one-in-Znu.ensures tells)

pub returns-in-Zqt : goal.returns-in-Zqt
returns-in-Zqt g c = λ tells. rw (c.in-Zqt.is) (_, refl, c.quotient_draft.ensures tells)

pub returns-in-Chop : goal.returns-in-Chop
returns-in-Chop g c = λ tells. rw (c.in-Chop.is) (_, refl, c.chop_draft.ensures tells)

pub returns-in_err-seeded-in-Zsp : goal.returns-in_err-seeded-in-Zsp
returns-in_err-seeded-in-Zsp g c = λ tells.
    let p = err_from_is_err_and c.from_residual.result c.from_residual.ensures.1 in
    rw (p.1, p.2, c.in-Zsp.is) (
      _,
      refl,
      reads_no_more g.F.Folder.files g.F.Folder.tally _ _ _ _ _ _ _ _ _ (among_same _)
          (c.in_err-seeded-in-Zsp.ensures.reads tells),
    )

pub returns-in_ok-seeded-in-Zsp : goal.returns-in_ok-seeded-in-Zsp
returns-in_ok-seeded-in-Zsp g c = λ tells.
    let right = c.draft.ensures in
    rw (c.in-Zsp.is) (
      _,
      refl,
      reads_all g.F.Folder.files g.F.Folder.tally _ _ _ _ _ _ _ _ _ (c.in_ok-seeded-in-Zsp.ensures.reads tells)
          (record { agrees = rw c.as_ref-in-Zsp.ensures.value at right }),
    )

pub returns-in-Verify : goal.returns-in-Verify
returns-in-Verify g c = λ tells. rw (c.in-Verify.is) (c.verify_draft.ensures tells)
