use Rattle.std.proofs.Common.{◌+◌, arith}
use Rattle.axe_row.proofs.SummedTables.{no_sums, not_there, rows_within, summed_rows, summed_tables}
use Rattle.axe_row.proofs.combos.Combos.put_sums.Goals as goal

pub invariant_of-self : goal.invariant_of-self
invariant_of-self c =
    let last = rows_within _ _ _ (c.args.start + c.args.count) _ _ _ _ c.self.invariant c.self.view_is c.requires.within in
    summed_tables _ _ _ c.args.start c.args.count _ _ _ _ _ _ c.self.invariant
    (record { prime = c.put_sums.ensures.prime; sums = c.put_sums.ensures.sums })
    (no_sums _ _ _ _ _ c.self.inside.linear c.self.invariant.linear (not_there _ c.degree-degree.result 1 _ c.degree-degree.ensures (omega (arith, c.if-degree-eq1.true))) c.requires.earlier last)
    (no_sums _ _ _ _ _ c.self.inside.quadratic c.self.invariant.quadratic (not_there _ c.degree-degree.result 2 _ c.degree-degree.ensures (omega (arith, c.if-degree-eq1.true))) c.requires.earlier last)
    c.requires.some c.requires.earlier last

pub returns-then-degree-eq1-clause-kept : goal.returns-then-degree-eq1-clause-kept
returns-then-degree-eq1-clause-kept c =
    let last = rows_within _ _ _ (c.args.start + c.args.count) _ _ _ _ c.self.invariant c.self.view_is c.requires.within in
    (summed_rows _ _ _ c.args.start c.args.count _ _ _ _ _ _ c.self.invariant
    (record { prime = c.put_sums.ensures.prime; sums = c.put_sums.ensures.sums })
    (no_sums _ _ _ _ _ c.self.inside.linear c.self.invariant.linear (not_there _ c.degree-degree.result 1 _ c.degree-degree.ensures (omega (arith, c.if-degree-eq1.true))) c.requires.earlier last)
    (no_sums _ _ _ _ _ c.self.inside.quadratic c.self.invariant.quadratic (not_there _ c.degree-degree.result 2 _ c.degree-degree.ensures (omega (arith, c.if-degree-eq1.true))) c.requires.earlier last)
    c.requires.some c.requires.earlier last _ c.self.view_is).kept

pub returns-then-degree-eq1-clause-sums : goal.returns-then-degree-eq1-clause-sums
returns-then-degree-eq1-clause-sums c =
    let last = rows_within _ _ _ (c.args.start + c.args.count) _ _ _ _ c.self.invariant c.self.view_is c.requires.within in
    (summed_rows _ _ _ c.args.start c.args.count _ _ _ _ _ _ c.self.invariant
    (record { prime = c.put_sums.ensures.prime; sums = c.put_sums.ensures.sums })
    (no_sums _ _ _ _ _ c.self.inside.linear c.self.invariant.linear (not_there _ c.degree-degree.result 1 _ c.degree-degree.ensures (omega (arith, c.if-degree-eq1.true))) c.requires.earlier last)
    (no_sums _ _ _ _ _ c.self.inside.quadratic c.self.invariant.quadratic (not_there _ c.degree-degree.result 2 _ c.degree-degree.ensures (omega (arith, c.if-degree-eq1.true))) c.requires.earlier last)
    c.requires.some c.requires.earlier last _ c.self.view_is).sums

pub returns-then-degree-eq1-clause-kind : goal.returns-then-degree-eq1-clause-kind
returns-then-degree-eq1-clause-kind c =
    let last = rows_within _ _ _ (c.args.start + c.args.count) _ _ _ _ c.self.invariant c.self.view_is c.requires.within in
    (summed_rows _ _ _ c.args.start c.args.count _ _ _ _ _ _ c.self.invariant
    (record { prime = c.put_sums.ensures.prime; sums = c.put_sums.ensures.sums })
    (no_sums _ _ _ _ _ c.self.inside.linear c.self.invariant.linear (not_there _ c.degree-degree.result 1 _ c.degree-degree.ensures (omega (arith, c.if-degree-eq1.true))) c.requires.earlier last)
    (no_sums _ _ _ _ _ c.self.inside.quadratic c.self.invariant.quadratic (not_there _ c.degree-degree.result 2 _ c.degree-degree.ensures (omega (arith, c.if-degree-eq1.true))) c.requires.earlier last)
    c.requires.some c.requires.earlier last _ c.self.view_is).kind

pub returns-then-degree-eq1-clause-well_formed : goal.returns-then-degree-eq1-clause-well_formed
returns-then-degree-eq1-clause-well_formed c =
    let last = rows_within _ _ _ (c.args.start + c.args.count) _ _ _ _ c.self.invariant c.self.view_is c.requires.within in
    (summed_rows _ _ _ c.args.start c.args.count _ _ _ _ _ _ c.self.invariant
    (record { prime = c.put_sums.ensures.prime; sums = c.put_sums.ensures.sums })
    (no_sums _ _ _ _ _ c.self.inside.linear c.self.invariant.linear (not_there _ c.degree-degree.result 1 _ c.degree-degree.ensures (omega (arith, c.if-degree-eq1.true))) c.requires.earlier last)
    (no_sums _ _ _ _ _ c.self.inside.quadratic c.self.invariant.quadratic (not_there _ c.degree-degree.result 2 _ c.degree-degree.ensures (omega (arith, c.if-degree-eq1.true))) c.requires.earlier last)
    c.requires.some c.requires.earlier last _ c.self.view_is).well_formed

pub invariant_of-self-then-degree-eq2 : goal.invariant_of-self-then-degree-eq2
invariant_of-self-then-degree-eq2 c =
    let last = rows_within _ _ _ (c.args.start + c.args.count) _ _ _ _ c.self.invariant c.self.view_is c.requires.within in
    summed_tables _ _ _ c.args.start c.args.count _ _ _ _ _ _ c.self.invariant
    (record { prime = c.put_sums.ensures.prime; sums = c.put_sums.ensures.sums })
    (record { prime = c.put_sums-2.ensures.prime; sums = c.put_sums-2.ensures.sums })
    (no_sums _ _ _ _ _ c.self.inside.quadratic c.self.invariant.quadratic (not_there _ c.degree-degree.result 2 _ c.degree-degree.ensures (omega (arith, c.if-degree-eq2.true))) c.requires.earlier last)
    c.requires.some c.requires.earlier last

pub returns-then-degree-eq2-clause-kept : goal.returns-then-degree-eq2-clause-kept
returns-then-degree-eq2-clause-kept c =
    let last = rows_within _ _ _ (c.args.start + c.args.count) _ _ _ _ c.self.invariant c.self.view_is c.requires.within in
    (summed_rows _ _ _ c.args.start c.args.count _ _ _ _ _ _ c.self.invariant
    (record { prime = c.put_sums.ensures.prime; sums = c.put_sums.ensures.sums })
    (record { prime = c.put_sums-2.ensures.prime; sums = c.put_sums-2.ensures.sums })
    (no_sums _ _ _ _ _ c.self.inside.quadratic c.self.invariant.quadratic (not_there _ c.degree-degree.result 2 _ c.degree-degree.ensures (omega (arith, c.if-degree-eq2.true))) c.requires.earlier last)
    c.requires.some c.requires.earlier last _ c.self.view_is).kept

pub returns-then-degree-eq2-clause-sums : goal.returns-then-degree-eq2-clause-sums
returns-then-degree-eq2-clause-sums c =
    let last = rows_within _ _ _ (c.args.start + c.args.count) _ _ _ _ c.self.invariant c.self.view_is c.requires.within in
    (summed_rows _ _ _ c.args.start c.args.count _ _ _ _ _ _ c.self.invariant
    (record { prime = c.put_sums.ensures.prime; sums = c.put_sums.ensures.sums })
    (record { prime = c.put_sums-2.ensures.prime; sums = c.put_sums-2.ensures.sums })
    (no_sums _ _ _ _ _ c.self.inside.quadratic c.self.invariant.quadratic (not_there _ c.degree-degree.result 2 _ c.degree-degree.ensures (omega (arith, c.if-degree-eq2.true))) c.requires.earlier last)
    c.requires.some c.requires.earlier last _ c.self.view_is).sums

pub returns-then-degree-eq2-clause-kind : goal.returns-then-degree-eq2-clause-kind
returns-then-degree-eq2-clause-kind c =
    let last = rows_within _ _ _ (c.args.start + c.args.count) _ _ _ _ c.self.invariant c.self.view_is c.requires.within in
    (summed_rows _ _ _ c.args.start c.args.count _ _ _ _ _ _ c.self.invariant
    (record { prime = c.put_sums.ensures.prime; sums = c.put_sums.ensures.sums })
    (record { prime = c.put_sums-2.ensures.prime; sums = c.put_sums-2.ensures.sums })
    (no_sums _ _ _ _ _ c.self.inside.quadratic c.self.invariant.quadratic (not_there _ c.degree-degree.result 2 _ c.degree-degree.ensures (omega (arith, c.if-degree-eq2.true))) c.requires.earlier last)
    c.requires.some c.requires.earlier last _ c.self.view_is).kind

pub returns-then-degree-eq2-clause-well_formed : goal.returns-then-degree-eq2-clause-well_formed
returns-then-degree-eq2-clause-well_formed c =
    let last = rows_within _ _ _ (c.args.start + c.args.count) _ _ _ _ c.self.invariant c.self.view_is c.requires.within in
    (summed_rows _ _ _ c.args.start c.args.count _ _ _ _ _ _ c.self.invariant
    (record { prime = c.put_sums.ensures.prime; sums = c.put_sums.ensures.sums })
    (record { prime = c.put_sums-2.ensures.prime; sums = c.put_sums-2.ensures.sums })
    (no_sums _ _ _ _ _ c.self.inside.quadratic c.self.invariant.quadratic (not_there _ c.degree-degree.result 2 _ c.degree-degree.ensures (omega (arith, c.if-degree-eq2.true))) c.requires.earlier last)
    c.requires.some c.requires.earlier last _ c.self.view_is).well_formed

pub invariant_of-self-2 : goal.invariant_of-self-2
invariant_of-self-2 c =
    let last = rows_within _ _ _ (c.args.start + c.args.count) _ _ _ _ c.self.invariant c.self.view_is c.requires.within in
    summed_tables _ _ _ c.args.start c.args.count _ _ _ _ _ _ c.self.invariant
    (record { prime = c.put_sums.ensures.prime; sums = c.put_sums.ensures.sums })
    (record { prime = c.put_sums-2.ensures.prime; sums = c.put_sums-2.ensures.sums })
    (record { prime = c.put_sums-3.ensures.prime; sums = c.put_sums-3.ensures.sums })
    c.requires.some c.requires.earlier last

pub returns-clause-kept : goal.returns-clause-kept
returns-clause-kept c =
    let last = rows_within _ _ _ (c.args.start + c.args.count) _ _ _ _ c.self.invariant c.self.view_is c.requires.within in
    (summed_rows _ _ _ c.args.start c.args.count _ _ _ _ _ _ c.self.invariant
    (record { prime = c.put_sums.ensures.prime; sums = c.put_sums.ensures.sums })
    (record { prime = c.put_sums-2.ensures.prime; sums = c.put_sums-2.ensures.sums })
    (record { prime = c.put_sums-3.ensures.prime; sums = c.put_sums-3.ensures.sums })
    c.requires.some c.requires.earlier last _ c.self.view_is).kept

pub returns-clause-sums : goal.returns-clause-sums
returns-clause-sums c =
    let last = rows_within _ _ _ (c.args.start + c.args.count) _ _ _ _ c.self.invariant c.self.view_is c.requires.within in
    (summed_rows _ _ _ c.args.start c.args.count _ _ _ _ _ _ c.self.invariant
    (record { prime = c.put_sums.ensures.prime; sums = c.put_sums.ensures.sums })
    (record { prime = c.put_sums-2.ensures.prime; sums = c.put_sums-2.ensures.sums })
    (record { prime = c.put_sums-3.ensures.prime; sums = c.put_sums-3.ensures.sums })
    c.requires.some c.requires.earlier last _ c.self.view_is).sums

pub returns-clause-kind : goal.returns-clause-kind
returns-clause-kind c =
    let last = rows_within _ _ _ (c.args.start + c.args.count) _ _ _ _ c.self.invariant c.self.view_is c.requires.within in
    (summed_rows _ _ _ c.args.start c.args.count _ _ _ _ _ _ c.self.invariant
    (record { prime = c.put_sums.ensures.prime; sums = c.put_sums.ensures.sums })
    (record { prime = c.put_sums-2.ensures.prime; sums = c.put_sums-2.ensures.sums })
    (record { prime = c.put_sums-3.ensures.prime; sums = c.put_sums-3.ensures.sums })
    c.requires.some c.requires.earlier last _ c.self.view_is).kind

pub returns-clause-well_formed : goal.returns-clause-well_formed
returns-clause-well_formed c =
    let last = rows_within _ _ _ (c.args.start + c.args.count) _ _ _ _ c.self.invariant c.self.view_is c.requires.within in
    (summed_rows _ _ _ c.args.start c.args.count _ _ _ _ _ _ c.self.invariant
    (record { prime = c.put_sums.ensures.prime; sums = c.put_sums.ensures.sums })
    (record { prime = c.put_sums-2.ensures.prime; sums = c.put_sums-2.ensures.sums })
    (record { prime = c.put_sums-3.ensures.prime; sums = c.put_sums-3.ensures.sums })
    c.requires.some c.requires.earlier last _ c.self.view_is).well_formed
