use Rattle.std.proofs.Common.{◌∙◌, inl, inr}
use Rattle.axe_echelon.proofs.WordsOfPivots.{own_negative_of}
use Rattle.axe_echelon.proofs.subspace.held.negative_in.Goals.{then-this-eq2-via-then-this-eq2, then-this-eq2-via-else-this-eq2+then-this-eq4, then-this-eq2-via-else-this-eq2+else-this-eq4+then-this-eq8}
use Rattle.axe_echelon.proofs.subspace.held.negative_in.Goals as goal

pub returns-then-this-eq2 : goal.returns-then-this-eq2
returns-then-this-eq2 g c =
    λ o sized element values. elim c.then-this-eq2.branch [
      | then-this-eq2-via-then-this-eq2 w ↦ own_negative_of o c.args.element (inl (sized ∙ w.if-this-eq2.true)) element
      | then-this-eq2-via-else-this-eq2+then-this-eq4 w ↦ own_negative_of o c.args.element (inr (inl (sized ∙ w.if-this-eq4.true))) element
      | then-this-eq2-via-else-this-eq2+else-this-eq4+then-this-eq8 w ↦ own_negative_of o c.args.element (inr (inr (sized ∙ w.if-this-eq8.true))) element
    ]
