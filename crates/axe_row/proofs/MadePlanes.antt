-- Rows of planes each of which was to be made, by what is known of the planes that were.
use Rattle.std.proofs.Common.{◌≡◌, ℕ, length, IfOk, Result, Ok, Err, None, refl, sym, ap, subst, ◌∙◌}
use Rattle.std.specs.declared.alloc.AllocError.{AllocError}
use Rattle.axe_field.specs.Order.{Order}
use Rattle.axe_plane.specs.Planes.{digits_of}
use Rattle.axe_plane.specs.declared.Plane.{Plane}
use Rattle.axe_row.specs.MadePlanes.{row_of_planes, IfMade, AnswersMade}
use Rattle.axe_row.specs.Planes.{ArePlanes}
use Rattle.axe_row.specs.Refusals.{Answers}
use Rattle.axe_row.specs.Rows.{RowValue}
use Rattle.axe_row.specs.declared.refusals.Refusal.{Refusal}
use Rattle.axe_row.specs.declared.refusals.Refusal.TheVariants.{Memory}
use Rattle.axe_row.proofs.KeptPlanes.{same_answer}
use Rattle.axe_row.proofs.RowPlanes.{with_length}

pub made : (x y : Result Plane AllocError) (P Q : Plane → Type 0) (R : Plane → Plane → Type 0) → IfOk x P → IfOk y Q →
    ((l q : Plane) → P l → Q q → R l q) → IfMade x y R
made (Ok l) (Ok q) P Q R hl hq h = h l q hl hq
made (Ok l) (Err error) P Q R hl hq h = tt
made (Err error) y P Q R hl hq h = tt

-- an answer that is Memory stands for any row
refused : (r : Result RowValue Refusal) (is : RowValue) → r ≡ Err Memory → Answers None (λ value. value ≡ is) r
refused r is e = subst (Answers None (λ (value : RowValue). value ≡ is)) (sym e) refl

pub answers_made : (x y : Result Plane AllocError) (P Q : Plane → Type 0) (row : Plane → Plane → RowValue) (r : Result RowValue Refusal) (is : RowValue) →
    IfOk x P → IfOk y Q → AnswersMade x y row r → ((l q : Plane) → P l → Q q → row l q ≡ is) → Answers None (λ value. value ≡ is) r
answers_made (Ok l) (Ok q) P Q row r is hl hq answers h = same_answer r (row l q) is (h l q hl hq) answers
answers_made (Ok l) (Err error) P Q row r is hl hq answers h = refused r is answers
answers_made (Err error) y P Q row r is hl hq answers h = refused r is answers

-- Memory is an answer, whichever planes were made
pub not_made : (x y : Result Plane AllocError) (row : Plane → Plane → RowValue) → AnswersMade x y row (Err Memory)
not_made (Ok l) (Ok q) row = refl
not_made (Ok l) (Err error) row = refl
not_made (Err error) y row = refl

-- both planes were made
pub were_made : (x y : Result Plane AllocError) (l q : Plane) (R : Plane → Plane → Type 0) → x ≡ Ok l → y ≡ Ok q → IfMade x y R → R l q
were_made x y l q R ex ey h =
    subst (λ (z : Result Plane AllocError). IfMade (Ok l) z R) ey (subst (λ (z : Result Plane AllocError). IfMade z y R) ex h)

-- ---- copies of three planes

pub copied_planes : (o : Order) (n : ℕ) (c l q c' l' q' : Plane) → ArePlanes o n c l q → c' ≡ c → l' ≡ l → q' ≡ q →
    ArePlanes o (length (digits_of c')) c' l' q'
copied_planes o n c l q c' l' q' h ec el eq =
    with_length o n c' l' q'
    (subst (λ (x : Plane). ArePlanes o n x l' q') (sym ec)
    (subst (λ (x : Plane). ArePlanes o n c x q') (sym el) (subst (λ (x : Plane). ArePlanes o n c l x) (sym eq) h)))

pub copied_row : (o : Order) (c l q c' l' q' : Plane) (self : RowValue) → row_of_planes o c l q ≡ self → c' ≡ c → l' ≡ l → q' ≡ q →
    row_of_planes o c' l' q' ≡ self
copied_row o c l q c' l' q' self is ec el eq =
    ap (λ (x : Plane). row_of_planes o x l' q') ec ∙ ap (λ (x : Plane). row_of_planes o c x q') el ∙ ap (row_of_planes o c l) eq ∙ is
