-- Rows of planes each of which was to be made, where there was memory for it.
use Rattle.std.specs.Prelude.{◌≡◌, Result, Ok, Err, None, ⊤}
use Rattle.std.specs.declared.alloc.AllocError.{AllocError}
use Rattle.axe_field.specs.Order.{Order}
use Rattle.axe_plane.specs.Planes.{digits_of}
use Rattle.axe_plane.specs.declared.Plane.{Plane}
use Rattle.axe_row.specs.Planes.{entries_of_digits}
use Rattle.axe_row.specs.Refusals.{Answers}
use Rattle.axe_row.specs.Rows.{RowValue}
use Rattle.axe_row.specs.declared.refusals.Refusal.{Refusal}
use Rattle.axe_row.specs.declared.refusals.Refusal.TheVariants.{Memory}

-- the row with these planes of coefficients
abbrev pub row_of_planes : Order → Plane → Plane → Plane → RowValue
row_of_planes o c l q = record { order = o; entries = entries_of_digits o (digits_of c) (digits_of l) (digits_of q) }

-- where both planes were made, they have the property P
abbrev pub IfMade : Result Plane AllocError → Result Plane AllocError → (Plane → Plane → Type 0) → Type 0
IfMade (Ok l) (Ok q) P = P l q
IfMade (Ok l) (Err error) P = ⊤
IfMade (Err error) q P = ⊤

-- where both planes were made, the answer is the row of them, or Memory; otherwise it is Memory
abbrev pub AnswersMade : Result Plane AllocError → Result Plane AllocError → (Plane → Plane → RowValue) →
    Result RowValue Refusal → Type 0
AnswersMade (Ok l) (Ok q) row result = Answers None (λ value. value ≡ row l q) result
AnswersMade (Ok l) (Err error) row result = result ≡ Err Memory
AnswersMade (Err error) q row result = result ≡ Err Memory
