-- The drafts of the commands that read one matrix or two: what their calls, one after the other, make of their plans.
use Rattle.std.proofs.Common.{ℕ, List, [], ◌∷◌, Option, Result, Ok, Err}
use Rattle.axe_matrix.specs.Matrices.{MatrixValue}
use Rattle.axe_folder.specs.Files.{Files}
use Rattle.axe_folder.specs.Outcomes.{Tally}
use Rattle.axe_fault.specs.declared.fault.Fault.{Fault}
use Rattle.axe_plan.specs.Plans.{Plan}
use Rattle.axe_plan.specs.Meanings.{Meaning, Is}
use Rattle.axe_plan.specs.Inputs.{matrix_in, text_matrix_in}
use Rattle.axe_plan.specs.Outputs.{put_packed, put_or_show_text}
use Rattle.axe_plan.specs.Outcome.{Agrees, Reads}
use Rattle.axe_plan.proofs.Sequences.{among_same, among_before}
use Rattle.axe_plan.proofs.ReadCalls.{reads_no_more, reads_on, reads_all, then_computes, fault_computes}
use Rattle.axe_execute.specs.MatrixCommands.{ConversionPlan, PrintingPlan, PlanOfTwo}

module _ {S U : Type 0} (files : S → Files) (tally : S → Tally) (view : U → Plan) where
  -- a call that reads a packed matrix
  abbrev pub ReadsMatrix : S → S → List ℕ → Result MatrixValue Fault → Type 0
  ReadsMatrix old new name result =
      Reads files tally old new (name ∷ []) (λ (m : MatrixValue). m) result (λ f. Is (matrix_in f name))

  -- a call that reads a text
  abbrev pub ReadsText : S → S → List ℕ → Result MatrixValue Fault → Type 0
  ReadsText old new name result =
      Reads files tally old new (name ∷ []) (λ (m : MatrixValue). m) result (λ f. Is (text_matrix_in f name))

  -- ---- a text is converted

  pub conversion_refused : (old new : S) (input out : List ℕ) (fault : Fault) → ReadsText old new input (Err fault) →
      Reads files tally old new (input ∷ []) view (Err fault) (ConversionPlan input out)
  unfolding ConversionPlan
  conversion_refused old new input out fault reads = reads_no_more files tally _ _ _ _ _ _ _ _ _ (among_same _) reads

  pub conversion_made : (old new : S) (input out : List ℕ) (a : MatrixValue) (result : Result U Fault) → ReadsText old new input (Ok a) →
      Agrees [] view result (Is (Ok (put_packed out a))) → Reads files tally old new (input ∷ []) view result (ConversionPlan input out)
  unfolding ConversionPlan
  conversion_made old new input out a result reads put = reads_all files tally _ _ _ _ _ _ _ _ _ reads (record { agrees = put })

  -- ---- a matrix is printed

  pub printing_refused : (old new : S) (input : List ℕ) (out : Option (List ℕ)) (fault : Fault) → ReadsMatrix old new input (Err fault) →
      Reads files tally old new (input ∷ []) view (Err fault) (PrintingPlan input out)
  unfolding PrintingPlan
  printing_refused old new input out fault reads = reads_no_more files tally _ _ _ _ _ _ _ _ _ (among_same _) reads

  pub printing_made : (old new : S) (input : List ℕ) (out : Option (List ℕ)) (a : MatrixValue) (result : Result U Fault) →
      ReadsMatrix old new input (Ok a) → Agrees [] view result (Is (Ok (put_or_show_text out a))) →
      Reads files tally old new (input ∷ []) view result (PrintingPlan input out)
  unfolding PrintingPlan
  printing_made old new input out a result reads put = reads_all files tally _ _ _ _ _ _ _ _ _ reads (record { agrees = put })

  -- ---- a matrix is made of two

  module _ (operation : MatrixValue → MatrixValue → Meaning MatrixValue) (left right out : List ℕ) where
    pub left_refused : (old new : S) (fault : Fault) → ReadsMatrix old new left (Err fault) →
        Reads files tally old new (left ∷ right ∷ []) view (Err fault) (PlanOfTwo operation left right out)
    unfolding PlanOfTwo
    left_refused old new fault reads = reads_no_more files tally _ _ _ _ _ _ _ _ _ (among_before _ _) reads

    pub right_refused : (old mid new : S) (a : MatrixValue) (fault : Fault) → ReadsMatrix old mid left (Ok a) → ReadsMatrix mid new right (Err fault) →
        Reads files tally old new (left ∷ right ∷ []) view (Err fault) (PlanOfTwo operation left right out)
    unfolding PlanOfTwo
    right_refused old mid new a fault first second =
        reads_on files tally _ _ _ _ _ _ _ _ _ _ _ first (reads_no_more files tally _ _ _ _ _ _ _ _ _ (among_same _) second)

    pub two_refused : (old mid new : S) (a b : MatrixValue) (fault : Fault) → ReadsMatrix old mid left (Ok a) → ReadsMatrix mid new right (Ok b) →
        Agrees [] (λ (m : MatrixValue). m) (Err fault) (operation a b) →
        Reads files tally old new (left ∷ right ∷ []) view (Err fault) (PlanOfTwo operation left right out)
    unfolding PlanOfTwo
    two_refused old mid new a b fault first second refused =
        reads_on files tally _ _ _ _ _ _ _ _ _ _ _ first (reads_all files tally _ _ _ _ _ _ _ _ _ second
        (fault_computes (λ (m : MatrixValue). m) _ _ _ _ (record { agrees = refused })))

    pub two_made : (old mid new : S) (a b made : MatrixValue) (result : Result U Fault) → ReadsMatrix old mid left (Ok a) →
        ReadsMatrix mid new right (Ok b) → operation a b (Ok made) → Agrees [] view result (Is (Ok (put_packed out made))) →
        Reads files tally old new (left ∷ right ∷ []) view result (PlanOfTwo operation left right out)
    unfolding PlanOfTwo
    two_made old mid new a b made result first second is put =
        reads_on files tally _ _ _ _ _ _ _ _ _ _ _ first (reads_all files tally _ _ _ _ _ _ _ _ _ second
        (then_computes (λ (m : MatrixValue). m) _ made _ _ _ is (record { agrees = put })))
