-- A module has no more than one outcome: by induction on one run, and cases on the other.
use Rattle.std.specs.Prelude.{◌≡◌, ◌≢◌, ℕ, List, [], ◌∷◌, ◌++◌, length, ⊤, Option}
use Rattle.axe_row.specs.Rows.{RowValue}
use Rattle.axe_matrix.specs.Matrices.{MatrixValue, IsMatrix}
use Rattle.axe_poly.specs.Polys.{PolyValue}
use Rattle.axe_spin.specs.Modules.{ModuleValue, IsModule}
use Rattle.axe_norton.specs.declared.verdicts.Verdict.{Verdict}
use Rattle.axe_norton.specs.declared.verdicts.Verdict.TheVariants.{Irreducible, Reducible, Undecided}
use Rattle.axe_norton.specs.Spaces.{IsProperSubmodule}
use Rattle.axe_norton.specs.Verdicts.{Decides}
use Rattle.axe_norton.proofs.UniqueLaws.{decides_one}
use Rattle.axe_iso.specs.Forms.{FormValue}
use Rattle.axe_iso.proofs.OneForm.{form_is_one}
use Rattle.axe_series.specs.Sections.{SectionValue, IsCut, rows_of_sections, lifted_rows}
use Rattle.axe_series.specs.Runs.{FoundValue, Outcome, complete, open_section, with_place, with_factor, AreOfOthers}
use Rattle.axe_series.specs.Runs.{IsKnownAs, IsNewForm, Runs, all_found, undecided, reducible, known, new, RunOf}
use Rattle.axe_series.proofs.OneCut.{reducible_is_submodule, reducible_is_matrix, other_sub_is_one, other_quotient_is_one}
use Rattle.axe_series.proofs.OneMatch.{known_is_one, known_or_other}
use mathlib.Core.Path.{refl, sym, subst}

-- the actions of the sections are modules
abbrev pub AreModules : List SectionValue → Type 0
AreModules [] = ⊤
AreModules (section ∷ rest) = IsModule section.action × AreModules rest

-- the outcome where a section stays undecided
abbrev outcome_at : SectionValue → List SectionValue → FoundValue → Outcome
outcome_at section rest found =
    open_section (found.rows ++ rows_of_sections (section ∷ rest)) (length found.rows) section.action.dim

-- what a run does first, where there is a section
pub data FirstStep (seed words : ℕ) (section : SectionValue) (rest : List SectionValue) (found : FoundValue)
    (outcome : Outcome) : Type 0 where
  stays : Decides section.action seed words Undecided → outcome ≡ outcome_at section rest found →
      FirstStep seed words section rest found outcome
  cuts : (space : MatrixValue) (sub quotient : SectionValue) → Decides section.action seed words (Reducible space) →
      IsCut section space sub quotient →
      Runs seed words (sub ∷ quotient ∷ rest) found outcome → FirstStep seed words section rest found outcome
  knows : (word : ℕ) (poly : Option PolyValue) (v : RowValue) (number : ℕ) (t : MatrixValue) →
      Decides section.action seed words (Irreducible word poly v) →
      IsKnownAs found.forms section.action number t →
      Runs seed words rest (with_place found (lifted_rows section t).rows number) outcome →
      FirstStep seed words section rest found outcome
  adds : (word : ℕ) (poly : Option PolyValue) (v : RowValue) (form : FormValue) → Decides section.action seed words (Irreducible word poly v) →
      AreOfOthers found.forms section.action →
      IsNewForm section.action seed word poly v form →
      Runs seed words rest (with_factor found (lifted_rows section form.basis).rows form) outcome →
      FirstStep seed words section rest found outcome

-- every run with a section has one
pub first_step : {seed words : ℕ} (section : SectionValue) (rest : List SectionValue) (found : FoundValue)
    (outcome : Outcome) →
    Runs seed words (section ∷ rest) found outcome → FirstStep seed words section rest found outcome
first_step section rest found _ (undecided decides) = stays decides refl
first_step section rest found outcome (reducible space sub quotient decides cut run) =
    cuts space sub quotient decides cut run
first_step section rest found outcome (known word poly v number t decides is run) = knows word poly v number t decides is run
first_step section rest found outcome (new word poly v form decides others is run) = adds word poly v form decides others is run

-- a run without a section has found all
pub no_step : {seed words : ℕ} (found : FoundValue) (outcome : Outcome) → Runs seed words [] found outcome →
    outcome ≡ complete found
no_step found _ all_found = refl

-- verdicts of different kinds are different
undecided_or_reducible : (space : MatrixValue) → Undecided ≢ Reducible space
undecided_or_reducible space same = cc

undecided_or_irreducible : (word : ℕ) (poly : Option PolyValue) (v : RowValue) → Undecided ≢ Irreducible word poly v
undecided_or_irreducible word poly v same = cc

reducible_or_irreducible : (space : MatrixValue) (word : ℕ) (poly : Option PolyValue) (v : RowValue) → Reducible space ≢ Irreducible word poly v
reducible_or_irreducible space word poly v same = cc

one_space : (a b : MatrixValue) → Reducible a ≡ Reducible b → a ≡ b
one_space a b same = cc

one_word : (j k : ℕ) (p q : Option PolyValue) (v w : RowValue) → Irreducible j p v ≡ Irreducible k q w → j ≡ k
one_word j k p q v w same = cc

one_poly : (j k : ℕ) (p q : Option PolyValue) (v w : RowValue) → Irreducible j p v ≡ Irreducible k q w → p ≡ q
one_poly j k p q v w same = cc

one_vector : (j k : ℕ) (p q : Option PolyValue) (v w : RowValue) → Irreducible j p v ≡ Irreducible k q w → v ≡ w
one_vector j k p q v w same = cc

-- ---- two first steps of one section

module _ (seed words : ℕ) (section : SectionValue) (rest : List SectionValue) (found : FoundValue)
    (is : IsModule section.action) where
  abbrev m : ModuleValue
  m = section.action

  same_verdict : (a b : Verdict) → Decides m seed words a → Decides m seed words b → a ≡ b
  same_verdict = decides_one m seed words

  -- the other stays undecided, too
  after_undecided : Decides m seed words Undecided → (b : Outcome) → FirstStep seed words section rest found b →
      outcome_at section rest found ≡ b
  after_undecided decides b (stays other ends) = sym ends
  after_undecided decides b (cuts space sub quotient other cut run) =
      absurd (undecided_or_reducible space (same_verdict Undecided (Reducible space) decides other))
  after_undecided decides b (knows word poly v number t other is_known run) =
      absurd (undecided_or_irreducible word poly v (same_verdict Undecided (Irreducible word poly v) decides other))
  after_undecided decides b (adds word poly v form other others is_new run) =
      absurd (undecided_or_irreducible word poly v (same_verdict Undecided (Irreducible word poly v) decides other))

  -- the other cuts the section in the same two
  module _ (a : Outcome) (space : MatrixValue) (sub quotient : SectionValue)
      (decides : Decides m seed words (Reducible space))
      (cut : IsCut section space sub quotient)
      (later : (b : Outcome) → Runs seed words (sub ∷ quotient ∷ rest) found b → a ≡ b) where
    same_cut : (b : Outcome) (other_sub other_quotient : SectionValue) → IsCut section space other_sub other_quotient →
        Runs seed words (other_sub ∷ other_quotient ∷ rest) found b → a ≡ b
    same_cut b other_sub other_quotient other run =
        later b
        (subst (λ (x : SectionValue). Runs seed words (sub ∷ x ∷ rest) found b)
        (sym (other_quotient_is_one section space sub quotient other_sub other_quotient is proper formed cut other))
        (subst (λ (x : SectionValue). Runs seed words (x ∷ other_quotient ∷ rest) found b)
        (sym (other_sub_is_one section space sub quotient other_sub other_quotient is proper formed cut other)) run))
      where
        proper : IsProperSubmodule section.action space
        proper = reducible_is_submodule section.action seed words space is decides

        formed : IsMatrix space
        formed = reducible_is_matrix section.action seed words space decides

    after_reducible : (b : Outcome) → FirstStep seed words section rest found b → a ≡ b
    after_reducible b (stays other ends) =
        absurd (undecided_or_reducible space (same_verdict Undecided (Reducible space) other decides))
    after_reducible b (cuts other_space other_sub other_quotient other other_cut run) =
        same_cut b other_sub other_quotient
        (subst (λ (x : MatrixValue). IsCut section x other_sub other_quotient)
        (one_space other_space space (same_verdict (Reducible other_space) (Reducible space) other decides)) other_cut)
        run
    after_reducible b (knows word poly v number t other is_known run) =
        absurd (reducible_or_irreducible space word poly v (same_verdict (Reducible space) (Irreducible word poly v) decides other))
    after_reducible b (adds word poly v form other others is_new run) =
        absurd (reducible_or_irreducible space word poly v (same_verdict (Reducible space) (Irreducible word poly v) decides other))

  -- the other knows it as the same factor
  module _ (a : Outcome) (word : ℕ) (poly : Option PolyValue) (v : RowValue) (number : ℕ) (t : MatrixValue)
      (decides : Decides m seed words (Irreducible word poly v))
      (is_known : IsKnownAs found.forms m number t)
      (later : (b : Outcome) → Runs seed words rest (with_place found (lifted_rows section t).rows number) b →
      a ≡ b) where
    after_known : (b : Outcome) → FirstStep seed words section rest found b → a ≡ b
    after_known b (stays other ends) =
        absurd (undecided_or_irreducible word poly v (same_verdict Undecided (Irreducible word poly v) other decides))
    after_known b (cuts space sub quotient other cut run) =
        absurd (reducible_or_irreducible space word poly v (same_verdict (Reducible space) (Irreducible word poly v) other decides))
    after_known b (knows other_word q w other_number s other other_known run) =
        let same = known_is_one found.forms m other_number number s t other_known is_known in
        later b
        (subst (λ k. Runs seed words rest (with_place found (lifted_rows section t).rows k) b) same.0
        (subst
        (λ (x : MatrixValue). Runs seed words rest (with_place found (lifted_rows section x).rows other_number) b)
        same.1 run))
    after_known b (adds other_word q w form other others is_new run) =
        absurd (known_or_other found.forms m number t is_known others)

  -- the other adds the same form
  module _ (a : Outcome) (word : ℕ) (poly : Option PolyValue) (v : RowValue) (form : FormValue)
      (decides : Decides m seed words (Irreducible word poly v))
      (others : AreOfOthers found.forms m) (is_new : IsNewForm m seed word poly v form)
      (later : (b : Outcome) → Runs seed words rest (with_factor found (lifted_rows section form.basis).rows form) b →
      a ≡ b) where
    after_new : (b : Outcome) → FirstStep seed words section rest found b → a ≡ b
    after_new b (stays other ends) =
        absurd (undecided_or_irreducible word poly v (same_verdict Undecided (Irreducible word poly v) other decides))
    after_new b (cuts space sub quotient other cut run) =
        absurd (reducible_or_irreducible space word poly v (same_verdict (Reducible space) (Irreducible word poly v) other decides))
    after_new b (knows other_word q w number t other is_known run) =
        absurd (known_or_other found.forms m number t is_known others)
    after_new b (adds other_word q w other_form other other_others other_new run) =
        later b
        (subst (λ (x : FormValue). Runs seed words rest (with_factor found (lifted_rows section x.basis).rows x) b)
        forms run)
      where
        shown : Irreducible other_word q w ≡ Irreducible word poly v
        shown = same_verdict (Irreducible other_word q w) (Irreducible word poly v) other decides

        moved : IsNewForm m seed word poly v other_form
        moved =
            subst (λ (x : RowValue). IsNewForm m seed word poly x other_form)
            (one_vector other_word word q poly w v shown)
            (subst (λ (x : Option PolyValue). IsNewForm m seed word x w other_form)
            (one_poly other_word word q poly w v shown)
            (subst (λ k. IsNewForm m seed k q w other_form) (one_word other_word word q poly w v shown) other_new))

        forms : other_form ≡ form
        forms = form_is_one m seed word poly v other_form form moved.from is_new.from

-- ---- two runs

module _ (seed words : ℕ) where
  pub runs_agree : {sections : List SectionValue} {found : FoundValue} {a : Outcome} →
      Runs seed words sections found a → AreModules sections →
      (b : Outcome) → Runs seed words sections found b → a ≡ b
  runs_agree (all_found {found}) modules b run = sym (no_step found b run)
  runs_agree (undecided {section} {rest} {found} decides) modules b run =
      after_undecided seed words section rest found modules.0 decides b (first_step section rest found b run)
  runs_agree (reducible {section} {rest} {found} {outcome} space sub quotient decides cut later) modules b run =
      after_reducible seed words section rest found modules.0 outcome space sub quotient decides cut
      (λ c other. runs_agree later (cut.sub_module, (cut.quotient_module, modules.1)) c other) b
      (first_step section rest found b run)
  runs_agree (known {section} {rest} {found} {outcome} word poly v number t decides is later) modules b run =
      after_known seed words section rest found modules.0 outcome word poly v number t decides is
      (λ c other. runs_agree later modules.1 c other) b (first_step section rest found b run)
  runs_agree (new {section} {rest} {found} {outcome} word poly v form decides others is later) modules b run =
      after_new seed words section rest found modules.0 outcome word poly v form decides others is
      (λ c other. runs_agree later modules.1 c other) b (first_step section rest found b run)

-- a module has no more than one outcome
pub outcome_is_one : (m : ModuleValue) (seed words : ℕ) (a b : Outcome) → IsModule m → RunOf m seed words a →
    RunOf m seed words b → a ≡ b
outcome_is_one m seed words a b is first second = runs_agree seed words first (is, tt) b second
