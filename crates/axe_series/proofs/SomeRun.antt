-- Every module has a run: something is found of it.
use Rattle.std.specs.Prelude.{◌≡◌, ℕ, zero, suc, ◌+◌, ◌-◌, ◌≤◌, ◌⊎◌, List, [], ◌∷◌, length, Option, Some, None}
use Rattle.std.specs.List.{All}
use Rattle.std.proofs.lemmas.List.Elements.{All-nil, All-cons, All-head, All-tail, All-append}
use Rattle.axe_field.specs.Order.{Order}
use Rattle.axe_row.specs.Rows.{RowValue}
use Rattle.axe_matrix.specs.Matrices.{MatrixValue}
use Rattle.axe_poly.specs.Polys.{PolyValue}
use Rattle.axe_spin.specs.Modules.{ModuleValue, IsModule}
use Rattle.axe_norton.specs.declared.verdicts.Verdict
use Rattle.axe_norton.specs.declared.verdicts.Verdict.TheVariants.{Irreducible, Reducible, Undecided}
use Rattle.axe_norton.specs.Verdicts.{Decides}
use Rattle.axe_iso.specs.Forms.{FormValue, IsForm}
use Rattle.axe_iso.specs.Matches.{IsMatch}
use Rattle.axe_iso.proofs.SomeForm.{some_match}
use Rattle.axe_series.specs.Sections.{SectionValue, lifted_rows, whole_section}
use Rattle.axe_series.specs.Runs.{FoundValue, nothing_found, Outcome, complete, with_place, with_factor, AreOfOthers, IsKnownAs, IsNewForm, Runs, all_found, undecided, reducible, known, new, RunOf}
use Rattle.axe_series.proofs.SomeVerdict.{some_verdict}
use Rattle.axe_series.proofs.SomeForm.{some_new_form}
use Rattle.axe_series.proofs.OneCut.{reducible_is_submodule, reducible_is_matrix}
use Rattle.axe_series.proofs.SomeCut.{AreParts, some_cut}
use mathlib.Core.Logic.{inl, inr}
use mathlib.Core.Path.{refl, sym, ◌∙◌, ap}
use native.Mathlib.Omega.{arith}

-- a module over the field of an order, with so many generators
pub record IsOfKind (o : Order) (count : ℕ) (m : ModuleValue) : Type 0 where
  pub is : IsModule m
  pub field : m.order ≡ o
  pub generators : length m.generators ≡ count

abbrev pub IsSectionOfKind : Order → ℕ → SectionValue → Type 0
IsSectionOfKind o count section = IsOfKind o count section.action

-- a form of such modules
pub record IsFormOfKind (o : Order) (count : ℕ) (form : FormValue) : Type 0 where
  pub is : IsForm form
  pub field : form.matrices.order ≡ o
  pub generators : length form.matrices.generators ≡ count

-- one of the forms is the first that matches
abbrev pub IsKnown : List FormValue → ModuleValue → Type 0
IsKnown forms m = (number : ℕ) × (t : MatrixValue) × IsKnownAs forms m number t

-- the first of some forms that matches, or none does
pub known_or_others : (o : Order) (count : ℕ) (m : ModuleValue) → IsOfKind o count m → (forms : List FormValue) →
    All (IsFormOfKind o count) forms → AreOfOthers forms m ⊎ IsKnown forms m
known_or_others o count m kind [] each = inl (All-nil (λ form. IsMatch form m None))
known_or_others o count m kind (form ∷ rest) each =
    by_match (some_match form m first.is kind.is (kind.field ∙ sym first.field) (kind.generators ∙ sym first.generators))
    (known_or_others o count m kind rest (All-tail (IsFormOfKind o count) form rest each))
  where
    first : IsFormOfKind o count form
    first = All-head (IsFormOfKind o count) form rest each

    by_match : (t : Option MatrixValue) × IsMatch form m t → AreOfOthers rest m ⊎ IsKnown rest m →
        AreOfOthers (form ∷ rest) m ⊎ IsKnown (form ∷ rest) m
    by_match (Some t, matches) _ = inr (
      0,
      t,
      record {
        earlier = [];
        form = form;
        later = rest;
        among = refl;
        number_is = refl;
        others = All-nil (λ form. IsMatch form m None);
        matches = matches;
      },
    )
    by_match (None, other) (inl others) = inl (All-cons (λ form. IsMatch form m None) form rest other others)
    by_match (None, other) (inr (number, t, among)) = inr (
      suc number,
      t,
      record {
        earlier = form ∷ among.earlier;
        form = among.form;
        later = among.later;
        among = ap (λ (forms : List FormValue). form ∷ forms) among.among;
        number_is = ap suc among.number_is;
        others = All-cons (λ form. IsMatch form m None) form among.earlier other among.others;
        matches = among.matches;
      },
    )

-- how many sections there may still be to decide: twice the dimension less 1 for each section
pub budget : List SectionValue → ℕ
budget [] = 0
budget (section ∷ rest) = (section.action.dim + section.action.dim - 1) + budget rest

module _ (seed words : ℕ) (o : Order) (count : ℕ) where
  abbrev AreSections : List SectionValue → Type 0
  AreSections sections = All (IsSectionOfKind o count) sections

  abbrev HasRun : List SectionValue → FoundValue → Type 0
  HasRun sections found = (outcome : Outcome) × Runs seed words sections found outcome

  abbrev HaveRunsUpTo : ℕ → Type 0
  HaveRunsUpTo n = (sections : List SectionValue) (found : FoundValue) → budget sections ≤ n → AreSections sections →
      All (IsFormOfKind o count) found.forms → HasRun sections found

  -- one section, where shorter lists have runs
  module _ (n : ℕ) (shorter : HaveRunsUpTo n) (section : SectionValue) (rest : List SectionValue) (found : FoundValue)
      (within : (section.action.dim + section.action.dim - 1) + budget rest ≤ suc n)
      (kind : IsOfKind o count section.action) (others : AreSections rest)
      (forms : All (IsFormOfKind o count) found.forms) where
    run_of_parts : (space : MatrixValue) → Decides section.action seed words (Reducible space) →
        (sub : SectionValue) × (quotient : SectionValue) × AreParts section space sub quotient →
        HasRun (section ∷ rest) found
    unfolding budget
    run_of_parts space decides (sub, quotient, parts) = from (shorter (sub ∷ quotient ∷ rest) found
        (omega (
          arith,
          within,
          parts.dimensions,
          parts.cut.sub_module.over.positive,
          parts.cut.quotient_module.over.positive,
        )) both forms)
      where
        both : AreSections (sub ∷ quotient ∷ rest)
        both =
            All-cons (IsSectionOfKind o count) sub (quotient ∷ rest)
            (record {
              is = parts.cut.sub_module;
              field = parts.sub_field ∙ kind.field;
              generators = parts.sub_count ∙ kind.generators;
            })
            (All-cons (IsSectionOfKind o count) quotient rest
            (record {
              is = parts.cut.quotient_module;
              field = parts.quotient_field ∙ kind.field;
              generators = parts.quotient_count ∙ kind.generators;
            }) others)

        from : HasRun (sub ∷ quotient ∷ rest) found → HasRun (section ∷ rest) found
        from (outcome, run) = (outcome, reducible space sub quotient decides parts.cut run)

    run_of_space : (space : MatrixValue) → Decides section.action seed words (Reducible space) →
        HasRun (section ∷ rest) found
    run_of_space space decides =
        run_of_parts space decides
        (some_cut section space kind.is (reducible_is_submodule section.action seed words space kind.is decides)
        (reducible_is_matrix section.action seed words space decides))

    run_of_known : (word : ℕ) (poly : Option PolyValue) (v : RowValue) → Decides section.action seed words (Irreducible word poly v) →
        (number : ℕ) (t : MatrixValue) → IsKnownAs found.forms section.action number t → HasRun (section ∷ rest) found
    run_of_known word poly v decides number t is_known =
        from (shorter rest (with_place found (lifted_rows section t).rows number)
        (omega (arith, within, kind.is.over.positive)) others forms)
      where
        from : HasRun rest (with_place found (lifted_rows section t).rows number) → HasRun (section ∷ rest) found
        from (outcome, run) = (outcome, known word poly v number t decides is_known run)

    run_of_new : (word : ℕ) (poly : Option PolyValue) (v : RowValue) → Decides section.action seed words (Irreducible word poly v) →
        AreOfOthers found.forms section.action →
        (form : FormValue) × IsNewForm section.action seed word poly v form → HasRun (section ∷ rest) found
    run_of_new word poly v decides of_others (form, is_new) =
        from (shorter rest (with_factor found (lifted_rows section form.basis).rows form)
        (omega (arith, within, kind.is.over.positive)) others
        (All-append (IsFormOfKind o count) found.forms (form ∷ []) forms
        (All-cons (IsFormOfKind o count) form [] (record {
          is = is_new.is_form;
          field = is_new.from.acts.field ∙ kind.field;
          generators = is_new.from.acts.acts.count ∙ kind.generators;
        }) (All-nil (IsFormOfKind o count)))))
      where
        from : HasRun rest (with_factor found (lifted_rows section form.basis).rows form) → HasRun (section ∷ rest) found
        from (outcome, run) = (outcome, new word poly v form decides of_others is_new run)

    run_of_irreducible : (word : ℕ) (poly : Option PolyValue) (v : RowValue) → Decides section.action seed words (Irreducible word poly v) →
        AreOfOthers found.forms section.action ⊎ IsKnown found.forms section.action → HasRun (section ∷ rest) found
    run_of_irreducible word poly v decides (inl of_others) =
        run_of_new word poly v decides of_others (some_new_form section.action seed words word poly v kind.is decides)
    run_of_irreducible word poly v decides (inr (number, t, is_known)) = run_of_known word poly v decides number t is_known

    run_of_verdict : (verdict : Verdict.Verdict) × Decides section.action seed words verdict →
        HasRun (section ∷ rest) found
    run_of_verdict (Undecided, decides) = (_, undecided decides)
    run_of_verdict (Reducible space, decides) = run_of_space space decides
    run_of_verdict (Irreducible word poly v, decides) =
        run_of_irreducible word poly v decides (known_or_others o count section.action kind found.forms forms)

  runs_up_to : (n : ℕ) → HaveRunsUpTo n
  unfolding budget
  runs_up_to n [] found within each forms = (complete found, all_found)
  runs_up_to zero (section ∷ rest) found within each forms =
      let kind : IsOfKind o count section.action = All-head (IsSectionOfKind o count) section rest each in
      absurd (omega (arith, within, kind.is.over.positive))
  runs_up_to (suc n) (section ∷ rest) found within each forms =
      let kind : IsOfKind o count section.action = All-head (IsSectionOfKind o count) section rest each in
      run_of_verdict n (runs_up_to n) section rest found within kind
      (All-tail (IsSectionOfKind o count) section rest each) forms
      (some_verdict section.action seed words kind.is)

-- every module has a run
pub some_run : (m : ModuleValue) (seed words : ℕ) → IsModule m → (outcome : Outcome) × RunOf m seed words outcome
some_run m seed words is =
    runs_up_to seed words m.order (length m.generators) (budget (whole_section m ∷ []))
    (whole_section m ∷ []) nothing_found (omega arith)
    (All-cons (IsSectionOfKind m.order (length m.generators)) (whole_section m) []
    (record { is = is; field = refl; generators = refl })
    (All-nil (IsSectionOfKind m.order (length m.generators))))
    (All-nil (IsFormOfKind m.order (length m.generators)))
