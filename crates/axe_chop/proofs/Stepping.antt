-- A module is chopped step by step: what is kept from one section to the next.
use Rattle.std.specs.Prelude.{◌≡◌, ℕ, ◌+◌, ◌-◌, ◌<◌, ◌≤◌, List, [], ◌∷◌, ◌++◌, length, drop, Option, Some, None, option_to_list, Result, Ok, Err, IfOk}
use Rattle.std.specs.List.{All}
use Rattle.std.proofs.lemmas.List.{append-nil}
use Rattle.std.proofs.lemmas.List.Elements.{All-nil, All-cons, All-head, All-tail, All-append, All-weaker}
use Rattle.std.proofs.Common.{length-append, append_assoc}
use Rattle.axe_algebra.specs.Lists.{IsVectorOver}
use Rattle.axe_field.specs.NumberFields.{number_field}
use Rattle.axe_echelon.proofs.SomeMatrix.{matrix_of_rows_over}
use Rattle.axe_norton.proofs.TruthLaws.{rows_over_field}
use Rattle.axe_algebra.proofs.ListEntries.{table_length}
use Rattle.axe_row.specs.declared.refusals.Refusal.{Refusal}
use Rattle.axe_row.specs.Refusals.{Answers}
use Rattle.axe_row.specs.Rows.{RowValue}
use Rattle.axe_matrix.specs.Limits.{most_rows, most_columns}
use Rattle.axe_matrix.specs.Matrices.{MatrixValue, IsMatrix}
use Rattle.axe_poly.specs.Polys.{PolyValue}
use Rattle.axe_spin.specs.Modules.{ModuleValue, IsModule}
use Rattle.axe_norton.specs.declared.verdicts.Verdict
use Rattle.axe_norton.specs.declared.verdicts.Verdict.TheVariants.{Irreducible, Reducible, Undecided}
use Rattle.axe_norton.specs.Spaces.{IsProperSubmodule}
use Rattle.axe_norton.specs.Verdicts.{Decides, IsTrueVerdict}
use Rattle.axe_iso.specs.Forms.{FormValue}
use Rattle.axe_series.specs.Sections.{SectionValue, IsCut, whole_section, lifted_rows, rows_of_sections}
use Rattle.axe_series.specs.Series.{basis_of_rows}
use Rattle.axe_series.specs.Runs.{FoundValue, nothing_found, Outcome, complete, Runs, all_found, undecided, reducible, known, new, RunOf}
use Rattle.axe_series.proofs.FewPoints.{dimensions_of_parts}
use Rattle.axe_series.proofs.OneCut.{reducible_is_matrix}
use Rattle.axe_chop.specs.Stages.{IsSection, IsActionLike, IsRowsLike, sections_dim, with_sections}
use Rattle.axe_chop.specs.Searches.{IsPlacedIn, as_known, as_new, found_value, IsSearched}
use Rattle.axe_chop.specs.Searches.{IsDecided, as_irreducible, as_reducible, as_undecided, IsLeftOpen}
use Rattle.axe_chop.specs.declared.found.Found
use Rattle.axe_chop.proofs.Lifting.{lifted_rows_count}
use Rattle.axe_chop.specs.declared.search.Searched.{Searched}
use Rattle.axe_chop.specs.declared.search.Searched.TheVariants.{Complete, Open}
use mathlib.Core.Path.{refl, sym, ◌∙◌, ap, subst}
use native.Mathlib.Omega.{arith}

-- ---- queues

-- the first of a queue is taken out
pub popped : {X : Type 0} (before after : List X) (taken : Option X) (x : X) → taken ≡ Some x →
    before ≡ option_to_list taken ++ after → before ≡ x ∷ after
popped before after taken x is items = items ∙ ap (λ t. option_to_list t ++ after) is

-- a queue that gives none is empty
pub popped_none : {X : Type 0} (before after : List X) (taken : Option X) → taken ≡ None → after ≡ drop 1 before →
    before ≡ option_to_list taken ++ after → before ≡ []
popped_none [] after taken none rest items = refl
popped_none (x ∷ before) after taken none rest items =
    absurd (omega (arith, ap length (items ∙ ap (λ t. option_to_list t ++ after) none ∙ rest)))

-- the first is put into an empty queue
pub pushed_first : {X : Type 0} (x first : X) (before after : List X) → x ≡ first → before ≡ [] → after ≡ x ∷ before →
    after ≡ first ∷ []
pushed_first x first before after is none items = items ∙ (λ i. is i ∷ none i)

-- two are put before the others
pub pushed_two : {X : Type 0} (x y : X) (before middle after : List X) → middle ≡ y ∷ before → after ≡ x ∷ middle →
    after ≡ x ∷ y ∷ before
pushed_two x y before middle after second first = first ∙ (λ i. x ∷ second i)

-- ---- verdicts

-- what is decided of a section that stays as it is, by its name
pub decided_as : (section after : SectionValue) (seed words : ℕ) (verdict found : Verdict.Verdict) → after ≡ section →
    verdict ≡ found → Decides section.action seed words verdict → Decides after.action seed words found
decided_as section after seed words verdict found same is decides =
    subst (λ v. Decides after.action seed words v) is
    (subst (λ (s : SectionValue). Decides s.action seed words verdict) (sym same) decides)

pub true_as : (section after : SectionValue) (verdict found : Verdict.Verdict) → after ≡ section → verdict ≡ found →
    IsTrueVerdict section.action verdict → IsTrueVerdict after.action found
true_as section after verdict found same is holds =
    subst (λ v. IsTrueVerdict after.action v) is (subst (λ (s : SectionValue). IsTrueVerdict s.action verdict) (sym same) holds)

-- its action is like those of the forms, and there is room for its rows
pub like_as : (section after : SectionValue) (forms : List FormValue) → after ≡ section →
    All (λ (form : FormValue). IsActionLike section.action form.matrices) forms →
    All (λ (form : FormValue). IsActionLike after.action form.matrices) forms
like_as section after forms same =
    subst (λ (s : SectionValue). All (λ (form : FormValue). IsActionLike s.action form.matrices) forms) (sym same)

pub room_as : (section after : SectionValue) (rows : List (List ℕ)) → after ≡ section →
    length rows + section.action.dim ≤ most_rows → length rows + after.action.dim ≤ most_rows
room_as section after rows same = subst (λ (s : SectionValue). length rows + s.action.dim ≤ most_rows) (sym same)

-- what becomes of it
pub step_as : (seed words : ℕ) (section after : SectionValue) (found next : Found.Found) (others all : List SectionValue) →
    after ≡ section → (left : Option SectionValue) → IsDecided seed words after found others next all left →
    IsDecided seed words section found others next all left
step_as seed words section after found next others all same left =
    subst (λ (s : SectionValue). IsDecided seed words s found others next all left) same

-- ---- one more place

module _ (found : FoundValue) (section : SectionValue) (seed word : ℕ) (poly : Option PolyValue) (v : RowValue) where
  -- an irreducible section gives as many rows as its dimension
  placed_rows : (next : FoundValue) → IsPlacedIn found section seed word poly v next →
      length next.rows ≡ length found.rows + section.action.dim
  placed_rows next (as_known number t is_known) =
      length-append found.rows (lifted_rows section t).rows
      ∙ ap (λ n. length found.rows + n)
      (lifted_rows_count section t
      ∙ is_known.matches.isomorphism.isomorphism.square.length_is
      ∙ sym is_known.matches.isomorphism.one_dimension)
  placed_rows next (as_new form others is_new) =
      length-append found.rows (lifted_rows section form.basis).rows
      ∙ ap (λ n. length found.rows + n) (lifted_rows_count section form.basis ∙ is_new.from.square)

  -- and no more than one form
  placed_forms : (next : FoundValue) → IsPlacedIn found section seed word poly v next →
      length next.forms ≤ length found.forms + 1
  placed_forms next (as_known number t is_known) = omega arith
  placed_forms next (as_new form others is_new) = omega (arith, length-append found.forms (form ∷ []))

  -- over the field of the module, and with as many generators
  placed_like : (m : ModuleValue) (next : FoundValue) → IsPlacedIn found section seed word poly v next →
      IsActionLike m section.action → All (λ (form : FormValue). IsActionLike m form.matrices) found.forms →
      All (λ (form : FormValue). IsActionLike m form.matrices) next.forms
  placed_like m next (as_known number t is_known) like each = each
  placed_like m next (as_new form others is_new) like each =
      All-append (λ (form : FormValue). IsActionLike m form.matrices) found.forms (form ∷ []) each
      (All-cons (λ (form : FormValue). IsActionLike m form.matrices) form [] (record {
        field = is_new.from.acts.field ∙ like.field;
        generators = is_new.from.acts.acts.count ∙ like.generators;
      }) (All-nil (λ (form : FormValue). IsActionLike m form.matrices)))

  -- a run goes on from it
  placed_run : (words : ℕ) (rest : List SectionValue) (next : FoundValue) (outcome : Outcome) →
      IsPlacedIn found section seed word poly v next → Decides section.action seed words (Irreducible word poly v) →
      Runs seed words rest next outcome → Runs seed words (section ∷ rest) found outcome
  placed_run words rest next outcome (as_known number t is_known) decides run =
      known word poly v number t decides is_known run
  placed_run words rest next outcome (as_new form others is_new) decides run =
      new word poly v form decides others is_new run

-- ---- the stages

-- a section of m: a module like it, with as many vectors of m as its dimension
pub record IsSectionOf (m : ModuleValue) (section : SectionValue) : Type 0 where
  pub action_formed : IsModule section.action
  pub like : IsActionLike m section.action
  pub field : section.rows.order ≡ m.order
  pub columns : section.rows.cols ≡ m.dim
  pub count : length section.rows.rows ≡ section.action.dim

-- what the code holds of m while it is chopped: the rows of the basis so far, the forms of factors over the field of m
-- with as many generators, and the sections still to be decided; all rows together are as many as the dimension
pub record IsStageOf (m : ModuleValue) (basis : MatrixValue) (forms : List FormValue)
    (sections : List SectionValue) : Type 0 where
  pub field : basis.order ≡ m.order
  pub columns : basis.cols ≡ m.dim
  pub forms_like : All (λ (form : FormValue). IsActionLike m form.matrices) forms
  pub sections_of : All (IsSectionOf m) sections
  pub total : length basis.rows + sections_dim sections ≡ m.dim

-- a module is chopped so far: what is found and the sections that are left are of it, and what a run from here finds is
-- what a run finds of the module
pub record IsReached (m : ModuleValue) (seed words : ℕ) (found : Found.Found) (sections : List SectionValue) : Type 0 where
  pub stage : IsStageOf m found.basis found.forms.items sections
  pub few_forms : length found.forms.items ≤ length found.basis.rows
  pub formed : IsMatrix found.basis
  pub dim_fits : m.dim ≤ most_columns
  pub run : (outcome : Outcome) → Runs seed words sections (found_value found) outcome → RunOf m seed words outcome

-- how many sections there may still be to decide: twice the dimension less 1 for each
abbrev pub most_left : List SectionValue → ℕ
most_left [] = 0
most_left (section ∷ rest) = (section.action.dim + section.action.dim - 1) + most_left rest

-- at first nothing is found of the module
pub reached_first : (m : ModuleValue) (seed words : ℕ) (found : Found.Found) (sections : List SectionValue) →
    found.basis ≡ basis_of_rows m [] → found.forms.items ≡ [] → found.places.items ≡ [] → IsMatrix found.basis →
    IsSection (whole_section m) → sections ≡ whole_section m ∷ [] → IsReached m seed words found sections
reached_first m seed words found sections basis_is forms_is places_is formed is_section sections_are = record {
  stage = record {
    field = ap (λ (b : MatrixValue). b.order) basis_is;
    columns = ap (λ (b : MatrixValue). b.cols) basis_is;
    forms_like = subst (All (λ (form : FormValue). IsActionLike m form.matrices)) (sym forms_is)
        (All-nil (λ (form : FormValue). IsActionLike m form.matrices));
    sections_of = subst (All (IsSectionOf m)) (sym sections_are)
        (All-cons (IsSectionOf m) (whole_section m) [] (record {
          action_formed = is_section.action_formed;
          like = record { field = refl; generators = refl };
          field = refl;
          columns = refl;
          count = is_section.count;
        }) (All-nil (IsSectionOf m)));
    total = omega (arith, no_rows, ap sections_dim sections_are);
  };
  few_forms = omega (arith, ap (λ (forms : List FormValue). length forms) forms_is);
  formed = formed;
  dim_fits = is_section.action_formed.dim_fits;
  run = λ outcome run. subst (λ start. Runs seed words start nothing_found outcome) sections_are
      (subst (λ start. Runs seed words sections start outcome) nothing run);
}
  where
    no_rows : length found.basis.rows ≡ 0
    no_rows = ap (λ (b : MatrixValue). length b.rows) basis_is

    nothing : found_value found ≡ nothing_found
    nothing = λ i. record { rows = (basis_is i).rows; forms = forms_is i; places = places_is i }

module _ (m : ModuleValue) (seed words : ℕ) (found : Found.Found) (sections : List SectionValue)
    (reached : IsReached m seed words found sections) where
  -- with no section left all is found
  pub reached_end : sections ≡ [] → IsSearched m seed words (Complete found)
  reached_end none = (
    reached.run (complete (found_value found))
        (subst (λ left. Runs seed words left (found_value found) (complete (found_value found))) (sym none) all_found),
    (λ i. record { order = reached.stage.field i; cols = reached.stage.columns i; rows = found.basis.rows }),
    reached.formed,
  )

  module _ (section : SectionValue) (rest : List SectionValue) (left : sections ≡ section ∷ rest) where
    all_of : All (IsSectionOf m) (section ∷ rest)
    all_of = subst (All (IsSectionOf m)) left reached.stage.sections_of

    -- the first section and the others are of the module
    pub first_of_module : IsSectionOf m section
    first_of_module = All-head (IsSectionOf m) section rest all_of

    pub rest_of_module : All (IsSectionOf m) rest
    rest_of_module = All-tail (IsSectionOf m) section rest all_of

    -- all rows are as many as the dimension
    pub total_left : length found.basis.rows + (section.action.dim + sections_dim rest) ≡ m.dim
    total_left = subst (λ these. length found.basis.rows + sections_dim these ≡ m.dim) left reached.stage.total

    run_left : (outcome : Outcome) → Runs seed words (section ∷ rest) (found_value found) outcome → RunOf m seed words outcome
    run_left outcome run =
        reached.run outcome (subst (λ these. Runs seed words these (found_value found) outcome) (sym left) run)

    -- the forms are like the first section
    pub forms_like_first : All (λ (form : FormValue). IsActionLike section.action form.matrices) found.forms.items
    forms_like_first = All-weaker (λ (form : FormValue). IsActionLike m form.matrices)
        (λ (form : FormValue). IsActionLike section.action form.matrices)
        (λ form like. record {
          field = like.field ∙ sym first_of_module.like.field;
          generators = like.generators ∙ sym first_of_module.like.generators;
        }) found.forms.items reached.stage.forms_like

    -- the rows of the first are like the basis, and those of the others
    rows_like : (other : SectionValue) → IsSectionOf m other → IsRowsLike found.basis other
    rows_like other of_module = record {
      field = of_module.field ∙ sym reached.stage.field;
      columns = of_module.columns ∙ sym reached.stage.columns;
      count = of_module.count;
    }

    pub first_rows_like : IsRowsLike found.basis section
    first_rows_like = rows_like section first_of_module

    pub rest_rows_like : All (IsRowsLike found.basis) rest
    rest_rows_like = All-weaker (IsSectionOf m) (IsRowsLike found.basis) rows_like rest rest_of_module

    -- there is room for all rows
    pub room_left : length found.basis.rows + (section.action.dim + sections_dim rest) ≤ most_rows
    room_left = omega (arith, total_left, reached.dim_fits)

    pub room_first : length found.basis.rows + section.action.dim ≤ most_rows
    room_first = omega (arith, room_left)

    -- the first section stays undecided
    pub reached_open : Decides section.action seed words Undecided → IsLeftOpen m seed words found rest section
    reached_open decides = record {
      like = first_rows_like;
      after_like = rest_rows_like;
      room = room_left;
      searched = λ formed. (
        run_left _ (undecided decides),
        (λ i. record {
          order = reached.stage.field i;
          cols = reached.stage.columns i;
          rows = found.basis.rows ++ rows_of_sections (section ∷ rest);
        }),
        formed,
      );
    }

    -- it is cut in two
    module _ (space : MatrixValue) (decides : Decides section.action seed words (Reducible space))
        (proper : IsProperSubmodule section.action space) (sub quotient : SectionValue)
        (cut : IsCut section space sub quotient) where
      dimensions : sub.action.dim + quotient.action.dim ≡ section.action.dim
      dimensions = dimensions_of_parts section space sub quotient proper
          (reducible_is_matrix section.action seed words space decides) cut

      lifted_field : cut.extended.order ≡ m.order
      lifted_field = cut.extends.field ∙ proper.field ∙ first_of_module.like.field

      sub_of_module : IsSectionOf m sub
      sub_of_module = record {
        action_formed = cut.sub_module;
        like = record {
          field = cut.sub_action.field ∙ first_of_module.like.field;
          generators = cut.sub_action.acts.count ∙ first_of_module.like.generators;
        };
        field = ap (λ (b : MatrixValue). b.order) cut.sub_rows ∙ lifted_field;
        columns = ap (λ (b : MatrixValue). b.cols) cut.sub_rows ∙ first_of_module.columns;
        count = ap (λ (b : MatrixValue). length b.rows) cut.sub_rows ∙ table_length sub.action.dim section.rows.cols _;
      }

      quotient_of_module : IsSectionOf m quotient
      quotient_of_module = record {
        action_formed = cut.quotient_module;
        like = record {
          field = cut.quotient_action.field ∙ first_of_module.like.field;
          generators = cut.quotient_action.acts.count ∙ first_of_module.like.generators;
        };
        field = ap (λ (b : MatrixValue). b.order) cut.quotient_rows ∙ lifted_field;
        columns = ap (λ (b : MatrixValue). b.cols) cut.quotient_rows ∙ first_of_module.columns;
        count = ap (λ (b : MatrixValue). length b.rows) cut.quotient_rows
            ∙ table_length quotient.action.dim section.rows.cols _;
      }

      reached_parts : IsReached m seed words found (sub ∷ quotient ∷ rest)
      reached_parts = record {
        stage = record {
          field = reached.stage.field;
          columns = reached.stage.columns;
          forms_like = reached.stage.forms_like;
          sections_of = All-cons (IsSectionOf m) sub (quotient ∷ rest) sub_of_module
              (All-cons (IsSectionOf m) quotient rest quotient_of_module rest_of_module);
          total = omega (arith, total_left, dimensions);
        };
        few_forms = reached.few_forms;
        formed = reached.formed;
        dim_fits = reached.dim_fits;
        run = λ outcome run. run_left outcome (reducible space sub quotient decides cut run);
      }

      pub reached_cut : (next : List SectionValue) → next ≡ sub ∷ quotient ∷ rest → IsReached m seed words found next
      reached_cut next is = subst (IsReached m seed words found) (sym is) reached_parts

      -- less is left to be decided
      less_left : most_left (sub ∷ quotient ∷ rest) < most_left (section ∷ rest)
      less_left = omega (
        arith,
        dimensions,
        cut.sub_module.over.positive,
        cut.quotient_module.over.positive,
      )

      pub less_after_cut : (next : List SectionValue) → next ≡ sub ∷ quotient ∷ rest → most_left next < most_left sections
      less_after_cut next is = omega (arith, less_left, ap most_left left, ap most_left is)

    -- it has the next place
    module _ (word : ℕ) (poly : Option PolyValue) (v : RowValue) (decides : Decides section.action seed words (Irreducible word poly v))
        (next : Found.Found) (placed : IsPlacedIn (found_value found) section seed word poly v (found_value next))
        (basis_is : next.basis ≡ record found.basis { rows = next.basis.rows }) (formed : IsMatrix next.basis) where
      rows_then : length next.basis.rows ≡ length found.basis.rows + section.action.dim
      rows_then = placed_rows (found_value found) section seed word poly v (found_value next) placed

      pub reached_placed : IsReached m seed words next rest
      reached_placed = record {
        stage = record {
          field = ap (λ (b : MatrixValue). b.order) basis_is ∙ reached.stage.field;
          columns = ap (λ (b : MatrixValue). b.cols) basis_is ∙ reached.stage.columns;
          forms_like = placed_like (found_value found) section seed word poly v m (found_value next) placed first_of_module.like
              reached.stage.forms_like;
          sections_of = rest_of_module;
          total = omega (arith, total_left, rows_then);
        };
        few_forms = omega (
          arith,
          placed_forms (found_value found) section seed word poly v (found_value next) placed,
          rows_then,
          reached.few_forms,
          first_of_module.action_formed.over.positive,
        );
        formed = formed;
        dim_fits = reached.dim_fits;
        run = λ outcome run. run_left outcome
            (placed_run (found_value found) section seed word poly v words rest (found_value next) outcome placed decides run);
      }

      less_after_place : most_left rest < most_left sections
      less_after_place = omega (arith, ap most_left left, first_of_module.action_formed.over.positive)

    -- it is decided, and not left: what is reached then
    pub reached_next : (next : Found.Found) (all : List SectionValue) →
        IsDecided seed words section found rest next all None → IsReached m seed words next all
    reached_next next all (as_irreducible word poly v after decides placed basis_is formed) =
        reached_placed word poly v decides next placed basis_is formed
    reached_next next all (as_reducible space after decides proper parts) =
        reached_cut space decides proper parts.sub parts.quotient parts.cut all parts.order

    -- and less is left
    pub less_next : (next : Found.Found) (all : List SectionValue) →
        IsDecided seed words section found rest next all None → most_left all < most_left sections
    less_next next all (as_irreducible word poly v after decides placed basis_is formed) =
        less_after_place word poly v decides next placed basis_is formed
    less_next next all (as_reducible space after decides proper parts) =
        less_after_cut space decides proper parts.sub parts.quotient parts.cut all parts.order

    -- it is left, and nothing is changed
    pub left_open : (next : Found.Found) (all : List SectionValue) (first : SectionValue) →
        IsDecided seed words section found rest next all (Some first) → IsLeftOpen m seed words next all first
    left_open next all first (as_undecided decides) = reached_open decides

-- what is answered where a section is left
pub answered_open : (m : ModuleValue) (seed words : ℕ) (found : Found.Found) (section : SectionValue) (rest : List SectionValue)
    (result : Result Searched Refusal) → IsLeftOpen m seed words found rest section →
    Answers None (λ searched. searched
    ≡ Open (with_sections found.basis (section ∷ rest)) (length found.basis.rows) section.action.dim) result →
    IfOk result (λ _. IsMatrix (with_sections found.basis (section ∷ rest))) →
    Answers None (IsSearched m seed words) result
answered_open m seed words found section rest (Ok searched) is_left opened formed =
    subst (IsSearched m seed words) (sym opened) (is_left.searched formed)
answered_open m seed words found section rest (Err refusal) is_left opened formed = opened

-- ---- the basis where a section stays undecided

-- a matrix to which the rows of a section were appended
module _ (basis more : MatrixValue) (section : SectionValue) (is : more ≡ record basis { rows = basis.rows ++ section.rows.rows })
    (like : IsRowsLike basis section) where
  pub more_formed : IsMatrix basis → IsSection section → length basis.rows + section.action.dim ≤ most_rows → IsMatrix more
  more_formed formed is_section room =
      subst IsMatrix (sym is)
      (matrix_of_rows_over basis.order basis.cols (basis.rows ++ section.rows.rows) formed.some_column formed.columns_fit
      (omega (arith, length-append basis.rows section.rows.rows, like.count, room))
      (All-append (IsVectorOver (number_field basis.order) basis.cols) basis.rows section.rows.rows
      (rows_over_field basis.order basis.cols basis refl refl formed)
      (rows_over_field basis.order basis.cols section.rows like.field like.columns is_section.rows_formed)))

  -- other sections are as like it as before, and there is room for them
  pub more_like : (rest : List SectionValue) → All (IsRowsLike basis) rest → All (IsRowsLike more) rest
  more_like rest all =
      subst (λ (m : MatrixValue). All (IsRowsLike m) rest) (sym is)
      (All-weaker (IsRowsLike basis) (IsRowsLike (record basis { rows = basis.rows ++ section.rows.rows }))
      (λ other alike. record { field = alike.field; columns = alike.columns; count = alike.count }) rest all)

  pub more_room : (rest : List SectionValue) → length basis.rows + sections_dim (section ∷ rest) ≤ most_rows →
      length more.rows + sections_dim rest ≤ most_rows
  more_room rest room =
      omega (arith, ap (λ (m : MatrixValue). length m.rows) is, length-append basis.rows section.rows.rows, like.count, room)

  -- their rows come after those of the section
  pub more_sections : (rest : List SectionValue) → with_sections more rest ≡ with_sections basis (section ∷ rest)
  more_sections rest =
      ap (λ (m : MatrixValue). with_sections m rest) is
      ∙ (λ i. record {
        order = basis.order;
        cols = basis.cols;
        rows = append_assoc basis.rows section.rows.rows (rows_of_sections rest) i;
      })

-- the rows of the sections that are left are still to come
pub record IsOpening (whole basis : MatrixValue) (left : List SectionValue) : Type 0 where
  pub is : with_sections basis left ≡ whole
  pub like : All (IsRowsLike basis) left
  pub room : length basis.rows + sections_dim left ≤ most_rows
  pub formed : IsMatrix basis

module _ (whole basis : MatrixValue) (left : List SectionValue) (opening : IsOpening whole basis left) where
  -- none is left
  pub opening_end : left ≡ [] → basis ≡ whole
  opening_end none =
      (λ i. record { order = basis.order; cols = basis.cols; rows = sym (append-nil basis.rows) i })
      ∙ ap (with_sections basis) (sym none) ∙ opening.is
