-- What ends tests, listings and samples.
use Rattle.std.proofs.Common.{◌≡◌, ◌↔◌, arith, inl, inr, subst, sym, true, List, [], ◌∷◌, ◌++◌}
use Rattle.std.proofs.lemmas.Bool.{false≢true}
use Rattle.isl_space.specs.Name.{Name}
use Rattle.isl_space.specs.SpaceForm.{SpaceForm}
use Rattle.isl_space.specs.Valuation.{Valuation}
use Rattle.isl_space.specs.Element.{Element}
use Rattle.isl_union.specs.KeptValue.{KeptValue, Has}
use Rattle.isl_tree.specs.declared.statement.Binary.{Binary}
use Rattle.isl_tree.specs.declared.statement.Binary.TheVariants as b
use Rattle.isl_tree.specs.declared.statement.Prefix.{Prefix as Word}
use Rattle.isl_tree.specs.declared.statement.Link.{Link}
use Rattle.isl_tree.specs.declared.statement.Expr.{Expr, Prefix}
use Rattle.isl_kinds.specs.Typed.{declared_of, declared_of_row, joined_names}
use Rattle.isl_operators.specs.Operations.{WordMisses}
use Rattle.isl_operators.specs.Formed.{OperatorForms, PairsWide, WordForms, FormsWide}
use Rattle.isl_assumed.specs.Assumed.{Assumes}
use Rattle.isl_values.specs.State.{AtAssumed, StateView, scope_of}
use Rattle.isl_values.specs.Selection.{Selects}
use Rattle.isl_values.specs.Ends.{CutAlone, End, because, cut}
use Rattle.isl_values.specs.Ends.{NoEnd, GoesOn, FirstEnds, OperationEnds, Ends, EndsRow}
use Rattle.isl_values.specs.Ends.{PairEnds, WordEnds}
use Rattle.isl_outcome.proofs.FirstLaws.{EndAlike, alike_itself, alike_trans, first_alike, goes_alike, goes_both, operation_alike, turned_alike}
use Rattle.isl_values.proofs.EndsLaws.{Behind}
use Rattle.isl_values.proofs.EndsLaws.{ends_of-Prefix, row_alike, row_split}
use Rattle.isl_values.proofs.OutcomeLaws.{operation_goes}
use Rattle.isl_eval.specs.Tests.{is_test}
use Rattle.isl_eval.specs.Evaluation.{EndsTest}

-- ---- a word that forms no space, and looks for nothing
module _ (state : StateView) (word : Word) (operand : Expr) (none : (s formed : SpaceForm) → ¬ WordForms word s formed)
    (finds : (Operand : Valuation → Element → Type 0) → ¬ WordMisses word Operand) where
  abbrev Operand : Valuation → Element → Type 0
  Operand = AtAssumed state (λ v x. Selects state operand v x)

  abbrev Whole : End → Type 0
  Whole = FirstEnds (Ends state operand) (WordEnds word Operand)

  own_goes : GoesOn (WordEnds word Operand)
  own_goes =
      operation_goes [] (FormsWide (WordForms word) Operand) (WordMisses word Operand) (omega arith)
      (λ wide. none wide.0 wide.1 wide.3) (finds Operand)

  own_alike : EndAlike CutAlone (WordEnds word Operand)
  own_alike (because reason) = ((λ no. absurd no), (λ ends. absurd (own_goes reason ends)))
  own_alike cut = ((λ _. (omega arith, λ wide. none wide.0 wide.1 wide.3)), (λ _. tt))

  -- the operand ends, or else its own work is cut
  pub word_alike : EndAlike (FirstEnds (Ends state operand) CutAlone) (Ends state (Prefix word operand))
  word_alike =
      alike_trans (FirstEnds (Ends state operand) CutAlone) Whole (Ends state (Prefix word operand))
      (first_alike (Ends state operand) CutAlone (Ends state operand) (WordEnds word Operand) (alike_itself (Ends state operand)) own_alike)
      (turned_alike (Ends state (Prefix word operand)) Whole (ends_of-Prefix state word operand))

-- ---- rows, of whose last operator no space is formed
pub test_forms : (operator : Binary) → is_test operator ≡ true → (s t formed : SpaceForm) → ¬ OperatorForms operator s t formed
test_forms b.Cross test s t formed h = false≢true test
test_forms b.Join test s t formed h = false≢true test
test_forms b.Universal test s t formed h = false≢true test
test_forms b.LexLess test s t formed h = false≢true test
test_forms b.LexLessEqual test s t formed h = false≢true test
test_forms b.LexGreater test s t formed h = false≢true test
test_forms b.LexGreaterEqual test s t formed h = false≢true test
test_forms _ test s t formed h = h

module _ (state : StateView) (first : Expr) (before : List Link) (last : Link) where
  abbrev Names : List Name
  Names = declared_of (scope_of state) first

  abbrev Past : Valuation → Element → Type 0
  Past v x = Selects state first v x

  abbrev There : List Name
  There = declared_of_row (scope_of state) Names before

  -- of the last link alone
  abbrev pub LastEnds : End → Type 0
  LastEnds =
      EndsRow state (declared_of_row (scope_of state) (declared_of (scope_of state) first) before)
      (Behind state (λ v x. Selects state first v x) before) (last ∷ [])

  abbrev Parts : End → Type 0
  Parts = FirstEnds (Ends state first) (FirstEnds (EndsRow state Names Past before) LastEnds)

  in_parts : EndAlike Parts (EndsTest state first before last)
  in_parts =
      let Row = EndsRow state Names Past before in
      let Whole = EndsRow state Names Past (before ++ last ∷ []) in
      first_alike (Ends state first) (FirstEnds Row LastEnds) (Ends state first) Whole (alike_itself (Ends state first))
      (turned_alike Whole (FirstEnds Row LastEnds) (row_split state Names Past before (last ∷ [])))

  pub first_ends : (why : End) → Ends state first why → EndsTest state first before last why
  first_ends why ends = inl ends

  module _ (one : KeptValue) (names : one.params ≡ declared_of (scope_of state) first)
      (same : (v : Valuation) → Assumes state.assumed v → (x : Element) → Has one v x ↔ Selects state first v x)
      (goes : GoesOn (Ends state first)) where
    -- the row before the last link ends for the value of the first operand as for what that selects
    row_before : EndAlike (EndsRow state one.params (Has one) before) (EndsRow state Names Past before)
    row_before =
        subst (λ (ns : List Name). EndAlike (EndsRow state one.params (Has one) before) (EndsRow state ns Past before)) names
        (row_alike state one.params (Has one) Past before same)

    pub past_ends : (why : End) → EndsRow state one.params (Has one) before why → EndsTest state first before last why
    past_ends why ends = (in_parts why).0 (inr (goes, inl ((row_before why).0 ends)))

    module _ (go : GoesOn (EndsRow state one.params (Has one) before)) where
      row_goes : GoesOn (EndsRow state Names Past before)
      row_goes = goes_alike (EndsRow state one.params (Has one) before) (EndsRow state Names Past before) row_before go

      last_ends : (why : End) → LastEnds why → EndsTest state first before last why
      last_ends why ends = (in_parts why).0 (inr (goes, inr (row_goes, ends)))

      pub right_ends : (why : End) → Ends state last.operand why → EndsTest state first before last why
      right_ends why ends = last_ends why (inl ends)

      module _ (right : GoesOn (Ends state last.operand)) where
        abbrev Operation : End → Type 0
        Operation =
            PairEnds (OperatorForms last.operator) There (declared_of (scope_of state) last.operand) (AtAssumed state (Behind state Past before))
            (AtAssumed state (λ v y. Selects state last.operand v y))

        -- it ends as an operation of two values with these names
        module _ (none : (s t formed : SpaceForm) → ¬ OperatorForms last.operator s t formed) (ns : List Name)
            (are : ns ≡ joined_names There (declared_of (scope_of state) last.operand)) where
          operation_is : EndAlike (OperationEnds ns ⊥ ⊥) Operation
          operation_is =
              subst (λ (m : List Name). EndAlike (OperationEnds m ⊥ ⊥) Operation) (sym are)
              (operation_alike (joined_names There (declared_of (scope_of state) last.operand)) ⊥
              (PairsWide (OperatorForms last.operator) (AtAssumed state (Behind state Past before))
              (AtAssumed state (λ v y. Selects state last.operand v y))) ⊥ ⊥
              ((λ no. absurd no), (λ wide. none wide.0 wide.1 wide.2 wide.5)) ((λ no. no), (λ no. no)))

          pub two_ends : (why : End) → OperationEnds ns ⊥ ⊥ why → EndsTest state first before last why
          two_ends why ends = last_ends why (inr (right, inl ((operation_is why).0 ends)))

          pub two_go : GoesOn (OperationEnds ns ⊥ ⊥) → GoesOn (EndsTest state first before last)
          two_go two =
              goes_alike Parts (EndsTest state first before last) in_parts
              (goes_both (Ends state first) (FirstEnds (EndsRow state Names Past before) LastEnds) goes
              (goes_both (EndsRow state Names Past before) LastEnds row_goes
              (goes_both (Ends state last.operand) (FirstEnds Operation NoEnd) right
              (goes_both Operation NoEnd (goes_alike (OperationEnds ns ⊥ ⊥) Operation operation_is two) (λ reason no. no)))))
