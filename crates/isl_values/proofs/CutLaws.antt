-- Where something in an expression uses units, and its evaluation goes on, its work may be cut.
use mathlib.Core.Former.{Count}
use Rattle.std.proofs.Common.{◌≡◌, ◌∙◌, ◌⊎◌, inl, inr, Bool, true, false, List, [], ◌++◌, refl, sym, ap}
use Rattle.std.specs.Prelude.{◌||◌}
use Rattle.std.proofs.lemmas.Bool.{false≢true}
use Rattle.std.proofs.lemmas.List.{append-nil}
use Rattle.std.proofs.lemmas.List.Folds.{list_any-append}
use Rattle.isl_space.specs.Name.{Name}
use Rattle.isl_space.specs.Valuation.{Valuation}
use Rattle.isl_space.specs.Element.{Element}
use Rattle.isl_tree.specs.declared.statement.Postfix.{Inverse, Apply, Item}
use Rattle.isl_tree.specs.declared.statement.Expr.{Expr, Row', Prefix', Any', Last', Post', Row_of-Expr, end_of-Expr, more_of-Expr}
use Rattle.isl_tree.specs.declared.statement.Expr.{Row_of-Link, end_of-Link, more_of-Link, Row_of-Postfix, end_of-Postfix, more_of-Postfix}
use Rattle.isl_tree.specs.declared.statement.Expr as e
use Rattle.isl_kinds.specs.Parts.{Part, parts_of, parts_in, parts_in_links, parts_in_postfixes}
use Rattle.isl_kinds.specs.Typed.{declared_of, declared_in, declared_past, joined_names}
use Rattle.isl_operators.specs.Operations.{OperatorHas, WordMisses}
use Rattle.isl_operators.specs.Formed.{FormsWide, OperatorForms, ApplicationForms, WordForms}
use Rattle.isl_state.specs.declared.list.ListPart.TheVariants.{First}
use Rattle.isl_values.specs.Live.{narrows}
use Rattle.isl_state.specs.State.{AtAssumed, StateView, scope_of}
use Rattle.isl_values.specs.Worked.{part_taken}
use Rattle.isl_values.specs.Selection.{Selects, SelectsIn, PostfixHas}
use Rattle.isl_values.specs.Ends.{CutUnder, End, cut, NoEnd, GoesOn, FirstEnds, DependenceEnds, PairEnds, WordEnds}
use Rattle.isl_values.specs.Ends.{Ends, EndsIn, EndsPastLinks, EndsPastPostfixes, EndsPostfix}
use Rattle.isl_values.specs.Made.{uses_units}
use Rattle.isl_outcome.proofs.FirstLaws.{both_go, operation_cut}
use Rattle.isl_values.proofs.ValueLaws.{work}

either_works : (a b : Bool) → (a || b) ≡ true → (a ≡ true) ⊎ (b ≡ true)
either_works true b works = inl refl
either_works false b works = inr works

-- ---- one of two
-- the second of two may be cut
behind_cut : (A B : End → Type 0) → GoesOn (FirstEnds A B) → (GoesOn B → B cut) → FirstEnds A B cut
behind_cut A B goes there = let both = both_go A B goes in inr (both.0, there both.1)

-- the first one may
before_cut : (A B : End → Type 0) → GoesOn (FirstEnds A B) → (GoesOn A → A cut) → FirstEnds A B cut
before_cut A B goes there = inl (there (both_go A B goes).0)

-- ---- what follows an operand
abbrev Elements : Type 1
Elements = Valuation → Element → Type 0

abbrev Past : {m : Count} → StateView → List Name → Elements → Row_of-Postfix m → End → Type 0
Past state names Operand row why = EndsPastPostfixes state names Operand row why

postfixes_cut : (m : Count) (state : StateView) (names : List Name) (Operand : Elements) (row : Row_of-Postfix m)
    → work state.assumed (parts_in_postfixes row) ≡ true → GoesOn (Past state names Operand row) → Past state names Operand row cut
postfixes_cut m state names Operand end_of-Postfix works goes = absurd (false≢true works)
postfixes_cut m state names Operand (more_of-Postfix Inverse row) works goes =
    let Turned : Elements = λ v x. PostfixHas state v (Operand v) Inverse x in
    let Rest = Past state (declared_past (scope_of state) names Inverse) Turned row in
    elim (either_works (narrows state.assumed) (work state.assumed (parts_in_postfixes row)) works) [
      | inl own ↦ before_cut (CutUnder state) Rest goes (λ first. own)
      | inr later ↦ behind_cut (CutUnder state) Rest goes
          (λ rest. postfixes_cut _ state (declared_past (scope_of state) names Inverse) Turned row later rest)
    ]
postfixes_cut m state names Operand (more_of-Postfix (Apply argument) row) works goes =
    let Pair = PairEnds ApplicationForms names (declared_of (scope_of state) argument) (AtAssumed state Operand)
    (AtAssumed state (λ v x. Selects state argument v x)) in
    before_cut (EndsPostfix state names Operand (Apply argument))
    (Past state (declared_past (scope_of state) names (Apply argument)) (λ v x. PostfixHas state v (Operand v) (Apply argument) x) row) goes
    (λ own. behind_cut (Ends state argument) Pair own (λ pair. operation_cut _ _ _ pair))
postfixes_cut m state names Operand (more_of-Postfix (Item number) row) works goes =
    behind_cut NoEnd
    (Past state (declared_past (scope_of state) names (Item number)) (λ v x. PostfixHas state v (Operand v) (Item number) x) row) goes
    (λ rest. postfixes_cut _ state (declared_past (scope_of state) names (Item number))
    (λ v x. PostfixHas state v (Operand v) (Item number) x) row works rest)

-- ---- a row, behind a first operand that ends so
row_cut : (m : Count) (state : StateView) (A : End → Type 0) (parts : List Part) (names : List Name) (Left : Elements) (row : Row_of-Link m)
    → work state.assumed (parts ++ parts_in_links row) ≡ true → GoesOn (FirstEnds A (EndsPastLinks state names Left row))
    → (work state.assumed parts ≡ true → GoesOn A → A cut) → FirstEnds A (EndsPastLinks state names Left row) cut
row_cut m state A parts names Left end_of-Link works goes first =
    before_cut A NoEnd goes (first (sym (ap (work state.assumed) (append-nil parts)) ∙ works))
row_cut m state A parts names Left (more_of-Link operator operand rest) works goes first =
    let Pair = PairEnds (OperatorForms operator) names (declared_of (scope_of state) operand) (AtAssumed state Left)
    (AtAssumed state (λ v x. Selects state operand v x)) in
    let Rest = λ (why : End). EndsPastLinks state (joined_names names (declared_of (scope_of state) operand))
    (λ v x. OperatorHas operator (Left v) (λ y. Selects state operand v y) x) rest why in
    behind_cut A (FirstEnds (Ends state operand) (FirstEnds Pair Rest)) goes
    (λ past. behind_cut (Ends state operand) (FirstEnds Pair Rest) past
    (λ two. before_cut Pair Rest two (λ pair. operation_cut _ _ _ pair)))

-- ---- an expression
-- what follows an operand ends so
abbrev Behind : {m n : Count} → StateView → Row_of-Expr m → Row_of-Postfix n → End → Type 0
Behind state operand postfixes why =
    Past state (declared_in (scope_of state) operand) (λ v x. SelectsIn state (part_taken postfixes) operand v x) postfixes why

mutual
  pub working_cut : (state : StateView) (expr : Expr) → work state.assumed (parts_of expr) ≡ true → GoesOn (Ends state expr)
      → Ends state expr cut
  working_cut state (e.Name name) works goes = absurd (false≢true works)
  working_cut state (e.Literal literal) works goes = tt
  working_cut state (Row' s first t links) works goes =
      row_cut _ state (EndsIn state first) (parts_in first) (declared_in (scope_of state) first)
      (λ v x. SelectsIn state First first v x) links works goes (λ some own. cut_in _ state first some own)
  working_cut state (Prefix' word s operand) works goes =
      let Operand : Elements = AtAssumed state (λ v x. SelectsIn state First operand v x) in
      behind_cut (EndsIn state operand) (WordEnds word Operand) goes
      (λ own. operation_cut [] (FormsWide (WordForms word) Operand) (WordMisses word Operand) own)
  working_cut state (Any' r source s sink t schedule) works goes =
      behind_cut (FirstEnds (EndsIn state source) (FirstEnds (EndsIn state sink) (EndsIn state schedule)))
      (DependenceEnds
      (joined_names (joined_names (declared_in (scope_of state) source) (declared_in (scope_of state) sink))
      (declared_in (scope_of state) schedule))
      (AtAssumed state (λ v x. SelectsIn state First source v x)) (AtAssumed state (λ v x. SelectsIn state First sink v x))) goes
      (λ own. operation_cut _ _ _ own)
  working_cut state (Last' r source s sink t schedule) works goes =
      behind_cut (FirstEnds (EndsIn state source) (FirstEnds (EndsIn state sink) (EndsIn state schedule)))
      (DependenceEnds
      (joined_names (joined_names (declared_in (scope_of state) source) (declared_in (scope_of state) sink))
      (declared_in (scope_of state) schedule))
      (AtAssumed state (λ v x. SelectsIn state First source v x)) (AtAssumed state (λ v x. SelectsIn state First sink v x))) goes
      (λ own. operation_cut _ _ _ own)
  working_cut state (Post' s operand t postfixes) works goes =
      elim (either_works (work state.assumed (parts_in operand)) (work state.assumed (parts_in_postfixes postfixes))
      (sym (list_any-append (uses_units state.assumed) (parts_in operand) (parts_in_postfixes postfixes)) ∙ works)) [
        | inl own ↦ before_cut (EndsIn state operand) (Behind state operand postfixes) goes (λ first. cut_in _ state operand own first)
        | inr later ↦ behind_cut (EndsIn state operand) (Behind state operand postfixes) goes
            (λ past. postfixes_cut _ state (declared_in (scope_of state) operand)
            (λ v x. SelectsIn state (part_taken postfixes) operand v x) postfixes later past)
      ]

  cut_in : (m : Count) (state : StateView) (row : Row_of-Expr m) → work state.assumed (parts_in row) ≡ true → GoesOn (EndsIn state row)
      → EndsIn state row cut
  cut_in m state end_of-Expr works goes = absurd (false≢true works)
  cut_in m state (more_of-Expr expr rest) works goes = working_cut state expr works goes
