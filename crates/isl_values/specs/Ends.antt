-- public: at which operation the evaluation of an expression ends without a value, and why: operands from the left, inner ones first; at
-- one operation the joined parameters, then the spaces that it forms, then what it looks for. (the iscc chapter of the barvinok manual)
use Rattle.std.specs.Prelude.{◌≡◌, true, List, [], ◌∷◌}
use Rattle.isl_space.specs.Name.{Name}
use Rattle.isl_space.specs.Valuation.{Valuation}
use Rattle.isl_space.specs.Element.{Element}
use Rattle.isl_space.specs.SpaceForm.{SpaceForm}
use Rattle.isl_relation.specs.Formed.{FormsAccess}
use Rattle.isl_tree.specs.declared.statement.Link.{Link}
use Rattle.isl_tree.specs.declared.statement.Prefix.{Prefix}
use Rattle.isl_tree.specs.declared.statement.Postfix.{Postfix, Inverse, Apply, Item}
use Rattle.isl_tree.specs.declared.statement.Expr.{Expr, Row', Prefix', Any', Last', Post', Row_of-Expr, end_of-Expr, more_of-Expr}
use Rattle.isl_tree.specs.declared.statement.Expr.{Row_of-Link, end_of-Link, more_of-Link, Row_of-Postfix, end_of-Postfix, more_of-Postfix}
use Rattle.isl_tree.specs.declared.statement.Expr as e
use Rattle.isl_kinds.specs.Typed.{declared_of, declared_in, declared_past, joined_names}
use Rattle.isl_operators.specs.Operations.{OperatorHas, WordMisses}
use Rattle.isl_operators.specs.Formed.{OperatorForms, WordForms, ApplicationForms, FormsWide, PairsWide}
pub use Rattle.isl_outcome.specs.End.{End, Reason, because, cut, too_wide, no_minimum, nested, time_shapes, unbounded, several_times}
pub use Rattle.isl_outcome.specs.End.{no_valuation, not_assumed, refusal_of_reason, NoEnd, CutAlone, GoesOn, FirstEnds, OperationEnds}
use Rattle.isl_state.specs.declared.list.ListPart.TheVariants.{First}
use Rattle.isl_state.specs.Live.{narrows}
use Rattle.isl_state.specs.State.{StateView, scope_of, AtAssumed}
pub use Rattle.isl_state.specs.State.{NarrowingEnds}
use Rattle.isl_values.specs.Worked.{part_taken}
use Rattle.isl_values.specs.Selection.{Selects, SelectsIn, PostfixHas}

-- ---- at assumed valuations
-- where something is assumed, what is made is asked whether it has an element there, which is work
abbrev pub CutUnder : StateView → End → Type 0
CutUnder state (because reason) = ⊥
CutUnder state cut = narrows state.assumed ≡ true

-- ---- at one operation, of operands with these parameters and elements
abbrev pub Elements : Type 1
Elements = Valuation → Element → Type 0

abbrev pub PairEnds : (SpaceForm → SpaceForm → SpaceForm → Type 0) → List Name → List Name → Elements → Elements → End → Type 0
PairEnds Forms names others Left Right = OperationEnds (joined_names names others) (PairsWide Forms Left Right) ⊥

abbrev pub WordEnds : Prefix → Elements → End → Type 0
WordEnds word Operand = OperationEnds [] (FormsWide (WordForms word) Operand) (WordMisses word Operand)

-- `any` and `last`, over the parameters of all three: the times form no space
abbrev pub DependenceEnds : List Name → Elements → Elements → End → Type 0
DependenceEnds names Source Sink = OperationEnds names (PairsWide FormsAccess Source Sink) ⊥

-- source, sink and schedule come first, in this order
abbrev pub EndsOfThree : (End → Type 0) → (End → Type 0) → (End → Type 0) → List Name → Elements → Elements → End → Type 0
EndsOfThree A B C names Source Sink = FirstEnds (FirstEnds A (FirstEnds B C)) (DependenceEnds names Source Sink)

-- ---- where
abbrev mutual
  pub Ends : StateView → Expr → End → Type 0
  Ends state (e.Name name) = NoEnd
  Ends state (e.Literal literal) = CutAlone
  Ends state (Row' s first t links) =
      FirstEnds (EndsIn state first)
      (EndsPastLinks state (declared_in (scope_of state) first) (λ valuation x. SelectsIn state First first valuation x) links)
  Ends state (Prefix' word s operand) =
      FirstEnds (EndsIn state operand) (WordEnds word (AtAssumed state (λ valuation x. SelectsIn state First operand valuation x)))
  Ends state (Any' r source s sink t schedule) =
      EndsOfThree (EndsIn state source) (EndsIn state sink) (EndsIn state schedule)
      (joined_names (joined_names (declared_in (scope_of state) source) (declared_in (scope_of state) sink))
      (declared_in (scope_of state) schedule))
      (AtAssumed state (λ valuation x. SelectsIn state First source valuation x))
      (AtAssumed state (λ valuation x. SelectsIn state First sink valuation x))
  Ends state (Last' r source s sink t schedule) =
      EndsOfThree (EndsIn state source) (EndsIn state sink) (EndsIn state schedule)
      (joined_names (joined_names (declared_in (scope_of state) source) (declared_in (scope_of state) sink))
      (declared_in (scope_of state) schedule))
      (AtAssumed state (λ valuation x. SelectsIn state First source valuation x))
      (AtAssumed state (λ valuation x. SelectsIn state First sink valuation x))
  Ends state (Post' s operand t postfixes) =
      FirstEnds (EndsIn state operand)
      (EndsPastPostfixes state (declared_in (scope_of state) operand)
      (λ valuation x. SelectsIn state (part_taken postfixes) operand valuation x) postfixes)

  -- an operand in a box is a row of one
  pub EndsIn : {m : _} → StateView → Row_of-Expr m → End → Type 0
  EndsIn state end_of-Expr = NoEnd
  EndsIn state (more_of-Expr expr rest) = Ends state expr

  -- from the left, behind operands with these parameters and elements
  pub EndsPastLinks : {m : _} → StateView → List Name → (Valuation → Element → Type 0) → Row_of-Link m → End → Type 0
  EndsPastLinks state names Left end_of-Link = NoEnd
  EndsPastLinks state names Left (more_of-Link operator operand rest) =
      FirstEnds (Ends state operand)
      (FirstEnds
      (PairEnds (OperatorForms operator) names (declared_of (scope_of state) operand) (AtAssumed state Left)
      (AtAssumed state (λ valuation x. Selects state operand valuation x)))
      (EndsPastLinks state (joined_names names (declared_of (scope_of state) operand))
      (λ valuation x. OperatorHas operator (Left valuation) (λ y. Selects state operand valuation y) x) rest))

  pub EndsPastPostfixes : {m : _} → StateView → List Name → (Valuation → Element → Type 0) → Row_of-Postfix m → End → Type 0
  EndsPastPostfixes state names Operand end_of-Postfix = NoEnd
  EndsPastPostfixes state names Operand (more_of-Postfix postfix rest) =
      FirstEnds (EndsPostfix state names Operand postfix)
      (EndsPastPostfixes state (declared_past (scope_of state) names postfix)
      (λ valuation x. PostfixHas state valuation (Operand valuation) postfix x) rest)

  pub EndsPostfix : StateView → List Name → (Valuation → Element → Type 0) → Postfix → End → Type 0
  EndsPostfix state names Operand Inverse = CutUnder state
  EndsPostfix state names Operand (Apply argument) =
      FirstEnds (Ends state argument)
      (PairEnds ApplicationForms names (declared_of (scope_of state) argument) (AtAssumed state Operand)
      (AtAssumed state (λ valuation x. Selects state argument valuation x)))
  EndsPostfix state names Operand (Item number) = NoEnd

-- the same of lists
abbrev pub EndsRow : StateView → List Name → (Valuation → Element → Type 0) → List Link → End → Type 0
EndsRow state names Left [] = NoEnd
EndsRow state names Left (link ∷ links) =
    FirstEnds (Ends state link.operand)
    (FirstEnds
    (PairEnds (OperatorForms link.operator) names (declared_of (scope_of state) link.operand) (AtAssumed state Left)
    (AtAssumed state (λ valuation x. Selects state link.operand valuation x)))
    (EndsRow state (joined_names names (declared_of (scope_of state) link.operand))
    (λ valuation x. OperatorHas link.operator (Left valuation) (λ y. Selects state link.operand valuation y) x) links))

abbrev pub EndsPost : StateView → List Name → (Valuation → Element → Type 0) → List Postfix → End → Type 0
EndsPost state names Operand [] = NoEnd
EndsPost state names Operand (postfix ∷ postfixes) =
    FirstEnds (EndsPostfix state names Operand postfix)
    (EndsPost state (declared_past (scope_of state) names postfix)
    (λ valuation x. PostfixHas state valuation (Operand valuation) postfix x) postfixes)
