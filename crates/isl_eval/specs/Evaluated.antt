-- public: what one simple statement is evaluated for, and why it ends without an answer. (the iscc chapter of the barvinok manual)
use Rattle.std.specs.Prelude.{◌≡◌, Bool, false, List, [], ◌∷◌, ◌++◌, All, Option, Ok, if◌then◌else◌}
use Rattle.std.specs.List.{list_any}
use Rattle.std.specs.Option.{option_map_or}
use Rattle.isl_meter.specs.Gauge.{Gauge}
use Rattle.isl_refusal.specs.declared.refusal.Refusal.{Refusal}
use Rattle.isl_assumed.specs.declared.assumed.Assumed.{Assumed}
use Rattle.isl_lower.specs.Value.{IsWellFormedLiteral}
use Rattle.isl_eval.specs.Params.{HasNoCoordinates}
use Rattle.isl_tree.specs.declared.statement.Stmt.{Stmt}
use Rattle.isl_tree.specs.declared.statement.Stmt.TheVariants.{Empty, Bind, Show, Assume}
use Rattle.isl_tree.specs.declared.statement.Expr.{Expr, Row', Prefix', Any', Last', Post', Row_of-Link, end_of-Link, more_of-Link}
use Rattle.isl_tree.specs.declared.statement.Expr as e
use Rattle.isl_tree.specs.Expr.{statement_literals}
use Rattle.isl_kinds.specs.Parts.{Part, operator, parts_of, parts_in, parts_in_links, parts_of_statement}
use Rattle.isl_kinds.specs.Typed.{TypeView, ScopeView, type_of_statement}
use Rattle.isl_flat.specs.Flat.{is_sample}
use Rattle.isl_values.specs.State.{Moment}
use Rattle.isl_values.specs.Selection.{context_of}
use Rattle.isl_values.specs.Made.{is_foreign, uses_units, IsWhyUnworked}
use Rattle.isl_eval.specs.Tests.{ends_with_test}
use Rattle.isl_eval.specs.Asked.{is_of_operand, question_of}
use Rattle.isl_eval.specs.Ended.{StatementEnds}

-- ---- what values are worked out of

-- of `sample` its operand, of one `%` of two operands these, else the whole
abbrev pub made_parts : Expr → List Part
made_parts (e.Name name) = parts_of (e.Name name)
made_parts (e.Literal literal) = parts_of (e.Literal literal)
made_parts (Row' s first t links) =
    parts_in first ++ option_map_or (λ context. parts_of context) (context_of links) (parts_in_links links)
made_parts (Prefix' word s operand) = if is_sample word then parts_in operand else parts_of (Prefix' word s operand)
made_parts (Any' r source s sink t schedule) = parts_of (Any' r source s sink t schedule)
made_parts (Last' r source s sink t schedule) = parts_of (Last' r source s sink t schedule)
made_parts (Post' s operand t postfixes) = parts_of (Post' s operand t postfixes)

-- the links of a row without the test at its end
abbrev pub parts_around_test : {m : _} → Row_of-Link m → List Part
parts_around_test end_of-Link = []
parts_around_test (more_of-Link sign operand end_of-Link) = parts_of operand
parts_around_test (more_of-Link sign operand rest) = operator sign ∷ (parts_of operand ++ parts_around_test rest)

-- of `scan`, `codegen` and `pip` their operand, of a row with a test at its end what stands around the test
abbrev pub shown_parts : Expr → List Part
shown_parts (e.Name name) = made_parts (e.Name name)
shown_parts (e.Literal literal) = made_parts (e.Literal literal)
shown_parts (Row' s first t links) =
    if ends_with_test links then parts_in first ++ parts_around_test links else made_parts (Row' s first t links)
shown_parts (Prefix' word s operand) = if is_of_operand (question_of word) then parts_in operand else made_parts (Prefix' word s operand)
shown_parts (Any' r source s sink t schedule) = made_parts (Any' r source s sink t schedule)
shown_parts (Last' r source s sink t schedule) = made_parts (Last' r source s sink t schedule)
shown_parts (Post' s operand t postfixes) = made_parts (Post' s operand t postfixes)

abbrev pub worked_parts : Stmt → List Part
worked_parts Empty = []
worked_parts (Bind name expr) = made_parts expr
worked_parts (Show expr) = shown_parts expr
worked_parts (Assume set) = []

-- ---- what is asked for

-- the statement has a type in the scope
abbrev pub IsTyped : ScopeView → Stmt → Type 0
IsTyped scope stmt = (t : Option TypeView) × (type_of_statement scope stmt ≡ Ok t)

-- what it assumes are formulas alone
abbrev pub AssumesFormulas : Stmt → Type 0
AssumesFormulas Empty = Unit {0}
AssumesFormulas (Bind name expr) = Unit {0}
AssumesFormulas (Show expr) = Unit {0}
AssumesFormulas (Assume set) = All HasNoCoordinates set.pieces

-- it has a type; its tests and words stand outermost; its literals are well formed; what it assumes are formulas alone
pub record IsEvaluable (scope : ScopeView) (stmt : Stmt) : Type 0 where
  pub typed : IsTyped scope stmt
  pub plain : list_any is_foreign (worked_parts stmt) ≡ false
  pub literals : All IsWellFormedLiteral (statement_literals stmt)
  pub formulas : AssumesFormulas stmt

-- ---- what is left

-- a part that may use units stands in it
abbrev pub works : Assumed → Stmt → Bool
works assumed stmt = list_any (uses_units assumed) (parts_of_statement stmt)

-- why it is not answered: work was cut, or its evaluation ends; where nothing uses units the meter is as it was
abbrev pub IsWhyEnded : Moment → Stmt → Gauge → Refusal → Type 0
IsWhyEnded before stmt now refusal = IsWhyUnworked (works before.state.assumed stmt) (StatementEnds before stmt) before.meter now refusal
