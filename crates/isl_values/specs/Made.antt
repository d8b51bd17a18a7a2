-- public: what values are worked out of expressions, for whom, and which parts use units.
use Rattle.std.specs.Prelude.{◌≡◌, ◌↔◌, ℕ, Bool, true, false, not, ◌||◌, List, All, Some}
use Rattle.std.specs.List.{list_any}
use Rattle.isl_space.specs.Name.{Name}
use Rattle.isl_space.specs.Valuation.{Valuation}
use Rattle.isl_space.specs.Element.{Element}
use Rattle.isl_union.specs.KeptValue.{KeptValue, Has, HasNoDefinitions, IsKeptValue}
use Rattle.isl_union.specs.declared.fault.OpFault.{OpFault}
use Rattle.isl_union.specs.declared.fault.OpFault.TheVariants as op_fault
use Rattle.isl_refusal.specs.declared.refusal.Refusal.{Refusal}
use Rattle.isl_refusal.specs.declared.refusal.Refusal.TheVariants.{NoMinimum, TooWide}
use Rattle.isl_lower.specs.Value.{IsWellFormedLiteral}
use Rattle.isl_tree.specs.declared.statement.Link.{Link}
use Rattle.isl_tree.specs.declared.statement.Postfix.{Postfix, Inverse, Apply, Item}
use Rattle.isl_tree.specs.declared.statement.Expr.{Expr}
use Rattle.isl_tree.specs.Expr.{literals_of}
use Rattle.isl_kinds.specs.Parts.{Part, name, literal, operator, prefix, any, last, inverse, application, item, parts_of}
use Rattle.isl_kinds.specs.Typed.{TypeView, ScopeView, has_unknown, kind_of, declared_of}
use Rattle.isl_operators.specs.Operations.{is_operation, is_operation_word}
use Rattle.isl_operators.specs.Made.{operator_works, word_works}
use Rattle.isl_operators.specs.declared.fault.WordFault.{WordFault}
use Rattle.isl_operators.specs.declared.fault.WordFault.TheVariants as word_fault
pub use Rattle.isl_outcome.specs.Why.{refusal_of_cut, IsPaid, IsWhyUnmade, IsWhyUnworked}
use Rattle.isl_assumed.specs.declared.assumed.Assumed.{Assumed}
use Rattle.isl_assumed.specs.Assumed.{Assumes}
use Rattle.isl_values.specs.Live.{IsLiveUnder, narrows}
use Rattle.isl_state.specs.State.{HasNumbersUpTo}

-- what stands in no operand that a value is worked out of: tests, `%`, `scan`, `sample` and `codegen`
abbrev pub is_foreign : Part → Bool
is_foreign (name n) = false
is_foreign (literal l) = false
is_foreign (operator sign) = not (is_operation sign)
is_foreign (prefix word) = not (is_operation_word word)
is_foreign any = false
is_foreign last = false
is_foreign inverse = false
is_foreign application = false
is_foreign (item number) = false

-- The parts that may use units: all but names, `+`, `^-1`, `[i]` and the words that only move columns; a literal is asked whether what it
-- writes has an element. Where something is assumed, all but names and `[i]`: what is made is asked whether it has an element there.
abbrev pub uses_units : Assumed → Part → Bool
uses_units assumed (name n) = false
uses_units assumed (literal l) = true
uses_units assumed (operator sign) = operator_works sign || narrows assumed
uses_units assumed (prefix word) = word_works word || narrows assumed
uses_units assumed any = true
uses_units assumed last = true
uses_units assumed inverse = narrows assumed
uses_units assumed application = true
uses_units assumed (item number) = false

-- the expression has a type in the scope
pub record IsOfType (scope : ScopeView) (expr : Expr) (t : TypeView) : Type 0 where
  pub known : has_unknown scope expr ≡ false
  pub kind : kind_of scope expr ≡ Some t.kind
  pub params : declared_of scope expr ≡ t.params

-- what stands in the expression is answered, known and well formed
pub record IsSoundExpr (scope : ScopeView) (expr : Expr) : Type 0 where
  pub supported : list_any is_foreign (parts_of expr) ≡ false
  pub known : has_unknown scope expr ≡ false
  pub literals : All IsWellFormedLiteral (literals_of expr)

-- an operator that is answered, and its operand
pub record IsSoundLink (scope : ScopeView) (link : Link) : Type 0 where
  pub supported : is_foreign (operator link.operator) ≡ false
  pub operand : IsSoundExpr scope link.operand

-- what follows an operand is answered, and what it is applied to is sound
abbrev pub IsSoundPostfix : ScopeView → Postfix → Type 0
IsSoundPostfix scope Inverse = Unit {0}
IsSoundPostfix scope (Apply argument) = IsSoundExpr scope argument
IsSoundPostfix scope (Item number) = Unit {0}

-- The kept value is one of these, with these parameters, these elements at each valuation, and no number above the limit; where this is so,
-- none of its columns is defined.
pub record IsMadeOf (Exact : KeptValue → Type 0) (names : List Name) (Elements : Valuation → Element → Type 0) (limit : ℕ)
    (Plain : Type 0) (value : KeptValue) : Type 0 where
  pub written : Exact value
  pub kept : IsKeptValue value
  pub params : value.params ≡ names
  pub elements : (valuation : Valuation) (element : Element) → Has value valuation element ↔ Elements valuation element
  pub numbers : HasNumbersUpTo limit value
  pub definitions : Plain → HasNoDefinitions value

-- The same at each assumed valuation, and each of its pieces has an element at one.
pub record IsValueOf (assumed : Assumed) (Exact : KeptValue → Type 0) (names : List Name) (Elements : Valuation → Element → Type 0)
    (limit : ℕ) (Plain : Type 0) (value : KeptValue) : Type 0 where
  pub written : Exact value
  pub kept : IsKeptValue value
  pub live : IsLiveUnder assumed value
  pub params : value.params ≡ names
  pub elements : (valuation : Valuation) → Assumes assumed valuation
      → (element : Element) → Has value valuation element ↔ Elements valuation element
  pub numbers : HasNumbersUpTo limit value
  pub definitions : Plain → HasNoDefinitions value

-- ---- faults
-- what refuses one of which an operation made no value
abbrev pub refusal_of_fault : OpFault → Refusal
refusal_of_fault op_fault.TooWide = TooWide
refusal_of_fault (op_fault.Cut cut) = refusal_of_cut cut

-- the same of a word
abbrev pub refusal_of_word_fault : WordFault → Refusal
refusal_of_word_fault word_fault.TooWide = TooWide
refusal_of_word_fault word_fault.NoMinimum = NoMinimum
refusal_of_word_fault (word_fault.Cut cut) = refusal_of_cut cut
