-- public: what is read where a printed value stands. (isl manual, on the notation of sets and relations)
use Rattle.std.specs.Prelude.{◌≡◌, ◌↔◌, true, List, Some}
use Rattle.isl_space.specs.Valuation.{Valuation}
use Rattle.isl_space.specs.Element.{Element}
use Rattle.isl_union.specs.KeptValue.{KeptValue, Has, HasNoDefinitions, IsKeptValue}
use Rattle.isl_print.specs.Joined.{Text}
use Rattle.isl_print.specs.OrderedValue.{ordered}
use Rattle.isl_print.specs.Printed.{printed}
use Rattle.isl_token.specs.TokenView.{Token}
use Rattle.isl_token.specs.Lex.{tokens}
use Rattle.isl_token.specs.Spelling.{Spells}
use Rattle.isl_text.specs.Limits.{is_within}
use Rattle.isl_text.specs.Literal.{literal_grammar}
use Rattle.isl_tree.specs.declared.tree.Literal.{Literal}
use Rattle.isl_tree.specs.Known.{literal_is_known}
use Rattle.isl_tree.specs.Plain.{is_plain}
use Rattle.isl_lower.specs.Value.{IsLowered, IsWellFormedLiteral, value_lowered}
use Rattle.isl_round_trip.specs.Written.{HasFewRemainders, HasWritableNumbers, IsUniform}

-- the text has tokens, and they spell the literal
abbrev pub Writes : Text → Literal → Type 0
Writes text literal = (ts : List Token) × (tokens text ≡ Some ts) × Spells literal_grammar literal ts

-- a kept value that one plain literal can write: sets or maps alone, with numbers that a literal may write and no defined column
pub record IsWritableValue (value : KeptValue) : Type 0 where
  pub kept : IsKeptValue value
  pub definitions : HasNoDefinitions value
  pub numbers : HasWritableNumbers value
  pub uniform : IsUniform value

-- the elements of both are the same at every valuation
abbrev pub HasElementsOf : KeptValue → KeptValue → Type 0
HasElementsOf value other = (valuation : Valuation) (element : Element) → Has value valuation element ↔ Has other valuation element

-- the literal can be read as a value: its normal pieces are those that were printed, in the order in which they were printed, with the
-- same elements and the same text; and each value that may be read of it has them all. It is within the limits of the reader where no
-- piece has more remainders than they allow
pub record ReadsAs (literal : Literal) (value : KeptValue) : Type 0 where
  pub plain : is_plain literal ≡ true
  pub within : HasFewRemainders value → is_within literal ≡ true
  pub known : literal_is_known literal ≡ true
  pub well_formed : IsWellFormedLiteral literal
  pub rows : value_lowered literal ≡ ordered value
  pub read : (other : KeptValue) → IsLowered literal other → other ≡ ordered value
  pub elements : HasElementsOf (value_lowered literal) value
  pub again : printed (value_lowered literal) ≡ printed value

-- the text of the value writes one literal and no other, which reads as the value
pub record ReadsBack (value : KeptValue) : Type 0 where
  pub literal : Literal
  pub written : Writes (printed value) literal
  pub only : (other : Literal) → Writes (printed value) other → other ≡ literal
  pub read : ReadsAs literal value
