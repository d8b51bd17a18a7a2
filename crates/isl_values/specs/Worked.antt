-- public: which value of an expression is worked out. (the iscc chapter of the barvinok manual)
use Rattle.std.specs.Prelude.{◌≡◌, Bool, true, false, List, [], ◌∷◌, Some}
use Rattle.isl_union.specs.KeptValue.{KeptValue}
use Rattle.isl_union.specs.Flat.{IsFlatOf}
use Rattle.isl_space.specs.Element.{Element}
use Rattle.isl_maps.specs.Inverse.{inverse_of}
use Rattle.isl_relation.specs.Flow.{AnyHas, LastHas, UnsourcedHas}
use Rattle.isl_lower.specs.Value.{IsLowered}
use Rattle.isl_tree.specs.declared.statement.Prefix.{Prefix}
use Rattle.isl_tree.specs.declared.statement.Link.{Link}
use Rattle.isl_tree.specs.declared.statement.Postfix.{Postfix, Inverse, Apply, Item}
use Rattle.isl_tree.specs.declared.statement.Expr.{Expr, Row', Prefix', Any', Last', Post', Row_of-Expr, end_of-Expr, more_of-Expr}
use Rattle.isl_tree.specs.declared.statement.Expr.{Row_of-Link, end_of-Link, more_of-Link, Row_of-Postfix, end_of-Postfix, more_of-Postfix}
use Rattle.isl_tree.specs.declared.statement.Expr as e
use Rattle.isl_tree.specs.Words.{word_row}
use Rattle.isl_operators.specs.Operations.{is_operation_word}
use Rattle.isl_operators.specs.Made.{IsOperatorOf, IsWordOf, IsApplicationOf, IsDependenceOf}
use Rattle.isl_state.specs.declared.list.ListPart.{ListPart}
use Rattle.isl_state.specs.declared.list.ListPart.TheVariants.{First, Second}
use Rattle.isl_values.specs.Live.{IsLiveOf, IsUnderOf}
use Rattle.isl_state.specs.State.{Kept, StateView, kept_of, part_at, value_at}

-- the part of an operand that what follows it is about: `[i]` can only stand first, since none makes a list
abbrev pub part_taken : {m : _} → Row_of-Postfix m → ListPart
part_taken end_of-Postfix = First
part_taken (more_of-Postfix (Item number) rest) = part_at number
part_taken (more_of-Postfix Inverse rest) = First
part_taken (more_of-Postfix (Apply argument) rest) = First

-- the same of a list
abbrev pub part_of_list : List Postfix → ListPart
part_of_list [] = First
part_of_list (Item number ∷ postfixes) = part_at number
part_of_list (Inverse ∷ postfixes) = First
part_of_list (Apply argument ∷ postfixes) = First

-- what is made of the elements of source, sink and schedule
abbrev pub Dependence : Type 1
Dependence = (Element → Type 0) → (Element → Type 0) → (Element → Type 0) → Element → Type 0

-- the parts of the list that `last` makes: the last sources of sinks, and the sinks that have none
abbrev pub PartHas : ListPart → Dependence
PartHas First = LastHas
PartHas Second = UnsourcedHas

-- a value of what is made of values of source, sink and schedule
abbrev pub IsMadeOfThree : StateView → Dependence → (KeptValue → Type 0) → (KeptValue → Type 0) → (KeptValue → Type 0) → KeptValue → Type 0
IsMadeOfThree state Depends Source Sink Schedule value =
    (a : KeptValue) × (b : KeptValue) × (c : KeptValue) × Source a × Sink b × Schedule c
    × IsLiveOf state.assumed (IsDependenceOf Depends a b c) value

-- the words that look for something at each valuation, or for what holds at all, and are asked at assumed ones alone
abbrev pub looks : Prefix → Bool
looks word = (word_row word).looks

-- what a word is asked of: an operand, at assumed valuations alone where the word looks at these
abbrev pub IsAskedOf : StateView → Bool → KeptValue → KeptValue → Type 0
IsAskedOf state true operand asked = IsUnderOf state.assumed operand.params operand asked
IsAskedOf state false operand asked = asked ≡ operand

-- the value is what is live of what a word makes of one
abbrev pub IsWordedOf : StateView → Prefix → KeptValue → KeptValue → Type 0
IsWordedOf state word operand value =
    (asked : KeptValue) × IsAskedOf state (looks word) operand asked × IsLiveOf state.assumed (IsWordOf word asked) value

abbrev mutual
  -- The value is one that is worked out of this part of an expression: of a name what it stands for, of a literal what that writes, of an
  -- operation what it makes of values that are worked out of its operands. Of what is written or made it is what is live.
  pub IsWorkedAt : StateView → ListPart → Expr → KeptValue → Type 0
  IsWorkedAt state part (e.Name name) value = (kept : Kept) × (kept_of state name ≡ Some kept) × (value ≡ value_at part kept)
  IsWorkedAt state part (e.Literal literal) value = IsLiveOf state.assumed (IsLowered literal) value
  IsWorkedAt state part (Row' s first t links) value =
      (left : KeptValue) × IsWorkedIn state First first left × IsWorkedPastLinks state left links value
  IsWorkedAt state part (Prefix' word s operand) value =
      (argument : KeptValue) × IsWorkedIn state First operand argument × (is_operation_word word ≡ true)
      × IsWordedOf state word argument value
  IsWorkedAt state part (Any' r source s sink t schedule) value =
      IsMadeOfThree state AnyHas (λ a. IsWorkedIn state First source a) (λ b. IsWorkedIn state First sink b)
      (λ c. IsWorkedIn state First schedule c) value
  IsWorkedAt state part (Last' r source s sink t schedule) value =
      IsMadeOfThree state (PartHas part) (λ a. IsWorkedIn state First source a) (λ b. IsWorkedIn state First sink b)
      (λ c. IsWorkedIn state First schedule c) value
  IsWorkedAt state part (Post' s operand t postfixes) value =
      (left : KeptValue) × IsWorkedIn state (part_taken postfixes) operand left × IsWorkedPastPostfixes state left postfixes value

  -- an operand in a box is a row of one
  pub IsWorkedIn : {m : _} → StateView → ListPart → Row_of-Expr m → KeptValue → Type 0
  IsWorkedIn state part end_of-Expr value = ⊥
  IsWorkedIn state part (more_of-Expr expr rest) value = IsWorkedAt state part expr value

  -- from the left
  pub IsWorkedPastLinks : {m : _} → StateView → KeptValue → Row_of-Link m → KeptValue → Type 0
  IsWorkedPastLinks state left end_of-Link value = value ≡ left
  IsWorkedPastLinks state left (more_of-Link operator operand rest) value =
      (right : KeptValue) × (made : KeptValue) × IsWorkedAt state First operand right
      × IsLiveOf state.assumed (IsOperatorOf operator left right) made × IsWorkedPastLinks state made rest value

  pub IsWorkedPastPostfixes : {m : _} → StateView → KeptValue → Row_of-Postfix m → KeptValue → Type 0
  IsWorkedPastPostfixes state operand end_of-Postfix value = value ≡ operand
  IsWorkedPastPostfixes state operand (more_of-Postfix postfix rest) value =
      (made : KeptValue) × IsPostfixOf state postfix operand made × IsWorkedPastPostfixes state made rest value

  -- the value is that of an operand with this behind it
  pub IsPostfixOf : StateView → Postfix → KeptValue → KeptValue → Type 0
  IsPostfixOf state Inverse operand value = IsLiveOf state.assumed (λ made. made ≡ inverse_of operand) value
  IsPostfixOf state (Apply expr) operand value =
      (argument : KeptValue) × IsWorkedAt state First expr argument × IsLiveOf state.assumed (IsApplicationOf operand argument) value
  IsPostfixOf state (Item number) operand value = value ≡ operand

-- one that is worked out of an expression; of a list of its first part
abbrev pub IsWorked : StateView → Expr → KeptValue → Type 0
IsWorked state expr value = IsWorkedAt state First expr value

-- the same of lists
abbrev pub IsWorkedRow : StateView → KeptValue → List Link → KeptValue → Type 0
IsWorkedRow state left [] value = value ≡ left
IsWorkedRow state left (link ∷ links) value =
    (right : KeptValue) × (made : KeptValue) × IsWorked state link.operand right
    × IsLiveOf state.assumed (IsOperatorOf link.operator left right) made × IsWorkedRow state made links value

abbrev pub IsWorkedPost : StateView → KeptValue → List Postfix → KeptValue → Type 0
IsWorkedPost state operand [] value = value ≡ operand
IsWorkedPost state operand (postfix ∷ postfixes) value =
    (made : KeptValue) × IsPostfixOf state postfix operand made × IsWorkedPost state made postfixes value

-- ---- without definitions
-- the value is one that is worked out of this part of an expression, or what is live of that without its defined columns
abbrev pub IsWrittenAt : StateView → ListPart → Expr → KeptValue → Type 0
IsWrittenAt state part expr value =
    (worked : KeptValue) × IsWorkedAt state part expr worked × IsLiveOf state.assumed (IsFlatOf worked) value

abbrev pub IsWritten : StateView → Expr → KeptValue → Type 0
IsWritten state expr value = IsWrittenAt state First expr value
