-- public: which elements an expression selects, and what is kept of them. (the iscc chapter of the barvinok manual)
use Rattle.std.specs.Prelude.{◌≡◌, ◌↔◌, Bool, true, false, List, [], ◌∷◌, Option, Some, None, IfSome, MatchOption, is_some, unsigned_abs}
use Rattle.isl_meter.specs.Gauge.{limit_of}
use Rattle.isl_space.specs.Valuation.{Valuation}
use Rattle.isl_space.specs.Element.{Element}
use Rattle.isl_union.specs.KeptValue.{KeptValue, Has, HasNoDefinitions, IsKeptValue}
use Rattle.isl_maps.specs.Inverse.{inverse_element}
use Rattle.isl_relation.specs.Flow.{AnyHas}
use Rattle.isl_gist.specs.Gist.{value_over, IsGistOf}
use Rattle.isl_coalesce.specs.Coalesced.{IsCoalescedUnder}
use Rattle.isl_tree.specs.Literal.{LiteralHas}
use Rattle.isl_tree.specs.declared.statement.Binary.{Binary}
use Rattle.isl_tree.specs.declared.statement.Binary.TheVariants as b
use Rattle.isl_tree.specs.declared.statement.Link.{Link}
use Rattle.isl_tree.specs.declared.statement.Prefix.{Prefix}
use Rattle.isl_tree.specs.Words.{word_row}
use Rattle.isl_tree.specs.declared.statement.Postfix.{Postfix, Inverse, Apply, Item}
use Rattle.isl_tree.specs.declared.statement.Expr.{Expr, Row', Prefix', Any', Last', Post', Row_of-Expr, end_of-Expr, more_of-Expr}
use Rattle.isl_tree.specs.declared.statement.Expr.{Row_of-Link, end_of-Link, more_of-Link, Row_of-Postfix, end_of-Postfix, more_of-Postfix}
use Rattle.isl_tree.specs.declared.statement.Expr as e
use Rattle.isl_operators.specs.Operations.{OperatorHas, WordHas, ApplicationHas}
use Rattle.isl_kinds.specs.Lines.{is_kind}
use Rattle.isl_kinds.specs.Typed.{kind_of, declared_of, declared_in, joined_names}
use Rattle.isl_tree.specs.declared.statement.ValueKind.TheVariants.{List as Pair}
use Rattle.isl_state.specs.declared.list.ListPart.{ListPart}
use Rattle.isl_state.specs.declared.list.ListPart.TheVariants.{First, Second}
use Rattle.isl_values.specs.Live.{IsLiveUnder, IsSampleAt, IsUnderOf}
use Rattle.isl_state.specs.State.{Kept, StateView, Moment, kept_of, scope_of, value_at, AtAssumed, HasNumbersUpTo, Everywhere}
use Rattle.isl_values.specs.Worked.{IsWrittenAt, PartHas, part_taken}

-- what a name stands for has the element in this part
abbrev pub KeptHas : ListPart → Option Kept → Valuation → Element → Type 0
KeptHas part None valuation element = ⊥
KeptHas part (Some kept) valuation element = Has (value_at part kept) valuation element

abbrev mutual
  -- This part of the expression selects the element at the valuation: a name what its kept value has, a literal what it has; a row what
  -- its operators make of the operands, from the left; a word what it makes of what its operand selects at assumed valuations; `any` and
  -- `last` which accesses come before others; an operand with what follows it what each of that makes of what is before it. What is no
  -- list is each of its parts.
  pub SelectsAt : StateView → ListPart → Expr → Valuation → Element → Type 0
  SelectsAt state part (e.Name name) valuation element = KeptHas part (kept_of state name) valuation element
  SelectsAt state part (e.Literal literal) valuation element = LiteralHas literal valuation element
  SelectsAt state part (Row' s first t links) valuation element =
      SelectsPastLinks state valuation (λ x. SelectsIn state First first valuation x) links element
  SelectsAt state part (Prefix' word s operand) valuation element =
      WordHas word (declared_in (scope_of state) operand) (AtAssumed state (λ v x. SelectsIn state First operand v x)) valuation element
  SelectsAt state part (Any' r source s sink t schedule) valuation element =
      AnyHas (λ x. SelectsIn state First source valuation x) (λ x. SelectsIn state First sink valuation x)
      (λ x. SelectsIn state First schedule valuation x) element
  SelectsAt state part (Last' r source s sink t schedule) valuation element =
      PartHas part (λ x. SelectsIn state First source valuation x) (λ x. SelectsIn state First sink valuation x)
      (λ x. SelectsIn state First schedule valuation x) element
  SelectsAt state part (Post' s operand t postfixes) valuation element =
      SelectsPastPostfixes state valuation (λ x. SelectsIn state (part_taken postfixes) operand valuation x) postfixes element

  -- an operand in a box is a row of one
  pub SelectsIn : {m : _} → StateView → ListPart → Row_of-Expr m → Valuation → Element → Type 0
  SelectsIn state part end_of-Expr valuation element = ⊥
  SelectsIn state part (more_of-Expr expr rest) valuation element = SelectsAt state part expr valuation element

  pub SelectsPastLinks : {m : _} → StateView → Valuation → (Element → Type 0) → Row_of-Link m → Element → Type 0
  SelectsPastLinks state valuation Left end_of-Link element = Left element
  SelectsPastLinks state valuation Left (more_of-Link operator operand rest) element =
      SelectsPastLinks state valuation (λ x. OperatorHas operator Left (λ y. SelectsAt state First operand valuation y) x) rest element

  pub SelectsPastPostfixes : {m : _} → StateView → Valuation → (Element → Type 0) → Row_of-Postfix m → Element → Type 0
  SelectsPastPostfixes state valuation Operand end_of-Postfix element = Operand element
  SelectsPastPostfixes state valuation Operand (more_of-Postfix postfix rest) element =
      SelectsPastPostfixes state valuation (λ x. PostfixHas state valuation Operand postfix x) rest element

  -- `^-1` turns each element round; a map is applied to what the argument selects; `[i]` is that part of the operand, which is taken at it
  pub PostfixHas : StateView → Valuation → (Element → Type 0) → Postfix → Element → Type 0
  PostfixHas state valuation Operand Inverse element = Operand (inverse_element element)
  PostfixHas state valuation Operand (Apply argument) element =
      ApplicationHas Operand (λ x. SelectsAt state First argument valuation x) element
  PostfixHas state valuation Operand (Item number) element = Operand element

-- what an expression selects; of a list the first part
abbrev pub Selects : StateView → Expr → Valuation → Element → Type 0
Selects state expr valuation element = SelectsAt state First expr valuation element

-- the same of lists
abbrev pub RowSelects : StateView → Valuation → (Element → Type 0) → List Link → Element → Type 0
RowSelects state valuation Left [] element = Left element
RowSelects state valuation Left (link ∷ links) element =
    RowSelects state valuation (λ x. OperatorHas link.operator Left (λ y. Selects state link.operand valuation y) x) links element

abbrev pub PostSelects : StateView → Valuation → (Element → Type 0) → List Postfix → Element → Type 0
PostSelects state valuation Operand [] element = Operand element
PostSelects state valuation Operand (postfix ∷ postfixes) element =
    PostSelects state valuation (λ x. PostfixHas state valuation Operand postfix x) postfixes element

-- a value with exactly the elements that this part of the expression selects, at every assumed valuation; of the values with these elements
-- it is one that is worked out, or that without its defined columns
pub record IsSelectedAt (state : StateView) (part : ListPart) (expr : Expr) (value : KeptValue) : Type 0 where
  pub elements : Everywhere state
      (λ valuation. (element : Element) → Has value valuation element ↔ SelectsAt state part expr valuation element)
  pub written : IsWrittenAt state part expr value

abbrev pub IsSelected : StateView → Expr → KeptValue → Type 0
IsSelected state expr value = IsSelectedAt state First expr value

-- the same of an operand in a box
abbrev pub IsSelectedIn : {m : _} → StateView → Row_of-Expr m → KeptValue → Type 0
IsSelectedIn state end_of-Expr value = ⊥
IsSelectedIn state (more_of-Expr expr rest) value = IsSelected state expr value

-- of two kept values, over the joined parameters of both, the one is the gist of the left one in the context of what the right one has at
-- assumed valuations
abbrev pub IsGistOfTwo : StateView → KeptValue → KeptValue → KeptValue → Type 0
IsGistOfTwo state left right value =
    IsKeptValue left × IsKeptValue right
    × ((context : KeptValue) × IsKeptValue context × IsUnderOf state.assumed (joined_names left.params right.params) right context
    × IsGistOf (value_over (joined_names left.params right.params) left) (value_over (joined_names left.params right.params) context) value)

-- the operand of `%`
abbrev pub operand_of_gist : Binary → Expr → Option Expr
operand_of_gist b.Gist operand = Some operand
operand_of_gist b.Union operand = None
operand_of_gist b.Intersection operand = None
operand_of_gist b.Difference operand = None
operand_of_gist b.RangeIntersection operand = None
operand_of_gist b.RangeDifference operand = None
operand_of_gist b.Cross operand = None
operand_of_gist b.Join operand = None
operand_of_gist b.Universal operand = None
operand_of_gist b.LexLess operand = None
operand_of_gist b.LexLessEqual operand = None
operand_of_gist b.LexGreater operand = None
operand_of_gist b.LexGreaterEqual operand = None
operand_of_gist b.Equal operand = None
operand_of_gist b.ProperSubset operand = None
operand_of_gist b.Subset operand = None
operand_of_gist b.ProperSuperset operand = None
operand_of_gist b.Superset operand = None

-- the operand of the only operator in a row, where that is `%`
abbrev pub context_of : {m : _} → Row_of-Link m → Option Expr
context_of end_of-Link = None
context_of (more_of-Link operator operand end_of-Link) = operand_of_gist operator operand
context_of (more_of-Link operator operand (more_of-Link next other rest)) = None

-- the value has the elements of the other at every assumed valuation, and its pieces are put together
pub record IsTogetherOf (state : StateView) (argument value : KeptValue) : Type 0 where
  pub elements : Everywhere state (λ valuation. (element : Element) → Has value valuation element ↔ Has argument valuation element)
  pub coalesced : IsCoalescedUnder state.assumed argument value

-- What is kept of a word with its operand. Where it chooses (`sample`), one element of a value of the operand, chosen once. Where it puts
-- pieces together (`coalesce`), the elements of a value of the operand, whose pieces are put together. Else what is selected.
abbrev pub IsContentBy : StateView → Bool → Bool → (KeptValue → Type 0) → (KeptValue → Type 0) → KeptValue → Type 0
IsContentBy state true joins Operand Selected value = (argument : KeptValue) × Operand argument × IsSampleAt state.assumed argument value
IsContentBy state false true Operand Selected value = (argument : KeptValue) × Operand argument × IsTogetherOf state argument value
IsContentBy state false false Operand Selected value = Selected value

abbrev pub IsContentOfWord : StateView → Prefix → (KeptValue → Type 0) → (KeptValue → Type 0) → KeptValue → Type 0
IsContentOfWord state word Operand Selected value =
    IsContentBy state (word_row word).chooses (word_row word).joins Operand Selected value

-- What a value has that is kept of this part of an expression: what is selected; of `sample` and `coalesce` what these make of a value of
-- their operand; of one `%` of two values the gist of the left one in the context of the right one.
abbrev pub IsContentOf : StateView → ListPart → Expr → KeptValue → Type 0
IsContentOf state part (e.Name name) value = IsSelectedAt state part (e.Name name) value
IsContentOf state part (e.Literal literal) value = IsSelectedAt state part (e.Literal literal) value
IsContentOf state part (Row' s first t links) value =
    MatchOption (context_of links) (IsSelectedAt state part (Row' s first t links) value)
    (λ context. (left : KeptValue) × (right : KeptValue) × IsSelectedIn state first left × IsSelected state context right
    × IsGistOfTwo state left right value)
IsContentOf state part (Prefix' word s operand) value =
    IsContentOfWord state word (λ argument. IsSelectedIn state operand argument)
    (λ v. IsSelectedAt state part (Prefix' word s operand) v) value
IsContentOf state part (Any' r source s sink t schedule) value = IsSelectedAt state part (Any' r source s sink t schedule) value
IsContentOf state part (Last' r source s sink t schedule) value = IsSelectedAt state part (Last' r source s sink t schedule) value
IsContentOf state part (Post' s operand t postfixes) value = IsSelectedAt state part (Post' s operand t postfixes) value

-- This is kept of a part of an expression: a value of its content, with the parameters that the expression declares and numbers within
-- the limit, in which no column is defined, and each piece has an element at an assumed valuation.
pub record IsKeptOf (before : Moment) (part : ListPart) (expr : Expr) (value : KeptValue) : Type 0 where
  pub params : declared_of (scope_of before.state) expr ≡ value.params
  pub content : IsContentOf before.state part expr value
  pub well_formed : IsKeptValue value
  pub live : IsLiveUnder before.state.assumed value
  pub numbers : HasNumbersUpTo (unsigned_abs (limit_of before.meter)) value
  pub definitions : HasNoDefinitions value

-- This is kept of an expression: its kind and its value, and of a list, and of nothing else, a second one.
pub record Keeps (before : Moment) (expr : Expr) (kept : Kept) : Type 0 where
  pub kind : kind_of (scope_of before.state) expr ≡ Some kept.kind
  pub value : IsKeptOf before First expr kept.value
  pub list : is_some kept.second ≡ is_kind kept.kind Pair
  pub second : IfSome kept.second (IsKeptOf before Second expr)
