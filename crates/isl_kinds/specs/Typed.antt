-- public: the kind of an expression and the parameters that it declares, and why it has none.
use Rattle.std.specs.Prelude.{◌≡◌, ◌⊎◌, pos, int_lt, Bool, true, false, not, is_some, List, [], ◌∷◌, Option, Some, None, Result, Ok}
use Rattle.std.specs.Prelude.{Err, if◌then◌else◌}
use Rattle.std.specs.Bool.{nat_eq}
use Rattle.std.specs.Option.{option_map, option_and_then}
use Rattle.std.specs.List.{list_any}
use Rattle.std.specs.Map.{lookup}
use Rattle.std.specs.Str.{bytes_eq}
use Rattle.isl_space.specs.Name.{Name}
use Rattle.indexmap.specs.IndexSet.{insert_all}
use Rattle.isl_tree.specs.declared.tree.Tuple.{Tuple}
use Rattle.isl_tree.specs.declared.tree.PieceTree.{PieceTree}
use Rattle.isl_tree.specs.declared.tree.Literal.{Literal}
use Rattle.isl_tree.specs.Known.{literal_is_known}
use Rattle.isl_refusal.specs.declared.refusal.Refusal.{Refusal}
use Rattle.isl_refusal.specs.declared.refusal.Refusal.TheVariants.{UnknownName, WrongKind, NoElement, NoMemory}
use Rattle.isl_tree.specs.declared.statement.ValueKind.{ValueKind}
use Rattle.isl_tree.specs.declared.statement.ValueKind.TheVariants.{Set, Map, List as Pair, Empty, Truth, Listing, Code, Tree}
use Rattle.isl_tree.specs.declared.statement.Stmt.{Stmt}
use Rattle.isl_tree.specs.declared.statement.Stmt.TheVariants as s
use Rattle.isl_tree.specs.declared.statement.Link.{Link}
use Rattle.isl_tree.specs.declared.statement.Postfix.{Postfix, Inverse, Apply, Item}
use Rattle.isl_tree.specs.declared.statement.Expr.{Expr, Row', Prefix', Any', Last', Post', Row_of-Expr, end_of-Expr, more_of-Expr}
use Rattle.isl_tree.specs.declared.statement.Expr.{Row_of-Link, end_of-Link, more_of-Link, Row_of-Postfix, end_of-Postfix, more_of-Postfix}
use Rattle.isl_tree.specs.declared.statement.Expr as e
use Rattle.isl_kinds.specs.declared.types.Purpose.{Purpose}
use Rattle.isl_kinds.specs.declared.types.Purpose.TheVariants.{Shown, Bound}
use Rattle.isl_kinds.specs.Lines.{joined, applied, prefixed, inverse, item, dependence}
use Rattle.isl_kinds.specs.Parts.{Part, parts_of}
use Rattle.isl_kinds.specs.Parts as part

-- a kind, and declared parameters, which may be more than a value can have
pub record TypeView : Type 0 where
  pub kind : ValueKind
  pub params : List Name

-- the bound names, each with its kind and its declared parameters
abbrev pub ScopeView : Type 0
ScopeView = List (Name × TypeView)

-- a name that no script has, since it begins with `$`
abbrev pub is_dollar : Name → Bool
is_dollar [] = false
is_dollar (byte ∷ others) = nat_eq byte 36

-- what a name is bound to
abbrev pub bound_to : ScopeView → Name → Option TypeView
bound_to scope name = lookup (bytes_eq name) scope

-- ---- names that stand for nothing

-- a name is unbound, or an identifier of a literal is unknown
abbrev pub is_unknown : ScopeView → Part → Bool
is_unknown scope (part.name n) = not (is_some (bound_to scope n))
is_unknown scope (part.literal l) = not (literal_is_known l)
is_unknown scope (part.operator sign) = false
is_unknown scope (part.prefix word) = false
is_unknown scope part.any = false
is_unknown scope part.last = false
is_unknown scope part.inverse = false
is_unknown scope part.application = false
is_unknown scope (part.item i) = false

abbrev pub has_unknown : ScopeView → Expr → Bool
has_unknown scope expr = list_any (is_unknown scope) (parts_of expr)

-- ---- elements that no list has

-- a list has two elements: the numbers above 1 stand for none
abbrev pub is_no_item : Part → Bool
is_no_item (part.name n) = false
is_no_item (part.literal l) = false
is_no_item (part.operator sign) = false
is_no_item (part.prefix word) = false
is_no_item part.any = false
is_no_item part.last = false
is_no_item part.inverse = false
is_no_item part.application = false
is_no_item (part.item i) = int_lt (pos 1) i

abbrev pub has_no_item : Expr → Bool
has_no_item expr = list_any is_no_item (parts_of expr)

-- ---- kinds

-- one tuple is a set's, two are a map's
abbrev pub kind_of_image : Option Tuple → ValueKind
kind_of_image None = Set
kind_of_image (Some tuple) = Map

-- a literal's pieces are all of one kind, and `{ }` is a set and a map
abbrev pub kind_of_pieces : List PieceTree → ValueKind
kind_of_pieces [] = Empty
kind_of_pieces (piece ∷ pieces) = kind_of_image piece.second

-- two operands by their line, and three
abbrev pub by_two : (ValueKind → ValueKind → Option ValueKind) → Option ValueKind → Option ValueKind → Option ValueKind
by_two line a b = option_and_then (λ left. option_and_then (line left) b) a

abbrev pub by_three : ValueKind → Option ValueKind → Option ValueKind → Option ValueKind → Option ValueKind
by_three made a b c = option_and_then (λ source. by_two (dependence made source) b c) a

abbrev mutual
  -- the kind of an expression, where for each operation some line of the table fits
  pub kind_of : ScopeView → Expr → Option ValueKind
  kind_of scope (e.Name name) = option_map (λ (t : TypeView). t.kind) (bound_to scope name)
  kind_of scope (e.Literal literal) = Some (kind_of_pieces literal.pieces)
  kind_of scope (Row' s first t links) = kind_past_links scope (kind_in scope first) links
  kind_of scope (Prefix' word s operand) = option_and_then (prefixed word) (kind_in scope operand)
  kind_of scope (Any' r source s sink t schedule) = by_three Map (kind_in scope source) (kind_in scope sink) (kind_in scope schedule)
  kind_of scope (Last' r source s sink t schedule) = by_three Pair (kind_in scope source) (kind_in scope sink) (kind_in scope schedule)
  kind_of scope (Post' s operand t postfixes) = kind_past_postfixes scope (kind_in scope operand) postfixes

  -- an operand in a box is a row of one
  pub kind_in : {m : _} → ScopeView → Row_of-Expr m → Option ValueKind
  kind_in scope end_of-Expr = None
  kind_in scope (more_of-Expr expr rest) = kind_of scope expr

  -- from the left
  pub kind_past_links : {m : _} → ScopeView → Option ValueKind → Row_of-Link m → Option ValueKind
  kind_past_links scope left end_of-Link = left
  kind_past_links scope left (more_of-Link operator operand rest) =
      kind_past_links scope (by_two (joined operator) left (kind_of scope operand)) rest

  pub kind_past_postfixes : {m : _} → ScopeView → Option ValueKind → Row_of-Postfix m → Option ValueKind
  kind_past_postfixes scope left end_of-Postfix = left
  kind_past_postfixes scope left (more_of-Postfix postfix rest) = kind_past_postfixes scope (kind_past scope left postfix) rest

  pub kind_past : ScopeView → Option ValueKind → Postfix → Option ValueKind
  kind_past scope left Inverse = option_and_then inverse left
  kind_past scope left (Apply argument) = by_two applied left (kind_of scope argument)
  kind_past scope left (Item number) = option_and_then item left

-- the same of lists
abbrev pub kind_of_row : ScopeView → Option ValueKind → List Link → Option ValueKind
kind_of_row scope left [] = left
kind_of_row scope left (link ∷ links) = kind_of_row scope (by_two (joined link.operator) left (kind_of scope link.operand)) links

abbrev pub kind_of_post : ScopeView → Option ValueKind → List Postfix → Option ValueKind
kind_of_post scope left [] = left
kind_of_post scope left (postfix ∷ postfixes) = kind_of_post scope (kind_past scope left postfix) postfixes

-- ---- declared parameters

-- the names, and then each of the others that is new, in order
abbrev pub joined_names : List Name → List Name → List Name
joined_names names others = insert_all bytes_eq names others

abbrev pub params_of : Option TypeView → List Name
params_of None = []
params_of (Some t) = joined_names [] t.params

abbrev mutual
  -- the list of the first operand, then the names of the second that are new, and then those of the third
  pub declared_of : ScopeView → Expr → List Name
  declared_of scope (e.Name name) = params_of (bound_to scope name)
  declared_of scope (e.Literal literal) = joined_names [] literal.params
  declared_of scope (Row' s first t links) = declared_past_links scope (declared_in scope first) links
  declared_of scope (Prefix' word s operand) = declared_in scope operand
  declared_of scope (Any' r source s sink t schedule) =
      joined_names (joined_names (declared_in scope source) (declared_in scope sink)) (declared_in scope schedule)
  declared_of scope (Last' r source s sink t schedule) =
      joined_names (joined_names (declared_in scope source) (declared_in scope sink)) (declared_in scope schedule)
  declared_of scope (Post' s operand t postfixes) = declared_past_postfixes scope (declared_in scope operand) postfixes

  pub declared_in : {m : _} → ScopeView → Row_of-Expr m → List Name
  declared_in scope end_of-Expr = []
  declared_in scope (more_of-Expr expr rest) = declared_of scope expr

  pub declared_past_links : {m : _} → ScopeView → List Name → Row_of-Link m → List Name
  declared_past_links scope left end_of-Link = left
  declared_past_links scope left (more_of-Link operator operand rest) =
      declared_past_links scope (joined_names left (declared_of scope operand)) rest

  pub declared_past_postfixes : {m : _} → ScopeView → List Name → Row_of-Postfix m → List Name
  declared_past_postfixes scope left end_of-Postfix = left
  declared_past_postfixes scope left (more_of-Postfix postfix rest) =
      declared_past_postfixes scope (declared_past scope left postfix) rest

  pub declared_past : ScopeView → List Name → Postfix → List Name
  declared_past scope left Inverse = left
  declared_past scope left (Apply argument) = joined_names left (declared_of scope argument)
  declared_past scope left (Item number) = left

-- the same of lists
abbrev pub declared_of_row : ScopeView → List Name → List Link → List Name
declared_of_row scope left [] = left
declared_of_row scope left (link ∷ links) = declared_of_row scope (joined_names left (declared_of scope link.operand)) links

abbrev pub declared_of_post : ScopeView → List Name → List Postfix → List Name
declared_of_post scope left [] = left
declared_of_post scope left (postfix ∷ postfixes) = declared_of_post scope (declared_past scope left postfix) postfixes

-- ---- types

-- every kind may be shown, and a name may stand for these
abbrev pub takes : Purpose → ValueKind → Bool
takes Shown kind = true
takes Bound Set = true
takes Bound Map = true
takes Bound Pair = true
takes Bound Empty = true
takes Bound Truth = false
takes Bound Listing = false
takes Bound Code = false
takes Bound Tree = false

-- a wrong kind comes before elements that no list has
abbrev pub kind_for : Purpose → Expr → Option ValueKind → Result ValueKind Refusal
kind_for purpose expr None = Err WrongKind
kind_for purpose expr (Some kind) =
    if not (takes purpose kind) then Err WrongKind else (if has_no_item expr then Err NoElement else Ok kind)

abbrev pub with_params : List Name → Result ValueKind Refusal → Result TypeView Refusal
with_params params (Ok kind) = Ok (record { kind = kind; params = params })
with_params params (Err refusal) = Err refusal

-- The kind of an expression and its declared parameters, or why there are none: unknown names come first, wherever they stand.
abbrev pub type_for : Purpose → ScopeView → Expr → Result TypeView Refusal
type_for purpose scope expr =
    if has_unknown scope expr then Err UnknownName
    else with_params (declared_of scope expr) (kind_for purpose expr (kind_of scope expr))

-- of a parameter set: an identifier is neither declared nor bound around it
abbrev pub known_params : Literal → Result (Unit {0}) Refusal
known_params set = if literal_is_known set then Ok tt else Err UnknownName

abbrev pub untyped : Result (Unit {0}) Refusal → Result (Option TypeView) Refusal
untyped (Ok nothing) = Ok None
untyped (Err refusal) = Err refusal

abbrev pub found : Result TypeView Refusal → Result (Option TypeView) Refusal
found (Ok t) = Ok (Some t)
found (Err refusal) = Err refusal

-- the type of what a statement binds or shows, if it does so: an assumption has no operand, but its identifiers have to be known
abbrev pub type_of_statement : ScopeView → Stmt → Result (Option TypeView) Refusal
type_of_statement scope s.Empty = Ok None
type_of_statement scope (s.Bind name expr) = found (type_for Bound scope expr)
type_of_statement scope (s.Show expr) = found (type_for Shown scope expr)
type_of_statement scope (s.Assume set) = untyped (known_params set)

-- this answer, unless memory runs out
abbrev pub Answers : {A : Type 0} → Result A Refusal → Result A Refusal → Type 0
Answers result answer = (result ≡ answer) ⊎ (result ≡ Err NoMemory)
