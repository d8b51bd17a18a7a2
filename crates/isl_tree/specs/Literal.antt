-- public: which elements are in a literal (isl manual, "Sets and relations": sets and binary relations as tuples with constraints).
use Rattle.std.specs.Prelude.{◌≡◌, ℕ, ℤ, Bool, false, List, [], ◌∷◌, ◌++◌, length, Option, Some, None, Any, if◌then◌else◌}
use Rattle.std.specs.List.{list_any}
use Rattle.std.specs.Str.{bytes_eq}
use Rattle.isl_space.specs.Form.{Form, leaf, pair}
use Rattle.isl_space.specs.SpaceForm.{SpaceForm, set_of, map_of}
use Rattle.isl_space.specs.Element.{Element}
use Rattle.isl_tree.specs.declared.tree.Factor.{Name}
use Rattle.isl_tree.specs.declared.tree.Signed.{Signed'}
use Rattle.isl_tree.specs.declared.tree.Product.{Product', Some'}
use Rattle.isl_tree.specs.declared.tree.Entry.{Entry}
use Rattle.isl_tree.specs.declared.tree.Entry.TheVariants.{Plain, Named}
use Rattle.isl_tree.specs.declared.tree.Formula.{Formula}
use Rattle.isl_tree.specs.declared.tree.Tuple.{Tuple, Leaf, Pair', Row_of-Tuple, end_of-Tuple, more_of-Tuple}
use Rattle.isl_tree.specs.declared.tree.PieceTree.{PieceTree}
use Rattle.isl_tree.specs.declared.tree.Literal.{Literal}
use Rattle.isl_tree.specs.Environment.{Environment}
use Rattle.isl_tree.specs.Term.{Term, term_value}
use Rattle.isl_tree.specs.Formula.{FormulaHolds}

-- whether a name is among these
abbrev pub is_among : List (List ℕ) → List ℕ → Bool
is_among names name = list_any (λ n. bytes_eq n name) names

-- the name that a term consists of, where it is a name alone
abbrev pub lone_name : Term → Option (List ℕ)
lone_name (Signed' false (Product' [] (Some' (Name name) [])) ∷ []) = Some name
lone_name _ = None

abbrev pub unless_known : List (List ℕ) → Option (List ℕ) → Option (List ℕ)
unless_known known None = None
unless_known known (Some name) = if is_among known name then None else Some name

-- the name that an entry brings in: a name alone that is not known yet, or the one that stands before its term
abbrev pub new_name : List (List ℕ) → Entry → Option (List ℕ)
new_name known (Plain term) = unless_known known (lone_name term)
new_name known (Named name term) = Some name

abbrev pub entry_term : Entry → Term
entry_term (Plain term) = term
entry_term (Named name term) = term

-- the names that are known behind an entry
abbrev pub known_after : List (List ℕ) → Option (List ℕ) → List (List ℕ)
known_after known None = known
known_after known (Some name) = name ∷ known

abbrev pub with_new : Option (List ℕ) → ℤ → Environment → Environment
with_new None x env = env
with_new (Some name) x env = (name, x) ∷ env

-- the environment in which the names that entries bring in stand for their coordinates
abbrev pub with_coordinates : List (List ℕ) → List Entry → List ℤ → Environment → Environment
with_coordinates known (entry ∷ entries) (x ∷ xs) env =
    with_coordinates (known_after known (new_name known entry)) entries xs (with_new (new_name known entry) x env)
with_coordinates known _ _ env = env

-- each entry equals its coordinate
abbrev pub EntriesEqual : List Entry → List ℤ → Environment → Type 0
EntriesEqual [] [] env = Unit {0}
EntriesEqual (entry ∷ entries) (x ∷ xs) env = (term_value (entry_term entry) env ≡ x) × EntriesEqual entries xs env
EntriesEqual _ _ env = ⊥

abbrev mutual
  -- the entries of a tuple from the left, through pairs
  pub entries_of : Tuple → List Entry
  entries_of (Leaf name entries) = entries
  entries_of (Pair' s left t right) = row_entries left ++ row_entries right

  pub row_entries : {m : _} → Row_of-Tuple m → List Entry
  row_entries end_of-Tuple = []
  row_entries (more_of-Tuple tuple rest) = entries_of tuple ++ row_entries rest

abbrev pub second_entries : Option Tuple → List Entry
second_entries None = []
second_entries (Some tuple) = entries_of tuple

abbrev pub piece_entries : PieceTree → List Entry
piece_entries piece = entries_of piece.first ++ second_entries piece.second

abbrev pub BodyHolds : Option Formula → Environment → Type 0
BodyHolds None env = Unit {0}
BodyHolds (Some formula) env = FormulaHolds formula env

-- the space of a tuple: its name with the number of its entries, or the pair of two
abbrev mutual
  pub form_of_tuple : Tuple → Form
  form_of_tuple (Leaf name entries) = leaf name (length entries)
  form_of_tuple (Pair' s left t right) = pair (form_of_row left) (form_of_row right)

  -- a tuple in a pair is a row of one
  pub form_of_row : {m : _} → Row_of-Tuple m → Form
  form_of_row end_of-Tuple = leaf None 0
  form_of_row (more_of-Tuple tuple rest) = form_of_tuple tuple

-- parameters stand for their numbers, and the tuples' new names for their coordinates
abbrev pub piece_environment : List (List ℕ) → PieceTree → List ℤ → Environment → Environment
piece_environment params piece xs env = with_coordinates params (piece_entries piece) xs env

-- one tuple is the space of a set, two are that of a map
abbrev pub space_of_tuples : Form → Option Tuple → SpaceForm
space_of_tuples first None = set_of first
space_of_tuples first (Some tuple) = map_of first (form_of_tuple tuple)

abbrev pub space_of_piece : PieceTree → SpaceForm
space_of_piece piece = space_of_tuples (form_of_tuple piece.first) piece.second

-- a piece has an element: it has its space, each of its entries equals its coordinate, and its formula holds
pub record PieceHas (params : List (List ℕ)) (valuation : Environment) (element : Element) (piece : PieceTree) : Type 0 where
  pub space : space_of_piece piece ≡ element.space
  pub entries : EntriesEqual (piece_entries piece) element.coordinates (piece_environment params piece element.coordinates valuation)
  pub body : BodyHolds piece.body (piece_environment params piece element.coordinates valuation)

-- an element is in a literal at a valuation of the parameters where some piece has it
abbrev pub LiteralHas : Literal → Environment → Element → Type 0
LiteralHas literal valuation element = Any (PieceHas literal.params valuation element) literal.pieces
