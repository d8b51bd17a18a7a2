-- public: the rules on names and on the number of tuples, which no grammar says. (isl manual, the notation of sets and relations)
use Rattle.std.specs.Prelude.{◌≡◌, Bool, true, false, not, ◌&&◌, ◌||◌, is_some, is_none, List, [], ◌∷◌, ◌++◌, Option, Some, None}
use Rattle.std.specs.List.{list_all, list_any}
use Rattle.isl_token.specs.Token.{Text}
use Rattle.isl_tree.specs.declared.tree.Factor.{Name}
use Rattle.isl_tree.specs.declared.tree.Product.{Product, Product', Some'}
use Rattle.isl_tree.specs.declared.tree.Entry.{Entry}
use Rattle.isl_tree.specs.declared.tree.Entry.TheVariants.{Plain, Named}
use Rattle.isl_tree.specs.declared.tree.PieceTree.{PieceTree}
use Rattle.isl_tree.specs.declared.tree.Literal.{Literal}
use Rattle.isl_tree.specs.Literal.{is_among, lone_name, piece_entries}

-- no name stands twice
abbrev pub are_distinct : List Text → Bool
are_distinct [] = true
are_distinct (name ∷ names) = not (is_among names name) && are_distinct names

abbrev pub are_maps : List PieceTree → Bool
are_maps pieces = list_all (λ piece. is_some piece.second) pieces

abbrev pub are_sets : List PieceTree → Bool
are_sets pieces = list_all (λ piece. is_none piece.second) pieces

-- all pieces have one tuple, or all have two
abbrev pub are_alike : List PieceTree → Bool
are_alike pieces = are_sets pieces || are_maps pieces

-- the name of a product that is a name alone, but for its numbers
abbrev pub sole_name : Product → Option Text
sole_name (Product' numbers (Some' (Name name) [])) = Some name
sole_name _ = None

-- ---- names that entries bring in

-- the name that stands alone at an entry, or before `=`
abbrev pub standing_name : Entry → Option Text
standing_name (Plain term) = lone_name term
standing_name (Named name term) = Some name

-- a name before `=` is none of these
abbrev pub is_new : List Text → Entry → Bool
is_new known (Plain term) = true
is_new known (Named name term) = not (is_among known name)

abbrev pub with_name : List Text → Option Text → List Text
with_name known None = known
with_name known (Some name) = known ++ name ∷ []

-- the names that stand at entries, behind those that are known before them
abbrev pub known_behind : List Text → List Entry → List Text
known_behind known [] = known
known_behind known (entry ∷ entries) = known_behind (with_name known (standing_name entry)) entries

-- each name before `=` is new: none that is known before, and none that stands at an earlier entry
abbrev pub names_are_new : List Text → List Entry → Bool
names_are_new known [] = true
names_are_new known (entry ∷ entries) = is_new known entry && names_are_new (with_name known (standing_name entry)) entries

abbrev pub piece_is_formed : List Text → PieceTree → Bool
piece_is_formed params piece = names_are_new params (piece_entries piece)

-- The parameters are distinct, all pieces are sets or all are maps, and each name before `=` is new in its piece.
abbrev pub is_formed : Literal → Bool
is_formed literal = are_distinct literal.params && are_alike literal.pieces && list_all (piece_is_formed literal.params) literal.pieces

-- ---- what functions ensure that go along entries

-- a name stands before `=`
abbrev pub is_named : Entry → Bool
is_named (Plain term) = false
is_named (Named name term) = true

abbrev pub has_named : PieceTree → Bool
has_named piece = list_any is_named (piece_entries piece)

-- both lists have the same names
abbrev pub HaveSameNames : List Text → List Text → Type 0
HaveSameNames names others = (name : Text) → is_among names name ≡ is_among others name

-- the answer says whether the names are new, and where they are they have become known
pub record GoesAlong (new : Bool) (known behind : List Text) (entries : List Entry) : Type 0 where
  pub are_new : new ≡ names_are_new known entries
  pub become_known : new ≡ true → HaveSameNames behind (known_behind known entries)
