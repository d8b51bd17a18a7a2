-- The names that a literal's text declares and gives to tuples may stand in a literal.
use Rattle.std.proofs.Common.{◌≡◌, ◌≢◌, ◌∙◌, refl, sym, ap, subst, ℕ, zero, suc, Bool}
use Rattle.std.proofs.Common.{true, false, cond, List, [], ◌∷◌, map, Option, Some, None, IfSome}
use Rattle.std.specs.Prelude.{not, ◌&&◌, ◌||◌, IsTrue}
use Rattle.std.specs.List.{All, list_any}
use Rattle.std.specs.Str.{bytes_eq}
use Rattle.std.proofs.lemmas.Bool.{false≢true, false_from_ne_true}
use Rattle.std.proofs.Math.Bool.{and-true}
use Rattle.std.proofs.lemmas.List.Elements.{All-nil, All-cons, All-head}
use Rattle.std.proofs.lemmas.Slice.Eq.{bytes_eq-Decides}
use Rattle.isl_space.specs.Name.{is_identifier, is_reserved, IsLiteralName}
use Rattle.isl_space.specs.Form.{IsNamed}
use Rattle.isl_space.specs.SpaceForm.{IsNamedSpace}
use Rattle.isl_token.specs.TokenView as token
use Rattle.isl_token.specs.declared.token.Kind.{Kind}
use Rattle.isl_token.specs.declared.token.Kind.TheVariants as k
use Rattle.isl_token.specs.Token.{Text, kind_of, kind_in, word_kind, word_kinds, IsToken}
use Rattle.isl_token.specs.Spelling as s
use Rattle.isl_token.specs.Spelling.{Grammar}
use Rattle.isl_tree.specs.declared.tree.Signed.{Signed}
use Rattle.isl_tree.specs.declared.tree.Formula.{Formula}
use Rattle.isl_tree.specs.declared.tree.Entry.{Entry}
use Rattle.isl_tree.specs.declared.tree.Tuple.{Tuple}
use Rattle.isl_tree.specs.declared.tree.Tuple.TheVariants.{Leaf, Pair}
use Rattle.isl_tree.specs.declared.tree.Tuple.TheBlock.{hidden-the_row-Tuple-0}
use Rattle.isl_tree.specs.declared.tree.PieceTree.{PieceTree}
use Rattle.isl_tree.specs.declared.tree.Literal.{Literal}
use Rattle.isl_tree.specs.Literal.{form_of_tuple, space_of_piece}
use Rattle.isl_formula.specs.TermGrammar.{term}
use Rattle.isl_formula.specs.FormulaGrammar.{formula}
use Rattle.isl_formula.proofs.SpelledLaws.{Has, whatever, pure_has, bind_has, then_has, either_has, many_has}
use Rattle.isl_text.specs.LiteralGrammar as g
use Rattle.isl_text.specs.Piece.{make_piece, make_literal}
use Rattle.isl_text.specs.PsetGrammar as sets
use Rattle.isl_text.proofs.PsetSpelled.{pieces_have}

-- ---- names
-- the words of a table that has no name are not this word, where the table has no kind for it
AllKinds : List (Text × Kind) → Type 0
AllKinds [] = Unit {0}
AllKinds (entry ∷ table) = (entry.1 ≢ k.Name) × AllKinds table

none_in : (name : Text) (table : List (Text × Kind)) → AllKinds table → kind_in table name k.Name ≡ k.Name
    → list_any (bytes_eq name) (map (λ entry. entry.0) table) ≡ false
unfolding AllKinds
none_in name [] kinds is = refl
none_in name (entry ∷ table) kinds is = by (bytes_eq entry.0 name) refl (none_in name table kinds.1)
  where
    by : (q : Bool) → bytes_eq entry.0 name ≡ q
        → (kind_in table name k.Name ≡ k.Name → list_any (bytes_eq name) (map (λ e. e.0) table) ≡ false)
        → (bytes_eq name entry.0 || list_any (bytes_eq name) (map (λ e. e.0) table)) ≡ false
    by true same more = absurd (kinds.0 (sym (ap (λ (q : Bool). cond q entry.1 (kind_in table name k.Name)) same) ∙ is))
    by false other more =
        let apart : bytes_eq name entry.0 ≡ false = false_from_ne_true _
        (λ e. false≢true (sym other ∙ (bytes_eq-Decides entry.0 name).1 (sym ((bytes_eq-Decides name entry.0).0 e)))) in
        ap (λ (q : Bool). q || list_any (bytes_eq name) (map (λ e. e.0) table)) apart
        ∙ more (sym (ap (λ (q : Bool). cond q entry.1 (kind_in table name k.Name)) other) ∙ is)

no_names : AllKinds word_kinds
unfolding AllKinds
no_names = (
  (λ e. cc),
  (
    (λ e. cc),
    (
      (λ e. cc),
      ((λ e. cc), ((λ e. cc), ((λ e. cc), ((λ e. cc), ((λ e. cc), ((λ e. cc), ((λ e. cc), ((λ e. cc), ((λ e. cc), tt))))))))),
    ),
  ),
)

literal_name : (name : Text) → IsToken (token.Word name) → kind_of (token.Word name) ≡ k.Name → IsLiteralName name
unfolding word_kind
literal_name name word is =
    let none : is_reserved name ≡ false = none_in name word_kinds no_names is in
    subst (λ (q : Bool). IsTrue (is_identifier name && not q)) (sym none) (subst IsTrue (sym (and-true (is_identifier name))) word)

name_has : Has IsLiteralName s.name
name_has = record { by = λ n ts h l. literal_name n (All-head IsToken (token.Word n) [] (subst (All IsToken) l.0 h)) l.1 }

-- ---- tuples
NamedTuple : Tuple → Type 0
NamedTuple t = IsNamed (form_of_tuple t)

form-Leaf : (title : Option Text) (found : List Entry) → IfSome title IsLiteralName → NamedTuple (Leaf title found)
unfolding NamedTuple
form-Leaf title found named = named

form-Pair : (first second : Tuple) → NamedTuple first → NamedTuple second → NamedTuple (Pair first second)
unfolding NamedTuple hidden-the_row-Tuple-0 denote.Hole.Carrier.hidden
form-Pair first second one two = (one, two)

leaf_has : (term : Grammar (List Signed)) (title : Option Text) → IfSome title IsLiteralName → Has NamedTuple (g.leaf term title)
leaf_has term title named =
    then_has NamedTuple _ _ (bind_has (λ _. Unit {0}) NamedTuple _ _ (whatever _)
    (λ found _. then_has NamedTuple _ _ (pure_has NamedTuple (Leaf title found) (form-Leaf title found named))))

named_leaf_has : (term : Grammar (List Signed)) → Has NamedTuple (g.named_leaf term)
named_leaf_has term = bind_has IsLiteralName NamedTuple _ _ name_has (λ title named. leaf_has term (Some title) named)

pair_has : (term : Grammar (List Signed)) (nested : Grammar Tuple) → Has NamedTuple nested → Has NamedTuple (g.pair term nested)
pair_has term nested inside =
    then_has NamedTuple _ _ (bind_has NamedTuple NamedTuple _ _ inside
    (λ first one. then_has NamedTuple _ _ (bind_has NamedTuple NamedTuple _ _ inside (λ second two.
    then_has NamedTuple _ _ (pure_has NamedTuple (Pair first second) (form-Pair first second one two))))))

tuple_has : (n : ℕ) → Has NamedTuple (g.tuple n)
unfolding g.tuple
tuple_has zero = record { by = λ a ts h l. absurd l }
tuple_has (suc n) =
    either_has NamedTuple _ _ (named_leaf_has (term (suc n)))
    (either_has NamedTuple _ _ (leaf_has (term (suc n)) None tt) (pair_has (term (suc n)) (g.tuple n) (tuple_has n)))

-- ---- pieces
NamedImage : Option Tuple → Type 0
NamedImage second = IfSome second NamedTuple

NamedPiece : PieceTree → Type 0
NamedPiece piece = IsNamedSpace (space_of_piece piece)

image_has : (tuple : Grammar Tuple) (formula : Grammar Formula) → Has NamedTuple tuple → Has NamedImage (g.image tuple formula)
unfolding NamedImage
image_has tuple formula inside =
    either_has NamedImage _ _ (bind_has NamedTuple NamedImage _ _ (then_has NamedTuple _ _ inside)
    (λ t one. pure_has NamedImage (Some t) one)) (pure_has NamedImage None tt)

piece_named : (first : Tuple) (second : Option Tuple) (held : Option Formula) → NamedTuple first → NamedImage second
    → NamedPiece (make_piece first second held)
unfolding NamedPiece NamedImage NamedTuple
piece_named first None held one two = one
piece_named first (Some second) held one two = (one, two)

piece_has : (tuple : Grammar Tuple) (formula : Grammar Formula) → Has NamedTuple tuple → Has NamedPiece (g.piece tuple formula)
piece_has tuple formula inside =
    bind_has NamedTuple NamedPiece _ _ inside
    (λ first one. bind_has NamedImage NamedPiece _ _ (image_has tuple formula inside) (λ second two.
    bind_has (λ _. Unit {0}) NamedPiece _ _ (whatever _)
    (λ held _. pure_has NamedPiece (make_piece first second held) (piece_named first second held one two))))

braces_has : (tuple : Grammar Tuple) (formula : Grammar Formula) → Has NamedTuple tuple → Has (All NamedPiece) (g.braces tuple formula)
braces_has tuple formula inside =
    let each = piece_has tuple formula inside in
    then_has (All NamedPiece) _ _ (bind_has (All NamedPiece) (All NamedPiece) _ _
    (either_has (All NamedPiece) _ _ (pure_has (All NamedPiece) [] (All-nil NamedPiece))
    (bind_has NamedPiece (All NamedPiece) _ _ each
    (λ first one. bind_has (All NamedPiece) (All NamedPiece) _ _ (many_has NamedPiece _ (then_has NamedPiece _ _ each)) (λ others more.
    pure_has (All NamedPiece) (first ∷ others) (All-cons NamedPiece first others one more)))))
    (λ found all. then_has (All NamedPiece) _ _ (pure_has (All NamedPiece) found all)))

-- ---- literals
declared_has : Has (All IsLiteralName) g.declared
declared_has =
    then_has (All IsLiteralName) _ _ (bind_has (All IsLiteralName) (All IsLiteralName) _ _
    (either_has (All IsLiteralName) _ _ (pure_has (All IsLiteralName) [] (All-nil IsLiteralName))
    (bind_has IsLiteralName (All IsLiteralName) _ _ name_has
    (λ first one. bind_has (All IsLiteralName) (All IsLiteralName) _ _ (many_has IsLiteralName _ (then_has IsLiteralName _ _ name_has))
    (λ others more.
    pure_has (All IsLiteralName) (first ∷ others) (All-cons IsLiteralName first others one more)))))
    (λ found all. then_has (All IsLiteralName) _ _ (then_has (All IsLiteralName) _ _ (pure_has (All IsLiteralName) found all))))

-- the parameters and the tuples have names of literals
pub record IsNamedLiteral (literal : Literal) : Type 0 where
  pub params : All IsLiteralName literal.params
  pub spaces : All (λ piece. IsNamedSpace (space_of_piece piece)) literal.pieces

pub outline_has : (n : ℕ) → Has IsNamedLiteral (g.outline_of n)
unfolding NamedPiece
outline_has n =
    bind_has (All IsLiteralName) IsNamedLiteral _ _
    (either_has (All IsLiteralName) _ _ declared_has (pure_has (All IsLiteralName) [] (All-nil IsLiteralName))) (λ params names.
    bind_has (All NamedPiece) IsNamedLiteral _ _ (braces_has (g.tuple n) (formula n) (tuple_has n)) (λ found spaces.
    pure_has IsNamedLiteral (make_literal params found) (record { params = names; spaces = spaces })))

-- a parameter set has one tuple, which has no name
whole_named : (held : Option Formula) → NamedPiece (sets.condition_of held)
unfolding NamedPiece
whole_named held = tt

pub pset_outline_has : (n : ℕ) → Has IsNamedLiteral (sets.outline (formula n))
unfolding NamedPiece
pset_outline_has n =
    bind_has (All IsLiteralName) IsNamedLiteral _ _
    (either_has (All IsLiteralName) _ _ declared_has (pure_has (All IsLiteralName) [] (All-nil IsLiteralName))) (λ params names.
    bind_has (All NamedPiece) IsNamedLiteral _ _
    (pieces_have (λ _. Unit {0}) NamedPiece (whole_named None) (λ held _. whole_named (Some held)) (formula n) (whatever _))
    (λ found spaces. pure_has IsNamedLiteral (make_literal params found) (record { params = names; spaces = spaces })))
