-- What literals divide by is at least 1.
use Rattle.std.proofs.Common.{◌≡◌, refl, subst, ℕ, zero, suc, ℤ, List, [], ◌∷◌, ◌++◌, Option, Some, None}
use Rattle.std.specs.List.{All}
use Rattle.std.proofs.lemmas.List.Elements.{All-nil, All-cons, All-head, All-tail, All-append}
use Rattle.isl_token.specs.Token.{Text}
use Rattle.isl_token.specs.Spelling as s
use Rattle.isl_token.specs.Spelling.{Grammar}
use Rattle.isl_tree.specs.declared.tree.Signed.{Signed}
use Rattle.isl_tree.specs.declared.tree.Formula.{Formula}
use Rattle.isl_tree.specs.declared.tree.Entry.{Entry}
use Rattle.isl_tree.specs.declared.tree.Entry.TheVariants.{Plain, Named}
use Rattle.isl_tree.specs.declared.tree.Tuple.{Tuple}
use Rattle.isl_tree.specs.declared.tree.Tuple.TheVariants.{Leaf, Pair}
use Rattle.isl_tree.specs.declared.tree.Tuple.TheBlock.{hidden-the_row-Tuple-0}
use Rattle.isl_tree.specs.declared.tree.PieceTree.{PieceTree}
use Rattle.isl_tree.specs.declared.tree.Literal.{Literal}
use Rattle.isl_tree.specs.Divisors.{term_divisors, formula_divisors, entries_divisors, body_divisors, piece_divisors, ArePositive}
use Rattle.isl_tree.specs.Literal.{entry_term, entries_of, second_entries, piece_entries}
use Rattle.isl_formula.specs.TermGrammar.{term}
use Rattle.isl_formula.specs.FormulaGrammar.{formula}
use Rattle.isl_formula.proofs.SpelledLaws.{Has, whatever, pure_has, bind_has, then_has, either_has, many_has}
use Rattle.isl_formula.proofs.DivisorLaws.{none, both, term_has, formula_has}
use Rattle.isl_text.specs.LiteralGrammar as g
use Rattle.isl_text.specs.Piece.{make_piece, make_literal}

DivTerm : List Signed → Type 0
DivTerm held = ArePositive (term_divisors held)

DivFormula : Formula → Type 0
DivFormula held = ArePositive (formula_divisors held)

-- ---- tuples
DivEntry : Entry → Type 0
DivEntry entry = DivTerm (entry_term entry)

DivEntries : List Entry → Type 0
DivEntries entries = All DivEntry entries

DivTuple : Tuple → Type 0
DivTuple tuple = DivEntries (entries_of tuple)

div_entries : (entries : List Entry) → DivEntries entries → ArePositive (entries_divisors entries)
unfolding DivTerm DivEntry DivEntries
div_entries [] h = none
div_entries (entry ∷ entries) h =
    both (term_divisors (entry_term entry)) (entries_divisors entries) (All-head DivEntry entry entries h) (div_entries entries (All-tail DivEntry entry entries h))

div_Leaf : (title : Option Text) (found : List Entry) → DivEntries found → DivTuple (Leaf title found)
unfolding DivTuple
div_Leaf title found h = h

div_Pair : (first second : Tuple) → DivTuple first → DivTuple second → DivTuple (Pair first second)
unfolding DivTuple DivEntries hidden-the_row-Tuple-0 denote.Hole.Carrier.hidden
div_Pair first second one two =
    let left = All-append DivEntry (entries_of first) [] one (All-nil DivEntry) in
    let right = All-append DivEntry (entries_of second) [] two (All-nil DivEntry) in
    All-append DivEntry (entries_of first ++ []) (entries_of second ++ []) left right

module _ (tl : Grammar (List Signed)) (inside : Has DivTerm tl) where
  entry_has : Has DivEntry (g.entry tl)
  unfolding DivEntry
  entry_has = either_has DivEntry _ _
      (bind_has (λ _. Unit {0}) DivEntry _ _ (whatever _) (λ new _. then_has DivEntry _ _ (bind_has DivTerm DivEntry _ _ inside (λ held h. pure_has DivEntry (Named new held) h))))
      (bind_has DivTerm DivEntry _ _ inside (λ held h. pure_has DivEntry (Plain held) h))

  row_has : Has DivEntries (g.entry_row tl)
  unfolding DivEntries
  row_has = bind_has DivEntry DivEntries _ _ entry_has (λ first one. bind_has DivEntries DivEntries _ _ (many_has DivEntry _ (then_has DivEntry _ _ entry_has))
      (λ others more. pure_has DivEntries (first ∷ others) (All-cons DivEntry first others one more)))

  leaf_has : (title : Option Text) → Has DivTuple (g.leaf tl title)
  unfolding DivEntries
  leaf_has title = then_has DivTuple _ _ (bind_has DivEntries DivTuple _ _ (either_has DivEntries _ _ (pure_has DivEntries [] (All-nil DivEntry)) row_has)
      (λ found h. then_has DivTuple _ _ (pure_has DivTuple (Leaf title found) (div_Leaf title found h))))

  named_leaf_has : Has DivTuple (g.named_leaf tl)
  named_leaf_has = bind_has (λ _. Unit {0}) DivTuple _ _ (whatever _) (λ title _. leaf_has (Some title))

pair_has : (tl : Grammar (List Signed)) (nested : Grammar Tuple) → Has DivTuple nested → Has DivTuple (g.pair tl nested)
pair_has tl nested inside =
    then_has DivTuple _ _ (bind_has DivTuple DivTuple _ _ inside (λ first one. then_has DivTuple _ _ (bind_has DivTuple DivTuple _ _ inside (λ second two.
    then_has DivTuple _ _ (pure_has DivTuple (Pair first second) (div_Pair first second one two))))))

term_divided : (n : ℕ) → Has DivTerm (term n)
unfolding DivTerm
term_divided n = term_has n

formula_divided : (n : ℕ) → Has DivFormula (formula n)
unfolding DivFormula
formula_divided n = formula_has n

tuple_has : (n : ℕ) → Has DivTuple (g.tuple n)
unfolding g.tuple
tuple_has zero = record { by = λ a ts h l. absurd l }
tuple_has (suc n) =
    let inside = term_divided (suc n) in
    either_has DivTuple _ _ (named_leaf_has (term (suc n)) inside)
    (either_has DivTuple _ _ (leaf_has (term (suc n)) inside None) (pair_has (term (suc n)) (g.tuple n) (tuple_has n)))

-- ---- pieces
DivImage : Option Tuple → Type 0
DivImage second = DivEntries (second_entries second)

DivBody : Option Formula → Type 0
DivBody held = ArePositive (body_divisors held)

-- the divisors of a piece are at least 1
pub IsDividedPiece : PieceTree → Type 0
IsDividedPiece piece = ArePositive (piece_divisors piece)

div_piece : (first : Tuple) (second : Option Tuple) (held : Option Formula) → DivTuple first → DivImage second → DivBody held → IsDividedPiece (make_piece first second held)
unfolding DivTuple DivImage DivBody DivEntries IsDividedPiece
div_piece first second held one two three =
    let entries = entries_of first ++ second_entries second in
    both (entries_divisors entries) (body_divisors held)
    (div_entries entries (All-append DivEntry (entries_of first) (second_entries second) one two)) three

module _ (tuple : Grammar Tuple) (fl : Grammar Formula) (inside : Has DivTuple tuple) (below : Has DivFormula fl) where
  image_has : Has DivImage (g.image tuple fl)
  unfolding DivImage DivTuple DivEntries
  image_has = either_has DivImage _ _ (bind_has DivTuple DivImage _ _ (then_has DivTuple _ _ inside) (λ t one. pure_has DivImage (Some t) one)) (pure_has DivImage None (All-nil DivEntry))

  condition_has : Has DivBody (g.condition tuple fl)
  unfolding DivBody DivFormula
  condition_has = either_has DivBody _ _ (then_has DivBody _ _ (either_has DivBody _ _ (pure_has DivBody None none) (bind_has DivFormula DivBody _ _ below (λ f h. pure_has DivBody (Some f) h))))
      (pure_has DivBody None none)

  piece_has : Has IsDividedPiece (g.piece tuple fl)
  piece_has = bind_has DivTuple IsDividedPiece _ _ inside (λ first one. bind_has DivImage IsDividedPiece _ _ image_has (λ second two.
      bind_has DivBody IsDividedPiece _ _ condition_has (λ held three. pure_has IsDividedPiece (make_piece first second held) (div_piece first second held one two three))))

  braces_has : Has (All IsDividedPiece) (g.braces tuple fl)
  braces_has =
      then_has (All IsDividedPiece) _ _ (bind_has (All IsDividedPiece) (All IsDividedPiece) _ _
      (either_has (All IsDividedPiece) _ _ (pure_has (All IsDividedPiece) [] (All-nil IsDividedPiece))
      (bind_has IsDividedPiece (All IsDividedPiece) _ _ piece_has (λ first one. bind_has (All IsDividedPiece) (All IsDividedPiece) _ _ (many_has IsDividedPiece _ (then_has IsDividedPiece _ _ piece_has))
      (λ others more. pure_has (All IsDividedPiece) (first ∷ others) (All-cons IsDividedPiece first others one more)))))
      (λ found all. then_has (All IsDividedPiece) _ _ (pure_has (All IsDividedPiece) found all)))

-- ---- literals
-- the divisors of a literal are at least 1
abbrev pub IsDivided : Literal → Type 0
IsDivided literal = All (λ piece. ArePositive (piece_divisors piece)) literal.pieces

pub outline_divided : (n : ℕ) → Has IsDivided (g.outline_of n)
unfolding IsDividedPiece
outline_divided n =
    bind_has (λ _. Unit {0}) IsDivided _ _ (whatever _) (λ params _.
    bind_has (All IsDividedPiece) IsDivided _ _ (braces_has (g.tuple n) (formula n) (tuple_has n) (formula_divided n)) (λ found all.
    pure_has IsDivided (make_literal params found) all))
