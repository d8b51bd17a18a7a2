-- public: the grammar of parameter sets. They are trees of literals, of which each piece has the tuple without entries: a set of valuations
-- is that of `[]` at these. (isl manual, on parameter domains)
use Rattle.std.specs.Prelude.{◌≡◌, ℕ, true, List, [], Option, Some, None}
use Rattle.isl_token.specs.declared.token.Kind.TheVariants as k
use Rattle.isl_token.specs.Spelling.{Grammar, ◌>>=◌, ◌>>◌, ◌∪◌, pure, word, separated}
use Rattle.isl_tree.specs.declared.tree.Formula.{Formula}
use Rattle.isl_tree.specs.declared.tree.Tuple.TheVariants.{Leaf}
use Rattle.isl_tree.specs.declared.tree.PieceTree.{PieceTree}
use Rattle.isl_tree.specs.declared.tree.Literal.{Literal}
use Rattle.isl_formula.specs.FormulaGrammar.{formula}
use Rattle.isl_text.specs.Formed.{is_formed}
use Rattle.isl_text.specs.LiteralGrammar.{declared}
use Rattle.isl_text.specs.Piece.{make_piece, make_literal}

-- the piece of a formula, which may be missing
abbrev pub condition_of : Option Formula → PieceTree
condition_of body = make_piece (Leaf None []) None body

module _ (formula : Grammar Formula) where
  -- ":" [formula]
  abbrev pub condition : Grammar PieceTree
  condition = do
    word k.Colon
    held ← pure None ∪ (formula >>= λ f. pure (Some f))
    pure (condition_of held)

  -- "{" ":" [formula] {";" ":" [formula]} "}"
  abbrev pub braces : Grammar (List PieceTree)
  braces = do
    word k.OpenBrace
    found ← separated k.Semicolon condition
    word k.CloseBrace
    pure found

  -- ["[" [name {"," name}] "]" "->"] "{" ":" [formula] {";" ":" [formula]} "}"
  abbrev pub outline : Grammar Literal
  outline = do
    params ← declared ∪ pure []
    found ← braces
    pure (make_literal params found)

-- with brackets nested less deep than the number, where no name is declared twice
abbrev pub pset_grammar : ℕ → Grammar Literal
pset_grammar n = λ found ts. outline (formula n) found ts × (is_formed found ≡ true)
