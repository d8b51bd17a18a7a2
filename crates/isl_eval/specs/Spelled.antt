-- public: the statement that bytes spell. (isl manual, the notation of sets and relations; the iscc chapter of the barvinok manual)
use Rattle.std.specs.Prelude.{◌≡◌, ℕ, List, Some}
use Rattle.isl_token.specs.TokenView.{Token}
use Rattle.isl_token.specs.Lex as lex
use Rattle.isl_token.specs.Spelling.{Spells}
use Rattle.isl_tree.specs.declared.statement.Stmt.{Stmt}
use Rattle.isl_stmt.specs.StatementGrammar.{statement_grammar}

-- the bytes have tokens, and these spell the statement
pub record BytesSpell (bytes : List ℕ) (stmt : Stmt) : Type 0 where
  pub tokens : List Token
  pub cut : lex.tokens bytes ≡ Some tokens
  pub spelled : Spells statement_grammar stmt tokens

-- the bytes have tokens with P
abbrev pub OfTokens : List ℕ → (List Token → Type 0) → Type 0
OfTokens bytes P = (ts : List Token) × (lex.tokens bytes ≡ Some ts) × P ts

-- the bytes spell a statement with P
abbrev pub OfStatement : List ℕ → (Stmt → Type 0) → Type 0
OfStatement bytes P = (stmt : Stmt) × BytesSpell bytes stmt × P stmt

-- the bytes spell at most one statement
abbrev pub SpellOne : List ℕ → Type 0
SpellOne bytes = (a b : Stmt) → BytesSpell bytes a → BytesSpell bytes b → a ≡ b
