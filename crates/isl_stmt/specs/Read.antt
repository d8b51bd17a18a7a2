-- public: what reading a statement answers, and when it is refused.
use Rattle.std.specs.Prelude.{◌≡◌, ◌⊎◌, ℤ, true, false, not, List, Some, None, Result, Ok, Err, if◌then◌else◌}
use Rattle.isl_token.specs.declared.fault.Fault.{Fault}
use Rattle.isl_token.specs.declared.fault.Fault.TheVariants as fault
use Rattle.isl_token.specs.TokenView.{Token}
use Rattle.isl_token.specs.Token.{Text}
use Rattle.isl_token.specs.Depth.{is_too_deep}
use Rattle.isl_token.specs.Lex.{tokens}
use Rattle.isl_token.specs.Spelling.{Spells}
use Rattle.isl_refusal.specs.declared.refusal.Refusal.{Refusal}
use Rattle.isl_refusal.specs.declared.refusal.Refusal.TheVariants.{Syntax, TooWide, TooDeep, WideNumber, NoMemory}
use Rattle.isl_text.specs.Read.{has_wide_number}
use Rattle.isl_tree.specs.declared.statement.Stmt.{Stmt}
use Rattle.isl_stmt.specs.Limits.{statement_is_within}
use Rattle.isl_stmt.specs.StatementGrammar.{statement_grammar}

-- the tokens spell no statement
abbrev pub NoStatement : List Token → Type 0
NoStatement ts = (stmt : Stmt) → Spells statement_grammar stmt ts → ⊥

-- what reading all the tokens answers
abbrev pub IsWhole : List Token → Result Stmt Fault → Type 0
IsWhole ts (Ok stmt) = Spells statement_grammar stmt ts
IsWhole ts (Err fault.NoMemory) = Unit {0}
IsWhole ts (Err fault.Syntax) = NoStatement ts

-- the statement that the tokens spell, unless a limit refuses it: first those of its literals, then that of its numbers
abbrev pub judged : ℤ → List Token → Stmt → Result Stmt Refusal
judged limit ts stmt =
    if not (statement_is_within stmt) then Err TooWide
    else (if has_wide_number limit ts then Err WideNumber
    else Ok stmt)

-- the answer that is due to tokens: they are nested too deeply, or spell no statement, or spell one that is judged
abbrev pub IsDueTo : List Token → ℤ → Result Stmt Refusal → Type 0
IsDueTo ts limit answer =
    ((is_too_deep ts ≡ true) × (answer ≡ Err TooDeep))
    ⊎ (((is_too_deep ts ≡ false) × NoStatement ts × (answer ≡ Err Syntax))
    ⊎ ((is_too_deep ts ≡ false) × (stmt : Stmt) × Spells statement_grammar stmt ts × (answer ≡ judged limit ts stmt)))

-- the answer that is due to a text: some byte begins no token, or what is due to its tokens
abbrev pub IsDue : Text → ℤ → Result Stmt Refusal → Type 0
IsDue bytes limit answer =
    ((tokens bytes ≡ None) × (answer ≡ Err Syntax))
    ⊎ ((ts : List Token) × (tokens bytes ≡ Some ts) × IsDueTo ts limit answer)

-- this answer, unless memory runs out
abbrev pub Answers : Result Stmt Refusal → Result Stmt Refusal → Type 0
Answers result answer = (result ≡ answer) ⊎ (result ≡ Err NoMemory)
