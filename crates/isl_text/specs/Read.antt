-- public: what reading a literal or a parameter set answers, and when it is refused.
use Rattle.std.specs.Prelude.{◌≡◌, ◌⊎◌, ◌≤◌, ℕ, ℤ, Bool, true, false, not, List, length, Option, Some, None, Result, Ok, Err, slice_range}
use Rattle.std.specs.Prelude.{if◌then◌else◌}
use Rattle.std.specs.List.{list_any}
use Rattle.isl_token.specs.declared.fault.Fault.{Fault}
use Rattle.isl_token.specs.declared.fault.Fault.TheVariants as fault
use Rattle.isl_token.specs.TokenView.{Token}
use Rattle.isl_token.specs.Depth.{is_too_deep}
use Rattle.isl_token.specs.Spelling.{Grammar, Spells}
use Rattle.isl_tree.specs.declared.tree.Literal.{Literal}
use Rattle.isl_refusal.specs.declared.refusal.Refusal.{Refusal}
use Rattle.isl_refusal.specs.declared.refusal.Refusal.TheVariants.{Syntax, TooWide, TooDeep, WideNumber, NoMemory}
use Rattle.isl_text.specs.Literal.{literal_grammar}
use Rattle.isl_text.specs.PsetGrammar.{pset_grammar}
use Rattle.isl_text.specs.Limits.{is_within, is_wide}

-- what cutting a text into tokens answers: the tokens, unless memory runs out
abbrev pub Lexes : Option (List Token) → Result (List Token) Refusal → Type 0
Lexes read (Ok ts) = read ≡ Some ts
Lexes read (Err Syntax) = read ≡ None
Lexes read (Err NoMemory) = Unit {0}
Lexes read (Err _) = ⊥

-- ---- by a grammar

-- the tokens from one place up to another spell the tree
pub record IsTreeAt (grammar : ℕ → Grammar Literal) (ts : List Token) (at : ℕ) (tree : Literal) (next : ℕ) : Type 0 where
  pub ends : (at ≤ next) × (next ≤ length ts)
  pub spelled : Spells grammar tree (slice_range ts at next)

-- none begins at the place
abbrev pub NoTree : (ℕ → Grammar Literal) → List Token → ℕ → Type 0
NoTree grammar ts at = (tree : Literal) (next : ℕ) → IsTreeAt grammar ts at tree next → ⊥

-- what reading at a place answers: the one that stands there, and the place behind it
abbrev pub TreeStands : (ℕ → Grammar Literal) → List Token → ℕ → Result (Literal × ℕ) Fault → Type 0
TreeStands grammar ts at (Ok found) = IsTreeAt grammar ts at found.0 found.1
TreeStands grammar ts at (Err fault.NoMemory) = Unit {0}
TreeStands grammar ts at (Err fault.Syntax) = NoTree grammar ts at

-- some number is above the limit
abbrev pub has_wide_number : ℤ → List Token → Bool
has_wide_number limit ts = list_any (is_wide limit) ts

-- the literal, or the parameter set, that the tokens spell, unless a limit refuses it: first those of its size, then that of its numbers
abbrev pub judged : ℤ → List Token → Literal → ℕ → Result (Literal × ℕ) Refusal
judged limit ts literal next =
    if not (is_within literal) then Err TooWide else (if has_wide_number limit ts then Err WideNumber else Ok (literal, next))

-- one stands at the place, and its limits let it come to this answer
abbrev pub SomeTree : (ℕ → Grammar Literal) → List Token → ℕ → ℤ → Result (Literal × ℕ) Refusal → Type 0
SomeTree grammar ts at limit answer = (tree : Literal) × (next : ℕ) × IsTreeAt grammar ts at tree next
    × (answer ≡ judged limit (slice_range ts at next) tree next)

-- when each answer comes
abbrev pub TreeOnlyWhere : (ℕ → Grammar Literal) → List Token → ℕ → ℤ → Result (Literal × ℕ) Refusal → Type 0
TreeOnlyWhere grammar ts at limit (Err TooDeep) = is_too_deep ts ≡ true
TreeOnlyWhere grammar ts at limit (Err Syntax) = (is_too_deep ts ≡ false) × NoTree grammar ts at
TreeOnlyWhere grammar ts at limit (Err NoMemory) = Unit {0}
TreeOnlyWhere grammar ts at limit answer = (is_too_deep ts ≡ false) × SomeTree grammar ts at limit answer

-- this answer, unless memory runs out
abbrev pub Answers : Result (Literal × ℕ) Refusal → Result (Literal × ℕ) Refusal → Type 0
Answers result answer = (result ≡ answer) ⊎ (result ≡ Err NoMemory)

pub record TreeExactlyWhere (grammar : ℕ → Grammar Literal) (ts : List Token) (at : ℕ) (limit : ℤ) (result : Result (Literal × ℕ) Refusal)
    : Type 0 where
  pub deep : is_too_deep ts ≡ true → Answers result (Err TooDeep)
  pub none : is_too_deep ts ≡ false → NoTree grammar ts at → Answers result (Err Syntax)
  pub some : is_too_deep ts ≡ false → (tree : Literal) (next : ℕ) → IsTreeAt grammar ts at tree next
      → Answers result (judged limit (slice_range ts at next) tree next)

-- ---- literals

abbrev pub IsLiteralAt : List Token → ℕ → Literal → ℕ → Type 0
IsLiteralAt = IsTreeAt literal_grammar

abbrev pub Stands : List Token → ℕ → Result (Literal × ℕ) Fault → Type 0
Stands = TreeStands literal_grammar

abbrev pub OnlyWhere : List Token → ℕ → ℤ → Result (Literal × ℕ) Refusal → Type 0
OnlyWhere = TreeOnlyWhere literal_grammar

abbrev pub ExactlyWhere : List Token → ℕ → ℤ → Result (Literal × ℕ) Refusal → Type 0
ExactlyWhere = TreeExactlyWhere literal_grammar

-- ---- parameter sets

abbrev pub IsPsetAt : List Token → ℕ → Literal → ℕ → Type 0
IsPsetAt = IsTreeAt pset_grammar

abbrev pub PsetStands : List Token → ℕ → Result (Literal × ℕ) Fault → Type 0
PsetStands = TreeStands pset_grammar

abbrev pub PsetOnlyWhere : List Token → ℕ → ℤ → Result (Literal × ℕ) Refusal → Type 0
PsetOnlyWhere = TreeOnlyWhere pset_grammar

abbrev pub PsetExactlyWhere : List Token → ℕ → ℤ → Result (Literal × ℕ) Refusal → Type 0
PsetExactlyWhere = TreeExactlyWhere pset_grammar
