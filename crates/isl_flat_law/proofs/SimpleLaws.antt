-- The simple statements of a statement: what stands in them, their names and their shape.
use Rattle.std.proofs.Common.{◌≡◌, ◌∙◌, ◌<◌, ◌^◌, ℕ, Bool, true, false, List, [], ◌∷◌, ◌++◌, refl, sym}
use Rattle.std.specs.List.{All, list_any}
use Rattle.std.specs.Fmt.{decimal}
use Rattle.std.proofs.lemmas.Bool.{false≢true}
use Rattle.std.proofs.lemmas.Fmt.{decimal_injective}
use Rattle.isl_space.specs.Name.{Name}
use Rattle.isl_tree.specs.declared.tree.Literal.{Literal}
use Rattle.isl_tree.specs.declared.statement.Stmt.{Stmt}
use Rattle.isl_tree.specs.declared.statement.Stmt.TheVariants.{Empty, Bind, Show, Assume}
use Rattle.isl_tree.specs.Expr.{statement_literals}
use Rattle.isl_kinds.specs.Parts.{Part, parts_of_statement}
use Rattle.isl_kinds.specs.Parts as part
use Rattle.isl_kinds.specs.Typed.{is_dollar}
use Rattle.isl_flat.specs.Flat.{dollar, flat}
use Rattle.isl_flat.specs.Simple.{bindings_of, last_of, BindFrom, IsSimple}
use Rattle.isl_flat_law.proofs.EachLaws.{Each, each_quiet, quiet_each}
use Rattle.isl_flat_law.proofs.KeptLaws.{IsSteady, flat_all, bindings_from}
use Rattle.isl_flat_law.proofs.LiteralLaws.{OfLiteral, each_literal, all_literals}

-- ---- the last, and those before it

pub flat_ends : (stmt : Stmt) → flat stmt ≡ bindings_of stmt ++ last_of stmt ∷ []
flat_ends Empty = refl
flat_ends (Bind name expr) = refl
flat_ends (Show expr) = refl
flat_ends (Assume set) = refl

-- ---- dollar names

same_rest : (a b : ℕ) (xs ys : List ℕ) → (a ∷ xs) ≡ (b ∷ ys) → xs ≡ ys
same_rest a b xs ys is = cc

pub dollar_injective : (m n : ℕ) → m < 2 ^ 64 → n < 2 ^ 64 → dollar m ≡ dollar n → m ≡ n
dollar_injective m n small few is = decimal_injective m n small few (same_rest 36 36 (decimal m) (decimal n) is)

pub dollar_is_dollar : (n : ℕ) → is_dollar (dollar n) ≡ true
dollar_is_dollar n = refl

-- ---- what a test passes

module _ (P : Part → Bool) (names : (n : Name) → P (part.name n) ≡ false) where
  -- what stands in no part of a statement stands in none of its simple statements
  pub parts_kept : (stmt : Stmt) → list_any P (parts_of_statement stmt) ≡ false
      → All (λ simple. list_any P (parts_of_statement simple) ≡ false) (flat stmt)
  parts_kept stmt none =
      flat_all (λ k p. P p ≡ false) (record { up = λ j k p low h. h; new = λ k. names (dollar k); blank = names [] })
      (λ simple. list_any P (parts_of_statement simple) ≡ false) refl
      (λ k name expr plain. quiet_each P (parts_of_statement (Bind name expr)) plain.0)
      (λ k expr plain. quiet_each P (parts_of_statement (Show expr)) plain.0)
      (λ set one. quiet_each P (parts_of_statement (Assume set)) (one, tt))
      stmt (each_quiet P (parts_of_statement stmt) none)

  -- what stands in a simple statement stands in the statement
  pub part_stands : (stmt : Stmt)
      → All (λ simple. list_any P (parts_of_statement simple) ≡ true → list_any P (parts_of_statement stmt) ≡ true) (flat stmt)
  part_stands stmt = by (list_any P (parts_of_statement stmt)) refl
    where
      by : (b : Bool) → list_any P (parts_of_statement stmt) ≡ b
          → All (λ simple. list_any P (parts_of_statement simple) ≡ true → b ≡ true) (flat stmt)
      by true is = λ i d low there. refl
      by false is = λ i d low there. absurd (false≢true (sym (parts_kept stmt is i d low) ∙ there))

-- ---- literals

-- what each literal of a statement has, each literal of its simple statements has
pub literals_kept : (R : Literal → Type 0) (stmt : Stmt) → All R (statement_literals stmt)
    → All (λ simple. All R (statement_literals simple)) (flat stmt)
literals_kept R stmt all =
    flat_all (λ k p. OfLiteral R p) (record { up = λ j k p low h. h; new = λ k. tt; blank = tt })
    (λ simple. All R (statement_literals simple))
    (all_literals R Empty tt) (λ k name expr plain. all_literals R (Bind name expr) plain.0)
    (λ k expr plain. all_literals R (Show expr) plain.0) (λ set one. all_literals R (Assume set) (one, tt)) stmt
    (each_literal R stmt all)

-- ---- shape and names

anything : (ps : List Part) → Each (λ p. Unit {0}) ps
anything [] = tt
anything (p ∷ ps) = (tt, anything ps)

always : IsSteady (λ k p. Unit {0})
always = record { up = λ j k p low h. h; new = λ k. tt; blank = tt }

-- `%` and `sample` stand outermost alone, and between names
pub flat_is_simple : (stmt : Stmt) → All IsSimple (flat stmt)
flat_is_simple stmt =
    flat_all (λ k p. Unit {0}) always IsSimple tt (λ k name expr plain. plain.1) (λ k expr plain. plain.1) (λ set one. tt) stmt
    (anything (parts_of_statement stmt))

-- each but the last binds the next dollar name
pub bindings_are_numbered : (stmt : Stmt) → BindFrom 1 (bindings_of stmt)
bindings_are_numbered stmt =
    bindings_from (λ k p. Unit {0}) always stmt (anything (parts_of_statement stmt))
