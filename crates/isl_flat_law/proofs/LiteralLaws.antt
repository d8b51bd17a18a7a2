-- The literals of an expression are among its parts.
use mathlib.Core.Former.{Count}
use Rattle.std.proofs.Common.{◌≡◌, ◌∙◌, List, [], ◌∷◌, ◌++◌, refl, sym, ap, ap₂, subst}
use Rattle.std.specs.List.{All}
use Rattle.std.proofs.lemmas.List.Elements.{All-nil, All-cons, All-head, All-tail}
use Rattle.isl_tree.specs.declared.tree.Literal.{Literal}
use Rattle.isl_tree.specs.declared.statement.Stmt.{Stmt}
use Rattle.isl_tree.specs.declared.statement.Stmt.TheVariants.{Empty, Bind, Show, Assume}
use Rattle.isl_tree.specs.declared.statement.Postfix.{Postfix, Inverse, Apply, Item}
use Rattle.isl_tree.specs.declared.statement.Expr as e
use Rattle.isl_tree.specs.declared.statement.Expr.{Expr, Row', Prefix', Any', Last', Post', Row_of-Expr, end_of-Expr, more_of-Expr}
use Rattle.isl_tree.specs.declared.statement.Expr.{Row_of-Link, end_of-Link, more_of-Link, Row_of-Postfix, end_of-Postfix, more_of-Postfix}
use Rattle.isl_tree.specs.Expr.{literals_of, literals_in, literals_in_links, literals_in_postfixes, literals_in_postfix, statement_literals}
use Rattle.isl_kinds.specs.Parts.{Part, parts_of, parts_in, parts_in_links, parts_in_postfixes, parts_of_postfix, parts_of_statement}
use Rattle.isl_kinds.specs.Parts as part
use Rattle.isl_flat_law.proofs.EachLaws.{Each}

abbrev pub literals_among : List Part → List Literal
literals_among [] = []
literals_among (part.literal l ∷ ps) = l ∷ literals_among ps
literals_among (_ ∷ ps) = literals_among ps

among-append : (ps qs : List Part) → literals_among (ps ++ qs) ≡ literals_among ps ++ literals_among qs
among-append [] qs = refl
among-append (part.literal l ∷ ps) qs = ap (λ (ls : List Literal). l ∷ ls) (among-append ps qs)
among-append (_ ∷ ps) qs = among-append ps qs

both : (ps qs : List Part) (ls ms : List Literal) → literals_among ps ≡ ls → literals_among qs ≡ ms → literals_among (ps ++ qs) ≡ ls ++ ms
both ps qs ls ms left right = among-append ps qs ∙ ap₂ (λ (a b : List Literal). a ++ b) left right

mutual
  pub among_is : (expr : Expr) → literals_among (parts_of expr) ≡ literals_of expr
  among_is (e.Name name) = refl
  among_is (e.Literal literal) = refl
  among_is (Row' s first t links) =
      both (parts_in first) (parts_in_links links) (literals_in first) (literals_in_links links) (among_in _ first) (among_in_links _ links)
  among_is (Prefix' word s operand) = among_in _ operand
  among_is (Any' r source s sink t schedule) =
      both (parts_in source) (parts_in sink ++ parts_in schedule) (literals_in source) (literals_in sink ++ literals_in schedule)
      (among_in _ source)
      (both (parts_in sink) (parts_in schedule) (literals_in sink) (literals_in schedule) (among_in _ sink) (among_in _ schedule))
  among_is (Last' r source s sink t schedule) =
      both (parts_in source) (parts_in sink ++ parts_in schedule) (literals_in source) (literals_in sink ++ literals_in schedule)
      (among_in _ source)
      (both (parts_in sink) (parts_in schedule) (literals_in sink) (literals_in schedule) (among_in _ sink) (among_in _ schedule))
  among_is (Post' s operand t postfixes) =
      both (parts_in operand) (parts_in_postfixes postfixes) (literals_in operand) (literals_in_postfixes postfixes) (among_in _ operand)
      (among_in_postfixes _ postfixes)

  among_in : (m : Count) (row : Row_of-Expr m) → literals_among (parts_in row) ≡ literals_in row
  among_in m end_of-Expr = refl
  among_in m (more_of-Expr expr rest) = among_is expr

  among_in_links : (m : Count) (row : Row_of-Link m) → literals_among (parts_in_links row) ≡ literals_in_links row
  among_in_links m end_of-Link = refl
  among_in_links m (more_of-Link operator operand rest) =
      both (parts_of operand) (parts_in_links rest) (literals_of operand) (literals_in_links rest) (among_is operand)
      (among_in_links _ rest)

  among_in_postfixes : (m : Count) (row : Row_of-Postfix m) → literals_among (parts_in_postfixes row) ≡ literals_in_postfixes row
  among_in_postfixes m end_of-Postfix = refl
  among_in_postfixes m (more_of-Postfix postfix rest) =
      both (parts_of_postfix postfix) (parts_in_postfixes rest) (literals_in_postfix postfix) (literals_in_postfixes rest)
      (among_in_postfix postfix) (among_in_postfixes _ rest)

  among_in_postfix : (postfix : Postfix) → literals_among (parts_of_postfix postfix) ≡ literals_in_postfix postfix
  among_in_postfix Inverse = refl
  among_in_postfix (Apply argument) = among_is argument
  among_in_postfix (Item number) = refl

among_statement : (stmt : Stmt) → literals_among (parts_of_statement stmt) ≡ statement_literals stmt
among_statement Empty = refl
among_statement (Bind name expr) = among_is expr
among_statement (Show expr) = among_is expr
among_statement (Assume set) = refl

-- a part that is a literal has what is said of literals
abbrev pub OfLiteral : (Literal → Type 0) → Part → Type 0
OfLiteral R (part.literal l) = R l
OfLiteral R _ = Unit {0}

module _ (R : Literal → Type 0) where
  each_among : (ps : List Part) → All R (literals_among ps) → Each (OfLiteral R) ps
  each_among [] all = tt
  each_among (part.literal l ∷ ps) all = (All-head R l (literals_among ps) all, each_among ps (All-tail R l (literals_among ps) all))
  each_among (_ ∷ ps) all = (tt, each_among ps all)

  all_among : (ps : List Part) → Each (OfLiteral R) ps → All R (literals_among ps)
  all_among [] each = All-nil R
  all_among (part.literal l ∷ ps) each = All-cons R l (literals_among ps) each.0 (all_among ps each.1)
  all_among (_ ∷ ps) each = all_among ps each.1

  pub each_literal : (stmt : Stmt) → All R (statement_literals stmt) → Each (OfLiteral R) (parts_of_statement stmt)
  each_literal stmt all = each_among (parts_of_statement stmt) (subst (All R) (sym (among_statement stmt)) all)

  pub all_literals : (stmt : Stmt) → Each (OfLiteral R) (parts_of_statement stmt) → All R (statement_literals stmt)
  all_literals stmt each = subst (All R) (among_statement stmt) (all_among (parts_of_statement stmt) each)
