-- What parameter sets have by their grammar, and that what they divide by is at least 1.
use Rattle.std.proofs.Common.{ℕ, ◌∷◌, Option, Some, None}
use Rattle.std.specs.List.{All}
use Rattle.std.proofs.lemmas.List.Elements.{All-cons}
use Rattle.isl_token.specs.Spelling as s
use Rattle.isl_token.specs.Spelling.{Grammar}
use Rattle.isl_tree.specs.declared.tree.Formula.{Formula}
use Rattle.isl_tree.specs.declared.tree.PieceTree.{PieceTree}
use Rattle.isl_tree.specs.declared.tree.Literal.{Literal}
use Rattle.isl_tree.specs.Divisors.{formula_divisors, piece_divisors, ArePositive}
use Rattle.isl_formula.specs.FormulaGrammar.{formula}
use Rattle.isl_formula.proofs.SpelledLaws.{Has, whatever, pure_has, bind_has, then_has, either_has, many_has}
use Rattle.isl_formula.proofs.DivisorLaws.{none, formula_has}
use Rattle.isl_text.specs.Piece.{make_literal}
use Rattle.isl_text.specs.PsetGrammar as g

-- where each formula has F, each piece has what a piece of such a formula has
module _ (F : Formula → Type 0) (P : PieceTree → Type 0) (absent : P (g.condition_of None))
    (there : (held : Formula) → F held → P (g.condition_of (Some held))) (fl : Grammar Formula) (below : Has F fl) where
  Body : Option Formula → Type 0
  Body held = P (g.condition_of held)

  body_has : Has Body (s.◌∪◌ (s.pure None) (s.◌>>=◌ fl (λ f. s.pure (Some f))))
  unfolding Body
  body_has = either_has Body _ _ (pure_has Body None absent) (bind_has F Body _ _ below (λ f h. pure_has Body (Some f) (there f h)))

  condition_has : Has P (g.condition fl)
  unfolding Body
  condition_has = then_has P _ _ (bind_has Body P _ _ body_has (λ held h. pure_has P (g.condition_of held) h))

  pub pieces_have : Has (All P) (g.braces fl)
  pieces_have =
      then_has (All P) _ _ (bind_has (All P) (All P) _ _
      (bind_has P (All P) _ _ condition_has (λ first one. bind_has (All P) (All P) _ _ (many_has P _ (then_has P _ _ condition_has))
      (λ others more. pure_has (All P) (first ∷ others) (All-cons P first others one more))))
      (λ found all. then_has (All P) _ _ (pure_has (All P) found all)))

DivFormula : Formula → Type 0
DivFormula held = ArePositive (formula_divisors held)

DivPiece : PieceTree → Type 0
DivPiece piece = ArePositive (piece_divisors piece)

-- the divisors of a parameter set are at least 1
abbrev pub IsDivided : Literal → Type 0
IsDivided set = All (λ piece. ArePositive (piece_divisors piece)) set.pieces

pub outline_divided : (n : ℕ) → Has IsDivided (g.outline (formula n))
unfolding DivPiece DivFormula
outline_divided n =
    bind_has (λ _. Unit {0}) IsDivided _ _ (whatever _) (λ params _. bind_has (All DivPiece) IsDivided _ _
    (pieces_have DivFormula DivPiece none (λ held h. h) (formula n) (formula_has n))
    (λ found all. pure_has IsDivided (make_literal params found) all))
