-- A formula holds a mark.
use Rattle.std.proofs.Common.{◌≡◌, ℕ, zero, suc, Bool, true, false, List, Some, refl}
use Rattle.isl_token.specs.declared.token.Kind.{Kind}
use Rattle.isl_token.specs.declared.token.Kind.TheVariants as k
use Rattle.isl_token.specs.Token.{kind_of}
use Rattle.isl_token.specs.Spelling.{Grammar}
use Rattle.isl_token.specs.Spelling as s
use Rattle.isl_tree.specs.declared.tree.Signed.{Signed}
use Rattle.isl_tree.specs.declared.tree.Compare.{Compare}
use Rattle.isl_tree.specs.declared.tree.Formula.{Formula}
use Rattle.isl_tree.specs.declared.tree.Formula.TheVariants as g
use Rattle.isl_formula.specs.declared.ahead.Mark.TheVariants as mark
use Rattle.isl_formula.specs.Ahead.{mark_step, holds}
use Rattle.isl_formula.specs.Chain.{compare_of}
use Rattle.isl_formula.specs.TermGrammar as term_spell
use Rattle.isl_formula.specs.FormulaGrammar as spell
use Rattle.isl_formula.proofs.Marks.{Clear, Marked, clear_pure, clear_bind, clear_many, clear_word, marked_word, marked_bind, marked_later}
use Rattle.isl_formula.proofs.Marks.{marked_either, marked_brackets}
use Rattle.isl_formula.proofs.TermMarks.{term_clear}

compare_mark : (kind : Kind) (c : Compare) → compare_of kind ≡ Some c → (level : ℕ) (go : ℕ → Bool)
    → mark_step mark.Formula kind level go ≡ true
compare_mark k.Equal c e level go = refl
compare_mark k.Less c e level go = refl
compare_mark k.LessEqual c e level go = refl
compare_mark k.Greater c e level go = refl
compare_mark k.GreaterEqual c e level go = refl
compare_mark k.Differs c e level go = refl
compare_mark _ c e level go = absurd cc

comparison_marked : Marked mark.Formula spell.comparison
unfolding holds
comparison_marked = record { by = λ c us rest level l. rw l.1 (compare_mark (kind_of l.0) c l.2 level (holds mark.Formula rest)) }

rows_marked : (sep : Kind) (make : List Formula → Formula) (L : Bool → Grammar Formula) → ((b : Bool) → Marked mark.Formula (L b))
    → (b : Bool) → Marked mark.Formula (spell.rows sep make L b)
rows_marked sep make L h b = marked_either mark.Formula (h b) (marked_bind mark.Formula (h false))

pub formula_marked : (L : Bool → Grammar Formula) → ((b : Bool) → Marked mark.Formula (L b)) → (b : Bool)
    → Marked mark.Formula (spell.formula_with L b)
formula_marked L h = rows_marked k.Implies g.Implies (spell.disj L) (rows_marked k.Or g.Or (spell.conj L) (rows_marked k.And g.And L h))

module _ (tl : Grammar (List Signed)) (term : Clear mark.Formula tl) (L : Bool → Grammar Formula)
    (nested : (b : Bool) → Marked mark.Formula (L b)) where
  side_clear : Clear mark.Formula (spell.side tl)
  side_clear = clear_bind mark.Formula term (λ first. clear_bind mark.Formula
      (clear_many mark.Formula (clear_bind mark.Formula (clear_word mark.Formula k.Comma (λ d go. refl)) (λ _. term)))
      (λ others. clear_pure mark.Formula _))

  chain_marked : Marked mark.Formula (spell.chain tl)
  chain_marked = marked_later mark.Formula side_clear (λ first. marked_bind mark.Formula (marked_bind mark.Formula comparison_marked))

  exists_marked : Marked mark.Formula (s.word k.Exists)
  exists_marked = marked_word mark.Formula k.Exists (λ d go. refl)

  closed_marked : (b : Bool) → Marked mark.Formula (spell.closed tl L b)
  closed_marked b = marked_either mark.Formula (marked_bind mark.Formula (marked_word mark.Formula k.Not (λ d go. refl)))
      (marked_either mark.Formula (marked_brackets mark.Formula k.Open (λ d go. refl)
      (marked_bind mark.Formula (formula_marked L nested true)))
      (marked_either mark.Formula (marked_either mark.Formula (marked_bind mark.Formula (marked_word mark.Formula k.True (λ d go. refl)))
      (marked_bind mark.Formula (marked_word mark.Formula k.False (λ d go. refl))))
      (marked_either mark.Formula chain_marked (marked_bind mark.Formula exists_marked))))

  level_marked : (b : Bool) → Marked mark.Formula (spell.unary_level tl L b)
  level_marked false = closed_marked false
  level_marked true = marked_either mark.Formula (closed_marked true) (marked_bind mark.Formula exists_marked)

pub unary_marked : (n : ℕ) (b : Bool) → Marked mark.Formula (spell.unary n b)
unfolding spell.unary
unary_marked zero b = record { by = λ a us rest level l. absurd l }
unary_marked (suc n) b = level_marked (term_spell.term (suc n)) (term_clear mark.Formula (suc n)) (spell.unary n) (unary_marked n) b
