-- Both laws for literals with the rules on names.
use Rattle.std.proofs.Common.{ℕ, cond, List, ◌++◌, Some, refl, ap, subst, ◌∙◌, inl}
use Rattle.std.proofs.Common.{inr}
use Rattle.isl_token.specs.TokenView.{Token}
use Rattle.isl_token.specs.Reading.{Parser, and_then}
use Rattle.isl_token.specs.Reading as r
use Rattle.isl_token.proofs.Taking.{Takes, and_then_some, same_read, chosen_reader}
use Rattle.isl_token.proofs.Again.{Again, always}
use Rattle.isl_tree.specs.declared.tree.Literal.{Literal}
use Rattle.isl_formula.specs.Formula.{formula}
use Rattle.isl_formula.specs.FormulaGrammar as formula_spell
use Rattle.isl_formula.proofs.FormulaTaken.{formula_is_taken}
use Rattle.isl_text.specs.Tuple.{tuple}
use Rattle.isl_text.specs.Piece.{outline}
use Rattle.isl_text.specs.LiteralGrammar as spell
use Rattle.isl_text.specs.Formed.{is_formed}
use Rattle.isl_text.specs.Literal.{literal, literal_grammar}
use Rattle.isl_text.proofs.LiteralTaken.{tuple_taken, outline_taken}
use Rattle.isl_text.proofs.LiteralAgain.{outline_again}

pub literal_taken : (n : ℕ) → Takes (literal n) (literal_grammar n)
unfolding literal
literal_taken n ts = record {
  by = λ a rest e.
      let x = and_then_some (outline (tuple n) (formula n) ts) (λ found. cond (is_formed found) (r.pure found) r.none) (a, rest) e in
      let c = (outline_taken (tuple n) (spell.tuple n) (tuple_taken n) (formula n) (formula_spell.formula n) (formula_is_taken n) ts).by
      x.0.0 x.0.1 x.1 in
      elim (chosen_reader (is_formed x.0.0) (r.pure x.0.0) r.none x.0.1 (Some (a, rest)) x.2) [
        | inl yes' ↦ let p = same_read x.0.0 a x.0.1 rest yes'.1 in
            (c.0, c.1 ∙ ap (λ (l : List Token). c.0 ++ l) p.1, subst (λ (v : Literal). literal_grammar n v c.0) p.0 (c.2, yes'.0))
        | inr no' ↦ absurd cc
      ];
}

pub literal_again : (n depth : ℕ) → Again n (literal n) (literal_grammar depth) always
unfolding literal
literal_again n depth = record { by = λ a us rest l lt stop. rw ((outline_again n depth).by a us rest l.0 lt stop, l.1) refl }
