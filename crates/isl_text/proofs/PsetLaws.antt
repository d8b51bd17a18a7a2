-- Both laws for parameter sets with the rule on names.
use Rattle.std.proofs.Common.{ℕ, cond, List, ◌++◌, Some, refl, ap, subst, ◌∙◌, inl}
use Rattle.std.proofs.Common.{inr}
use Rattle.isl_token.specs.TokenView.{Token}
use Rattle.isl_token.specs.Reading.{Parser, and_then}
use Rattle.isl_token.specs.Reading as r
use Rattle.isl_token.proofs.Taking.{Takes, and_then_some, same_read, chosen_reader}
use Rattle.isl_token.proofs.Again.{Again, always}
use Rattle.isl_tree.specs.declared.tree.Literal.{Literal}
use Rattle.isl_formula.specs.Formula.{formula}
use Rattle.isl_formula.specs.FormulaGrammar as formula_spell
use Rattle.isl_formula.proofs.FormulaTaken.{formula_is_taken}
use Rattle.isl_text.specs.Formed.{is_formed}
use Rattle.isl_text.specs.Pset.{outline, pset}
use Rattle.isl_text.specs.PsetGrammar.{pset_grammar}
use Rattle.isl_text.proofs.PsetAgain.{outline_again}
use Rattle.isl_text.proofs.PsetTaken.{outline_taken}

pub pset_taken : (n : ℕ) → Takes (pset n) (pset_grammar n)
unfolding pset
pset_taken n ts = record {
  by = λ a rest e.
      let x = and_then_some (outline (formula n) ts) (λ found. cond (is_formed found) (r.pure found) r.none) (a, rest) e in
      let c = (outline_taken (formula n) (formula_spell.formula n) (formula_is_taken n) ts).by
      x.0.0 x.0.1 x.1 in
      elim (chosen_reader (is_formed x.0.0) (r.pure x.0.0) r.none x.0.1 (Some (a, rest)) x.2) [
        | inl yes' ↦ let p = same_read x.0.0 a x.0.1 rest yes'.1 in
            (c.0, c.1 ∙ ap (λ (l : List Token). c.0 ++ l) p.1, subst (λ (v : Literal). pset_grammar n v c.0) p.0 (c.2, yes'.0))
        | inr no' ↦ absurd cc
      ];
}

pub pset_again : (n depth : ℕ) → Again n (pset n) (pset_grammar depth) always
unfolding pset
pset_again n depth = record { by = λ a us rest l lt stop. rw ((outline_again n depth).by a us rest l.0 lt stop, l.1) refl }
