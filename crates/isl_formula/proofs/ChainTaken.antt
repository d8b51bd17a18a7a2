-- A chain of comparisons that is read is spelled so, and names that `exists` binds.
use Rattle.std.proofs.Common.{◌≡◌, true, List, [], ◌∷◌, Option, Some, None, refl, ap, ◌∙◌}
use Rattle.isl_token.specs.TokenView.{Token}
use Rattle.isl_token.specs.declared.token.Kind.TheVariants as k
use Rattle.isl_token.specs.Token.{kind_of}
use Rattle.isl_token.specs.Reading.{Parser, sees}
use Rattle.isl_token.specs.Reading as r
use Rattle.isl_token.specs.Spelling.{Grammar}
use Rattle.isl_token.specs.Spelling as s
use Rattle.isl_token.proofs.Taking.{TakesAt, Takes, takes_pure, takes_none, takes_bind, takes_map, takes_seen, takes_name, takes_row}
use Rattle.isl_token.proofs.Taking.{takes_separated, takes_test, same_read}
use Rattle.isl_tree.specs.declared.tree.Signed.{Signed}
use Rattle.isl_tree.specs.declared.tree.Compare.{Compare}
use Rattle.isl_tree.specs.declared.tree.Formula.TheVariants as f
use Rattle.isl_formula.specs.Chain as read
use Rattle.isl_formula.specs.FormulaGrammar as spell

compare_by_taken : (t : Token) (ts : List Token) (o : Option Compare) → read.compare_of (kind_of t) ≡ o
    → TakesAt (t ∷ ts) (read.compare_by o) spell.comparison
compare_by_taken t ts None e = takes_none (t ∷ ts) spell.comparison
compare_by_taken t ts (Some c) e = record {
  by = λ a rest h. let p = same_read c a ts rest h in
      (t ∷ [], ap (λ (l : List Token). t ∷ l) p.1, (t, refl, e ∙ ap (λ x. Some x) p.0));
}

comparison_taken : Takes read.comparison spell.comparison
unfolding read.comparison
comparison_taken [] = record { by = λ a rest h. absurd cc }
comparison_taken (t ∷ ts) = record { by = λ a rest h. (compare_by_taken t ts (read.compare_of (kind_of t)) refl).by a rest h }

module _ (p : Parser (List Signed)) (L : Grammar (List Signed)) (term : Takes p L) where
  side_taken : Takes (read.side p) (spell.side L)
  side_taken = takes_separated k.Comma (λ h. cc) p L term

  link_taken : Takes (read.link p) (spell.link L)
  unfolding read.link
  link_taken ts = takes_bind read.comparison _ spell.comparison _ ts (comparison_taken ts)
      (λ c. takes_map (read.side p) (spell.side L) (λ right. (c, right)) side_taken)

  pub chain_taken : Takes (read.chain p) (spell.chain L)
  unfolding read.chain
  chain_taken ts = takes_bind (read.side p) _ (spell.side L) _ ts (side_taken ts) (λ first. λ us.
      takes_bind (read.link p) _ (spell.link L) _ us (link_taken us) (λ second.
      takes_row read.sees_compare (read.link p) (spell.link L) (λ vs h. link_taken vs) (second ∷ [])
      _ _ (λ links. takes_pure (f.Chain first links))))

  -- a term after `=`
  bound_taken : (ts : List Token) → sees k.Equal ts ≡ true → TakesAt ts (r.after_sign p) (s.◌>>◌ (s.word k.Equal) L)
  unfolding r.after_sign
  bound_taken = takes_seen k.Equal (λ h. cc) (λ _. p) (λ _. L) (λ _. term)

  value_taken : Takes (read.value p) (spell.value L)
  value_taken ts = record {
    by = takes_test (sees k.Equal ts) _ _ ts _ (s.pure None)
        (λ seen a rest e. (takes_bind (r.after_sign p) _ (s.◌>>◌ (s.word k.Equal) L) _ ts (bound_taken ts seen)
        (λ t. takes_pure (Some t))).by a rest e)
        (λ _ a rest e. (takes_pure None ts).by a rest e);
  }

  binder_taken : Takes (read.binder p) (spell.binder L)
  unfolding read.binder
  binder_taken ts = takes_bind r.name _ s.name _ ts (takes_name ts)
      (λ bound. takes_map (read.value p) (spell.value L) (λ held. record { name = bound; value = held }) value_taken)

  pub binders_taken : Takes (read.binders p) (spell.binders L)
  binders_taken = takes_separated k.Comma (λ h. cc) (read.binder p) (spell.binder L) binder_taken
