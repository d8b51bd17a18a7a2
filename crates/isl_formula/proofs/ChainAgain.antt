-- What spells a chain of comparisons, or the names that `exists` binds, is read again.
use Rattle.std.proofs.Common.{◌≡◌, ℕ, ◌<◌, Bool, true, false, not, ◌&&◌, List, [], ◌∷◌, ◌++◌, length, Option, Some, refl, ap, inl, inr}
use Rattle.std.proofs.Common.{arith}
use Rattle.std.specs.Prelude.{is_some}
use Rattle.std.proofs.lemmas.Bool.{false≢true, not-true}
use Rattle.isl_token.specs.TokenView.{Token}
use Rattle.isl_token.specs.declared.token.Kind.{Kind}
use Rattle.isl_token.specs.declared.token.Kind.TheVariants as k
use Rattle.isl_token.specs.Token.{is_kind}
use Rattle.isl_token.specs.Reading.{Parser, head_kind, sees}
use Rattle.isl_token.specs.Reading as r
use Rattle.isl_token.specs.Spelling.{Grammar}
use Rattle.isl_token.specs.Spelling as s
use Rattle.isl_token.proofs.Again.{Stops, Again, Starts, Full, Items, always, again_map, again_bind, again_skip, again_pure, again_name}
use Rattle.isl_token.proofs.Again.{again_row, again_separated, follows_pure, follows_starts, follows_always, follows_bind, follows_many}
use Rattle.isl_token.proofs.Again.{starts_bind, starts_more, starts_word, starts_with, full_bind}
use Rattle.isl_tree.specs.declared.tree.Signed.{Signed}
use Rattle.isl_tree.specs.declared.tree.Compare.{Compare}
use Rattle.isl_tree.specs.declared.tree.Formula.TheVariants as f
use Rattle.isl_formula.specs.Chain as read
use Rattle.isl_formula.specs.FormulaGrammar as spell
use Rattle.isl_formula.proofs.TermEnds.{at, ends_term, begins_product}

-- what does not go on with a side, a chain, or each row of formulas
abbrev pub ends_side : Kind → Bool
ends_side k.Comma = false
ends_side kind = ends_term kind

abbrev pub ends_chain : Kind → Bool
ends_chain kind = not (is_some (read.compare_of kind)) && ends_side kind

abbrev pub ends_conj : Kind → Bool
ends_conj kind = not (is_kind kind k.And) && ends_chain kind

abbrev pub ends_disj : Kind → Bool
ends_disj kind = not (is_kind kind k.Or) && ends_conj kind

abbrev pub ends_formula : Kind → Bool
ends_formula kind = not (is_kind kind k.Implies) && ends_disj kind

pub right_of : (a b : Bool) → (a && b) ≡ true → b ≡ true
right_of true b e = e
right_of false b e = absurd (false≢true e)

pub left_of : (a b : Bool) → (a && b) ≡ true → a ≡ true
left_of true b e = refl
left_of false b e = absurd (false≢true e)

side_ends_term : (kind : Kind) → ends_side kind ≡ true → ends_term kind ≡ true
side_ends_term k.Comma e = refl
side_ends_term _ e = e

side_no_comma : (kind : Kind) → ends_side kind ≡ true → not (is_kind kind k.Comma) ≡ true
side_no_comma k.Comma e = e
side_no_comma _ e = refl

compare_ends_side : (kind : Kind) → is_some (read.compare_of kind) ≡ true → ends_side kind ≡ true
compare_ends_side k.Equal e = refl
compare_ends_side k.Less e = refl
compare_ends_side k.LessEqual e = refl
compare_ends_side k.Greater e = refl
compare_ends_side k.GreaterEqual e = refl
compare_ends_side k.Differs e = refl
compare_ends_side _ e = absurd (false≢true e)

some_of : (o : Option Compare) (c : Compare) → o ≡ Some c → is_some o ≡ true
some_of o c e = ap is_some e

-- ---- chains

comparison_again : (size : ℕ) → Again size read.comparison spell.comparison always
unfolding read.comparison
comparison_again size = record { by = λ c us rest l lt stop. rw (l.1, l.2) refl }

comparison_starts : Starts spell.comparison read.sees_compare
comparison_starts = record { by = λ c us rest l. rw (l.1, l.2) refl }

comparison_full : Full spell.comparison
comparison_full = record { by = λ c us l. omega (arith, ap length l.1) }

abbrev pub begins_term : Kind → Bool
begins_term k.Plus = true
begins_term k.Minus = true
begins_term kind = begins_product kind

module _ (size : ℕ) (p : Parser (List Signed)) (L : Grammar (List Signed)) (term : Again size p L (at ends_term)) where
  side_again : Again size (read.side p) (spell.side L) (at ends_side)
  side_again = again_separated size k.Comma p L (at ends_term) term
      (starts_bind (s.word k.Comma) _ (at ends_term) (starts_word k.Comma ends_term refl))
      (at ends_side) (λ rest stop. (not-true _ (side_no_comma (head_kind rest) stop), side_ends_term (head_kind rest) stop))

  link_again : Again size (read.link p) (spell.link L) (at ends_side)
  unfolding read.link
  link_again = again_bind size read.comparison _ spell.comparison _ always (at ends_side) (comparison_again size)
      (λ c. again_bind size (read.side p) _ (spell.side L) _ (at ends_side) (at ends_side) side_again
      (λ right. again_pure size _ (at ends_side)) (λ right. follows_pure _ (at ends_side) (at ends_side) (λ rest e. e)))
      (λ c. follows_always _ (at ends_side))

  link_starts : Starts (spell.link L) read.sees_compare
  link_starts = starts_bind spell.comparison _ read.sees_compare comparison_starts

  link_follows : Starts (spell.link L) (at ends_side)
  link_follows = starts_more _ read.sees_compare (at ends_side) link_starts (λ ts e. compare_ends_side (head_kind ts) e)

  link_items : Items read.sees_compare (spell.link L) (at ends_side)
  link_items = record { starts = link_starts; follows = link_follows; some = full_bind spell.comparison _ comparison_full }

  pub chain_again : Again size (read.chain p) (spell.chain L) (at ends_chain)
  unfolding read.chain
  chain_again = again_bind size (read.side p) _ (spell.side L) _ (at ends_side) (at ends_chain) side_again
      (λ first. again_bind size (read.link p) _ (spell.link L) _ (at ends_side) (at ends_chain) link_again
      (λ second. again_row size read.sees_compare (read.link p) (spell.link L) (at ends_side) link_items link_again (second ∷ [])
      _ _ (at ends_chain)
      (λ links. again_pure size (f.Chain first links) (at ends_chain))
      (λ links. follows_pure _ (at ends_chain) (λ ts. not (read.sees_compare ts)) (λ rest e. left_of _ _ e))
      (λ links. follows_pure _ (at ends_chain) (at ends_side) (λ rest e. right_of _ _ e)))
      (λ second. follows_bind (follows_many link_follows (λ rest e. right_of _ _ e))
      (λ links. follows_pure _ (at ends_chain) (at ends_chain) (λ rest e. e))))
      (λ first. follows_starts (at ends_chain) (starts_bind (spell.link L) _ (at ends_side) link_follows))

  -- ---- binders

  abbrev ends_binder : Kind → Bool
  ends_binder kind = not (is_kind kind k.Equal) && ends_term kind

  -- a term after `=`
  bound_again : Again size (r.after_sign p) (s.◌>>◌ (s.word k.Equal) L) (at ends_term)
  unfolding r.after_sign
  bound_again = record {
    by = λ a us rest l lt stop. (again_skip k.Equal size (λ _. p) (λ _. L) (at ends_term) (λ _. term)).by a us rest l
        (omega arith) stop;
  }

  abbrev given : Grammar (Option (List Signed))
  given = s.◌>>=◌ (s.◌>>◌ (s.word k.Equal) L) (λ t. s.pure (Some t))

  given_again : Again size (r.◌>>=◌ (r.after_sign p) (λ t. r.pure (Some t))) given (at ends_term)
  given_again = again_map size (r.after_sign p) (s.◌>>◌ (s.word k.Equal) L) (λ t. Some t) (at ends_term) bound_again

  equal_starts : Starts given (sees k.Equal)
  equal_starts = starts_bind _ _ (sees k.Equal) (starts_with k.Equal _)

  value_read : (a : Option (List Signed)) (us rest : List Token) → (spell.value L) a us → length us < size → at ends_binder rest ≡ true
      → read.value p (us ++ rest) ≡ Some (a, rest)
  value_read a us rest (inl l) lt stop = rw (equal_starts.by a us rest l) (given_again.by a us rest l lt (right_of _ _ stop))
  value_read a us rest (inr l) lt stop = rw (l.1, not-true (sees k.Equal rest) (left_of _ _ stop), l.0) refl

  value_again : Again size (read.value p) (spell.value L) (at ends_binder)
  value_again = record { by = λ a us rest l lt stop. value_read a us rest l lt stop }

  binder_again : Again size (read.binder p) (spell.binder L) (at ends_binder)
  unfolding read.binder
  binder_again = again_bind size r.name _ s.name _ always (at ends_binder) (again_name size)
      (λ bound. again_bind size (read.value p) _ (spell.value L) _ (at ends_binder) (at ends_binder) value_again
      (λ held. again_pure size _ (at ends_binder)) (λ held. follows_pure _ (at ends_binder) (at ends_binder) (λ rest e. e)))
      (λ bound. follows_always _ (at ends_binder))

  -- the colon is next
  abbrev colon : Stops
  colon = sees k.Colon

  colon_is : (kind : Kind) → is_kind kind k.Colon ≡ true → (ends_binder kind ≡ true) × (is_kind kind k.Comma ≡ false)
  colon_is k.Colon e = (refl, refl)
  colon_is _ e = absurd (false≢true e)

  pub binders_again : Again size (read.binders p) (spell.binders L) colon
  binders_again = again_separated size k.Comma (read.binder p) (spell.binder L) (at ends_binder) binder_again
      (starts_bind (s.word k.Comma) _ (at ends_binder) (starts_word k.Comma ends_binder refl))
      colon (λ rest stop. ((colon_is (head_kind rest) stop).1, (colon_is (head_kind rest) stop).0))
