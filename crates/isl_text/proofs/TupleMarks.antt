-- What a look ahead for `->` sees in tuples.
use Rattle.std.proofs.Common.{◌≡◌, ℕ, zero, suc, true, List, [], ◌++◌, Option, Some, None, refl, ◌∙◌, inl, inr}
use Rattle.std.proofs.Common.{append_assoc}
use Rattle.isl_token.specs.TokenView.{Token}
use Rattle.isl_token.specs.declared.token.Kind.TheVariants as k
use Rattle.isl_token.specs.Token.{Text}
use Rattle.isl_token.specs.Spelling.{Grammar}
use Rattle.isl_token.specs.Spelling as s
use Rattle.isl_tree.specs.declared.tree.Signed.{Signed}
use Rattle.isl_tree.specs.declared.tree.Tuple.{Tuple}
use Rattle.isl_tree.specs.declared.tree.Tuple.TheVariants.{Leaf, Pair}
use Rattle.isl_formula.specs.declared.ahead.Mark.TheVariants.{Arrow}
use Rattle.isl_formula.specs.Ahead.{holds}
use Rattle.isl_formula.specs.TermGrammar as term_spell
use Rattle.isl_formula.proofs.Marks.{Clear, Closes, Marked, clear_pure, clear_bind, clear_map, clear_either, clear_many, clear_word}
use Rattle.isl_formula.proofs.Marks.{clear_name, closes_end, closes_bind, clear_brackets, marked_word, marked_bind, marked_brackets}
use Rattle.isl_formula.proofs.TermMarks.{term_clear}
use Rattle.isl_text.specs.LiteralGrammar as spell

-- what stands behind is seen through
pub record Through {A : Type 0} (L : Grammar A) : Type 0 where
  pub by : (a : A) (us rest : List Token) (level : ℕ) → L a us → holds Arrow rest level ≡ true → holds Arrow (us ++ rest) level ≡ true

through_clear : {A : Type 0} {L : Grammar A} → Clear Arrow L → Through L
through_clear h = record { by = λ a us rest level l seen. h.by a us rest level l ∙ seen }

through_marked : {A : Type 0} {L : Grammar A} → Marked Arrow L → Through L
through_marked h = record { by = λ a us rest level l seen. h.by a us rest level l }

through_either : {A : Type 0} {L M : Grammar A} → Through L → Through M → Through (s.◌∪◌ L M)
through_either h k = record {
  by = λ a us rest level l seen. elim l [ inl x ↦ h.by a us rest level x seen | inr y ↦ k.by a us rest level y seen ];
}

marked_behind : {A B : Type 0} {L : Grammar A} {M : A → Grammar B} → Through L → ((a : A) → Marked Arrow (M a)) → Marked Arrow (s.◌>>=◌ L M)
marked_behind h k = record {
  by = λ b ts rest level l. rw (l.3, append_assoc l.1 l.2 rest) (h.by l.0 l.1 (l.2 ++ rest) level l.4 ((k l.0).by b l.2 rest level l.5));
}

module _ (L : Grammar (List Signed)) (term : Clear Arrow L) where
  entry_clear : Clear Arrow (spell.entry L)
  entry_clear = clear_either Arrow (clear_bind Arrow (clear_name Arrow)
      (λ new. clear_bind Arrow (clear_word Arrow k.Equal (λ d go. refl)) (λ _. clear_map Arrow _ term))) (clear_map Arrow _ term)

  entries_clear : Clear Arrow (s.◌∪◌ (s.pure []) (spell.entry_row L))
  entries_clear = clear_either Arrow (clear_pure Arrow [])
      (clear_bind Arrow entry_clear
      (λ first. clear_map Arrow _ (clear_many Arrow (clear_bind Arrow (clear_word Arrow k.Comma (λ d go. refl)) (λ _. entry_clear)))))

  -- what stands in the brackets of a leaf
  pub leaf_closes : (title : Option Text) → Closes Arrow
      (s.◌>>=◌ (s.◌∪◌ (s.pure []) (spell.entry_row L)) (λ found. s.◌>>◌ (s.word k.CloseSquare) (s.pure (Leaf title found))))
  leaf_closes title = closes_bind Arrow entries_clear (λ found. closes_end Arrow k.CloseSquare (λ d go. refl) (λ go. refl) _)

  leaf_clear : (title : Option Text) → Clear Arrow (spell.leaf L title)
  leaf_clear title = clear_brackets Arrow k.OpenSquare (λ d go. refl) (leaf_closes title)

  module _ (M : Grammar Tuple) (nested : Through M) where
    -- what stands in the brackets of a pair
    pub inside_marked : Marked Arrow (s.◌>>=◌ M (λ first. s.◌>>◌ (s.word k.Arrow)
        (s.◌>>=◌ M (λ second. s.◌>>◌ (s.word k.CloseSquare) (s.pure (Pair first second))))))
    inside_marked = marked_behind nested (λ first. marked_bind Arrow (marked_word Arrow k.Arrow (λ d go. refl)))

    level_through : Through (spell.tuple_level L M)
    level_through = through_either (through_clear (clear_bind Arrow (clear_name Arrow) (λ title. leaf_clear (Some title))))
        (through_either (through_clear (leaf_clear None))
        (through_marked (marked_brackets Arrow k.OpenSquare (λ d go. refl) inside_marked)))

pub tuple_through : (n : ℕ) → Through (spell.tuple n)
unfolding spell.tuple
tuple_through zero = record { by = λ a us rest level l seen. absurd l }
tuple_through (suc n) = level_through (term_spell.term (suc n)) (term_clear Arrow (suc n)) (spell.tuple n) (tuple_through n)
