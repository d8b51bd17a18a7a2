-- A literal that is read is spelled so.
use Rattle.std.proofs.Common.{◌≡◌, ℕ, zero, suc, Bool, true, cond, List, [], ◌++◌, Option, Some, None, inl, inr}
use Rattle.isl_token.specs.TokenView.{Token}
use Rattle.isl_token.specs.declared.token.Kind.TheVariants as k
use Rattle.isl_token.specs.Token.{Text, is_kind}
use Rattle.isl_token.specs.Reading.{Parser, head_kind, sees}
use Rattle.isl_token.specs.Reading as r
use Rattle.isl_token.specs.Spelling.{Grammar}
use Rattle.isl_token.specs.Spelling as s
use Rattle.isl_token.proofs.Taking.{TakesAt, Takes, takes_pure, takes_none, takes_bind, takes_map, takes_past, takes_seen, takes_after}
use Rattle.isl_token.proofs.Taking.{takes_end, takes_or_left, takes_or_right, takes_peek, takes_if, takes_name, takes_separated, takes_test}
use Rattle.isl_tree.specs.declared.tree.Signed.{Signed}
use Rattle.isl_tree.specs.declared.tree.Formula.{Formula}
use Rattle.isl_tree.specs.declared.tree.Entry.TheVariants.{Plain, Named}
use Rattle.isl_tree.specs.declared.tree.Tuple.{Tuple}
use Rattle.isl_tree.specs.declared.tree.Tuple.TheVariants.{Leaf, Pair}
use Rattle.isl_formula.specs.declared.ahead.Mark.TheVariants as mark
use Rattle.isl_formula.specs.Ahead.{begins}
use Rattle.isl_formula.specs.Term as terms
use Rattle.isl_formula.specs.TermGrammar as term_spell
use Rattle.isl_formula.proofs.OpenBrackets.{begins_bracket}
use Rattle.isl_formula.proofs.TermTaken.{term_taken}
use Rattle.isl_text.specs.Tuple as read
use Rattle.isl_text.specs.Piece as pieces
use Rattle.isl_text.specs.LiteralGrammar as spell

-- what a row is, where the first item may be missing
takes_unless : {A : Type 0} (b : Bool) (p : Parser (List A)) (L : Grammar (List A)) (ts : List Token) → Takes p L
    → (a : List A) (rest : List Token) → cond b (Some ([], ts)) (p ts) ≡ Some (a, rest)
    → (us : List Token) × (ts ≡ us ++ rest) × (s.◌∪◌ (s.pure []) L) a us
takes_unless b p L ts h = takes_test b _ _ ts (s.pure []) L (λ _ a rest e. (takes_pure [] ts).by a rest e)
    (λ _ a rest e. (h ts).by a rest e)

-- ---- tuples

module _ (p : Parser (List Signed)) (L : Grammar (List Signed)) (term : Takes p L) where
  named_taken : Takes (read.named_entry p) (spell.named_entry L)
  unfolding read.named_entry
  named_taken ts = takes_bind r.name _ s.name _ ts (takes_name ts)
      (λ new. takes_after k.Equal (λ h. cc) _ _ (λ _. takes_map p L (Named new) term))

  plain_taken : Takes (read.plain_entry p) (spell.plain_entry L)
  unfolding read.plain_entry
  plain_taken = takes_map p L Plain term

  entry_taken : Takes (read.entry p) (spell.entry L)
  entry_taken ts = record {
    by = takes_test (read.sees_named ts) _ _ ts (spell.named_entry L) (spell.plain_entry L)
        (λ _ a rest e. (named_taken ts).by a rest e) (λ _ a rest e. (plain_taken ts).by a rest e);
  }

  entry_row_taken : Takes (read.entry_row p) (spell.entry_row L)
  entry_row_taken = takes_separated k.Comma (λ h. cc) (read.entry p) (spell.entry L) entry_taken

  entries_taken : Takes (read.entries p) (s.◌∪◌ (s.pure []) (spell.entry_row L))
  entries_taken ts = record { by = takes_unless (sees k.CloseSquare ts) (read.entry_row p) (spell.entry_row L) ts entry_row_taken }

  leaf_taken : (title : Option Text) → Takes (read.leaf p title) (spell.leaf L title)
  unfolding read.leaf
  leaf_taken title = takes_after k.OpenSquare (λ h. cc)
      _ _ (λ _. λ ts. takes_bind (read.entries p) _ (s.◌∪◌ (s.pure []) (spell.entry_row L)) _ ts (entries_taken ts)
      (λ found. takes_end k.CloseSquare (λ h. cc) (Leaf title found)))

  named_leaf_taken : Takes (read.named_leaf p) (spell.named_leaf L)
  unfolding read.named_leaf
  named_leaf_taken ts = takes_bind r.name _ s.name _ ts (takes_name ts) (λ title. leaf_taken (Some title))

  module _ (q : Parser Tuple) (M : Grammar Tuple) (nested : Takes q M) where
    pair_taken : (ts : List Token) → head_kind ts ≡ k.OpenSquare → TakesAt ts (r.◌>>◌ r.skip (read.pair p q)) (spell.pair L M)
    unfolding read.pair
    pair_taken = takes_past k.OpenSquare (λ h. cc)
        _ _ (λ _. λ ts. takes_bind q _ M _ ts (nested ts) (λ first. takes_after k.Arrow (λ h. cc) _ _ (λ _. λ us.
        takes_bind q _ M _ us (nested us) (λ second. takes_end k.CloseSquare (λ h. cc) (Pair first second)))))

    unnamed_taken : Takes (read.unnamed p q) (s.◌∪◌ (spell.leaf L None) (spell.pair L M))
    unnamed_taken ts = record {
      by = λ a rest e. other (takes_test (begins k.OpenSquare mark.Arrow ts) _ _ ts (spell.pair L M) (spell.leaf L None)
          (λ seen a rest e. (pair_taken ts (begins_bracket k.OpenSquare mark.Arrow ts seen)).by a rest e)
          (λ _ a rest e. (leaf_taken None ts).by a rest e) a rest e);
    }
      where
        other : {a : Tuple} {rest : List Token} → (us : List Token) × (ts ≡ us ++ rest) × (s.◌∪◌ (spell.pair L M) (spell.leaf L None)) a us
            → (us : List Token) × (ts ≡ us ++ rest) × (s.◌∪◌ (spell.leaf L None) (spell.pair L M)) a us
        other (us, e, inl l) = (us, e, inr l)
        other (us, e, inr l) = (us, e, inl l)

    level_taken : Takes (read.tuple_level p q) (spell.tuple_level L M)
    unfolding read.tuple_level
    level_taken ts = takes_peek (read.tuple_by p q) (spell.tuple_level L M) ts
        (takes_if (is_kind (head_kind ts) k.Name) _ _ (spell.tuple_level L M) ts
        (λ h. takes_or_left _ (named_leaf_taken ts)) (λ h. takes_or_right _ (unnamed_taken ts)))

pub tuple_taken : (n : ℕ) → Takes (read.tuple n) (spell.tuple n)
unfolding read.tuple spell.tuple
tuple_taken zero ts = takes_none ts (spell.tuple 0)
tuple_taken (suc n) ts = level_taken (terms.term (suc n)) (term_spell.term (suc n)) (term_taken (suc n)) (read.tuple n) (spell.tuple n)
    (tuple_taken n) ts

-- ---- parameters

name_row_taken : Takes pieces.name_row spell.name_row
name_row_taken = takes_separated k.Comma (λ h. cc) r.name s.name takes_name

names_taken : Takes pieces.names (s.◌∪◌ (s.pure []) spell.name_row)
names_taken ts = record { by = takes_unless (sees k.CloseSquare ts) pieces.name_row spell.name_row ts name_row_taken }

declared_taken : (ts : List Token) → sees k.OpenSquare ts ≡ true → TakesAt ts (r.◌>>◌ r.skip pieces.declared) spell.declared
unfolding pieces.declared
declared_taken = takes_seen k.OpenSquare (λ h. cc)
    _ _ (λ _. λ ts. takes_bind pieces.names _ (s.◌∪◌ (s.pure []) spell.name_row) _ ts (names_taken ts)
    (λ found. takes_after k.CloseSquare (λ h. cc) _ _ (λ _. takes_end k.Arrow (λ h. cc) found)))

parameters_taken : Takes pieces.parameters (s.◌∪◌ spell.declared (s.pure []))
parameters_taken ts = record {
  by = takes_test (sees k.OpenSquare ts) _ _ ts spell.declared (s.pure [])
      (λ seen a rest e. (declared_taken ts seen).by a rest e) (λ _ a rest e. (takes_pure [] ts).by a rest e);
}

-- ---- pieces

module _ (p : Parser Tuple) (L : Grammar Tuple) (tuple : Takes p L) (q : Parser Formula) (M : Grammar Formula) (formula : Takes q M) where
  next_tuple_taken : (ts : List Token) → sees k.Arrow ts ≡ true → TakesAt ts (pieces.next_tuple p) (s.◌>>◌ (s.word k.Arrow) L)
  unfolding pieces.next_tuple
  next_tuple_taken = takes_seen k.Arrow (λ h. cc) (λ _. p) (λ _. L) (λ _. tuple)

  image_taken : Takes (pieces.image p) (spell.image L M)
  image_taken ts = record {
    by = takes_test (sees k.Arrow ts) _ _ ts _ (s.pure None)
        (λ seen a rest e. (takes_bind (pieces.next_tuple p) _ (s.◌>>◌ (s.word k.Arrow) L) _ ts (next_tuple_taken ts seen)
        (λ t. takes_pure (Some t))).by a rest e)
        (λ _ a rest e. (takes_pure None ts).by a rest e);
  }

  body_taken : Takes (pieces.body q) (s.◌∪◌ (s.pure None) (s.◌>>=◌ M (λ f. s.pure (Some f))))
  body_taken ts = record {
    by = takes_test (pieces.ends_piece (head_kind ts)) _ _ ts (s.pure None)
        _ (λ _ a rest e. (takes_pure None ts).by a rest e) (λ _ a rest e. (takes_map q M (λ f. Some f) formula ts).by a rest e);
  }

  condition_taken : Takes (pieces.condition q) (spell.condition L M)
  condition_taken ts = record {
    by = takes_test (sees k.Colon ts) _ _ ts _ (s.pure None)
        (λ seen a rest e. (takes_seen k.Colon (λ h. cc) (λ _. pieces.body q) (λ _. s.◌∪◌ (s.pure None) (s.◌>>=◌ M (λ f. s.pure (Some f))))
        (λ _. body_taken) ts seen).by a rest e)
        (λ _ a rest e. (takes_pure None ts).by a rest e);
  }

  piece_taken : Takes (pieces.piece p q) (spell.piece L M)
  unfolding pieces.piece
  piece_taken ts = takes_bind p _ L _ ts (tuple ts)
      (λ first. λ us. takes_bind (pieces.image p) _ (spell.image L M) _ us (image_taken us) (λ second.
      takes_map (pieces.condition q) (spell.condition L M) (pieces.make_piece first second) condition_taken))

  piece_row_taken : Takes (pieces.piece_row p q) (spell.piece_row L M)
  piece_row_taken = takes_separated k.Semicolon (λ h. cc) (pieces.piece p q) (spell.piece L M) piece_taken

  pieces_taken : Takes (pieces.pieces p q) (s.◌∪◌ (s.pure []) (spell.piece_row L M))
  pieces_taken ts = record { by = takes_unless (sees k.CloseBrace ts) (pieces.piece_row p q) (spell.piece_row L M) ts piece_row_taken }

  braces_taken : Takes (pieces.braces p q) (spell.braces L M)
  unfolding pieces.braces
  braces_taken = takes_after k.OpenBrace (λ h. cc)
      _ _ (λ _. λ ts. takes_bind (pieces.pieces p q) _ (s.◌∪◌ (s.pure []) (spell.piece_row L M)) _ ts (pieces_taken ts)
      (λ found. takes_end k.CloseBrace (λ h. cc) found))

  pub outline_taken : Takes (pieces.outline p q) (spell.outline L M)
  unfolding pieces.outline
  outline_taken ts = takes_bind pieces.parameters _ (s.◌∪◌ spell.declared (s.pure [])) _ ts (parameters_taken ts)
      (λ params. takes_map (pieces.braces p q) (spell.braces L M) (pieces.make_literal params) braces_taken)
