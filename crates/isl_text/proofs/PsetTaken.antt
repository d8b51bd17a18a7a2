-- A parameter set that is read is spelled so.
use Rattle.std.proofs.Common.{◌≡◌, Bool, true, cond, List, [], ◌++◌, Option, Some, None}
use Rattle.isl_token.specs.TokenView.{Token}
use Rattle.isl_token.specs.declared.token.Kind.TheVariants as k
use Rattle.isl_token.specs.Reading.{Parser, head_kind, sees}
use Rattle.isl_token.specs.Reading as r
use Rattle.isl_token.specs.Spelling.{Grammar}
use Rattle.isl_token.specs.Spelling as s
use Rattle.isl_token.proofs.Taking.{TakesAt, Takes, takes_pure, takes_bind, takes_map, takes_seen, takes_after, takes_end, takes_name}
use Rattle.isl_token.proofs.Taking.{takes_separated, takes_test}
use Rattle.isl_tree.specs.declared.tree.Formula.{Formula}
use Rattle.isl_text.specs.Piece as pieces
use Rattle.isl_text.specs.LiteralGrammar as spell
use Rattle.isl_text.specs.Pset as read
use Rattle.isl_text.specs.PsetGrammar as grammar

-- what a row is, where the first item may be missing
takes_unless : {A : Type 0} (b : Bool) (p : Parser (List A)) (L : Grammar (List A)) (ts : List Token) → Takes p L
    → (a : List A) (rest : List Token) → cond b (Some ([], ts)) (p ts) ≡ Some (a, rest)
    → (us : List Token) × (ts ≡ us ++ rest) × (s.◌∪◌ (s.pure []) L) a us
takes_unless b p L ts h = takes_test b _ _ ts (s.pure []) L (λ _ a rest e. (takes_pure [] ts).by a rest e)
    (λ _ a rest e. (h ts).by a rest e)

-- ---- parameters

name_row_taken : Takes pieces.name_row spell.name_row
name_row_taken = takes_separated k.Comma (λ h. cc) r.name s.name takes_name

names_taken : Takes pieces.names (s.◌∪◌ (s.pure []) spell.name_row)
names_taken ts = record { by = takes_unless (sees k.CloseSquare ts) pieces.name_row spell.name_row ts name_row_taken }

declared_taken : (ts : List Token) → sees k.OpenSquare ts ≡ true → TakesAt ts (r.◌>>◌ r.skip pieces.declared) spell.declared
unfolding pieces.declared
declared_taken = takes_seen k.OpenSquare (λ h. cc)
    _ _ (λ _. λ ts. takes_bind pieces.names _ (s.◌∪◌ (s.pure []) spell.name_row) _ ts (names_taken ts)
    (λ found. takes_after k.CloseSquare (λ h. cc) _ _ (λ _. takes_end k.Arrow (λ h. cc) found)))

parameters_taken : Takes pieces.parameters (s.◌∪◌ spell.declared (s.pure []))
parameters_taken ts = record {
  by = takes_test (sees k.OpenSquare ts) _ _ ts spell.declared (s.pure [])
      (λ seen a rest e. (declared_taken ts seen).by a rest e) (λ _ a rest e. (takes_pure [] ts).by a rest e);
}

-- ---- formulas

module _ (q : Parser Formula) (M : Grammar Formula) (formula : Takes q M) where
  abbrev optional : Grammar (Option Formula)
  optional = s.◌∪◌ (s.pure None) (s.◌>>=◌ M (λ f. s.pure (Some f)))

  body_taken : Takes (pieces.body q) optional
  body_taken ts = record {
    by = takes_test (pieces.ends_piece (head_kind ts)) _ _ ts (s.pure None)
        _ (λ _ a rest e. (takes_pure None ts).by a rest e) (λ _ a rest e. (takes_map q M (λ f. Some f) formula ts).by a rest e);
  }

  condition_taken : Takes (read.condition q) (grammar.condition M)
  unfolding read.condition
  condition_taken = takes_after k.Colon (λ h. cc) _ _ (λ _. takes_map (pieces.body q) optional grammar.condition_of body_taken)

  conditions_taken : Takes (read.conditions q) (s.separated k.Semicolon (grammar.condition M))
  conditions_taken = takes_separated k.Semicolon (λ h. cc) (read.condition q) (grammar.condition M) condition_taken

  braces_taken : Takes (read.braces q) (grammar.braces M)
  unfolding read.braces
  braces_taken = takes_after k.OpenBrace (λ h. cc)
      _ _ (λ _. λ ts. takes_bind (read.conditions q) _ (s.separated k.Semicolon (grammar.condition M)) _ ts (conditions_taken ts)
      (λ found. takes_end k.CloseBrace (λ h. cc) found))

  pub outline_taken : Takes (read.outline q) (grammar.outline M)
  unfolding read.outline
  outline_taken ts = takes_bind pieces.parameters _ (s.◌∪◌ spell.declared (s.pure [])) _ ts (parameters_taken ts)
      (λ params. takes_map (read.braces q) (grammar.braces M) (pieces.make_literal params) braces_taken)
