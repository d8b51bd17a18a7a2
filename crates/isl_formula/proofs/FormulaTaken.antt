-- A formula that is read is spelled so.
use Rattle.std.proofs.Common.{◌≡◌, ◌≢◌, ℕ, zero, suc, Bool, true, false, List, [], ◌++◌, Some, refl, sym, ap, subst, ◌∙◌, inl, inr}
use Rattle.std.proofs.Common.{append_assoc}
use Rattle.std.proofs.lemmas.List.{append-nil}
use Rattle.std.proofs.lemmas.Bool.{false≢true}
use Rattle.isl_token.specs.TokenView.{Token}
use Rattle.isl_token.specs.declared.token.Kind.{Kind}
use Rattle.isl_token.specs.declared.token.Kind.TheVariants as k
use Rattle.isl_tree.specs.declared.tree.Signed.{Signed}
use Rattle.isl_tree.specs.declared.tree.Formula.{Formula}
use Rattle.isl_tree.specs.declared.tree.Formula.TheVariants as f
use Rattle.isl_token.specs.Token.{is_kind}
use Rattle.isl_token.specs.Reading.{Parser, and_then, head_kind, tail}
use Rattle.isl_token.specs.Reading as r
use Rattle.isl_token.specs.Spelling.{Grammar}
use Rattle.isl_token.specs.Spelling as s
use Rattle.isl_token.specs.Reading.{sees}
use Rattle.isl_formula.specs.Term as terms
use Rattle.isl_formula.specs.TermGrammar as term_spell
use Rattle.isl_formula.specs.declared.ahead.Mark.TheVariants as mark
use Rattle.isl_formula.specs.Ahead.{begins}
use Rattle.isl_formula.specs.Chain as chains
use Rattle.isl_formula.specs.Formula as read
use Rattle.isl_formula.specs.FormulaGrammar as spell
use Rattle.isl_token.proofs.Taking.{TakesAt, Takes, takes_pure, takes_bind, takes_or_left, takes_or_right, takes_skip, takes_expect}
use Rattle.isl_token.proofs.Taking.{is_kind_true, chosen, and_then_some, same_read}
use Rattle.isl_formula.proofs.TermTaken.{term_taken}
use Rattle.isl_formula.proofs.ChainTaken.{chain_taken, binders_taken}
use Rattle.isl_formula.proofs.OpenBrackets.{begins_bracket}
use Rattle.isl_formula.proofs.RowsTaken.{ReadsAt, ReadsRow, ended, ends_rows, rows_read, rows_end}

-- ---- closed texts are among all

pub record Wider (L : Bool → Grammar Formula) : Type 0 where
  pub by : (a : Formula) (us : List Token) → L false a us → L true a us

rows_wider : (sep : Kind) (make : List Formula → Formula) (L : Bool → Grammar Formula) → Wider L → Wider (spell.rows sep make L)
rows_wider sep make L w = record {
  by = λ a us l. elim l [
    | inl x ↦ inl (w.by a us x)
    | inr y ↦ inr (
      y.0,
      y.1,
      y.2,
      y.3,
      y.4,
      (
        y.5.0,
        y.5.1,
        y.5.2,
        y.5.3,
        y.5.4,
        (y.5.5.0, y.5.5.1, y.5.5.2, y.5.5.3, last w y.5.5.4, y.5.5.5),
      ),
    )
  ];
} where
  last : {x : Formula} {us : List Token} → Wider L → s.◌>>◌ (s.word sep) (L false) x us → s.◌>>◌ (s.word sep) (L true) x us
  last w (u, us, vs, e, h, l) = (u, us, vs, e, h, w.by _ vs l)

formula_wider : (L : Bool → Grammar Formula) → Wider L → Wider (spell.formula_with L)
formula_wider L w = rows_wider k.Implies f.Implies _ (rows_wider k.Or f.Or _ (rows_wider k.And f.And L w))

-- ---- formulas

any_ended : (kind : Kind) → is_kind kind k.And ≡ false → is_kind kind k.Or ≡ false → is_kind kind k.Implies ≡ false → ends_rows kind ≡ true
any_ended k.And a o i = absurd (false≢true (sym a))
any_ended k.Or a o i = absurd (false≢true (sym o))
any_ended k.Implies a o i = absurd (false≢true (sym i))
any_ended _ a o i = refl

module _ (p : Parser Formula) (L : Bool → Grammar Formula) (unary : ReadsRow p L) where
  conj_read : ReadsRow (read.conj p) (spell.conj L)
  conj_read = rows_read k.And (λ h. cc) refl f.And p L unary

  disj_read : ReadsRow (read.disj p) (spell.disj L)
  disj_read = rows_read k.Or (λ h. cc) refl f.Or (read.conj p) (spell.conj L) conj_read

  formula_read : ReadsRow (read.formula_with p) (spell.formula_with L)
  formula_read = rows_read k.Implies (λ h. cc) refl f.Implies (read.disj p) (spell.disj L) disj_read

  conj_ends : (ts rest : List Token) (a : Formula) → read.conj p ts ≡ Some (a, rest) → Unit {0} × (sees k.And rest ≡ false)
  conj_ends = rows_end k.And (λ h. cc) f.And p L unary (λ _. Unit {0}) (λ ts rest a e. tt)

  disj_ends : (ts rest : List Token) (a : Formula) → read.disj p ts ≡ Some (a, rest)
      → (Unit {0} × (sees k.And rest ≡ false)) × (sees k.Or rest ≡ false)
  disj_ends = rows_end k.Or (λ h. cc) f.Or (read.conj p) (spell.conj L) conj_read (λ rest. Unit {0} × (sees k.And rest ≡ false)) conj_ends

  formula_ends : (ts rest : List Token) (a : Formula) → read.formula_with p ts ≡ Some (a, rest) → ended rest
  formula_ends ts rest a e =
      let d = rows_end k.Implies (λ h. cc) f.Implies (read.disj p) (spell.disj L) disj_read
      (λ rest. (Unit {0} × (sees k.And rest ≡ false)) × (sees k.Or rest ≡ false)) disj_ends ts rest a e in
      any_ended (head_kind rest) d.0.0.1 d.0.1 d.1

  module _ (wide : Wider L) where
    formula_taken : Takes (read.formula_with p) (spell.formula_with L true)
    formula_taken ts = record {
      by = λ a rest e.
          let c = (formula_read ts).by a rest e in
          (c.0, c.1, elim c.2 [ inl l ↦ (formula_wider L wide).by a c.0 l | inr l ↦ l.0 ]);
    }

pub closed_at : {ts : List Token} {p : Parser Formula} (L : Bool → Grammar Formula) → TakesAt ts p (L false) → ReadsAt ts p L
closed_at L h = record { by = λ a rest e. let c = h.by a rest e in (c.0, c.1, inl c.2) }

module _ (tp : Parser (List Signed)) (tl : Grammar (List Signed)) (term : Takes tp tl) (p : Parser Formula) (L : Bool → Grammar Formula)
    (unary : ReadsRow p L) (wide : Wider L) where
  group_taken : (ts : List Token) → head_kind ts ≡ k.Open → TakesAt ts (r.◌>>◌ r.skip (read.group tp p)) (spell.group tl L)
  unfolding read.group
  group_taken ts e = takes_bind r.skip _ (s.word k.Open) _ ts (takes_skip k.Open (λ h. cc) ts e) (λ _. λ us.
      takes_bind (read.formula_with p) _ (spell.formula_with L true) _ us (formula_taken p L unary wide us) (λ inner. λ vs.
      takes_bind (r.expect k.Close) _ (s.word k.Close) _ vs (takes_expect k.Close (λ h. cc) vs) (λ _. takes_pure inner)))

  bound_taken : Takes (read.bound tp p) (spell.bound tl L)
  unfolding read.bound
  bound_taken ts = takes_bind (chains.binders tp) _ (spell.binders tl) _ ts (binders_taken tp tl term ts) (λ names. λ us.
      takes_bind (r.expect k.Colon) _ (s.word k.Colon) _ us (takes_expect k.Colon (λ h. cc) us) (λ _. λ vs.
      takes_bind (read.formula_with p) _ (spell.formula_with L true) _ vs (formula_taken p L unary wide vs)
      (λ inner. takes_pure (f.Exists names inner))))

  bound_ends : (ts rest : List Token) (a : Formula) → read.bound tp p ts ≡ Some (a, rest) → ended rest
  unfolding read.bound
  bound_ends ts rest a e =
      let x = and_then_some (chains.binders tp ts) (λ names. r.◌>>◌ (r.expect k.Colon)
      (r.◌>>=◌ (read.formula_with p) (λ inner. r.pure (f.Exists names inner)))) (a, rest) e in
      let y = and_then_some (r.expect k.Colon x.0.1) (λ _. r.◌>>=◌ (read.formula_with p) (λ inner. r.pure (f.Exists x.0.0 inner))) (a, rest)
      x.2 in
      let z = and_then_some (read.formula_with p y.0.1) (λ inner. r.pure (f.Exists x.0.0 inner)) (a, rest) y.2 in
      let q = same_read (f.Exists x.0.0 z.0.0) a z.0.1 rest z.2 in
      formula_ends p L unary y.0.1 rest z.0.0 (z.1 ∙ ap (λ (l : List Token). Some (z.0.0, l)) q.1)

  brackets_taken : (ts : List Token) → head_kind ts ≡ k.Open
      → TakesAt ts (r.◌>>◌ r.skip (read.bound_in_brackets tp p))
      (s.◌>>◌ (s.word k.Open) (s.◌>>=◌ (spell.bound tl L) (λ whole. s.◌>>◌ (s.word k.Close) (s.pure whole))))
  unfolding read.bound_in_brackets
  brackets_taken ts e = takes_bind r.skip _ (s.word k.Open) _ ts (takes_skip k.Open (λ h. cc) ts e) (λ _. λ us.
      takes_bind (read.bound tp p) _ (spell.bound tl L) _ us (bound_taken us) (λ whole. λ vs.
      takes_bind (r.expect k.Close) _ (s.word k.Close) _ vs (takes_expect k.Close (λ h. cc) vs) (λ _. takes_pure whole)))

  abbrev level : Bool → Grammar Formula
  level = spell.unary_level tl L

  exists_read : (ts : List Token) → head_kind ts ≡ k.Exists → ReadsAt ts (r.◌>>◌ r.skip (read.exists tp p)) level
  unfolding read.exists
  exists_read ts e = record {
    by = λ a rest h.
        let y = and_then_some (r.skip ts) (λ _. read.exists tp p) (a, rest) h in
        let w = (takes_skip k.Exists (λ h. cc) ts e).by y.0.0 y.0.1 y.1 in
        elim (chosen (sees k.Open y.0.1) (r.◌>>◌ r.skip (read.bound_in_brackets tp p) y.0.1) (read.bound tp p y.0.1) (Some (a, rest)) y.2) [
          | inl yes' ↦
              let c = (brackets_taken y.0.1 (is_kind_true (head_kind y.0.1) k.Open yes'.0)).by a rest yes'.1 in (
                w.0 ++ c.0,
                w.1 ∙ ap (λ (l : List Token). w.0 ++ l) c.1
                    ∙ sym (append_assoc w.0 c.0 rest),
                inl (inr (inr (inr (inr (y.0.0, w.0, c.0, refl, w.2, c.2))))),
              )
          | inr no' ↦
              let c = (bound_taken y.0.1).by a rest no'.1 in (
                w.0 ++ c.0,
                w.1 ∙ ap (λ (l : List Token). w.0 ++ l) c.1
                    ∙ sym (append_assoc w.0 c.0 rest),
                inr (inr (y.0.0, w.0, c.0, refl, w.2, c.2), bound_ends y.0.1 rest a no'.1),
              )
        ];
  }

  negated_read : (ts : List Token) → head_kind ts ≡ k.Not → ReadsAt ts (r.◌>>◌ r.skip (read.negated tp p)) level
  unfolding read.negated
  negated_read ts e = record {
    by = λ a rest h.
        let y = and_then_some (r.skip ts) (λ _. read.negated tp p) (a, rest) h in
        let w = (takes_skip k.Not (λ h. cc) ts e).by y.0.0 y.0.1 y.1 in
        let z = and_then_some (p y.0.1) (λ inner. r.pure (f.Not inner)) (a, rest) y.2 in
        let q = same_read (f.Not z.0.0) a z.0.1 rest z.2 in
        let c = (unary y.0.1).by z.0.0 z.0.1 z.1 in
        let whole = w.1 ∙ ap (λ (l : List Token). w.0 ++ l) (c.1 ∙ ap (λ (l : List Token). c.0 ++ l) q.1)
        ∙ sym (append_assoc w.0 c.0 rest) in (
          w.0 ++ c.0,
          whole,
          elim c.2 [
            | inl l ↦ inl (inl (y.0.0, w.0, c.0, refl, w.2, (z.0.0, c.0, [], sym (append-nil c.0), l, (sym q.0, refl))))
            | inr l ↦ inr (
              inl (inl (y.0.0, w.0, c.0, refl, w.2, (z.0.0, c.0, [], sym (append-nil c.0), l.0, (sym q.0, refl)))),
              subst ended q.1 l.1,
            )
          ],
        );
  }

  other_taken : (ts : List Token) → TakesAt ts (read.other tp p) (spell.closed tl L false)
  other_taken ts = record {
    by = λ a rest e.
        elim (chosen (begins k.Open mark.Formula ts) (r.◌>>◌ r.skip (read.group tp p) ts) (chains.chain tp ts) (Some (a, rest)) e) [
          | inl yes' ↦ let c = (group_taken ts (begins_bracket k.Open mark.Formula ts yes'.0)).by a rest yes'.1 in (c.0, c.1, inr (inl c.2))
          | inr no' ↦ let c = (chain_taken tp tl term ts).by a rest no'.1 in (c.0, c.1, inr (inr (inr (inl c.2))))
        ];
  }

  word_taken : (kind : Kind) → kind ≢ k.End → (t : Formula) (ts : List Token) → head_kind ts ≡ kind
      → TakesAt ts (r.◌>>◌ r.skip (r.pure t)) (s.◌>>◌ (s.word kind) (s.pure t))
  word_taken kind ne t ts e = takes_bind r.skip _ (s.word kind) _ ts (takes_skip kind ne ts e) (λ _. takes_pure t)

  truth_taken : (ts : List Token) (kind : Kind) → head_kind ts ≡ kind → ReadsAt ts (read.unary_by tp p kind) level
  truth_taken ts k.Not e = negated_read ts e
  truth_taken ts k.Exists e = exists_read ts e
  truth_taken ts k.True e = closed_at level (takes_or_right
      _ (takes_or_right _ (takes_or_left _ (takes_or_left _ (word_taken k.True (λ h. cc) f.True ts e)))))
  truth_taken ts k.False e = closed_at level (takes_or_right
      _ (takes_or_right _ (takes_or_left _ (takes_or_right _ (word_taken k.False (λ h. cc) f.False ts e)))))
  truth_taken ts _ e = closed_at level (other_taken ts)

  level_read : ReadsRow (read.unary_level tp p) level
  unfolding read.unary_level
  level_read ts = record { by = (truth_taken ts (head_kind ts) refl).by }

level_wider : (tl : Grammar (List Signed)) (L : Bool → Grammar Formula) → Wider L → Wider (spell.unary_level tl L)
level_wider tl L wide = record {
  by = λ a us l. elim l
      [ inl x ↦ inl (inl (x.0, x.1, x.2, x.3, x.4, (x.5.0, x.5.1, x.5.2, x.5.3, wide.by _ _ x.5.4, x.5.5))) | inr y ↦ inl (inr y) ];
}

pub unary_wider : (n : ℕ) → Wider (spell.unary n)
unfolding spell.unary
unary_wider zero = record { by = λ a us l. absurd l }
unary_wider (suc n) = level_wider (term_spell.term (suc n)) (spell.unary n) (unary_wider n)

pub unary_read : (n : ℕ) → ReadsRow (read.unary n) (spell.unary n)
unfolding read.unary spell.unary
unary_read zero ts = record { by = λ a rest e. absurd cc }
unary_read (suc n) ts = level_read (terms.term (suc n)) (term_spell.term (suc n)) (term_taken (suc n)) (read.unary n) (spell.unary n)
    (unary_read n) (unary_wider n) ts

pub formula_is_taken : (n : ℕ) → Takes (read.formula n) (spell.formula n)
formula_is_taken n = formula_taken (read.unary n) (spell.unary n) (unary_read n) (unary_wider n)
