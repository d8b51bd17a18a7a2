-- Rows of one operator, whose last item may be open: what is read is spelled so.
use Rattle.std.proofs.Common.{◌≡◌, ◌≢◌, ℕ, zero, suc, ◌<◌, ◌≤◌, Bool, true, false, List, [], ◌∷◌, ◌++◌, length, Some, refl, sym, ap, subst}
use Rattle.std.proofs.Common.{◌∙◌, inl, inr, append_assoc, arith, length-append}
use Rattle.std.specs.Prelude.{◌⊎◌}
use Rattle.std.proofs.lemmas.List.{append-nil}
use Rattle.std.proofs.lemmas.Bool.{false≢true, false_from_ne_true}
use Rattle.isl_token.proofs.Turns.{stops}
use Rattle.isl_token.specs.TokenView.{Token}
use Rattle.isl_token.specs.declared.token.Kind.{Kind}
use Rattle.isl_token.specs.declared.token.Kind.TheVariants as k
use Rattle.isl_tree.specs.declared.tree.Formula.{Formula}
use Rattle.isl_token.specs.Token.{is_kind}
use Rattle.isl_token.specs.Reading.{Parser, and_then, head_kind, rest_of, row}
use Rattle.isl_token.specs.Reading as r
use Rattle.isl_token.specs.Spelling.{Grammar}
use Rattle.isl_token.specs.Spelling as s
use Rattle.isl_token.specs.Reading.{sees}
use Rattle.isl_formula.specs.Formula as read
use Rattle.isl_formula.specs.FormulaGrammar as spell
use Rattle.isl_token.proofs.Taking.{and_then_some, same_read, chosen, takes_skip, is_kind_true}

-- what does not go on with a row of formulas
abbrev pub ends_rows : Kind → Bool
ends_rows k.And = false
ends_rows k.Or = false
ends_rows k.Implies = false
ends_rows _ = true

abbrev pub ended : List Token → Type 0
ended ts = ends_rows (head_kind ts) ≡ true

-- what p reads at ts is spelled by a closed text, or by an open one where the rows have ended
pub record ReadsAt (ts : List Token) (p : Parser Formula) (L : Bool → Grammar Formula) : Type 0 where
  pub by : (a : Formula) (rest : List Token) → p ts ≡ Some (a, rest)
      → (us : List Token) × (ts ≡ us ++ rest) × ((L false a us) ⊎ (L true a us × ended rest))

abbrev pub ReadsRow : Parser Formula → (Bool → Grammar Formula) → Type 0
ReadsRow p L = (ts : List Token) → ReadsAt ts p L

module _ (sep : Kind) (is_end : sep ≢ k.End) (goes_on : ends_rows sep ≡ false) (make : List Formula → Formula) (item : Parser Formula)
    (L : Bool → Grammar Formula) (reads : ReadsRow item L) where
  abbrev after : Bool → Grammar Formula
  after last = s.◌>>◌ (s.word sep) (L last)

  -- what follows the first item: closed items, the last of which may be open
  abbrev Tail : List Formula → List Token → List Token → Type 0
  Tail [] us rest = us ≡ []
  Tail (x ∷ xs) us rest = (u : List Token) × (v : List Token) × (us ≡ u ++ v)
      × ((after false x u × Tail xs v rest) ⊎ (after true x u × (xs ≡ []) × (v ≡ []) × ended rest))

  not_seen : (ts : List Token) → ended ts → sees sep ts ≡ true → ⊥
  not_seen ts e h = false≢true (sym goes_on ∙ ap ends_rows (sym (is_kind_true (head_kind ts) sep h)) ∙ e)

  -- one more item
  next : (ts : List Token) (x : Formula) (rest : List Token) → sees sep ts ≡ true → read.next_item sep make item ts ≡ Some (x, rest)
      → (u : List Token) × (ts ≡ u ++ rest) × ((after false x u) ⊎ (after true x u × ended rest))
  unfolding read.next_item
  next ts x rest h e =
      let y = and_then_some (r.skip ts) (λ _. item) (x, rest) e in
      let w = (takes_skip sep is_end ts (is_kind_true (head_kind ts) sep h)).by y.0.0 y.0.1 y.1 in
      let c = (reads y.0.1).by x rest y.2 in
      let whole = w.1 ∙ ap (λ (l : List Token). w.0 ++ l) c.1 ∙ sym (append_assoc w.0 c.0 rest) in
      (w.0 ++ c.0, whole, elim c.2 [ inl a ↦ inl (y.0.0, w.0, c.0, refl, w.2, a) | inr b ↦ inr ((y.0.0, w.0, c.0, refl, w.2, b.0), b.1) ])

  run : (n : ℕ) (found : List Formula) (ts : List Token) (xs : List Formula) (rest : List Token)
      → rest_of (sees sep) (read.next_item sep make item) n found ts ≡ Some (xs, rest)
      → (more : List Formula) × (us : List Token) × (xs ≡ found ++ more) × (ts ≡ us ++ rest) × Tail more us rest
  unfolding rest_of
  run zero found ts xs rest e = let p = same_read found xs ts rest e in ([], [], sym p.0 ∙ sym (append-nil found), p.1, refl)
  run (suc n) found ts xs rest e =
      elim (chosen (sees sep ts) (and_then (read.next_item sep make item ts)
      (λ x. rest_of (sees sep) (read.next_item sep make item) n (found ++ x ∷ []))) (Some (found, ts)) (Some (xs, rest)) e) [
        | inl yes' ↦
            let x = and_then_some (read.next_item sep make item ts)
            (λ x. rest_of (sees sep) (read.next_item sep make item) n (found ++ x ∷ [])) (xs, rest) yes'.1 in
            let c = next ts x.0.0 x.0.1 yes'.0 x.1 in
            elim c.2 [
              | inl a ↦
                  let d = run n (found ++ x.0.0 ∷ []) x.0.1 xs rest x.2 in
                  let all = d.2 ∙ append_assoc found (x.0.0 ∷ []) d.0 in
                  let whole = c.1 ∙ ap (λ (l : List Token). c.0 ++ l) d.3 ∙ sym (append_assoc c.0 d.1 rest) in
                  (x.0.0 ∷ d.0, c.0 ++ d.1, all, whole, (c.0, d.1, refl, inl (a, d.4)))
              | inr b ↦
                  let over = stops (sees sep) (read.next_item sep make item) n (found ++ x.0.0 ∷ []) x.0.1
                  (false_from_ne_true (sees sep x.0.1) (not_seen x.0.1 b.1)) in
                  let p = same_read (found ++ x.0.0 ∷ []) xs x.0.1 rest (sym over ∙ x.2) in (
                    x.0.0 ∷ [],
                    c.0,
                    sym p.0,
                    c.1 ∙ ap (λ (l : List Token). c.0 ++ l) p.1,
                    (c.0, [], sym (append-nil c.0), inr (b.0, refl, refl, subst ended p.1 b.1)),
                  )
            ]
        | inr no' ↦ let p = same_read found xs ts rest no'.1 in ([], [], sym p.0 ∙ sym (append-nil found), p.1, refl)
      ]

  -- the last of several items, and those before it
  abbrev Split : List Formula → List Token → List Token → Type 0
  Split ys us rest = (middle : List Formula) × (final : Formula) × (u : List Token) × (v : List Token) × (ys ≡ middle ++ final ∷ [])
      × (us ≡ u ++ v) × s.many (after false) middle u × ((after false final v) ⊎ (after true final v × ended rest))

  split : (x : Formula) (xs : List Formula) (us rest : List Token) → Tail (x ∷ xs) us rest → Split (x ∷ xs) us rest
  split x xs us rest (u, v, e, inr (a, none, over, stop)) = (
    [],
    x,
    [],
    us,
    ap (λ (l : List Formula). x ∷ l) none,
    refl,
    refl,
    inr (subst (λ (l : List Token). after true x l) (sym (e ∙ ap (λ (l : List Token). u ++ l) over ∙ append-nil u)) a, stop),
  )
  split x [] us rest (u, v, e, inl (a, t)) = (
    [],
    x,
    [],
    us,
    refl,
    refl,
    refl,
    inl (subst (λ (l : List Token). after false x l) (sym (e ∙ ap (λ (l : List Token). u ++ l) t ∙ append-nil u)) a),
  )
  split x (y ∷ ys) us rest (u, v, e, inl (a, t)) =
      let d = split y ys v rest t in (
        x ∷ d.0,
        d.1,
        u ++ d.2,
        d.3,
        ap (λ (l : List Formula). x ∷ l) d.4,
        e ∙ ap (λ (l : List Token). u ++ l) d.5
            ∙ sym (append_assoc u d.2 d.3),
        (u, d.2, refl, a, d.6),
        d.7,
      )

  -- one closed item and more make a row
  joined : (first x : Formula) (xs : List Formula) (us vs rest : List Token) → L false first us → Tail (x ∷ xs) vs rest
      → (spell.several sep make L false (make (first ∷ (x ∷ xs))) (us ++ vs))
      ⊎ (spell.several sep make L true (make (first ∷ (x ∷ xs))) (us ++ vs) × ended rest)
  joined first x xs us vs rest l t =
      let d = split x xs vs rest t in
      let all = ap (λ (l : List Formula). make (first ∷ l)) d.4 in
      elim d.7 [
        | inl a ↦ inl (first, us, vs, refl, l, (d.0, d.2, d.3, d.5, d.6, (d.1, d.3, [], sym (append-nil d.3), a, (all, refl))))
        | inr a ↦ inr ((first, us, vs, refl, l, (d.0, d.2, d.3, d.5, d.6, (d.1, d.3, [], sym (append-nil d.3), a.0, (all, refl)))), a.1)
      ]

  -- the items after the first
  others : (first : Formula) (ts : List Token) (a : Formula) (rest : List Token) → sees sep ts ≡ true
      → read.rest_of_row sep make item first ts ≡ Some (a, rest)
      → (x : Formula) × (xs : List Formula) × (vs : List Token) × (a ≡ make (first ∷ (x ∷ xs))) × (ts ≡ vs ++ rest) × Tail (x ∷ xs) vs rest
  unfolding row
  others first ts a rest h e =
      let y = and_then_some (read.next_item sep make item ts)
      (λ second. r.◌>>=◌ (row (sees sep) (read.next_item sep make item) (first ∷ (second ∷ []))) (λ all. r.pure (make all))) (a, rest)
      e in
      let n = next ts y.0.0 y.0.1 h y.1 in
      let z = and_then_some (row (sees sep) (read.next_item sep make item) (first ∷ (y.0.0 ∷ [])) y.0.1) (λ all. r.pure (make all))
      (a, rest) y.2 in
      let p = same_read (make z.0.0) a z.0.1 rest z.2 in
      elim n.2 [
        | inl l ↦
            let d = run (length y.0.1) (first ∷ (y.0.0 ∷ [])) y.0.1 z.0.0 z.0.1 z.1 in
            let whole = n.1 ∙ ap (λ (l : List Token). n.0 ++ l) (d.3 ∙ ap (λ (l : List Token). d.1 ++ l) p.1)
            ∙ sym (append_assoc n.0 d.1 rest) in (
              y.0.0,
              d.0,
              n.0 ++ d.1,
              sym p.0 ∙ ap make d.2,
              whole,
              (n.0, d.1, refl, inl (l, subst (λ (t : List Token). Tail d.0 d.1 t) p.1 d.4)),
            )
        | inr l ↦
            let over = stops (sees sep) (read.next_item sep make item) (length y.0.1) (first ∷ (y.0.0 ∷ [])) y.0.1
            (false_from_ne_true (sees sep y.0.1) (not_seen y.0.1 l.1)) in
            let q = same_read (first ∷ (y.0.0 ∷ [])) z.0.0 y.0.1 z.0.1 (sym over ∙ z.1) in
            let left = q.1 ∙ p.1 in (
              y.0.0,
              [],
              n.0,
              sym p.0 ∙ ap make (sym q.0),
              n.1 ∙ ap (λ (l : List Token). n.0 ++ l) left,
              (n.0, [], sym (append-nil n.0), inr (l.0, refl, refl, subst ended left l.1)),
            )
      ]

  pub rows_read : ReadsRow (read.rows sep make item) (spell.rows sep make L)
  unfolding read.rows
  rows_read ts = record {
    by = λ a rest e.
        let x = and_then_some (item ts) (read.row_on sep make item) (a, rest) e in
        let c = (reads ts).by x.0.0 x.0.1 x.1 in
        elim (chosen (sees sep x.0.1) (read.rest_of_row sep make item x.0.0 x.0.1) (Some (x.0.0, x.0.1)) (Some (a, rest)) x.2) [
          | inl yes' ↦
              let o = others x.0.0 x.0.1 a rest yes'.0 yes'.1 in
              elim c.2 [
                | inl l ↦
                    let j = joined x.0.0 o.0 o.1 c.0 o.2 rest l o.5 in
                    let whole = c.1 ∙ ap (λ (l : List Token). c.0 ++ l) o.4 ∙ sym (append_assoc c.0 o.2 rest) in (
                      c.0 ++ o.2,
                      whole,
                      elim j [
                        | inl m ↦ inl (inr (subst (λ (f : Formula). spell.several sep make L false f (c.0 ++ o.2)) (sym o.3) m))
                        | inr m ↦ inr (inr (subst (λ (f : Formula). spell.several sep make L true f (c.0 ++ o.2)) (sym o.3) m.0), m.1)
                      ],
                    )
                | inr l ↦ absurd (not_seen x.0.1 l.1 yes'.0)
              ]
          | inr no' ↦
              let p = same_read x.0.0 a x.0.1 rest no'.1 in (
                c.0,
                c.1 ∙ ap (λ (l : List Token). c.0 ++ l) p.1,
                elim c.2 [
                  | inl l ↦ inl (inl (subst (λ (f : Formula). L false f c.0) p.0 l))
                  | inr l ↦ inr (inl (subst (λ (f : Formula). L true f c.0) p.0 l.0), subst ended p.1 l.1)
                ],
              )
        ];
  }

-- ---- where a row ends

no_end : (sep : Kind) → sep ≢ k.End → is_kind k.End sep ≡ false
no_end sep ne = false_from_ne_true (is_kind k.End sep) (λ e. ne (sym (is_kind_true k.End sep e)))

module _ (sep : Kind) (is_end : sep ≢ k.End) (make : List Formula → Formula) (item : Parser Formula) (L : Bool → Grammar Formula)
    (reads : ReadsRow item L)
    (P : List Token → Type 0) (item_ends : (ts rest : List Token) (a : Formula) → item ts ≡ Some (a, rest) → P rest) where
  next_ends : (ts rest : List Token) (a : Formula) → read.next_item sep make item ts ≡ Some (a, rest) → P rest
  unfolding read.next_item
  next_ends ts rest a e = item_ends (r.tail ts) rest a e

  shorter : (ts rest : List Token) (a : Formula) → sees sep ts ≡ true → read.next_item sep make item ts ≡ Some (a, rest)
      → length rest < length ts
  unfolding read.next_item
  shorter ts rest a h e =
      let w = (takes_skip sep is_end ts (is_kind_true (head_kind ts) sep h)).by tt (r.tail ts) refl in
      let c = (reads (r.tail ts)).by a rest e in
      omega (arith, ap length w.1, ap length w.2.1, length-append w.0 (r.tail ts), ap length c.1, length-append c.0 rest)

  run_ends : (n : ℕ) (found : List Formula) (ts : List Token) (xs : List Formula) (rest : List Token) → length ts ≤ n → P ts
      → rest_of (sees sep) (read.next_item sep make item) n found ts ≡ Some (xs, rest) → P rest × (sees sep rest ≡ false)
  unfolding rest_of
  run_ends zero found [] xs rest le p e = let q = same_read found xs [] rest e in
      (subst P q.1 p, subst (λ (l : List Token). sees sep l ≡ false) q.1 (no_end sep is_end))
  run_ends zero found (t ∷ ts) xs rest le p e = absurd (omega arith)
  run_ends (suc n) found ts xs rest le p e =
      elim (chosen (sees sep ts) (and_then (read.next_item sep make item ts)
      (λ x. rest_of (sees sep) (read.next_item sep make item) n (found ++ x ∷ []))) (Some (found, ts)) (Some (xs, rest)) e) [
        | inl yes' ↦
            let x = and_then_some (read.next_item sep make item ts)
            (λ x. rest_of (sees sep) (read.next_item sep make item) n (found ++ x ∷ [])) (xs, rest) yes'.1 in
            run_ends n (found ++ x.0.0 ∷ []) x.0.1 xs rest (omega (arith, shorter ts x.0.1 x.0.0 yes'.0 x.1)) (next_ends ts x.0.1 x.0.0 x.1)
            x.2
        | inr no' ↦ let q = same_read found xs ts rest no'.1 in (subst P q.1 p, subst (λ (l : List Token). sees sep l ≡ false) q.1 no'.0)
      ]

  pub rows_end : (ts rest : List Token) (a : Formula) → read.rows sep make item ts ≡ Some (a, rest) → P rest × (sees sep rest ≡ false)
  unfolding read.rows row
  rows_end ts rest a e =
      let x = and_then_some (item ts) (read.row_on sep make item) (a, rest) e in
      let p = item_ends ts x.0.1 x.0.0 x.1 in
      elim (chosen (sees sep x.0.1) (read.rest_of_row sep make item x.0.0 x.0.1) (Some (x.0.0, x.0.1)) (Some (a, rest)) x.2) [
        | inl yes' ↦
            let y = and_then_some (read.next_item sep make item x.0.1)
            (λ second. r.◌>>=◌ (row (sees sep) (read.next_item sep make item) (x.0.0 ∷ (second ∷ []))) (λ all. r.pure (make all)))
            (a, rest) yes'.1 in
            let z = and_then_some (row (sees sep) (read.next_item sep make item) (x.0.0 ∷ (y.0.0 ∷ [])) y.0.1) (λ all. r.pure (make all))
            (a, rest) y.2 in
            let q = same_read (make z.0.0) a z.0.1 rest z.2 in
            let d = run_ends (length y.0.1) (x.0.0 ∷ (y.0.0 ∷ [])) y.0.1 z.0.0 z.0.1 (omega arith) (next_ends x.0.1 y.0.1 y.0.0 y.1) z.1 in
            (subst P q.1 d.0, subst (λ (l : List Token). sees sep l ≡ false) q.1 d.1)
        | inr no' ↦ let q = same_read x.0.0 a x.0.1 rest no'.1 in (subst P q.1 p, subst (λ (l : List Token). sees sep l ≡ false) q.1 no'.0)
      ]
