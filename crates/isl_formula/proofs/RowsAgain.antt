-- Rows of one operator, whose last item may be open: what is spelled so is read again.
use Rattle.std.proofs.Common.{◌≡◌, ℕ, zero, suc, ◌+◌, ◌<◌, ◌≤◌, Bool, true, false, List, [], ◌∷◌, ◌++◌, length, Some, refl, sym, ap, ◌∙◌}
use Rattle.std.proofs.Common.{inl, inr, arith, append_assoc, length-append}
use Rattle.std.proofs.lemmas.List.{append-nil}
use Rattle.isl_token.specs.TokenView.{Token}
use Rattle.isl_token.specs.declared.token.Kind.{Kind}
use Rattle.isl_tree.specs.declared.tree.Formula.{Formula}
use Rattle.isl_token.specs.Token.{is_kind}
use Rattle.isl_token.specs.Reading.{Parser, rest_of, row}
use Rattle.isl_token.specs.Spelling.{Grammar}
use Rattle.isl_token.specs.Spelling as s
use Rattle.isl_token.specs.Reading.{sees}
use Rattle.isl_formula.specs.Formula as read
use Rattle.isl_formula.specs.FormulaGrammar as spell
use Rattle.isl_token.proofs.Again.{Stops, Again, Starts, Full, again_skip, starts_bind, starts_word, full_bind, full_word}
use Rattle.isl_token.proofs.Taking.{is_kind_same}
use Rattle.isl_token.proofs.Turns.{stops as stopped}

-- `G false` has the closed items, and `G b` what may stand last. stops ends a closed item, last what may stand last.
module _ (size : ℕ) (sep : Kind) (make : List Formula → Formula) (item : Parser Formula) (G : Bool → Grammar Formula) (b : Bool)
    (stops last : Stops)
    (closed : Again size item (G false) stops) (final : Again size item (G b) last)
    (sep_stops : (ts : List Token) → sees sep ts ≡ true → stops ts ≡ true)
    (last_over : (ts : List Token) → last ts ≡ true → sees sep ts ≡ false) where
  abbrev L : Grammar Formula
  L = G false

  abbrev F : Grammar Formula
  F = G b

  abbrev after : Grammar Formula → Grammar Formula
  after M = s.◌>>◌ (s.word sep) M

  next_again : (M : Grammar Formula) (end : Stops) → Again size item M end → Again size (read.next_item sep make item) (after M) end
  unfolding read.next_item
  next_again M end h = record {
    by = λ a us rest l lt stop. (again_skip sep size (λ _. item) (λ _. M) end (λ _. h)).by a us rest l
        (omega arith) stop;
  }

  after_sees : (M : Grammar Formula) → Starts (after M) (sees sep)
  after_sees M = starts_bind (s.word sep) (λ _. M) (sees sep) (starts_word sep (λ kind. is_kind kind sep) (is_kind_same sep sep refl))

  after_full : (M : Grammar Formula) → Full (after M)
  after_full M = full_bind (s.word sep) (λ _. M) (full_word sep)

  more_sees : (ys : List Formula) {x : Formula} (us vs rest : List Token) → s.many (after L) ys us → after F x vs
      → sees sep (us ++ (vs ++ rest)) ≡ true
  more_sees [] us vs rest l f = rw l ((after_sees F).by _ vs rest f)
  more_sees (y ∷ ys) us vs rest l f = rw (l.2, append_assoc l.0 l.1 (vs ++ rest)) ((after_sees L).by y l.0 (l.1 ++ (vs ++ rest)) l.3)

  ends : (fuel : ℕ) (found : List Formula) (rest : List Token) → sees sep rest ≡ false
      → rest_of (sees sep) (read.next_item sep make item) fuel found rest ≡ Some (found, rest)
  ends fuel found rest e = stopped (sees sep) (read.next_item sep make item) fuel found rest e

  -- after closed items and the last one the row is over
  run_again : (fuel : ℕ) (found middle : List Formula) (x : Formula) (us vs rest : List Token) → s.many (after L) middle us → after F x vs
      → suc (length middle) ≤ fuel
      → length us < size → length vs < size → last rest ≡ true
      → rest_of (sees sep) (read.next_item sep make item) fuel found (us ++ (vs ++ rest)) ≡ Some (found ++ (middle ++ x ∷ []), rest)
  unfolding rest_of
  run_again zero found middle x us vs rest l f le lt lt2 stop = absurd (omega arith)
  run_again (suc fuel) found [] x us vs rest l f le lt lt2 stop =
      let goes = (after_sees F).by x vs rest f in
      let one = (next_again F last final).by x vs rest f lt2 stop in
      let over = ends fuel (found ++ x ∷ []) rest (last_over rest stop) in
      rw (l, goes, one) over
  run_again (suc fuel) found (y ∷ ys) x us vs rest l f le lt lt2 stop =
      let lens : length us ≡ length l.0 + length l.1 = ap length l.2 ∙ length-append l.0 l.1 in
      let regrouped : us ++ (vs ++ rest) ≡ l.0 ++ (l.1 ++ (vs ++ rest)) = ap (λ (z : List Token). z ++ (vs ++ rest)) l.2
      ∙ append_assoc l.0 l.1 (vs ++ rest) in
      let goes = (after_sees L).by y l.0 (l.1 ++ (vs ++ rest)) l.3 in
      let one = (next_again L stops closed).by y l.0 (l.1 ++ (vs ++ rest)) l.3 (omega arith)
      (sep_stops _ (more_sees ys l.1 vs rest l.4 f)) in
      let then = run_again fuel (found ++ y ∷ []) ys x l.1 vs rest l.4 f (omega arith) (omega arith) lt2 stop in
      ap (rest_of (sees sep) (read.next_item sep make item) (suc fuel) found) regrouped
      ∙ rw (goes, one) (then ∙ ap (λ (zs : List Formula). Some (zs, rest)) (append_assoc found (y ∷ []) (ys ++ x ∷ [])))

  count : (xs : List Formula) (us : List Token) → s.many (after L) xs us → length xs ≤ length us
  count [] us l = omega arith
  count (x ∷ xs) us l = omega (arith, ap length l.2, length-append l.0 l.1, (after_full L).by x l.0 l.3, count xs l.1 l.4)

  -- the items after the first
  others_again : (first x : Formula) (middle : List Formula) (us vs rest : List Token) → s.many (after L) middle us → after F x vs
      → length us < size → length vs < size → last rest ≡ true
      → read.rest_of_row sep make item first (us ++ (vs ++ rest)) ≡ Some (make (first ∷ (middle ++ x ∷ [])), rest)
  unfolding row
  others_again first x [] us vs rest l f lt lt2 stop =
      let one = (next_again F last final).by x vs rest f lt2 stop in
      let over = ends (length rest) (first ∷ (x ∷ [])) rest (last_over rest stop) in
      rw (l, one, over) refl
  others_again first x (y ∷ ys) us vs rest l f lt lt2 stop =
      let lens : length us ≡ length l.0 + length l.1 = ap length l.2 ∙ length-append l.0 l.1 in
      let regrouped : us ++ (vs ++ rest) ≡ l.0 ++ (l.1 ++ (vs ++ rest)) = ap (λ (z : List Token). z ++ (vs ++ rest)) l.2
      ∙ append_assoc l.0 l.1 (vs ++ rest) in
      let one = (next_again L stops closed).by y l.0 (l.1 ++ (vs ++ rest)) l.3 (omega arith)
      (sep_stops _ (more_sees ys l.1 vs rest l.4 f)) in
      let fuel = length (l.1 ++ (vs ++ rest)) in
      let enough : suc (length ys) ≤ fuel = omega (
        arith,
        length-append l.1 (vs ++ rest),
        length-append vs rest,
        count ys l.1 l.4,
        (after_full F).by x vs f,
      ) in
      let then = run_again fuel (first ∷ (y ∷ [])) ys x l.1 vs rest l.4 f enough (omega arith) lt2 stop in
      ap (read.rest_of_row sep make item first) regrouped ∙ rw (one, then) refl

  several_again : (a : Formula) (ts rest : List Token) → spell.several sep make G b a ts → length ts < size → last rest ≡ true
      → read.rows sep make item (ts ++ rest) ≡ Some (a, rest)
  unfolding read.rows
  several_again a ts rest (first, us, vs, e, l, (middle, ws, xs, e2, m, (x, ys, zs, e3, f, p))) lt stop =
      let whole : ts ≡ us ++ (ws ++ ys) = e ∙ ap (λ (z : List Token). us ++ z)
      (e2 ∙ ap (λ (z : List Token). ws ++ z) (e3 ∙ ap (λ (z : List Token). ys ++ z) p.1 ∙ append-nil ys)) in
      let lens : length ts ≡ length us + (length ws + length ys) = ap length whole ∙ length-append us (ws ++ ys)
      ∙ ap (λ n. length us + n) (length-append ws ys) in
      let regrouped : ts ++ rest ≡ us ++ (ws ++ (ys ++ rest)) = ap (λ (z : List Token). z ++ rest) whole ∙ append_assoc us (ws ++ ys) rest
      ∙ ap (λ (z : List Token). us ++ z) (append_assoc ws ys rest) in
      let goes = more_sees middle ws ys rest m f in
      let one = closed.by first us (ws ++ (ys ++ rest)) l (omega arith) (sep_stops _ goes) in
      let then = others_again first x middle ws ys rest m f (omega arith) (omega arith) stop in
      ap (read.rows sep make item) regrouped ∙ rw (one, goes, then) (ap (λ (f : Formula). Some (f, rest)) (sym p.0))

  single_again : (a : Formula) (ts rest : List Token) → G b a ts → length ts < size → last rest ≡ true
      → read.rows sep make item (ts ++ rest) ≡ Some (a, rest)
  unfolding read.rows
  single_again a ts rest l lt stop = rw (final.by a ts rest l lt stop, last_over rest stop) refl

  pub rows_again : Again size (read.rows sep make item) (spell.rows sep make G b) last
  rows_again = record {
    by = λ a ts rest l lt stop. elim l [ inl x ↦ single_again a ts rest x lt stop | inr y ↦ several_again a ts rest y lt stop ];
  }
