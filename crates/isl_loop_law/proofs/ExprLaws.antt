-- Expressions with one text, before what cannot go on with it, have one value everywhere.
use Rattle.std.proofs.Common.{◌≡◌, ◌<◌, ◌≤◌, ◌∙◌, ◌==◌, ◌⊎◌, inl, inr, ℕ, Bool, true, false, List, []}
use Rattle.std.proofs.Common.{◌∷◌, ◌++◌, length}
use Rattle.std.proofs.Common.{slice_index, ap, ap₂, sym, subst, refl, arith, ℤ, pos, ◌+ℤ◌, ◌*ℤ◌, ◌<ℤ◌, get_or}
use Rattle.std.specs.Prelude.{codes, unsigned_abs, int_lt}
use Rattle.std.specs.Fmt.{decimal}
use Rattle.std.specs.Int.{int_max, int_min}
use Rattle.std.specs.List.{AllByRecursion}
use Rattle.std.proofs.lemmas.Bool.{false≢true}
use Rattle.std.proofs.lemmas.List.{append_assoc, append_cancel_left}
use Rattle.isl_math.specs.Divide.{floor_div}
use Rattle.isl_meter.specs.Gauge.{Gauge, IsWithin}
use Rattle.isl_space.specs.Name.{Name, begins_name}
use Rattle.isl_space.proofs.DistinctLaws.{Distinct}
use Rattle.isl_row_text.specs.Joined.{Text, each_after, joined_by}
use Rattle.isl_loop.specs.declared.tree.Expr.{Expr, Expr', Row_of-Item, end_of-Item, more_of-Item}
use Rattle.isl_loop.specs.declared.tree.Atom.{Atom, Column, Floor', Ceil', Min', Max', Row_of-Expr, end_of-Expr, more_of-Expr}
use Rattle.isl_loop.specs.Expr.{expr_value, sum_value, atom_value, boxed_value, extreme_of, extreme_after, ceil_div}
use Rattle.isl_loop.specs.Formed.{IsExprOver, IsSumOver, IsAtomOver, AreExprsOver}
use Rattle.isl_loop_text.specs.ExprText.{sign_text, times_text, constant_text, expr_text, sum_text, atom_text}
use Rattle.isl_loop_text.specs.ExprText.{boxed_text, expr_texts}
use Rattle.isl_loop_law.proofs.WordLaws.{IsWord, tails, words, differ, decimals, IsNaming}
use Rattle.isl_loop_law.proofs.WordLaws.{name_first, positive_same, wide, same_sign}
use Rattle.isl_loop_law.proofs.NameLaws.{name_at, place_same}
use Rattle.isl_loop_law.proofs.SignLaws.{is_end, is_after, starts_expr, Begins, end_no_start, end_after, after_no_open, after_no_word}
use Rattle.isl_loop_law.proofs.SignLaws.{clash, sign_splits, sign_first, times_splits, times_first, IsUnwritten, IsWritten, view, written}
use Rattle.isl_loop_law.proofs.SignLaws.{number_first, constant_splits, no_summand, five, divided}

-- a word and what is in its brackets is no column
no_call : {A : Type 0} (name word z y : Text) → IsWord name → IsWord word → Begins is_after z → name ++ z ≡ word ++ (40 ∷ y) → A
no_call name word z y a b p same =
    let parts = words name word z (40 ∷ y) a b (after_no_word (slice_index z 0) p) refl same in
    differ (λ b. b == 40) (40 ∷ y) z refl (after_no_open (slice_index z 0) p) (sym parts.1)

floord_word : IsWord (codes "floord")
floord_word = (refl, (refl, (refl, (refl, (refl, (refl, tt))))))

ceild_word : IsWord (codes "ceild")
ceild_word = (refl, (refl, (refl, (refl, (refl, tt)))))

min_word : IsWord (codes "min")
min_word = (refl, (refl, (refl, tt)))

max_word : IsWord (codes "max")
max_word = (refl, (refl, (refl, tt)))

-- what stands behind an expression that is divided
abbrev divisor : ℤ → Text → Text
divisor k z = 44 ∷ 32 ∷ (decimal (unsigned_abs k) ++ (41 ∷ z))

divided_same : (b c : Text) (k l : ℤ) (z y : Text)
    → (((b ++ codes ", ") ++ decimal (unsigned_abs k)) ++ codes ")") ++ z
    ≡ (((c ++ codes ", ") ++ decimal (unsigned_abs l)) ++ codes ")") ++ y
    → b ++ divisor k z ≡ c ++ divisor l y
divided_same b c k l z y same =
    sym (divided b (codes ", ") (decimal (unsigned_abs k)) (codes ")") z) ∙ same
    ∙ divided c (codes ", ") (decimal (unsigned_abs l)) (codes ")") y

divisors : (g h : Gauge) → g.bits ≤ 127 → h.bits ≤ 127 → (k l : ℤ) (z y : Text) → (pos 0 <ℤ k) × IsWithin g k → (pos 0 <ℤ l) × IsWithin h l
    → divisor k z ≡ divisor l y → (k ≡ l) × (z ≡ y)
divisors g h gb hb k l z y low high same =
    let parts = decimals (unsigned_abs k) (unsigned_abs l) (41 ∷ z) (41 ∷ y) (wide g k gb low.1) (wide h l hb high.1) refl refl
    (append_cancel_left (codes ", ") (decimal (unsigned_abs k) ++ (41 ∷ z)) (decimal (unsigned_abs l) ++ (41 ∷ y)) same) in
    (positive_same k l low.0 high.0 parts.0, tails 41 41 z y parts.1)

three : (e r k z : Text) → ((e ++ r) ++ k) ++ z ≡ e ++ (r ++ (k ++ z))
three e r k z = simp append_assoc

close_end : (b : ℕ) → b == 41 ≡ true → is_end b ≡ true
close_end b is = grind arith

-- ---- expressions
-- two trees of expressions over columns with these names
module _ (names : List Name) (n : ℕ) (count : n ≡ length names) (distinct : Distinct names) (named : AllByRecursion IsNaming names) where
  place_below : (p : ℕ) → p < n → p < length names
  place_below p low = omega (arith, low, count)

  atom_first : (g : Gauge) (a : Atom) (z : Text) → IsAtomOver g n a → Begins begins_name (atom_text names a ++ z)
  atom_first g (Column p) z over = name_first (get_or names p []) z (name_at names p named (place_below p over))
  atom_first g (Floor' s row k) z over = refl
  atom_first g (Ceil' s row k) z over = refl
  atom_first g (Min' s row) z over = refl
  atom_first g (Max' s row) z over = refl

  rest_after : {m : _} → (row : Row_of-Item m) (c : ℤ) (z : Text) → Begins is_end z → Begins is_after (sum_text names false row c ++ z)
  rest_after end_of-Item c z p = by (view false c)
    where
      blank : (a : Bool) (x : Text) → Begins is_after (sign_text false a ++ x)
      blank true x = refl
      blank false x = refl

      by : IsUnwritten false c ⊎ IsWritten false c → Begins is_after (constant_text false c ++ z)
      by (inl u) = subst (λ t. Begins is_after (t ++ z)) (sym u.2) (end_after (slice_index z 0) p)
      by (inr u) = subst (Begins is_after) (sym (written false c z u)) (blank (int_lt c (pos 0)) (decimal (unsigned_abs c) ++ z))
  rest_after (more_of-Item x a row) c z p =
      subst (Begins is_after) (sym (five (sign_text false (int_lt x (pos 0))) (times_text (unsigned_abs x)) (atom_text names a)
      (sum_text names false row c) z))
      (blank (int_lt x (pos 0)) (times_text (unsigned_abs x) ++ (atom_text names a ++ (sum_text names false row c ++ z))))
    where
      blank : (a : Bool) (x : Text) → Begins is_after (sign_text false a ++ x)
      blank true x = refl
      blank false x = refl

  sum_first : {m : _} → (g : Gauge) → g.bits ≤ 127 → (row : Row_of-Item m) (c : ℤ) (z : Text) → IsSumOver g n row → IsWithin g c
      → Begins starts_expr (sum_text names true row c ++ z)
  sum_first g gb end_of-Item c z over low = by (view true c)
    where
      by : IsUnwritten true c ⊎ IsWritten true c → Begins starts_expr (constant_text true c ++ z)
      by (inl u) = absurd (false≢true (sym u.0))
      by (inr u) =
          subst (Begins starts_expr) (sym (written true c z u))
          (sign_first (int_lt c (pos 0)) (decimal (unsigned_abs c) ++ z) (number_first (unsigned_abs c) z (wide g c gb low)))
  sum_first g gb (more_of-Item x a row) c z over low =
      let after = atom_text names a ++ (sum_text names false row c ++ z) in
      subst (Begins starts_expr) (sym (five (sign_text true (int_lt x (pos 0))) (times_text (unsigned_abs x)) (atom_text names a)
      (sum_text names false row c) z))
      (sign_first (int_lt x (pos 0)) (times_text (unsigned_abs x) ++ after)
      (times_first (unsigned_abs x) after (wide g x gb over.0) (atom_first g a (sum_text names false row c ++ z) over.1)))

  pub expr_first : (g : Gauge) → g.bits ≤ 127 → (e : Expr) (z : Text) → IsExprOver g n e → Begins starts_expr (expr_text names e ++ z)
  expr_first g gb (Expr' s row c) z over = sum_first g gb row c z over.0 over.1

  -- an expression is no end
  pub no_expr : {A : Type 0} (g : Gauge) → g.bits ≤ 127 → (e : Expr) (z y : Text) → IsExprOver g n e → Begins is_end y
      → expr_text names e ++ z ≡ y → A
  no_expr g gb e z y over p same =
      differ starts_expr (expr_text names e ++ z) y (expr_first g gb e z over) (end_no_start (slice_index y 0) p) same

  each_end : {m : _} → (row : Row_of-Expr m) (z : Text) → Begins is_end z
      → Begins is_end (each_after (codes ", ") (expr_texts names row) ++ z)
  each_end end_of-Expr z p = p
  each_end (more_of-Expr e row) z p = refl

  module _ (g h : Gauge) (gb : g.bits ≤ 127) (hb : h.bits ≤ 127) where
    mutual
      pub expr_splits : (e f : Expr) (z y : Text) → IsExprOver g n e → IsExprOver h n f → Begins is_end z → Begins is_end y
          → expr_text names e ++ z ≡ expr_text names f ++ y → ((p : List ℤ) → expr_value e p ≡ expr_value f p) × (z ≡ y)
      expr_splits (Expr' s row c) (Expr' t sow d) z y over ov p q same =
          let parts = sum_splits row sow true c d z y over.0 ov.0 over.1 ov.1 p q same in
          (λ point. ap₂ (λ (a b : ℤ). a +ℤ b) (parts.0 point) parts.1, parts.2)

      sum_splits : {m k : _} → (row : Row_of-Item m) (sow : Row_of-Item k) (f : Bool) (c d : ℤ) (z y : Text) → IsSumOver g n row
          → IsSumOver h n sow
          → IsWithin g c → IsWithin h d → Begins is_end z → Begins is_end y
          → sum_text names f row c ++ z ≡ sum_text names f sow d ++ y
          → ((p : List ℤ) → sum_value row p ≡ sum_value sow p) × (c ≡ d) × (z ≡ y)
      sum_splits end_of-Item end_of-Item f c d z y over ov low high p q same =
          let parts = constant_splits f c d z y (wide g c gb low) (wide h d hb high) p q same in
          (λ point. refl, parts.0, parts.1)
      sum_splits end_of-Item (more_of-Item x a sow) f c d z y over ov low high p q same =
          let rest = sum_text names false sow d ++ y in
          no_summand f c x z (atom_text names a ++ rest) (wide g c gb low) (wide h x hb ov.0) p (atom_first h a rest ov.1)
          (same ∙ five (sign_text f (int_lt x (pos 0))) (times_text (unsigned_abs x)) (atom_text names a) (sum_text names false sow d) y)
      sum_splits (more_of-Item x a row) end_of-Item f c d z y over ov low high p q same =
          let rest = sum_text names false row c ++ z in
          no_summand f d x y (atom_text names a ++ rest) (wide h d hb high) (wide g x gb over.0) q (atom_first g a rest over.1)
          (sym same ∙ five (sign_text f (int_lt x (pos 0))) (times_text (unsigned_abs x)) (atom_text names a) (sum_text names false row c)
          z)
      sum_splits (more_of-Item x a row) (more_of-Item w b sow) f c d z y over ov low high p q same =
          let r = sum_text names false row c ++ z in
          let s = sum_text names false sow d ++ y in
          let first = atom_first g a r over.1 in
          let second = atom_first h b s ov.1 in
          let small = wide g x gb over.0 in
          let less = wide h w hb ov.0 in
          let signs = sign_splits f (int_lt x (pos 0)) (int_lt w (pos 0)) (times_text (unsigned_abs x) ++ (atom_text names a ++ r))
          (times_text (unsigned_abs w) ++ (atom_text names b ++ s))
          (times_first (unsigned_abs x) (atom_text names a ++ r) small first)
          (times_first (unsigned_abs w) (atom_text names b ++ s) less second)
          (sym (five (sign_text f (int_lt x (pos 0))) (times_text (unsigned_abs x)) (atom_text names a) (sum_text names false row c) z)
          ∙ same ∙ five (sign_text f (int_lt w (pos 0))) (times_text (unsigned_abs w)) (atom_text names b)
          (sum_text names false sow d) y) in
          let sizes = times_splits (unsigned_abs x) (unsigned_abs w) (atom_text names a ++ r) (atom_text names b ++ s) small less first
          second signs.1 in
          let atoms = atom_splits a b r s over.1 ov.1 (rest_after row c z p) (rest_after sow d y q) sizes.1 in
          let rests = sum_splits row sow false c d z y over.2 ov.2 low high p q atoms.1 in
          let coefs : x ≡ w = same_sign x w signs.0 sizes.0 in
          (λ point. ap₂ (λ (u v : ℤ). u +ℤ v) (ap₂ (λ (u v : ℤ). u *ℤ v) coefs (atoms.0 point)) (rests.0 point), rests.1, rests.2)

      atom_splits : (a b : Atom) (z y : Text) → IsAtomOver g n a → IsAtomOver h n b → Begins is_after z → Begins is_after y
          → atom_text names a ++ z ≡ atom_text names b ++ y → ((p : List ℤ) → atom_value a p ≡ atom_value b p) × (z ≡ y)
      atom_splits (Column i) (Column j) z y over ov p q same =
          let first = name_at names i named (place_below i over) in
          let second = name_at names j named (place_below j ov) in
          let parts = words (get_or names i []) (get_or names j []) z y first.word second.word
          (after_no_word (slice_index z 0) p) (after_no_word (slice_index y 0) q) same in
          let places = place_same names i j distinct (place_below i over) (place_below j ov) parts.0 in
          (λ point. ap (λ (k : ℕ). get_or point k (pos 0)) places, parts.1)
      atom_splits (Column i) (Floor' s row k) z y over ov p q same =
          no_call (get_or names i []) (codes "floord") z _ (name_at names i named (place_below i over)).word floord_word p same
      atom_splits (Column i) (Ceil' s row k) z y over ov p q same =
          no_call (get_or names i []) (codes "ceild") z _ (name_at names i named (place_below i over)).word ceild_word p same
      atom_splits (Column i) (Min' s row) z y over ov p q same =
          no_call (get_or names i []) (codes "min") z _ (name_at names i named (place_below i over)).word min_word p same
      atom_splits (Column i) (Max' s row) z y over ov p q same =
          no_call (get_or names i []) (codes "max") z _ (name_at names i named (place_below i over)).word max_word p same
      atom_splits (Floor' s row k) (Column j) z y over ov p q same =
          no_call (get_or names j []) (codes "floord") y _ (name_at names j named (place_below j ov)).word floord_word q (sym same)
      atom_splits (Ceil' s row k) (Column j) z y over ov p q same =
          no_call (get_or names j []) (codes "ceild") y _ (name_at names j named (place_below j ov)).word ceild_word q (sym same)
      atom_splits (Min' s row) (Column j) z y over ov p q same =
          no_call (get_or names j []) (codes "min") y _ (name_at names j named (place_below j ov)).word min_word q (sym same)
      atom_splits (Max' s row) (Column j) z y over ov p q same =
          no_call (get_or names j []) (codes "max") y _ (name_at names j named (place_below j ov)).word max_word q (sym same)
      atom_splits (Floor' s row k) (Floor' t sow l) z y over ov p q same =
          let boxes = boxed_splits row sow (divisor k z) (divisor l y) over.0 ov.0 refl refl
          (divided_same (boxed_text names row) (boxed_text names sow) k l z y (append_cancel_left (codes "floord(") _ _ same)) in
          let parts = divisors g h gb hb k l z y (over.1, over.2) (ov.1, ov.2) boxes.1 in
          (λ point. ap₂ floor_div (boxes.0 point) parts.0, parts.1)
      atom_splits (Ceil' s row k) (Ceil' t sow l) z y over ov p q same =
          let boxes = boxed_splits row sow (divisor k z) (divisor l y) over.0 ov.0 refl refl
          (divided_same (boxed_text names row) (boxed_text names sow) k l z y (append_cancel_left (codes "ceild(") _ _ same)) in
          let parts = divisors g h gb hb k l z y (over.1, over.2) (ov.1, ov.2) boxes.1 in
          (λ point. ap₂ ceil_div (boxes.0 point) parts.0, parts.1)
      atom_splits (Min' s row) (Min' t sow) z y over ov p q same =
          let parts = exprs_splits row sow z y over.0 ov.0 (append_cancel_left (codes "min(") _ _ same) in (parts.0 int_min, parts.1)
      atom_splits (Max' s row) (Max' t sow) z y over ov p q same =
          let parts = exprs_splits row sow z y over.0 ov.0 (append_cancel_left (codes "max(") _ _ same) in (parts.0 int_max, parts.1)
      atom_splits (Floor' s row k) (Ceil' t sow l) z y over ov p q same =
          clash 1 (atom_text names (Floor' s row k) ++ z) (atom_text names (Ceil' t sow l) ++ y) refl same
      atom_splits (Floor' s row k) (Min' t sow) z y over ov p q same =
          clash 1 (atom_text names (Floor' s row k) ++ z) (atom_text names (Min' t sow) ++ y) refl same
      atom_splits (Floor' s row k) (Max' t sow) z y over ov p q same =
          clash 1 (atom_text names (Floor' s row k) ++ z) (atom_text names (Max' t sow) ++ y) refl same
      atom_splits (Ceil' s row k) (Floor' t sow l) z y over ov p q same =
          clash 1 (atom_text names (Ceil' s row k) ++ z) (atom_text names (Floor' t sow l) ++ y) refl same
      atom_splits (Ceil' s row k) (Min' t sow) z y over ov p q same =
          clash 1 (atom_text names (Ceil' s row k) ++ z) (atom_text names (Min' t sow) ++ y) refl same
      atom_splits (Ceil' s row k) (Max' t sow) z y over ov p q same =
          clash 1 (atom_text names (Ceil' s row k) ++ z) (atom_text names (Max' t sow) ++ y) refl same
      atom_splits (Min' s row) (Floor' t sow l) z y over ov p q same =
          clash 1 (atom_text names (Min' s row) ++ z) (atom_text names (Floor' t sow l) ++ y) refl same
      atom_splits (Min' s row) (Ceil' t sow l) z y over ov p q same =
          clash 1 (atom_text names (Min' s row) ++ z) (atom_text names (Ceil' t sow l) ++ y) refl same
      atom_splits (Min' s row) (Max' t sow) z y over ov p q same =
          clash 1 (atom_text names (Min' s row) ++ z) (atom_text names (Max' t sow) ++ y) refl same
      atom_splits (Max' s row) (Floor' t sow l) z y over ov p q same =
          clash 1 (atom_text names (Max' s row) ++ z) (atom_text names (Floor' t sow l) ++ y) refl same
      atom_splits (Max' s row) (Ceil' t sow l) z y over ov p q same =
          clash 1 (atom_text names (Max' s row) ++ z) (atom_text names (Ceil' t sow l) ++ y) refl same
      atom_splits (Max' s row) (Min' t sow) z y over ov p q same =
          clash 1 (atom_text names (Max' s row) ++ z) (atom_text names (Min' t sow) ++ y) refl same

      boxed_splits : {m k : _} → (row : Row_of-Expr m) (sow : Row_of-Expr k) (z y : Text) → AreExprsOver g n row → AreExprsOver h n sow
          → Begins is_end z → Begins is_end y → boxed_text names row ++ z ≡ boxed_text names sow ++ y
          → ((p : List ℤ) → boxed_value row p ≡ boxed_value sow p) × (z ≡ y)
      boxed_splits end_of-Expr end_of-Expr z y over ov p q same = (λ point. refl, same)
      boxed_splits end_of-Expr (more_of-Expr f sow) z y over ov p q same = no_expr h hb f y z ov.0 p (sym same)
      boxed_splits (more_of-Expr e row) end_of-Expr z y over ov p q same = no_expr g gb e z y over.0 q same
      boxed_splits (more_of-Expr e row) (more_of-Expr f sow) z y over ov p q same = expr_splits e f z y over.0 ov.0 p q same

      exprs_splits : {m k : _} → (row : Row_of-Expr m) (sow : Row_of-Expr k) (z y : Text) → AreExprsOver g n row → AreExprsOver h n sow
          → (joined_by (codes ", ") (expr_texts names row) ++ codes ")") ++ z
          ≡ (joined_by (codes ", ") (expr_texts names sow) ++ codes ")") ++ y
          → ((f : ℤ → ℤ → ℤ) (p : List ℤ) → extreme_of f row p ≡ extreme_of f sow p) × (z ≡ y)
      exprs_splits end_of-Expr end_of-Expr z y over ov same = (λ f point. refl, tails 41 41 z y same)
      exprs_splits end_of-Expr (more_of-Expr f sow) z y over ov same =
          let more = each_after (codes ", ") (expr_texts names sow) in
          no_expr h hb f (more ++ (41 ∷ y)) (41 ∷ z) ov.0 refl (sym (three (expr_text names f) more (codes ")") y) ∙ sym same)
      exprs_splits (more_of-Expr e row) end_of-Expr z y over ov same =
          let more = each_after (codes ", ") (expr_texts names row) in
          no_expr g gb e (more ++ (41 ∷ z)) (41 ∷ y) over.0 refl (sym (three (expr_text names e) more (codes ")") z) ∙ same)
      exprs_splits (more_of-Expr e row) (more_of-Expr f sow) z y over ov same =
          let first = each_after (codes ", ") (expr_texts names row) in
          let second = each_after (codes ", ") (expr_texts names sow) in
          let one = expr_splits e f (first ++ (41 ∷ z)) (second ++ (41 ∷ y)) over.0 ov.0 (each_end row (41 ∷ z) refl)
          (each_end sow (41 ∷ y) refl)
          (sym (three (expr_text names e) first (codes ")") z) ∙ same ∙ three (expr_text names f) second (codes ")") y) in
          let rest = each_splits row sow (41 ∷ z) (41 ∷ y) over.1 ov.1 refl refl one.1 in (
            λ better point. ap (λ (best : ℤ). extreme_after better best row point) (one.0 point)
                ∙ rest.0 better (expr_value f point) point,
            tails 41 41 z y rest.1,
          )

      each_splits : {m k : _} → (row : Row_of-Expr m) (sow : Row_of-Expr k) (z y : Text) → AreExprsOver g n row → AreExprsOver h n sow
          → slice_index z 0 == 41 ≡ true → slice_index y 0 == 41 ≡ true
          → each_after (codes ", ") (expr_texts names row) ++ z ≡ each_after (codes ", ") (expr_texts names sow) ++ y
          → ((f : ℤ → ℤ → ℤ) (best : ℤ) (p : List ℤ) → extreme_after f best row p ≡ extreme_after f best sow p) × (z ≡ y)
      each_splits end_of-Expr end_of-Expr z y over ov p q same = (λ f best point. refl, same)
      each_splits end_of-Expr (more_of-Expr f sow) z y over ov p q same =
          differ (λ b. b == 41) z (each_after (codes ", ") (expr_texts names (more_of-Expr f sow)) ++ y) p refl same
      each_splits (more_of-Expr e row) end_of-Expr z y over ov p q same =
          differ (λ b. b == 41) y (each_after (codes ", ") (expr_texts names (more_of-Expr e row)) ++ z) q refl (sym same)
      each_splits (more_of-Expr e row) (more_of-Expr f sow) z y over ov p q same =
          let first = each_after (codes ", ") (expr_texts names row) in
          let second = each_after (codes ", ") (expr_texts names sow) in
          let one = expr_splits e f (first ++ z) (second ++ y) over.0 ov.0 (each_end row z (close_end (slice_index z 0) p))
          (each_end sow y (close_end (slice_index y 0) q))
          (sym (append_assoc (expr_text names e) first z)
          ∙ append_cancel_left (codes ", ") ((expr_text names e ++ first) ++ z) ((expr_text names f ++ second) ++ y) same
          ∙ append_assoc (expr_text names f) second y) in
          let rest = each_splits row sow z y over.1 ov.1 p q one.1 in (
            λ better best point. ap (λ (number : ℤ). extreme_after better (better best number) row point) (one.0 point)
                ∙ rest.0 better (better best (expr_value f point)) point,
            rest.1,
          )
