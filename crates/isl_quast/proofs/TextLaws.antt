-- Trees with one text give the same everywhere.
use Rattle.std.proofs.Common.{◌≡◌, ◌≤◌, ◌∙◌, ◌==◌, ◌⊎◌, inl, inr, ℕ, Bool, true, false, ◌&&◌, List, [], ◌∷◌, ◌++◌, length, not}
use Rattle.std.proofs.Common.{slice_index, ap, ap₂, sym, subst, refl, arith, ℤ, pos, get_or, Option, Some}
use Rattle.std.specs.Prelude.{codes, unsigned_abs, int_lt, if◌then◌else◌, map}
use Rattle.std.specs.Char.{is_ascii_digit}
use Rattle.std.specs.Fmt.{decimal}
use Rattle.std.specs.List.{All, AllByRecursion}
use Rattle.std.proofs.lemmas.Bool.{false≢true}
use Rattle.std.proofs.lemmas.List.{append_assoc, append_cancel_left}
use Rattle.std.proofs.lemmas.List.Elements.{recursion_from_All}
use Rattle.isl_meter.specs.Gauge.{Gauge, IsWithin}
use Rattle.isl_space.specs.Name.{Name, IsLiteralName}
use Rattle.isl_space.specs.Names.{AreDistinct}
use Rattle.isl_space.proofs.DistinctLaws.{Distinct, distinct_from}
use Rattle.isl_row_text.specs.Joined.{Text, each_after, joined_by}
use Rattle.isl_loop.specs.declared.tree.Expr.{Expr, Expr', Row_of-Item, end_of-Item, more_of-Item}
use Rattle.isl_loop.specs.declared.tree.Atom.{Atom, Column, Floor', Ceil', Min', Max', Row_of-Expr, end_of-Expr, more_of-Expr}
use Rattle.isl_loop.specs.Expr.{expr_value}
use Rattle.isl_loop.specs.Formed.{IsExprOver, IsSumOver, IsAtomOver, AreExprsOver}
use Rattle.isl_loop_text.specs.ExprText.{sign_text, times_text, constant_text, coefficient_text, expr_text, sum_text, atom_text}
use Rattle.isl_loop_text.specs.ExprText.{boxed_text, expr_texts}
use Rattle.isl_loop_law.proofs.WordLaws.{in_word, IsNaming, IsWord, AreIn, runs, heads, tails, naming, decimal_digits, wide}
use Rattle.isl_loop_law.proofs.NameLaws.{name_at}
use Rattle.isl_loop_law.proofs.SignLaws.{clash}
use Rattle.isl_loop_law.proofs.ExprLaws.{expr_splits}
use Rattle.isl_loop_law.proofs.LoopLaws.{arguments}
use Rattle.isl_quast.specs.declared.tree.Quast.{Quast, Missing, Leaf, If', Row_of-Quast, end_of-Quast, more_of-Quast}
use Rattle.isl_quast.specs.ForestText.{line, tree_lines, lines_in}
use Rattle.isl_quast.specs.OneTree.{OneTree}
use Rattle.isl_quast.specs.Tree.{quast_at, quast_in, IsQuastOver, AreQuastsOver}

-- ---- an expression has no `>`
abbrev other : ℕ → Bool
other b = not (b == 62)

in_append : (a b : Text) → AreIn other a → AreIn other b → AreIn other (a ++ b)
in_append [] b p q = q
in_append (c ∷ a) b p q = (p.0, in_append a b p.1 q)

word_other : (b : ℕ) → in_word b ≡ true → other b ≡ true
word_other b is = grind arith

digit_other : (b : ℕ) → is_ascii_digit b ≡ true → other b ≡ true
digit_other b is = grind arith

words_other : (w : Text) → IsWord w → AreIn other w
words_other [] all = tt
words_other (b ∷ w) all = (word_other b all.0, words_other w all.1)

digits_other : (w : Text) → AreIn is_ascii_digit w → AreIn other w
digits_other [] all = tt
digits_other (b ∷ w) all = (digit_other b all.0, digits_other w all.1)

sign_other : (f n : Bool) → AreIn other (sign_text f n)
sign_other true true = (refl, tt)
sign_other true false = tt
sign_other false true = (refl, (refl, (refl, tt)))
sign_other false false = (refl, (refl, (refl, tt)))

module _ (names : List Name) (n : ℕ) (count : n ≡ length names) (named : AllByRecursion IsNaming names) (g : Gauge) (gb : g.bits ≤ 127) where
  number_other : (z : ℤ) → IsWithin g z → AreIn other (decimal (unsigned_abs z))
  number_other z within = digits_other (decimal (unsigned_abs z)) (decimal_digits (unsigned_abs z) (wide g z gb within))

  times_other : (z : ℤ) → IsWithin g z → AreIn other (times_text (unsigned_abs z))
  times_other z within = by (unsigned_abs z == 1)
    where
      by : (q : Bool) → AreIn other (if q then [] else decimal (unsigned_abs z) ++ codes "*")
      by true = tt
      by false = in_append (decimal (unsigned_abs z)) (codes "*") (number_other z within) (refl, tt)

  constant_other : (f : Bool) (z : ℤ) → IsWithin g z → AreIn other (constant_text f z)
  constant_other f z within = by (unsigned_abs z == 0 && not f)
    where
      by : (q : Bool) → AreIn other (if q then [] else sign_text f (int_lt z (pos 0)) ++ decimal (unsigned_abs z))
      by true = tt
      by false = in_append (sign_text f (int_lt z (pos 0))) (decimal (unsigned_abs z)) (sign_other f (int_lt z (pos 0))) (number_other z within)

  mutual
    expr_other : (e : Expr) → IsExprOver g n e → AreIn other (expr_text names e)
    expr_other (Expr' s row c) over = sum_other true row c over.0 over.1

    sum_other : {m : _} → (f : Bool) (row : Row_of-Item m) (c : ℤ) → IsSumOver g n row → IsWithin g c → AreIn other (sum_text names f row c)
    sum_other f end_of-Item c over within = constant_other f c within
    sum_other f (more_of-Item x a row) c over within =
        in_append (coefficient_text f x ++ atom_text names a) (sum_text names false row c)
        (in_append (coefficient_text f x) (atom_text names a)
        (in_append (sign_text f (int_lt x (pos 0))) (times_text (unsigned_abs x)) (sign_other f (int_lt x (pos 0))) (times_other x over.0))
        (atom_other a over.1))
        (sum_other false row c over.2 within)

    atom_other : (a : Atom) → IsAtomOver g n a → AreIn other (atom_text names a)
    atom_other (Column place) over = words_other (get_or names place []) (name_at names place named (omega (arith, over, count))).word
    atom_other (Floor' s row k) over =
        in_append (((codes "floord(" ++ boxed_text names row) ++ codes ", ") ++ decimal (unsigned_abs k)) (codes ")")
        (in_append ((codes "floord(" ++ boxed_text names row) ++ codes ", ") (decimal (unsigned_abs k))
        (in_append (codes "floord(" ++ boxed_text names row) (codes ", ")
        (in_append (codes "floord(") (boxed_text names row) (refl, (refl, (refl, (refl, (refl, (refl, (refl, tt))))))) (boxed_other row over.0))
        (refl, (refl, tt))) (number_other k over.2)) (refl, tt)
    atom_other (Ceil' s row k) over =
        in_append (((codes "ceild(" ++ boxed_text names row) ++ codes ", ") ++ decimal (unsigned_abs k)) (codes ")")
        (in_append ((codes "ceild(" ++ boxed_text names row) ++ codes ", ") (decimal (unsigned_abs k))
        (in_append (codes "ceild(" ++ boxed_text names row) (codes ", ")
        (in_append (codes "ceild(") (boxed_text names row) (refl, (refl, (refl, (refl, (refl, (refl, tt)))))) (boxed_other row over.0))
        (refl, (refl, tt))) (number_other k over.2)) (refl, tt)
    atom_other (Min' s row) over =
        in_append (codes "min(" ++ joined_by (codes ", ") (expr_texts names row)) (codes ")")
        (in_append (codes "min(") (joined_by (codes ", ") (expr_texts names row)) (refl, (refl, (refl, (refl, tt)))) (exprs_other row over.0)) (refl, tt)
    atom_other (Max' s row) over =
        in_append (codes "max(" ++ joined_by (codes ", ") (expr_texts names row)) (codes ")")
        (in_append (codes "max(") (joined_by (codes ", ") (expr_texts names row)) (refl, (refl, (refl, (refl, tt)))) (exprs_other row over.0)) (refl, tt)

    boxed_other : {m : _} → (row : Row_of-Expr m) → AreExprsOver g n row → AreIn other (boxed_text names row)
    boxed_other end_of-Expr over = tt
    boxed_other (more_of-Expr e rest) over = expr_other e over.0

    exprs_other : {m : _} → (row : Row_of-Expr m) → AreExprsOver g n row → AreIn other (joined_by (codes ", ") (expr_texts names row))
    exprs_other end_of-Expr over = tt
    exprs_other (more_of-Expr e rest) over =
        in_append (expr_text names e) (each_after (codes ", ") (expr_texts names rest)) (expr_other e over.0) (each_other rest over.1)

    each_other : {m : _} → (row : Row_of-Expr m) → AreExprsOver g n row → AreIn other (each_after (codes ", ") (expr_texts names row))
    each_other end_of-Expr over = tt
    each_other (more_of-Expr e rest) over =
        in_append (codes ", " ++ expr_text names e) (each_after (codes ", ") (expr_texts names rest))
        (in_append (codes ", ") (expr_text names e) (refl, (refl, tt)) (expr_other e over.0)) (each_other rest over.1)

-- ---- a test ends before ` >= 0`
none_more : (b : Text) → [] ≡ b ++ 32 ∷ [] → ⊥
none_more [] same = let l = ap length same in omega (arith, l)
none_more (c ∷ b) same = let l = ap length same in omega (arith, l)

-- what a blank ends
without_blank : (a b : Text) → a ++ 32 ∷ [] ≡ b ++ 32 ∷ [] → a ≡ b
without_blank [] [] same = refl
without_blank [] (c ∷ b) same = absurd (none_more b (tails 32 c [] (b ++ 32 ∷ []) same))
without_blank (c ∷ a) [] same = absurd (none_more a (sym (tails c 32 (a ++ 32 ∷ []) [] same)))
without_blank (c ∷ a) (d ∷ b) same =
    ap₂ (λ e l. e ∷ l) (heads c d (a ++ 32 ∷ []) (b ++ 32 ∷ []) same) (without_blank a b (tails c d (a ++ 32 ∷ []) (b ++ 32 ∷ []) same))

blank_apart : (e z : Text) → e ++ (32 ∷ z) ≡ (e ++ 32 ∷ []) ++ z
blank_apart e z = sym (append_assoc e (32 ∷ []) z)

-- ---- lines
line_text : (m t z : Text) → line m t ++ z ≡ m ++ (t ++ (10 ∷ z))
line_text m t z = simp append_assoc

leaf_text : (m o j c z : Text) → line m (o ++ j ++ c) ++ z ≡ m ++ (o ++ (j ++ (c ++ (10 ∷ z))))
leaf_text m o j c z = simp append_assoc

test_text : (m i e g u j d k z : Text) → (line m (i ++ e ++ g) ++ u ++ line m j ++ d ++ line m k) ++ z
    ≡ m ++ (i ++ (e ++ (g ++ (10 ∷ (u ++ (m ++ (j ++ (10 ∷ (d ++ (m ++ (k ++ (10 ∷ z))))))))))))
test_text m i e g u j d k z = simp append_assoc

-- ---- trees
-- two trees over columns with these names
module _ (names : List Name) (n : ℕ) (count : n ≡ length names) (distinct : Distinct names) (named : AllByRecursion IsNaming names)
    (g h : Gauge) (gb : g.bits ≤ 127) (hb : h.bits ≤ 127) where
  test_splits : (e f : Expr) (z y : Text) → IsExprOver g n e → IsExprOver h n f
      → expr_text names e ++ (codes " >= 0) {" ++ z) ≡ expr_text names f ++ (codes " >= 0) {" ++ y)
      → ((p : List ℤ) → expr_value e p ≡ expr_value f p) × (z ≡ y)
  test_splits e f z y over ov same =
      let first = in_append (expr_text names e) (32 ∷ []) (expr_other names n count named g gb e over) (refl, tt) in
      let second = in_append (expr_text names f) (32 ∷ []) (expr_other names n count named h hb f ov) (refl, tt) in
      let parts = runs other (expr_text names e ++ 32 ∷ []) (expr_text names f ++ 32 ∷ []) (codes ">= 0) {" ++ z) (codes ">= 0) {" ++ y)
      first second refl refl
      (sym (blank_apart (expr_text names e) (codes ">= 0) {" ++ z)) ∙ same ∙ blank_apart (expr_text names f) (codes ">= 0) {" ++ y)) in
      let text = without_blank (expr_text names e) (expr_text names f) parts.0 in
      let values = expr_splits names n count distinct named g h gb hb e f (41 ∷ []) (41 ∷ []) over ov refl refl
      (ap (λ t. t ++ (41 ∷ [])) text) in
      (values.0, append_cancel_left (codes ">= 0) {") z y parts.1)

  abbrev leaf_behind : List Expr → Text → Text
  leaf_behind es z = codes "(" ++ (joined_by (codes ", ") (map (expr_text names) es) ++ (codes ")" ++ (10 ∷ z)))

  abbrev test_behind : Expr → Text → Text → Text → Text → Text
  test_behind e m u d z =
      codes "if (" ++ (expr_text names e ++ (codes " >= 0) {" ++ (10 ∷ (u ++ (m ++ (codes "} else {" ++ (10 ∷ (d ++ (m ++ (codes "}" ++ (10 ∷ z)))))))))))

  abbrev behind : Text → Quast → Text → Text
  behind m Missing z = codes "none" ++ (10 ∷ z)
  behind m (Leaf es) z = leaf_behind es z
  behind m (If' e s up t down) z = test_behind e m (lines_in names (m ++ codes "  ") up) (lines_in names (m ++ codes "  ") down) z

  is_behind : (m : Text) (a : Quast) (z : Text) → tree_lines names m a ++ z ≡ m ++ behind m a z
  is_behind m Missing z = line_text m (codes "none") z
  is_behind m (Leaf es) z = leaf_text m (codes "(") (joined_by (codes ", ") (map (expr_text names) es)) (codes ")") z
  is_behind m (If' e s up t down) z =
      test_text m (codes "if (") (expr_text names e) (codes " >= 0) {") (lines_in names (m ++ codes "  ") up) (codes "} else {")
      (lines_in names (m ++ codes "  ") down) (codes "}") z

  mutual
    behind_splits : (a b : Quast) (m z y : Text) → IsQuastOver g n a → IsQuastOver h n b → behind m a z ≡ behind m b y
        → ((p : List ℤ) → quast_at a p ≡ quast_at b p) × (z ≡ y)
    behind_splits Missing Missing m z y over ov same = (λ p. refl, tails 10 10 z y (append_cancel_left (codes "none") (10 ∷ z) (10 ∷ y) same))
    behind_splits Missing (Leaf fs) m z y over ov same = clash 0 (codes "none" ++ (10 ∷ z)) (leaf_behind fs y) refl same
    behind_splits Missing (If' f s up t down) m z y over ov same =
        clash 0 (codes "none" ++ (10 ∷ z)) (behind m (If' f s up t down) y) refl same
    behind_splits (Leaf es) Missing m z y over ov same = clash 0 (leaf_behind es z) (codes "none" ++ (10 ∷ y)) refl same
    behind_splits (Leaf es) (Leaf fs) m z y over ov same =
        let parts = arguments names n count distinct named g h gb hb es fs (10 ∷ z) (10 ∷ y) (recursion_from_All (IsExprOver g n) es over)
        (recursion_from_All (IsExprOver h n) fs ov) (append_cancel_left (codes "(") _ _ same) in
        (λ p. ap (λ l. Some l) (parts.0 p), tails 10 10 z y parts.1)
    behind_splits (Leaf es) (If' f s up t down) m z y over ov same =
        clash 0 (leaf_behind es z) (behind m (If' f s up t down) y) refl same
    behind_splits (If' e s up t down) Missing m z y over ov same =
        clash 0 (behind m (If' e s up t down) z) (codes "none" ++ (10 ∷ y)) refl same
    behind_splits (If' e s up t down) (Leaf fs) m z y over ov same =
        clash 0 (behind m (If' e s up t down) z) (leaf_behind fs y) refl same
    behind_splits (If' e s up t down) (If' f u vp v wown) m z y over ov same =
        let deeper = m ++ codes "  " in
        let low = m ++ (codes "}" ++ (10 ∷ z)) in
        let low2 = m ++ (codes "}" ++ (10 ∷ y)) in
        let middle = m ++ (codes "} else {" ++ (10 ∷ (lines_in names deeper down ++ low))) in
        let middle2 = m ++ (codes "} else {" ++ (10 ∷ (lines_in names deeper wown ++ low2))) in
        let test = test_splits e f (10 ∷ (lines_in names deeper up ++ middle)) (10 ∷ (lines_in names deeper vp ++ middle2)) over.0 ov.0
        (append_cancel_left (codes "if (") _ _ same) in
        let ups = lines_splits up vp deeper middle middle2 over.1 ov.1
        (tails 10 10 (lines_in names deeper up ++ middle) (lines_in names deeper vp ++ middle2) test.1) in
        let downs = lines_splits down wown deeper low low2 over.2 ov.2
        (tails 10 10 (lines_in names deeper down ++ low) (lines_in names deeper wown ++ low2)
        (append_cancel_left (codes "} else {") _ _ (append_cancel_left m _ _ ups.1))) in (
          λ p. ap (λ v. if int_lt v (pos 0) then quast_in down p else quast_in up p) (test.0 p)
              ∙ ap₂ (λ d w. if int_lt (expr_value f p) (pos 0) then d else w) (downs.0 p) (ups.0 p),
          tails 10 10 z y (append_cancel_left (codes "}") (10 ∷ z) (10 ∷ y) (append_cancel_left m _ _ downs.1)),
        )

    lines_splits : {j k : _} → (a : Row_of-Quast j) (b : Row_of-Quast k) (m z y : Text) → AreQuastsOver g n a → AreQuastsOver h n b
        → lines_in names m a ++ z ≡ lines_in names m b ++ y → ((p : List ℤ) → quast_in a p ≡ quast_in b p) × (z ≡ y)
    lines_splits end_of-Quast b m z y over ov same = absurd over
    lines_splits (more_of-Quast a rest) end_of-Quast m z y over ov same = absurd ov
    lines_splits (more_of-Quast a rest) (more_of-Quast b more) m z y over ov same =
        behind_splits a b m z y over ov
        (append_cancel_left m (behind m a z) (behind m b y) (sym (is_behind m a z) ∙ same ∙ is_behind m b y))

  pub tree_splits : (a b : Quast) (m z y : Text) → IsQuastOver g n a → IsQuastOver h n b → tree_lines names m a ++ z ≡ tree_lines names m b ++ y
      → ((p : List ℤ) → quast_at a p ≡ quast_at b p) × (z ≡ y)
  tree_splits a b m z y over ov same =
      behind_splits a b m z y over ov
      (append_cancel_left m (behind m a z) (behind m b y) (sym (is_behind m a z) ∙ same ∙ is_behind m b y))

names_are : (names : List Name) → AllByRecursion IsLiteralName names → AllByRecursion IsNaming names
names_are [] all = tt
names_are (name ∷ names) all = (naming name all.0, names_are names all.1)

pub one_tree : OneTree
one_tree names margin a b different literal p q same =
    (tree_splits names (length names) refl (distinct_from names different) (names_are names (recursion_from_All IsLiteralName names literal))
    p.gauge q.gauge p.bits q.bits a b margin [] [] p.over q.over (ap (λ t. t ++ []) same)).0
