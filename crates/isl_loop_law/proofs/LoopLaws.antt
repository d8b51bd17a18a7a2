-- Loops with one text, before what cannot go on with it, execute the same.
use Rattle.std.proofs.Common.{◌≡◌, ◌≢◌, ◌<◌, ◌≤◌, ◌+◌, ◌∙◌, ℕ, suc, List, [], ◌∷◌, ◌++◌, length}
use Rattle.std.proofs.Common.{map}
use Rattle.std.proofs.Common.{slice_index, ap, ap₂, sym, refl, arith, ℤ, Option, Some, None}
use Rattle.std.specs.Prelude.{codes, unsigned_abs, IfSome}
use Rattle.std.specs.Fmt.{decimal}
use Rattle.std.specs.List.{AllByRecursion, sum_by}
use Rattle.std.proofs.lemmas.Bool.{false≢true}
use Rattle.std.proofs.lemmas.List.{append_assoc, append_cancel_left, length-append}
use Rattle.std.proofs.lemmas.List.Sums.{sum_by-cons}
use Rattle.isl_meter.specs.Gauge.{Gauge}
use Rattle.isl_space.specs.Form.{name_text}
use Rattle.isl_space.specs.Name.{Name, begins_name, IsLiteralName}
use Rattle.isl_space.proofs.DistinctLaws.{Distinct}
use Rattle.isl_row_text.specs.Joined.{Text, each_after, joined_by}
use Rattle.isl_row_text.specs.RowText.{row_text}
use Rattle.isl_loop.specs.declared.tree.Expr.{Expr}
use Rattle.isl_loop.specs.declared.tree.Loop.{Loop, Block', For', If', Call, Row_of-Loop}
use Rattle.isl_loop.specs.Expr.{expr_value}
use Rattle.isl_loop.specs.Formed.{IsExprOver}
use Rattle.isl_loop.specs.Lists.{calls_of, turns_through}
use Rattle.isl_loop.specs.Run.{Event, each_in, trace, traces, turns_of, turns_in}
use Rattle.isl_loop_text.specs.ExprText.{expr_text}
use Rattle.isl_loop_text.specs.LoopText.{variable, names_inside, condition_text, loop_lines, lines_in}
use Rattle.isl_loop_law.proofs.WordLaws.{IsWord, tails, IsNaming, naming}
use Rattle.isl_loop_law.proofs.SignLaws.{Begins, is_end, clash}
use Rattle.isl_loop_law.proofs.ExprLaws.{expr_splits, no_expr}
use Rattle.isl_loop_law.proofs.NodeLaws.{nodes_in, IsNode, calls_nodes_in, turns_nodes_in}

-- ---- what is executed
pub each_same : (f g : ℤ → List Event) → ((x : ℤ) → f x ≡ g x) → (xs : List ℤ) → each_in f xs ≡ each_in g xs
each_same f g same [] = refl
each_same f g same (x ∷ xs) = ap₂ (λ (a b : List Event). a ++ b) (same x) (each_same f g same xs)

pub sums_same : (f g : ℤ → ℕ) → ((x : ℤ) → f x ≡ g x) → (xs : List ℤ) → sum_by f xs ≡ sum_by g xs
sums_same f g same [] = refl
sums_same f g same (x ∷ xs) =
    sum_by-cons f x xs ∙ ap₂ (λ (a b : ℕ). a + b) (same x) (sums_same f g same xs) ∙ sym (sum_by-cons g x xs)

pub record AreSame (xs ys : List Loop) : Type 0 where
  pub calls : (point : List ℤ) → calls_of xs point ≡ calls_of ys point
  pub turns : (point : List ℤ) → turns_through xs point ≡ turns_through ys point

pub record IsSame (x y : Loop) : Type 0 where
  pub calls : (point : List ℤ) → trace x point ≡ trace y point
  pub turns : (point : List ℤ) → turns_of x point ≡ turns_of y point

pub same_more : (x y : Loop) (xs ys : List Loop) → IsSame x y → AreSame xs ys → AreSame (x ∷ xs) (y ∷ ys)
same_more x y xs ys one rest = record {
  calls = λ point. ap₂ (λ (a b : List Event). a ++ b) (one.calls point) (rest.calls point);
  turns = λ point. ap₂ (λ (a b : ℕ). a + b) (one.turns point) (rest.turns point);
}

module _ {m k : _} (row : Row_of-Loop m) (sow : Row_of-Loop k) (body : AreSame (nodes_in row) (nodes_in sow)) where
  pub body_calls : (point : List ℤ) → traces row point ≡ traces sow point
  body_calls point = calls_nodes_in row point ∙ body.calls point ∙ sym (calls_nodes_in sow point)

  pub body_turns : (point : List ℤ) → turns_in row point ≡ turns_in sow point
  body_turns point = turns_nodes_in row point ∙ body.turns point ∙ sym (turns_nodes_in sow point)

-- ---- arguments
module _ (names : List Name) (n : ℕ) (count : n ≡ length names) (distinct : Distinct names) (named : AllByRecursion IsNaming names)
    (g h : Gauge) (gb : g.bits ≤ 127) (hb : h.bits ≤ 127) where
  each_ends : (texts : List Text) (z : Text) → Begins is_end (each_after (codes ", ") texts ++ (41 ∷ z))
  each_ends [] z = refl
  each_ends (t ∷ ts) z = refl

  arguments_more : (es fs : List Expr) (z y : Text) → AllByRecursion (IsExprOver g n) es → AllByRecursion (IsExprOver h n) fs
      → each_after (codes ", ") (map (expr_text names) es) ++ (41 ∷ z) ≡ each_after (codes ", ") (map (expr_text names) fs) ++ (41 ∷ y)
      → ((p : List ℤ) → map (λ e. expr_value e p) es ≡ map (λ e. expr_value e p) fs) × (z ≡ y)
  arguments_more [] [] z y over ov same = (λ point. refl, tails 41 41 z y same)
  arguments_more [] (f ∷ fs) z y over ov same =
      clash 0 (41 ∷ z) (each_after (codes ", ") (map (expr_text names) (f ∷ fs)) ++ (41 ∷ y)) refl same
  arguments_more (e ∷ es) [] z y over ov same =
      clash 0 (each_after (codes ", ") (map (expr_text names) (e ∷ es)) ++ (41 ∷ z)) (41 ∷ y) refl same
  arguments_more (e ∷ es) (f ∷ fs) z y over ov same =
      let first = each_after (codes ", ") (map (expr_text names) es) in
      let second = each_after (codes ", ") (map (expr_text names) fs) in
      let one = expr_splits names n count distinct named g h gb hb e f (first ++ (41 ∷ z)) (second ++ (41 ∷ y)) over.0 ov.0
      (each_ends (map (expr_text names) es) z) (each_ends (map (expr_text names) fs) y)
      (sym (append_assoc (expr_text names e) first (41 ∷ z))
      ∙ append_cancel_left (codes ", ") ((expr_text names e ++ first) ++ (41 ∷ z)) ((expr_text names f ++ second) ++ (41 ∷ y)) same
      ∙ append_assoc (expr_text names f) second (41 ∷ y)) in
      let rest = arguments_more es fs z y over.1 ov.1 one.1 in
      (λ point. ap₂ (λ (v : ℤ) (vs : List ℤ). v ∷ vs) (one.0 point) (rest.0 point), rest.1)

  pub arguments : (es fs : List Expr) (z y : Text) → AllByRecursion (IsExprOver g n) es → AllByRecursion (IsExprOver h n) fs
      → joined_by (codes ", ") (map (expr_text names) es) ++ (41 ∷ z) ≡ joined_by (codes ", ") (map (expr_text names) fs) ++ (41 ∷ y)
      → ((p : List ℤ) → map (λ e. expr_value e p) es ≡ map (λ e. expr_value e p) fs) × (z ≡ y)
  arguments [] [] z y over ov same = (λ point. refl, tails 41 41 z y same)
  arguments [] (f ∷ fs) z y over ov same =
      let second = each_after (codes ", ") (map (expr_text names) fs) in
      no_expr names n count distinct named h hb f (second ++ (41 ∷ y)) (41 ∷ z) ov.0 refl
      (sym (append_assoc (expr_text names f) second (41 ∷ y)) ∙ sym same)
  arguments (e ∷ es) [] z y over ov same =
      let first = each_after (codes ", ") (map (expr_text names) es) in
      no_expr names n count distinct named g gb e (first ++ (41 ∷ z)) (41 ∷ y) over.0 refl
      (sym (append_assoc (expr_text names e) first (41 ∷ z)) ∙ same)
  arguments (e ∷ es) (f ∷ fs) z y over ov same =
      arguments_more (e ∷ es) (f ∷ fs) z y over ov (ap (λ (t : Text). codes ", " ++ t) same)

-- ---- names of calls
pub called_word : (name : Option Name) → IfSome name IsLiteralName → IsWord (name_text name)
called_word None named = tt
called_word (Some name) named = (naming name named).word

pub called_same : (a b : Option Name) → IfSome a IsLiteralName → IfSome b IsLiteralName → name_text a ≡ name_text b → a ≡ b
called_same None None p q same = refl
called_same None (Some b) p q same = absurd (false≢true (ap (λ l. begins_name (slice_index l 0)) same ∙ (naming b q).begins))
called_same (Some a) None p q same = absurd (false≢true (ap (λ l. begins_name (slice_index l 0)) (sym same) ∙ (naming a p).begins))
called_same (Some a) (Some b) p q same = ap (λ (w : Name). Some w) same

-- ---- lines
-- what closes a body, and what comes behind
abbrev pub closed : Text → Text → Text
closed margin w = margin ++ (125 ∷ 10 ∷ w)

-- the text of a loop, a condition or a call behind a margin, and what comes behind
module _ (params : List Name) (depth : ℕ) (margin : Text) where
  abbrev pub step_text : ℤ → Text → Text
  step_text step w = variable params depth ++ (codes " += " ++ (decimal (unsigned_abs step) ++ (codes ") {" ++ (10 ∷ w))))

  abbrev pub high_text : Expr → Text → Text
  high_text high w = variable params depth ++ (codes " <= " ++ (expr_text (names_inside params depth) high ++ (codes "; " ++ w)))

  abbrev pub low_text : Expr → Text → Text
  low_text low w = variable params depth ++ (codes " = " ++ (expr_text (names_inside params depth) low ++ (codes "; " ++ w)))

  abbrev pub node_text : Loop → Text → Text
  node_text (Block' s row) w = []
  node_text (For' low high step s body) w =
      codes "for (" ++ low_text low (high_text high
      (step_text step (lines_in params (suc depth) (margin ++ codes "  ") body ++ closed margin w)))
  node_text (If' rows s body) w =
      codes "if (" ++ (condition_text (map (row_text (names_inside params depth)) rows)
      ++ (41 ∷ 32 ∷ 123 ∷ 10 ∷ (lines_in params depth (margin ++ codes "  ") body ++ closed margin w)))
  node_text (Call name args) w =
      name_text name ++ (40 ∷ (joined_by (codes ", ") (map (expr_text (names_inside params depth)) args) ++ (41 ∷ 59 ∷ 10 ∷ w)))

  pub node_lines : (x : Loop) (w : Text) → IsNode x → loop_lines params depth margin x ++ w ≡ margin ++ node_text x w
  node_lines (Block' s row) w node = elim node [ ]
  node_lines (For' low high step s body) w node =
      regroup margin (codes "for (") (variable params depth) (codes " = ") (expr_text (names_inside params depth) low) (codes "; ")
      (codes " <= ")
      (expr_text (names_inside params depth) high) (codes " += ") (decimal (unsigned_abs step)) (codes ") {") (10 ∷ [])
      (lines_in params (suc depth) (margin ++ codes "  ") body) (codes "}") w
    where
      regroup : (m f v e l s u h p d o n b c w : Text)
          → (((m ++ (((((((((((f ++ v) ++ e) ++ l) ++ s) ++ v) ++ u) ++ h) ++ s) ++ v) ++ p) ++ d ++ o)) ++ n) ++ b ++ ((m ++ c) ++ n)) ++ w
          ≡ m ++ (f ++ (v ++ (e ++ (l ++ (s ++ (v ++
          (u ++ (h ++ (s ++ (v ++ (p ++ (d ++ (o ++ (n ++ (b ++ (m ++ (c ++ (n ++ w))))))))))))))))))
      regroup m f v e l s u h p d o n b c w = simp append_assoc
  node_lines (If' rows s body) w node =
      regroup margin (codes "if (") (condition_text (map (row_text (names_inside params depth)) rows)) (codes ") {") (10 ∷ [])
      (lines_in params depth (margin ++ codes "  ") body) (codes "}") w
    where
      regroup : (m f r o n b c w : Text) → (((m ++ ((f ++ r) ++ o)) ++ n) ++ b ++ ((m ++ c) ++ n)) ++ w
          ≡ m ++ (f ++ (r ++ (o ++ (n ++ (b ++ (m ++ (c ++ (n ++ w))))))))
      regroup m f r o n b c w = simp append_assoc
  node_lines (Call name args) w node =
      regroup margin (name_text name) (codes "(") (joined_by (codes ", ") (map (expr_text (names_inside params depth)) args)) (codes ");")
      (10 ∷ []) w
    where
      regroup : (m f o r c n w : Text) → ((m ++ (((f ++ o) ++ r) ++ c)) ++ n) ++ w ≡ m ++ (f ++ (o ++ (r ++ (c ++ (n ++ w)))))
      regroup m f o r c n w = simp append_assoc

  pub node_some : (x : Loop) (w : Text) → IsNode x → 0 < length (node_text x w)
  node_some (Block' s row) w node = elim node [ ]
  node_some (For' low high step s body) w node = omega arith
  node_some (If' rows s body) w node = omega arith
  node_some (Call name args) w node =
      let whole = length-append (name_text name) (40 ∷
      (joined_by (codes ", ") (map (expr_text (names_inside params depth)) args) ++ (41 ∷ 59 ∷ 10 ∷ w))) in
      omega (arith, whole)

-- no line behind the margin comes
abbrev pub Stops : Text → Text → Type 0
Stops margin z = (t : Text) → 0 < length t → margin ++ t ≢ z

pub closed_stops : (margin w : Text) → Stops (margin ++ codes "  ") (closed margin w)
closed_stops margin w t some same =
    clash 0 (codes "  " ++ t) (125 ∷ 10 ∷ w) refl
    (append_cancel_left margin (codes "  " ++ t) (125 ∷ 10 ∷ w) (sym (append_assoc margin (codes "  ") t) ∙ same))
