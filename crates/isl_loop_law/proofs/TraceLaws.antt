-- Trees with one text have one trace, and as many turns.
use mathlib.Core.Former.{one_more, none_left}
use Rattle.std.proofs.Common.{◌≡◌, ◌≤◌, ◌+◌, ◌-◌, ◌∙◌, ◌^◌, ℕ, zero, suc, Bool, List, [], ◌∷◌, ◌++◌, length, map, All, ap, ap₂, sym}
use Rattle.std.proofs.Common.{subst, refl, arith, ℤ, Option}
use Rattle.std.specs.Prelude.{codes, unsigned_abs, if◌then◌else◌}
use Rattle.std.specs.Fmt.{decimal}
use Rattle.std.specs.List.{sum_by}
use Rattle.std.proofs.lemmas.List.{append_assoc, append_cancel_left}
use Rattle.std.proofs.lemmas.List.Elements.{recursion_from_All}
use Rattle.isl_meter.specs.Gauge.{Gauge}
use Rattle.isl_space.specs.Form.{name_text}
use Rattle.isl_space.specs.Name.{Name, IsLiteralName}
use Rattle.isl_space.specs.Names.{AreDistinct}
use Rattle.isl_piece.specs.declared.row.Row.{Row}
use Rattle.isl_row_text.specs.Joined.{Text, joined_by}
use Rattle.isl_row_text.specs.RowText.{row_text}
use Rattle.isl_loop.specs.declared.tree.Expr.{Expr}
use Rattle.isl_loop.specs.declared.tree.Loop.{Loop, Block', For', If', Call, Row_of-Loop}
use Rattle.isl_loop.specs.Depth.{depth_in}
use Rattle.isl_loop.specs.Expr.{expr_value}
use Rattle.isl_loop.specs.Formed.{IsExprOver, IsLoopOver, AreLoopsOver, IsRowOver}
use Rattle.isl_loop.specs.Program.{HaveNames}
use Rattle.isl_loop.specs.Run.{Event, each_in, rows_hold, traces, turns_in}
use Rattle.isl_loop.specs.Turns.{turns}
use Rattle.isl_loop_text.specs.ExprText.{expr_text}
use Rattle.isl_loop_text.specs.LoopText.{variable, names_inside, condition_text, loop_lines, lines_in}
use Rattle.isl_loop_text.specs.Rest.{lines_of}
use Rattle.isl_loop_text.specs.Size.{loop_size, loops_size}
use Rattle.isl_loop_law.specs.OneTrace.{OneTrace, ProgramTells}
use Rattle.isl_loop_law.proofs.WordLaws.{IsWord, tails, words, decimals, positive_same, wide}
use Rattle.isl_loop_law.proofs.NameLaws.{inside_distinct, inside_named, length-inside}
use Rattle.isl_loop_law.proofs.SignLaws.{clash}
use Rattle.isl_loop_law.proofs.ExprLaws.{expr_splits}
use Rattle.isl_loop_law.proofs.RowLaws.{condition_splits}
use Rattle.isl_loop_law.proofs.NodeLaws.{nodes, nodes_in, IsNode, IsPart, AreParts, lines_nodes, lines_nodes_in, calls_nodes, turns_nodes}
use Rattle.isl_loop_law.proofs.NodeLaws.{parts_nodes, parts_nodes_in}
use Rattle.isl_loop_law.proofs.LoopLaws.{each_same, sums_same, AreSame, IsSame, same_more, body_calls, body_turns, arguments, called_word}
use Rattle.isl_loop_law.proofs.LoopLaws.{called_same}
use Rattle.isl_loop_law.proofs.LoopLaws.{closed, step_text, high_text, low_text, node_text, node_lines, node_some, Stops, closed_stops}

for_word : IsWord (codes "for")
for_word = (refl, (refl, (refl, tt)))

if_word : IsWord (codes "if")
if_word = (refl, (refl, tt))

turns_same : (a b c d s t : ℤ) → a ≡ b → c ≡ d → s ≡ t → turns a c s ≡ turns b d t
turns_same a b c d s t p q r = λ i. turns (p i) (q i) (r i)

-- the line of a loop or a condition is no call
no_call : {A : Type 0} (word name z w : Text) → IsWord word → IsWord name → word ++ (32 ∷ z) ≡ name ++ (40 ∷ w) → A
no_call word name z w a b same = let parts = words word name (32 ∷ z) (40 ∷ w) a b refl refl same in clash 0 (32 ∷ z) (40 ∷ w) refl parts.1

for_same : (low high lower higher : Expr) (step other : ℤ) (row sow : Row_of-Loop (one_more none_left)) (l r : _)
    → ((p : List ℤ) → expr_value low p ≡ expr_value lower p) → ((p : List ℤ) → expr_value high p ≡ expr_value higher p) → step ≡ other
    → AreSame (nodes_in row) (nodes_in sow) → IsSame (For' low high step l row) (For' lower higher other r sow)
for_same low high lower higher step other row sow l r lows highs steps body = record {
  calls = λ point.
      each_same (λ x. traces row (point ++ x ∷ [])) (λ x. traces sow (point ++ x ∷ [])) (λ x. body_calls row sow body (point ++ x ∷ []))
      (turns (expr_value low point) (expr_value high point) step)
      ∙ ap (each_in (λ x. traces sow (point ++ x ∷ [])))
      (turns_same (expr_value low point) (expr_value lower point) (expr_value high point) (expr_value higher point) step other
      (lows point) (highs point) steps);
  turns = λ point.
      sums_same (λ x. 1 + turns_in row (point ++ x ∷ [])) (λ x. 1 + turns_in sow (point ++ x ∷ []))
      (λ x. ap (λ (n : ℕ). 1 + n) (body_turns row sow body (point ++ x ∷ []))) (turns (expr_value low point) (expr_value high point) step)
      ∙ ap (sum_by (λ x. 1 + turns_in sow (point ++ x ∷ [])))
      (turns_same (expr_value low point) (expr_value lower point) (expr_value high point) (expr_value higher point) step other
      (lows point) (highs point) steps);
}

module _ (params : List Name) (different : AreDistinct params) (literal : All IsLiteralName params) (g h : Gauge) (gb : g.bits ≤ 127)
    (hb : h.bits ≤ 127) where
  abbrev Agrees : ℕ → Type 0
  Agrees k =
      (depth : ℕ) (margin : Text) (xs ys : List Loop) (z w : Text)
      → AreParts g (length params + depth) depth k xs → AreParts h (length params + depth) depth k ys → Stops margin z → Stops margin w
      → lines_of params depth margin xs ++ z ≡ lines_of params depth margin ys ++ w → AreSame xs ys × (z ≡ w)

  -- bodies, where loops of less size agree
  body_splits : {m r : _} → (k : ℕ) → ((j : ℕ) → suc j ≡ k → Agrees j)
      → (depth : ℕ) (margin : Text) (row : Row_of-Loop m) (sow : Row_of-Loop r) (z w : Text)
      → AreLoopsOver g (length params + depth) row → AreLoopsOver h (length params + depth) sow → HaveNames row → HaveNames sow
      → depth + depth_in row ≤ 2 ^ 64 → depth + depth_in sow ≤ 2 ^ 64 → 1 + loops_size row ≤ k → 1 + loops_size sow ≤ k
      → lines_in params depth (margin ++ codes "  ") row ++ closed margin z
      ≡ lines_in params depth (margin ++ codes "  ") sow ++ closed margin w
      → AreSame (nodes_in row) (nodes_in sow) × (z ≡ w)
  body_splits k again depth margin row sow z w over ov named other nested deep sized small same =
      let inner = margin ++ codes "  " in
      let one : suc (k - 1) ≡ k = omega (arith, sized) in
      let parts = again (k - 1) one depth inner (nodes_in row) (nodes_in sow) (closed margin z) (closed margin w)
      (parts_nodes_in row g (length params + depth) depth (k - 1) over named nested (omega (arith, sized)))
      (parts_nodes_in sow h (length params + depth) depth (k - 1) ov other deep (omega (arith, small)))
      (closed_stops margin z) (closed_stops margin w)
      (ap (λ t. t ++ closed margin z) (sym (lines_nodes_in row params depth inner)) ∙ same
      ∙ ap (λ t. t ++ closed margin w) (lines_nodes_in sow params depth inner)) in
      (parts.0, append_cancel_left (125 ∷ 10 ∷ []) z w (append_cancel_left margin (125 ∷ 10 ∷ z) (125 ∷ 10 ∷ w) parts.1))

  module _ (k : ℕ) (again : (j : ℕ) → suc j ≡ k → Agrees j) (depth : ℕ) (margin : Text) where
    node_splits : (x y : Loop) (z w : Text) → IsPart g (length params + depth) depth k x → IsPart h (length params + depth) depth k y
        → node_text params depth margin x z ≡ node_text params depth margin y w → IsSame x y × (z ≡ w)
    node_splits (Block' s row) y z w p q same = elim p.node [ ]
    node_splits x (Block' s row) z w p q same = elim q.node [ ]
    node_splits (For' low high step s row) (For' lower higher other t sow) z w p q same =
        let nested = p.nested in
        let deep = q.nested in
        let names = names_inside params depth in
        let n = length params + depth in
        let count : n ≡ length names = sym (length-inside params depth) in
        let distinct = inside_distinct params depth (omega (arith, nested)) different in
        let named = inside_named params depth (omega (arith, nested)) literal in
        let own = variable params depth in
        let body = lines_in params (suc depth) (margin ++ codes "  ") row ++ closed margin z in
        let bodied = lines_in params (suc depth) (margin ++ codes "  ") sow ++ closed margin w in
        let stepped = step_text params depth margin step body in
        let paced = step_text params depth margin other bodied in
        let upper = high_text params depth margin high stepped in
        let upped = high_text params depth margin higher paced in
        let lows = expr_splits names n count distinct named g h gb hb low lower (codes "; " ++ upper) (codes "; " ++ upped) p.over.0
        q.over.0 refl refl
        (append_cancel_left (codes " = ") (expr_text names low ++ (codes "; " ++ upper))
        (expr_text names lower ++ (codes "; " ++ upped))
        (append_cancel_left own (codes " = " ++ (expr_text names low ++ (codes "; " ++ upper)))
        (codes " = " ++ (expr_text names lower ++ (codes "; " ++ upped)))
        (append_cancel_left (codes "for (") (low_text params depth margin low upper) (low_text params depth margin lower upped)
        same))) in
        let highs = expr_splits names n count distinct named g h gb hb high higher (codes "; " ++ stepped) (codes "; " ++ paced) p.over.1
        q.over.1 refl refl
        (append_cancel_left (codes " <= ") (expr_text names high ++ (codes "; " ++ stepped))
        (expr_text names higher ++ (codes "; " ++ paced))
        (append_cancel_left own (codes " <= " ++ (expr_text names high ++ (codes "; " ++ stepped)))
        (codes " <= " ++ (expr_text names higher ++ (codes "; " ++ paced)))
        (append_cancel_left (codes "; ") upper upped lows.1))) in
        let steps = decimals (unsigned_abs step) (unsigned_abs other) (codes ") {" ++ (10 ∷ body)) (codes ") {" ++ (10 ∷ bodied))
        (wide g step gb p.over.3) (wide h other hb q.over.3) refl refl
        (append_cancel_left (codes " += ") (decimal (unsigned_abs step) ++ (codes ") {" ++ (10 ∷ body)))
        (decimal (unsigned_abs other) ++ (codes ") {" ++ (10 ∷ bodied)))
        (append_cancel_left own (codes " += " ++ (decimal (unsigned_abs step) ++ (codes ") {" ++ (10 ∷ body))))
        (codes " += " ++ (decimal (unsigned_abs other) ++ (codes ") {" ++ (10 ∷ bodied))))
        (append_cancel_left (codes "; ") stepped paced highs.1))) in
        let inside : n + 1 ≡ length params + suc depth = omega arith in
        let rest = body_splits k again (suc depth) margin row sow z w (subst (λ (c : ℕ). AreLoopsOver g c row) inside p.over.4)
        (subst (λ (c : ℕ). AreLoopsOver h c sow) inside q.over.4) p.named q.named (omega (arith, nested)) (omega (arith, deep))
        p.sized q.sized
        (tails 10 10 body bodied (append_cancel_left (codes ") {") (10 ∷ body) (10 ∷ bodied) steps.1)) in (
          for_same low high lower higher step other row sow s t lows.0 highs.0 (positive_same step other p.over.2 q.over.2 steps.0) rest.0,
          rest.1,
        )
    node_splits (If' rows s row) (If' sows t sow) z w p q same =
        let nested = p.nested in
        let names = names_inside params depth in
        let n = length params + depth in
        let count : n ≡ length names = sym (length-inside params depth) in
        let distinct = inside_distinct params depth (omega (arith, nested)) different in
        let named = inside_named params depth (omega (arith, nested)) literal in
        let body = lines_in params depth (margin ++ codes "  ") row ++ closed margin z in
        let bodied = lines_in params depth (margin ++ codes "  ") sow ++ closed margin w in
        let conditions = condition_splits names n count distinct named g h gb hb rows sows (123 ∷ 10 ∷ body) (123 ∷ 10 ∷ bodied)
        (recursion_from_All (IsRowOver g n) rows p.over.0) (recursion_from_All (IsRowOver h n) sows q.over.0)
        (append_cancel_left (codes "if (") (condition_text (map (row_text names) rows) ++ (41 ∷ 32 ∷ 123 ∷ 10 ∷ body))
        (condition_text (map (row_text names) sows) ++ (41 ∷ 32 ∷ 123 ∷ 10 ∷ bodied)) same) in
        let rest = body_splits k again depth margin row sow z w p.over.1 q.over.1 p.named q.named nested q.nested p.sized q.sized
        (append_cancel_left (123 ∷ 10 ∷ []) body bodied conditions.1) in (
          record {
            calls = λ point. ap₂ (λ (b : Bool) (l : List Event). if b then l else [])
                (ap (λ (l : List Row). rows_hold l point) conditions.0) (body_calls row sow rest.0 point);
            turns = λ point. ap₂ (λ (b : Bool) (c : ℕ). if b then c else 0) (ap (λ (l : List Row). rows_hold l point) conditions.0)
                (body_turns row sow rest.0 point);
          },
          rest.1,
        )
    node_splits (Call name args) (Call other brgs) z w p q same =
        let nested = p.nested in
        let names = names_inside params depth in
        let n = length params + depth in
        let count : n ≡ length names = sym (length-inside params depth) in
        let distinct = inside_distinct params depth (omega (arith, nested)) different in
        let named = inside_named params depth (omega (arith, nested)) literal in
        let inner = joined_by (codes ", ") (map (expr_text names) args) ++ (41 ∷ 59 ∷ 10 ∷ z) in
        let outer = joined_by (codes ", ") (map (expr_text names) brgs) ++ (41 ∷ 59 ∷ 10 ∷ w) in
        let called = words (name_text name) (name_text other) (40 ∷ inner) (40 ∷ outer) (called_word name p.named)
        (called_word other q.named) refl refl same in
        let values = arguments names n count distinct named g h gb hb args brgs (59 ∷ 10 ∷ z) (59 ∷ 10 ∷ w)
        (recursion_from_All (IsExprOver g n) args p.over) (recursion_from_All (IsExprOver h n) brgs q.over)
        (tails 40 40 inner outer called.1) in
        let same_name = called_same name other p.named q.named called.0 in (
          record {
            calls = λ point. ap₂ (λ (a : Option Name) (b : List ℤ). record { name = a; args = b } ∷ []) same_name (values.0 point);
            turns = λ point. refl;
          },
          append_cancel_left (59 ∷ 10 ∷ []) z w values.1,
        )
    node_splits (For' low high step s row) (If' sows t sow) z w p q same =
        clash 0 (node_text params depth margin (For' low high step s row) z) (node_text params depth margin (If' sows t sow) w) refl same
    node_splits (If' rows s row) (For' low high step t sow) z w p q same =
        clash 0 (node_text params depth margin (If' rows s row) z) (node_text params depth margin (For' low high step t sow) w) refl same
    node_splits (For' low high step s row) (Call name args) z w p q same =
        no_call (codes "for") (name_text name) _ _ for_word (called_word name q.named) same
    node_splits (If' rows s row) (Call name args) z w p q same =
        no_call (codes "if") (name_text name) _ _ if_word (called_word name q.named) same
    node_splits (Call name args) (For' low high step s row) z w p q same =
        no_call (codes "for") (name_text name) _ _ for_word (called_word name p.named) (sym same)
    node_splits (Call name args) (If' rows s row) z w p q same =
        no_call (codes "if") (name_text name) _ _ if_word (called_word name p.named) (sym same)

    first_line : (x : Loop) (xs : List Loop) (z : Text) → IsNode x
        → lines_of params depth margin (x ∷ xs) ++ z ≡ margin ++ node_text params depth margin x (lines_of params depth margin xs ++ z)
    first_line x xs z node =
        append_assoc (loop_lines params depth margin x) (lines_of params depth margin xs) z
        ∙ node_lines params depth margin x (lines_of params depth margin xs ++ z) node

    list_splits : (xs ys : List Loop) (z w : Text) → AreParts g (length params + depth) depth k xs
        → AreParts h (length params + depth) depth k ys
        → Stops margin z → Stops margin w
        → lines_of params depth margin xs ++ z ≡ lines_of params depth margin ys ++ w → AreSame xs ys × (z ≡ w)
    list_splits [] [] z w a b p q same = (record { calls = λ point. refl; turns = λ point. refl }, same)
    list_splits [] (y ∷ ys) z w a b p q same =
        let more = lines_of params depth margin ys ++ w in
        absurd (p (node_text params depth margin y more) (node_some params depth margin y more b.0.node)
        (sym (same ∙ first_line y ys w b.0.node)))
    list_splits (x ∷ xs) [] z w a b p q same =
        let more = lines_of params depth margin xs ++ z in
        absurd (q (node_text params depth margin x more) (node_some params depth margin x more a.0.node)
        (sym (sym same ∙ first_line x xs z a.0.node)))
    list_splits (x ∷ xs) (y ∷ ys) z w a b p q same =
        let first = lines_of params depth margin xs ++ z in
        let second = lines_of params depth margin ys ++ w in
        let one = node_splits x y first second a.0 b.0
        (append_cancel_left margin (node_text params depth margin x first) (node_text params depth margin y second)
        (sym (first_line x xs z a.0.node) ∙ same ∙ first_line y ys w b.0.node)) in
        let rest = list_splits xs ys z w a.1 b.1 p q one.1 in
        (same_more x y xs ys one.0 rest.0, rest.1)

  agrees : (k : ℕ) → Agrees k
  agrees zero = list_splits zero (λ j e. absurd (omega (arith, e)))
  agrees (suc k) = list_splits (suc k) (λ j e. let less : k ≡ j = omega (arith, e) in subst Agrees less (agrees k))

none_stops : Stops [] []
none_stops t some same = let long = ap (λ (l : Text). length l) same in absurd (omega (arith, some, long))

pub one_trace : OneTrace
one_trace params a b different literal p q same =
    let k = loop_size a + loop_size b in
    let none : length params ≡ length params + 0 = omega arith in
    let nested = p.nested in
    let deep = q.nested in
    let parts = agrees params different literal p.gauge q.gauge p.bits q.bits k 0 [] (nodes a) (nodes b) [] []
    (parts_nodes a p.gauge (length params + 0) 0 k (subst (λ (n : ℕ). IsLoopOver p.gauge n a) none p.over) p.named
    (omega (arith, nested)) (omega arith))
    (parts_nodes b q.gauge (length params + 0) 0 k (subst (λ (n : ℕ). IsLoopOver q.gauge n b) none q.over) q.named
    (omega (arith, deep)) (omega arith))
    none_stops none_stops
    (ap (λ t. t ++ []) (sym (lines_nodes a params 0 []) ∙ same ∙ lines_nodes b params 0 [])) in
    record {
      calls = λ point. calls_nodes a point ∙ parts.0.calls point ∙ sym (calls_nodes b point);
      turns = λ point. turns_nodes a point ∙ parts.0.turns point ∙ sym (turns_nodes b point);
    }

pub program_tells : ProgramTells
program_tells params tree list is other o same = one_trace params tree other list.distinct list.named is o (sym same)
