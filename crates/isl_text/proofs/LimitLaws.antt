-- The counts that literals have limits for, at the constructors of the code.
use Rattle.std.proofs.Common.{◌≡◌, ℕ, ◌+◌, ◌<◌, ◌≤◌, Bool, true, false, List, [], length, Option, Some, None, refl, sym, ap, ◌∙◌}
use Rattle.std.proofs.Common.{arith, length-append}
use Rattle.std.specs.Prelude.{nat_le}
use Rattle.std.proofs.lemmas.Bool.{le-leb, lt-leb, leb-true, leb-false}
use Rattle.isl_token.specs.Token.{Text}
use Rattle.isl_tree.specs.declared.tree.Entry.{Entry}
use Rattle.isl_tree.specs.declared.tree.Tuple.{Tuple, Leaf, Pair}
use Rattle.isl_tree.specs.declared.tree.Tuple.TheBlock.{hidden-the_row-Tuple-0}
use Rattle.isl_tree.specs.declared.tree.PieceTree.{PieceTree}
use Rattle.isl_tree.specs.Literal.{entries_of}
use Rattle.isl_text.specs.Bound.{capped}
use Rattle.isl_text.specs.Limits.{coordinates, leaves_in, leaves_of}
use Rattle.isl_text.proofs.Along.{entries-Pair}
use Rattle.isl_text.proofs.Counting.{capped_sum}

pub width-Leaf : (x : Tuple) (title : Option Text) (es : List Entry) (r : ℕ) → x ≡ Leaf title es → r ≡ capped (length es + 0)
    → r ≡ capped (length (entries_of x))
width-Leaf x title es r is count = rw is (omega arith)

pub width-Pair : (x a b : Tuple) (m n r : ℕ) → x ≡ Pair a b → m ≡ capped (length (entries_of a)) → n ≡ capped (length (entries_of b))
    → r ≡ capped (m + n) → r ≡ capped (length (entries_of x))
width-Pair x a b m n r is first second sum =
    capped_sum (length (entries_of a)) (length (entries_of b)) m n r first second sum
    ∙ ap capped (sym (ap (λ t. length (entries_of t)) is ∙ ap length (entries-Pair a b) ∙ length-append (entries_of a) (entries_of b)))

pub ruleset widths = (width-Leaf, width-Pair)

leaves_in-Pair : (a b : Tuple) → leaves_in (Pair a b) ≡ leaves_in a + leaves_in b
unfolding hidden-the_row-Tuple-0 denote.Hole.Carrier.hidden
leaves_in-Pair a b = omega arith

pub leaves-Pair : (x a b : Tuple) (m n r : ℕ) → x ≡ Pair a b → m ≡ capped (leaves_in a) → n ≡ capped (leaves_in b) → r ≡ capped (m + n)
    → r ≡ capped (leaves_in x)
leaves-Pair x a b m n r is first second sum = capped_sum (leaves_in a) (leaves_in b) m n r first second sum
    ∙ ap capped (sym (ap leaves_in is ∙ leaves_in-Pair a b))

pub ruleset leaves = (leaves-Pair)

pub set_width : (piece : PieceTree) (r : ℕ) → piece.second ≡ None → r ≡ capped (length (entries_of piece.first))
    → r ≡ capped (coordinates piece)
set_width piece r is count = rw (is, length-append (entries_of piece.first) []) (omega arith)

pub map_width : (piece : PieceTree) (t : Tuple) (m n r : ℕ) → piece.second ≡ Some t → m ≡ capped (length (entries_of piece.first))
    → n ≡ capped (length (entries_of t)) → r ≡ capped (m + n) → r ≡ capped (coordinates piece)
map_width piece t m n r is first second sum = rw (is, length-append (entries_of piece.first) (entries_of t))
    (capped_sum (length (entries_of piece.first)) (length (entries_of t)) m n r first second sum)

pub set_leaves : (piece : PieceTree) (r : ℕ) → piece.second ≡ None → r ≡ capped (leaves_in piece.first) → r ≡ capped (leaves_of piece)
set_leaves piece r is count = rw is (omega arith)

pub map_leaves : (piece : PieceTree) (t : Tuple) (m n r : ℕ) → piece.second ≡ Some t → m ≡ capped (leaves_in piece.first)
    → n ≡ capped (leaves_in t) → r ≡ capped (m + n) → r ≡ capped (leaves_of piece)
map_leaves piece t m n r is first second sum = rw is (capped_sum (leaves_in piece.first) (leaves_in t) m n r first second sum)

pub ruleset pieces = (set_width, map_width, set_leaves, map_leaves)

-- a test below the cap
pub within_cap : (x n k : ℕ) → n ≡ capped x → n ≤ k → k ≤ 64 → nat_le x k ≡ true
within_cap x n k count le small = le-leb x k (omega arith)

pub above_cap : (x n k : ℕ) → n ≡ capped x → k < n → nat_le x k ≡ false
above_cap x n k count more = lt-leb x k (omega arith)

pub same_test : (x n k : ℕ) → n ≡ capped x → k ≤ 64 → nat_le n k ≡ nat_le x k
same_test x n k count small = either (nat_le n k) refl
  where
    either : (q : Bool) → nat_le n k ≡ q → q ≡ nat_le x k
    either true is = sym (within_cap x n k count (leb-true n k is) small)
    either false is = sym (above_cap x n k count (leb-false n k is))

pub ruleset tests = (within_cap, above_cap, same_test)
