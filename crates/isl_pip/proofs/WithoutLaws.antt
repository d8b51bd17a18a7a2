-- Trees without one of the numbers of their leaves.
use Rattle.std.proofs.Common.{◌≡◌, refl, sym, ap, ap₂, ◌∙◌, subst, arith, ℕ, suc, ◌+◌, ◌<◌, ℤ, pos, Bool, true, false, List, [], ◌∷◌, ◌++◌, Option, Some, None, All, drop, length, map, take}
use Rattle.std.specs.Prelude.{if◌then◌else◌, int_lt, option_map}
use Rattle.std.specs.List.{drop-map, remove, take-map}
use Rattle.std.proofs.lemmas.List.{map-append}
use Rattle.std.proofs.lemmas.List.Edits.{length-remove}
use Rattle.std.proofs.lemmas.List.Elements.{All-append, All-drop, All-take}
use Rattle.isl_meter.specs.Gauge.{Gauge}
use Rattle.isl_loop.specs.declared.tree.Expr.{Expr}
use Rattle.isl_loop.specs.Expr.{expr_value}
use Rattle.isl_loop.specs.Formed.{IsExprOver}
use Rattle.isl_quast.specs.declared.tree.Quast.{Quast, If, Leaf}
use Rattle.isl_quast.specs.declared.tree.Quast.TheBlock.{hidden-the_row-Quast-0}
use Rattle.isl_quast.specs.Tree.{quast_at, HasWidth, IsQuastOver}
use Rattle.isl_quast.proofs.TreeLaws.{at-If, over-If, If-over}

abbrev pub without_at : ℕ → Option (List ℤ) → Option (List ℤ)
without_at place r = option_map (λ ys. remove ys place) r

-- ---- leaves
pub map-remove : {X Y : Type 0} (f : X → Y) (xs : List X) (i : ℕ) → map f (remove xs i) ≡ remove (map f xs) i
map-remove {Y = Y} f xs i =
    map-append f (take i xs) (drop (suc i) xs)
    ∙ sym (ap₂ (λ (a b : List Y). a ++ b) (take-map f i xs) (drop-map f (suc i) xs))

module _ (tree : Quast) (exprs left : List Expr) (place : ℕ) (is : tree ≡ Leaf exprs) (made : left ≡ remove exprs place) where
  pub leaf_at : (numbers : List ℤ) → quast_at (Leaf left) numbers ≡ without_at place (quast_at tree numbers)
  leaf_at numbers =
      ap Some (ap (map (λ e. expr_value e numbers)) made ∙ map-remove (λ e. expr_value e numbers) exprs place)
      ∙ ap (λ (t : Quast). without_at place (quast_at t numbers)) (sym is)

  pub leaf_over : (g : Gauge) (n : ℕ) → IsQuastOver g n tree → IsQuastOver g n (Leaf left)
  leaf_over g n over =
      let all : All (IsExprOver g n) exprs = subst (IsQuastOver g n) is over in
      subst (All (IsExprOver g n)) (sym made)
      (All-append (IsExprOver g n) (take place exprs) (drop (suc place) exprs) (All-take (IsExprOver g n) place exprs all)
      (All-drop (IsExprOver g n) (suc place) exprs all))

  pub leaf_width : (width : ℕ) → place < width + 1 → HasWidth (width + 1) tree → HasWidth width (Leaf left)
  leaf_width width inside wide =
      let count : length exprs ≡ width + 1 = subst (HasWidth (width + 1)) is wide in
      let l = length-remove exprs place (omega (arith, count, inside)) in
      let m = ap length made in
      let short : length left ≡ width = omega (arith, l, m, count) in
      short

pub leaf_inside : (tree : Quast) (exprs : List Expr) (width place : ℕ) → tree ≡ Leaf exprs → place < width + 1 → HasWidth (width + 1) tree
    → place < length exprs
leaf_inside tree exprs width place is inside wide =
    let count : length exprs ≡ width + 1 = subst (HasWidth (width + 1)) is wide in
    omega (arith, count, inside)

-- ---- tests
pub parts_wide : (tree : Quast) (test : Expr) (up down : Quast) (w : ℕ) → tree ≡ If test up down → HasWidth w tree → HasWidth w up × HasWidth w down
unfolding hidden-the_row-Quast-0 denote.Hole.Carrier.hidden
parts_wide tree test up down w is wide = by (subst (HasWidth w) is wide)
  where
    by : HasWidth w (If test up down) → HasWidth w up × HasWidth w down
    by h = (h.0, h.1)

module _ (test : Expr) (up down left_up left_down : Quast) (place : ℕ) where
  pub test_at : (tree : Quast) (numbers : List ℤ) → tree ≡ If test up down → quast_at left_up numbers ≡ without_at place (quast_at up numbers)
      → quast_at left_down numbers ≡ without_at place (quast_at down numbers)
      → quast_at (If test left_up left_down) numbers ≡ without_at place (quast_at tree numbers)
  test_at tree numbers is above below =
      at-If test left_up left_down numbers ∙ by (int_lt (expr_value test numbers) (pos 0))
      ∙ ap (without_at place) (sym (at-If test up down numbers) ∙ ap (λ (t : Quast). quast_at t numbers) (sym is))
    where
      by : (b : Bool) → (if b then quast_at left_down numbers else quast_at left_up numbers)
          ≡ without_at place (if b then quast_at down numbers else quast_at up numbers)
      by true = below
      by false = above

  pub test_over : (tree : Quast) (g : Gauge) (n : ℕ) → tree ≡ If test up down → (IsQuastOver g n up → IsQuastOver g n left_up)
      → (IsQuastOver g n down → IsQuastOver g n left_down) → IsQuastOver g n tree → IsQuastOver g n (If test left_up left_down)
  test_over tree g n is above below over =
      let parts = over-If g n test up down (subst (IsQuastOver g n) is over) in
      If-over g n test left_up left_down parts.0 (above parts.1) (below parts.2)
