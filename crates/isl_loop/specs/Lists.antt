-- inner: what lists of summands, expressions and loops are worth: the definitions of rows, once more for lists.
use Rattle.std.specs.Prelude.{ℕ, ◌+◌, ℤ, pos, ◌+ℤ◌, ◌*ℤ◌, ◌⊎◌, List, [], ◌∷◌, ◌++◌}
use Rattle.isl_meter.specs.Gauge.{Gauge, IsWithin}
use Rattle.isl_loop.specs.declared.tree.Expr.{Expr}
use Rattle.isl_loop.specs.declared.tree.Item.{Item}
use Rattle.isl_loop.specs.declared.tree.Loop.{Loop}
use Rattle.isl_loop.specs.Expr.{expr_value, atom_value}
use Rattle.isl_loop.specs.Formed.{AtomPasses, IsAtomOver}
use Rattle.isl_loop.specs.Run.{Event, trace, turns_of}

-- ---- summands
abbrev pub sum_of : List Item → List ℤ → ℤ
sum_of [] point = pos 0
sum_of (item ∷ items) point = item.coef *ℤ atom_value item.atom point +ℤ sum_of items point

pub record IsItemOver (g : Gauge) (n : ℕ) (item : Item) : Type 0 where
  pub coef : IsWithin g item.coef
  pub atom : IsAtomOver g n item.atom

-- behind products that make up the sum so far
abbrev pub ItemsPass : Gauge → List ℤ → ℤ → List Item → Type 0
ItemsPass g point sum [] = ⊥
ItemsPass g point sum (item ∷ items) =
    let product = item.coef *ℤ atom_value item.atom point in
    AtomPasses g point item.atom ⊎ (¬ IsWithin g product) ⊎ (¬ IsWithin g (sum +ℤ product)) ⊎ ItemsPass g point (sum +ℤ product) items

-- ---- expressions
abbrev pub extreme_past : (ℤ → ℤ → ℤ) → ℤ → List Expr → List ℤ → ℤ
extreme_past better best [] point = best
extreme_past better best (e ∷ es) point = extreme_past better (better best (expr_value e point)) es point

abbrev pub extreme_in : (ℤ → ℤ → ℤ) → List Expr → List ℤ → ℤ
extreme_in better [] point = pos 0
extreme_in better (e ∷ es) point = extreme_past better (expr_value e point) es point

-- ---- loops
abbrev pub calls_of : List Loop → List ℤ → List Event
calls_of [] point = []
calls_of (part ∷ parts) point = trace part point ++ calls_of parts point

abbrev pub turns_through : List Loop → List ℤ → ℕ
turns_through [] point = 0
turns_through (part ∷ parts) point = turns_of part point + turns_through parts point
