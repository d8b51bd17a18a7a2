-- public: where a row that a literal writes passes the limit: in a product, in a sum at a column, as the amounts of its terms, multiplied
-- out, are added from the left, or by its modulus.
use Rattle.std.specs.Prelude.{◌≡◌, ◌⊎◌, ℕ, Option, ◌+◌, ◌<◌, ℤ, pos, ◌+ℤ◌, List, [], ◌∷◌, length, take, replicate, slice_index_or, Any}
use Rattle.isl_meter.specs.Gauge.{Gauge, IsWithin, overflown}
use Rattle.isl_meter.specs.declared.Cut.{Cut}
use Rattle.isl_meter.specs.declared.Cut.TheVariants.{Overflow, Budget, NoMemory}
use Rattle.isl_tree.specs.declared.tree.PieceTree.{PieceTree}
use Rattle.isl_tree.specs.Term.{Term, product_of}
use Rattle.isl_plain.specs.Linear.{Place, Amount, with_amount, numbers_of, multiplied_out, difference}
use Rattle.isl_plain.specs.Rows.{Written, piece_width, piece_place, written_piece}

-- the product of the first numbers passes the limit
abbrev pub ProductPasses : Gauge → List ℤ → Type 0
ProductPasses g numbers = (i : ℕ) × (i < length numbers) × ¬ IsWithin g (product_of (take (i + 1) numbers))

-- a product of one of the parts passes the limit
abbrev pub PartsPass : Gauge → Term → Type 0
PartsPass g [] = ⊥
PartsPass g (part ∷ parts) = ProductPasses g (numbers_of part) ⊎ PartsPass g parts

-- a sum at a column passes the limit
abbrev pub SumPasses : Gauge → List ℤ → List Amount → Type 0
SumPasses g row [] = ⊥
SumPasses g row (a ∷ amounts) = (¬ IsWithin g (slice_index_or row a.0 (pos 0) +ℤ a.1)) ⊎ SumPasses g (with_amount row a) amounts

-- a product or a sum of the difference of two terms passes the limit
abbrev pub DifferencePasses : Gauge → ℕ → Place → List ℤ → Term → Term → Option ℕ → Type 0
DifferencePasses g n place row greater less last =
    PartsPass g greater ⊎ (PartsPass g less ⊎ SumPasses g row (difference n place greater less last))

-- a written row over n columns passes the limit
abbrev pub WrittenPasses : Gauge → ℕ → Place → Written → Type 0
WrittenPasses g n place w =
    DifferencePasses g n place (replicate (n + 1) (pos 0)) (multiplied_out w.greater) (multiplied_out w.less) w.last
    ⊎ (¬ IsWithin g w.modulus)

-- a row of a piece passes the limit
abbrev pub PiecePasses : Gauge → List (List ℕ) → PieceTree → Type 0
PiecePasses g params piece = Any (WrittenPasses g (piece_width params piece) (piece_place params piece)) (written_piece params piece)

-- why a row was not made: a number passed the limit, which was counted, or memory ended
abbrev pub FailsBy : Type 0 → Gauge → Gauge → Cut → Type 0
FailsBy passes old new Overflow = passes × (new ≡ overflown old)
FailsBy passes old new Budget = ⊥
FailsBy passes old new NoMemory = new ≡ old
