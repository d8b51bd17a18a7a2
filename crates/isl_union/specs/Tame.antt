-- public: values whose rows are difference constraints, and how operations on them are answered. (Miné, difference-bound matrices; isl manual,
-- on set and relation operations)
use Rattle.std.specs.Prelude.{ℕ, ⊤, ◌+◌, ◌*◌, List, Result, Ok, Err, map}
use Rattle.isl_meter.specs.Gauge.{Gauge}
use Rattle.isl_space.specs.Name.{Name}
use Rattle.isl_space.specs.Names.{joined}
use Rattle.isl_piece.specs.Piece.{PieceView}
use Rattle.isl_piece.specs.declared.system.System.{System}
use Rattle.isl_ledger.specs.Answered.{IsTame}
use Rattle.isl_ledger.specs.Work.{Size, AreOfSize}
use Rattle.isl_difference.specs.Tame.{part_limit}
use Rattle.isl_union.specs.declared.fault.OpFault.{OpFault}
use Rattle.isl_union.specs.declared.fault.OpFault.TheVariants as op_fault
use Rattle.isl_union.specs.KeptValue.{KeptValue, piece_system}

-- ---- sizes
abbrev pub size_of : ℕ → ℕ → ℕ → Size
size_of pieces columns bits = record { pieces = pieces; columns = columns; bits = bits }

abbrev pub systems_of : List PieceView → List System
systems_of pieces = map (λ piece. piece.system) pieces

-- the value's pieces have this size, where each of these parameters counts as a column of each of them
abbrev pub IsOfSize : List Name → Size → KeptValue → Type 0
IsOfSize params size value = AreOfSize size (map (piece_system params) value.pieces)

-- two values over their joined parameters: at most so many pieces of each, columns of each piece, and bits of constants
pub record AreOfSizes (own others columns bits : ℕ) (a b : KeptValue) : Type 0 where
  pub first : IsOfSize (joined a.params b.params) (size_of own columns bits) a
  pub second : IsOfSize (joined a.params b.params) (size_of others columns bits) b

-- what may be left of so many pieces without so many others
abbrev pub minus_size : ℕ → ℕ → ℕ → ℕ → Size
minus_size own others columns bits = size_of (own * part_limit columns others) columns (bits + 1)

-- ---- answers
-- answered as a call is that may be cut; or the parameters are too many, and nothing was done
abbrev pub IsTameAnswer : {A : Type 0} → ℕ → Gauge → Gauge → (A → Type 0) → Result A OpFault → Type 0
IsTameAnswer most old new P (Ok value) = IsTame most old new P (Ok value)
IsTameAnswer most old new P (Err op_fault.TooWide) = ⊤
IsTameAnswer most old new P (Err (op_fault.Cut cut)) = IsTame most old new P (Err cut)
