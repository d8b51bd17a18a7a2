-- public: the order of rows in printed text.
use Rattle.std.specs.Prelude.{ℕ, Bool}
use Rattle.std.specs.Cmp.Lexicographic.{slice_cmp}
use Rattle.std.specs.Ordering.{ordering_then, nat_cmp, int_cmp, is_lt}
use Rattle.std.specs.declared.cmp.Ordering.{Ordering}
use Rattle.isl_piece.specs.declared.row.RowKind.{RowKind}
use Rattle.isl_piece.specs.declared.row.RowKind.TheVariants.{Zero, AtLeast, Divides, NotDivides}
use Rattle.isl_piece.specs.declared.row.Row.{Row}

-- the order of the kinds
abbrev pub rank_of : RowKind → ℕ
rank_of Zero = 0
rank_of AtLeast = 1
rank_of Divides = 2
rank_of NotDivides = 3

-- the lexicographic order of the coefficients and the constant behind them
abbrev pub numbers_cmp : Row → Row → Ordering
numbers_cmp a b = ordering_then (slice_cmp int_cmp a.coefs b.coefs) (int_cmp a.constant b.constant)

-- rows stand by kind; those of a kind by what they divide by, the least first; those with the same by their numbers, the greater first
abbrev pub row_cmp : Row → Row → Ordering
row_cmp a b = ordering_then (ordering_then (nat_cmp (rank_of a.kind) (rank_of b.kind)) (int_cmp a.k b.k)) (numbers_cmp b a)

abbrev pub row_before : Row → Row → Bool
row_before a b = is_lt (row_cmp a b)
