-- Parts: where the limit stays, rows that were taken out of them stay as they are.
use Rattle.std.proofs.Common.{◌≡◌, sym, ap, ◌-◌, ℕ, ℤ, pos, ◌+ℤ◌, ◌≤ℤ◌, List, get_or, arith}
use Rattle.std.specs.Prelude.{Option, Some}
use Rattle.std.specs.List.{All}
use Rattle.isl_math.proofs.Ring.{linear}
use Rattle.isl_meter.specs.Gauge.{Gauge, IsCharged}
use Rattle.isl_piece.specs.declared.row.Row.{Row}
use Rattle.isl_piece.proofs.RowMagnitudes.{row_within_kept}
use Rattle.isl_omega.specs.Column.{IsProper}
use Rattle.isl_shadows.specs.Units.{elimination_units}
use Rattle.isl_column.specs.Parts.{PartsView, AreParts, ArePartsOf, IsNextPart, IsFoundIn, AreUnitsUpTo, most_units}
use Rattle.isl_column.proofs.PartsLemmas.{parts_kept}

-- a meter that was charged has the same limit
pub charged_bits : (g h : Gauge) → IsCharged g h → h.bits ≡ g.bits
charged_bits g h c = ap (λ (x : Gauge). x.bits) c.same

pub proper_kept : (g h : Gauge) (columns : ℕ) (rows : List Row) → IsCharged g h → All (IsProper g columns) rows → All (IsProper h columns) rows
proper_kept g h columns rows c a = λ k d i. let p = a k d i in record {
  formed = p.formed;
  within = row_within_kept h g (get_or rows k d) (sym (charged_bits g h c)) p.within;
}

pub next_proper : (g h : Gauge) (columns : ℕ) (old : PartsView) (rows : List Row) (new : PartsView) → IsCharged g h
    → IsNextPart g columns old rows new → All (IsProper h columns) rows
next_proper g h columns old rows new c n = proper_kept g h columns rows c n.proper

pub parts_after : (g h : Gauge) (columns col : ℕ) (rows : List Row) (parts : PartsView) → IsCharged g h
    → ArePartsOf g columns col rows parts → AreParts h (columns - 1) parts
parts_after g h columns col rows parts c a = parts_kept g h (columns - 1) parts c a.are

-- the list that was found
pub part_found : (g : Gauge) (columns : ℕ) (old new : PartsView) (found : Option (List Row)) (rows : List Row) → found ≡ Some rows
    → IsFoundIn g columns old found new → IsNextPart g columns old rows new
part_found g columns old new found rows e f = rw e at f

-- the units of one list more stay within those of all
pub units_then : (g h k : Gauge) (parts : PartsView) (rows slice : List Row) (col : ℕ) → slice ≡ rows
    → AreUnitsUpTo (elimination_units slice col) g h parts
    → pos k.units ≤ℤ (pos h.units +ℤ most_units parts) → pos k.units ≤ℤ (pos g.units +ℤ elimination_units rows col)
units_then g h k parts rows slice col e a b = rw e at (bound (elimination_units slice col) (most_units parts) a b)
  where
    bound : (z m : ℤ) → (pos h.units +ℤ m) ≤ℤ (pos g.units +ℤ z) → pos k.units ≤ℤ (pos h.units +ℤ m) → pos k.units ≤ℤ (pos g.units +ℤ z)
    bound z m a b = omega (arith, linear)
