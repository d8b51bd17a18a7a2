-- public: within how many units it is answered, with a proof, whether difference constraints have a point outside so many others. (Miné,
-- difference-bound matrices; isl manual, on subtracting sets)
use Rattle.std.specs.Prelude.{◌≡◌, ◌⊎◌, ℕ, ◌+◌, ◌*◌}
use Rattle.isl_difference.specs.Tame.{left_work, part_limit}
use Rattle.isl_ledger.specs.Difference.{AreUnitsAtMostOnce}
use Rattle.isl_ledger.specs.Work.{allowance}
use Rattle.isl_piece.specs.declared.row.Row.{Row}
use Rattle.isl_piece.specs.declared.row.RowKind.TheVariants.{Zero, AtLeast}

-- as many units as all that may be left of a system without so many others may cost
abbrev pub node_limit : ℕ → ℕ → ℕ
node_limit columns outs = allowance (part_limit columns outs) columns

-- what is left of the system, and its proof
abbrev pub proof_work : ℕ → ℕ → ℕ
proof_work columns outs = 8 * ((columns + 1) * node_limit columns outs)

-- the test of each system, and what is left of the first without the others
abbrev pub question_work : ℕ → ℕ → ℕ
question_work columns outs = (1 + outs) * (columns * (columns * columns)) + left_work columns outs

-- an equation or a bound that compares two columns, or one with a number, whatever its constant
pub record IsComparing (r : Row) : Type 0 where
  pub kind : (r.kind ≡ Zero) ⊎ (r.kind ≡ AtLeast)
  pub units : AreUnitsAtMostOnce r.coefs
