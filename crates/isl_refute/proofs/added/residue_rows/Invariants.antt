use Rattle.std.proofs.Common.{◌≡◌, map, pos, ◌-ℤ◌, ℕ}
use Rattle.std.specs.List.{All, range_with_len}
use Rattle.isl_piece.specs.Normal.{congruence}
use Rattle.isl_piece.specs.Row.{IsRowWithin}
use Rattle.isl_refute.proofs.added.residue_rows.Given as goal

abbrev pub invariant-loop-rest : goal.invariant-loop-rest
invariant-loop-rest l =
    (l.rows ≡ map (λ (r : ℕ). congruence l.form.coefs (l.form.constant -ℤ pos r) (pos l.count)) (range_with_len 0 l.rest))
    × All (IsRowWithin l.fn.meter) l.rows × (l.meter ≡ l.fn.meter)
