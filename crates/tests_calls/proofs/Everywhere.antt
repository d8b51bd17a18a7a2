-- Systems without rows.
use Rattle.std.proofs.Common.{◌≡◌, subst, sym, pos, List, [], replicate}
use Rattle.std.proofs.lemmas.List.{length-replicate}
use Rattle.std.proofs.lemmas.List.Elements.{All-nil}
use Rattle.isl_piece.specs.declared.row.Row.{Row}
use Rattle.isl_piece.specs.declared.system.System.{System}
use Rattle.isl_piece.specs.Definition.{with_defined}
use Rattle.isl_piece.specs.Row.{HoldsRow}
use Rattle.isl_piece.specs.System.{HoldRows, HoldsSystem, free_columns}
use Rattle.isl_elim.specs.Sample.{IsNowhere}

-- a system without rows holds somewhere
pub holds_somewhere : (s : System) → s.rows ≡ [] → ¬ IsNowhere (free_columns s) (HoldsSystem s)
holds_somewhere s none nowhere =
    let zeros = replicate (free_columns s) (pos 0) in
    let full = with_defined s.definitions zeros in
    nowhere zeros (length-replicate (free_columns s) (pos 0))
    (subst (λ (rows : List Row). HoldRows rows full) (sym none) (All-nil (λ r. HoldsRow r full)))
