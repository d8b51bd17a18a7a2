use Rattle.std.proofs.Common.{ap, ◌∙◌}
use Rattle.isl_piece.specs.Piece.{PieceView}
use Rattle.isl_piece.specs.declared.system.System.{System}
use Rattle.tests_calls.proofs.Everywhere.{holds_somewhere}
use Rattle.tests_calls.proofs.calls.piece.Goals as goal

pub returns-clause-live : goal.returns-clause-live
returns-clause-live c =
    holds_somewhere c.in_ok-new.field-0.system
    (ap (λ (p : PieceView). p.system.rows) c.in_ok-new.ensures ∙ ap (λ (s : System). s.rows) c.new-system.ensures)
