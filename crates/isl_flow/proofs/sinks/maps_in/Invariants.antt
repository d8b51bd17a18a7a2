use Rattle.std.proofs.Common.{List, take}
use Rattle.std.specs.List.{All, Any}
use Rattle.isl_meter.specs.Gauge.{Gauge}
use Rattle.isl_space.specs.Name.{Name}
use Rattle.isl_images.specs.Made.{IsPlain}
use Rattle.isl_flow.specs.Last.{HasMap}
use Rattle.isl_remainder.specs.Made.{AreMade}
use Rattle.isl_precedence.specs.Precedence.{HasAt, IsSound}
use Rattle.isl_flow.proofs.sinks.maps_in.Given as goal

abbrev pub invariant-loop-piece : goal.invariant-loop-piece
invariant-loop-piece l =
    (g : Gauge) (params : List Name) → All (IsSound g params) l.pieces
    → AreMade (HasAt params) (IsSound g params) IsPlain (All IsPlain l.pieces) (λ at. Any (HasMap params at) (take l.piece-index l.pieces))
    l.made.items
