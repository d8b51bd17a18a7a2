use Rattle.std.specs.List.{All, Any}
use Rattle.std.proofs.lemmas.Result.{IfOk-weaker}
use Rattle.isl_images.specs.Made.{IsPlain}
use Rattle.isl_flow.specs.Last.{ShowsSink}
use Rattle.isl_remainder.specs.Made.{AreMade}
use Rattle.isl_precedence.specs.Precedence.{HasAt, IsPlainPrecedence, IsSound, Shows}
use Rattle.isl_remainder.proofs.MadeLaws.{made_same}
use Rattle.isl_flow.proofs.SinkLaws.{sink_shown}
use Rattle.isl_flow.proofs.sources.sink_pieces.Goals as goal

pub all_pieces_of-requires : goal.all_pieces_of-requires
all_pieces_of-requires c = record { precedences = rw c.as_slice.ensures.value c.in_ok-turned.ensures.sound }

pub returns-clause-made : goal.returns-clause-made
returns-clause-made c =
    let g = c.args.meter.now in
    let params = c.args.params.now in
    let found = c.args.found.now in
    let turned = c.in_ok-turned.turned.items in
    let are = c.in_ok-turned.ensures in
    let pieces = rw c.as_slice.ensures.value at c.all_pieces_of.ensures.made in
    IfOk-weaker c.all_pieces_of.result
    (λ made. AreMade (HasAt params) (IsSound g params) IsPlain (All IsPlainPrecedence turned)
    (λ at. Any (Shows params at.0 at.1) turned) made.items)
    (λ made. AreMade (HasAt params) (IsSound g params) IsPlain (All IsPlainPrecedence found) (λ at. ShowsSink params at.0 at.1 found)
    made.items)
    (λ made all. made_same (HasAt params) (IsSound g params) IsPlain (All IsPlainPrecedence turned) (IsSound g params)
    (All IsPlainPrecedence found) (λ at. Any (Shows params at.0 at.1) turned) (λ at. ShowsSink params at.0 at.1 found)
    (λ p is. is) are.plain (λ at. sink_shown g g params found at.0 at.1 turned _ are) made.items all)
    pieces
