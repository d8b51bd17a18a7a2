use Rattle.std.proofs.Common.{◌≡◌}
use Rattle.std.proofs.lemmas.Result.{IfOk-weaker}
use Rattle.isl_space.specs.Space.{space_form_of}
use Rattle.isl_piece.specs.Piece.{PieceView}
use Rattle.isl_union.specs.Piece.{IsPieceOf}
use Rattle.isl_maps.proofs.ChangeLaws.{normal_sound}
use Rattle.isl_maps.proofs.change.Change.piece.Goals as goal

pub returns-then-keeps_columns-clause-sound : goal.returns-then-keeps_columns-clause-sound
returns-then-keeps_columns-clause-sound c params formed free =
    let at : PieceView = record { space = space_form_of c.args.space; system = c.args.system } in
    IfOk-weaker c.new.result (λ made. made ≡ at) (IsPieceOf params)
    (λ made is. normal_sound c.args.meter.now params (space_form_of c.args.space) c.args.system made is formed free c.requires.within
    (c.requires.normal (c.keeps_columns.ensures.0 c.if-keeps_columns.true)) c.requires.live)
    c.new.ensures
