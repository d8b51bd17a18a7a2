use Rattle.std.proofs.Common.{◌≡◌, ap}
use Rattle.std.proofs.lemmas.Result.{IfOk-weaker}
use Rattle.isl_space.specs.Space.{space_form_of}
use Rattle.isl_piece.specs.declared.system.System.{System}
use Rattle.isl_piece.specs.Definition.{with_defined}
use Rattle.isl_piece.specs.Piece.{PieceView}
use Rattle.isl_union.specs.Live.{settled}
use Rattle.isl_union.specs.Piece.{kept_piece, piece_of, IsPieceOf}
use Rattle.isl_union.proofs.MadeLaws.{settled_made, settled_sound}
use Rattle.isl_union.proofs.live.settled_piece.Goals as goal

pub unreachable-requires : goal.unreachable-requires
unreachable-requires c =
    let never = rw c.in-None.is at c.in_ok-normalise.ensures.points in
    c.requires.live (λ point l h. never (with_defined c.args.system.definitions point) h)

pub returns-clause-exact : goal.returns-clause-exact
returns-clause-exact c =
    let space = space_form_of c.args.space.now in
    let s = c.args.system in
    let rows = c.in-Some.rows in
    let made : System = record { columns = s.columns; definitions = s.definitions; rows = rows } in
    IfOk-weaker c.new.result (λ m. m ≡ record { space = space_form_of c.in_ok-copy-in-Some.field-0; system = made })
    (λ m. kept_piece m ≡ settled (piece_of space s))
    (λ m is. settled_made m space (space_form_of c.in_ok-copy-in-Some.field-0) s rows c.in_ok-normalise.field-0
    c.in_ok-normalise.ensures.exact c.in-Some.is c.in_ok-copy-in-Some.ensures is) (rw c.over.ensures at c.new.ensures)

pub returns-clause-sound : goal.returns-clause-sound
returns-clause-sound c params formed free =
    let space = space_form_of c.args.space.now in
    let s = c.args.system in
    let rows = c.in-Some.rows in
    let made : System = record { columns = s.columns; definitions = s.definitions; rows = rows } in
    IfOk-weaker c.new.result (λ m. m ≡ record { space = space_form_of c.in_ok-copy-in-Some.field-0; system = made }) (IsPieceOf params)
    (λ m is. settled_sound c.args.meter.now params space s c.requires.within free c.requires.live m
    (settled_made m space (space_form_of c.in_ok-copy-in-Some.field-0) s rows c.in_ok-normalise.field-0
    c.in_ok-normalise.ensures.exact c.in-Some.is c.in_ok-copy-in-Some.ensures is)
    (ap (λ (x : PieceView). x.system.columns) is) formed) (rw c.over.ensures at c.new.ensures)
