use Rattle.std.proofs.Common.{◌≡◌, ◌∙◌, inl, sym, ap}
use Rattle.std.proofs.lemmas.Bool.{false≢true}
use Rattle.std.proofs.lemmas.Result.{IfOk-weaker}
use Rattle.isl_space.specs.Space.{space_form_of}
use Rattle.isl_space.specs.SpaceForm.{SpaceForm}
use Rattle.isl_piece.specs.Piece.{PieceView}
use Rattle.isl_union.specs.Minus.{piece_in}
use Rattle.isl_precedence.specs.Told.{IsTold}
use Rattle.isl_precedence.proofs.ToldLaws.{told_new}
use Rattle.isl_precedence.proofs.told.told.Goals as goal

pub without_definitions-requires : goal.without_definitions-requires
without_definitions-requires c = record { well_formed = rw c.system.ensures c.requires.within }

pub returns-in_ok-copy-in-Some : goal.returns-in_ok-copy-in-Some
returns-in_ok-copy-in-Some c =
    let g = c.args.meter.now in
    let old = c.args.piece.now in
    let system = c.in-Some.system in
    let plain = rw (c.system.ensures, c.in-Some.is) at c.in_ok-system.ensures.plain in
    let none = rw (c.system.ensures, c.in-Some.is) at c.in_ok-system.ensures.none in
    let space = c.in_ok-copy-in-Some.ensures ∙ c.space.ensures in
    IfOk-weaker c.new.result (λ made. made ≡ piece_in (space_form_of c.in_ok-copy-in-Some.field-0) system) (λ made. IsTold g old made)
    (λ made is. told_new g old made system plain (λ e. false≢true (sym (none e))) (is ∙ ap (λ (s : SpaceForm). piece_in s system) space))
    c.new.ensures

pub returns-in-None : goal.returns-in-None
returns-in-None c =
    IfOk-weaker c.copy-in-None.result (λ (made : PieceView). made ≡ c.args.piece.now)
    (λ (made : PieceView). IsTold c.args.meter.now c.args.piece.now made)
    (λ made same. inl same) c.copy-in-None.ensures
