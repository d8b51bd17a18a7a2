use Rattle.std.proofs.Common.{◌↔◌, ◌∙◌, ap, get_or, map, unsigned_abs, Any}
use Rattle.std.specs.List.{All}
use Rattle.isl_meter.specs.Gauge.{limit_of}
use Rattle.isl_space.specs.SpaceForm.{coordinates_of}
use Rattle.isl_difference.proofs.SplitLaws.{charged_within}
use Rattle.isl_blocks.proofs.ResultLaws.{ok_case, ok_has}
use Rattle.isl_space.specs.Valuation.{values_of}
use Rattle.isl_elim.specs.Elimination.{HoldsAtAny}
use Rattle.isl_union.specs.KeptValue.{HasElement}
use Rattle.isl_union.specs.Numbers.{IsPieceUpTo}
use Rattle.isl_union.specs.Piece.{kept_piece}
use Rattle.isl_union.specs.Pieces.{IsOfAny}
use Rattle.isl_union.proofs.PiecesLaws.{small_before, through}
use Rattle.isl_assumed.proofs.ValueLaws.{under_elements}
use Rattle.isl_assumed.proofs.values.piece_under.Goals as goal

pub live_pieces_in-requires-clause-within : goal.live_pieces_in-requires-clause-within
live_pieces_in-requires-clause-within c = λ k d l.
    charged_within c.args.meter.now c.pairs.new.meter (get_or c.in_ok-pairs.pairs.items k d) c.in_ok-pairs.ensures.meter
    (c.in_ok-pairs.ensures.pairs.within k d l)

pub returns-clause-elements : goal.returns-clause-elements
returns-clause-elements c v e =
    let params = c.args.params.now in
    let p = c.args.piece.now in
    let systems = c.in_ok-pairs.pairs.items in
    let r = c.live_pieces_in.result in
    let are = rw (c.len-names.ensures.len, c.width-more.ensures ∙ ap coordinates_of c.space-space.ensures, c.system.ensures) at
    c.in_ok-pairs.ensures.pairs in
    let told = rw c.space-space.ensures at c.live_pieces_in.ensures.elements v e in
    ok_case r (λ under. Any (HasElement params v e) (map kept_piece under.items)
    ↔ (HasElement params v e (kept_piece p) × HoldsAtAny c.args.systems.now (values_of params v))) (λ under is.
    through (ok_has r under (λ u. Any (HasElement params v e) (map kept_piece u.items) ↔ IsOfAny params p.space systems v e) is told)
    (under_elements params p c.requires.piece c.args.meter.now c.args.systems.now systems are v e))

pub returns-clause-numbers : goal.returns-clause-numbers
returns-clause-numbers c =
    let g = c.args.meter.now in
    let h = c.pairs.new.meter in
    let r = c.live_pieces_in.result in
    ok_case r (λ under. All (IsPieceUpTo (unsigned_abs (limit_of g))) (map kept_piece under.items)) (λ under is.
    small_before g h (map kept_piece under.items) c.in_ok-pairs.ensures.meter
    (ok_has r under (λ u. All (IsPieceUpTo (unsigned_abs (limit_of h))) (map kept_piece u.items)) is c.live_pieces_in.ensures.numbers))
