use Rattle.std.proofs.Common.{◌↔◌, ◌∙◌, sym, subst, ◌^◌, ◌-◌, List, All, Any, map}
use Rattle.isl_space.specs.Name.{Name}
use Rattle.isl_space.specs.Shape.{form_of}
use Rattle.isl_space.specs.SpaceForm.{IsWellFormedSpace}
use Rattle.isl_union.specs.KeptValue.{Has, HasElement, HasNoDefinitions}
use Rattle.isl_union.specs.Piece.{kept_piece, IsPieceOver}
use Rattle.isl_union.proofs.PiecesLaws.{through}
use Rattle.isl_orders.proofs.WholeLaws.{pieces_have, pieces_live, pieces_over, pieces_plain, pieces_small}
use Rattle.isl_orders.proofs.whole.order_of.Goals as goal

pub from_live-requires-clause-pieces : goal.from_live-requires-clause-pieces
from_live-requires-clause-pieces c =
    let g = c.args.meter.now in
    let x = form_of c.args.shape.now.value in
    let pieces = c.in_ok-pieces.pieces.items in
    let none = c.in_ok-params.ensures.made ∙ c.new.ensures.items in
    let formed = subst IsWellFormedSpace c.in_ok-space.ensures.made c.in_ok-space.ensures.well_formed in
    subst (λ (params : List Name). All (IsPieceOver g params) pieces) (sym none)
    (pieces_over c.args.order x pieces c.in_ok-pieces.ensures g c.limit-limit.ensures.bits_low formed)

pub from_live-requires-clause-live : goal.from_live-requires-clause-live
from_live-requires-clause-live c =
    pieces_live c.args.order (form_of c.args.shape.now.value) c.in_ok-pieces.pieces.items c.in_ok-pieces.ensures

pub returns-clause-elements : goal.returns-clause-elements
returns-clause-elements c v e =
    let x = form_of c.args.shape.now.value in
    let pieces = c.in_ok-pieces.pieces.items in
    let value = c.in_ok-from_live.field-0 in
    let none = c.in_ok-params.ensures.made ∙ c.new.ensures.items in
    let told = subst (λ (params : List Name). Has value v e ↔ Any (HasElement params v e) (map kept_piece pieces)) none
    (c.in_ok-from_live.ensures.elements v e) in
    through told (pieces_have c.args.order x pieces c.in_ok-pieces.ensures v e)

pub returns-clause-definitions : goal.returns-clause-definitions
returns-clause-definitions c =
    subst HasNoDefinitions (sym c.in_ok-from_live.ensures.written)
    (pieces_plain c.args.order (form_of c.args.shape.now.value) c.in_ok-pieces.pieces.items c.in_ok-pieces.ensures)

pub returns-clause-numbers : goal.returns-clause-numbers
returns-clause-numbers c =
    let g = c.args.meter.now in
    c.in_ok-from_live.ensures.numbers (2 ^ g.bits - 1)
    (pieces_small c.args.order (form_of c.args.shape.now.value) c.in_ok-pieces.pieces.items c.in_ok-pieces.ensures g
    c.limit-limit.ensures.bits_low)
