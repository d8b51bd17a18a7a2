use Rattle.std.proofs.Common.{◌≡◌, sym, subst, All, List, ℕ}
use Rattle.isl_space.specs.Space.{space_form_of}
use Rattle.isl_space.specs.SpaceForm.{IsWellFormedSpace}
use Rattle.isl_piece.specs.System.{free_columns}
use Rattle.isl_union.specs.KeptValue.{columns_of}
use Rattle.isl_lower.proofs.MadeLaws.{other_made, systems_columns, within_later}
use Rattle.isl_lower.proofs.piece.other_pieces.Goals as goal

pub live_pieces_in-requires-clause-space : goal.live_pieces_in-requires-clause-space
live_pieces_in-requires-clause-space c = subst IsWellFormedSpace (sym c.in_ok-space.ensures) c.requires.well_formed

pub live_pieces_in-requires-clause-columns : goal.live_pieces_in-requires-clause-columns
live_pieces_in-requires-clause-columns c =
    let systems = c.in_ok-systems.systems.items in
    subst (λ (ps : List (List ℕ)). All (λ s. free_columns s ≡ columns_of ps (space_form_of c.in_ok-space.space)) systems) c.requires.params
    (systems_columns c.args.meter.now c.args.names.now c.args.piece.now systems c.in_ok-systems.ensures.systems
    (space_form_of c.in_ok-space.space) c.in_ok-space.ensures)

pub live_pieces_in-requires-clause-within : goal.live_pieces_in-requires-clause-within
live_pieces_in-requires-clause-within c =
    within_later c.args.meter.now c.systems_of.new.meter c.in_ok-systems.systems.items c.in_ok-systems.ensures.meter
    c.in_ok-systems.ensures.systems.within

pub returns-clause-made : goal.returns-clause-made
returns-clause-made c =
    other_made c.args.meter.now c.systems_of.new.meter c.live_pieces_in.new.meter c.args.names.now c.args.piece.now
    c.in_ok-systems.systems.items c.in_ok-made.made.items c.requires.other c.in_ok-systems.ensures.systems c.in_ok-systems.ensures.counted
    c.in_ok-systems.ensures.meter c.in_ok-made.ensures.meter
    (λ valuation element. rw (c.requires.params, ← c.in_ok-space.ensures) (c.in_ok-made.ensures.elements valuation element))
    (rw c.requires.params c.in_ok-made.ensures.sound) c.in_ok-made.ensures.numbers c.in_ok-made.ensures.few
