use Rattle.std.proofs.Common.{◌≤◌, ◌∙◌, arith, length, subst, sym, ap, List}
use Rattle.isl_meter.proofs.CutLemmas.{IsCharged_trans}
use Rattle.isl_space.specs.Name.{Name}
use Rattle.isl_space.specs.SpaceForm.{coordinates_of}
use Rattle.isl_piece.specs.System.{IsSystemWithin}
use Rattle.isl_union.specs.Piece.{IsPieceOf}
use Rattle.isl_union.proofs.MeetSteps.{charged_bits}
use Rattle.isl_union.proofs.PiecesLaws.{through}
use Rattle.isl_assumed.proofs.ValueLaws.{left_next, left_whole, some_has, within_at}
use Rattle.isl_assumed.proofs.region.Region.of.Goals as goal

pub live_without-requires-clause-within : goal.live_without-requires-clause-within
live_without-requires-clause-within c =
    let told = c.pieces-pieces.ensures in
    subst (IsSystemWithin c.loop-piece.meter) (sym c.system.ensures)
    (within_at c.args.meter.now c.loop-piece.meter c.args.value.now.params c.pieces-pieces.result.now c.args.value.now.pieces
    c.loop-piece.piece-index c.piece-item.result c.loop-piece.invariant.charged told.content told.well_formed c.requires
    c.loop-piece-test.true c.piece-item.is)

pub loop-piece-preserved : goal.loop-piece-preserved
loop-piece-preserved c =
    let g = c.args.meter.now in
    let h = c.loop-piece.meter in
    let params = c.args.value.now.params in
    let pieces = c.pieces-pieces.result.now in
    let i = c.loop-piece.piece-index in
    let p = c.piece-item.result in
    let so_far = c.loop-piece.invariant in
    let low = c.loop-piece-test.true in
    let at = c.piece-item.is in
    let sound = subst (IsPieceOf params) (sym at) (c.pieces-pieces.ensures.well_formed i p low) in
    let named = c.len-names.ensures.len ∙ ap (λ (names : List Name). length names) c.params-params.ensures.content in
    let one = rw (c.system.ensures, named, c.width-count.ensures ∙ ap coordinates_of c.space.ensures) at c.in_ok-more.ensures.left in
    record {
      left = left_next g h params pieces i p c.loop-piece.systems.items c.in_ok-more.more.items c.append.new.systems.items low at sound
          (charged_bits g h so_far.charged) c.in_ok-append.ensures.items so_far.left one;
      charged = IsCharged_trans g h c.live_without.new.meter so_far.charged c.in_ok-more.ensures.meter;
    }

pub returns-clause-valuations : goal.returns-clause-valuations
returns-clause-valuations c v =
    let value = c.args.value.now in
    let pieces = c.pieces-pieces.result.now in
    let i = c.loop-piece.piece-index in
    let left = c.loop-piece.systems.items in
    let end : length pieces ≤ i = omega arith in
    let whole = left_whole c.args.meter.now value.params pieces value.pieces i left end c.pieces-pieces.ensures.content
    c.loop-piece.invariant.left in
    rw (c.in_ok-params.ensures ∙ c.params-params.ensures.content) (through (whole.points v) (some_has value v))

pub returns-clause-plain : goal.returns-clause-plain
returns-clause-plain c = λ none.
    let value = c.args.value.now in
    let pieces = c.pieces-pieces.result.now in
    let i = c.loop-piece.piece-index in
    let left = c.loop-piece.systems.items in
    let end : length pieces ≤ i = omega arith in
    (left_whole c.args.meter.now value.params pieces value.pieces i left end c.pieces-pieces.ensures.content
    c.loop-piece.invariant.left).definitions none
