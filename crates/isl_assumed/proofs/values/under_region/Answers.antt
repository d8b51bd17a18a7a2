use Rattle.std.proofs.Common.{◌≤◌, ◌∙◌, arith, length, map, refl, subst, sym, take, List}
use Rattle.isl_meter.proofs.CutLemmas.{IsCharged_trans}
use Rattle.isl_space.specs.Names.{IsParameterList}
use Rattle.isl_union.specs.KeptValue.{KeptPiece}
use Rattle.isl_union.specs.Piece.{kept_piece}
use Rattle.isl_union.proofs.PiecesLaws.{made_more, next_piece, plain_more, small_before, AreMade}
use Rattle.isl_assumed.proofs.RegionLaws.{lives_later}
use Rattle.isl_assumed.proofs.UnderLaws.{plain_at, under_made}
use Rattle.isl_assumed.proofs.ValueLaws.{within_at, HasUnder}
use Rattle.isl_assumed.proofs.values.under_region.Goals as goal

pub piece_under-requires-clause-within : goal.piece_under-requires-clause-within
piece_under-requires-clause-within c =
    let told = c.pieces-pieces.ensures in
    within_at c.args.meter.now c.loop-piece.meter c.args.value.now.params c.pieces-pieces.result.now c.args.value.now.pieces
    c.loop-piece.piece-index c.piece-item.result c.loop-piece.invariant.charged told.content told.well_formed c.requires.value
    c.loop-piece-test.true c.piece-item.is

pub piece_under-requires-clause-systems : goal.piece_under-requires-clause-systems
piece_under-requires-clause-systems c =
    let n = length c.params-params.result.now in
    lives_later c.args.meter.now c.loop-piece.meter n n c.in_ok-systems.systems.items c.as_slice.result.now c.as_slice.ensures.value refl
    c.loop-piece.invariant.charged c.in_ok-systems.ensures.onto.live

pub loop-piece-preserved : goal.loop-piece-preserved
loop-piece-preserved c =
    let g = c.args.meter.now in
    let h = c.loop-piece.meter in
    let params = c.params-params.result.now in
    let pieces = c.pieces-pieces.result.now in
    let i = c.loop-piece.piece-index in
    let p = c.piece-item.result in
    let low = c.loop-piece-test.true in
    let at = c.piece-item.is in
    let kept = c.loop-piece.kept.items in
    let more = c.in_ok-more.more.items in
    let pushed = c.append.new.pieces.items in
    let is = c.in_ok-append.ensures in
    let so_far = c.loop-piece.invariant in
    let told = rw c.as_slice.ensures.value at c.in_ok-more.ensures in
    let Q = HasUnder params c.in_ok-systems.systems.items in
    record {
      made = subst (λ (l : List KeptPiece). AreMade g params Q l pushed) (sym (next_piece pieces i p low at))
          (made_more g params Q (map kept_piece (take i pieces)) (kept_piece p) kept so_far.made more pushed is told.elements told.sound
          (small_before g h (map kept_piece more) so_far.charged told.numbers));
      plain = λ none flat.
          plain_more kept more pushed is (so_far.plain none flat)
          (told.definitions (plain_at pieces c.args.value.now.pieces i p c.pieces-pieces.ensures.content none low at) flat);
      charged = IsCharged_trans g h c.piece_under.new.meter so_far.charged told.meter;
    }

pub returns-clause-under : goal.returns-clause-under
returns-clause-under c =
    let g = c.args.meter.now in
    let value = c.args.value.now in
    let region = c.args.region.now in
    let pieces = c.pieces-pieces.result.now in
    let i = c.loop-piece.piece-index in
    let end : length pieces ≤ i = omega arith in
    let same = c.params-params.ensures.content in
    let onto = rw same at c.in_ok-systems.ensures.onto in
    let made = rw same at c.loop-piece.invariant.made in
    let is = rw (c.in_ok-copy.ensures ∙ same) at c.from_normal.ensures in
    under_made g value region.params region.systems.items c.in_ok-systems.systems.items pieces c.loop-piece.kept.items i
    c.from_normal.result (subst IsParameterList same c.params-params.ensures.well_formed) c.requires.declared onto end
    c.pieces-pieces.ensures.content made is c.loop-piece.invariant.plain
