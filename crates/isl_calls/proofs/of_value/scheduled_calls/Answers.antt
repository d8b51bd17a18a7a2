use Rattle.std.proofs.Common.{◌≡◌, ◌∙◌, ◌<◌, ◌≤◌, refl, sym, ap, subst, arith, length, []}
use Rattle.std.proofs.lemmas.Grind.{common_steps}
use Rattle.std.specs.List.{All}
use Rattle.isl_math.proofs.ListLaws.{All-unmapped}
use Rattle.isl_meter.proofs.CutLemmas.{IsCharged_refl}
use Rattle.isl_union.specs.KeptValue.{KeptPiece}
use Rattle.isl_union.specs.Piece.{kept_piece}
use Rattle.isl_union.proofs.BoundedLaws.{pieces_within}
use Rattle.isl_calls.specs.Apart.{AreApartOf}
use Rattle.isl_calls.specs.Calls.{AreCallsOf}
use Rattle.isl_calls.proofs.CallsLaws.{answered, apart_alone, calls_made, laid_even, laid_plain, own_alone}
use Rattle.isl_calls.proofs.of_value.scheduled_calls.Goals as goal

pub laid_out-requires-clause-plain : goal.laid_out-requires-clause-plain
laid_out-requires-clause-plain c =
    All-unmapped (λ (piece : KeptPiece). piece.definitions ≡ []) kept_piece c.pieces.result.now
    (subst (All (λ (piece : KeptPiece). piece.definitions ≡ [])) (sym c.pieces.ensures.content) c.requires.plain)

pub laid_out-requires-clause-within : goal.laid_out-requires-clause-within
laid_out-requires-clause-within c =
    pieces_within c.args.meter.now c.args.value.now c.pieces.result.now c.pieces.ensures.well_formed c.pieces.ensures.content c.requires.within

pub apart-requires-clause-sound : goal.apart-requires-clause-sound
apart-requires-clause-sound c =
    let value = c.args.value.now in
    let laid = rw c.params.ensures.content at c.in_ok-laid.ensures in
    let list = rw c.params.ensures.content at c.params.ensures.well_formed in
    rw c.as_slice.ensures.value (laid_plain c.args.meter.now value c.pieces.result.now c.pieces.ensures.content laid.is_own
    c.in_ok-laid.laid.items laid.each c.requires.schedule list.distinct c.pieces.ensures.well_formed)

pub apart-requires-clause-even : goal.apart-requires-clause-even
apart-requires-clause-even c =
    let value = c.args.value.now in
    let laid = rw c.params.ensures.content at c.in_ok-laid.ensures in
    let list = rw c.params.ensures.content at c.params.ensures.well_formed in
    rw c.as_slice.ensures.value (laid_even c.args.meter.now value c.pieces.result.now c.pieces.ensures.content laid.is_own
    c.in_ok-laid.laid.items laid.each c.requires.schedule list.distinct c.pieces.ensures.well_formed)

pub returns-then-len-le1 : goal.returns-then-len-le1
returns-then-len-le1 c =
    let g = c.args.meter.now in
    let value = c.args.value.now in
    let laid = rw c.params.ensures.content at c.in_ok-laid.ensures in
    let list = rw c.params.ensures.content at c.params.ensures.well_formed in
    let pieces = c.pieces.result.now in
    let are = c.pieces.ensures.content in
    let calls = c.in_ok-laid.laid.items in
    let few : length calls ≤ 1 = grind (arith, common_steps) in
    let plain = laid_plain g value pieces are laid.is_own calls laid.each c.requires.schedule list.distinct c.pieces.ensures.well_formed in (
      calls_made g value pieces are laid.is_own calls laid.each c.requires.schedule list.distinct c.pieces.ensures.well_formed calls
          (apart_alone g calls few plain) laid.sets
          (λ form rows set. own_alone g value.params laid.is_own form rows pieces calls (are ∙ set) laid.each laid.sets),
      IsCharged_refl g g refl,
    )

pub returns : goal.returns
returns c =
    let g = c.args.meter.now in
    let value = c.args.value.now in
    let laid = rw c.params.ensures.content at c.in_ok-laid.ensures in
    let list = rw c.params.ensures.content at c.params.ensures.well_formed in
    let pieces = c.pieces.result.now in
    let are = c.pieces.ensures.content in
    let all = c.in_ok-laid.laid.items in
    let apart = rw c.as_slice.ensures.value at c.apart.ensures.apart in
    let several : 1 < length all = grind (arith, common_steps) in
    answered (λ calls. AreApartOf g all calls.items) (λ calls. AreCallsOf g value calls.items) g c.apart.new.meter c.apart.result
    (λ calls apart_are. calls_made g value pieces are laid.is_own all laid.each c.requires.schedule list.distinct c.pieces.ensures.well_formed
    calls.items apart_are laid.sets
    (λ form rows set. absurd (
    let own = own_alone g value.params laid.is_own form rows pieces all (are ∙ set) laid.each laid.sets in
    let one = ap length own.only in
    omega (arith, several, one)))) apart c.apart.ensures.meter
