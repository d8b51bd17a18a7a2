use Rattle.std.proofs.Common.{◌<◌, ◌≤◌, ◌≡◌, [], ◌∷◌, arith, length, map, refl}
use Rattle.std.proofs.lemmas.Bool.{true≢false}
use Rattle.isl_piece.proofs.FormedLaws.{system_within_kept}
use Rattle.isl_piece.specs.System.{IsSystemWithin}
use Rattle.isl_union.proofs.MeetSteps.{charged_bits, item_has, pieces_later}
use Rattle.isl_union.specs.Minus.{AreCovered}
use Rattle.isl_union.specs.Piece.{kept_piece, IsPieceOf}
use Rattle.isl_claim.specs.Sides.{IsProvedBy}
use Rattle.isl_claim.proofs.FoundLaws.{covered_all, found_all, found_first, found_step}
use Rattle.isl_claim.proofs.ProofLaws.{covered_one, none_left, some_covered, some_proved}
use Rattle.isl_claim.proofs.claim.proofs_of.Goals as goal

pub loop-piece-init : goal.loop-piece-init
loop-piece-init c =
    found_first (λ part. part.piece) (λ part. part.cert) c.args.params.now c.args.pieces.now c.args.others.now c.args.meter.now
    c.new-parts.result.items c.new-parts.ensures.items

pub proof_of-requires-clause-piece : goal.proof_of-requires-clause-piece
proof_of-requires-clause-piece c =
    let low : c.loop-piece.piece-index < length c.args.pieces.now = omega arith in
    item_has (IsPieceOf c.args.params.now) c.args.pieces.now c.loop-piece.piece-index c.piece-item.result low c.piece-item.is
    c.requires.pieces

pub proof_of-requires-clause-within : goal.proof_of-requires-clause-within
proof_of-requires-clause-within c =
    let low : c.loop-piece.piece-index < length c.args.pieces.now = omega arith in
    system_within_kept c.loop-piece.meter c.args.meter.now c.piece-item.result.system
    (charged_bits c.args.meter.now c.loop-piece.meter c.loop-piece.invariant.charged)
    (item_has (λ p. IsSystemWithin c.args.meter.now p.system) c.args.pieces.now c.loop-piece.piece-index c.piece-item.result low
    c.piece-item.is c.requires.within)

pub proof_of-requires-clause-others_within : goal.proof_of-requires-clause-others_within
proof_of-requires-clause-others_within c =
    pieces_later c.args.meter.now c.loop-piece.meter c.args.others.now c.loop-piece.invariant.charged c.requires.others_within

pub proof_of-requires-clause-plain : goal.proof_of-requires-clause-plain
proof_of-requires-clause-plain c =
    let low : c.loop-piece.piece-index < length c.args.pieces.now = omega arith in
    item_has (λ p. p.system.definitions ≡ []) c.args.pieces.now c.loop-piece.piece-index c.piece-item.result low c.piece-item.is
    c.requires.plain

pub loop-piece-preserved : goal.loop-piece-preserved
loop-piece-preserved c =
    let params = c.args.params.now in
    let pieces = c.args.pieces.now in
    let others = c.args.others.now in
    let i = c.loop-piece.piece-index in
    let piece = c.piece-item.result in
    let found = c.in_ok-cert in
    let low : i < length pieces = omega arith in
    let proved = some_proved (IsProvedBy params others piece) found.field-0 c.in-Some.cert c.in-Some.is found.ensures.proved in
    let covered = some_covered (AreCovered params (kept_piece piece ∷ []) (map kept_piece others)) found.field-0 c.in-Some.cert c.in-Some.is
    found.ensures.none in
    found_step (λ part. part.piece) (λ part. part.cert) params pieces others c.args.meter.now c.loop-piece.meter c.proof_of.new.meter i
    c.loop-piece.parts.items c.push.new.self.items _ piece low c.piece-item.is c.in_ok-push.ensures.items c.in_ok-own.ensures proved covered
    found.ensures.meter c.loop-piece.invariant

pub returns-in_default-clause-none : goal.returns-in_default-clause-none
returns-in_default-clause-none c =
    let params = c.args.params.now in
    let pieces = c.args.pieces.now in
    let others = map kept_piece c.args.others.now in
    let i = c.loop-piece.piece-index in
    let piece = c.piece-item.result in
    let low : i < length pieces = omega arith in
    let left = none_left (AreCovered params (kept_piece piece ∷ []) others) c.in_ok-cert.field-0 c.in_default.is
    c.in_ok-cert.ensures.none in
    ((λ none covered. left (covered_one params pieces piece i others low c.piece-item.is covered)), (λ _. refl))

pub returns-clause-none : goal.returns-clause-none
returns-clause-none c =
    let over : length c.args.pieces.now ≤ c.loop-piece.piece-index = omega arith in
    let covered = covered_all (λ part. part.piece) (λ part. part.cert) c.args.params.now c.args.pieces.now c.args.others.now
    c.args.meter.now c.loop-piece.meter c.loop-piece.piece-index c.loop-piece.parts.items over c.loop-piece.invariant in
    ((λ none. absurd (true≢false none)), (λ left. absurd (covered left)))

pub returns-clause-pieces : goal.returns-clause-pieces
returns-clause-pieces c =
    let over : length c.args.pieces.now ≤ c.loop-piece.piece-index = omega arith in
    found_all (λ part. part.piece) (λ part. part.cert) c.args.params.now c.args.pieces.now c.args.others.now c.args.meter.now
    c.loop-piece.meter c.loop-piece.piece-index c.loop-piece.parts.items over c.loop-piece.invariant

pub returns-clause-proved : goal.returns-clause-proved
returns-clause-proved c = c.loop-piece.invariant.proved
