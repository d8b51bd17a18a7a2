use Rattle.std.proofs.Common.{◌≡◌, ◌∙◌, ◌∷◌, ◌++◌, [], ap, map, refl}
use Rattle.std.specs.Prelude.{codes, string_bytes}
use Rattle.std.specs.List.{flat_map}
use Rattle.isl_piece.specs.Piece.{PieceView}
use Rattle.isl_print.proofs.TextLaws.{All-map_back}
use Rattle.isl_print.specs.Printed.{printed}
use Rattle.isl_union.proofs.MeetSteps.{pieces_later}
use Rattle.isl_union.specs.Compare.{IsSubset}
use Rattle.isl_union.specs.Minus.{AreCovered}
use Rattle.isl_union.specs.Piece.{kept_piece, IsPieceOf}
use Rattle.isl_claim.specs.Claim.{part_text}
use Rattle.isl_claim.specs.Sides.{part_of, value_of}
use Rattle.isl_claim.proofs.ProofLaws.{value_later}
use Rattle.isl_claim.proofs.TextLaws.{claim, claim_is, none_none, none_some, subset_is, text_is}
use Rattle.isl_claim.proofs.claim.proved_lines.Goals as goal

pub side_of-requires-2-clause-within : goal.side_of-requires-2-clause-within
side_of-requires-2-clause-within c =
    value_later c.args.meter.now c.side_of.new.meter c.args.lesser.now c.in_ok-others.ensures.meter c.requires.lesser

pub proofs_of-requires-clause-names : goal.proofs_of-requires-clause-names
proofs_of-requires-clause-names c = c.len-count.ensures.well_formed.distinct

pub proofs_of-requires-clause-pieces : goal.proofs_of-requires-clause-pieces
proofs_of-requires-clause-pieces c = rw c.as_slice.ensures.value c.in_ok-pieces.ensures.side.sound

pub proofs_of-requires-clause-others : goal.proofs_of-requires-clause-others
proofs_of-requires-clause-others c = rw c.as_slice-2.ensures.value c.in_ok-others.ensures.side.sound

pub proofs_of-requires-clause-within : goal.proofs_of-requires-clause-within
proofs_of-requires-clause-within c = rw c.as_slice.ensures.value c.in_ok-pieces.ensures.side.within

pub proofs_of-requires-clause-others_within : goal.proofs_of-requires-clause-others_within
proofs_of-requires-clause-others_within c =
    rw c.as_slice-2.ensures.value (pieces_later c.side_of.new.meter c.side_of-2.new.meter c.in_ok-others.others.items
    c.in_ok-pieces.ensures.meter c.in_ok-others.ensures.side.within)

pub proofs_of-requires-clause-plain : goal.proofs_of-requires-clause-plain
proofs_of-requires-clause-plain c = rw c.as_slice.ensures.value c.in_ok-pieces.ensures.side.plain

pub proofs_of-requires-clause-others_plain : goal.proofs_of-requires-clause-others_plain
proofs_of-requires-clause-others_plain c = rw c.as_slice-2.ensures.value c.in_ok-others.ensures.side.plain

pub returns-in_default-clause-none : goal.returns-in_default-clause-none
returns-in_default-clause-none c =
    let params = c.args.params.now in
    let pieces = c.in_ok-pieces.pieces.items in
    let others = c.in_ok-others.others.items in
    let both = subset_is c.side_of.new.meter c.side_of-2.new.meter params c.args.lesser.now c.args.greater.now pieces others
    c.in_ok-pieces.ensures.side c.in_ok-others.ensures.side in
    let told = rw (c.as_slice.ensures.value, c.as_slice-2.ensures.value) at c.in_ok-proved.ensures.none in
    let left = none_none (AreCovered params (map kept_piece pieces) (map kept_piece others)) (IsSubset c.args.lesser.now c.args.greater.now)
    c.in_ok-proved.proved c.in_default.is both told in
    ((λ none. left), (λ _. refl))

pub write_parts-requires-clause-pieces : goal.write_parts-requires-clause-pieces
write_parts-requires-clause-pieces c =
    let parts = c.in-Some.parts.items in
    let views = rw c.in-Some.is at c.in_ok-proved.ensures.pieces in
    rw c.as_slice-3.ensures.value (All-map_back (λ part. part.piece) (IsPieceOf c.args.params.now) parts c.in_ok-pieces.pieces.items
    (views ∙ c.as_slice.ensures.value) c.in_ok-pieces.ensures.side.sound)

pub write_parts-requires-clause-plain : goal.write_parts-requires-clause-plain
write_parts-requires-clause-plain c =
    let parts = c.in-Some.parts.items in
    let views = rw c.in-Some.is at c.in_ok-proved.ensures.pieces in
    rw c.as_slice-3.ensures.value (All-map_back (λ part. part.piece) (λ (p : PieceView). p.system.definitions ≡ []) parts
    c.in_ok-pieces.pieces.items (views ∙ c.as_slice.ensures.value) c.in_ok-pieces.ensures.side.plain)

pub returns-clause-none : goal.returns-clause-none
returns-clause-none c =
    let params = c.args.params.now in
    let pieces = c.in_ok-pieces.pieces.items in
    let others = c.in_ok-others.others.items in
    let both = subset_is c.side_of.new.meter c.side_of-2.new.meter params c.args.lesser.now c.args.greater.now pieces others
    c.in_ok-pieces.ensures.side c.in_ok-others.ensures.side in
    let told = rw (c.as_slice.ensures.value, c.as_slice-2.ensures.value) at c.in_ok-proved.ensures.none in
    none_some (AreCovered params (map kept_piece pieces) (map kept_piece others)) (IsSubset c.args.lesser.now c.args.greater.now)
    c.in_ok-proved.proved c.in-Some.parts c.write_parts.new.out c.in-Some.is both told

pub returns-clause-lines : goal.returns-clause-lines
returns-clause-lines c =
    let params = c.args.params.now in
    let pieces = c.in_ok-pieces.pieces.items in
    let others = c.in_ok-others.others.items in
    let parts = c.in-Some.parts.items in
    let g = c.side_of.new.meter in
    let h = c.side_of-2.new.meter in
    let names = c.len-count.ensures.well_formed in
    let own = c.in_ok-pieces.ensures.side in
    let side = c.in_ok-others.ensures.side in
    let views = rw c.in-Some.is at c.in_ok-proved.ensures.pieces in
    let proved = rw (c.in-Some.is, c.as_slice-2.ensures.value) at c.in_ok-proved.ensures.proved in
    let outside = c.in_ok-write_outside.ensures
    ∙ ap (λ o. o ++ codes "outside " ++ printed (value_of params others) ++ 10 ∷ []) c.new-lines.ensures.bytes in
    let text = c.in_ok-write_parts.ensures
    ∙ ap (λ l. string_bytes c.write_outside.new.out ++ flat_map (λ part. part_text params (part_of part.piece part.cert)) l)
    c.as_slice-3.ensures.value in (
      claim (λ part. part.piece) (λ part. part.cert) g h params names c.args.lesser.now c.args.greater.now pieces others own side parts
          (views ∙ c.as_slice.ensures.value) proved,
      claim_is (λ part. part.piece) (λ part. part.cert) g h params names c.args.lesser.now c.args.greater.now pieces others own side parts
          (views ∙ c.as_slice.ensures.value) proved,
      text_is (λ part. part.piece) (λ part. part.cert) g h params names c.args.lesser.now c.args.greater.now pieces others own side parts
          (views ∙ c.as_slice.ensures.value) proved (string_bytes c.write_parts.new.out) (string_bytes c.write_outside.new.out)
          outside text,
    )
