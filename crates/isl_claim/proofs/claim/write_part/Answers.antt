use Rattle.std.proofs.Common.{◌≡◌, ◌∙◌, ◌++◌, [], ◌∷◌, OnOk, ap, arith}
use Rattle.std.specs.Prelude.{codes, string_bytes}
use Rattle.std.proofs.lemmas.List.Elements.{All-cons, All-nil}
use Rattle.std.proofs.lemmas.Result.{on_ok_weaker}
use Rattle.isl_piece.specs.Piece.{PieceView}
use Rattle.isl_union.specs.Piece.{IsPieceOf}
use Rattle.isl_claim.proofs.TextLaws.{one_piece, part_written, written_plain, written_sound, written_value}
use Rattle.isl_claim.proofs.claim.write_part.Goals as goal

pub from_normal-alone-requires-clause-pieces : goal.from_normal-alone-requires-clause-pieces
from_normal-alone-requires-clause-pieces c =
    let params = c.args.params.now in
    let piece = c.args.part.now.piece in
    let pushed = c.push.new.self.items in
    let one = one_piece c.new-pieces.result.items pushed c.in_ok-copy.field-0 piece c.new-pieces.ensures.items c.in_ok-push.ensures.items
    c.in_ok-copy.ensures in
    written_sound params c.in_ok-copy-2.field-0 (piece ∷ []) pushed c.in_ok-copy-2.ensures one
    (All-cons (IsPieceOf params) piece [] c.requires.piece (All-nil (IsPieceOf params)))

pub write_value-requires : goal.write_value-requires
write_value-requires c =
    let params = c.args.params.now in
    let piece = c.args.part.now.piece in
    let pushed = c.push.new.self.items in
    let one = one_piece c.new-pieces.result.items pushed c.in_ok-copy.field-0 piece c.new-pieces.ensures.items c.in_ok-push.ensures.items
    c.in_ok-copy.ensures in
    let value = written_value params c.in_ok-copy-2.field-0 (piece ∷ []) pushed c.in_ok-copy-2.ensures one c.from_normal-alone.result
    c.from_normal-alone.ensures in
    let P : PieceView → Type 0 = λ p. p.system.definitions ≡ [] in
    written_plain params (piece ∷ []) c.from_normal-alone.result value (All-cons P piece [] c.requires.plain (All-nil P))

pub returns : goal.returns
returns c =
    let params = c.args.params.now in
    let piece = c.args.part.now.piece in
    let cert = c.args.part.now.cert in
    let pushed = c.push.new.self.items in
    let one = one_piece c.new-pieces.result.items pushed c.in_ok-copy.field-0 piece c.new-pieces.ensures.items c.in_ok-push.ensures.items
    c.in_ok-copy.ensures in
    let value = written_value params c.in_ok-copy-2.field-0 (piece ∷ []) pushed c.in_ok-copy-2.ensures one c.from_normal-alone.result
    c.from_normal-alone.ensures in
    let proof = c.in_ok-push_str-3.ensures.bytes
    ∙ ap (λ t. string_bytes c.push_str-2.new.self ++ t) (c.as_str.ensures.value ∙ c.in_ok-proof.ensures) in
    let before = string_bytes c.push_str-3.new.self in
    let closed : OnOk c.push_str-4.result (string_bytes c.push_str-4.new.self ≡ before ++ codes "\n") = grind arith in
    on_ok_weaker c.push_str-4.result
    (λ h. part_written params piece cert c.from_normal-alone.result (string_bytes c.args.out.now) (string_bytes c.push_str.new.self)
    (string_bytes c.write_value.new.out) (string_bytes c.push_str-2.new.self) (string_bytes c.push_str-3.new.self)
    (string_bytes c.push_str-4.new.self) value c.in_ok-push_str.ensures.bytes c.in_ok-write_value.ensures c.in_ok-push_str-2.ensures.bytes
    proof h)
    closed
