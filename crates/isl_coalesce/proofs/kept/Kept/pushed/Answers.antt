use Rattle.std.proofs.Common.{◌≡◌, ◌∙◌, ◌++◌, ◌∷◌, [], ap, arith, length, List, Option, Some}
use Rattle.std.proofs.lemmas.Grind.{common_steps}
use Rattle.isl_space.specs.SpaceForm.{SpaceForm, space_text_of}
use Rattle.isl_piece.specs.Piece.{PieceView}
use Rattle.isl_coalesce.specs.Slots.{present}
use Rattle.isl_coalesce.proofs.SlotLaws.{grouped_more, present-push}
use Rattle.isl_coalesce.proofs.kept.Kept.pushed.Goals as goal

pub invariant_of-kept : goal.invariant_of-kept
invariant_of-kept c =
    let slots = c.kept.inside.slots.items in
    let old = c.kept.inside.groups.entries in
    let new = c.put_place.new.groups.entries in
    let title = c.in_ok-title.title in
    let is : title ≡ space_text_of c.args.piece.space =
    c.in_ok-title.ensures ∙ ap (λ (s : SpaceForm). space_text_of s) c.space.ensures in
    let pushed : c.push.new.self.items ≡ slots ++ Some c.args.piece ∷ [] = grind (arith, common_steps) in
    let long : c.len.result ≡ length slots = grind (arith, common_steps) in
    let more = rw long at c.in_ok-put_place.ensures in
    rw pushed (grouped_more slots old new title c.args.piece is c.kept.invariant more)

pub returns : goal.returns
returns c =
    let slots = c.kept.inside.slots.items in
    let pushed : c.push.new.self.items ≡ slots ++ Some c.args.piece ∷ [] = grind (arith, common_steps) in
    ap (λ (l : List (Option PieceView)). present l) pushed ∙ present-push slots c.args.piece
    ∙ ap (λ (l : List PieceView). l ++ c.args.piece ∷ []) c.kept.view_is
