use Rattle.std.proofs.Common.{◌≡◌, ◌<◌, length, get_or, take, arith, sym, ◌∙◌, ap, subst}
use Rattle.std.proofs.lemmas.Grind.{common_steps}
use Rattle.isl_piece.specs.declared.meeting.Meeting.{Meeting}
use Rattle.isl_piece.specs.Meet.{meeting_of, with_column, IsPlaced}
use Rattle.isl_piece.specs.System.{free_columns}
use Rattle.isl_piece.proofs.MeetLaws.{IsPlaced-first, IsPlaced-more, columns_grow, meeting_more}
use Rattle.isl_piece.proofs.meeting.Meeting.of.Goals as goal

pub loop-definition-init : goal.loop-definition-init
loop-definition-init c =
    let a = c.args.a.now in
    (c.in_ok-meeting.ensures, subst (IsPlaced (free_columns a)) (sym c.in_ok-meeting.ensures) (IsPlaced-first (free_columns a) a), (rw c.in_ok-meeting.ensures (omega arith)))

pub loop-definition-preserved : goal.loop-definition-preserved
loop-definition-preserved c =
    let a = c.args.a.now in
    let free = free_columns a in
    let all = c.args.definitions.now in
    let i = c.loop-definition.definition-index in
    let d = c.definition-item.result in
    let m = c.loop-definition.meeting in
    let inside : i < length all = grind (arith, common_steps) in
    let at : get_or all i d ≡ d = grind (arith, common_steps) in
    let is : c.add.new.self ≡ with_column free m d = grind (arith, common_steps) in
    let grows = columns_grow free m d in
    let own = c.loop-definition.invariant.2 in (
      is ∙ ap (λ (n : Meeting). with_column free n d) c.loop-definition.invariant.0 ∙ ap (with_column free (meeting_of a (take i all))) (sym at) ∙ sym (meeting_more a all i d inside),
      subst (IsPlaced free) (sym is) (IsPlaced-more free m d c.loop-definition.invariant.1),
      (rw is (omega arith)),
    )
