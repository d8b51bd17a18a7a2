use Rattle.std.proofs.Common.{◌≡◌, ◌<◌, None, length, get_or, take, arith, sym, ◌∙◌, ap, subst}
use Rattle.std.proofs.lemmas.Grind.{common_steps}
use Rattle.isl_piece.specs.declared.definition.Definition.{Definition}
use Rattle.isl_piece.specs.declared.meeting.Meeting.{Meeting}
use Rattle.isl_piece.specs.Meet.{joined_at, IsPlaced}
use Rattle.isl_piece.specs.Placed.{placing_of, with_own_column}
use Rattle.isl_piece.proofs.MeetLaws.{IsPlaced-own, placing_more}
use Rattle.isl_piece.proofs.PlacedLaws.{length-placed}
use Rattle.isl_piece.proofs.meeting.Meeting.placing.Goals as goal

pub push-requires : goal.push-requires
push-requires c =
    let m = c.loop-definition.meeting in
    ap (λ (d : Definition). length d.coefs) c.in_ok-moved.ensures ∙ length-placed m.columns m.places c.definition-item.result.coefs

pub loop-definition-preserved : goal.loop-definition-preserved
loop-definition-preserved c =
    let columns = c.args.columns in
    let places = c.args.places.now in
    let all = c.args.definitions.now in
    let i = c.loop-definition.definition-index in
    let d = c.definition-item.result in
    let m = c.loop-definition.meeting in
    let inside : i < length all = grind (arith, common_steps) in
    let at : get_or all i d ≡ d = grind (arith, common_steps) in
    let is : c.push.new.self ≡ with_own_column m d = c.in_ok-push.ensures ∙ ap (λ (e : Definition). joined_at m e None) c.in_ok-moved.ensures in (
      is ∙ ap (λ (n : Meeting). with_own_column n d) c.loop-definition.invariant.0 ∙ ap (with_own_column (placing_of columns places (take i all))) (sym at)
          ∙ sym (placing_more columns places all i d inside),
      subst (IsPlaced columns) (sym is) (IsPlaced-own columns m d c.loop-definition.invariant.1),
    )
