use Rattle.std.proofs.Common.{◌≡◌, ◌∙◌, ◌+◌, ◌++◌, sym, subst, arith, map, List}
use Rattle.std.proofs.lemmas.Grind.{common_steps}
use Rattle.std.specs.List.{All, AllZip}
use Rattle.isl_meter.specs.Gauge.{Gauge}
use Rattle.isl_meter.proofs.LimitLemmas.{IsWithin-zero}
use Rattle.isl_piece.specs.declared.row.Row.{Row}
use Rattle.isl_piece.specs.Row.{IsRowWithin}
use Rattle.isl_piece.specs.System.{widened}
use Rattle.isl_frame.specs.Frame.{IsFrame, IsThroughBehind}
use Rattle.isl_loops.proofs.OrderLaws.{frame_wider, pair_is, within_wider}
use Rattle.isl_loops.proofs.order.pair_rows.Goals as goal

pub all_through_behind-requires-2-clause-frame : goal.all_through_behind-requires-2-clause-frame
all_through_behind-requires-2-clause-frame c =
    let place = c.args.place.now in
    let made : c.as_slice-2.result.now ≡ map widened place.frame = c.as_slice-2.ensures ∙ c.in_ok-frame.ensures in
    subst (IsFrame (place.variables + 1)) (sym made) (frame_wider place.variables place.frame c.requires.place.frame)

pub all_through_behind-requires-2-clause-frame_within : goal.all_through_behind-requires-2-clause-frame_within
all_through_behind-requires-2-clause-frame_within c =
    let place = c.args.place.now in
    let g = c.args.meter.now in
    let made : c.as_slice-2.result.now ≡ map widened place.frame = c.as_slice-2.ensures ∙ c.in_ok-frame.ensures in
    let within : All (IsRowWithin g) c.as_slice-2.result.now =
    subst (All (IsRowWithin g)) (sym made) (within_wider g place.frame (IsWithin-zero g) c.requires.place.within) in
    subst (λ (h : Gauge). All (IsRowWithin h) c.as_slice-2.result.now) (sym c.in_ok-first.ensures.1) within

pub returns : goal.returns
returns c =
    let place = c.args.place.now in
    let g = c.args.meter.now in
    let one = c.args.one.now in
    let other = c.args.other.now in
    let first = c.in_ok-first.first in
    let second = c.in_ok-second.second in
    let wide : c.as_slice-2.result.now ≡ map widened place.frame = c.as_slice-2.ensures ∙ c.in_ok-frame.ensures in
    let made : c.append-2.new.self ≡ map widened (map widened place.context ++ first) ++ second = grind (arith, common_steps) in
    let zip : AllZip (λ row t. IsThroughBehind place.variables row place.frame t) one first =
    subst (λ (f : List Row). AllZip (λ row t. IsThroughBehind place.variables row f t) one first) c.as_slice.ensures
    c.in_ok-first.ensures.0.0 in
    let more : AllZip (λ row t. IsThroughBehind (place.variables + 1) row (map widened place.frame) t) other second =
    subst (λ (f : List Row). AllZip (λ row t. IsThroughBehind (place.variables + 1) row f t) other second) wide
    c.in_ok-second.ensures.0.0 in
    let within : All (IsRowWithin g) second =
    subst (λ (h : Gauge). All (IsRowWithin h) second) c.in_ok-first.ensures.1 c.in_ok-second.ensures.0.1 in (
      pair_is g place c.requires.place (IsWithin-zero g) one other first second zip more c.append-2.new.self made
          c.in_ok-first.ensures.0.1 within,
      c.in_ok-second.ensures.1 ∙ c.in_ok-first.ensures.1,
    )
