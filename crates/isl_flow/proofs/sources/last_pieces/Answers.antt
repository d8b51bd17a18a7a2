use Rattle.std.proofs.Common.{get_or}
use Rattle.std.specs.List.{All, Any}
use Rattle.isl_images.specs.Made.{IsPlain}
use Rattle.isl_flow.specs.Last.{ShowsLast}
use Rattle.isl_precedence.specs.Later.{ShowsLeft}
use Rattle.isl_precedence.specs.Later.{IsPlainLater}
use Rattle.isl_precedence.specs.Precedence.{HasAt, IsPlainPrecedence, IsSound}
use Rattle.isl_precedence.proofs.LaterLaws.{later_after}
use Rattle.isl_remainder.proofs.MadeLaws.{made_same}
use Rattle.isl_precedence.proofs.OrderLaws.{precedence_later, sound_before}
use Rattle.isl_flow.proofs.SinkLaws.{last_shown}
use Rattle.isl_flow.proofs.sources.last_pieces.Goals as goal

pub all_laters-requires : goal.all_laters-requires
all_laters-requires c = record { precedences = λ k d l. (c.requires.found k d l).precedence }

pub all_lasts-requires : goal.all_lasts-requires
all_lasts-requires c =
    let g = c.args.meter.now in
    let h = c.all_laters.new.meter in
    let params = c.args.params.now in
    let charged = c.in_ok-laters.ensures.meter in
    record {
      precedences = λ k d l. precedence_later g h params (get_or c.args.found.now k d) charged (c.requires.found k d l).precedence;
      laters = rw c.as_slice.ensures.value
          (λ k d l. later_after g h params (get_or c.in_ok-laters.laters.items k d) charged (c.in_ok-laters.ensures.made.sound k d l));
    }

pub returns-clause-made : goal.returns-clause-made
returns-clause-made c =
    let g = c.args.meter.now in
    let h = c.all_laters.new.meter in
    let params = c.args.params.now in
    let found = c.args.found.now in
    let laters = c.in_ok-laters.laters.items in
    let later = c.in_ok-laters.ensures.made in
    let last = rw c.as_slice.ensures.value at c.in_ok-lasts.ensures.made in
    made_same (HasAt params) (IsSound h params) IsPlain (All IsPlainPrecedence found × All IsPlainLater laters) (IsSound g params)
    (All IsPlainPrecedence found) (λ at. Any (ShowsLeft params laters at.0 at.1) found) (λ at. ShowsLast params at.0 at.1 found)
    (λ p is. sound_before g h params p c.in_ok-laters.ensures.meter is) (λ none. (none, later.plain none))
    (λ at. last_shown g h params found at.0 at.1 laters (All IsPlainPrecedence found) later) c.in_ok-lasts.lasts.items last
