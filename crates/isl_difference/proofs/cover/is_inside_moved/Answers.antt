use Rattle.std.proofs.lemmas.Result.{IfOk-weaker}
use Rattle.isl_difference.specs.Cover.{IsInside}
use Rattle.isl_difference.proofs.CoverLaws.{inside_moved}
use Rattle.isl_difference.proofs.cover.is_inside_moved.Goals as goal

pub is_inside_aligned-requires-clause-within : goal.is_inside_aligned-requires-clause-within
is_inside_aligned-requires-clause-within c = (c.in_ok-both.ensures.aligned c.args.meter.now c.requires.within
    c.requires.other_within).within

pub is_inside_aligned-requires-clause-other_within : goal.is_inside_aligned-requires-clause-other_within
is_inside_aligned-requires-clause-other_within c =
    (c.in_ok-both.ensures.aligned c.args.meter.now c.requires.within c.requires.other_within).moved_within

pub is_inside_aligned-requires-clause-columns : goal.is_inside_aligned-requires-clause-columns
is_inside_aligned-requires-clause-columns c = (c.in_ok-both.ensures.aligned c.args.meter.now c.requires.within
    c.requires.other_within).columns

pub is_inside_aligned-requires-clause-definitions : goal.is_inside_aligned-requires-clause-definitions
is_inside_aligned-requires-clause-definitions c =
    (c.in_ok-both.ensures.aligned c.args.meter.now c.requires.within c.requires.other_within).definitions

pub returns-clause-exact : goal.returns-clause-exact
returns-clause-exact c =
    let g = c.args.meter.now in
    let s = c.args.system.now in
    let other = c.args.other.now in
    let wide = c.in_ok-both.both.wide in
    let moved = c.in_ok-both.both.moved in
    let a = c.in_ok-both.ensures.aligned g c.requires.within c.requires.other_within in
    IfOk-weaker c.is_inside_aligned.result (λ b. IsInside wide moved b) (λ b. IsInside s other b)
    (λ b e. inside_moved g s other wide moved b a e) c.is_inside_aligned.ensures.exact
