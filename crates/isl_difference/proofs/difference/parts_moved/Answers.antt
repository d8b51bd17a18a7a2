use Rattle.std.proofs.Common.{arith}
use Rattle.std.proofs.lemmas.Grind.{common_steps}
use Rattle.std.proofs.lemmas.Result.{err_from_is_err_and}
use Rattle.isl_meter.proofs.CutLemmas.{charges}
use Rattle.isl_piece.specs.System.{free_columns}
use Rattle.isl_difference.specs.Difference.{AreDisjoint}
use Rattle.isl_difference.specs.Split.{AreLiveParts}
use Rattle.isl_difference.proofs.DifferenceLaws.{aligned_apart, aligned_parts, told_kept, told_narrow, told_wide}
use Rattle.isl_difference.proofs.difference.parts_moved.Goals as goal

pub parts_aligned-requires-clause-within : goal.parts_aligned-requires-clause-within
parts_aligned-requires-clause-within c = (c.in_ok-both.ensures.aligned c.args.meter.now c.requires.within c.requires.other_within).within

pub parts_aligned-requires-clause-other_within : goal.parts_aligned-requires-clause-other_within
parts_aligned-requires-clause-other_within c = (c.in_ok-both.ensures.aligned c.args.meter.now c.requires.within
    c.requires.other_within).moved_within

pub parts_aligned-requires-clause-columns : goal.parts_aligned-requires-clause-columns
parts_aligned-requires-clause-columns c = (c.in_ok-both.ensures.aligned c.args.meter.now c.requires.within c.requires.other_within).columns

pub parts_aligned-requires-clause-definitions : goal.parts_aligned-requires-clause-definitions
parts_aligned-requires-clause-definitions c = (c.in_ok-both.ensures.aligned c.args.meter.now c.requires.within
    c.requires.other_within).definitions

pub returns-in-None-clause-exact : goal.returns-in-None-clause-exact
returns-in-None-clause-exact c =
    let g = c.args.meter.now in
    let wide = c.in_ok-both.both.wide in
    let moved = c.in_ok-both.both.moved in
    let a = c.in_ok-both.ensures.aligned g c.requires.within c.requires.other_within in
    let apart : AreDisjoint (free_columns wide) wide moved = grind (arith, common_steps) in
    (aligned_apart g c.args.system.now c.args.other.now wide moved a apart, grind (arith, charges))

pub returns-clause-exact : goal.returns-clause-exact
returns-clause-exact c =
    let g = c.args.meter.now in
    let wide = c.in_ok-both.both.wide in
    let moved = c.in_ok-both.both.moved in
    let a = c.in_ok-both.ensures.aligned g c.requires.within c.requires.other_within in
    let parts : AreLiveParts g wide moved c.in-Some.parts.items = grind (arith, common_steps) in
    (aligned_parts g c.args.system.now c.args.other.now wide moved c.in-Some.parts.items a parts, grind (arith, charges))

pub returns-in_err-parts_aligned-clause-told : goal.returns-in_err-parts_aligned-clause-told
returns-in_err-parts_aligned-clause-told c = λ t.
    let both = c.in_ok-both.ensures.exact in
    let error = err_from_is_err_and c.from_residual-in_err-parts_aligned.result c.from_residual-in_err-parts_aligned.ensures.1 in
    rw (error.1, error.2) (c.in_err-parts_aligned.ensures.told
    (told_wide c.args.system.now c.args.other.now c.in_ok-both.both.wide c.in_ok-both.both.moved both.0 both.1 t))

pub returns-in-None-clause-told : goal.returns-in-None-clause-told
returns-in-None-clause-told c = λ t.
    let both = c.in_ok-both.ensures.exact in
    told_kept c.args.meter.now c.parts_aligned.new.meter _ _ (c.in_ok-parts_aligned.ensures.told
    (told_wide c.args.system.now c.args.other.now c.in_ok-both.both.wide c.in_ok-both.both.moved both.0 both.1 t))

pub returns-clause-told : goal.returns-clause-told
returns-clause-told c = λ t.
    let both = c.in_ok-both.ensures.exact in
    told_kept c.args.meter.now c.parts_aligned.new.meter _ _ (c.in_ok-parts_aligned.ensures.told
    (told_wide c.args.system.now c.args.other.now c.in_ok-both.both.wide c.in_ok-both.both.moved both.0 both.1 t))

pub returns-in-None-clause-asked : goal.returns-in-None-clause-asked
returns-in-None-clause-asked c = λ n.
    let both = c.in_ok-both.ensures.exact in
    c.in_ok-parts_aligned.ensures.asked (λ t.
    n (told_narrow c.args.system.now c.args.other.now c.in_ok-both.both.wide c.in_ok-both.both.moved both.0 both.1 t))

pub returns-clause-asked : goal.returns-clause-asked
returns-clause-asked c = λ n.
    let both = c.in_ok-both.ensures.exact in
    c.in_ok-parts_aligned.ensures.asked (λ t.
    n (told_narrow c.args.system.now c.args.other.now c.in_ok-both.both.wide c.in_ok-both.both.moved both.0 both.1 t))
