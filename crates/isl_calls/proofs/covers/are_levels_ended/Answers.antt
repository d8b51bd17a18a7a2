use Rattle.std.proofs.Common.{◌≡◌, ◌<◌, ◌≤◌, ◌∙◌, [], get_or, length, arith}
use Rattle.std.specs.Prelude.{IsTrue}
use Rattle.std.proofs.lemmas.List.{get_or_default}
use Rattle.isl_calls.proofs.EndedLaws.{levels_more, upper_columns}
use Rattle.isl_calls.proofs.covers.are_levels_ended.Goals as goal

pub are_ended-requires-clause-some_column : goal.are_ended-requires-clause-some_column
are_ended-requires-clause-some_column c =
    let levels = c.args.levels.now in
    let height = c.loop-height.height in
    let inside : height < length levels = grind arith in
    let above : 0 < height = grind arith in
    let is : c.as_slice.result.now ≡ get_or levels height [] =
    c.as_slice.ensures ∙ c.index-levels-height.is ∙ get_or_default levels height c.index-levels-height.result [] inside in
    upper_columns c.requires.0 c.requires.1 c.args.outer levels height c.as_slice.result.now c.requires.2 above inside is

pub loop-height-preserved : goal.loop-height-preserved
loop-height-preserved c =
    let levels = c.args.levels.now in
    let height = c.loop-height.height in
    let inside : height < length levels = grind arith in
    let is : c.as_slice.result.now ≡ get_or levels height [] =
    c.as_slice.ensures ∙ c.index-levels-height.is ∙ get_or_default levels height c.index-levels-height.result [] inside in
    let passes : IsTrue c.are_ended.result = grind arith in
    levels_more levels height c.as_slice.result.now c.loop-height.invariant is (c.are_ended.ensures.0 passes)

pub returns : goal.returns
returns c t height above low =
    let past : length c.args.levels.now ≤ c.loop-height.height = grind arith in
    c.loop-height.invariant height above (omega (arith, low, past))
