use Rattle.std.proofs.Common.{◌≡◌, ◌<◌, ◌≤◌, ◌++◌, ◌∷◌, ◌∙◌, [], arith, length, map}
use Rattle.std.proofs.lemmas.List.{get_or_default}
use Rattle.isl_calls.specs.CoverRows.{rows_of}
use Rattle.isl_calls.proofs.CoverLaws.{mapped_all, mapped_more}
use Rattle.isl_calls.proofs.cover_rows.covers_of.Goals as goal

pub loop-height-preserved : goal.loop-height-preserved
loop-height-preserved c =
    let covers = c.args.covers.now in
    let height = c.loop-height.height in
    let level = c.level.result.now in
    let low : height < length covers = grind arith in
    let pushed : c.push.new.self.items ≡ c.loop-height.made.items ++ c.in_ok-cover_of.field-0 ∷ [] = grind arith in
    mapped_more (map rows_of) covers height level c.loop-height.made.items c.push.new.self.items c.in_ok-cover_of.field-0 low
    (c.level.ensures ∙ get_or_default covers height [] level low) c.loop-height.invariant c.in_ok-cover_of.ensures pushed

pub returns : goal.returns
returns c =
    let end : length c.args.covers.now ≤ c.loop-height.height = grind arith in
    mapped_all (map rows_of) c.args.covers.now c.loop-height.height c.loop-height.made.items end c.loop-height.invariant
