use Rattle.std.proofs.Common.{◌≡◌, ◌+◌, ◌-◌, ◌∙◌, ap₂, sym, arith, get_or, take}
use Rattle.std.proofs.lemmas.Result.{IfOk-weaker}
use Rattle.std.specs.List.{range_with_len}
use Rattle.isl_blocks.specs.Blocks.{block_places, total, width_at}
use Rattle.isl_blocks.proofs.WidthLaws.{block_places_are, block_places_none, ends_inside, width_is}
use Rattle.isl_blocks.proofs.picks.block_places.Goals as goal

pub returns-then-block-widths : goal.returns-then-block-widths
returns-then-block-widths c = c.new.ensures.items ∙ sym (block_places_none 0 c.args.widths.now c.args.block c.if-block-widths.true)

pub overflow_add-start : goal.overflow_add-start
overflow_add-start c =
    let widths = c.args.widths.now in
    let b = c.args.block in
    let start = c.start_of-start.ensures in
    let ends = ends_inside widths b in
    let width = width_is widths b 0 c.if-block-widths.false in
    let fits = c.requires in
    omega (arith, start, ends, width, fits)

pub returns : goal.returns
returns c =
    let widths = c.args.widths.now in
    let b = c.args.block in
    let start = c.start_of-start.result in
    let is = c.start_of-start.ensures in
    let width = width_is widths b 0 c.if-block-widths.false in
    let first : start ≡ 0 + total (take b widths) = omega (arith, is) in
    let count : start + get_or widths b 0 - start ≡ width_at widths b = omega (arith, width) in
    IfOk-weaker c.columns_between.result (λ cols. cols.items ≡ range_with_len start (start + get_or widths b 0 - start))
    (λ places. places.items ≡ block_places 0 widths b)
    (λ places e. e ∙ ap₂ range_with_len first count ∙ sym (block_places_are 0 widths b c.if-block-widths.false)) c.columns_between.ensures
