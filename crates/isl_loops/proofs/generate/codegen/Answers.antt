use Rattle.std.proofs.Common.{sym, length}
use Rattle.std.proofs.lemmas.Result.{err_from_is_err_and}
use Rattle.isl_meter.proofs.CutLemmas.{IsCharged_trans}
use Rattle.isl_space.specs.Form.{width_of}
use Rattle.isl_loop.proofs.LimitLaws.{IsLoopOver-same}
use Rattle.isl_nest.proofs.AroundLaws.{charged_bits}
use Rattle.isl_schedule.proofs.GoodLaws.{good_tree}
use Rattle.isl_loops.proofs.GenerateLaws.{cut_later, items_later}
use Rattle.isl_loops.proofs.generate.codegen.Goals as goal

pub loops_of-requires : goal.loops_of-requires
loops_of-requires c =
    let are = c.in_ok-items.ensures in
    items_later c.args.meter.now c.args.value.now c.in_ok-items.items.items are.1 c.items_of.new.meter are.2

pub returns-clause-tree : goal.returns-clause-tree
returns-clause-tree c =
    let g = c.args.meter.now in
    let h = c.items_of.new.meter in
    let value = c.args.value.now in
    let are = c.in_ok-items.ensures in
    let tree = c.in_ok-loops_of.field-0 in (
      good_tree value tree are.0 c.in_ok-loops_of.ensures.lists,
      IsLoopOver-same h g (length value.params) tree (sym (charged_bits g h are.2)) c.in_ok-loops_of.ensures.over,
      IsCharged_trans g h c.loops_of.new.meter are.2 c.in_ok-loops_of.ensures.meter,
    )

pub returns-in_err-loops_of-clause-tree : goal.returns-in_err-loops_of-clause-tree
returns-in_err-loops_of-clause-tree c =
    let are = c.in_ok-items.ensures in
    let error = err_from_is_err_and c.from_residual-in_err-loops_of.result c.from_residual-in_err-loops_of.ensures.1 in
    rw (error.1, error.2) (cut_later c.args.meter.now c.items_of.new.meter c.loops_of.new.meter c.args.value.now
    c.in_err-loops_of.field-0.0 are.0 are.2 c.in_err-loops_of.ensures.meter)

pub returns-clause-strided : goal.returns-clause-strided
returns-clause-strided c set =
    c.in_ok-loops_of.ensures.strided (width_of set.form) set.rows (c.in_ok-items.ensures.1.own set.form set.rows set.set) set.strided

pub returns-clause-changing : goal.returns-clause-changing
returns-clause-changing c = c.in_ok-loops_of.ensures.changing

pub returns-clause-program : goal.returns-clause-program
returns-clause-program c = c.in_ok-loops_of.ensures.program
