use Rattle.std.proofs.Common.{arith, ◌≡◌, not, true, false, sym}
use Rattle.std.specs.List.{list_any}
use Rattle.std.specs.Str.{bytes_eq}
use Rattle.isl_text.proofs.SameNames.{distinct_more, stands_twice}
use Rattle.isl_text.proofs.formed.many_are_distinct.Goals as goal

pub returns-then-not-is_new : goal.returns-then-not-is_new
returns-then-not-is_new c =
    let before = c.loop-name.before.keys in
    let old : not (list_any (bytes_eq c.in_ok-copy.field-0) before) ≡ false = grind arith in
    sym (stands_twice c.args.names.now before before c.loop-name.name-index c.name-item.result c.in_ok-copy.field-0 c.loop-name-test.true
    c.name-item.is c.in_ok-copy.ensures c.loop-name.invariant.0 old)

pub loop-name-preserved : goal.loop-name-preserved
loop-name-preserved c =
    let before = c.loop-name.before.keys in
    let new : not (list_any (bytes_eq c.in_ok-copy.field-0) before) ≡ true = grind arith in
    distinct_more c.args.names.now before c.insert_full.new.self.keys c.loop-name.name-index c.name-item.result c.in_ok-copy.field-0
    c.loop-name-test.true c.name-item.is c.in_ok-copy.ensures c.loop-name.invariant.0 c.loop-name.invariant.1 new
    c.in_ok-is_new.ensures.keys
