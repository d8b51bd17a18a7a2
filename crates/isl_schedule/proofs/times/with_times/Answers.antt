use Rattle.std.proofs.Common.{Result, Ok, ℤ, List}
use Rattle.isl_piece.specs.declared.system.System.{System}
use Rattle.isl_piece.specs.System.{HoldsSystem}
use Rattle.isl_blocks.specs.Blocks.{block_at, picked}
use Rattle.isl_blocks.specs.Cases.{IsBeforeAt}
use Rattle.isl_schedule.specs.Differ.{first_blocks, second_blocks}
use Rattle.isl_schedule.proofs.OverLaws.{both_over, case_over, spread_over}
use Rattle.isl_schedule.proofs.times.with_times.Goals as goal

pub returns : goal.returns
returns c g bits first second =
    let widths = c.args.widths.now in
    let a = c.args.one.now in
    let b = c.args.other.now in
    let at = c.args.at in
    let P : List (List ℤ) → Type 0 = λ blocks. HoldsSystem a (picked first_blocks blocks) in
    let Q : List (List ℤ) → Type 0 = λ blocks. HoldsSystem b (picked second_blocks blocks) in
    let C : List (List ℤ) → Type 0 = λ blocks. IsBeforeAt at (block_at blocks 2) (block_at blocks 3) in
    let own = spread_over g widths first_blocks a c.in_ok-first.first (c.in_ok-first.ensures g first) in
    let other = spread_over g widths second_blocks b c.in_ok-second.second (c.in_ok-second.ensures g second) in
    let made : Result System (Unit {0}) = Ok c.in_ok-both.both in
    let both = both_over g widths P Q c.in_ok-first.first c.in_ok-second.second own other made
    (λ point l. c.in_ok-both.ensures.points g point own.within other.within l) (c.in_ok-both.ensures.within g own.within other.within)
    (c.in_ok-both.ensures.free g own.within other.within) in
    let case = case_over g widths 2 3 (IsBeforeAt at) c.in_ok-case.case bits c.in_ok-case.ensures in
    both_over g widths (λ blocks. P blocks × Q blocks) C c.in_ok-both.both c.in_ok-case.case both case c.meet-2.result
    (λ point l. c.meet-2.ensures.points g point both.within case.within l) (c.meet-2.ensures.within g both.within case.within)
    (c.meet-2.ensures.free g both.within case.within)
