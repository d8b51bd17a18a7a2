use Rattle.std.proofs.Common.{◌≡◌, sym, ap, ◌∙◌, ◌∷◌, [], ℤ, List}
use Rattle.isl_piece.specs.declared.system.System.{System}
use Rattle.isl_piece.specs.Meet.{over_same_columns}
use Rattle.isl_piece.specs.System.{HoldsSystem}
use Rattle.isl_blocks.proofs.ResultLaws.{ok_case, ok_has}
use Rattle.isl_blocks.specs.Blocks.{block_at, picked}
use Rattle.isl_schedule.specs.Visits.{own_widths}
use Rattle.isl_schedule.proofs.OverLaws.{both_over, case_over, spread_over}
use Rattle.isl_schedule.proofs.visits.at_itself.Goals as goal

pub meet-requires : goal.meet-requires
meet-requires c = (c.in_ok-own.ensures c.requires.within.0 c.requires.within.1).free ∙ sym c.in_ok-same.ensures.free

pub returns-clause-over : goal.returns-clause-over
returns-clause-over c g bits within =
    let widths = own_widths c.args.params c.args.width in
    let s = c.args.system.now in
    let P : List (List ℤ) → Type 0 = λ blocks. HoldsSystem s (picked (0 ∷ 1 ∷ []) blocks) in
    let C : List (List ℤ) → Type 0 = λ blocks. block_at blocks 1 ≡ block_at blocks 2 in
    let own = spread_over g widths (0 ∷ 1 ∷ []) s c.in_ok-own.own (c.in_ok-own.ensures g within) in
    let case = case_over g widths 1 2 (λ xs ys. xs ≡ ys) c.in_ok-same.same bits c.in_ok-same.ensures in
    both_over g widths P C c.in_ok-own.own c.in_ok-same.same own case c.meet.result
    (λ point l. c.meet.ensures.points g point own.within case.within l) (c.meet.ensures.within g own.within case.within)
    (c.meet.ensures.free g own.within case.within)

pub returns-clause-definitions : goal.returns-clause-definitions
returns-clause-definitions c plain =
    let own : c.in_ok-own.own.definitions ≡ [] = (c.in_ok-own.ensures c.requires.within.0 c.requires.within.1).definitions plain in
    let same : c.in_ok-own.own.definitions ≡ c.in_ok-same.same.definitions = own ∙ sym c.in_ok-same.ensures.definitions in
    ok_case c.meet.result (λ made. made.definitions ≡ []) (λ made is.
    ap (λ (s : System). s.definitions) (ok_has c.meet.result made (λ s. s ≡ over_same_columns c.in_ok-own.own c.in_ok-same.same) is
    (c.meet.ensures.same same)) ∙ own)
