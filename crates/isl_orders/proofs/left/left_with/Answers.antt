use Rattle.std.proofs.Common.{◌≡◌, ◌↔◌, ◌∙◌, [], ◌∷◌, All}
use Rattle.isl_meter.proofs.CutLemmas.{IsCharged-unit}
use Rattle.isl_piece.specs.System.{IsSystemWithin, free_columns}
use Rattle.isl_elim.specs.Elimination.{HoldsAtAny}
use Rattle.isl_union.proofs.MeetSteps.{bits_after_unit}
use Rattle.isl_blocks.specs.Left.{HoldsBefore}
use Rattle.isl_blocks.proofs.ResultLaws.{ok_case, ok_has}
use Rattle.isl_orders.specs.Left.{AreLeftWith}
use Rattle.isl_orders.proofs.LeftLaws.{left_one}
use Rattle.isl_orders.proofs.left.left_with.Goals as goal

pub projected-requires-clause-within : goal.projected-requires-clause-within
projected-requires-clause-within c =
    let g = c.args.meter.now in
    bits_after_unit g c.unit.new.self c.in_ok-both.both c.in_ok-unit.ensures.1
    (c.in_ok-both.ensures.within g c.requires.within c.requires.case_within)

pub projected-requires-clause-columns : goal.projected-requires-clause-columns
projected-requires-clause-columns c =
    c.in_ok-both.ensures.free c.args.meter.now c.requires.within c.requires.case_within ∙ c.requires.columns

pub returns-clause-left : goal.returns-clause-left
returns-clause-left c =
    let g = c.args.meter.now in
    let h = c.unit.new.self in
    let s = c.args.system.now in
    let case = c.args.case.now in
    let both = c.in_ok-both.both in
    let r = c.projected.result in
    let told = c.projected.ensures in
    ok_case r (λ left. AreLeftWith g s (case ∷ []) c.args.kept c.args.count left.items) (λ left at.
    left_one g h s case both c.args.kept c.args.count left.items (IsCharged-unit g h c.in_ok-unit.ensures.1) c.requires.columns
    (λ point long. c.in_ok-both.ensures.points g point c.requires.within c.requires.case_within long)
    (λ point long. ok_has r left (λ l. HoldsAtAny l.items point ↔ HoldsBefore both c.args.count point) at (told.points point long))
    (ok_has r left (λ l. All (λ t. free_columns t ≡ c.args.kept) l.items) at told.columns)
    (ok_has r left (λ l. All (IsSystemWithin h) l.items) at told.within))
