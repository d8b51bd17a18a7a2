use Rattle.std.proofs.Common.{◌≡◌, ◌++◌, ◌<◌, ◌∙◌, [], ◌∷◌, get_or, length, arith, subst, sym}
use Rattle.std.specs.List.{All}
use Rattle.isl_piece.specs.Normal.{IsNormal}
use Rattle.isl_piece.specs.System.{IsSystemWithin, free_columns}
use Rattle.isl_piece.specs.declared.system.System.{System}
use Rattle.isl_calls.specs.Level.{AreEndedOf}
use Rattle.isl_calls.proofs.EndedLaws.{kept_have, kept_projects, so_far_all, so_far_first, so_far_next}
use Rattle.isl_calls.proofs.covers.ended_levels.Goals as goal

pub loop-height-init : goal.loop-height-init
loop-height-init c =
    let r = c.requires in
    let some : 0 < length c.args.tower.now = let n = r.tower.count in let m = r.tower.outer_in in omega (arith, n, m) in
    let made : c.push.new.self.items ≡ c.in_ok-copied.field-0 ∷ [] = grind arith in
    so_far_first c.args.meter.now c.args.system.now c.args.outer c.args.tower.now c.in_ok-copied.field-0 c.push.new.self.items r.tower
    r.within r.plain r.normal some (c.in_ok-copied.ensures ∙ c.level.ensures) made

pub ended-requires-clause-within : goal.ended-requires-clause-within
ended-requires-clause-within c =
    let g = c.args.meter.now in
    let height = c.loop-height.height in
    let inside : height < length c.args.tower.now = grind arith in
    (g, subst (All (IsSystemWithin g)) (sym c.level-in-loop-height.ensures) (c.requires.within height [] inside))

pub ended-requires-clause-some_column : goal.ended-requires-clause-some_column
ended-requires-clause-some_column c =
    let height = c.loop-height.height in
    let inside : height < length c.args.tower.now = grind arith in
    let above : 0 < height = grind arith in
    subst (All (λ (t : System). 0 < free_columns t)) (sym c.level-in-loop-height.ensures)
    (λ k d l. let n = (c.requires.tower.projections height inside).columns k d l in omega (arith, n, above))

pub loop-height-preserved : goal.loop-height-preserved
loop-height-preserved c =
    let g = c.args.meter.now in
    let s = c.args.system.now in
    let outer = c.args.outer in
    let tower = c.args.tower.now in
    let height = c.loop-height.height in
    let level = get_or tower height [] in
    let kept = c.in_ok-ended.field-0 in
    let inside : height < length tower = grind arith in
    let above : 0 < height = grind arith in
    let are : AreEndedOf level kept = subst (λ xs. AreEndedOf xs kept) c.level-in-loop-height.ensures c.in_ok-ended.ensures in
    let pushed : c.push-in-loop-height.new.self.items ≡ c.loop-height.levels.items ++ kept ∷ [] = grind arith in
    let projection = c.requires.tower.projections height inside in
    let within = c.requires.within height [] inside in
    let plain = c.requires.plain height [] inside in
    let have : (P : System → Type 0) → All P level → All P kept = λ P all.
    kept_have g s outer height level kept above projection within plain c.requires.bounded are P all in
    so_far_next g s outer height c.loop-height.levels.items kept c.push-in-loop-height.new.self.items c.loop-height.invariant above
    (kept_projects g s outer height level kept above projection within plain c.requires.bounded are) (have (IsSystemWithin g) within)
    (have (λ t. t.definitions ≡ []) plain) (have (λ t. IsNormal t.rows) (c.requires.normal height [] inside))
    (λ k d l. (are.each k d l).1) pushed

pub returns : goal.returns
returns c =
    let tower = c.args.tower.now in
    let some : 0 < length tower = let n = c.requires.tower.count in let m = c.requires.tower.outer_in in omega (arith, n, m) in
    let long : length tower ≡ c.loop-height.height = grind arith in
    so_far_all c.args.meter.now c.args.system.now c.args.outer c.loop-height.height tower c.loop-height.levels.items c.requires.tower long
    c.loop-height.invariant
