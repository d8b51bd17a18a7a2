use Rattle.std.proofs.Common.{◌≡◌, ◌∷◌, [], sym, ap, ◌∙◌, subst, arith, map, true, false}
use Rattle.std.proofs.lemmas.Bool.{false≢true}
use Rattle.std.proofs.lemmas.Grind.{common_steps}
use Rattle.std.proofs.lemmas.Result.{IfOk-weaker}
use Rattle.isl_piece.specs.declared.row.Row.{Row}
use Rattle.isl_gist.specs.declared.pass.Pass.TheVariants.{Equations}
use Rattle.isl_gist.specs.Halves.{lower_half, upper_half}
use Rattle.isl_gist.specs.Thinned.{IsAmong, IsPart, IsRest, IsRowOver}
use Rattle.isl_gist.proofs.HalfLaws.{half_over}
use Rattle.isl_gist.proofs.IdleLaws.{over_later}
use Rattle.isl_gist.proofs.PartLaws.{equation_part, idle_with, lower_part, upper_part, with_plain}
use Rattle.isl_gist.proofs.needed.needed_halves.Goals as goal

pub is_idle-requires-clause-others : goal.is_idle-requires-clause-others
is_idle-requires-clause-others c =
    let g = c.args.meter.now in
    let n = c.args.others.now.columns in
    let over = subst (IsRowOver g n) (sym c.in_ok-lower.ensures) (half_over g n c.args.row.now c.requires.equation c.requires.row).1 in
    with_plain g n c.in_ok-lower.lower c.args.others.now.rows c.in_ok-with_lower.with_lower c.in_ok-with_lower.ensures over
    c.requires.others.rows

pub needed_row-requires-clause-row : goal.needed_row-requires-clause-row
needed_row-requires-clause-row c =
    let g = c.args.meter.now in
    let n = c.args.others.now.columns in
    let over = subst (IsRowOver g n) (sym c.in_ok-lower.ensures) (half_over g n c.args.row.now c.requires.equation c.requires.row).1 in
    over_later g c.is_idle.new.meter n c.in_ok-lower.lower c.in_ok-is_idle.ensures.meter over

pub returns-then-branch-clause-exact : goal.returns-then-branch-clause-exact
returns-then-branch-clause-exact c =
    let n = c.args.others.now.columns in
    let contexts = map (λ o. o.now) c.args.contexts.now in
    let others = c.args.others.now.rows in
    let r = c.args.row.now in
    let yes : c.in_ok-is_idle.field-0 ≡ true = grind (arith, common_steps) in
    let idle = (idle_with n contexts others c.in_ok-lower.lower (lower_half r) c.in_ok-upper.upper (upper_half r)
    c.in_ok-with_lower.with_lower c.in_ok-is_idle.field-0 c.in_ok-with_lower.ensures c.in_ok-lower.ensures c.in_ok-upper.ensures
    c.in_ok-is_idle.ensures.exact).0 yes in
    IfOk-weaker c.needed_row.result (IsRest (IsAmong n contexts) others c.in_ok-lower.lower)
    (IsPart Equations (IsAmong n contexts) others r)
    (λ left rest. lower_part (IsAmong n contexts) others r c.requires.equation left idle
    (subst (λ (s : Row). IsRest (IsAmong n contexts) others s left) c.in_ok-lower.ensures rest))
    c.needed_row.ensures.exact

pub is_idle-requires-2-clause-row : goal.is_idle-requires-2-clause-row
is_idle-requires-2-clause-row c =
    let g = c.args.meter.now in
    let n = c.args.others.now.columns in
    let same : c.in_ok-with_upper.with_upper.columns ≡ n = ap (λ s. s.columns) c.in_ok-with_upper.ensures in
    let over = subst (IsRowOver g n) (sym c.in_ok-lower.ensures) (half_over g n c.args.row.now c.requires.equation c.requires.row).1 in
    subst (λ k. IsRowOver c.is_idle.new.meter k c.in_ok-lower.lower) (sym same)
    (over_later g c.is_idle.new.meter n c.in_ok-lower.lower c.in_ok-is_idle.ensures.meter over)

pub returns-then-branch-2-clause-exact : goal.returns-then-branch-2-clause-exact
returns-then-branch-2-clause-exact c =
    let n = c.args.others.now.columns in
    let contexts = map (λ o. o.now) c.args.contexts.now in
    let others = c.args.others.now.rows in
    let r = c.args.row.now in
    let first : c.in_ok-is_idle.field-0 ≡ false = grind (arith, common_steps) in
    let second : c.in_ok-is_idle-2.field-0 ≡ true = grind (arith, common_steps) in
    let upper = idle_with n contexts others c.in_ok-lower.lower (lower_half r) c.in_ok-upper.upper (upper_half r)
    c.in_ok-with_lower.with_lower c.in_ok-is_idle.field-0 c.in_ok-with_lower.ensures c.in_ok-lower.ensures c.in_ok-upper.ensures
    c.in_ok-is_idle.ensures.exact in
    let lower = idle_with n contexts others c.in_ok-upper.upper (upper_half r) c.in_ok-lower.lower (lower_half r)
    c.in_ok-with_upper.with_upper c.in_ok-is_idle-2.field-0 c.in_ok-with_upper.ensures c.in_ok-upper.ensures c.in_ok-lower.ensures
    c.in_ok-is_idle-2.ensures.exact in
    upper_part (IsAmong n contexts) others r c.requires.equation c.in_ok-only.field-0
    (λ idle. false≢true (sym first ∙ upper.1 idle)) (lower.0 second)
    (c.in_ok-only.ensures ∙ ap (λ (s : Row). s ∷ []) c.in_ok-upper.ensures)

pub returns-clause-exact : goal.returns-clause-exact
returns-clause-exact c =
    let n = c.args.others.now.columns in
    let contexts = map (λ o. o.now) c.args.contexts.now in
    let others = c.args.others.now.rows in
    let r = c.args.row.now in
    let first : c.in_ok-is_idle.field-0 ≡ false = grind (arith, common_steps) in
    let second : c.in_ok-is_idle-2.field-0 ≡ false = grind (arith, common_steps) in
    let upper = idle_with n contexts others c.in_ok-lower.lower (lower_half r) c.in_ok-upper.upper (upper_half r)
    c.in_ok-with_lower.with_lower c.in_ok-is_idle.field-0 c.in_ok-with_lower.ensures c.in_ok-lower.ensures c.in_ok-upper.ensures
    c.in_ok-is_idle.ensures.exact in
    let lower = idle_with n contexts others c.in_ok-upper.upper (upper_half r) c.in_ok-lower.lower (lower_half r)
    c.in_ok-with_upper.with_upper c.in_ok-is_idle-2.field-0 c.in_ok-with_upper.ensures c.in_ok-upper.ensures c.in_ok-lower.ensures
    c.in_ok-is_idle-2.ensures.exact in
    equation_part (IsAmong n contexts) others r c.requires.equation c.in_ok-only-2.field-0
    (λ idle. false≢true (sym first ∙ upper.1 idle)) (λ idle. false≢true (sym second ∙ lower.1 idle))
    (c.in_ok-only-2.ensures ∙ ap (λ (s : Row). s ∷ []) c.in_ok-copy.ensures)
