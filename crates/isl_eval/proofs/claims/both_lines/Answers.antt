use Rattle.std.proofs.Common.{◌≡◌, ◌∙◌, All, Contains, Err, List, ap, ap₂, arith, refl, string_bytes, subst, sym}
use Rattle.std.proofs.lemmas.Grind.{common_steps}
use Rattle.std.proofs.lemmas.Result.{err_from_is_err_and}
use Rattle.isl_meter.proofs.CutLemmas.{IsCharged_trans, IsCutBy-after, IsCutBy-charged}
use Rattle.isl_meter.specs.declared.Cut.TheVariants.{NoMemory}
use Rattle.isl_space.specs.Name.{Name}
use Rattle.isl_space.specs.Names.{joined}
use Rattle.isl_union.proofs.ValueLaws.{fault_by, first_in, second_in}
use Rattle.isl_union.specs.Fault.{fault_of, IsFaultBy}
use Rattle.isl_values.proofs.ValueLaws.{numbers_later}
use Rattle.isl_eval.proofs.ProvedLaws.{claim_fault, claims_shown}
use Rattle.isl_eval.proofs.claims.both_lines.Goals as goal

pub claim_lines-requires-clause-lesser_declared : goal.claim_lines-requires-clause-lesser_declared
claim_lines-requires-clause-lesser_declared c =
    let is = c.in_ok-params.ensures.joined ∙ ap₂ joined c.params.ensures.content c.params-2.ensures.content in
    subst (λ (ns : List Name). All (Contains ns) c.args.left_under.now.params) (sym is) c.requires.left_declared

pub claim_lines-requires-clause-greater_declared : goal.claim_lines-requires-clause-greater_declared
claim_lines-requires-clause-greater_declared c =
    let is = c.in_ok-params.ensures.joined ∙ ap₂ joined c.params.ensures.content c.params-2.ensures.content in
    subst (λ (ns : List Name). All (Contains ns) c.args.right.now.params) (sym is)
    (second_in c.args.left.now.params c.args.right.now.params c.requires.left_kept.params c.requires.right_kept.params)

pub claim_lines-requires-clause-holds : goal.claim_lines-requires-clause-holds
claim_lines-requires-clause-holds c = λ made. c.requires.left_part (sym c.claims_left.ensures ∙ made)

pub claim_lines-requires-2-clause-lesser_declared : goal.claim_lines-requires-2-clause-lesser_declared
claim_lines-requires-2-clause-lesser_declared c =
    let is = c.in_ok-params.ensures.joined ∙ ap₂ joined c.params.ensures.content c.params-2.ensures.content in
    subst (λ (ns : List Name). All (Contains ns) c.args.right_under.now.params) (sym is) c.requires.right_declared

pub claim_lines-requires-2-clause-greater_declared : goal.claim_lines-requires-2-clause-greater_declared
claim_lines-requires-2-clause-greater_declared c =
    let is = c.in_ok-params.ensures.joined ∙ ap₂ joined c.params.ensures.content c.params-2.ensures.content in
    subst (λ (ns : List Name). All (Contains ns) c.args.left.now.params) (sym is)
    (first_in c.args.left.now.params c.args.right.now.params)

pub claim_lines-requires-2-clause-lesser : goal.claim_lines-requires-2-clause-lesser
claim_lines-requires-2-clause-lesser c =
    numbers_later c.args.meter.now c.claim_lines.new.meter c.args.right_under.now c.in_ok-lines.ensures.meter c.requires.right_under

pub claim_lines-requires-2-clause-greater : goal.claim_lines-requires-2-clause-greater
claim_lines-requires-2-clause-greater c =
    numbers_later c.args.meter.now c.claim_lines.new.meter c.args.left.now c.in_ok-lines.ensures.meter c.requires.left

pub claim_lines-requires-2-clause-holds : goal.claim_lines-requires-2-clause-holds
claim_lines-requires-2-clause-holds c = λ made. c.requires.right_part (sym c.claims_right.ensures ∙ made)

pub returns-clause-lines : goal.returns-clause-lines
returns-clause-lines c =
    let is = c.in_ok-params.ensures.joined ∙ ap₂ joined c.params.ensures.content c.params-2.ensures.content in
    claims_shown c.args.test (joined c.args.left.now.params c.args.right.now.params) _ is c.args.left.now c.args.right.now
    c.args.left_under.now c.args.right_under.now c.claims_left.result c.claims_right.result (string_bytes c.in_ok-lines.lines)
    (string_bytes c.in_ok-second.second) (string_bytes c.push_str.new.self) c.claims_left.ensures c.claims_right.ensures
    c.in_ok-lines.ensures.lines c.in_ok-second.ensures.lines (grind (arith, common_steps))

pub returns-clause-meter : goal.returns-clause-meter
returns-clause-meter c =
    IsCharged_trans c.args.meter.now c.claim_lines.new.meter c.claim_lines-2.new.meter c.in_ok-lines.ensures.meter
    c.in_ok-second.ensures.meter

pub returns-in_err-lines-clause-meter : goal.returns-in_err-lines-clause-meter
returns-in_err-lines-clause-meter c =
    let is = c.in_ok-params.ensures.joined ∙ ap₂ joined c.params.ensures.content c.params-2.ensures.content in
    let p = err_from_is_err_and c.from_residual-in_err-lines.result c.from_residual-in_err-lines.ensures.1 in
    rw (p.1, p.2) (claim_fault (joined c.args.left.now.params c.args.right.now.params) _ c.args.meter.now c.claim_lines.new.meter
    c.in_err-lines.field-0.0 is c.in_ok-params.ensures.well_formed c.in_err-lines.ensures.meter)

pub returns-in_err-second-clause-meter : goal.returns-in_err-second-clause-meter
returns-in_err-second-clause-meter c =
    let is = c.in_ok-params.ensures.joined ∙ ap₂ joined c.params.ensures.content c.params-2.ensures.content in
    let p = err_from_is_err_and c.from_residual-in_err-second.result c.from_residual-in_err-second.ensures.1 in
    let cut = IsCutBy-after c.args.meter.now c.claim_lines.new.meter c.claim_lines-2.new.meter c.in_err-second.field-0.0
    c.in_ok-lines.ensures.meter c.in_err-second.ensures.meter in
    rw (p.1, p.2) (claim_fault (joined c.args.left.now.params c.args.right.now.params) _ c.args.meter.now c.claim_lines-2.new.meter
    c.in_err-second.field-0.0 is c.in_ok-params.ensures.well_formed cut)

pub returns-in_err-push_str-clause-meter : goal.returns-in_err-push_str-clause-meter
returns-in_err-push_str-clause-meter c =
    let g = c.args.meter.now in
    let k = c.claim_lines-2.new.meter in
    let is = c.in_ok-params.ensures.joined ∙ ap₂ joined c.params.ensures.content c.params-2.ensures.content in
    let p = err_from_is_err_and c.from_residual-in_err-push_str.result c.from_residual-in_err-push_str.ensures.1 in
    let charged = IsCharged_trans g c.claim_lines.new.meter k c.in_ok-lines.ensures.meter c.in_ok-second.ensures.meter in
    rw (p.1, p.2) (claim_fault (joined c.args.left.now.params c.args.right.now.params) _ g k NoMemory is
    c.in_ok-params.ensures.well_formed (IsCutBy-charged g k charged))

pub returns-in_err-params-clause-meter : goal.returns-in_err-params-clause-meter
returns-in_err-params-clause-meter c =
    let g = c.args.meter.now in
    let fault = c.in_err-params.field-0.0 in
    let p = err_from_is_err_and c.from_residual.result c.from_residual.ensures.1 in
    rw (p.1, p.2) (subst (λ (ns : List Name). IsFaultBy ns g g (fault_of fault)) (ap₂ joined c.params.ensures.content
    c.params-2.ensures.content)
    (fault_by (joined c.params.result.now c.params-2.result.now) g g fault refl (λ is. c.in_err-params.ensures.too_wide (ap Err is))))
