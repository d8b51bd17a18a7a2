use Rattle.std.proofs.Common.{sym, subst, arith, ◌<◌, ◌≤◌, length}
use Rattle.std.proofs.lemmas.Grind.{common_steps}
use Rattle.isl_space.specs.Space.{space_form_of}
use Rattle.isl_union.specs.KeptValue.{KeptPiece}
use Rattle.isl_products.specs.Layout.{IsWide}
use Rattle.isl_products.proofs.WideLaws.{none_at_end, none_next, some_next}
use Rattle.isl_products.proofs.wide.ask_spaces_with.Goals as goal

pub returns-in_err-ask_space-clause-err : goal.returns-in_err-ask_space-clause-err
returns-in_err-ask_space-clause-err c = λ e.
    let own = space_form_of c.args.own.now in
    let P : KeptPiece → Type 0 = λ b. IsWide c.args.product own b.space in
    let low : c.loop-other.other-index < length c.args.others.now = omega arith in
    let h = c.in_err-ask_space.ensures.err in
    some_next P c.args.others.now c.loop-other.other-index c.other-item.result low c.other-item.is
    (subst (IsWide c.args.product own) c.space.ensures (h (grind (arith, common_steps))))

pub loop-other-preserved : goal.loop-other-preserved
loop-other-preserved c =
    let own = space_form_of c.args.own.now in
    let P : KeptPiece → Type 0 = λ b. IsWide c.args.product own b.space in
    let low : c.loop-other.other-index < length c.args.others.now = omega arith in
    none_next P c.args.others.now c.loop-other.other-index c.other-item.result low c.other-item.is c.loop-other.invariant
    (λ w. c.in_ok-ask_space.ensures.ok (subst (IsWide c.args.product own) (sym c.space.ensures) w))

pub returns-clause-ok : goal.returns-clause-ok
returns-clause-ok c =
    let end : length c.args.others.now ≤ c.loop-other.other-index = omega arith in
    none_at_end (λ b. IsWide c.args.product (space_form_of c.args.own.now) b.space) c.args.others.now c.loop-other.other-index end
    c.loop-other.invariant
