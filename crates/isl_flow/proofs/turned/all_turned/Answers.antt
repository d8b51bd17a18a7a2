use Rattle.std.proofs.Common.{sym, subst, arith, ◌<◌, ◌≤◌, length, [], ◌∷◌}
use Rattle.std.specs.List.{All}
use Rattle.isl_precedence.specs.Precedence.{HasOccurrence, IsAccessed, IsPlainPrecedence, IsPrecedence}
use Rattle.isl_flow.specs.Turned.{turned_back}
use Rattle.isl_remainder.proofs.MadeLaws.{made_all, made_more, made_none}
use Rattle.isl_flow.proofs.turned.all_turned.Goals as goal

pub turned-requires : goal.turned-requires
turned-requires c =
    let low : c.loop-precedence.precedence-index < length c.args.precedences.now = omega arith in
    subst (IsAccessed c.args.meter.now c.args.params.now) (sym c.precedence-item.is)
    (c.requires c.loop-precedence.precedence-index c.precedence-item.result low)

pub loop-precedence-init : goal.loop-precedence-init
loop-precedence-init c =
    let params = c.args.params.now in
    let items = c.args.precedences.now in
    made_none (HasOccurrence params) (IsPrecedence c.args.meter.now params) IsPlainPrecedence (All IsPlainPrecedence items)
    (λ o r. HasOccurrence params (turned_back o) r) items c.in_ok-made.made.items c.in_ok-made.ensures.items

pub loop-precedence-preserved : goal.loop-precedence-preserved
loop-precedence-preserved c =
    let g = c.args.meter.now in
    let params = c.args.params.now in
    let items = c.args.precedences.now in
    let i = c.loop-precedence.precedence-index in
    let item = c.precedence-item.result in
    let low : i < length items = omega arith in
    made_more (HasOccurrence params) (IsPrecedence g params) IsPlainPrecedence (All IsPlainPrecedence items)
    (λ o r. HasOccurrence params (turned_back o) r) items i item low c.precedence-item.is (IsPrecedence g params) (IsPlainPrecedence item)
    (λ o. HasOccurrence params (turned_back o) item) (λ p is. is)
    (λ all. subst IsPlainPrecedence (sym c.precedence-item.is) (all i item low)) (λ o. ((λ x. x), (λ x. x)))
    c.loop-precedence.made.items (c.in_ok-turned.field-0 ∷ []) c.push.new.self.items c.in_ok-push.ensures.items c.loop-precedence.invariant
    c.in_ok-turned.ensures

pub returns : goal.returns
returns c =
    let params = c.args.params.now in
    let items = c.args.precedences.now in
    let end : length items ≤ c.loop-precedence.precedence-index = omega arith in
    made_all (HasOccurrence params) (IsPrecedence c.args.meter.now params) IsPlainPrecedence (All IsPlainPrecedence items)
    (λ o r. HasOccurrence params (turned_back o) r) items c.loop-precedence.precedence-index end c.loop-precedence.made.items
    c.loop-precedence.invariant
