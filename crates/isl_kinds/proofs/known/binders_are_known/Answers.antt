use Rattle.std.proofs.Common.{◌≡◌, ◌∙◌, ◌+◌, ◌&&◌, Bool, true, sym, ap, take, drop, rules}
use Rattle.isl_tree.specs.Known.{binders_are_known, known_below}
use Rattle.isl_tree.specs.declared.tree.Binder.{Binder}
use Rattle.isl_kinds.specs.Place.{names_at, value_is_known}
use Rattle.isl_kinds.proofs.KnownLaws.{binders_next}
use Rattle.isl_kinds.proofs.known.binders_are_known.Goals as goal

pub loop-at-preserved : goal.loop-at-preserved
loop-at-preserved c =
    let known = names_at c.args.place.now in
    let binders = c.args.binders.now in
    let at = c.loop-at.at in
    let is_true : c.value_is_known.result ≡ true = search rules in
    let rest = binders_are_known (known_below known (take (at + 1) binders)) (drop (at + 1) binders) in
    ap (λ (b : Bool). b && rest)
    (sym is_true ∙ c.value_is_known.ensures
    ∙ ap (λ (m : Binder). value_is_known (known_below known (take at binders)) m.value) (sym c.index-binders-at.is))
    ∙ sym (binders_next known binders at c.index-binders-at.result c.loop-at-test.true c.index-binders-at.is)
    ∙ c.loop-at.invariant
