use Rattle.std.proofs.Common.{◌≡◌, ◌∙◌, ap, refl, sym, subst, List, [], ◌∷◌, ◌++◌}
use Rattle.isl_precedence.specs.declared.precedence.Precedence.{Precedence}
use Rattle.isl_remainder.specs.Made.{AreMade}
use Rattle.isl_precedence.specs.Precedence.{HasOccurrence, IsAccessed, IsPlainPrecedence}
use Rattle.isl_precedence.proofs.LastLaws.{live_made, never_live}
use Rattle.isl_remainder.proofs.MadeLaws.{made_nothing}
use Rattle.isl_precedence.proofs.live.live_of.Goals as goal

pub live_form-requires : goal.live_form-requires
live_form-requires c = c.requires.precedence.precedence.within

pub returns-in_default-clause-made : goal.returns-in_default-clause-made
returns-in_default-clause-made c =
    let g = c.args.meter.now in
    let params = c.args.params.now in
    let r = c.args.precedence in
    let exact = rw c.in_default.is at c.in_ok-system.ensures.exact in
    made_nothing (HasOccurrence params) (IsAccessed g params) IsPlainPrecedence (IsPlainPrecedence r) (λ o. HasOccurrence params o r)
    (never_live g params r c.requires.precedence exact.0) c.new.result.items c.new.ensures.items

pub returns-clause-made : goal.returns-clause-made
returns-clause-made c =
    let g = c.args.meter.now in
    let params = c.args.params.now in
    let r = c.args.precedence in
    let q : Precedence = record { forms = r.forms; system = c.in-Some.system } in
    let exact = rw c.in-Some.is at c.in_ok-system.ensures.exact in
    let is : c.push.new.self.items ≡ q ∷ [] =
    c.in_ok-push.ensures.items ∙ ap (λ (l : List Precedence). l ++ q ∷ []) c.new-made.ensures.items in
    subst (λ (l : List Precedence). AreMade (HasOccurrence params) (IsAccessed g params) IsPlainPrecedence (IsPlainPrecedence r)
    (λ o. HasOccurrence params o r) l) (sym is)
    (live_made g params r c.requires.precedence q (record { source = refl; sink = refl; access = refl; time = refl }) exact.0)
