use Rattle.std.proofs.Common.{◌≡◌, ◌∙◌, ap, sym, subst, List, [], ◌∷◌, ◌++◌}
use Rattle.isl_precedence.specs.declared.precedence.Precedence.{Precedence}
use Rattle.isl_remainder.specs.Made.{AreMade}
use Rattle.isl_precedence.specs.Precedence.{HasOccurrence, IsAccessed, IsPlainPrecedence}
use Rattle.isl_remainder.proofs.MadeLaws.{made_one}
use Rattle.isl_precedence.proofs.live.kept.Goals as goal

pub returns-clause-made : goal.returns-clause-made
returns-clause-made c =
    let g = c.args.meter.now in
    let params = c.args.params.now in
    let r = c.args.precedence in
    let is : c.push.new.self.items ≡ r ∷ [] =
    c.in_ok-push.ensures.items ∙ ap (λ (l : List Precedence). l ++ r ∷ []) c.new-made.ensures.items in
    subst (λ (l : List Precedence). AreMade (HasOccurrence params) (IsAccessed g params) IsPlainPrecedence (IsPlainPrecedence r)
    (λ o. HasOccurrence params o r) l) (sym is)
    (made_one (HasOccurrence params) (IsAccessed g params) IsPlainPrecedence (IsPlainPrecedence r) r c.requires.precedence (λ p. p))
