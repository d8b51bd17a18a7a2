use Rattle.std.proofs.Common.{◌≤◌, ◌++◌, ◌∷◌, [], ◌∙◌, ap, arith, ℤ, List, drop, length, take}
use Rattle.std.proofs.lemmas.Grind.{common_steps}
use Rattle.std.proofs.lemmas.List.{append_assoc, take_all}
use Rattle.isl_pip.proofs.lift.inserted.Goals as goal

pub returns : goal.returns
returns c =
    let cs = c.args.coefs.now in
    let n = c.args.column in
    let front = take n cs ++ c.args.number ∷ [] in
    let end : length (drop n cs) ≤ c.loop-coef.coef-index = grind (arith, common_steps) in
    c.loop-coef.invariant ∙ ap (λ (l : List ℤ). front ++ l) (take_all c.loop-coef.coef-index (drop n cs) end)
    ∙ append_assoc (take n cs) (c.args.number ∷ []) (drop n cs)
