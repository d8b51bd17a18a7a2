use Rattle.std.proofs.Common.{◌≡◌, ◌∷◌, ◌++◌, ◌<◌, ◌∙◌, [], pos, ℤ, List, ap, sym, length, get_or, false, arith, to_z-of_z}
use Rattle.std.proofs.lemmas.Grind.{common_steps}
use Rattle.isl_elim.proofs.OthersLaws.{among}
use Rattle.isl_elim.proofs.LeftLaws.{without_next}
use Rattle.isl_elim.proofs.dependents.without.Goals as goal

pub loop-i-preserved : goal.loop-i-preserved
loop-i-preserved c =
    let coefs = c.args.coefs.now in
    let i = c.loop-i.i in
    let no : among i c.args.cols.now ≡ false = grind arith in
    let inside : i < length coefs = grind arith in
    let pushed : c.push.new.self.items ≡ c.loop-i.left.items ++ get_or coefs i (pos 0) ∷ [] = grind (arith, common_steps, to_z-of_z) in
    pushed ∙ ap (λ (xs : List ℤ). xs ++ get_or coefs i (pos 0) ∷ []) c.loop-i.invariant ∙ sym (without_next c.args.cols.now coefs i inside no)
