use Rattle.std.proofs.Common.{◌≡◌, ◌∙◌, ◌++◌, ◌∷◌, [], List, reverse, arith, ap, refl, sym, subst}
use Rattle.std.proofs.lemmas.Grind.{common_steps}
use Rattle.std.proofs.lemmas.List.{reverse-reverse}
use Rattle.isl_scan.specs.declared.group.Group.{Group}
use Rattle.isl_scan.specs.Groups.{AreLeft, AreMerged}
use Rattle.isl_scan.proofs.MergedGroupLaws.{all_merged, left_all, left_is, left_then, reverse_push}
use Rattle.isl_scan.proofs.group.merged_groups.Goals as goal

pub loop-first-init : goal.loop-first-init
loop-first-init c =
    let fs = c.args.firsts.items in
    let ss = c.args.seconds.items in
    left_is [] fs ss [] fs ss ss c.in_ok-groups.groups.items (reverse c.reverse.new.self.items) (reverse c.reverse-2.new.self.items) refl
    (grind (arith, common_steps)) (ap reverse c.reverse.ensures.items ∙ reverse-reverse fs)
    (ap reverse c.reverse-2.ensures.items ∙ reverse-reverse ss) (left_all fs ss c.requires.firsts c.requires.seconds)

pub loop-first-preserved : goal.loop-first-preserved
loop-first-preserved c =
    let fs = c.args.firsts.items in
    let ss = c.args.seconds.items in
    let merged = c.loop-first.groups.items in
    let popped = c.pop.new.self.items in
    let f = c.in-Some.first in
    let rest = reverse c.loop-first.seconds.items in
    let olds : c.loop-first.firsts.items ≡ popped ++ f ∷ [] = grind (arith, common_steps) in
    let firsts : reverse c.loop-first.firsts.items ≡ f ∷ reverse popped = ap reverse olds ∙ reverse_push popped f in
    let before = subst (λ (l : List Group). AreLeft [] fs ss merged l rest) firsts c.loop-first.invariant in
    left_then [] fs ss merged (f ∷ reverse popped) rest c.push_next.new.groups.items (reverse c.push_next.new.firsts.items)
    (reverse c.push_next.new.seconds.items) before c.in_ok-push_next.ensures.left

pub returns : goal.returns
returns c =
    let fs = c.args.firsts.items in
    let ss = c.args.seconds.items in
    let merged = c.loop-first.groups.items in
    let rest = reverse c.loop-first.seconds.items in
    let none : c.loop-first.firsts.items ≡ [] = grind (arith, common_steps) in
    let left = subst (λ (l : List Group). AreLeft [] fs ss merged l rest) (ap reverse none) c.loop-first.invariant in
    let all : c.append.new.self.items ≡ merged ++ rest = grind (arith, common_steps) in
    subst (AreMerged fs ss) (sym all) (all_merged fs ss merged rest left)
