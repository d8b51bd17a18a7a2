use Rattle.std.proofs.Common.{◌≡◌, ◌∙◌, ◌+◌, ◌<◌, ◌^◌, ◌++◌, ◌∷◌, [], List, length, reverse, arith, ap, refl, subst}
use Rattle.std.specs.Prelude.{string_bytes}
use Rattle.std.specs.declared.cmp.Ordering.TheVariants.{Less, Equal, Greater}
use Rattle.std.proofs.lemmas.Grind.{common_steps}
use Rattle.isl_scan.specs.declared.group.Group.{Group}
use Rattle.isl_scan.specs.Groups.{elements_of, title_cmp, AreGroups}
use Rattle.isl_scan.proofs.GroupLaws.{length_of}
use Rattle.isl_scan.proofs.MergedGroupLaws.{is_first, is_second, left_is, next_alone, next_both, next_first, next_second, reverse_push}
use Rattle.isl_scan.proofs.MergedGroupLaws.{same_spaces}
use Rattle.isl_scan.proofs.group.push_next.Goals as goal

pub returns-in_ok-push-in-Less-2-clause-left : goal.returns-in_ok-push-in-Less-2-clause-left
returns-in_ok-push-in-Less-2-clause-left c =
    let merged = c.args.groups.now.items in
    let firsts = reverse c.args.firsts.now.items in
    let popped = c.pop.new.self.items in
    let f = c.args.first in
    let s = c.in-Some.second in
    let olds : c.args.seconds.now.items ≡ popped ++ s ∷ [] = grind (arith, common_steps) in
    let seconds : reverse c.args.seconds.now.items ≡ s ∷ reverse popped = ap reverse olds ∙ reverse_push popped s in
    let less : title_cmp f (string_bytes s.title) ≡ Less = grind (arith, common_steps) in
    let b = subst (λ (l : List Group). AreGroups (merged ++ l)) seconds c.requires.seconds in
    let pushed : c.push-in-Less-2.new.self.items ≡ merged ++ f ∷ [] = grind (arith, common_steps) in
    let back : c.push-in-Less.new.self.items ≡ popped ++ s ∷ [] = grind (arith, common_steps) in
    left_is merged (f ∷ firsts) (s ∷ reverse popped) (merged ++ f ∷ []) firsts (s ∷ reverse popped)
    (reverse c.args.seconds.now.items) c.push-in-Less-2.new.self.items firsts (reverse c.push-in-Less.new.self.items) seconds pushed refl
    (ap reverse back ∙ reverse_push popped s) (next_first merged firsts (reverse popped) f s c.requires.firsts b less)

pub returns-in_ok-push-in-Greater-2-clause-left : goal.returns-in_ok-push-in-Greater-2-clause-left
returns-in_ok-push-in-Greater-2-clause-left c =
    let merged = c.args.groups.now.items in
    let firsts = reverse c.args.firsts.now.items in
    let popped = c.pop.new.self.items in
    let f = c.args.first in
    let s = c.in-Some.second in
    let olds : c.args.seconds.now.items ≡ popped ++ s ∷ [] = grind (arith, common_steps) in
    let seconds : reverse c.args.seconds.now.items ≡ s ∷ reverse popped = ap reverse olds ∙ reverse_push popped s in
    let greater : title_cmp f (string_bytes s.title) ≡ Greater = grind (arith, common_steps) in
    let b = subst (λ (l : List Group). AreGroups (merged ++ l)) seconds c.requires.seconds in
    let pushed : c.push-in-Greater-2.new.self.items ≡ merged ++ s ∷ [] = grind (arith, common_steps) in
    let back : c.push-in-Greater.new.self.items ≡ c.args.firsts.now.items ++ f ∷ [] = grind (arith, common_steps) in
    left_is merged (f ∷ firsts) (s ∷ reverse popped) (merged ++ s ∷ []) (f ∷ firsts) (reverse popped)
    (reverse c.args.seconds.now.items) c.push-in-Greater-2.new.self.items (reverse c.push-in-Greater.new.self.items) (reverse popped) seconds pushed
    (ap reverse back ∙ reverse_push c.args.firsts.now.items f) refl
    (next_second merged firsts (reverse popped) f s c.requires.firsts b greater)

pub returns-in_ok-push-in-Equal-clause-left : goal.returns-in_ok-push-in-Equal-clause-left
returns-in_ok-push-in-Equal-clause-left c =
    let merged = c.args.groups.now.items in
    let firsts = reverse c.args.firsts.now.items in
    let popped = c.pop.new.self.items in
    let f = c.args.first in
    let s = c.in-Some.second in
    let m = c.in_ok-joined-in-Equal.field-0 in
    let olds : c.args.seconds.now.items ≡ popped ++ s ∷ [] = grind (arith, common_steps) in
    let seconds : reverse c.args.seconds.now.items ≡ s ∷ reverse popped = ap reverse olds ∙ reverse_push popped s in
    let equal : title_cmp f (string_bytes s.title) ≡ Equal = grind (arith, common_steps) in
    let b = subst (λ (l : List Group). AreGroups (merged ++ l)) seconds c.requires.seconds in
    let pushed : c.push-in-Equal.new.self.items ≡ merged ++ m ∷ [] = grind (arith, common_steps) in
    left_is merged (f ∷ firsts) (s ∷ reverse popped) (merged ++ m ∷ []) firsts (reverse popped)
    (reverse c.args.seconds.now.items) c.push-in-Equal.new.self.items firsts (reverse popped) seconds pushed refl refl
    (next_both merged firsts (reverse popped) f s c.requires.firsts b m
    (same_spaces merged firsts (reverse popped) f s c.requires.firsts b equal) c.in_ok-joined-in-Equal.ensures)

pub returns-in_default-clause-left : goal.returns-in_default-clause-left
returns-in_default-clause-left c =
    let merged = c.args.groups.now.items in
    let firsts = reverse c.args.firsts.now.items in
    let f = c.args.first in
    let olds : c.args.seconds.now.items ≡ [] = grind (arith, common_steps) in
    let popped : c.pop.new.self.items ≡ [] = grind (arith, common_steps) in
    let pushed : c.push.new.self.items ≡ merged ++ f ∷ [] = grind (arith, common_steps) in
    left_is merged (f ∷ firsts) [] (merged ++ f ∷ []) firsts [] (reverse c.args.seconds.now.items) c.push.new.self.items firsts
    (reverse c.pop.new.self.items) (ap reverse olds) pushed refl (ap reverse popped) (next_alone merged firsts [] f c.requires.firsts)

pub joined-requires : goal.joined-requires
joined-requires c =
    let merged = c.args.groups.now.items in
    let firsts = reverse c.args.firsts.now.items in
    let popped = c.pop.new.self.items in
    let f = c.args.first in
    let s = c.in-Some.second in
    let olds : c.args.seconds.now.items ≡ popped ++ s ∷ [] = grind (arith, common_steps) in
    let seconds : reverse c.args.seconds.now.items ≡ s ∷ reverse popped = ap reverse olds ∙ reverse_push popped s in
    let equal : title_cmp f (string_bytes s.title) ≡ Equal = grind (arith, common_steps) in
    let b = subst (λ (l : List Group). AreGroups (merged ++ l)) seconds c.requires.seconds in
    let few = subst (λ (l : List Group). length (elements_of (f ∷ firsts)) + length (elements_of l) < 2 ^ 64) seconds c.requires.few in
    record {
      group = is_first merged firsts (reverse popped) f s c.requires.firsts b;
      other = is_second merged firsts (reverse popped) f s c.requires.firsts b;
      same = same_spaces merged firsts (reverse popped) f s c.requires.firsts b equal;
      few = let n = length_of f firsts in let o = length_of s (reverse popped) in omega (arith, n, o, few);
    }
