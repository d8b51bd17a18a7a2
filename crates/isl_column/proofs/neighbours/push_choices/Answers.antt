use Rattle.std.proofs.Common.{◌≡◌, ◌+◌, ◌<◌, ◌++◌, ◌∷◌, [], length, take, refl, sym, ap, ◌∙◌, ℤ, arith}
use Rattle.std.specs.List.{Any}
use Rattle.std.proofs.lemmas.Grind.{common_steps}
use Rattle.std.proofs.lemmas.List.{take_more}
use Rattle.isl_math.specs.Divide.{floor_mod}
use Rattle.isl_shadows.specs.Neighbours.{others_than}
use Rattle.isl_column.specs.declared.neighbours.Choice.{Choice}
use Rattle.isl_column.proofs.SearchLemmas.{pushed_none, pushed_more, pushed_alike}
use Rattle.isl_column.proofs.neighbours.push_choices.Goals as goal

pub loop-i-init : goal.loop-i-init
loop-i-init c = pushed_none c.args.period c.args.level c.args.numbers.now c.args.choices.now.items

pub loop-i-preserved : goal.loop-i-preserved
loop-i-preserved c =
    let numbers = c.args.numbers.now in
    let i = c.loop-i.i in
    let m = c.index-numbers-i.result in
    let choice : Choice = record { numbers = c.in_ok-others.others; level = c.args.level } in
    let inside : i < length numbers = grind (arith, common_steps) in
    let taken : take (i + 1) numbers ≡ take i numbers ++ m ∷ [] = take_more numbers i m inside ∙ ap (λ (n : ℤ). take i numbers ++ n ∷ []) (sym c.index-numbers-i.is) in
    let pushed : c.push.new.self.items ≡ c.loop-i.choices.items ++ choice ∷ [] = grind arith in
    let is : choice.numbers.items ≡ others_than c.args.period m numbers = grind arith in
    rw taken (pushed_more c.args.period c.args.level numbers (take i numbers) m c.args.choices.now.items c.loop-i.choices.items c.push.new.self.items choice c.loop-i.invariant pushed (is, refl))

pub loop-i-preserved-then-is_alike : goal.loop-i-preserved-then-is_alike
loop-i-preserved-then-is_alike c =
    let numbers = c.args.numbers.now in
    let i = c.loop-i.i in
    let m = c.index-numbers-i.result in
    let inside : i < length numbers = grind (arith, common_steps) in
    let taken : take (i + 1) numbers ≡ take i numbers ++ m ∷ [] = take_more numbers i m inside ∙ ap (λ (n : ℤ). take i numbers ++ n ∷ []) (sym c.index-numbers-i.is) in
    let alike : Any (λ n. floor_mod n c.args.period ≡ floor_mod m c.args.period) (take i numbers) = grind (arith, common_steps) in
    rw taken (pushed_alike c.args.period c.args.level numbers (take i numbers) m c.args.choices.now.items c.loop-i.choices.items c.loop-i.invariant alike)
