use Rattle.std.proofs.Common.{◌≡◌, ◌+◌, ◌<◌, ◌++◌, ◌∷◌, [], length, take, sym, ap, ◌∙◌, ℤ, arith}
use Rattle.std.specs.List.{filter}
use Rattle.std.specs.Ordering.{int_eq}
use Rattle.std.proofs.lemmas.Grind.{common_steps}
use Rattle.std.proofs.lemmas.List.{take_more}
use Rattle.isl_shadows.proofs.CountLemmas.{most_more}
use Rattle.isl_column.proofs.neighbours.most_alike.Goals as goal

pub loop-number-preserved : goal.loop-number-preserved
loop-number-preserved c =
    let numbers = c.args.numbers.now in
    let i = c.loop-number.number-index in
    let m = c.number-item.result in
    let inside : i < length numbers = grind (arith, common_steps) in
    let taken : take (i + 1) numbers ≡ take i numbers ++ m ∷ [] = take_more numbers i m inside ∙ ap (λ (n : ℤ). take i numbers ++ n ∷ []) (sym c.number-item.is) in
    let count : c.count_of.result ≡ length (filter (λ n. int_eq n m) numbers) = grind (arith, common_steps) in
    rw taken (most_more numbers (take i numbers) m c.loop-number.most c.count_of.result c.max-most.result c.loop-number.invariant count
    (grind (arith, common_steps)) (grind (arith, common_steps)))

pub returns : goal.returns
returns c =
    let numbers = c.args.numbers.now in
    let whole : take c.loop-number.number-index numbers ≡ numbers = grind (arith, common_steps) in
    rw whole at c.loop-number.invariant
