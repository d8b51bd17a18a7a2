use Rattle.std.proofs.Common.{◌≡◌, ◌++◌, ◌∷◌, [], length, arith, refl}
use Rattle.isl_meter.specs.Gauge.{IsCutBy}
use Rattle.isl_piece.specs.System.{HoldsSystem}
use Rattle.isl_elim.specs.Elimination.{HoldsAtAny}
use Rattle.isl_points.specs.Line.{IsListing}
use Rattle.isl_points.proofs.PrefixLaws.{one_system, same_listing, same_result}
use Rattle.isl_points.proofs.level.numbers_behind.Goals as goal

pub returns-in-len1 : goal.returns-in-len1
returns-in-len1 c =
    let g = c.args.meter.now in
    let k = c.numbers_begun.new.meter in
    let systems = c.args.systems.now in
    let prefix = c.args.prefix.now in
    let s = c.system-item.result in
    let alone : length systems ≡ 1 = grind arith in
    record {
      exact = same_result c.numbers_begun.result (λ found. IsListing g k (λ x. HoldsSystem s (prefix ++ x ∷ [])) found.numbers.items)
          (λ found. IsListing g k (λ x. HoldsAtAny systems (prefix ++ x ∷ [])) found.numbers.items) (IsCutBy g k) (IsCutBy g k)
          (λ found l. same_listing g g k (λ x. HoldsSystem s (prefix ++ x ∷ [])) (λ x. HoldsAtAny systems (prefix ++ x ∷ []))
          found.numbers.items refl (λ x. one_system systems s (prefix ++ x ∷ []) alone c.system-item.is) l)
          (λ cut b. b) c.numbers_begun.ensures.exact;
    }

pub numbers_begun-requires-clause-begun : goal.numbers_begun-requires-clause-begun
numbers_begun-requires-clause-begun c =
    let systems = c.args.systems.now in
    let x = c.requires.begun.0 in
    let alone : length systems ≡ 1 = grind arith in
    (x, (one_system systems c.system-item.result (c.args.prefix.now ++ x ∷ []) alone c.system-item.is).1 c.requires.begun.1)
