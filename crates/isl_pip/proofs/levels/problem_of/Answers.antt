use Rattle.std.proofs.Common.{◌≡◌, ◌∙◌, ◌+◌, ◌-◌, ◌++◌, ◌∷◌, [], ◌<◌, ◌≤◌, ◌^◌, refl, sym, ap, subst, arith, ℕ, ℤ, pos, List, length, get_or, map, take}
use Rattle.std.specs.List.{All}
use Rattle.std.proofs.lemmas.Grind.{common_steps}
use Rattle.isl_meter.specs.Gauge.{Gauge, IsCharged}
use Rattle.isl_meter.proofs.CutLemmas.{IsCharged_trans}
use Rattle.isl_piece.specs.declared.system.System.{System}
use Rattle.isl_greatest.specs.Problem.{ProblemView, IsProblem}
use Rattle.isl_greatest.proofs.KeptLaws.{bits_of}
use Rattle.isl_pip.specs.Levels.{AreLevelsOf, ArePlainOver, AreTowersOf, IsProblemOf}
use Rattle.isl_pip.proofs.LevelLaws.{heights, levels_later, plain_on, plain_over_kept, problem_made}
use Rattle.isl_pip.proofs.levels.problem_of.Goals as goal

pub towers_of-requires : goal.towers_of-requires
towers_of-requires c = subst (ArePlainOver c.args.meter.now (c.args.front + c.args.width)) (sym c.as_slice.ensures.value) c.requires.systems

pub levels_of-requires : goal.levels_of-requires
levels_of-requires c =
    let g = c.args.meter.now in
    let h = c.towers_of.new.meter in
    let systems = c.args.systems.items in
    let towers = c.as_slice-2.result.now in
    let are = subst (λ ts. AreTowersOf g c.args.front c.as_slice.result.now ts) (sym c.as_slice-2.ensures.value) c.in_ok-towers.ensures.towers in
    let own = subst (λ ss. AreTowersOf g c.args.front ss towers) c.as_slice.ensures.value are in
    let charged = c.in_ok-towers.ensures.meter in
    record {
      fits = c.requires.fits;
      height = heights g c.args.front c.args.width systems towers own c.requires.systems;
      systems = λ depth low k d inside.
          plain_over_kept h g (sym (bits_of g h charged)) (c.args.front + depth + 1) (get_or (get_or towers k d) (depth + 1) [])
          (plain_on g c.args.front c.args.width systems towers own c.requires.systems depth low k d inside);
    }

pub returns-clause-problem : goal.returns-clause-problem
returns-clause-problem c =
    let g = c.args.meter.now in
    let h = c.towers_of.new.meter in
    let systems = c.args.systems.items in
    let towers = c.as_slice-2.result.now in
    let are = subst (λ ts. AreTowersOf g c.args.front c.as_slice.result.now ts) (sym c.as_slice-2.ensures.value) c.in_ok-towers.ensures.towers in
    let own = subst (λ ss. AreTowersOf g c.args.front ss towers) c.as_slice.ensures.value are in
    let charged = c.in_ok-towers.ensures.meter in
    let levels = c.in_ok-levels.levels.items in
    let told = c.in_ok-levels.ensures in
    subst (IsProblem g) (sym c.new.ensures)
    (problem_made g c.args.front c.args.width systems towers own c.requires.systems levels
    (levels_later g h (bits_of g h charged) c.args.front towers levels told.0) told.1 c.requires.some c.requires.fits)

pub returns-clause-parts : goal.returns-clause-parts
returns-clause-parts c =
    subst (IsProblemOf c.args.front c.args.width c.args.systems.items) (sym c.new.ensures)
    (record { front = refl; systems = refl; width = c.in_ok-levels.ensures.1 })
