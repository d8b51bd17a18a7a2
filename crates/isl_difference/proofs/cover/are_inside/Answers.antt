use Rattle.std.proofs.Common.{◌≡◌, ◌+◌, ◌*◌, ◌<◌, ◌≤◌, ◌∙◌, [], ◌∷◌, refl, sym, arith, true, false, length, take}
use Rattle.std.proofs.lemmas.Grind.{common_steps}
use Rattle.std.proofs.lemmas.List.{take_all}
use Rattle.std.proofs.lemmas.List.Elements.{All-nil}
use Rattle.std.proofs.lemmas.Result.{err_from_is_err_and}
use Rattle.isl_meter.specs.Gauge.{IsCharged}
use Rattle.isl_meter.proofs.CutLemmas.{IsCharged_refl, IsCharged_trans}
use Rattle.isl_piece.specs.System.{free_columns}
use Rattle.isl_ledger.specs.Difference.{IsDifferenceSystem}
use Rattle.isl_elim.proofs.PartsLaws.{charged_bits}
use Rattle.isl_difference.specs.Difference.{IsCovered}
use Rattle.isl_difference.specs.Tame.{part_limit, test_work}
use Rattle.isl_difference.proofs.CoverLaws.{all_inside, inside_more, one_outside}
use Rattle.isl_difference.proofs.DifferenceLaws.{system_at, system_within}
use Rattle.isl_difference.proofs.SplitLaws.{charged_within, turn_within}
use Rattle.isl_difference.proofs.TameLaws.{taken_next, taken_turn, tame_cut, tame_ok}
use Rattle.isl_difference.proofs.cover.are_inside.Goals as goal

pub is_inside-requires-clause-within : goal.is_inside-requires-clause-within
is_inside-requires-clause-within c =
    let systems = c.args.systems.now in
    let i = c.loop-system.system-index in
    let inside : i < length systems = grind (arith, common_steps) in
    system_within c.args.meter.now c.loop-system.meter systems i c.system-item.result c.loop-system.invariant.charged c.requires.within inside
    c.system-item.is

pub is_inside-requires-clause-other_within : goal.is_inside-requires-clause-other_within
is_inside-requires-clause-other_within c =
    charged_within c.args.meter.now c.loop-system.meter c.args.other.now c.loop-system.invariant.charged c.requires.other_within

pub is_inside-requires-clause-columns : goal.is_inside-requires-clause-columns
is_inside-requires-clause-columns c =
    let systems = c.args.systems.now in
    let i = c.loop-system.system-index in
    let inside : i < length systems = grind (arith, common_steps) in
    sym (system_at (λ t. free_columns t ≡ free_columns c.args.other.now) systems i c.system-item.result c.requires.columns inside
    c.system-item.is)

pub loop-system-init : goal.loop-system-init
loop-system-init c =
    let g = c.args.meter.now in
    record {
      covered = All-nil (λ s. IsCovered s (c.args.other.now ∷ []));
      charged = IsCharged_refl g g refl;
      tame = λ columns bits limit room all o few. omega arith;
    }

pub loop-system-preserved : goal.loop-system-preserved
loop-system-preserved c =
    let g = c.args.meter.now in
    let h = c.loop-system.meter in
    let k = c.is_inside.new.meter in
    let systems = c.args.systems.now in
    let i = c.loop-system.system-index in
    let s = c.system-item.result in
    let answer = c.in_ok-is_inside.field-0 in
    let inside : i < length systems = grind (arith, common_steps) in
    let yes : answer ≡ true = grind (arith, common_steps) in
    let charged : IsCharged h k = grind arith in
    record {
      covered = inside_more systems c.args.other.now i s answer inside c.system-item.is c.in_ok-is_inside.ensures.exact yes
          c.loop-system.invariant.covered;
      charged = IsCharged_trans g h k c.loop-system.invariant.charged charged;
      tame = λ columns bits limit room all o few.
          let so = c.loop-system.invariant.tame columns bits limit room all o few in
          let own = system_at (IsDifferenceSystem columns (bits + 1)) systems i s all inside c.system-item.is in
          let limit_then = charged_bits g h c.loop-system.invariant.charged ∙ limit in
          let asked = c.in_ok-is_inside.ensures.tame columns bits limit_then room own o few in
          taken_next i systems (part_limit columns 1 * test_work columns) g h k inside so asked.within.units;
    }

pub returns-then-not-branch-clause-exact : goal.returns-then-not-branch-clause-exact
returns-then-not-branch-clause-exact c =
    let systems = c.args.systems.now in
    let i = c.loop-system.system-index in
    let answer = c.in_ok-is_inside.field-0 in
    let inside : i < length systems = grind (arith, common_steps) in
    let no : answer ≡ false = grind (arith, common_steps) in
    one_outside systems c.args.other.now i c.system-item.result answer inside c.system-item.is c.in_ok-is_inside.ensures.exact no

pub returns-clause-exact : goal.returns-clause-exact
returns-clause-exact c =
    let systems = c.args.systems.now in
    let i = c.loop-system.system-index in
    let end : length systems ≤ i = grind (arith, common_steps) in
    all_inside systems c.args.other.now i end c.loop-system.invariant.covered

pub returns-in_err-is_inside-clause-tame : goal.returns-in_err-is_inside-clause-tame
returns-in_err-is_inside-clause-tame c = λ columns bits limit room all o few.
    let g = c.args.meter.now in
    let h = c.loop-system.meter in
    let systems = c.args.systems.now in
    let i = c.loop-system.system-index in
    let s = c.system-item.result in
    let work = part_limit columns 1 * test_work columns in
    let used = length (take i systems) * work in
    let inside : i < length systems = grind (arith, common_steps) in
    let so = c.loop-system.invariant.tame columns bits limit room all o few in
    let turn = taken_turn i systems work inside in
    let limit_then = charged_bits g h c.loop-system.invariant.charged ∙ limit in
    let own = system_at (IsDifferenceSystem columns (bits + 1)) systems i s all inside c.system-item.is in
    let cut = c.in_err-is_inside.ensures.tame columns bits limit_then room own o few in
    let error = err_from_is_err_and c.from_residual.result c.from_residual.ensures.1 in
    rw (error.1, error.2) (tame_cut used work (length systems * work) g h c.is_inside.new.meter _ _ c.in_err-is_inside.field-0.0
    c.loop-system.invariant.charged so turn cut)

pub returns-then-not-branch-clause-tame : goal.returns-then-not-branch-clause-tame
returns-then-not-branch-clause-tame c = λ columns bits limit room all o few.
    let g = c.args.meter.now in
    let h = c.loop-system.meter in
    let systems = c.args.systems.now in
    let i = c.loop-system.system-index in
    let s = c.system-item.result in
    let work = part_limit columns 1 * test_work columns in
    let used = length (take i systems) * work in
    let inside : i < length systems = grind (arith, common_steps) in
    let so = c.loop-system.invariant.tame columns bits limit room all o few in
    let turn = taken_turn i systems work inside in
    let limit_then = charged_bits g h c.loop-system.invariant.charged ∙ limit in
    let own = system_at (IsDifferenceSystem columns (bits + 1)) systems i s all inside c.system-item.is in
    let asked = c.in_ok-is_inside.ensures.tame columns bits limit_then room own o few in
    tame_ok (length systems * work) g c.is_inside.new.meter _ _
    (turn_within used work (length systems * work) g h c.is_inside.new.meter so asked.within.units turn) tt

pub returns-clause-tame : goal.returns-clause-tame
returns-clause-tame c = λ columns bits limit room all o few.
    let systems = c.args.systems.now in
    let i = c.loop-system.system-index in
    let end : length systems ≤ i = grind (arith, common_steps) in
    let so = rw (take_all i systems end) at (c.loop-system.invariant.tame columns bits limit room all o few) in
    tame_ok (length systems * (part_limit columns 1 * test_work columns)) c.args.meter.now c.loop-system.meter _ _ so tt
