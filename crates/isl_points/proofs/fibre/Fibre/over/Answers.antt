use Rattle.std.proofs.Common.{◌≡◌, ap, arith, false, refl, subst, true}
use Rattle.isl_meter.specs.Gauge.{Gauge}
use Rattle.isl_piece.specs.declared.system.System.{System}
use Rattle.isl_tower.specs.Bounded.{IsBounded}
use Rattle.isl_tower.specs.Numbers.{system_at}
use Rattle.isl_tower.specs.Tower.{IsTowerOf}
use Rattle.isl_tower.proofs.ClosedLaws.{not_true}
use Rattle.isl_tower.proofs.NumberLaws.{bounded_at}
use Rattle.isl_points.proofs.FibreLaws.{levels_within}
use Rattle.isl_points.proofs.fibre.Fibre.over.Goals as goal

pub returns-then-not-branch-clause-infinite : goal.returns-then-not-branch-clause-infinite
returns-then-not-branch-clause-infinite c =
    let s = c.args.system.now in
    let numbers = c.args.numbers.now in
    let t : IsTowerOf (system_at numbers s) 0 c.in_ok-tower.tower = subst (λ (l : System). IsTowerOf l 0 c.in_ok-tower.tower)
    c.in_ok-left.ensures.exact.0 c.in_ok-tower.ensures.tower in
    let at = bounded_at c.args.meter.now numbers s c.requires.well_formed c.requires.plain c.requires.numbers_in in
    let no : c.in_ok-is_bounded.field-0 ≡ false = grind arith in (
      (λ e b. not_true c.in_ok-is_bounded.field-0 no ((c.in_ok-is_bounded.ensures.exact (system_at numbers s) 0 t).1 (at.1 b))),
      (λ n. refl),
    )

pub returns-clause-found : goal.returns-clause-found
returns-clause-found c =
    let g = c.args.meter.now in
    let s = c.args.system.now in
    let numbers = c.args.numbers.now in
    let levels = c.in_ok-tower.tower in
    let t : IsTowerOf (system_at numbers s) 0 levels = subst (λ (l : System). IsTowerOf l 0 levels)
    c.in_ok-left.ensures.exact.0 c.in_ok-tower.ensures.tower in
    let yes : c.in_ok-is_bounded.field-0 ≡ true = grind arith in
    let bounded : IsBounded (system_at numbers s) 0 = (c.in_ok-is_bounded.ensures.exact (system_at numbers s) 0 t).0 yes in
    record {
      within = c.requires.well_formed;
      plain = c.requires.plain;
      numbers_in = c.requires.numbers_in;
      tower = t;
      sound = levels_within c.system_at.new.meter g (system_at numbers s) levels (ap (λ (m : Gauge). m.bits) c.in_ok-left.ensures.exact.2) t
          c.in_ok-tower.ensures.within c.in_ok-tower.ensures.plain c.in_ok-tower.ensures.normal bounded;
    }

pub returns-clause-infinite : goal.returns-clause-infinite
returns-clause-infinite c =
    let s = c.args.system.now in
    let numbers = c.args.numbers.now in
    let t : IsTowerOf (system_at numbers s) 0 c.in_ok-tower.tower = subst (λ (l : System). IsTowerOf l 0 c.in_ok-tower.tower)
    c.in_ok-left.ensures.exact.0 c.in_ok-tower.ensures.tower in
    let at = bounded_at c.args.meter.now numbers s c.requires.well_formed c.requires.plain c.requires.numbers_in in
    let yes : c.in_ok-is_bounded.field-0 ≡ true = grind arith in (
      (λ e. absurd (by e)),
      (λ n. absurd (n (at.0 ((c.in_ok-is_bounded.ensures.exact (system_at numbers s) 0 t).0 yes)))),
    )
  where
    by : true ≡ false → ⊥
    by e = cc
