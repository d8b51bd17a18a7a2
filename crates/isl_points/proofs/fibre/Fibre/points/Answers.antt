use Rattle.std.proofs.Common.{List, subst, sym}
use Rattle.std.proofs.lemmas.Result.{IfOk-weaker}
use Rattle.isl_piece.specs.declared.system.System.{System}
use Rattle.isl_tower.specs.Numbers.{system_at}
use Rattle.isl_tower.specs.Tower.{IsTowerOf}
use Rattle.isl_points.specs.Fibre.{AreLevelsWithin, IsFibreOf}
use Rattle.isl_points.specs.Points.{ArePointsAt}
use Rattle.isl_points.proofs.FibreLaws.{points_found}
use Rattle.isl_points.proofs.fibre.Fibre.points.Goals as goal

pub points_of-requires : goal.points_of-requires
points_of-requires c = record {
  levels = subst (AreLevelsWithin c.args.meter.now) (sym c.self.view_is) c.requires.2.sound;
  tower = subst (λ (levels : List (List System)). (s : System) × IsTowerOf s 0 levels) (sym c.self.view_is)
      (system_at c.requires.1 c.requires.0, c.requires.2.tower);
}

pub returns-clause-listed : goal.returns-clause-listed
returns-clause-listed c = λ s numbers fibre.
    let own : IsFibreOf c.args.meter.now s numbers c.self.inside.tower =
    subst (λ (levels : List (List System)). IsFibreOf c.args.meter.now s numbers levels) (sym c.self.view_is) fibre in
    IfOk-weaker c.points_of.result _ (ArePointsAt s numbers)
    (λ points are. points_found c.args.meter.now s numbers c.self.inside.tower points own (are (system_at numbers s) own.tower))
    c.points_of.ensures.exact
