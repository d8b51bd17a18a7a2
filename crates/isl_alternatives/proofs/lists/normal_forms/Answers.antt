use Rattle.std.proofs.Common.{◌≡◌, ◌∙◌, ◌∷◌, ◌++◌, [], arith, sym}
use Rattle.std.specs.Prelude.{Some}
use Rattle.std.specs.List.{All}
use Rattle.std.proofs.lemmas.Grind.{common_steps}
use Rattle.std.proofs.lemmas.List.{append-nil}
use Rattle.std.proofs.lemmas.List.Elements.{All-append, All-cons, All-nil}
use Rattle.isl_meter.specs.Gauge.{IsCharged}
use Rattle.isl_meter.proofs.CutLemmas.{IsCharged_refl}
use Rattle.isl_piece.specs.declared.system.System.{System}
use Rattle.isl_piece.specs.Normal.{IsNormal, normal_system}
use Rattle.isl_alternatives.proofs.RestrictedLaws.{done_more, done_over, normal_formed, normal_left_out}
use Rattle.isl_alternatives.proofs.lists.normal_forms.Goals as goal

pub normalise-requires : goal.normalise-requires
normalise-requires c =
    let before = c.loop-system.system-iterator.rest.items in
    let rest = c.next.new.self.rest.items in
    let next : before ≡ c.in-Some.system ∷ rest = grind arith in
    (done_over c.args.meter.now c.loop-system.meter c.args.scope.now c.args.systems.items before rest c.in-Some.system
    (λ point env. Unit {0})
    c.loop-system.forms.items next c.loop-system.invariant.done c.requires.over).within

pub loop-system-preserved-in-Continue-branch-2 : goal.loop-system-preserved-in-Continue-branch-2
loop-system-preserved-in-Continue-branch-2 c =
    let g = c.args.meter.now in
    let h = c.loop-system.meter in
    let k = c.normalise.new.meter in
    let scope = c.args.scope.now in
    let all = c.args.systems.items in
    let before = c.loop-system.system-iterator.rest.items in
    let rest = c.next.new.self.rest.items in
    let s = c.in-Some.system in
    let form = c.in-Some-found.form in
    let next : before ≡ s ∷ rest = grind arith in
    let forms = c.loop-system.forms.items in
    let so_far = c.loop-system.invariant in
    let over = done_over g h scope all before rest s (λ point env. Unit {0}) forms next so_far.done c.requires.over in
    let pushed : c.push.new.self.items ≡ forms ++ form ∷ [] = grind (arith, common_steps) in
    let told = c.in_ok-found.ensures in
    let is : Some form ≡ normal_system s = sym c.in-Some-found.is ∙ told.exact in
    let same = rw c.in-Some-found.is at told.points in
    let within = rw c.in-Some-found.is at told.within in
    let normal = rw c.in-Some-found.is at told.normal in
    let charged : IsCharged h k = IsCharged_refl h k told.meter in
    let N : System → Type 0 = λ t. IsNormal t.rows in
    record {
      done = done_more g h k scope all before rest s (λ point env. Unit {0}) forms (form ∷ []) c.push.new.self.items next pushed so_far.done
          (normal_formed h k scope s form over charged is within same);
      normal = rw pushed (All-append N forms (form ∷ []) so_far.normal (All-cons N form [] normal (All-nil N)));
      meter = told.meter ∙ so_far.meter;
    }

pub loop-system-preserved : goal.loop-system-preserved
loop-system-preserved c =
    let g = c.args.meter.now in
    let h = c.loop-system.meter in
    let k = c.normalise.new.meter in
    let scope = c.args.scope.now in
    let all = c.args.systems.items in
    let before = c.loop-system.system-iterator.rest.items in
    let rest = c.next.new.self.rest.items in
    let s = c.in-Some.system in
    let next : before ≡ s ∷ rest = grind arith in
    let forms = c.loop-system.forms.items in
    let so_far = c.loop-system.invariant in
    let over = done_over g h scope all before rest s (λ point env. Unit {0}) forms next so_far.done c.requires.over in
    let told = c.in_ok-found.ensures in
    let nowhere = rw c.in_default.is at told.points in
    let charged : IsCharged h k = IsCharged_refl h k told.meter in
    record {
      done = done_more g h k scope all before rest s (λ point env. Unit {0}) forms [] forms next (sym (append-nil forms)) so_far.done
          (normal_left_out h k scope s over charged nowhere);
      normal = so_far.normal;
      meter = told.meter ∙ so_far.meter;
    }
