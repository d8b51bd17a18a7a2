use Rattle.std.proofs.Common.{subst, sym, All}
use Rattle.std.specs.Prelude.{◌↔◌, IsTrue}
use Rattle.std.proofs.lemmas.Result.{IfOk-weaker}
use Rattle.isl_piece.specs.System.{IsSystemWithin}
use Rattle.isl_elim.specs.Flatten.{IsFlattening}
use Rattle.isl_union.specs.Front.{front_width, IsBoundedBehind}
use Rattle.isl_union.proofs.BoundedLaws.{flat_behind, flat_wide, systems_later, told}
use Rattle.isl_union.proofs.bounded.is_system_bounded.Goals as goal

pub are_bounded-requires : goal.are_bounded-requires
are_bounded-requires c =
    let s = c.args.system.now in
    let same = sym c.as_slice.ensures.value in
    let flat = subst (IsFlattening s) same c.in_ok-systems.ensures.exact in
    let systems = c.as_slice.result.now in
    let h = c.flatten.new.meter in
    record {
      within = systems_later c.args.meter.now h systems c.in_ok-systems.ensures.meter
          (subst (All (IsSystemWithin c.args.meter.now)) same c.in_ok-systems.ensures.within);
      plain = flat.definitions;
      columns = flat_wide s systems flat (front_width c.args.front.now) c.requires.columns;
    }

pub returns-clause-exact : goal.returns-clause-exact
returns-clause-exact c =
    let s = c.args.system.now in
    let systems = c.as_slice.result.now in
    let front = c.args.front.now in
    let flat = subst (IsFlattening s) (sym c.as_slice.ensures.value) c.in_ok-systems.ensures.exact in
    let each = All (IsBoundedBehind front) systems in
    let whole = IsBoundedBehind front s in
    IfOk-weaker c.are_bounded.result (λ b. IsTrue b ↔ each) (λ b. IsTrue b ↔ whole)
    (λ b h. told each whole b (flat_behind s systems flat front) h) c.are_bounded.ensures.exact
