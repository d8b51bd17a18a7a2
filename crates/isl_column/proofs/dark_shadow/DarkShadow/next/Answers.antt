use Rattle.std.proofs.Common.{◌≡◌, ◌≢◌, ◌++◌, ◌∷◌, [], Some, None, sym, ◌∙◌, pos, ◌+ℤ◌, ◌≤ℤ◌, ◌<ℤ◌, refl, arith}
use Rattle.isl_math.proofs.Ring.{linear}
use Rattle.isl_meter.specs.declared.Cut.TheVariants.{Overflow}
use Rattle.isl_meter.specs.Gauge.{IsCutUpTo}
use Rattle.isl_meter.proofs.UnitLemmas.{charged_same, charged_weaker}
use Rattle.isl_shadows.specs.Splinters.{splinter_count}
use Rattle.isl_column.specs.DarkShadow.{IsSmallDarkShadow}
use Rattle.isl_column.specs.declared.dark_shadow.DarkShadow.{DarkShadow}
use Rattle.isl_column.proofs.SplinterLemmas.{IsPopped, IsBuilt, taken_dark, popped_tail, popped_small, popped_fewer, so_far_skipped, built_kept, built_none, built_found, built_charged, built_cut, built_fewer}
use Rattle.isl_shadows.proofs.SplinterLemmas.{no_end, same_bits, tail_at, total_not_negative, any_some}
use Rattle.isl_column.proofs.dark_shadow.DarkShadow.next.Goals as goal

pub returns-in-Some-clause-exact : goal.returns-in-Some-clause-exact
returns-in-Some-clause-exact c =
    let g = c.args.meter.now in
    let old = c.args.self.now in
    let new : DarkShadow = record { rows = old.rows; dark = c.take.new.self; tails = old.tails } in
    let some : old.dark ≡ Some c.in-Some.rows = grind arith in
    let none : c.take.new.self ≡ None = grind arith in (
      taken_dark g c.args.column.columns c.args.column.at old new c.in-Some.rows c.requires.shadow some none refl refl,
      charged_weaker (pos 0) (splinter_count old.tails.items) g g (total_not_negative g c.args.column.columns c.args.column.at old.tails.items c.requires.shadow.tails) (charged_same g g refl),
    )

pub split-requires-clause-tail : goal.split-requires-clause-tail
split-requires-clause-tail c =
    let g = c.args.meter.now in
    let h = c.loop-tail.meter in
    let first = c.args.self.now in
    let now = c.loop-tail.self in
    let tail = c.in-Some-pop.tail in
    let rest : DarkShadow = record { rows = now.rows; dark = now.dark; tails = c.pop.new.self } in
    let tails : now.tails.items ≡ c.pop.new.self.items ++ tail ∷ [] = grind arith in
    let popped : IsPopped now tail rest = record { rows = refl; dark = c.loop-tail.invariant.kept.dark; tails = tails } in
    let s = c.loop-tail.invariant.kept in
    tail_at h g c.args.column.columns c.args.column.at tail (sym (same_bits g h s.charged)) (popped_tail g c.args.column.columns c.args.column.at now tail rest s.are popped).0

pub returns-in_err-left-clause-exact : goal.returns-in_err-left-clause-exact
returns-in_err-left-clause-exact c =
    let g = c.args.meter.now in
    let h = c.loop-tail.meter in
    let first = c.args.self.now in
    let now = c.loop-tail.self in
    let tail = c.in-Some-pop.tail in
    let rest : DarkShadow = record { rows = now.rows; dark = now.dark; tails = c.pop.new.self } in
    let tails : now.tails.items ≡ c.pop.new.self.items ++ tail ∷ [] = grind arith in
    let popped : IsPopped now tail rest = record { rows = refl; dark = c.loop-tail.invariant.kept.dark; tails = tails } in
    let k = c.split.new.meter in
    let e = c.in_err-left.field-0.0 in
    let some : pos 0 ≤ℤ tail.last = grind (arith, linear) in
    let own : IsCutUpTo (pos 1) h k e = grind arith in
    let cut = built_cut g h k c.args.column.columns c.args.column.at first now tail rest e c.loop-tail.invariant popped some own in
    grind arith

pub returns-in_err-left-clause-no_overflow : goal.returns-in_err-left-clause-no_overflow
returns-in_err-left-clause-no_overflow c = λ bits small.
    let g = c.args.meter.now in
    let h = c.loop-tail.meter in
    let first = c.args.self.now in
    let now = c.loop-tail.self in
    let tail = c.in-Some-pop.tail in
    let rest : DarkShadow = record { rows = now.rows; dark = now.dark; tails = c.pop.new.self } in
    let tails : now.tails.items ≡ c.pop.new.self.items ++ tail ∷ [] = grind arith in
    let popped : IsPopped now tail rest = record { rows = refl; dark = c.loop-tail.invariant.kept.dark; tails = tails } in
    let some : pos 0 ≤ℤ tail.last = grind (arith, linear) in
    let both = popped_small now tail rest popped (c.loop-tail.invariant.kept.small small) in
    let fact : c.in_err-left.field-0.0 ≢ Overflow = c.in_err-left.ensures.no_overflow (same_bits g h c.loop-tail.invariant.kept.charged ∙ bits) both.0.rows both.1 some in
    grind arith

pub returns-then-is_some-clause-exact : goal.returns-then-is_some-clause-exact
returns-then-is_some-clause-exact c =
    let g = c.args.meter.now in
    let h = c.loop-tail.meter in
    let k = c.split.new.meter in
    let first = c.args.self.now in
    let now = c.loop-tail.self in
    let tail = c.in-Some-pop.tail in
    let next = c.split.new.self in
    let left = c.in_ok-left.left in
    let rest : DarkShadow = record { rows = now.rows; dark = now.dark; tails = c.pop.new.self } in
    let tails : now.tails.items ≡ c.pop.new.self.items ++ tail ∷ [] = grind arith in
    let some : pos 0 ≤ℤ tail.last = grind (arith, linear) in
    let built : IsBuilt g h k c.args.column.columns c.args.column.at first now tail rest next left = record {
      so_far = c.loop-tail.invariant;
      popped = record { rows = refl; dark = c.loop-tail.invariant.kept.dark; tails = tails };
      some = some;
      split = c.in_ok-left.ensures.exact.0.1;
      within = c.in_ok-left.ensures.exact.0.2;
      left = c.in_ok-left.ensures.exact.0.0;
      charged = c.in_ok-left.ensures.exact.1;
    } in
    let found : left ≢ None = grind arith in
    (built_found g h k c.args.column.columns c.args.column.at first now tail rest next left built found, built_charged g h k c.args.column.columns c.args.column.at first now tail rest next left built)

pub returns-then-is_some-clause-units : goal.returns-then-is_some-clause-units
returns-then-is_some-clause-units c =
    let g = c.args.meter.now in
    let h = c.loop-tail.meter in
    let k = c.split.new.meter in
    let first = c.args.self.now in
    let now = c.loop-tail.self in
    let tail = c.in-Some-pop.tail in
    let next = c.split.new.self in
    let left = c.in_ok-left.left in
    let rest : DarkShadow = record { rows = now.rows; dark = now.dark; tails = c.pop.new.self } in
    let tails : now.tails.items ≡ c.pop.new.self.items ++ tail ∷ [] = grind arith in
    let some : pos 0 ≤ℤ tail.last = grind (arith, linear) in
    let built : IsBuilt g h k c.args.column.columns c.args.column.at first now tail rest next left = record {
      so_far = c.loop-tail.invariant;
      popped = record { rows = refl; dark = c.loop-tail.invariant.kept.dark; tails = tails };
      some = some;
      split = c.in_ok-left.ensures.exact.0.1;
      within = c.in_ok-left.ensures.exact.0.2;
      left = c.in_ok-left.ensures.exact.0.0;
      charged = c.in_ok-left.ensures.exact.1;
    } in
    any_some left ((pos k.units +ℤ splinter_count next.tails.items) ≤ℤ (pos g.units +ℤ splinter_count first.tails.items)) (built_kept g h k c.args.column.columns c.args.column.at first now tail rest next left built).units

pub returns-then-is_some-clause-no_overflow : goal.returns-then-is_some-clause-no_overflow
returns-then-is_some-clause-no_overflow c = λ bits small.
    let g = c.args.meter.now in
    let h = c.loop-tail.meter in
    let k = c.split.new.meter in
    let first = c.args.self.now in
    let now = c.loop-tail.self in
    let tail = c.in-Some-pop.tail in
    let next = c.split.new.self in
    let left = c.in_ok-left.left in
    let rest : DarkShadow = record { rows = now.rows; dark = now.dark; tails = c.pop.new.self } in
    let tails : now.tails.items ≡ c.pop.new.self.items ++ tail ∷ [] = grind arith in
    let some : pos 0 ≤ℤ tail.last = grind (arith, linear) in
    let built : IsBuilt g h k c.args.column.columns c.args.column.at first now tail rest next left = record {
      so_far = c.loop-tail.invariant;
      popped = record { rows = refl; dark = c.loop-tail.invariant.kept.dark; tails = tails };
      some = some;
      split = c.in_ok-left.ensures.exact.0.1;
      within = c.in_ok-left.ensures.exact.0.2;
      left = c.in_ok-left.ensures.exact.0.0;
      charged = c.in_ok-left.ensures.exact.1;
    } in
    any_some left (IsSmallDarkShadow next) ((built_kept g h k c.args.column.columns c.args.column.at first now tail rest next left built).small small)

pub loop-tail-smaller-else-is_some-2 : goal.loop-tail-smaller-else-is_some-2
loop-tail-smaller-else-is_some-2 c =
    let g = c.args.meter.now in
    let h = c.loop-tail.meter in
    let k = c.split.new.meter in
    let first = c.args.self.now in
    let now = c.loop-tail.self in
    let tail = c.in-Some-pop.tail in
    let next = c.split.new.self in
    let left = c.in_ok-left.left in
    let rest : DarkShadow = record { rows = now.rows; dark = now.dark; tails = c.pop.new.self } in
    let tails : now.tails.items ≡ c.pop.new.self.items ++ tail ∷ [] = grind arith in
    let some : pos 0 ≤ℤ tail.last = grind (arith, linear) in
    let built : IsBuilt g h k c.args.column.columns c.args.column.at first now tail rest next left = record {
      so_far = c.loop-tail.invariant;
      popped = record { rows = refl; dark = c.loop-tail.invariant.kept.dark; tails = tails };
      some = some;
      split = c.in_ok-left.ensures.exact.0.1;
      within = c.in_ok-left.ensures.exact.0.2;
      left = c.in_ok-left.ensures.exact.0.0;
      charged = c.in_ok-left.ensures.exact.1;
    } in
    built_fewer g h k c.args.column.columns c.args.column.at first now tail rest next left built

pub loop-tail-preserved-else-is_some-2 : goal.loop-tail-preserved-else-is_some-2
loop-tail-preserved-else-is_some-2 c =
    let g = c.args.meter.now in
    let h = c.loop-tail.meter in
    let k = c.split.new.meter in
    let first = c.args.self.now in
    let now = c.loop-tail.self in
    let tail = c.in-Some-pop.tail in
    let next = c.split.new.self in
    let left = c.in_ok-left.left in
    let rest : DarkShadow = record { rows = now.rows; dark = now.dark; tails = c.pop.new.self } in
    let tails : now.tails.items ≡ c.pop.new.self.items ++ tail ∷ [] = grind arith in
    let some : pos 0 ≤ℤ tail.last = grind (arith, linear) in
    let built : IsBuilt g h k c.args.column.columns c.args.column.at first now tail rest next left = record {
      so_far = c.loop-tail.invariant;
      popped = record { rows = refl; dark = c.loop-tail.invariant.kept.dark; tails = tails };
      some = some;
      split = c.in_ok-left.ensures.exact.0.1;
      within = c.in_ok-left.ensures.exact.0.2;
      left = c.in_ok-left.ensures.exact.0.0;
      charged = c.in_ok-left.ensures.exact.1;
    } in
    let none : left ≡ None = grind arith in
    built_none g h k c.args.column.columns c.args.column.at first now tail rest next (rw none at built)

pub loop-tail-smaller-else-not-is_negative : goal.loop-tail-smaller-else-not-is_negative
loop-tail-smaller-else-not-is_negative c =
    let g = c.args.meter.now in
    let h = c.loop-tail.meter in
    let first = c.args.self.now in
    let now = c.loop-tail.self in
    let tail = c.in-Some-pop.tail in
    let rest : DarkShadow = record { rows = now.rows; dark = now.dark; tails = c.pop.new.self } in
    let tails : now.tails.items ≡ c.pop.new.self.items ++ tail ∷ [] = grind arith in
    let popped : IsPopped now tail rest = record { rows = refl; dark = c.loop-tail.invariant.kept.dark; tails = tails } in
    let below : tail.last <ℤ pos 0 = grind (arith, linear) in
    popped_fewer g h c.args.column.columns c.args.column.at first now tail rest c.loop-tail.invariant popped below

pub loop-tail-preserved-else-not-is_negative : goal.loop-tail-preserved-else-not-is_negative
loop-tail-preserved-else-not-is_negative c =
    let g = c.args.meter.now in
    let h = c.loop-tail.meter in
    let first = c.args.self.now in
    let now = c.loop-tail.self in
    let tail = c.in-Some-pop.tail in
    let rest : DarkShadow = record { rows = now.rows; dark = now.dark; tails = c.pop.new.self } in
    let tails : now.tails.items ≡ c.pop.new.self.items ++ tail ∷ [] = grind arith in
    let popped : IsPopped now tail rest = record { rows = refl; dark = c.loop-tail.invariant.kept.dark; tails = tails } in
    let below : tail.last <ℤ pos 0 = grind (arith, linear) in
    so_far_skipped g h c.args.column.columns c.args.column.at first now tail rest c.loop-tail.invariant popped below

pub loop-tail-smaller : goal.loop-tail-smaller
loop-tail-smaller c =
    let g = c.args.meter.now in
    let h = c.loop-tail.meter in
    let first = c.args.self.now in
    let now = c.loop-tail.self in
    let tail = c.in-Some-pop.tail in
    let rest : DarkShadow = record { rows = now.rows; dark = now.dark; tails = c.pop.new.self } in
    let tails : now.tails.items ≡ c.pop.new.self.items ++ tail ∷ [] = grind arith in
    let popped : IsPopped now tail rest = record { rows = refl; dark = c.loop-tail.invariant.kept.dark; tails = tails } in
    let below : tail.last <ℤ pos 0 = grind (arith, linear) in
    popped_fewer g h c.args.column.columns c.args.column.at first now tail rest c.loop-tail.invariant popped below

pub loop-tail-preserved : goal.loop-tail-preserved
loop-tail-preserved c =
    let g = c.args.meter.now in
    let h = c.loop-tail.meter in
    let first = c.args.self.now in
    let now = c.loop-tail.self in
    let tail = c.in-Some-pop.tail in
    let rest : DarkShadow = record { rows = now.rows; dark = now.dark; tails = c.pop.new.self } in
    let tails : now.tails.items ≡ c.pop.new.self.items ++ tail ∷ [] = grind arith in
    let popped : IsPopped now tail rest = record { rows = refl; dark = c.loop-tail.invariant.kept.dark; tails = tails } in
    let below : tail.last <ℤ pos 0 = grind (arith, linear) in
    so_far_skipped g h c.args.column.columns c.args.column.at first now tail rest c.loop-tail.invariant popped below

pub returns-in_err-left-clause-alone : goal.returns-in_err-left-clause-alone
returns-in_err-left-clause-alone c = λ none.
    let now = c.loop-tail.self in
    let tail = c.in-Some-pop.tail in
    let tails : now.tails.items ≡ c.pop.new.self.items ++ tail ∷ [] = grind arith in
    absurd (no_end c.pop.new.self.items tail (sym (c.loop-tail.invariant.kept.alone none) ∙ tails))

pub returns-then-is_some-clause-alone : goal.returns-then-is_some-clause-alone
returns-then-is_some-clause-alone c = λ none.
    let now = c.loop-tail.self in
    let tail = c.in-Some-pop.tail in
    let tails : now.tails.items ≡ c.pop.new.self.items ++ tail ∷ [] = grind arith in
    absurd (no_end c.pop.new.self.items tail (sym (c.loop-tail.invariant.kept.alone none) ∙ tails))
