use Rattle.std.proofs.Common.{◌≡◌, ◌≢◌, ◌∙◌, [], Some, None, MatchOption, sym, ap, refl, arith}
use Rattle.isl_meter.specs.Gauge.{IsChargedUpTo, IsCutUpTo}
use Rattle.isl_meter.proofs.CutLemmas.{IsCharged_trans}
use Rattle.isl_column.specs.DarkShadow.{IsTakenOut, IsNoDarkShadow}
use Rattle.isl_shadows.specs.Splinters.{splinter_count}
use Rattle.isl_column.specs.Parts.{PartsView, AreUnitsUpTo, IsNoResidue, IsOpenedFrom, most_units, residues_most, residues_least}
use Rattle.isl_column.proofs.PartsLemmas.{alone_taken, same_limit, some_residues_kept, parts_found, parts_opened, parts_ended, spent_in_shadow, cut_in_shadow, cut_in_residue, if_some, least_at_most_residues}
use Rattle.isl_column.proofs.SplinterLemmas.{shadow_kept}
use Rattle.isl_column.proofs.parts.Parts.next.Goals as goal

pub next-requires : goal.next-requires
next-requires c =
    let g = c.args.meter.now in
    let h = c.loop-found.meter in
    let columns = c.args.columns in
    let first = c.args.self.now in
    let now = c.loop-found.self in
    let s = c.loop-found.invariant in
    record { shadow = shadow_kept h g now.column.columns now.column.at now.dark_shadow (sym (same_limit g h s.charged)) s.are.shadow }

pub returns-in_err-found-clause-units : goal.returns-in_err-found-clause-units
returns-in_err-found-clause-units c =
    let g = c.args.meter.now in
    let h = c.loop-found.meter in
    let k = c.next.new.meter in
    let columns = c.args.columns in
    let first = c.args.self.now in
    let now = c.loop-found.self in
    let s = c.loop-found.invariant in
    let e = c.in_err-found.field-0.0 in
    (cut_in_shadow g h k columns first now e s c.in_err-found.ensures.exact).most

pub returns-then-is_some-clause-exact : goal.returns-then-is_some-clause-exact
returns-then-is_some-clause-exact c =
    let g = c.args.meter.now in
    let h = c.loop-found.meter in
    let k = c.next.new.meter in
    let columns = c.args.columns in
    let first = c.args.self.now in
    let now = c.loop-found.self in
    let s = c.loop-found.invariant in
    let found = c.in_ok-found.found in
    let next : PartsView = record { column = now.column; dark_shadow = c.next.new.self; residues = now.residues } in
    let some : found ≢ None = grind arith in
    let own : IsChargedUpTo (splinter_count now.dark_shadow.tails.items) h k = c.in_ok-found.ensures.exact.1 in
    let taken : MatchOption found (IsNoDarkShadow now.column.columns now.column.at now.dark_shadow) (λ rows. IsTakenOut h now.column.columns now.column.at now.dark_shadow rows next.dark_shadow) = c.in_ok-found.ensures.exact.0 in
    let alone : now.dark_shadow.tails.items ≡ [] → found ≡ now.dark_shadow.dark = λ e. (c.in_ok-found.ensures.alone e).0 in
    let all = parts_found g h k columns first now next found s c.requires.parts own.charged taken c.in_ok-found.ensures.units c.in_ok-found.ensures.counted refl refl refl alone some in
    (all.0, all.1)

pub returns-then-is_some-clause-units : goal.returns-then-is_some-clause-units
returns-then-is_some-clause-units c =
    let g = c.args.meter.now in
    let h = c.loop-found.meter in
    let k = c.next.new.meter in
    let columns = c.args.columns in
    let first = c.args.self.now in
    let now = c.loop-found.self in
    let s = c.loop-found.invariant in
    spent_in_shadow g h k columns first now s c.in_ok-found.ensures.exact.1

pub returns-then-is_some-clause-rest : goal.returns-then-is_some-clause-rest
returns-then-is_some-clause-rest c =
    let g = c.args.meter.now in
    let h = c.loop-found.meter in
    let k = c.next.new.meter in
    let columns = c.args.columns in
    let first = c.args.self.now in
    let now = c.loop-found.self in
    let s = c.loop-found.invariant in
    let found = c.in_ok-found.found in
    let next : PartsView = record { column = now.column; dark_shadow = c.next.new.self; residues = now.residues } in
    let some : found ≢ None = grind arith in
    let own : IsChargedUpTo (splinter_count now.dark_shadow.tails.items) h k = c.in_ok-found.ensures.exact.1 in
    let taken : MatchOption found (IsNoDarkShadow now.column.columns now.column.at now.dark_shadow) (λ rows. IsTakenOut h now.column.columns now.column.at now.dark_shadow rows next.dark_shadow) = c.in_ok-found.ensures.exact.0 in
    let alone : now.dark_shadow.tails.items ≡ [] → found ≡ now.dark_shadow.dark = λ e. (c.in_ok-found.ensures.alone e).0 in
    let all = parts_found g h k columns first now next found s c.requires.parts own.charged taken c.in_ok-found.ensures.units c.in_ok-found.ensures.counted refl refl refl alone some in
    if_some found (AreUnitsUpTo (most_units first) g k next) all.2

pub next-requires-in-loop-found : goal.next-requires-in-loop-found
next-requires-in-loop-found c =
    let g = c.args.meter.now in
    let h = c.loop-found.meter in
    let k = c.next.new.meter in
    let columns = c.args.columns in
    let first = c.args.self.now in
    let now = c.loop-found.self in
    let s = c.loop-found.invariant in
    let charged = IsCharged_trans g h k s.charged c.in_ok-found.ensures.exact.1.charged in
    record { residues = some_residues_kept k g now.column.columns now.column.at now.residues (sym (same_limit g k charged)) s.are.residues }

pub returns-in_err-next-clause-units : goal.returns-in_err-next-clause-units
returns-in_err-next-clause-units c =
    let g = c.args.meter.now in
    let h = c.loop-found.meter in
    let k = c.next.new.meter in
    let columns = c.args.columns in
    let first = c.args.self.now in
    let now = c.loop-found.self in
    let s = c.loop-found.invariant in
    let m = c.next-in-loop-found.new.meter in
    let own : IsChargedUpTo (splinter_count now.dark_shadow.tails.items) h k = c.in_ok-found.ensures.exact.1 in
    let e = c.in_err-next.field-0.0 in
    let cut : IsCutUpTo (residues_most now.column.at now.residues) k m e = c.in_err-next.ensures.exact in
    (cut_in_residue g h k m columns first now e s own cut).most

pub returns-in_err-next-clause-magnitude : goal.returns-in_err-next-clause-magnitude
returns-in_err-next-clause-magnitude c =
    λ bits small. absurd (c.in_err-next.ensures.none (c.loop-found.invariant.small small).residues)

pub returns-in-None-clause-exact : goal.returns-in-None-clause-exact
returns-in-None-clause-exact c =
    let g = c.args.meter.now in
    let h = c.loop-found.meter in
    let k = c.next.new.meter in
    let columns = c.args.columns in
    let first = c.args.self.now in
    let now = c.loop-found.self in
    let s = c.loop-found.invariant in
    let m = c.next-in-loop-found.new.meter in
    let own : IsChargedUpTo (splinter_count now.dark_shadow.tails.items) h k = c.in_ok-found.ensures.exact.1 in
    let none : c.in_ok-found.found ≡ None = grind arith in
    let empty : IsNoDarkShadow now.column.columns now.column.at now.dark_shadow = rw none at c.in_ok-found.ensures.exact.0 in
    let no : c.in_ok-next.field-0 ≡ None = grind arith in
    let both = rw no at c.in_ok-next.ensures.exact in
    let left : IsNoResidue now.column.columns now.column.at now.residues = both.0 in
    (parts_ended g h columns first now s empty left, rw both.2 (IsCharged_trans g h k s.charged own.charged))

pub returns-in-None-clause-units : goal.returns-in-None-clause-units
returns-in-None-clause-units c =
    let g = c.args.meter.now in
    let h = c.loop-found.meter in
    let k = c.next.new.meter in
    let columns = c.args.columns in
    let first = c.args.self.now in
    let now = c.loop-found.self in
    let s = c.loop-found.invariant in
    let m = c.next-in-loop-found.new.meter in
    let own : IsChargedUpTo (splinter_count now.dark_shadow.tails.items) h k = c.in_ok-found.ensures.exact.1 in
    let no : c.in_ok-next.field-0 ≡ None = grind arith in
    let both = rw no at c.in_ok-next.ensures.exact in
    rw both.2 (spent_in_shadow g h k columns first now s own)

pub loop-found-preserved : goal.loop-found-preserved
loop-found-preserved c =
    let g = c.args.meter.now in
    let h = c.loop-found.meter in
    let k = c.next.new.meter in
    let columns = c.args.columns in
    let first = c.args.self.now in
    let now = c.loop-found.self in
    let s = c.loop-found.invariant in
    let m = c.next-in-loop-found.new.meter in
    let own : IsChargedUpTo (splinter_count now.dark_shadow.tails.items) h k = c.in_ok-found.ensures.exact.1 in
    let none : c.in_ok-found.found ≡ None = grind arith in
    let empty : IsNoDarkShadow now.column.columns now.column.at now.dark_shadow = rw none at c.in_ok-found.ensures.exact.0 in
    let dark_shadow = c.in-Some.dark_shadow in
    let next : PartsView = record { column = now.column; dark_shadow = dark_shadow; residues = c.next-in-loop-found.new.residues } in
    let yes : c.in_ok-next.field-0 ≡ Some dark_shadow = grind arith in
    let opened : IsOpenedFrom k m now.column.columns now.column.at now.residues dark_shadow next.residues = rw yes at c.in_ok-next.ensures.exact in
    let some : now.residues ≢ None = λ n. let x = c.in_ok-next.ensures.none n in cc in
    parts_opened g h k m columns first now next s empty own opened refl refl some

pub returns-then-is_some-clause-pairs : goal.returns-then-is_some-clause-pairs
returns-then-is_some-clause-pairs c =
    let g = c.args.meter.now in
    let h = c.loop-found.meter in
    let k = c.next.new.meter in
    let columns = c.args.columns in
    let first = c.args.self.now in
    let now = c.loop-found.self in
    let s = c.loop-found.invariant in
    let found = c.in_ok-found.found in
    let next : PartsView = record { column = now.column; dark_shadow = c.next.new.self; residues = now.residues } in
    let some : found ≢ None = grind arith in
    let own : IsChargedUpTo (splinter_count now.dark_shadow.tails.items) h k = c.in_ok-found.ensures.exact.1 in
    let taken : MatchOption found (IsNoDarkShadow now.column.columns now.column.at now.dark_shadow) (λ rows. IsTakenOut h now.column.columns now.column.at now.dark_shadow rows next.dark_shadow) = c.in_ok-found.ensures.exact.0 in
    let alone : now.dark_shadow.tails.items ≡ [] → found ≡ now.dark_shadow.dark = λ e. (c.in_ok-found.ensures.alone e).0 in
    let all = parts_found g h k columns first now next found s c.requires.parts own.charged taken c.in_ok-found.ensures.units c.in_ok-found.ensures.counted refl refl refl alone some in
    all.3

pub returns-in-None-clause-pairs : goal.returns-in-None-clause-pairs
returns-in-None-clause-pairs c =
    let g = c.args.meter.now in
    let h = c.loop-found.meter in
    let k = c.next.new.meter in
    let s = c.loop-found.invariant in
    let now = c.loop-found.self in
    let own : IsChargedUpTo (splinter_count now.dark_shadow.tails.items) h k = c.in_ok-found.ensures.exact.1 in
    let no : c.in_ok-next.field-0 ≡ None = grind arith in
    let both = rw no at c.in_ok-next.ensures.exact in
    let none : residues_least now.residues ≡ 0 = both.1 in
    let before = s.pairs in
    let more = own.charged.units in
    let least = least_at_most_residues now in
    rw both.2 (omega arith)

pub returns-in_err-found-clause-alone : goal.returns-in_err-found-clause-alone
returns-in_err-found-clause-alone c = λ head x.
    let same = c.loop-found.invariant.alone x.residues in
    absurd (c.in_err-found.ensures.alone (ap (λ (p : PartsView). p.dark_shadow.tails.items) same ∙ x.tails))

pub returns-then-is_some-clause-alone : goal.returns-then-is_some-clause-alone
returns-then-is_some-clause-alone c = λ head x.
    let h = c.loop-found.meter in
    let now = c.loop-found.self in
    let s = c.loop-found.invariant in
    let found = c.in_ok-found.found in
    let next : PartsView = record { column = now.column; dark_shadow = c.next.new.self; residues = now.residues } in
    let same : now ≡ c.args.self.now = s.alone x.residues in
    let own = c.in_ok-found.ensures.alone (ap (λ (p : PartsView). p.dark_shadow.tails.items) same ∙ x.tails) in
    let none : next.residues ≡ None = ap (λ (p : PartsView). p.residues) same ∙ x.residues in (
      own.0 ∙ ap (λ (p : PartsView). p.dark_shadow.dark) same ∙ x.head,
      alone_taken h now.column.columns now.column.at now.dark_shadow found next c.in_ok-found.ensures.exact.0 own.1 none,
      own.2 ∙ s.unused x.residues,
    )

pub returns-in_err-next-clause-alone : goal.returns-in_err-next-clause-alone
returns-in_err-next-clause-alone c = λ head x.
    let same = c.loop-found.invariant.alone x.residues in
    absurd (c.in_err-next.ensures.none (ap (λ (p : PartsView). p.residues) same ∙ x.residues))

pub returns-in-None-clause-alone : goal.returns-in-None-clause-alone
returns-in-None-clause-alone c = λ head x.
    let s = c.loop-found.invariant in
    let same = s.alone x.residues in
    let own = c.in_ok-found.ensures.alone (ap (λ (p : PartsView). p.dark_shadow.tails.items) same ∙ x.tails) in
    let none : c.in_ok-found.found ≡ None = grind arith in
    let no : c.in_ok-next.field-0 ≡ None = grind arith in
    let both = rw no at c.in_ok-next.ensures.exact in
    (sym none ∙ own.0 ∙ ap (λ (p : PartsView). p.dark_shadow.dark) same ∙ x.head, tt, both.2 ∙ own.2 ∙ s.unused x.residues)
