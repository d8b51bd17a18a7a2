use Rattle.std.proofs.Common.{◌≡◌, ◌↔◌, ◌++◌, sym, ap, ◌∙◌, arith, subst, false, true, ℤ, List, Some}
use Rattle.std.specs.List.{All}
use Rattle.std.proofs.lemmas.Bool.{false≢true}
use Rattle.std.proofs.lemmas.Grind.{common_steps}
use Rattle.isl_meter.proofs.CutLemmas.{IsCharged_trans}
use Rattle.isl_piece.specs.Normal.{normal_rows, IsNormal}
use Rattle.isl_piece.specs.Row.{HasModulus, IsRowWithin, IsWellFormed}
use Rattle.isl_piece.specs.declared.system.System.{System}
use Rattle.isl_piece.specs.System.{HoldRows, HoldsSystem}
use Rattle.isl_piece.proofs.RowMagnitudes.{rows_within_kept}
use Rattle.isl_union.proofs.MeetSteps.{charged_bits}
use Rattle.isl_elim.specs.Sample.{IsNowhere}
use Rattle.isl_assumed.specs.declared.assumed.Assumed.{Assumed}
use Rattle.isl_coalesce.specs.Found.{IsJointSystem, IsKnown, IsKnownOf, IsPlain}
use Rattle.isl_coalesce.proofs.KnownLaws.{known_later, plain_after}
use Rattle.isl_coalesce.proofs.JointLaws.{both_formed, both_moduli, both_within, covered_joint, empty_unjoined, joint_live, plain_over}
use Rattle.isl_coalesce.proofs.JointLaws.{uncovered_unjoined}
use Rattle.isl_coalesce.proofs.joint.joint_system.Goals as goal

pub parts-requires-2-clause-known : goal.parts-requires-2-clause-known
parts-requires-2-clause-known c =
    known_later c.args.meter.now c.parts.new.meter c.args.first.now.columns c.args.known.now c.in_ok-rows.ensures.meter c.requires.known

pub normalise-requires-clause-moduli : goal.normalise-requires-clause-moduli
normalise-requires-clause-moduli c =
    let g = c.args.meter.now in
    let K = IsKnown c.args.known.now in
    let p = c.args.first.now in
    let q = c.args.second.now in
    let first = c.in_ok-rows.rows in
    let second = c.in_ok-others.others in
    let own = c.in_ok-rows.ensures.exact in
    let others = c.in_ok-others.ensures.exact in
    let same = c.requires.columns in
    let one = c.requires.first in
    let other = c.requires.second in
    let all : c.append.new.self ≡ first ++ second = c.in_ok-append.ensures in
    subst (All (λ r. HasModulus r.kind r.k)) (sym all) (both_moduli g K p q same one other first second own others)

pub normalise-requires-clause-within : goal.normalise-requires-clause-within
normalise-requires-clause-within c =
    let g = c.args.meter.now in
    let K = IsKnown c.args.known.now in
    let p = c.args.first.now in
    let q = c.args.second.now in
    let first = c.in_ok-rows.rows in
    let second = c.in_ok-others.others in
    let own = c.in_ok-rows.ensures.exact in
    let others = c.in_ok-others.ensures.exact in
    let same = c.requires.columns in
    let one = c.requires.first in
    let other = c.requires.second in
    let all : c.append.new.self ≡ first ++ second = c.in_ok-append.ensures in
    let h = c.parts-2.new.meter in
    let charged = IsCharged_trans g c.parts.new.meter h c.in_ok-rows.ensures.meter c.in_ok-others.ensures.meter in
    subst (All (IsRowWithin h)) (sym all)
    (rows_within_kept h g (first ++ second) (charged_bits g h charged) (both_within g K p q same one other first second own others))

pub returns-in_default-clause-exact : goal.returns-in_default-clause-exact
returns-in_default-clause-exact c =
    let g = c.args.meter.now in
    let K = IsKnown c.args.known.now in
    let p = c.args.first.now in
    let q = c.args.second.now in
    let first = c.in_ok-rows.rows in
    let second = c.in_ok-others.others in
    let own = c.in_ok-rows.ensures.exact in
    let others = c.in_ok-others.ensures.exact in
    let same = c.requires.columns in
    let one = c.requires.first in
    let other = c.requires.second in
    let all : c.append.new.self ≡ first ++ second = c.in_ok-append.ensures in
    let none = rw c.in_default.is at c.in_ok-normal.ensures.points in
    empty_unjoined g K p q same one other first second own others
    (subst (λ l. (point : List ℤ) → ¬ HoldRows l point) all none)

pub is_of_either-requires-clause-joint : goal.is_of_either-requires-clause-joint
is_of_either-requires-clause-joint c =
    let g = c.args.meter.now in
    let K = IsKnown c.args.known.now in
    let p = c.args.first.now in
    let q = c.args.second.now in
    let first = c.in_ok-rows.rows in
    let second = c.in_ok-others.others in
    let own = c.in_ok-rows.ensures.exact in
    let others = c.in_ok-others.ensures.exact in
    let same = c.requires.columns in
    let one = c.requires.first in
    let other = c.requires.second in
    let all : c.append.new.self ≡ first ++ second = c.in_ok-append.ensures in
    let h = c.parts-2.new.meter in
    let charged = IsCharged_trans g c.parts.new.meter h c.in_ok-rows.ensures.meter c.in_ok-others.ensures.meter in
    let rows = c.in-Some.normal in
    let formed : All (IsWellFormed p.columns) rows =
    rw c.in-Some.is at (c.in_ok-normal.ensures.shape p.columns
    (subst (All (IsWellFormed p.columns)) (sym all) (both_formed g K p q same one other first second own others))) in
    let within : All (IsRowWithin h) rows = rw c.in-Some.is at c.in_ok-normal.ensures.within in
    subst (IsPlain h) (sym c.from_rows-joint.ensures) (plain_over h p rows formed within)

pub is_of_either-requires-clause-known : goal.is_of_either-requires-clause-known
is_of_either-requires-clause-known c =
    let g = c.args.meter.now in
    let known = c.args.known.now in
    let h = c.parts-2.new.meter in
    let charged = IsCharged_trans g c.parts.new.meter h c.in_ok-rows.ensures.meter c.in_ok-others.ensures.meter in
    subst (λ (s : System). IsKnownOf h s.columns known) (sym c.from_rows-joint.ensures)
    (known_later g h c.args.first.now.columns known charged c.requires.known)

pub is_of_either-requires-clause-first : goal.is_of_either-requires-clause-first
is_of_either-requires-clause-first c =
    let g = c.args.meter.now in
    let h = c.parts-2.new.meter in
    let charged = IsCharged_trans g c.parts.new.meter h c.in_ok-rows.ensures.meter c.in_ok-others.ensures.meter in
    plain_after g h c.args.first.now charged c.requires.first

pub is_of_either-requires-clause-second : goal.is_of_either-requires-clause-second
is_of_either-requires-clause-second c =
    let g = c.args.meter.now in
    let h = c.parts-2.new.meter in
    let charged = IsCharged_trans g c.parts.new.meter h c.in_ok-rows.ensures.meter c.in_ok-others.ensures.meter in
    plain_after g h c.args.second.now charged c.requires.second

pub is_of_either-requires-clause-live : goal.is_of_either-requires-clause-live
is_of_either-requires-clause-live c none =
    let g = c.args.meter.now in
    let K = IsKnown c.args.known.now in
    let p = c.args.first.now in
    let q = c.args.second.now in
    let first = c.in_ok-rows.rows in
    let second = c.in_ok-others.others in
    let own = c.in_ok-rows.ensures.exact in
    let others = c.in_ok-others.ensures.exact in
    let same = c.requires.columns in
    let one = c.requires.first in
    let other = c.requires.second in
    let all : c.append.new.self ≡ first ++ second = c.in_ok-append.ensures in
    let rows = c.in-Some.normal in
    let points : (point : List ℤ) → HoldRows rows point ↔ HoldRows (first ++ second) point =
    subst (λ l. (point : List ℤ) → HoldRows rows point ↔ HoldRows l point) all (rw c.in-Some.is at c.in_ok-normal.ensures.points) in
    let each = subst (λ (k : Assumed). (point : List ℤ) → IsKnown k point) (sym none) (λ point. tt) in
    subst (λ (s : System). ¬ IsNowhere s.columns (HoldsSystem s)) (sym c.from_rows-joint.ensures)
    (joint_live g K p q same one other first second own others rows points each c.requires.live)

pub returns-then-not-branch-clause-exact : goal.returns-then-not-branch-clause-exact
returns-then-not-branch-clause-exact c =
    let g = c.args.meter.now in
    let K = IsKnown c.args.known.now in
    let p = c.args.first.now in
    let q = c.args.second.now in
    let first = c.in_ok-rows.rows in
    let second = c.in_ok-others.others in
    let own = c.in_ok-rows.ensures.exact in
    let others = c.in_ok-others.ensures.exact in
    let same = c.requires.columns in
    let one = c.requires.first in
    let other = c.requires.second in
    let all : c.append.new.self ≡ first ++ second = c.in_ok-append.ensures in
    let rows = c.in-Some.normal in
    let points : (point : List ℤ) → HoldRows rows point ↔ HoldRows (first ++ second) point =
    subst (λ l. (point : List ℤ) → HoldRows rows point ↔ HoldRows l point) all (rw c.in-Some.is at c.in_ok-normal.ensures.points) in
    let no : c.in_ok-is_of_either.field-0 ≡ false = grind (arith, common_steps) in
    let exact = rw c.from_rows-joint.ensures at c.in_ok-is_of_either.ensures.exact in
    uncovered_unjoined g K p q same one other first second own others rows points (λ e. false≢true (sym no ∙ exact.1 e))

pub returns-clause-exact : goal.returns-clause-exact
returns-clause-exact c =
    let g = c.args.meter.now in
    let K = IsKnown c.args.known.now in
    let p = c.args.first.now in
    let q = c.args.second.now in
    let first = c.in_ok-rows.rows in
    let second = c.in_ok-others.others in
    let own = c.in_ok-rows.ensures.exact in
    let others = c.in_ok-others.ensures.exact in
    let same = c.requires.columns in
    let one = c.requires.first in
    let other = c.requires.second in
    let all : c.append.new.self ≡ first ++ second = c.in_ok-append.ensures in
    let h = c.parts-2.new.meter in
    let charged = IsCharged_trans g c.parts.new.meter h c.in_ok-rows.ensures.meter c.in_ok-others.ensures.meter in
    let rows = c.in-Some.normal in
    let points : (point : List ℤ) → HoldRows rows point ↔ HoldRows (first ++ second) point =
    subst (λ l. (point : List ℤ) → HoldRows rows point ↔ HoldRows l point) all (rw c.in-Some.is at c.in_ok-normal.ensures.points) in
    let formed : All (IsWellFormed p.columns) rows =
    rw c.in-Some.is at (c.in_ok-normal.ensures.shape p.columns
    (subst (All (IsWellFormed p.columns)) (sym all) (both_formed g K p q same one other first second own others))) in
    let within : All (IsRowWithin h) rows = rw c.in-Some.is at c.in_ok-normal.ensures.within in
    let yes : c.in_ok-is_of_either.field-0 ≡ true = grind (arith, common_steps) in
    let exact = rw c.from_rows-joint.ensures at c.in_ok-is_of_either.ensures.exact in
    let is : normal_rows (first ++ second) ≡ Some rows = ap normal_rows (sym all) ∙ sym c.in_ok-normal.ensures.exact ∙ c.in-Some.is in
    let normal : IsNormal rows = rw c.in-Some.is at c.in_ok-normal.ensures.normal in
    let earlier = rows_within_kept g h rows (sym (charged_bits g h charged)) within in
    subst (IsJointSystem g K p q) (sym c.from_rows-joint.ensures)
    (covered_joint g K p q same one other first second own others rows points (exact.0 yes) is normal formed earlier)
