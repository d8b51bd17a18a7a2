use Rattle.std.proofs.Common.{◌≡◌, ◌↔◌, ℤ, List, [], ◌∷◌, arith, subst}
use Rattle.std.specs.List.{All}
use Rattle.isl_piece.specs.declared.row.Row.{Row}
use Rattle.isl_piece.specs.System.{HoldRows}
use Rattle.isl_tower.specs.Ends.{HasLowerEnd, HasUpperEnd}
use Rattle.isl_points.specs.Exclusion.{MeetsExclusion}
use Rattle.isl_points.specs.Line.{IsLeft}
use Rattle.isl_points.proofs.PrefixLaws.{no_listing, same_listing}
use Rattle.isl_points.proofs.level.on_line.Goals as goal

pub returns-in-None : goal.returns-in-None
returns-in-None c =
    let g = c.args.meter.now in
    let rs = c.args.rows.items in
    let read : c.as_slice.result.now ≡ rs = grind arith in
    let none = rw c.in-None.is at c.in_ok-of.ensures in
    let ends = subst (λ (l : List Row). HasLowerEnd 0 l → HasUpperEnd 0 l → (x : ℤ) → ¬ HoldRows l (x ∷ [])) read none.0 in
    no_listing g c.of.new.meter (λ x. HoldRows rs (x ∷ [])) c.clear.new.self.items (grind arith) (grind arith)
    (λ x h. c.requires.ended (λ e. ends e.0 e.1 x h) x h)

pub list-requires-clause-rows : goal.list-requires-clause-rows
list-requires-clause-rows c =
    let g = c.args.meter.now in
    let same : c.of.new.meter ≡ g = grind arith in
    let read : c.as_slice-in-Some.result.now ≡ c.args.rows.items = grind arith in
    rw same (c.excluding.ensures.proper g (rw read c.requires.rows))

pub returns-in_ok-numbers-in-Some : goal.returns-in_ok-numbers-in-Some
returns-in_ok-numbers-in-Some c =
    let g = c.args.meter.now in
    let h = c.of.new.meter in
    let k = c.list.new.meter in
    let line = c.in-Some.line in
    let rs = c.args.rows.items in
    let cut = c.excluding.result.now in
    let read : c.as_slice.result.now ≡ rs = grind arith in
    let again : c.as_slice-in-Some.result.now ≡ rs = grind arith in
    let some = rw c.in-Some.is at c.in_ok-of.ensures in
    let same : h ≡ g = grind arith in
    let own : (x : ℤ) → IsLeft line rs x ↔ HoldRows rs (x ∷ []) =
    λ x. subst (λ (l : List Row). IsLeft line l x ↔ HoldRows l (x ∷ [])) read (some.0.1 x) in
    let kept : (x : ℤ) → All (MeetsExclusion x) cut ↔ All (MeetsExclusion x) rs =
    λ x. subst (λ (l : List Row). All (MeetsExclusion x) cut ↔ All (MeetsExclusion x) l) again (c.excluding.ensures.same x) in
    let left : (x : ℤ) → IsLeft line cut x ↔ HoldRows rs (x ∷ []) = λ x. (
      (λ m. (own x).0 (m.0, (kept x).0 m.1)),
      (λ m. let q = (own x).1 m in (q.0, (kept x).1 q.1)),
    ) in
    same_listing g h k (IsLeft line cut) (λ x. HoldRows rs (x ∷ [])) c.in_ok-numbers-in-Some.numbers.items same left
    c.in_ok-numbers-in-Some.ensures.exact
