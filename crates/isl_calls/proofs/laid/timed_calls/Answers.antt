use Rattle.std.proofs.Common.{◌≡◌, ap, refl, subst, false, arith, ℕ, ◌∷◌, []}
use Rattle.isl_meter.specs.Gauge.{Gauge}
use Rattle.isl_space.specs.Form.{width_of}
use Rattle.isl_space.specs.Shape.{form_of}
use Rattle.isl_piece.specs.System.{IsSystemWithin}
use Rattle.isl_blocks.specs.Blocks.{IsSpread}
use Rattle.isl_calls.proofs.LaidLaws.{timed_laid}
use Rattle.isl_calls.proofs.laid.timed_calls.Goals as goal

pub returns : goal.returns
returns c =
    let visits = c.args.visits.now in
    let made = c.in_ok-spread.field-0 in
    let time : c.width.result ≡ width_of (form_of visits.time.value) = grind arith in
    let domain : c.width-2.result ≡ width_of (form_of visits.domain.value) = grind arith in
    let spread : (g : Gauge) → IsSystemWithin g visits.system
    → IsSpread g (c.args.params ∷ width_of (form_of visits.time.value) ∷ width_of (form_of visits.domain.value) ∷ []) (0 ∷ 2 ∷ 1 ∷ [])
    visits.system made =
    λ g within. subst (λ (n : ℕ). IsSpread g (c.args.params ∷ n ∷ width_of (form_of visits.domain.value) ∷ []) (0 ∷ 2 ∷ 1 ∷ []) visits.system made)
    time
    (subst (λ (n : ℕ). IsSpread g (c.args.params ∷ c.width.result ∷ n ∷ []) (0 ∷ 2 ∷ 1 ∷ []) visits.system made) domain
    (c.in_ok-spread.ensures g within)) in
    timed_laid c.args.params visits
    (record { domain = c.in_ok-clone.field-0; time = c.in_ok-clone-2.field-0; is_own = false; system = made })
    made c.requires.plain (ap form_of c.in_ok-clone.ensures.cases) (ap form_of c.in_ok-clone-2.ensures.cases) refl refl spread
