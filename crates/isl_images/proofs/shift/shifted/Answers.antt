use Rattle.std.proofs.Common.{◌≡◌, ap, ◌∙◌, sym, subst, ◌<◌, ℕ, List}
use Rattle.std.specs.List.{All}
use Rattle.std.proofs.lemmas.Result.{IfOk-weaker}
use Rattle.isl_piece.specs.Placed.{placed_system}
use Rattle.isl_piece.specs.System.{free_columns}
use Rattle.isl_images.specs.Shift.{shifted_places, IsShifted}
use Rattle.isl_images.proofs.ShiftLaws.{places_are, shifted_columns, system_shifted}
use Rattle.isl_images.proofs.shift.shifted.Goals as goal

pub placed-requires : goal.placed-requires
placed-requires c =
    let shift = c.args.shift in
    let at = c.as_slice.ensures.value ∙ c.in_ok-places.ensures ∙ ap (λ n. shifted_places n shift) c.free.ensures in
    subst (λ (ps : List ℕ). All (λ p. p < shift.columns) ps) (sym at) (places_are (free_columns c.args.system.now) shift c.requires).inside

pub returns-clause-columns : goal.returns-clause-columns
returns-clause-columns c =
    let s = c.args.system.now in
    let shift = c.args.shift in
    let places = c.as_slice.result.now in
    let at = c.as_slice.ensures.value ∙ c.in_ok-places.ensures ∙ ap (λ n. shifted_places n shift) c.free.ensures in
    IfOk-weaker c.placed.result (λ m. m ≡ placed_system shift.columns places s) (λ m. free_columns m ≡ shift.columns)
    (λ m e. shifted_columns s shift places m c.requires at e) c.placed.ensures.exact

pub returns-clause-shifted : goal.returns-clause-shifted
returns-clause-shifted c g within =
    let s = c.args.system.now in
    let shift = c.args.shift in
    let places = c.as_slice.result.now in
    let at = c.as_slice.ensures.value ∙ c.in_ok-places.ensures ∙ ap (λ n. shifted_places n shift) c.free.ensures in
    IfOk-weaker c.placed.result (λ m. m ≡ placed_system shift.columns places s) (IsShifted g s shift)
    (λ m e. system_shifted g s shift places m c.requires within at e) c.placed.ensures.exact
