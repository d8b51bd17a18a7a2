use Rattle.std.proofs.Common.{◌≡◌, ◌↔◌, ◌++◌, sym, ◌∙◌, ap, subst, map, List}
use Rattle.isl_piece.specs.declared.row.Row.{Row}
use Rattle.isl_piece.specs.declared.system.System.{System}
use Rattle.isl_piece.specs.Formed.{IsSystemUpTo}
use Rattle.isl_piece.specs.Meet.{numbers_at, placed_row}
use Rattle.isl_piece.specs.Placed.{placing_of}
use Rattle.isl_piece.specs.System.{HoldsSystem, IsSystemWithin, free_columns}
use Rattle.isl_piece.proofs.MeetLaws.{placed_free, placed_points, placed_system_within, placed_up_to, placing_system}
use Rattle.isl_piece.proofs.system.System.placed.Goals as goal

pub returns-clause-exact : goal.returns-clause-exact
returns-clause-exact c =
    let s = c.args.self.now in
    let m = c.in_ok-placing.placing in
    c.over.ensures ∙ placing_system m (placing_of c.args.columns c.args.places.now s.definitions) s.rows c.append_placed.new.rows c.in_ok-placing.ensures.exact
    (c.in_ok-append_placed.ensures ∙ ap (λ (rows : List Row). rows ++ map (placed_row m.columns m.places) s.rows) c.in_ok-rows.ensures)

pub returns-clause-points : goal.returns-clause-points
returns-clause-points c g point p are l e =
    let s = c.args.self.now in
    let places = c.args.places.now in
    subst (λ (t : System). HoldsSystem t point ↔ HoldsSystem s (numbers_at places point)) (sym (returns-clause-exact c))
    (placed_points g c.args.columns places s are p l point e)

pub returns-clause-within : goal.returns-clause-within
returns-clause-within c g p are l =
    let s = c.args.self.now in
    let columns = c.args.columns in
    let places = c.args.places.now in
    subst (λ (t : System). IsSystemWithin g t × (free_columns t ≡ columns)) (sym (returns-clause-exact c))
    (placed_system_within g columns places s are p l, placed_free g columns places s are p l)

pub returns-clause-magnitudes : goal.returns-clause-magnitudes
returns-clause-magnitudes c most h =
    subst (IsSystemUpTo most) (sym (returns-clause-exact c)) (placed_up_to most c.args.columns c.args.places.now c.args.self.now h)
