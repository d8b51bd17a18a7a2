use mir.Syntax.{w128}
use Rattle.std.proofs.Common.{to_z, of_z, ◌≡◌, ◌∙◌, ◌++◌, ◌∷◌, [], pos, arith, rules, to_z-of_z}
use Rattle.std.proofs.lemmas.Grind.{common_steps}
use Rattle.isl_refute.proofs.WithinLaws.{residue_cut, residues_before, residues_end}
use Rattle.isl_refute.proofs.added.residue_rows.Goals as goal

pub returns-in_err-row : goal.returns-in_err-row
returns-in_err-row c =
    let own : to_z w128 (of_z w128 c.args.k) ≡ c.args.k = grind (arith, common_steps, to_z-of_z) in
    let found = residue_cut c.args.meter.now c.loop-rest.meter c.residue_row.new.meter c.args.form.now c.args.k
    (to_z w128 (of_z w128 c.args.k))
    c.args.count c.loop-rest.rest _ c.in_err-row.field-0.0 c.requires own (omega arith) (grind (arith, common_steps, to_z-of_z))
    c.loop-rest.invariant.2 c.in_err-row.ensures in
    search (rules, found)

pub loop-rest-preserved : goal.loop-rest-preserved
loop-rest-preserved c =
    let more : c.push.new.self ≡ c.loop-rest.rows ++ c.in_ok-row.row ∷ [] = grind (arith, common_steps) in
    let own : to_z w128 (of_z w128 c.args.k) ≡ c.args.k = grind (arith, common_steps, to_z-of_z) in
    residues_before c.args.meter.now c.loop-rest.meter c.residue_row.new.meter c.args.form.now (pos c.args.count)
    (to_z w128 (of_z w128 c.args.k))
    c.loop-rest.rest c.loop-rest.rows _ c.in_ok-row.row c.push.new.self (own ∙ c.requires) (grind (arith, common_steps, to_z-of_z))
    c.loop-rest.invariant.0 c.loop-rest.invariant.1 c.loop-rest.invariant.2 c.in_ok-row.ensures.0 c.in_ok-row.ensures.1
    c.in_ok-row.ensures.2
    more

pub returns : goal.returns
returns c = (
  residues_end c.args.form.now c.args.k c.args.count c.loop-rest.rest c.loop-rest.rows c.requires (omega arith) c.loop-rest.invariant.0,
  c.loop-rest.invariant.1,
  c.loop-rest.invariant.2,
)
