use mir.Syntax.{w128}
use Rattle.std.proofs.Common.{to_z, of_z, slice_get, option_map, ◌≡◌, ◌∙◌, ◌+◌, ◌-◌, ◌<◌, refl, sym, ap, subst, arith, rules, true, false}
use Rattle.std.proofs.Common.{nat_eq, ℤ, pos, ◌<ℤ◌, length, map, Some, None, to_z-of_z}
use Rattle.std.proofs.lemmas.Grind.{common_steps}
use Rattle.std.specs.List.{Any}
use Rattle.isl_meter.specs.Gauge.{Gauge}
use Rattle.isl_piece.specs.System.{widened}
use Rattle.isl_piece.specs.Cut.{IsCutFor}
use Rattle.isl_refute.specs.Passes.{Passes, RowPasses}
use Rattle.isl_refute.specs.Refutes.{and_row, negations, residue_rows, rows_of}
use Rattle.isl_refute.specs.Visited.{visited}
use Rattle.isl_refute.proofs.CheckLaws.{cut_spent, no_memory, left_start, left_more, left_no, left_cut, left_end}
use Rattle.isl_refute.proofs.CheckLaws.{sides_bound_cut, sides_below_cut, sides_up_cut, sides_no, sides_end}
use Rattle.isl_refute.proofs.NodeLaws.{one_less, sides_less, residues_less, outside_less, part_less, out_within, some_node, some_visited}
use Rattle.isl_refute.proofs.TreeLaws.{nodes-Add, nodes-Tie, nodes-Mod, nodes-Weaken, nodes-Fresh}
use Rattle.isl_refute.proofs.CheckLaws.{as_many, fits_count, outside_none_told, outside_cut, outside_end, residues_none, residues_cut}
use Rattle.isl_refute.proofs.CheckLaws.{residues_end}
use Rattle.isl_refute.proofs.NodeLaws.{add_is, add_cut, tie_is, mod_is, mod_cut, weaken_is, fresh_is, fresh_none, residue_shown}
use Rattle.isl_refute.proofs.NodeLaws.{split_none, split_is}
use Rattle.isl_refute.proofs.NodeLaws.{false_is, outside_is, outside_none, out_at, no_out_at, part_none, part_some}
use Rattle.isl_refute.proofs.NodeLaws.{refute_is}
use Rattle.isl_refute.proofs.NodeLaws.{facts_wider, outs_later, outs_wider, same_bits, within_later, bound_fact, below_fact, fact_at}
use Rattle.isl_refute.proofs.NodeLaws.{negation_facts, residue_facts}
use Rattle.isl_refute.proofs.WithinLaws.{facts_kept}
use Rattle.isl_refute.proofs.checker.+check.Goals as goal

-- ---- nodes
pub node-returns-in_err-row-in-Tie-clause-checked : goal.node-returns-in_err-row-in-Tie-clause-checked
node-returns-in_err-row-in-Tie-clause-checked t c =
    let f = c.args.facts.now in
    let g = c.args.meter.now in
    let outs = map rows_of c.args.outs.now in
    let found = no_memory g g (λ m. Passes g.bits outs f.columns f.rows c.args.cert.now (1 + m))
    (visited outs f.columns f.rows c.args.cert.now - 1) refl in
    search (rules, found)

pub node-returns-in_err-row-in-Weaken-clause-checked : goal.node-returns-in_err-row-in-Weaken-clause-checked
node-returns-in_err-row-in-Weaken-clause-checked t c =
    let f = c.args.facts.now in
    let g = c.args.meter.now in
    let outs = map rows_of c.args.outs.now in
    let found = no_memory g g (λ m. Passes g.bits outs f.columns f.rows c.args.cert.now (1 + m))
    (visited outs f.columns f.rows c.args.cert.now - 1) refl in
    search (rules, found)

pub node-returns-in_err-row-in-Fresh-clause-checked : goal.node-returns-in_err-row-in-Fresh-clause-checked
node-returns-in_err-row-in-Fresh-clause-checked t c =
    let f = c.args.facts.now in
    let g = c.args.meter.now in
    let outs = map rows_of c.args.outs.now in
    let found = no_memory g g (λ m. Passes g.bits outs f.columns f.rows c.args.cert.now (1 + m))
    (visited outs f.columns f.rows c.args.cert.now - 1) refl in
    search (rules, found)

pub node-returns-in-False-clause-checked : goal.node-returns-in-False-clause-checked
node-returns-in-False-clause-checked t c =
    let f = c.args.facts.now in
    false_is (map rows_of c.args.outs.now) f.columns f.rows c.args.meter.now c.args.meter.now c.args.cert.now c.in-False.i c.false_at.result
    c.in-False.is refl c.false_at.ensures

pub node-returns-in_ok-row-in-Tie-clause-checked : goal.node-returns-in_ok-row-in-Tie-clause-checked
node-returns-in_ok-row-in-Tie-clause-checked t c =
    let f = c.args.facts.now in
    tie_is (map rows_of c.args.outs.now) f.columns f.rows c.args.meter.now c.args.meter.now c.with_some-in-Tie.new.meter c.args.cert.now
    c.in-Tie.i
    c.in-Tie.j c.in-Tie.part c.get-in-Tie.result.now c.in_ok-row-in-Tie.row c.with_some-in-Tie.result c.in-Tie.is c.get-in-Tie.ensures
    c.in_ok-row-in-Tie.ensures.value refl c.with_some-in-Tie.ensures.checked

pub node-returns-in-Some-clause-checked : goal.node-returns-in-Some-clause-checked
node-returns-in-Some-clause-checked t c =
    let f = c.args.facts.now in
    fresh_is (map rows_of c.args.outs.now) f.columns f.rows c.args.meter.now c.args.meter.now c.with_column.new.meter c.args.cert.now
    c.in-Fresh.i
    c.in-Fresh.part c.get-in-Some.result.now c.in-Some.row c.with_column.result c.in-Fresh.is c.get-in-Some.ensures
    (sym c.in-Some.is ∙ c.in_ok-row-in-Fresh.ensures.value) refl c.with_column.ensures

pub node-returns-in-None-clause-checked : goal.node-returns-in-None-clause-checked
node-returns-in-None-clause-checked t c =
    let f = c.args.facts.now in
    fresh_none (map rows_of c.args.outs.now) f.columns f.rows c.args.meter.now c.args.meter.now c.args.cert.now c.in-Fresh.i
    c.in-Fresh.part c.in-Fresh.is (sym c.in-None.is ∙ c.in_ok-row-in-Fresh.ensures.value) refl

pub refute-returns-in_err-unit-clause-checked : goal.refute-returns-in_err-unit-clause-checked
refute-returns-in_err-unit-clause-checked t c =
    let f = c.args.facts.now in
    let g = c.args.meter.now in
    let outs = map rows_of c.args.outs.now in
    let found = cut_spent g c.unit.new.self (Passes g.bits outs f.columns f.rows c.args.cert.now)
    (visited outs f.columns f.rows c.args.cert.now) c.in_err-unit.ensures.0 c.in_err-unit.ensures.1
    (some_visited outs f.columns f.rows c.args.cert.now) in
    search (rules, found)

-- ---- one column more, and no row
pub with_column-returns-in_default : goal.with_column-returns-in_default
with_column-returns-in_default t c =
    let g = c.args.meter.now in
    let f = c.args.facts.now in
    let outs = map rows_of c.args.outs.now in
    let rows = and_row (map widened f.rows) c.args.row.now in
    no_memory g g (Passes g.bits outs (f.columns + 1) rows c.args.part.now) (visited outs (f.columns + 1) rows c.args.part.now) refl

pub with_column-returns-in_err-wider : goal.with_column-returns-in_err-wider
with_column-returns-in_err-wider t c =
    let g = c.args.meter.now in
    let f = c.args.facts.now in
    let outs = map rows_of c.args.outs.now in
    let rows = and_row (map widened f.rows) c.args.row.now in
    let found = no_memory g g (Passes g.bits outs (f.columns + 1) rows c.args.part.now)
    (visited outs (f.columns + 1) rows c.args.part.now) refl in
    search (rules, found)

pub with_row-returns-in_err-push-clause-checked : goal.with_row-returns-in_err-push-clause-checked
with_row-returns-in_err-push-clause-checked t c =
    let g = c.args.meter.now in
    let f = c.args.facts.now in
    let outs = map rows_of c.args.outs.now in
    let rows = and_row f.rows c.args.row.now in
    let found = no_memory g g (Passes g.bits outs f.columns rows c.args.part.now) (visited outs f.columns rows c.args.part.now) refl in
    search (rules, found)

pub with_some-returns-in-None-clause-checked : goal.with_some-returns-in-None-clause-checked
with_some-returns-in-None-clause-checked t c =
    let f = c.args.facts.now in
    part_none c.args.meter.now (map rows_of c.args.outs.now) f.columns f.rows c.args.row c.args.part.now c.in-None.is

pub with_some-returns-in-Some-clause-checked : goal.with_some-returns-in-Some-clause-checked
with_some-returns-in-Some-clause-checked t c =
    let f = c.args.facts.now in
    part_some c.args.meter.now c.with_row.new.meter (map rows_of c.args.outs.now) f.columns f.rows c.args.row c.in-Some.row c.args.part.now
    c.with_row.result c.in-Some.is c.with_row.ensures.checked

pub refute-returns-clause-checked : goal.refute-returns-clause-checked
refute-returns-clause-checked t c =
    let f = c.args.facts.now in
    refute_is c.args.meter.now c.unit.new.self c.node.new.meter (map rows_of c.args.outs.now) f.columns f.rows c.args.cert.now c.node.result
    c.in_ok-unit.ensures.1 c.node.ensures.checked

pub with_column-with_row-requires : goal.with_column-with_row-requires
with_column-with_row-requires t c =
    let g = c.args.meter.now in
    let f = c.args.facts.now in
    let facts = facts_wider g f.columns f.rows c.requires.facts in
    let outs = outs_wider g f.columns c.args.outs.now c.requires.outs in
    (omega (arith, c.decreases), search (rules, facts, outs, c.requires.row))

-- ---- an out
pub outside-returns-then-not-has_negations-clause-checked : goal.outside-returns-then-not-has_negations-clause-checked
outside-returns-then-not-has_negations-clause-checked t c =
    let f = c.args.facts.now in
    outside_none_told (map rows_of c.args.outs.now) f.columns f.rows c.args.meter.now c.args.out.now.rows c.args.parts.now
    (grind (arith, common_steps))

pub outside-returns-in_err-rows-clause-checked : goal.outside-returns-in_err-rows-clause-checked
outside-returns-in_err-rows-clause-checked t c =
    let f = c.args.facts.now in
    let found = outside_cut (map rows_of c.args.outs.now) f.columns f.rows c.args.meter.now c.negations.new.meter c.args.out.now.rows
    c.args.parts.now c.in_err-rows.field-0.0 (grind (arith, common_steps)) (grind (arith, common_steps)) in
    search (rules, found)

pub outside-with_each-requires : goal.outside-with_each-requires
outside-with_each-requires t c =
    let g = c.args.meter.now in
    let f = c.args.facts.now in
    let m = c.negations.new.meter in
    let bits = ap (λ (k : Gauge). k.bits) c.in_ok-rows.ensures.2 in
    let facts = facts_kept g m f.columns f.rows bits c.requires.facts in
    let outs = outs_later g m f.columns c.args.outs.now bits c.requires.outs in
    let is : c.in_ok-rows.rows ≡ negations f.columns c.args.out.now.rows = grind (arith, common_steps) in
    let rows = negation_facts g m f.columns c.args.out.now.rows c.in_ok-rows.rows c.in_ok-rows.ensures.2 is c.requires.out
    c.in_ok-rows.ensures.1 in
    let told : nat_eq (length c.args.parts.now) (length (negations f.columns c.args.out.now.rows)) ≡ true = grind (arith, common_steps) in
    let many = ap length is ∙ as_many (map rows_of c.args.outs.now) f.columns f.rows c.args.out.now.rows c.args.parts.now told in
    (omega (arith, c.decreases), search (rules, facts, outs, rows, many))

pub outside-returns-clause-checked : goal.outside-returns-clause-checked
outside-returns-clause-checked t c =
    let f = c.args.facts.now in
    let is : c.as_slice-3.result.now ≡ negations f.columns c.args.out.now.rows = grind (arith, common_steps) in
    outside_end (map rows_of c.args.outs.now) f.columns f.rows c.args.meter.now c.negations.new.meter c.with_each.new.meter
    c.args.out.now.rows
    c.as_slice-3.result.now c.args.parts.now c.with_each.result (grind (arith, common_steps)) c.in_ok-rows.ensures.2 is
    c.with_each.ensures.checked

-- ---- residues
pub residues-returns-then-len-facts-clause-checked : goal.residues-returns-then-len-facts-clause-checked
residues-returns-then-len-facts-clause-checked t c =
    let f = c.args.facts.now in
    residues_none (map rows_of c.args.outs.now) f.columns f.rows c.args.meter.now c.args.form.now c.args.k c.args.parts.now
    (grind (arith, common_steps, to_z-of_z))

pub residues-returns-in_err-rows-clause-checked : goal.residues-returns-in_err-rows-clause-checked
residues-returns-in_err-rows-clause-checked t c =
    let f = c.args.facts.now in
    let g = c.args.meter.now in
    let h = c.residue_rows.new.meter in
    let one : to_z w128 (of_z w128 c.args.k) ≡ c.args.k = grind (arith, common_steps, to_z-of_z) in
    let cut = subst (λ (z : ℤ). IsCutFor (Any (RowPasses g.bits) (residue_rows c.args.form.now z)) g h c.in_err-rows.field-0.0) one
    c.in_err-rows.ensures in
    let found = residues_cut (map rows_of c.args.outs.now) f.columns f.rows g h c.args.form.now c.args.k
    c.args.parts.now c.in_err-rows.field-0.0 (grind (arith, common_steps)) (grind (arith, common_steps))
    (grind (arith, common_steps, to_z-of_z))
    cut in
    search (rules, found)

pub residues-with_each-requires : goal.residues-with_each-requires
residues-with_each-requires t c =
    let g = c.args.meter.now in
    let f = c.args.facts.now in
    let m = c.residue_rows.new.meter in
    let bits = ap (λ (k : Gauge). k.bits) c.in_ok-rows.ensures.2 in
    let facts = facts_kept g m f.columns f.rows bits c.requires.facts in
    let outs = outs_later g m f.columns c.args.outs.now bits c.requires.outs in
    let wide : length c.args.form.now.coefs ≡ f.columns = grind (arith, common_steps) in
    let above : pos 1 <ℤ c.args.k = grind (arith, common_steps) in
    let is : c.args.k ≡ pos (length c.args.parts.now) = grind (arith, common_steps, to_z-of_z) in
    let one : to_z w128 (of_z w128 c.args.k) ≡ c.args.k = grind (arith, common_steps, to_z-of_z) in
    let made = c.in_ok-rows.ensures.0 ∙ ap (λ (z : ℤ). residue_rows c.args.form.now z) one in
    let rows = residue_facts g m f.columns c.args.form.now c.args.k c.in_ok-rows.rows c.in_ok-rows.ensures.2 made wide above
    c.in_ok-rows.ensures.1 in
    let many = ap length made ∙ fits_count (map rows_of c.args.outs.now) f.columns f.rows c.args.form.now c.args.k c.args.parts.now is in
    (omega (arith, c.decreases), search (rules, facts, outs, rows, many))

pub residues-returns-clause-checked : goal.residues-returns-clause-checked
residues-returns-clause-checked t c =
    let f = c.args.facts.now in
    let one : to_z w128 (of_z w128 c.args.k) ≡ c.args.k = grind (arith, common_steps, to_z-of_z) in
    let made = c.in_ok-rows.ensures.0 ∙ ap (λ (z : ℤ). residue_rows c.args.form.now z) one in
    residues_end (map rows_of c.args.outs.now) f.columns f.rows c.args.meter.now c.residue_rows.new.meter c.with_each.new.meter
    c.args.form.now
    c.args.k c.as_slice.result.now c.args.parts.now c.with_each.result (grind (arith, common_steps)) (grind (arith, common_steps))
    (grind (arith, common_steps, to_z-of_z)) c.in_ok-rows.ensures.2 (c.as_slice.ensures ∙ made) c.with_each.ensures.checked

-- ---- one part after another
pub with_each-loop-i-init : goal.with_each-loop-i-init
with_each-loop-i-init t c =
    let f = c.args.facts.now in
    record {
      left = left_start c.args.meter.now.bits (map rows_of c.args.outs.now) f.columns f.rows c.args.meter.now c.args.meter.now
          c.args.rows.now
          c.args.parts.now refl;
      facts = refl;
    }

pub with_each-with_row-requires : goal.with_each-with_row-requires
with_each-with_row-requires t c =
    let g = c.args.meter.now in
    let f = c.args.facts.now in
    let m = c.loop-i.meter in
    let bits = same_bits g m c.loop-i.invariant.left.charged in
    let low : c.loop-i.i < length c.args.rows.now = omega arith in
    let facts = facts_kept g m f.columns f.rows bits c.requires.facts in
    let outs = outs_later g m f.columns c.args.outs.now bits c.requires.outs in
    let row = fact_at g m f.columns c.args.rows.now c.loop-i.i c.index-rows-i.result bits low c.index-rows-i.is c.requires.rows in
    let under : c.loop-i.i < length c.args.parts.now = omega (arith, c.requires.length) in
    let less = part_less c.args.parts.now c.loop-i.i c.index-parts-i.result under c.index-parts-i.is in
    (omega (arith, c.decreases, less), search (rules, facts, outs, row, c.loop-i.invariant.facts))

pub with_each-loop-i-preserved : goal.with_each-loop-i-preserved
with_each-loop-i-preserved t c =
    let g = c.args.meter.now in
    let f = c.args.facts.now in
    let low : c.loop-i.i < length c.args.rows.now = omega arith in
    let under : c.loop-i.i < length c.args.parts.now = omega (arith, c.requires.length) in
    let same : c.loop-i.facts ≡ f = c.loop-i.invariant.facts in
    let yes' : c.in_ok-yes.yes ≡ true = grind arith in
    record {
      left = left_more g.bits (map rows_of c.args.outs.now) f.columns f.rows g c.loop-i.meter c.with_row.new.meter c.args.rows.now
          c.args.parts.now
          c.loop-i.i c.index-rows-i.result c.index-parts-i.result c.in_ok-yes.yes low under c.index-rows-i.is c.index-parts-i.is
          c.loop-i.invariant.left (rw same at c.in_ok-yes.ensures.checked.0) yes' (rw same at c.in_ok-yes.ensures.checked.1);
      facts = c.in_ok-yes.ensures.facts ∙ same;
    }

pub with_each-returns-then-not-yes-clause-checked : goal.with_each-returns-then-not-yes-clause-checked
with_each-returns-then-not-yes-clause-checked t c =
    let g = c.args.meter.now in
    let f = c.args.facts.now in
    let low : c.loop-i.i < length c.args.rows.now = omega arith in
    let under : c.loop-i.i < length c.args.parts.now = omega (arith, c.requires.length) in
    let same : c.loop-i.facts ≡ f = c.loop-i.invariant.facts in
    let fails : c.in_ok-yes.yes ≡ false = grind arith in
    left_no g.bits (map rows_of c.args.outs.now) f.columns f.rows g c.loop-i.meter c.with_row.new.meter c.args.rows.now c.args.parts.now
    c.loop-i.i c.index-rows-i.result c.index-parts-i.result c.in_ok-yes.yes low under c.index-rows-i.is c.index-parts-i.is
    c.loop-i.invariant.left (rw same at c.in_ok-yes.ensures.checked.0) fails (rw same at c.in_ok-yes.ensures.checked.1)

pub with_each-returns-in_err-yes-clause-checked : goal.with_each-returns-in_err-yes-clause-checked
with_each-returns-in_err-yes-clause-checked t c =
    let g = c.args.meter.now in
    let f = c.args.facts.now in
    let low : c.loop-i.i < length c.args.rows.now = omega arith in
    let under : c.loop-i.i < length c.args.parts.now = omega (arith, c.requires.length) in
    let same : c.loop-i.facts ≡ f = c.loop-i.invariant.facts in
    let found = left_cut g.bits (map rows_of c.args.outs.now) f.columns f.rows g c.loop-i.meter c.with_row.new.meter c.args.rows.now
    c.args.parts.now c.loop-i.i c.index-rows-i.result c.index-parts-i.result c.in_err-yes.field-0.0 low under c.index-rows-i.is
    c.index-parts-i.is
    (same_bits g c.loop-i.meter c.loop-i.invariant.left.charged) c.loop-i.invariant.left (rw same at c.in_err-yes.ensures.checked) in
    search (rules, found)

pub with_each-returns-clause-checked : goal.with_each-returns-clause-checked
with_each-returns-clause-checked t c =
    let g = c.args.meter.now in
    let f = c.args.facts.now in
    left_end g.bits (map rows_of c.args.outs.now) f.columns f.rows g c.loop-i.meter c.args.rows.now c.args.parts.now c.loop-i.i
    (omega arith)
    c.requires.length c.loop-i.invariant.left

-- ---- nodes with numbers
pub node-returns-in_err-row-in-Add-clause-checked : goal.node-returns-in_err-row-in-Add-clause-checked
node-returns-in_err-row-in-Add-clause-checked t c =
    let f = c.args.facts.now in
    let one : to_z w128 (of_z w128 c.in-Add.a) ≡ c.in-Add.a = grind (arith, common_steps, to_z-of_z) in
    let two : to_z w128 (of_z w128 c.in-Add.b) ≡ c.in-Add.b = grind (arith, common_steps, to_z-of_z) in
    let found = add_cut (map rows_of c.args.outs.now) f.columns f.rows c.args.meter.now c.sum_at.new.meter c.args.cert.now c.in-Add.i
    c.in-Add.a
    c.in-Add.j c.in-Add.b (to_z w128 (of_z w128 c.in-Add.a)) (to_z w128 (of_z w128 c.in-Add.b)) c.in-Add.part c.in_err-row-in-Add.field-0.0
    c.in-Add.is one two c.in_err-row-in-Add.ensures.cut in
    search (rules, found)

pub node-returns-in_err-row-in-Mod-clause-checked : goal.node-returns-in_err-row-in-Mod-clause-checked
node-returns-in_err-row-in-Mod-clause-checked t c =
    let f = c.args.facts.now in
    let one : to_z w128 (of_z w128 c.in-Mod.k) ≡ c.in-Mod.k = grind (arith, common_steps, to_z-of_z) in
    let found = mod_cut (map rows_of c.args.outs.now) f.columns f.rows c.args.meter.now c.mod_at.new.meter c.args.cert.now c.in-Mod.i
    c.in-Mod.k
    (to_z w128 (of_z w128 c.in-Mod.k)) c.in-Mod.part c.in_err-row-in-Mod.field-0.0 c.in-Mod.is one c.in_err-row-in-Mod.ensures in
    search (rules, found)

pub node-returns-in_ok-row-in-Add-clause-checked : goal.node-returns-in_ok-row-in-Add-clause-checked
node-returns-in_ok-row-in-Add-clause-checked t c =
    let f = c.args.facts.now in
    let one : to_z w128 (of_z w128 c.in-Add.a) ≡ c.in-Add.a = grind (arith, common_steps, to_z-of_z) in
    let two : to_z w128 (of_z w128 c.in-Add.b) ≡ c.in-Add.b = grind (arith, common_steps, to_z-of_z) in
    add_is (map rows_of c.args.outs.now) f.columns f.rows c.args.meter.now c.sum_at.new.meter c.with_some.new.meter c.args.cert.now
    c.in-Add.i
    c.in-Add.a c.in-Add.j c.in-Add.b (to_z w128 (of_z w128 c.in-Add.a)) (to_z w128 (of_z w128 c.in-Add.b)) c.in-Add.part c.get.result.now
    c.in_ok-row-in-Add.row c.with_some.result c.in-Add.is c.get.ensures one two
    c.in_ok-row-in-Add.ensures.value c.in_ok-row-in-Add.ensures.same c.with_some.ensures.checked

pub node-returns-in_ok-row-in-Mod-clause-checked : goal.node-returns-in_ok-row-in-Mod-clause-checked
node-returns-in_ok-row-in-Mod-clause-checked t c =
    let f = c.args.facts.now in
    let one : to_z w128 (of_z w128 c.in-Mod.k) ≡ c.in-Mod.k = grind (arith, common_steps, to_z-of_z) in
    mod_is (map rows_of c.args.outs.now) f.columns f.rows c.args.meter.now c.mod_at.new.meter c.with_some-in-Mod.new.meter c.args.cert.now
    c.in-Mod.i
    c.in-Mod.k (to_z w128 (of_z w128 c.in-Mod.k)) c.in-Mod.part c.get-in-Mod.result.now c.in_ok-row-in-Mod.row c.with_some-in-Mod.result
    c.in-Mod.is c.get-in-Mod.ensures one c.in_ok-row-in-Mod.ensures.0 c.in_ok-row-in-Mod.ensures.2 c.with_some-in-Mod.ensures.checked

pub node-returns-in_ok-row-in-Weaken-clause-checked : goal.node-returns-in_ok-row-in-Weaken-clause-checked
node-returns-in_ok-row-in-Weaken-clause-checked t c =
    let f = c.args.facts.now in
    let one : to_z w128 (of_z w128 c.in-Weaken.k) ≡ c.in-Weaken.k = grind (arith, common_steps, to_z-of_z) in
    weaken_is (map rows_of c.args.outs.now) f.columns f.rows c.args.meter.now c.args.meter.now c.with_some-in-Weaken.new.meter
    c.args.cert.now
    c.in-Weaken.i c.in-Weaken.k (to_z w128 (of_z w128 c.in-Weaken.k)) c.in-Weaken.part c.get-in-Weaken.result.now c.in_ok-row-in-Weaken.row
    c.with_some-in-Weaken.result c.in-Weaken.is c.get-in-Weaken.ensures one c.in_ok-row-in-Weaken.ensures.value refl
    c.with_some-in-Weaken.ensures.checked

pub node-returns-in-Residue-clause-checked : goal.node-returns-in-Residue-clause-checked
node-returns-in-Residue-clause-checked t c =
    let f = c.args.facts.now in
    let one : to_z w128 (of_z w128 c.in-Residue.k) ≡ c.in-Residue.k = grind (arith, common_steps, to_z-of_z) in
    residue_shown (map rows_of c.args.outs.now) f.columns f.rows c.args.meter.now c.residues.new.meter c.args.cert.now c.in-Residue.form
    c.in-Residue.k (to_z w128 (of_z w128 c.in-Residue.k)) c.in-Residue.parts c.as_slice.result.now c.residues.result c.in-Residue.is one
    c.as_slice.ensures c.residues.ensures.checked

-- ---- splits
pub node-returns-then-len-facts-clause-checked : goal.node-returns-then-len-facts-clause-checked
node-returns-then-len-facts-clause-checked t c =
    let f = c.args.facts.now in
    split_none (map rows_of c.args.outs.now) f.columns f.rows c.args.meter.now c.args.cert.now c.in-Split.form c.in-Split.up c.in-Split.down
    c.in-Split.is (λ e. absurd (grind (arith, common_steps, e)))

pub node-returns-else-len-facts-clause-checked : goal.node-returns-else-len-facts-clause-checked
node-returns-else-len-facts-clause-checked t c =
    let f = c.args.facts.now in
    split_is (map rows_of c.args.outs.now) f.columns f.rows c.args.meter.now c.sides.new.meter c.args.cert.now c.in-Split.form
    c.in-Split.up c.in-Split.down c.get-in-Split.result.now c.get-in-Split-2.result.now c.sides.result c.in-Split.is c.get-in-Split.ensures
    c.get-in-Split-2.ensures (grind (arith, common_steps)) c.sides.ensures.checked

pub sides-with_row-requires : goal.sides-with_row-requires
sides-with_row-requires t c =
    let g = c.args.meter.now in
    let f = c.args.facts.now in
    let m = c.below.new.meter in
    let bits = ap (λ (k : Gauge). k.bits) (c.in_ok-opposite.ensures.2 ∙ c.in_ok-row.ensures.2) in
    let facts = facts_kept g m f.columns f.rows bits c.requires.facts in
    let outs = outs_later g m f.columns c.args.outs.now bits c.requires.outs in
    let later = within_later g m c.in_ok-row.row bits c.in_ok-row.ensures.1 in
    let fact = bound_fact m f.columns c.args.form.now c.in_ok-row.row c.in_ok-row.ensures.0 c.requires.over later in
    (omega (arith, c.decreases), search (rules, facts, outs, fact))

pub sides-with_row-requires-2 : goal.sides-with_row-requires-2
sides-with_row-requires-2 t c =
    let g = c.args.meter.now in
    let f = c.args.facts.now in
    let k = c.below.new.meter in
    let m = c.with_row.new.meter in
    let own = same_bits k m c.in_ok-yes.ensures.checked.1.charged in
    let bits = own ∙ ap (λ (w : Gauge). w.bits) (c.in_ok-opposite.ensures.2 ∙ c.in_ok-row.ensures.2) in
    let facts = facts_kept g m f.columns f.rows bits c.requires.facts in
    let outs = outs_later g m f.columns c.args.outs.now bits c.requires.outs in
    let later = within_later c.bound.new.meter m c.in_ok-opposite.opposite
    (own ∙ ap (λ (w : Gauge). w.bits) c.in_ok-opposite.ensures.2) c.in_ok-opposite.ensures.1 in
    let fact = below_fact m f.columns c.args.form.now c.in_ok-row.row c.in_ok-opposite.opposite c.in_ok-row.ensures.0
    c.in_ok-opposite.ensures.0 c.requires.over later in
    (omega (arith, c.decreases), search (rules, facts, outs, fact, c.in_ok-yes.ensures.facts))

pub sides-returns-in_err-row-clause-checked : goal.sides-returns-in_err-row-clause-checked
sides-returns-in_err-row-clause-checked t c =
    let f = c.args.facts.now in
    let found = sides_bound_cut (map rows_of c.args.outs.now) f.columns f.rows c.args.form.now c.args.up.now c.args.down.now
    c.args.meter.now c.bound.new.meter c.in_err-row.field-0.0 c.in_err-row.ensures in
    search (rules, found)

pub sides-returns-in_err-opposite-clause-checked : goal.sides-returns-in_err-opposite-clause-checked
sides-returns-in_err-opposite-clause-checked t c =
    let f = c.args.facts.now in
    let found = sides_below_cut (map rows_of c.args.outs.now) f.columns f.rows c.args.form.now c.args.up.now c.args.down.now
    c.args.meter.now c.bound.new.meter c.below.new.meter c.in_ok-row.row c.in_err-opposite.field-0.0 c.in_ok-row.ensures.2
    c.in_ok-row.ensures.0 c.in_err-opposite.ensures in
    search (rules, found)

pub sides-returns-in_err-yes-clause-checked : goal.sides-returns-in_err-yes-clause-checked
sides-returns-in_err-yes-clause-checked t c =
    let f = c.args.facts.now in
    let found = sides_up_cut (map rows_of c.args.outs.now) f.columns f.rows c.args.form.now c.args.up.now c.args.down.now
    c.args.meter.now c.below.new.meter c.with_row.new.meter c.in_ok-row.row c.in_err-yes.field-0.0
    (c.in_ok-opposite.ensures.2 ∙ c.in_ok-row.ensures.2) c.in_ok-row.ensures.0 c.in_err-yes.ensures.checked in
    search (rules, found)

pub sides-returns-then-not-yes-clause-checked : goal.sides-returns-then-not-yes-clause-checked
sides-returns-then-not-yes-clause-checked t c =
    let f = c.args.facts.now in
    let fails : c.in_ok-yes.yes ≡ false = grind arith in
    sides_no (map rows_of c.args.outs.now) f.columns f.rows c.args.form.now c.args.up.now c.args.down.now c.args.meter.now
    c.below.new.meter c.with_row.new.meter c.in_ok-row.row c.in_ok-yes.yes (c.in_ok-opposite.ensures.2 ∙ c.in_ok-row.ensures.2)
    c.in_ok-row.ensures.0 c.in_ok-yes.ensures.checked.0 c.in_ok-yes.ensures.checked.1 fails

pub sides-returns-clause-checked : goal.sides-returns-clause-checked
sides-returns-clause-checked t c =
    let f = c.args.facts.now in
    let yes' : c.in_ok-yes.yes ≡ true = grind arith in
    let same : c.with_row.new.facts ≡ f = c.in_ok-yes.ensures.facts in
    sides_end (map rows_of c.args.outs.now) f.columns f.rows c.args.form.now c.args.up.now c.args.down.now c.args.meter.now
    c.below.new.meter c.with_row.new.meter c.with_row-2.new.meter c.in_ok-row.row c.in_ok-opposite.opposite c.in_ok-yes.yes
    c.with_row-2.result (c.in_ok-opposite.ensures.2 ∙ c.in_ok-row.ensures.2) c.in_ok-row.ensures.0 c.in_ok-opposite.ensures.0
    c.in_ok-yes.ensures.checked.0 c.in_ok-yes.ensures.checked.1 yes' (rw same at c.with_row-2.ensures.checked)

-- ---- how far a node goes down
pub node-with_some-requires : goal.node-with_some-requires
node-with_some-requires t c =
    let less = one_less c.args.cert.now _ c.in-Add.part c.get.result.now c.in-Add.is
    (nodes-Add c.in-Add.i c.in-Add.a c.in-Add.j c.in-Add.b c.in-Add.part) c.get.ensures in
    (omega (arith, c.decreases, less), search rules)

pub node-with_some-requires-in-Tie : goal.node-with_some-requires-in-Tie
node-with_some-requires-in-Tie t c =
    let less = one_less c.args.cert.now _ c.in-Tie.part c.get-in-Tie.result.now c.in-Tie.is (nodes-Tie c.in-Tie.i c.in-Tie.j c.in-Tie.part)
    c.get-in-Tie.ensures in
    (omega (arith, c.decreases, less), search rules)

pub node-with_some-requires-in-Mod : goal.node-with_some-requires-in-Mod
node-with_some-requires-in-Mod t c =
    let less = one_less c.args.cert.now _ c.in-Mod.part c.get-in-Mod.result.now c.in-Mod.is (nodes-Mod c.in-Mod.i c.in-Mod.k c.in-Mod.part)
    c.get-in-Mod.ensures in
    (omega (arith, c.decreases, less), search rules)

pub node-with_some-requires-in-Weaken : goal.node-with_some-requires-in-Weaken
node-with_some-requires-in-Weaken t c =
    let less = one_less c.args.cert.now _ c.in-Weaken.part c.get-in-Weaken.result.now c.in-Weaken.is
    (nodes-Weaken c.in-Weaken.i c.in-Weaken.k c.in-Weaken.part) c.get-in-Weaken.ensures in
    (omega (arith, c.decreases, less), search rules)

pub node-with_column-requires : goal.node-with_column-requires
node-with_column-requires t c =
    let less = one_less c.args.cert.now _ c.in-Fresh.part c.get-in-Some.result.now c.in-Fresh.is (nodes-Fresh c.in-Fresh.i c.in-Fresh.part)
    c.get-in-Some.ensures in
    (omega (arith, c.decreases, less), search rules)

pub node-sides-requires : goal.node-sides-requires
node-sides-requires t c =
    let less = sides_less c.args.cert.now c.in-Split.form c.in-Split.up c.in-Split.down c.get-in-Split.result.now
    c.get-in-Split-2.result.now c.in-Split.is c.get-in-Split.ensures c.get-in-Split-2.ensures in
    (omega (arith, c.decreases, less), search rules)

pub node-residues-requires : goal.node-residues-requires
node-residues-requires t c =
    let less = residues_less c.args.cert.now c.in-Residue.form c.in-Residue.k c.in-Residue.parts c.as_slice.result.now c.in-Residue.is
    c.as_slice.ensures in
    (omega (arith, c.decreases, less), search rules)

pub node-outside-requires : goal.node-outside-requires
node-outside-requires t c =
    let less = outside_less c.args.cert.now c.in-Outside.q c.in-Outside.parts c.as_slice-in-Some-out_at.result.now c.in-Outside.is
    c.as_slice-in-Some-out_at.ensures in
    let found : slice_get c.args.outs.now c.in-Outside.q ≡ Some c.in-Some-out_at.out.now =
    sym c.out_at.ensures ∙ ap (λ o. option_map (λ r. r.now) o) c.in-Some-out_at.is in
    let out = out_within c.args.meter.now c.args.facts.now.columns c.args.outs.now c.in-Outside.q c.in-Some-out_at.out.now found
    c.requires.outs in
    (omega (arith, c.decreases, less), search (rules, out))

pub refute-node-requires : goal.refute-node-requires
refute-node-requires t c =
    let less = some_node c.args.cert.now in
    let bits = ap (λ (k : Gauge). k.bits) c.in_ok-unit.ensures.1 in
    let f = c.args.facts.now in
    let facts = facts_kept c.args.meter.now c.unit.new.self f.columns f.rows bits c.requires.facts in
    let outs = outs_later c.args.meter.now c.unit.new.self f.columns c.args.outs.now bits c.requires.outs in
    (omega (arith, c.decreases, less), search (rules, facts, outs))

pub node-returns-in-Some-out_at-clause-checked : goal.node-returns-in-Some-out_at-clause-checked
node-returns-in-Some-out_at-clause-checked t c =
    let f = c.args.facts.now in
    let found : slice_get c.args.outs.now c.in-Outside.q ≡ Some c.in-Some-out_at.out.now =
    sym c.out_at.ensures ∙ ap (λ o. option_map (λ r. r.now) o) c.in-Some-out_at.is in
    outside_is (map rows_of c.args.outs.now) f.columns f.rows c.args.meter.now c.outside.new.meter c.args.cert.now c.in-Outside.q
    c.in-Outside.parts c.as_slice-in-Some-out_at.result.now c.in-Some-out_at.out.now.rows c.outside.result c.in-Outside.is
    c.as_slice-in-Some-out_at.ensures (out_at c.args.outs.now c.in-Outside.q c.in-Some-out_at.out.now found) c.outside.ensures.checked

pub node-returns-in-None-out_at-clause-checked : goal.node-returns-in-None-out_at-clause-checked
node-returns-in-None-out_at-clause-checked t c =
    let f = c.args.facts.now in
    let none : slice_get c.args.outs.now c.in-Outside.q ≡ None =
    sym c.out_at.ensures ∙ ap (λ o. option_map (λ r. r.now) o) c.in-None-out_at.is in
    outside_none (map rows_of c.args.outs.now) f.columns f.rows c.args.meter.now c.args.meter.now c.args.cert.now c.in-Outside.q
    c.in-Outside.parts c.in-Outside.is (no_out_at c.args.outs.now c.in-Outside.q none) refl
