use Rattle.std.proofs.Common.{◌≡◌, ◌∙◌, pos, arith, rules, to_z, of_z, to_z-of_z}
use Rattle.std.specs.Int.{w128}
use Rattle.isl_tree.specs.declared.tree.Factor.{Inner}
use Rattle.isl_plain.proofs.RemainderLaws.{found_remainder}
use Rattle.isl_plain.proofs.remainder.remainder_by.Goals as goal

pub returns-in-Inner : goal.returns-in-Inner
returns-in-Inner c =
    let is : c.args.factor.now ≡ Inner c.as_slice.result.now = search rules in
    let back : to_z w128 (of_z w128 c.first_number.result) ≡ c.first_number.result = grind (arith, to_z-of_z) in
    found_remainder c.args.factor.now c.args.moduli.now c.as_slice.result.now (pos 0) _ is c.in-len1.len_at_least c.in-len1.len_below
    (back ∙ c.first_number.ensures)
