use Rattle.std.proofs.Common.{◌≡◌, ◌∙◌, ◌++◌, ◌∷◌, [], ◌<ℤ◌, ◌-ℤ◌, pos, sym, ap, ap₂, subst, arith, ℕ, ℤ, List, length, get_or, to_z-of_z, to_z, of_z}
use Rattle.std.specs.Int.{w128}
use Rattle.std.specs.List.{All}
use Rattle.std.proofs.lemmas.Grind.{common_steps}
use Rattle.isl_meter.specs.Gauge.{IsWithin}
use Rattle.isl_piece.specs.declared.definition.Definition.{Definition}
use Rattle.isl_piece.specs.Definition.{IsDefinition}
use Rattle.isl_piece.specs.System.{free_columns}
use Rattle.isl_greatest.specs.State.{full}
use Rattle.isl_greatest.proofs.CandidateLaws.{definition_of, definition_sound, floor_same, lower_number, number_push}
use Rattle.isl_greatest.proofs.candidate.below.Goals as goal

pub candidate-requires-clause-columns : goal.candidate-requires-clause-columns
candidate-requires-clause-columns c =
    let chosen = c.args.chosen.now in
    let d = c.index-as_slice-defined.result in
    let own = definition_of c.args.meter.now (free_columns chosen) chosen c.args.cur.now d c.requires.candidate
    (c.index-as_slice-defined.is ∙ ap₂ (λ (l : List Definition) (i : ℕ). get_or l i d) c.as_slice.ensures c.defined.ensures) in
    let sound = definition_sound c.args.meter.now (free_columns chosen) chosen c.args.cur.now c.requires.candidate c.requires.chosen in
    ap length (c.as_slice-3.ensures.value ∙ c.in_ok-coefs.ensures ∙ c.as_slice-2.ensures) ∙ ap (λ (e : Definition). length e.coefs) own ∙ sound.width

pub candidate-requires-clause-modulus : goal.candidate-requires-clause-modulus
candidate-requires-clause-modulus c =
    let chosen = c.args.chosen.now in
    let d = c.index-as_slice-defined.result in
    let own = definition_of c.args.meter.now (free_columns chosen) chosen c.args.cur.now d c.requires.candidate
    (c.index-as_slice-defined.is ∙ ap₂ (λ (l : List Definition) (i : ℕ). get_or l i d) c.as_slice.ensures c.defined.ensures) in
    let sound = definition_sound c.args.meter.now (free_columns chosen) chosen c.args.cur.now c.requires.candidate c.requires.chosen in
    let k : to_z w128 (of_z w128 d.k) ≡ d.k = grind (arith, common_steps, to_z-of_z) in
    subst (λ (z : ℤ). pos 0 <ℤ z) (sym (k ∙ ap (λ (e : Definition). e.k) own)) sound.modulus

pub returns : goal.returns
returns c =
    let g = c.args.meter.now in
    let chosen = c.args.chosen.now in
    let d = c.index-as_slice-defined.result in
    let own = definition_of g (free_columns chosen) chosen c.args.cur.now d c.requires.candidate
    (c.index-as_slice-defined.is ∙ ap₂ (λ (l : List Definition) (i : ℕ). get_or l i d) c.as_slice.ensures c.defined.ensures) in
    let sound' = definition_sound g (free_columns chosen) chosen c.args.cur.now c.requires.candidate c.requires.chosen in
    let sound : IsDefinition g chosen.columns d = subst (IsDefinition g chosen.columns) (sym own) sound' in
    let slice : c.as_slice-3.result.now ≡ d.coefs = c.as_slice-3.ensures.value ∙ c.in_ok-coefs.ensures ∙ c.as_slice-2.ensures in
    let k : to_z w128 (of_z w128 d.k) ≡ d.k = grind (arith, common_steps, to_z-of_z) in
    let number' : to_z w128 (of_z w128 c.get.result) ≡ c.in_ok-constant.constant = grind (arith, common_steps, to_z-of_z) in
    let less : c.in_ok-constant.constant ≡ d.constant -ℤ d.k = grind (arith, common_steps, to_z-of_z) in
    let within : IsWithin g c.in_ok-constant.constant = grind (arith, common_steps) in (
      c.in_ok-lower.ensures.made g (free_columns chosen) c.requires.chosen (subst (All (IsWithin g)) (sym slice) sound.coefs)
          (subst (IsWithin g) (sym number') within) (subst (IsWithin g) (sym k) sound.k),
      λ v.
          c.in_ok-lower.ensures.number v
          ∙ floor_same c.as_slice-3.result.now d.coefs (full chosen v) (to_z w128 (of_z w128 c.get.result)) c.in_ok-constant.constant
          (to_z w128 (of_z w128 d.k)) d.k slice number' k
          ∙ lower_number d (full chosen v) c.in_ok-constant.constant less sound.modulus
          ∙ ap (λ z. z -ℤ pos 1) (sym (number_push chosen c.args.cur.now d v
          (c.requires.candidate.is ∙ ap (λ (e : Definition). chosen.definitions ++ e ∷ []) (sym own)))),
      grind (arith, common_steps),
    )
