use Rattle.std.proofs.Common.{◌≡◌, ◌∙◌, ◌++◌, ◌∷◌, [], ◌<ℤ◌, pos, refl, sym, ap, ap₂, subst, arith, ℕ, ℤ, List, length, get_or, to_z-of_z}
use Rattle.std.proofs.Common.{to_z, of_z}
use Rattle.std.specs.Int.{w128}
use Rattle.std.proofs.lemmas.Grind.{common_steps}
use Rattle.isl_meter.proofs.LimitLemmas.{IsWithin-zero}
use Rattle.isl_piece.specs.declared.definition.Definition.{Definition}
use Rattle.isl_piece.specs.Definition.{IsDefinition}
use Rattle.isl_piece.specs.declared.system.System.{System}
use Rattle.isl_piece.specs.System.{free_columns, with_definition}
use Rattle.isl_greatest.proofs.CandidateLaws.{definition_of, definition_sound}
use Rattle.isl_greatest.proofs.QuestionLaws.{both_frame, both_numbers, definition_same, wider, wider_sound}
use Rattle.isl_greatest.proofs.question.both.Goals as goal

pub define-requires-clause-columns : goal.define-requires-clause-columns
define-requires-clause-columns c =
    let g = c.args.meter.now in
    let chosen = c.args.chosen.now in
    let n = free_columns chosen in
    let d = c.index-as_slice-defined.result in
    let own = definition_of g n chosen c.args.best.now d c.requires.best
    (c.index-as_slice-defined.is ∙ ap₂ (λ (l : List Definition) (i : ℕ). get_or l i d) c.as_slice.ensures c.defined.ensures) in
    let slice : c.as_slice-3.result.now ≡ d.coefs ++ pos 0 ∷ [] = grind (arith, common_steps) in
    ap length slice ∙ (wider_sound g n chosen c.args.best.now c.args.cur.now c.in_ok-both.both (with_definition c.in_ok-both.both (wider d)) d
    c.requires.chosen c.requires.best c.requires.cur own c.in_ok-both.ensures refl (IsWithin-zero g)).width
    ∙ ap (λ (s : System). s.columns) (sym c.in_ok-both.ensures)

pub define-requires-clause-modulus : goal.define-requires-clause-modulus
define-requires-clause-modulus c =
    let g = c.args.meter.now in
    let chosen = c.args.chosen.now in
    let n = free_columns chosen in
    let d = c.index-as_slice-defined.result in
    let own = definition_of g n chosen c.args.best.now d c.requires.best
    (c.index-as_slice-defined.is ∙ ap₂ (λ (l : List Definition) (i : ℕ). get_or l i d) c.as_slice.ensures c.defined.ensures) in
    let sound = definition_sound g n chosen c.args.best.now c.requires.best c.requires.chosen in
    let k : to_z w128 (of_z w128 d.k) ≡ d.k = grind (arith, common_steps, to_z-of_z) in
    subst (λ (z : ℤ). pos 0 <ℤ z) (sym (k ∙ ap (λ (e : Definition). e.k) own)) sound.modulus

pub returns-clause-frame : goal.returns-clause-frame
returns-clause-frame c =
    let g = c.args.meter.now in
    let chosen = c.args.chosen.now in
    let n = free_columns chosen in
    let d = c.index-as_slice-defined.result in
    let own = definition_of g n chosen c.args.best.now d c.requires.best
    (c.index-as_slice-defined.is ∙ ap₂ (λ (l : List Definition) (i : ℕ). get_or l i d) c.as_slice.ensures c.defined.ensures) in
    let slice : c.as_slice-3.result.now ≡ d.coefs ++ pos 0 ∷ [] = grind (arith, common_steps) in
    let constant : to_z w128 (of_z w128 d.constant) ≡ d.constant = grind (arith, common_steps, to_z-of_z) in
    let k : to_z w128 (of_z w128 d.k) ≡ d.k = grind (arith, common_steps, to_z-of_z) in
    let made = c.in_ok-define.ensures.exact
    ∙ definition_same c.in_ok-both.both c.as_slice-3.result.now (d.coefs ++ pos 0 ∷ []) _ d.constant _ d.k slice constant k in
    both_frame g n chosen c.args.best.now c.args.cur.now c.in_ok-both.both c.define.new.self d c.requires.chosen c.requires.best c.requires.cur own
    c.in_ok-both.ensures made (IsWithin-zero g)

pub returns-clause-numbers : goal.returns-clause-numbers
returns-clause-numbers c v long =
    let g = c.args.meter.now in
    let chosen = c.args.chosen.now in
    let n = free_columns chosen in
    let d = c.index-as_slice-defined.result in
    let own = definition_of g n chosen c.args.best.now d c.requires.best
    (c.index-as_slice-defined.is ∙ ap₂ (λ (l : List Definition) (i : ℕ). get_or l i d) c.as_slice.ensures c.defined.ensures) in
    let slice : c.as_slice-3.result.now ≡ d.coefs ++ pos 0 ∷ [] = grind (arith, common_steps) in
    let constant : to_z w128 (of_z w128 d.constant) ≡ d.constant = grind (arith, common_steps, to_z-of_z) in
    let k : to_z w128 (of_z w128 d.k) ≡ d.k = grind (arith, common_steps, to_z-of_z) in
    let made = c.in_ok-define.ensures.exact
    ∙ definition_same c.in_ok-both.both c.as_slice-3.result.now (d.coefs ++ pos 0 ∷ []) _ d.constant _ d.k slice constant k in
    both_numbers g n chosen c.args.best.now c.args.cur.now c.in_ok-both.both c.define.new.self d c.requires.chosen c.requires.best c.requires.cur own
    c.in_ok-both.ensures made (IsWithin-zero g) v long
