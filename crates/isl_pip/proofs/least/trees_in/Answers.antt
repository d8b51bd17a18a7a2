use Rattle.std.proofs.Common.{◌≡◌, ◌∙◌, ◌+◌, ◌++◌, ◌∷◌, [], ◌<◌, ◌≤◌, refl, sym, ap, subst, arith, List, length, map, take}
use Rattle.std.specs.List.{All}
use Rattle.std.proofs.lemmas.Result.{err_from_is_err_and}
use Rattle.std.proofs.lemmas.List.{map-append, take_all}
use Rattle.isl_math.proofs.ListLaws.{All-unmapped}
use Rattle.isl_meter.proofs.CutLemmas.{IsCharged_refl, IsCharged_trans}
use Rattle.isl_space.specs.Space.{space_form_of}
use Rattle.isl_space.specs.SpaceForm.{SpaceForm, IsNarrowSpace, IsWellFormedSpace}
use Rattle.isl_quast.specs.declared.tree.Quast.{Quast}
use Rattle.isl_quast.specs.ForestText.{SpaceTree}
use Rattle.isl_greatest.proofs.FaultLaws.{later_fault, no_memory}
use Rattle.isl_pip.specs.declared.order.Titled.{Titled}
use Rattle.isl_pip.specs.Trees.{IsTreeIn, ThereIsFirst}
use Rattle.isl_pip.proofs.LevelLaws.{more_is, one_of}
use Rattle.isl_pip.proofs.TreesLaws.{so_far_more, so_far_none, AreSoFar}
use Rattle.isl_pip.proofs.ValueLaws.{pieces_later}
use Rattle.isl_pip.proofs.least.trees_in.Goals as goal

pub loop-titled-init : goal.loop-titled-init
loop-titled-init c =
    so_far_none c.args.meter.now c.args.meter.now c.args.params.now c.args.pieces.now c.new-trees.result.items
    (IsCharged_refl c.args.meter.now c.args.meter.now refl) c.new-trees.ensures.items

pub tree_in-requires : goal.tree_in-requires
tree_in-requires c =
    let spaces = c.args.spaces.now in
    let i = c.loop-titled.titled-index in
    let inside : i < length spaces = omega arith in
    record {
      names = c.requires.names;
      formed = one_of (λ t. IsWellFormedSpace (space_form_of t.space)) spaces i c.titled-item.result inside c.titled-item.is c.requires.formed;
      pieces = pieces_later c.args.meter.now c.loop-titled.meter c.args.params.now c.args.pieces.now c.loop-titled.invariant.charged c.requires.pieces;
    }

pub new-requires : goal.new-requires
new-requires c =
    let spaces = c.args.spaces.now in
    let inside : c.loop-titled.titled-index < length spaces = omega arith in
    let formed = one_of (λ t. IsWellFormedSpace (space_form_of t.space)) spaces c.loop-titled.titled-index c.titled-item.result inside c.titled-item.is
    c.requires.formed in
    subst IsNarrowSpace (sym c.in_ok-space.ensures) formed.narrow

pub loop-titled-preserved : goal.loop-titled-preserved
loop-titled-preserved c =
    let g = c.args.meter.now in
    let params = c.args.params.now in
    let pieces = c.args.pieces.now in
    let spaces = c.args.spaces.now in
    let i = c.loop-titled.titled-index in
    let t = c.titled-item.result in
    let s = space_form_of t.space in
    let inside : i < length spaces = omega arith in
    let told = c.in_ok-tree.ensures in
    let own = c.new.ensures ∙ ap (λ (f : SpaceForm). let q : SpaceTree = record { space = f; tree = c.in_ok-tree.tree } in q) c.in_ok-space.ensures in
    let more : map (λ x. space_form_of x.space) (take (i + 1) spaces) ≡ map (λ x. space_form_of x.space) (take i spaces) ++ s ∷ [] =
    ap (map (λ (x : Titled). space_form_of x.space)) (more_is spaces i t inside c.titled-item.is) ∙ map-append (λ (x : Titled). space_form_of x.space) (take i spaces) (t ∷ []) in
    subst (λ (ss : List SpaceForm). AreSoFar g c.tree_in.new.meter params pieces ss c.push.new.self.items) (sym more)
    (so_far_more g c.loop-titled.meter c.tree_in.new.meter params pieces (map (λ x. space_form_of x.space) (take i spaces)) s c.loop-titled.trees.items
    c.push.new.self.items c.in_ok-tree.tree c.new.result c.loop-titled.invariant told.meter.1 told.tree told.meter.0 own c.in_ok-push.ensures.items)

pub returns-clause-spaces : goal.returns-clause-spaces
returns-clause-spaces c =
    let spaces = c.args.spaces.now in
    let end : length spaces ≤ c.loop-titled.titled-index = omega arith in
    c.loop-titled.invariant.spaces ∙ ap (map (λ (x : Titled). space_form_of x.space)) (take_all c.loop-titled.titled-index spaces end)

pub returns-clause-trees : goal.returns-clause-trees
returns-clause-trees c = c.loop-titled.invariant.trees

pub returns-clause-meter : goal.returns-clause-meter
returns-clause-meter c =
    let params = c.args.params.now in
    let pieces = c.args.pieces.now in
    let spaces = c.args.spaces.now in
    let end : length spaces ≤ c.loop-titled.titled-index = omega arith in
    let all = subst (λ (l : List Titled). All (ThereIsFirst params pieces) (map (λ x. space_form_of x.space) l))
    (take_all c.loop-titled.titled-index spaces end) c.loop-titled.invariant.there in
    (All-unmapped (ThereIsFirst params pieces) (λ (x : Titled). space_form_of x.space) spaces all, c.loop-titled.invariant.charged)

pub returns-in_err-tree-clause-meter : goal.returns-in_err-tree-clause-meter
returns-in_err-tree-clause-meter c =
    let g = c.args.meter.now in
    let params = c.args.params.now in
    let pieces = c.args.pieces.now in
    let spaces = c.args.spaces.now in
    let t = c.titled-item.result in
    let inside : c.loop-titled.titled-index < length spaces = omega arith in
    let error = err_from_is_err_and c.from_residual-in_err-tree.result c.from_residual-in_err-tree.ensures.1 in
    rw (error.1, error.2)
    (later_fault (¬ All (λ x. ThereIsFirst params pieces (space_form_of x.space)) spaces) (¬ ThereIsFirst params pieces (space_form_of t.space))
    (λ missing all. missing (one_of (λ x. ThereIsFirst params pieces (space_form_of x.space)) spaces c.loop-titled.titled-index t inside c.titled-item.is all))
    g c.loop-titled.meter c.tree_in.new.meter c.in_err-tree.field-0.0 c.loop-titled.invariant.charged c.in_err-tree.ensures.meter)

pub returns-in_err-space-clause-meter : goal.returns-in_err-space-clause-meter
returns-in_err-space-clause-meter c =
    let g = c.args.meter.now in
    let params = c.args.params.now in
    let pieces = c.args.pieces.now in
    let spaces = c.args.spaces.now in
    let error = err_from_is_err_and c.from_residual.result c.from_residual.ensures.1 in
    rw error.1
    (no_memory (¬ All (λ x. ThereIsFirst params pieces (space_form_of x.space)) spaces) g c.loop-titled.meter error.0 error.2 c.loop-titled.invariant.charged)

pub returns-in_err-push-clause-meter : goal.returns-in_err-push-clause-meter
returns-in_err-push-clause-meter c =
    let g = c.args.meter.now in
    let params = c.args.params.now in
    let pieces = c.args.pieces.now in
    let spaces = c.args.spaces.now in
    let error = err_from_is_err_and c.from_residual-in_err-push.result c.from_residual-in_err-push.ensures.1 in
    rw error.1
    (no_memory (¬ All (λ x. ThereIsFirst params pieces (space_form_of x.space)) spaces) g c.tree_in.new.meter error.0 error.2
    (IsCharged_trans g c.loop-titled.meter c.tree_in.new.meter c.loop-titled.invariant.charged c.in_ok-tree.ensures.meter.1))
