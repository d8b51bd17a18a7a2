use Rattle.std.proofs.Common.{◌≡◌, ◌∙◌, refl, sym, ap, subst, List, get_or, map}
use Rattle.std.specs.List.{All}
use Rattle.std.proofs.lemmas.List.Elements.{All-map}
use Rattle.std.proofs.lemmas.Result.{err_from_is_err_and}
use Rattle.isl_math.proofs.ListLaws.{All-unmapped}
use Rattle.isl_meter.proofs.CutLemmas.{IsCharged_trans}
use Rattle.isl_space.specs.Names.{IsParameterList}
use Rattle.isl_space.specs.Space.{space_form_of}
use Rattle.isl_space.specs.SpaceForm.{SpaceForm, IsWellFormedSpace}
use Rattle.isl_relation.specs.Extremes.{HasFirstEverywhere}
use Rattle.isl_relation.specs.Orders.{ComesBefore}
use Rattle.isl_greatest.proofs.FaultLaws.{later_fault}
use Rattle.isl_pip.specs.declared.order.Titled.{Titled}
use Rattle.isl_pip.specs.Trees.{ThereIsFirst}
use Rattle.isl_pip.proofs.TreesLaws.{trees_kept}
use Rattle.isl_pip.proofs.ValueLaws.{everywhere_from, everywhere_to, flat_plain, forest_made, forest_within, lies_in, spaces_formed, spaces_of_value, tree_of}
use Rattle.isl_pip.proofs.least.pip.Goals as goal

pub trees_in-requires : goal.trees_in-requires
trees_in-requires c =
    let g = c.args.meter.now in
    let h = c.flat.new.meter in
    let a = c.args.a.now in
    let flat = c.in_ok-flat.flat in
    let params = c.in_ok-params.params in
    let pieces = c.pieces-2.result.now in
    let names = c.in_ok-params.ensures ∙ c.params.ensures.content in
    let content = c.pieces-2.ensures.content in
    let same = c.in_ok-flat.ensures.elements in
    let charged = c.in_ok-flat.ensures.meter in
    let form : Titled → SpaceForm = λ t. space_form_of t.space in
    let titled = c.in_ok-spaces.spaces.items in
    let spaces = map form titled in
    let are = c.in_ok-spaces.ensures in
    let formed = All-unmapped IsWellFormedSpace form titled (spaces_formed a.params c.pieces.result.now spaces c.pieces.ensures.well_formed are) in
    record {
      names = subst IsParameterList (sym c.in_ok-params.ensures) c.params.ensures.well_formed;
      formed = subst (λ (l : List Titled). All (λ t. IsWellFormedSpace (space_form_of t.space)) l) (sym c.as_slice.ensures.value) formed;
      pieces = flat_plain a flat params pieces names content g h charged c.pieces-2.ensures.well_formed c.in_ok-flat.ensures.numbers
          c.in_ok-flat.ensures.definitions;
    }

pub returns-clause-forest : goal.returns-clause-forest
returns-clause-forest c =
    let g = c.args.meter.now in
    let h = c.flat.new.meter in
    let a = c.args.a.now in
    let flat = c.in_ok-flat.flat in
    let params = c.in_ok-params.params in
    let pieces = c.pieces-2.result.now in
    let names = c.in_ok-params.ensures ∙ c.params.ensures.content in
    let content = c.pieces-2.ensures.content in
    let same = c.in_ok-flat.ensures.elements in
    let charged = c.in_ok-flat.ensures.meter in
    let form : Titled → SpaceForm = λ t. space_form_of t.space in
    let titled = c.in_ok-spaces.spaces.items in
    let spaces = map form titled in
    let are = c.in_ok-spaces.ensures in
    let trees = c.in_ok-trees.trees.items in
    let own = names ∙ c.in_ok-flat.ensures.params in
    forest_made g a params pieces spaces trees c.new.result c.new.ensures own
    (c.in_ok-trees.ensures.spaces ∙ ap (map form) c.as_slice.ensures.value)
    (spaces_of_value a c.pieces.result.now c.pieces.ensures.content spaces are.order)
    (λ space tree made. tree_of a flat params pieces names content same g space tree own made)
    (trees_kept g h params pieces trees charged c.in_ok-trees.ensures.trees)

pub returns-clause-numbers : goal.returns-clause-numbers
returns-clause-numbers c =
    let g = c.args.meter.now in
    let h = c.flat.new.meter in
    let a = c.args.a.now in
    let flat = c.in_ok-flat.flat in
    let params = c.in_ok-params.params in
    let pieces = c.pieces-2.result.now in
    let names = c.in_ok-params.ensures ∙ c.params.ensures.content in
    let content = c.pieces-2.ensures.content in
    let same = c.in_ok-flat.ensures.elements in
    let charged = c.in_ok-flat.ensures.meter in
    let form : Titled → SpaceForm = λ t. space_form_of t.space in
    let titled = c.in_ok-spaces.spaces.items in
    let spaces = map form titled in
    let are = c.in_ok-spaces.ensures in
    let trees = c.in_ok-trees.trees.items in
    forest_within g params pieces trees c.new.result c.new.ensures (trees_kept g h params pieces trees charged c.in_ok-trees.ensures.trees)

pub returns-clause-there : goal.returns-clause-there
returns-clause-there c =
    let g = c.args.meter.now in
    let h = c.flat.new.meter in
    let a = c.args.a.now in
    let flat = c.in_ok-flat.flat in
    let params = c.in_ok-params.params in
    let pieces = c.pieces-2.result.now in
    let names = c.in_ok-params.ensures ∙ c.params.ensures.content in
    let content = c.pieces-2.ensures.content in
    let same = c.in_ok-flat.ensures.elements in
    let charged = c.in_ok-flat.ensures.meter in
    let form : Titled → SpaceForm = λ t. space_form_of t.space in
    let titled = c.in_ok-spaces.spaces.items in
    let spaces = map form titled in
    let are = c.in_ok-spaces.ensures in
    let all = subst (λ (l : List Titled). All (λ t. ThereIsFirst params pieces (space_form_of t.space)) l) c.as_slice.ensures.value
    c.in_ok-trees.ensures.meter.0 in (
      everywhere_from a flat params pieces names content same spaces (lies_in a c.pieces.result.now c.pieces.ensures.content spaces are.order are.all)
          (All-map (ThereIsFirst params pieces) form titled all),
      IsCharged_trans g h c.trees_in.new.meter charged c.in_ok-trees.ensures.meter.1,
    )

pub returns-in_err-trees-clause-there : goal.returns-in_err-trees-clause-there
returns-in_err-trees-clause-there c =
    let g = c.args.meter.now in
    let h = c.flat.new.meter in
    let a = c.args.a.now in
    let flat = c.in_ok-flat.flat in
    let params = c.in_ok-params.params in
    let pieces = c.pieces-2.result.now in
    let names = c.in_ok-params.ensures ∙ c.params.ensures.content in
    let content = c.pieces-2.ensures.content in
    let same = c.in_ok-flat.ensures.elements in
    let charged = c.in_ok-flat.ensures.meter in
    let form : Titled → SpaceForm = λ t. space_form_of t.space in
    let titled = c.in_ok-spaces.spaces.items in
    let spaces = map form titled in
    let are = c.in_ok-spaces.ensures in
    let slice = c.as_slice.result.now in
    let error = err_from_is_err_and c.from_residual-in_err-trees.result c.from_residual-in_err-trees.ensures.1 in
    rw (error.1, error.2)
    (later_fault (¬ HasFirstEverywhere ComesBefore a) (¬ All (λ t. ThereIsFirst params pieces (space_form_of t.space)) slice)
    (λ missing there. missing (λ k d l. everywhere_to a flat params pieces names content same there (space_form_of (get_or slice k d).space)))
    g h c.trees_in.new.meter c.in_err-trees.field-0.0 charged c.in_err-trees.ensures.meter)
