use Rattle.std.proofs.Common.{◌≡◌, ◌≢◌, ◌∙◌, ◌+◌, ◌<◌, ◌≤◌, ◌^◌, refl, sym, ap, subst, arith, ℕ, List}
use Rattle.std.proofs.lemmas.Grind.{common_steps}
use Rattle.std.proofs.lemmas.Result.{err_from_is_err_and}
use Rattle.isl_space.specs.Space.{space_form_of}
use Rattle.isl_piece.specs.declared.system.System.{System}
use Rattle.isl_union.specs.Minus.{systems_in}
use Rattle.isl_quast.specs.Tree.{HasWidth}
use Rattle.isl_greatest.proofs.FaultLaws.{same_fault}
use Rattle.isl_pip.specs.Behind.{chosen_width, ArePutBehind}
use Rattle.isl_pip.specs.Greatest.{HaveGreatest, IsGreatestTree}
use Rattle.isl_pip.specs.Least.{front_width, leaf_width}
use Rattle.isl_pip.specs.Levels.{ArePlainOver}
use Rattle.isl_pip.specs.Trees.{ThereIsFirst}
use Rattle.isl_pip.proofs.TreeLaws.{columns_fit, systems_plain}
use Rattle.isl_pip.proofs.TreeMade.{chosen_few, chosen_positive, greatest_same, have_from, have_same, made_bare, made_whole, put_same}
use Rattle.isl_pip.proofs.least.tree_in.Goals as goal

pub put_behind-requires : goal.put_behind-requires
put_behind-requires c =
    let g = c.args.meter.now in
    let params = c.args.params.now in
    let space = space_form_of c.args.space.now in
    let pieces = c.args.pieces.now in
    let front = c.front_of-front.ensures in
    let width = c.width_of-width.ensures in
    let systems : c.as_slice.result.now ≡ systems_in space pieces = c.as_slice.ensures.value ∙ c.in_ok-systems.ensures in
    let own = systems_plain g params space pieces c.requires.pieces in
    let fits = columns_fit params space c.requires.names c.requires.formed in
    record {
      systems = subst (λ (l : List System). ArePlainOver g (c.front_of-front.result + c.width_of-width.result) l) (sym systems)
          (subst (λ k. ArePlainOver g (c.front_of-front.result + k) (systems_in space pieces)) (sym width)
          (subst (λ k. ArePlainOver g (k + leaf_width space) (systems_in space pieces)) (sym front) own));
      fits = omega (arith, front, width, fits);
    }

pub greatest_in-requires : goal.greatest_in-requires
greatest_in-requires c =
    let g = c.args.meter.now in
    let params = c.args.params.now in
    let space = space_form_of c.args.space.now in
    let made = c.in_ok-made.made.items in
    let front = c.front_of-front.ensures in
    let width = c.width_of-width.ensures in
    let chosen = c.chosen_of-chosen.ensures in
    let some = chosen_positive c.width_of-width.result in
    let few = chosen_few c.width_of-width.result in
    let fits = columns_fit params space c.requires.names c.requires.formed in
    record {
      systems = subst (λ k. ArePlainOver g (c.front_of-front.result + k) made) (sym chosen) c.in_ok-made.ensures.plain;
      some = omega (arith, chosen, some);
      at = omega arith;
      fits = omega (arith, front, width, chosen, few, fits);
    }

pub without-requires : goal.without-requires
without-requires c =
    let none : c.width_of-width.result ≡ 0 = grind (arith, common_steps) in
    let chosen : c.chosen_of-chosen.result ≡ 1 = c.chosen_of-chosen.ensures ∙ ap chosen_width none in
    record { inside = omega arith; leaves = subst (λ k. HasWidth k c.in_ok-tree.tree) chosen c.in_ok-tree.ensures.tree.width }

pub returns-then-width-eq0-clause-tree : goal.returns-then-width-eq0-clause-tree
returns-then-width-eq0-clause-tree c =
    let g = c.args.meter.now in
    let params = c.args.params.now in
    let space = space_form_of c.args.space.now in
    let pieces = c.args.pieces.now in
    let n = front_width params space in
    let w = leaf_width space in
    let made = c.in_ok-made.made.items in
    let front = c.front_of-front.ensures in
    let width = c.width_of-width.ensures in
    let systems : c.as_slice.result.now ≡ systems_in space pieces = c.as_slice.ensures.value ∙ c.in_ok-systems.ensures in
    let chosen : c.chosen_of-chosen.result ≡ chosen_width w = c.chosen_of-chosen.ensures ∙ ap chosen_width width in
    let put : ArePutBehind g n w (systems_in space pieces) made =
    put_same g c.front_of-front.result n c.width_of-width.result w c.as_slice.result.now (systems_in space pieces) made front width systems
    c.in_ok-made.ensures in
    let tree = c.in_ok-tree.tree in
    let greatest = greatest_same g c.front_of-front.result n c.chosen_of-chosen.result (chosen_width w) made tree front chosen c.in_ok-tree.ensures.tree in
    let none : c.width_of-width.result ≡ 0 = grind (arith, common_steps) in
    let bare = c.in_ok-bare.ensures in
    (made_bare g params pieces space c.requires.pieces made put tree greatest (sym width ∙ none) c.in_ok-bare.bare bare.gives (bare.over g n) bare.leaves).0

pub returns-then-width-eq0-clause-meter : goal.returns-then-width-eq0-clause-meter
returns-then-width-eq0-clause-meter c =
    let g = c.args.meter.now in
    let params = c.args.params.now in
    let space = space_form_of c.args.space.now in
    let pieces = c.args.pieces.now in
    let n = front_width params space in
    let w = leaf_width space in
    let made = c.in_ok-made.made.items in
    let front = c.front_of-front.ensures in
    let width = c.width_of-width.ensures in
    let systems : c.as_slice.result.now ≡ systems_in space pieces = c.as_slice.ensures.value ∙ c.in_ok-systems.ensures in
    let chosen : c.chosen_of-chosen.result ≡ chosen_width w = c.chosen_of-chosen.ensures ∙ ap chosen_width width in
    let put : ArePutBehind g n w (systems_in space pieces) made =
    put_same g c.front_of-front.result n c.width_of-width.result w c.as_slice.result.now (systems_in space pieces) made front width systems
    c.in_ok-made.ensures in
    let tree = c.in_ok-tree.tree in
    let greatest = greatest_same g c.front_of-front.result n c.chosen_of-chosen.result (chosen_width w) made tree front chosen c.in_ok-tree.ensures.tree in
    let none : c.width_of-width.result ≡ 0 = grind (arith, common_steps) in
    let bare = c.in_ok-bare.ensures in (
      (made_bare g params pieces space c.requires.pieces made put tree greatest (sym width ∙ none) c.in_ok-bare.bare bare.gives (bare.over g n) bare.leaves).1,
      c.in_ok-tree.ensures.meter,
    )

pub returns-clause-tree : goal.returns-clause-tree
returns-clause-tree c =
    let g = c.args.meter.now in
    let params = c.args.params.now in
    let space = space_form_of c.args.space.now in
    let pieces = c.args.pieces.now in
    let n = front_width params space in
    let w = leaf_width space in
    let made = c.in_ok-made.made.items in
    let front = c.front_of-front.ensures in
    let width = c.width_of-width.ensures in
    let systems : c.as_slice.result.now ≡ systems_in space pieces = c.as_slice.ensures.value ∙ c.in_ok-systems.ensures in
    let chosen : c.chosen_of-chosen.result ≡ chosen_width w = c.chosen_of-chosen.ensures ∙ ap chosen_width width in
    let put : ArePutBehind g n w (systems_in space pieces) made =
    put_same g c.front_of-front.result n c.width_of-width.result w c.as_slice.result.now (systems_in space pieces) made front width systems
    c.in_ok-made.ensures in
    let tree = c.in_ok-tree.tree in
    let greatest = greatest_same g c.front_of-front.result n c.chosen_of-chosen.result (chosen_width w) made tree front chosen c.in_ok-tree.ensures.tree in
    let some : c.width_of-width.result ≢ 0 = grind (arith, common_steps) in
    (made_whole g params pieces space c.requires.pieces made put tree greatest (λ e. some (width ∙ e))).0

pub returns-clause-meter : goal.returns-clause-meter
returns-clause-meter c =
    let g = c.args.meter.now in
    let params = c.args.params.now in
    let space = space_form_of c.args.space.now in
    let pieces = c.args.pieces.now in
    let n = front_width params space in
    let w = leaf_width space in
    let made = c.in_ok-made.made.items in
    let front = c.front_of-front.ensures in
    let width = c.width_of-width.ensures in
    let systems : c.as_slice.result.now ≡ systems_in space pieces = c.as_slice.ensures.value ∙ c.in_ok-systems.ensures in
    let chosen : c.chosen_of-chosen.result ≡ chosen_width w = c.chosen_of-chosen.ensures ∙ ap chosen_width width in
    let put : ArePutBehind g n w (systems_in space pieces) made =
    put_same g c.front_of-front.result n c.width_of-width.result w c.as_slice.result.now (systems_in space pieces) made front width systems
    c.in_ok-made.ensures in
    let tree = c.in_ok-tree.tree in
    let greatest = greatest_same g c.front_of-front.result n c.chosen_of-chosen.result (chosen_width w) made tree front chosen c.in_ok-tree.ensures.tree in
    let some : c.width_of-width.result ≢ 0 = grind (arith, common_steps) in
    ((made_whole g params pieces space c.requires.pieces made put tree greatest (λ e. some (width ∙ e))).1, c.in_ok-tree.ensures.meter)

pub returns-in_err-tree-clause-meter : goal.returns-in_err-tree-clause-meter
returns-in_err-tree-clause-meter c =
    let g = c.args.meter.now in
    let params = c.args.params.now in
    let space = space_form_of c.args.space.now in
    let pieces = c.args.pieces.now in
    let n = front_width params space in
    let w = leaf_width space in
    let made = c.in_ok-made.made.items in
    let front = c.front_of-front.ensures in
    let width = c.width_of-width.ensures in
    let systems : c.as_slice.result.now ≡ systems_in space pieces = c.as_slice.ensures.value ∙ c.in_ok-systems.ensures in
    let chosen : c.chosen_of-chosen.result ≡ chosen_width w = c.chosen_of-chosen.ensures ∙ ap chosen_width width in
    let put : ArePutBehind g n w (systems_in space pieces) made =
    put_same g c.front_of-front.result n c.width_of-width.result w c.as_slice.result.now (systems_in space pieces) made front width systems
    c.in_ok-made.ensures in
    let error = err_from_is_err_and c.from_residual-in_err-tree.result c.from_residual-in_err-tree.ensures.1 in
    rw (error.1, error.2)
    (same_fault (¬ ThereIsFirst params pieces space) (¬ HaveGreatest c.front_of-front.result c.chosen_of-chosen.result made)
    (λ missing there. missing (have_same c.front_of-front.result n c.chosen_of-chosen.result (chosen_width w) made front chosen
    (have_from g params pieces space c.requires.pieces made put c.requires.names there)))
    g c.greatest_in.new.meter c.in_err-tree.field-0.0 c.in_err-tree.ensures.meter)
