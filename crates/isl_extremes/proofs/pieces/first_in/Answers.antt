use Rattle.std.proofs.Common.{◌<◌, ◌+◌, ◌^◌, sym, ap, ◌∙◌, subst, List}
use Rattle.isl_space.specs.Space.{space_form_of}
use Rattle.isl_piece.specs.declared.system.System.{System}
use Rattle.isl_union.specs.Minus.{systems_in}
use Rattle.isl_by_space.proofs.SystemLaws.{systems_again}
use Rattle.isl_extremes.specs.declared.systems.Order.{Order}
use Rattle.std.proofs.lemmas.Result.{err_from_is_err_and}
use Rattle.isl_extremes.specs.Pieces.{front_of, ordered_width, ThereIsFirst}
use Rattle.isl_extremes.proofs.FaultLaws.{same_fault}
use Rattle.isl_extremes.specs.Systems.{AreFirst, ArePlain, HaveFirst}
use Rattle.isl_extremes.proofs.PiecesLaws.{columns_fit, first_one, systems_plain}
use Rattle.isl_extremes.proofs.PointLaws.{have_from, order_at, order_is, there_from}
use Rattle.isl_extremes.proofs.pieces.first_in.Goals as goal

pub first_systems-requires : goal.first_systems-requires
first_systems-requires c =
    let g = c.args.meter.now in
    let params = c.args.params.now in
    let space = space_form_of c.args.space.now in
    let pieces = c.args.pieces.now in
    let order = c.order_in-order.result in
    let told = c.order_in-order.ensures in
    let same = order_is order params space c.args.direction told.front told.width told.direction in
    let n = front_of params space + ordered_width space in
    let are = c.as_slice.ensures.value ∙ c.in_ok-systems.ensures ∙ ap (systems_in space) c.in_ok-found.ensures ∙ systems_again space pieces in
    record {
      systems = subst (λ (o : Order). ArePlain g (o.front + o.width) c.as_slice.result.now) (sym same)
          (subst (λ (ss : List System). ArePlain g n ss) (sym are) (systems_plain g params space pieces c.requires.pieces));
      fits = subst (λ (o : Order). o.front + (o.width + o.width) < 2 ^ 64) (sym same)
          (columns_fit params space c.requires.names c.requires.formed);
    }

pub returns-clause-first : goal.returns-clause-first
returns-clause-first c =
    let g = c.args.meter.now in
    let params = c.args.params.now in
    let space = space_form_of c.args.space.now in
    let pieces = c.args.pieces.now in
    let d = c.args.direction in
    let order = c.order_in-order.result in
    let told = c.order_in-order.ensures in
    let same = order_is order params space d told.front told.width told.direction in
    let are = c.as_slice.ensures.value ∙ c.in_ok-systems.ensures ∙ ap (systems_in space) c.in_ok-found.ensures ∙ systems_again space pieces in
    let left = c.in_ok-left.left.items in
    let first = subst (λ (ss : List System). AreFirst g (order_at params space d) ss left) are
    (subst (λ (o : Order). AreFirst g o c.as_slice.result.now left) same c.in_ok-left.ensures.first) in
    first_one g params d space pieces c.requires.formed left first c.in_ok-pieces_in.field-0.items c.in_ok-pieces_in.ensures

pub returns-clause-meter : goal.returns-clause-meter
returns-clause-meter c =
    let params = c.args.params.now in
    let space = space_form_of c.args.space.now in
    let pieces = c.args.pieces.now in
    let d = c.args.direction in
    let order = c.order_in-order.result in
    let told = c.order_in-order.ensures in
    let same = order_is order params space d told.front told.width told.direction in
    let are = c.as_slice.ensures.value ∙ c.in_ok-systems.ensures ∙ ap (systems_in space) c.in_ok-found.ensures ∙ systems_again space pieces in
    let have = subst (λ (ss : List System). HaveFirst (order_at params space d) ss) are
    (subst (λ (o : Order). HaveFirst o c.as_slice.result.now) same c.in_ok-left.ensures.meter.0) in
    (there_from params pieces d space have, c.in_ok-left.ensures.meter.1)

pub returns-in_err-left-clause-meter : goal.returns-in_err-left-clause-meter
returns-in_err-left-clause-meter c =
    let params = c.args.params.now in
    let space = space_form_of c.args.space.now in
    let pieces = c.args.pieces.now in
    let d = c.args.direction in
    let order = c.order_in-order.result in
    let told = c.order_in-order.ensures in
    let same = order_is order params space d told.front told.width told.direction in
    let are = c.as_slice.ensures.value ∙ c.in_ok-systems.ensures ∙ ap (systems_in space) c.in_ok-found.ensures ∙ systems_again space pieces in
    let error = err_from_is_err_and c.from_residual-in_err-left.result c.from_residual-in_err-left.ensures.1 in
    rw (error.1, error.2)
    (same_fault (¬ ThereIsFirst params d pieces space) (¬ HaveFirst order c.as_slice.result.now)
    (λ n there. n (subst (λ (o : Order). HaveFirst o c.as_slice.result.now) (sym same)
    (subst (λ (ss : List System). HaveFirst (order_at params space d) ss) (sym are)
    (have_from params pieces d space c.requires.names there))))
    c.args.meter.now c.first_systems.new.meter c.in_err-left.field-0.0 c.in_err-left.ensures.meter)
