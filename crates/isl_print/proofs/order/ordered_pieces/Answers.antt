use Rattle.std.proofs.Common.{rules, map, ap, sym, ◌∙◌}
use Rattle.std.proofs.lemmas.List.{take_all}
use Rattle.std.proofs.lemmas.Simd.{map-map}
use Rattle.isl_piece.specs.Piece.{PieceView}
use Rattle.isl_union.specs.Piece.{kept_piece}
use Rattle.isl_row_text.specs.Ordered.{in_order}
use Rattle.isl_print.specs.OrderedValue.{view_before}
use Rattle.isl_print.specs.PieceOrder.{piece_before}
use Rattle.isl_row_text.proofs.OrderedLaws.{in_order-from_sort_by, map-in_order}
use Rattle.isl_print.proofs.PieceOrderLaws.{view_cmp, view_cmp_total}
use Rattle.isl_print.proofs.order.ordered_pieces.Goals as goal

pub returns-clause-views : goal.returns-clause-views
returns-clause-views c =
    in_order-from_sort_by (λ titled. titled.piece.now) view_cmp view_cmp_total c.loop-piece.ordered.items c.sort_by.new.self.items
    c.in_ok-sort_by.ensures.sorted c.in_ok-sort_by.ensures.stable (λ f a r g h. search rules)
    ∙ ap (in_order view_before) (c.loop-piece.invariant ∙ take_all _ _ c.loop-piece-test.false)

pub returns-clause-kept : goal.returns-clause-kept
returns-clause-kept c =
    let views = in_order-from_sort_by (λ titled. titled.piece.now) view_cmp view_cmp_total c.loop-piece.ordered.items
    c.sort_by.new.self.items c.in_ok-sort_by.ensures.sorted c.in_ok-sort_by.ensures.stable (λ f a r g h. search rules)
    ∙ ap (in_order view_before) (c.loop-piece.invariant ∙ take_all _ _ c.loop-piece-test.false) in
    sym (map-map kept_piece (λ titled. titled.piece.now) c.sort_by.new.self.items) ∙ ap (map kept_piece) views
    ∙ map-in_order kept_piece piece_before c.args.pieces.now
