use Rattle.std.proofs.Common.{◌≡◌, [], ◌∷◌, All, sym, ap, ◌∙◌, arith, subst, length, map}
use Rattle.std.proofs.lemmas.Grind.{common_steps}
use Rattle.std.proofs.lemmas.List.{nil_from_length}
use Rattle.isl_space.specs.SpaceForm.{SpaceForm}
use Rattle.isl_piece.specs.declared.system.System.{System}
use Rattle.isl_piece.specs.System.{IsSystemWithin, free_columns}
use Rattle.isl_difference.specs.Difference.{IsDifference}
use Rattle.isl_union.specs.Minus.{piece_in}
use Rattle.isl_union.proofs.CountLaws.{length_mapped}
use Rattle.isl_products.specs.Made.{AreLeft}
use Rattle.isl_products.proofs.RemoveLaws.{left_parts, left_whole}
use Rattle.isl_products.proofs.remove.left_of.Goals as goal

pub returns-then-is_empty-clause-exact : goal.returns-then-is_empty-clause-exact
returns-then-is_empty-clause-exact c = λ params sound.
    let g = c.args.meter.now in
    let piece = c.args.piece.now in
    let count : length c.args.systems.now ≡ 0 = grind (arith, common_steps) in
    let none : c.args.systems.now ≡ [] = nil_from_length c.args.systems.now count in
    let is : c.push.new.self.items ≡ piece ∷ [] = grind (arith, common_steps) in
    subst (λ ss. AreLeft g params piece ss c.push.new.self.items) (sym none)
    (left_whole g params piece sound c.push.new.self.items c.requires.within is)

pub outside-requires-clause-others_within : goal.outside-requires-clause-others_within
outside-requires-clause-others_within c =
    rw c.as_slice.ensures.value (subst (All (IsSystemWithin c.args.meter.now)) (sym c.in_ok-others.ensures) c.requires.others)

pub outside-requires-clause-columns : goal.outside-requires-clause-columns
outside-requires-clause-columns c =
    rw (c.as_slice.ensures.value, c.system.ensures)
    (subst (All (λ (s : System). free_columns s ≡ free_columns c.args.piece.now.system)) (sym c.in_ok-others.ensures) c.requires.columns)

pub returns-clause-exact : goal.returns-clause-exact
returns-clause-exact c = λ params sound.
    let g = c.args.meter.now in
    let piece = c.args.piece.now in
    let systems = c.args.systems.now in
    let parts = c.in_ok-left.left.items in
    let exact = rw (c.as_slice.ensures.value, c.system.ensures) at c.in_ok-left.ensures.exact in
    let difference = subst (λ ss. IsDifference g piece.system ss parts) c.in_ok-others.ensures exact.0 in
    let plain = rw (c.as_slice.ensures.value, c.system.ensures) at c.in_ok-left.ensures.definitions in
    let each : piece.system.definitions ≡ [] → All (λ (s : System). s.definitions ≡ []) systems
    → All (λ (s : System). s.definitions ≡ []) parts =
    λ own all. plain own (subst (All (λ (s : System). s.definitions ≡ [])) (sym c.in_ok-others.ensures) all) in
    left_parts g params piece sound systems parts c.in_ok-pieces_in.field-0.items difference each
    (c.in_ok-pieces_in.ensures ∙ ap (λ (s : SpaceForm). map (piece_in s) parts) c.space.ensures)

pub returns-clause-counted : goal.returns-clause-counted
returns-clause-counted c =
    let count = length_mapped _ c.in_ok-left.left.items c.in_ok-pieces_in.field-0.items c.in_ok-pieces_in.ensures in
    let counted = c.in_ok-left.ensures.counted in
    omega (arith, count, counted)
