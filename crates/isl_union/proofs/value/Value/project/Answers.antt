use Rattle.std.proofs.Common.{◌≡◌, ◌↔◌, ◌∙◌, refl, sym, ap, arith, subst, false, ◌+◌, ◌*◌, ◌-◌, ◌<◌, ◌≤◌, List, [], length, get_or, map, take}
use Rattle.std.proofs.Math.Nat.{mul-le-mul_right}
use Rattle.std.proofs.lemmas.Grind.{common_steps}
use Rattle.std.proofs.lemmas.Result.{err_from_is_err_and}
use Rattle.std.specs.List.{All, Any}
use Rattle.isl_math.proofs.ListLaws.{All-unmapped}
use Rattle.isl_meter.proofs.CutLemmas.{IsCharged_refl, IsCharged_trans}
use Rattle.isl_space.specs.Name.{Name}
use Rattle.isl_space.specs.Space.{space_form_of}
use Rattle.isl_space.specs.SpaceForm.{coordinates_of}
use Rattle.isl_piece.specs.declared.system.System.{System}
use Rattle.isl_piece.specs.Piece.{PieceView}
use Rattle.isl_piece.specs.System.{IsSystemWithin}
use Rattle.isl_piece.proofs.FormedLaws.{system_within_kept}
use Rattle.isl_ledger.specs.Difference.{IsDifferenceSystem}
use Rattle.isl_ledger.specs.Work.{drop_size}
use Rattle.isl_difference.proofs.TameLaws.{tame_cut, tame_memory, tame_ok}
use Rattle.isl_union.specs.KeptValue.{KeptPiece, columns_of}
use Rattle.isl_union.specs.Piece.{kept_piece, IsPieceOf}
use Rattle.isl_union.specs.Project.{IsProjected}
use Rattle.isl_union.specs.Tame.{size_of, systems_of}
use Rattle.std.proofs.lemmas.List.{append-nil, length-map}
use Rattle.std.proofs.lemmas.List.Elements.{All-nil}
use Rattle.isl_union.proofs.CountLaws.{counted_all, counted_more}
use Rattle.isl_union.proofs.MadeLaws.{not_true}
use Rattle.isl_union.proofs.MeetSteps.{charged_bits, item_has}
use Rattle.isl_union.proofs.PiecesLaws.{made_has, made_kept, made_more, made_none, made_skip, made_small, next_piece, plain_more, small_before}
use Rattle.isl_union.proofs.PiecesLaws.{through}
use Rattle.isl_union.proofs.ProjectLaws.{between_same, projected, projected_columns, projected_exactly, HasBetween}
use Rattle.isl_union.proofs.SystemLaws.{view_free}
use Rattle.isl_union.proofs.ValueLaws.{pieces_within}
use Rattle.isl_union.proofs.SizeLaws.{pieces_of_size, sizes_append, turn_fits, turn_more, value_of_size}
use Rattle.isl_union.proofs.TameLaws.{item_system, more_pieces, narrowed_rows, narrowed_sized, narrowed_work, none_of_size}
use Rattle.isl_union.proofs.value.Value.project.Goals as goal

pub without_columns-requires-clause-within : goal.without_columns-requires-clause-within
without_columns-requires-clause-within c =
    let g = c.args.meter.now in
    let self = c.args.self.now in
    let pieces = c.pieces-pieces.result.now in
    let piece = c.piece-item.result in
    let low : c.loop-piece.piece-index < length pieces = omega arith in
    let all = pieces_within g self.params pieces self.pieces c.pieces-pieces.ensures.well_formed c.pieces-pieces.ensures.content
    c.requires.within in
    let here = item_has (λ p. IsSystemWithin g p.system) pieces c.loop-piece.piece-index piece low c.piece-item.is all in
    subst (IsSystemWithin c.loop-piece.meter) (sym c.system.ensures)
    (system_within_kept c.loop-piece.meter g piece.system (charged_bits g c.loop-piece.meter c.loop-piece.invariant.charged) here)

pub live_pieces_in-requires-clause-columns : goal.live_pieces_in-requires-clause-columns
live_pieces_in-requires-clause-columns c =
    let params = c.params-params.result.now in
    let pieces = c.pieces-pieces.result.now in
    let piece = c.piece-item.result in
    let space = space_form_of c.args.space.now in
    let low : c.loop-piece.piece-index < length pieces = omega arith in
    let own = item_has (IsPieceOf c.args.self.now.params) pieces c.loop-piece.piece-index piece low c.piece-item.is
    c.pieces-pieces.ensures.well_formed in
    let sound = subst (λ (n : List Name). IsPieceOf n piece) (sym c.params-params.ensures.content) own in
    let at : space_form_of c.space.result.now ≡ space = grind arith in
    let lies = sym c.space.ensures ∙ at in
    let free = view_free params piece sound ∙ ap (columns_of params) lies in
    let projection = rw (c.system.ensures, c.len.ensures.len) at c.in_ok-systems.ensures.projection in
    projected_columns params piece space (space_form_of c.args.to.now) c.args.from c.args.count c.requires.narrower lies free
    c.in_ok-systems.systems.items projection

pub live_pieces_in-requires-clause-within : goal.live_pieces_in-requires-clause-within
live_pieces_in-requires-clause-within c = λ k d l.
    system_within_kept c.without_columns.new.meter c.loop-piece.meter (get_or c.in_ok-systems.systems.items k d)
    (charged_bits c.loop-piece.meter c.without_columns.new.meter c.in_ok-systems.ensures.meter) (c.in_ok-systems.ensures.within k d l)

pub loop-piece-init : goal.loop-piece-init
loop-piece-init c =
    let g = c.args.meter.now in
    let params = c.params-params.result.now in
    let none = c.new-kept.ensures.items in
    record {
      made = made_none g params
          (HasBetween params (space_form_of c.args.space.now) c.args.from c.args.count (space_form_of c.args.to.now)) _ none;
      plain = λ n. rw none (All-nil (λ (p : KeptPiece). p.definitions ≡ []));
      tame = λ size limit room all. (
        omega arith,
        none_of_size (size_of 0 (size.columns - c.args.count) (size.bits + c.args.count)) _ (ap systems_of none),
      );
      charged = IsCharged_refl g g refl;
      counted = rw none (omega arith);
    }

pub loop-piece-preserved : goal.loop-piece-preserved
loop-piece-preserved c =
    let g = c.args.meter.now in
    let h = c.loop-piece.meter in
    let m = c.without_columns.new.meter in
    let params = c.params-params.result.now in
    let pieces = c.pieces-pieces.result.now in
    let i = c.loop-piece.piece-index in
    let piece = c.piece-item.result in
    let space = space_form_of c.args.space.now in
    let to = space_form_of c.args.to.now in
    let kept = c.loop-piece.kept.items in
    let more = c.in_ok-more.more.items in
    let pushed = c.append.new.pieces.items in
    let so_far = c.loop-piece.invariant in
    let told = c.in_ok-more.ensures in
    let low : i < length pieces = omega arith in
    let own = item_has (IsPieceOf c.args.self.now.params) pieces i piece low c.piece-item.is c.pieces-pieces.ensures.well_formed in
    let sound = subst (λ (n : List Name). IsPieceOf n piece) (sym c.params-params.ensures.content) own in
    let at : space_form_of c.space.result.now ≡ space = grind arith in
    let lies = sym c.space.ensures ∙ at in
    let free = view_free params piece sound ∙ ap (columns_of params) lies in
    let projection = rw (c.system.ensures, c.len.ensures.len) at c.in_ok-systems.ensures.projection in
    let charged = IsCharged_trans g h m so_far.charged c.in_ok-systems.ensures.meter in
    record {
      made = rw (next_piece pieces i piece low c.piece-item.is)
          (made_more g params (HasBetween params space c.args.from c.args.count to) (map kept_piece (take i pieces)) (kept_piece piece) kept
          so_far.made more pushed c.in_ok-append.ensures
          (λ v e. through (told.elements v e)
          (projected params piece space to c.args.from c.args.count c.requires.narrower lies free c.in_ok-systems.systems.items
          projection v e))
          told.sound (small_before g m (map kept_piece more) charged told.numbers));
      plain = λ n.
          let all = subst (All (λ (p : KeptPiece). p.definitions ≡ [])) (sym c.pieces-pieces.ensures.content) n in
          let none = item_has (λ p. p.system.definitions ≡ []) pieces i piece low c.piece-item.is
          (All-unmapped (λ (p : KeptPiece). p.definitions ≡ []) kept_piece pieces all) in
          plain_more kept more pushed c.in_ok-append.ensures (so_far.plain n)
          (told.definitions (c.in_ok-systems.ensures.definitions (ap (λ (s : System). s.definitions) c.system.ensures ∙ none)));
      tame = λ size limit room all.
          let before = so_far.tame size limit room all in
          let here = item_system (IsDifferenceSystem size.columns size.bits) pieces i piece low c.piece-item.is all in
          let asked = c.in_ok-systems.ensures.tame size.columns size.bits (sym (charged_bits g h so_far.charged) ∙ limit) room
          (subst (IsDifferenceSystem size.columns size.bits) (sym c.system.ensures) here) in
          let count = c.args.count in
          let left = c.in_ok-systems.systems.items in
          let one : length left ≤ 1 = asked.answer.few in
          let inside = c.requires.narrower.inside in
          let wide = here.narrow in
          let columns_are = own.columns in
          let same = ap coordinates_of lies in
          let fits : count ≤ size.columns = omega (arith, inside, wide, columns_are, same) in
          let next = told.tame (size.columns - count) (size.bits + count) (sym (charged_bits g m charged) ∙ limit) (omega (arith, fits, room))
          (narrowed_rows count size.columns size.bits left asked.answer) in
          let first = before.0 in
          let second = asked.within.units in
          let third = next.within.units in
          let work = narrowed_work size.columns count (length left) one in
          let turns = turn_more i ((count + size.columns) * (size.columns * size.columns)) in (
            omega (arith, first, second, third, work, turns),
            sizes_append i 1 (i + 1) (size.columns - count) (size.bits + count) kept more pushed (omega arith) c.in_ok-append.ensures
                before.1 (narrowed_sized (length left) (size.columns - count) (size.bits + count) more one next.answer),
          );
      charged = IsCharged_trans g m c.live_pieces_in.new.meter charged told.meter;
      counted =
          let here = c.in_ok-systems.ensures.counted in
          let few = told.few in
          let later = told.meter.units in
          counted_more g h c.live_pieces_in.new.meter pieces piece i kept more pushed low c.in_ok-append.ensures so_far.counted
          (omega (arith, here, few, later));
    }

pub loop-piece-preserved-then-not-same : goal.loop-piece-preserved-then-not-same
loop-piece-preserved-then-not-same c =
    let params = c.params-params.result.now in
    let pieces = c.pieces-pieces.result.now in
    let i = c.loop-piece.piece-index in
    let piece = c.piece-item.result in
    let space = space_form_of c.args.space.now in
    let to = space_form_of c.args.to.now in
    let so_far = c.loop-piece.invariant in
    let low : i < length pieces = omega arith in
    let differs : c.same.result ≡ false = grind arith in
    record {
      made = rw (next_piece pieces i piece low c.piece-item.is)
          (made_skip c.args.meter.now params (HasBetween params space c.args.from c.args.count to) (map kept_piece (take i pieces))
          (kept_piece piece) c.loop-piece.kept.items so_far.made
          (λ v e h. not_true c.same.result differs
          (c.same.ensures.1 (c.space.ensures ∙ between_same params space c.args.from c.args.count to v e (kept_piece piece) h))));
      plain = so_far.plain;
      tame = λ size limit room all.
          let before = so_far.tame size limit room all in
          let first = before.0 in
          let turns = turn_more i ((c.args.count + size.columns) * (size.columns * size.columns)) in (
            omega (arith, first, turns),
            more_pieces i (i + 1) (size.columns - c.args.count) (size.bits + c.args.count) c.loop-piece.kept.items (omega arith) before.1,
          );
      charged = so_far.charged;
      counted = counted_more c.args.meter.now c.loop-piece.meter c.loop-piece.meter pieces piece i c.loop-piece.kept.items []
          c.loop-piece.kept.items low (sym (append-nil c.loop-piece.kept.items)) so_far.counted (omega arith);
    }

pub returns-clause-kept : goal.returns-clause-kept
returns-clause-kept c =
    let params = c.params-params.result.now in
    let pieces = c.pieces-pieces.result.now in
    let end : length pieces ≤ c.loop-piece.piece-index = omega arith in
    made_kept c.args.meter.now params
    (HasBetween params (space_form_of c.args.space.now) c.args.from c.args.count (space_form_of c.args.to.now))
    pieces c.loop-piece.kept.items c.loop-piece.piece-index c.args.self.now.pieces c.from_normal.result end c.pieces-pieces.ensures.content
    c.loop-piece.invariant.made (rw c.in_ok-copy.ensures at c.from_normal.ensures) c.len.ensures.well_formed

pub returns-clause-elements : goal.returns-clause-elements
returns-clause-elements c v e =
    let self = c.args.self.now in
    let params = c.params-params.result.now in
    let pieces = c.pieces-pieces.result.now in
    let space = space_form_of c.args.space.now in
    let to = space_form_of c.args.to.now in
    let end : length pieces ≤ c.loop-piece.piece-index = omega arith in
    through
    (made_has c.args.meter.now params (HasBetween params space c.args.from c.args.count to) pieces c.loop-piece.kept.items
    c.loop-piece.piece-index self.pieces c.from_normal.result end c.pieces-pieces.ensures.content c.loop-piece.invariant.made
    (rw c.in_ok-copy.ensures at c.from_normal.ensures) v e)
    (subst (λ (n : List Name). Any (HasBetween n space c.args.from c.args.count to v e) self.pieces
    ↔ IsProjected self space c.args.from c.args.count to v e) (sym c.params-params.ensures.content)
    (projected_exactly self space c.args.from c.args.count to v e))

pub returns-clause-numbers : goal.returns-clause-numbers
returns-clause-numbers c =
    let params = c.params-params.result.now in
    let pieces = c.pieces-pieces.result.now in
    let end : length pieces ≤ c.loop-piece.piece-index = omega arith in
    made_small c.args.meter.now params
    (HasBetween params (space_form_of c.args.space.now) c.args.from c.args.count (space_form_of c.args.to.now))
    pieces c.loop-piece.kept.items c.loop-piece.piece-index c.args.self.now.pieces c.from_normal.result end c.pieces-pieces.ensures.content
    c.loop-piece.invariant.made (rw c.in_ok-copy.ensures at c.from_normal.ensures)

pub returns-clause-counted : goal.returns-clause-counted
returns-clause-counted c =
    let params = c.params-params.result.now in
    let pieces = c.pieces-pieces.result.now in
    let end : length pieces ≤ c.loop-piece.piece-index = omega arith in
    counted_all c.args.meter.now c.loop-piece.meter params pieces c.loop-piece.kept.items c.loop-piece.piece-index c.args.self.now.pieces
    c.from_normal.result end c.pieces-pieces.ensures.content (rw c.in_ok-copy.ensures at c.from_normal.ensures)
    c.loop-piece.invariant.counted

-- ---- of difference constraints
pub returns-in_err-systems-clause-tame : goal.returns-in_err-systems-clause-tame
returns-in_err-systems-clause-tame c = λ size limit room of_size.
    let g = c.args.meter.now in
    let self = c.args.self.now in
    let pieces = c.pieces-pieces.result.now in
    let sized = pieces_of_size self.params size pieces self.pieces c.pieces-pieces.ensures.well_formed c.pieces-pieces.ensures.content of_size in
    let w = (c.args.count + size.columns) * (size.columns * size.columns) in
    let long = length-map pieces (λ (p : PieceView). p.system) in
    let few = sized.few in
    let most : length pieces * w ≤ size.pieces * w = mul-le-mul_right {m = length pieces} {n = size.pieces} w (omega (arith, long, few)) in
    let h = c.loop-piece.meter in
    let i = c.loop-piece.piece-index in
    let low : i < length pieces = omega arith in
    let so_far = c.loop-piece.invariant in
    let first = (so_far.tame size limit room sized.each).0 in
    let turns = turn_fits i (length pieces) w low in
    let own = item_system (IsDifferenceSystem size.columns size.bits) pieces i c.piece-item.result low c.piece-item.is sized.each in
    let here = subst (IsDifferenceSystem size.columns size.bits) (sym c.system.ensures) own in
    let later = sym (charged_bits g h so_far.charged) ∙ limit in
    let p = err_from_is_err_and c.from_residual.result c.from_residual.ensures.1 in
    let t = c.args.count * (size.columns * size.columns) in
    let whole = narrowed_work size.columns c.args.count 0 (omega arith) in
    rw (p.1, p.2) (tame_cut (i * w) t (size.pieces * w) g h c.without_columns.new.meter _ _ c.in_err-systems.field-0.0 so_far.charged first
    (omega (arith, turns, most, whole)) (c.in_err-systems.ensures.tame size.columns size.bits later room here))

pub returns-in_err-more-clause-tame : goal.returns-in_err-more-clause-tame
returns-in_err-more-clause-tame c = λ size limit room of_size.
    let g = c.args.meter.now in
    let self = c.args.self.now in
    let pieces = c.pieces-pieces.result.now in
    let sized = pieces_of_size self.params size pieces self.pieces c.pieces-pieces.ensures.well_formed c.pieces-pieces.ensures.content of_size in
    let w = (c.args.count + size.columns) * (size.columns * size.columns) in
    let long = length-map pieces (λ (p : PieceView). p.system) in
    let few = sized.few in
    let most : length pieces * w ≤ size.pieces * w = mul-le-mul_right {m = length pieces} {n = size.pieces} w (omega (arith, long, few)) in
    let h = c.loop-piece.meter in
    let i = c.loop-piece.piece-index in
    let low : i < length pieces = omega arith in
    let so_far = c.loop-piece.invariant in
    let first = (so_far.tame size limit room sized.each).0 in
    let turns = turn_fits i (length pieces) w low in
    let own = item_system (IsDifferenceSystem size.columns size.bits) pieces i c.piece-item.result low c.piece-item.is sized.each in
    let here = subst (IsDifferenceSystem size.columns size.bits) (sym c.system.ensures) own in
    let later = sym (charged_bits g h so_far.charged) ∙ limit in
    let told = c.in_ok-systems.ensures.tame size.columns size.bits later room here in
    let second = told.within.units in
    let one : length c.in_ok-systems.systems.items ≤ 1 = told.answer.few in
    let more_work = narrowed_work size.columns c.args.count (length c.in_ok-systems.systems.items) one in
    let m = c.without_columns.new.meter in
    let charged = IsCharged_trans g h m so_far.charged c.in_ok-systems.ensures.meter in
    let inside = c.requires.narrower.inside in
    let wide = own.narrow in
    let sound = item_has (IsPieceOf self.params) pieces i c.piece-item.result low c.piece-item.is c.pieces-pieces.ensures.well_formed in
    let columns_are = sound.columns in
    let at : space_form_of c.space.result.now ≡ space_form_of c.args.space.now = grind arith in
    let lies = ap coordinates_of (sym c.space.ensures ∙ at) in
    let fits : c.args.count ≤ size.columns = omega (arith, inside, wide, columns_are, lies) in
    let small : size.bits + c.args.count + (size.columns - c.args.count) ≤ 120 = omega (arith, fits, room) in
    let rows = narrowed_rows c.args.count size.columns size.bits c.in_ok-systems.systems.items told.answer in
    let last = sym (charged_bits g m charged) ∙ limit in
    let p = err_from_is_err_and c.from_residual-in_err-more.result c.from_residual-in_err-more.ensures.1 in
    let left = size.columns - c.args.count in
    let tests = length c.in_ok-systems.systems.items * (left * (left * left)) in
    let t = c.args.count * (size.columns * size.columns) in
    rw (p.1, p.2) (tame_cut (i * w + t) tests (size.pieces * w) g m c.live_pieces_in.new.meter _ _ c.in_err-more.field-0.0 charged
    (omega (arith, first, second)) (omega (arith, turns, most, more_work))
    (c.in_err-more.ensures.tame (size.columns - c.args.count) (size.bits + c.args.count) last small rows))

pub returns-in_err-append-clause-tame : goal.returns-in_err-append-clause-tame
returns-in_err-append-clause-tame c = λ size limit room of_size.
    let g = c.args.meter.now in
    let self = c.args.self.now in
    let pieces = c.pieces-pieces.result.now in
    let sized = pieces_of_size self.params size pieces self.pieces c.pieces-pieces.ensures.well_formed c.pieces-pieces.ensures.content of_size in
    let w = (c.args.count + size.columns) * (size.columns * size.columns) in
    let long = length-map pieces (λ (p : PieceView). p.system) in
    let few = sized.few in
    let most : length pieces * w ≤ size.pieces * w = mul-le-mul_right {m = length pieces} {n = size.pieces} w (omega (arith, long, few)) in
    let h = c.loop-piece.meter in
    let i = c.loop-piece.piece-index in
    let low : i < length pieces = omega arith in
    let so_far = c.loop-piece.invariant in
    let first = (so_far.tame size limit room sized.each).0 in
    let turns = turn_fits i (length pieces) w low in
    let own = item_system (IsDifferenceSystem size.columns size.bits) pieces i c.piece-item.result low c.piece-item.is sized.each in
    let here = subst (IsDifferenceSystem size.columns size.bits) (sym c.system.ensures) own in
    let later = sym (charged_bits g h so_far.charged) ∙ limit in
    let told = c.in_ok-systems.ensures.tame size.columns size.bits later room here in
    let second = told.within.units in
    let one : length c.in_ok-systems.systems.items ≤ 1 = told.answer.few in
    let more_work = narrowed_work size.columns c.args.count (length c.in_ok-systems.systems.items) one in
    let m = c.without_columns.new.meter in
    let charged = IsCharged_trans g h m so_far.charged c.in_ok-systems.ensures.meter in
    let inside = c.requires.narrower.inside in
    let wide = own.narrow in
    let sound = item_has (IsPieceOf self.params) pieces i c.piece-item.result low c.piece-item.is c.pieces-pieces.ensures.well_formed in
    let columns_are = sound.columns in
    let at : space_form_of c.space.result.now ≡ space_form_of c.args.space.now = grind arith in
    let lies = ap coordinates_of (sym c.space.ensures ∙ at) in
    let fits : c.args.count ≤ size.columns = omega (arith, inside, wide, columns_are, lies) in
    let small : size.bits + c.args.count + (size.columns - c.args.count) ≤ 120 = omega (arith, fits, room) in
    let rows = narrowed_rows c.args.count size.columns size.bits c.in_ok-systems.systems.items told.answer in
    let last = sym (charged_bits g m charged) ∙ limit in
    let p = err_from_is_err_and c.from_residual-in_err-append.result c.from_residual-in_err-append.ensures.1 in
    let third = (c.in_ok-more.ensures.tame (size.columns - c.args.count) (size.bits + c.args.count) last small rows).within.units in
    rw (p.1, p.2) (tame_memory (size.pieces * w) (size.pieces * w) g c.live_pieces_in.new.meter _
    (omega (arith, first, second, third, more_work, turns, most)) (omega arith))

pub returns-in_err-copy-clause-tame : goal.returns-in_err-copy-clause-tame
returns-in_err-copy-clause-tame c = λ size limit room of_size.
    let g = c.args.meter.now in
    let self = c.args.self.now in
    let pieces = c.pieces-pieces.result.now in
    let sized = pieces_of_size self.params size pieces self.pieces c.pieces-pieces.ensures.well_formed c.pieces-pieces.ensures.content of_size in
    let w = (c.args.count + size.columns) * (size.columns * size.columns) in
    let long = length-map pieces (λ (p : PieceView). p.system) in
    let few = sized.few in
    let most : length pieces * w ≤ size.pieces * w = mul-le-mul_right {m = length pieces} {n = size.pieces} w (omega (arith, long, few)) in
    let end : c.loop-piece.piece-index ≡ length pieces = grind (arith, common_steps) in
    let used = (rw end at (c.loop-piece.invariant.tame size limit room sized.each)).0 in
    let p = err_from_is_err_and c.from_residual-in_err-copy.result c.from_residual-in_err-copy.ensures.1 in
    rw (p.1, p.2) (tame_memory (length pieces * w) (size.pieces * w) g c.loop-piece.meter _ used most)

pub returns-clause-tame : goal.returns-clause-tame
returns-clause-tame c = λ size limit room of_size.
    let g = c.args.meter.now in
    let self = c.args.self.now in
    let pieces = c.pieces-pieces.result.now in
    let sized = pieces_of_size self.params size pieces self.pieces c.pieces-pieces.ensures.well_formed c.pieces-pieces.ensures.content of_size in
    let w = (c.args.count + size.columns) * (size.columns * size.columns) in
    let long = length-map pieces (λ (p : PieceView). p.system) in
    let few = sized.few in
    let most : length pieces * w ≤ size.pieces * w = mul-le-mul_right {m = length pieces} {n = size.pieces} w (omega (arith, long, few)) in
    let end : c.loop-piece.piece-index ≡ length pieces = grind (arith, common_steps) in
    let whole = rw end at (c.loop-piece.invariant.tame size limit room sized.each) in
    let used = whole.0 in
    let params = c.params-params.result.now in
    tame_ok (size.pieces * w) g c.loop-piece.meter _ _ (omega (arith, used, most))
    (value_of_size params (drop_size c.args.count size) c.loop-piece.kept.items c.from_normal.result c.loop-piece.invariant.made.sound
    (rw c.in_ok-copy.ensures at c.from_normal.ensures)
    (more_pieces (length pieces) size.pieces (size.columns - c.args.count) (size.bits + c.args.count) c.loop-piece.kept.items
    (omega (arith, long, few)) whole.1))
