use Rattle.std.proofs.Common.{◌≡◌, ◌↔◌, ◌∙◌, sym, ap, ap₂, arith, subst, false, ◌^◌, ◌-◌, ◌<◌, ◌≤◌, List, [], ◌∷◌, ◌++◌, length}
use Rattle.std.proofs.Common.{get_or, map, take}
use Rattle.std.specs.List.{All, Any}
use Rattle.std.proofs.lemmas.List.{take_more}
use Rattle.std.proofs.lemmas.List.Elements.{All-cons, All-nil}
use Rattle.isl_math.proofs.ListLaws.{All-unmapped, Any-first, Any-one}
use Rattle.isl_meter.proofs.CutLemmas.{IsCharged_trans}
use Rattle.isl_space.specs.Element.{Element}
use Rattle.isl_space.specs.Name.{Name}
use Rattle.isl_space.specs.SpaceForm.{SpaceForm, IsWellFormedSpace}
use Rattle.isl_space.specs.Valuation.{Valuation}
use Rattle.isl_piece.specs.declared.system.System.{System}
use Rattle.isl_piece.specs.Piece.{PieceView}
use Rattle.isl_piece.specs.System.{IsSystemWithin, free_columns}
use Rattle.isl_piece.proofs.FormedLaws.{system_within_kept}
use Rattle.isl_elim.specs.Flatten.{IsFlattening}
use Rattle.isl_union.specs.KeptValue.{KeptPiece, HasElement, columns_of}
use Rattle.isl_union.specs.Numbers.{IsPieceUpTo}
use Rattle.isl_union.specs.Piece.{kept_piece, IsPieceOf}
use Rattle.isl_union.specs.Pieces.{IsOfAny}
use Rattle.isl_union.proofs.CountLaws.{counted_all, counted_more}
use Rattle.isl_union.proofs.FlatLaws.{flat_all, flat_columns, flat_has, flat_pushed, never_opened, piece_itself}
use Rattle.isl_union.proofs.MadeLaws.{not_true}
use Rattle.isl_union.proofs.MeetSteps.{charged_bits, item_has}
use Rattle.isl_union.proofs.PiecesLaws.{made_has, made_kept, made_more, made_small, next_piece, plain_more, small_before, through}
use Rattle.isl_union.proofs.SystemLaws.{view_free}
use Rattle.isl_union.proofs.ValueLaws.{pieces_within}
use Rattle.isl_union.proofs.value.Value.flat.Goals as goal

pub flatten-requires : goal.flatten-requires
flatten-requires c =
    let g = c.args.meter.now in
    let self = c.args.self.now in
    let pieces = c.pieces-pieces.result.now in
    let piece = c.piece-item.result in
    let low : c.loop-piece.piece-index < length pieces = omega arith in
    let all = pieces_within g self.params pieces self.pieces c.pieces-pieces.ensures.well_formed c.pieces-pieces.ensures.content
    c.requires in
    let here = item_has (λ p. IsSystemWithin g p.system) pieces c.loop-piece.piece-index piece low c.piece-item.is all in
    record {
      well_formed = subst (IsSystemWithin c.loop-piece.meter) (sym c.system-system.ensures)
          (system_within_kept c.loop-piece.meter g piece.system (charged_bits g c.loop-piece.meter c.loop-piece.invariant.charged) here);
    }

pub live_pieces_in-requires-clause-space : goal.live_pieces_in-requires-clause-space
live_pieces_in-requires-clause-space c =
    let pieces = c.pieces-pieces.result.now in
    let piece = c.piece-item.result in
    let low : c.loop-piece.piece-index < length pieces = omega arith in
    let own = item_has (IsPieceOf c.args.self.now.params) pieces c.loop-piece.piece-index piece low c.piece-item.is
    c.pieces-pieces.ensures.well_formed in
    subst IsWellFormedSpace (sym c.space.ensures) own.kept.space

pub live_pieces_in-requires-clause-columns : goal.live_pieces_in-requires-clause-columns
live_pieces_in-requires-clause-columns c =
    let params = c.params-params.result.now in
    let pieces = c.pieces-pieces.result.now in
    let piece = c.piece-item.result in
    let systems = c.in_ok-systems.systems.items in
    let low : c.loop-piece.piece-index < length pieces = omega arith in
    let own = item_has (IsPieceOf c.args.self.now.params) pieces c.loop-piece.piece-index piece low c.piece-item.is
    c.pieces-pieces.ensures.well_formed in
    let sound = subst (λ (n : List Name). IsPieceOf n piece) (sym c.params-params.ensures.content) own in
    let free = view_free params piece sound in
    let flat = subst (λ (s : System). IsFlattening s systems) c.system-system.ensures c.in_ok-systems.ensures.exact in
    subst (λ (space : SpaceForm). All (λ t. free_columns t ≡ columns_of params space) systems) (sym c.space.ensures)
    (flat_columns params piece free systems flat)

pub live_pieces_in-requires-clause-within : goal.live_pieces_in-requires-clause-within
live_pieces_in-requires-clause-within c = λ k d l.
    system_within_kept c.flatten.new.meter c.loop-piece.meter (get_or c.in_ok-systems.systems.items k d)
    (charged_bits c.loop-piece.meter c.flatten.new.meter c.in_ok-systems.ensures.meter) (c.in_ok-systems.ensures.within k d l)

pub loop-piece-preserved : goal.loop-piece-preserved
loop-piece-preserved c =
    let g = c.args.meter.now in
    let h = c.loop-piece.meter in
    let m = c.flatten.new.meter in
    let params = c.params-params.result.now in
    let pieces = c.pieces-pieces.result.now in
    let i = c.loop-piece.piece-index in
    let piece = c.piece-item.result in
    let kept = c.loop-piece.kept.items in
    let systems = c.in_ok-systems.systems.items in
    let more = c.in_ok-more.more.items in
    let pushed = c.append.new.pieces.items in
    let so_far = c.loop-piece.invariant in
    let told = c.in_ok-more.ensures in
    let low : i < length pieces = omega arith in
    let own = item_has (IsPieceOf c.args.self.now.params) pieces i piece low c.piece-item.is c.pieces-pieces.ensures.well_formed in
    let sound = subst (λ (n : List Name). IsPieceOf n piece) (sym c.params-params.ensures.content) own in
    let free = view_free params piece sound in
    let flat = subst (λ (s : System). IsFlattening s systems) c.system-system.ensures c.in_ok-systems.ensures.exact in
    let charged = IsCharged_trans g h m so_far.charged c.in_ok-systems.ensures.meter in
    let here : (v : Valuation) (e : Element) → Any (HasElement params v e) (map kept_piece more) ↔ HasElement params v e (kept_piece piece) =
    λ v e. through
    (subst (λ (space : SpaceForm). Any (HasElement params v e) (map kept_piece more) ↔ IsOfAny params space systems v e)
    c.space.ensures
    (told.elements v e))
    (flat_has params piece free systems flat v e) in
    let no : c.is_empty.result ≡ false = grind arith in
    let opened : piece.system.definitions ≡ [] → ⊥ = λ none. not_true c.is_empty.result no
    (c.is_empty.ensures.1 (ap (λ (s : System). s.definitions) c.system-system.ensures ∙ none)) in
    record {
      made = rw (next_piece pieces i piece low c.piece-item.is)
          (made_more g params (HasElement params) (map kept_piece (take i pieces)) (kept_piece piece) kept so_far.made more pushed
          c.in_ok-append.ensures
          here told.sound (small_before g m (map kept_piece more) charged told.numbers));
      parts = rw (next_piece pieces i piece low c.piece-item.is)
          (flat_pushed params (map kept_piece (take i pieces)) (kept_piece piece) kept more pushed c.in_ok-append.ensures so_far.parts
          (record { elements = here; same = λ none. absurd (opened none) }));
      plain = plain_more kept more pushed c.in_ok-append.ensures so_far.plain (told.definitions flat.definitions);
      charged = IsCharged_trans g m c.live_pieces_in.new.meter charged told.meter;
      counted =
          let here = c.in_ok-systems.ensures.counted in
          let few = told.few in
          let later = told.meter.units in
          counted_more g h c.live_pieces_in.new.meter pieces piece i kept more pushed low c.in_ok-append.ensures so_far.counted
          (omega (arith, here, few, later));
      same = λ n.
          absurd (never_opened pieces c.args.self.now.pieces i piece c.system-system.result.now c.is_empty.result low c.piece-item.is
          c.pieces-pieces.ensures.content c.system-system.ensures no c.is_empty.ensures.1 n);
    }

pub loop-piece-preserved-then-is_empty : goal.loop-piece-preserved-then-is_empty
loop-piece-preserved-then-is_empty c =
    let g = c.args.meter.now in
    let params = c.params-params.result.now in
    let pieces = c.pieces-pieces.result.now in
    let i = c.loop-piece.piece-index in
    let piece = c.piece-item.result in
    let kept = c.loop-piece.kept.items in
    let pushed = c.push.new.self.items in
    let so_far = c.loop-piece.invariant in
    let low : i < length pieces = omega arith in
    let own = item_has (IsPieceOf c.args.self.now.params) pieces i piece low c.piece-item.is c.pieces-pieces.ensures.well_formed in
    let sound = subst (λ (n : List Name). IsPieceOf n piece) (sym c.params-params.ensures.content) own in
    let is : pushed ≡ kept ++ piece ∷ [] = c.in_ok-push.ensures.items ∙ ap (λ (p : PieceView). kept ++ p ∷ []) c.in_ok-copy.ensures in
    let empty : c.system-system.result.now.definitions ≡ [] = grind arith in
    let none : piece.system.definitions ≡ [] = ap (λ (s : System). s.definitions) (sym c.system-system.ensures) ∙ empty in
    let all = subst (All (IsPieceUpTo (2 ^ g.bits - 1))) (sym c.pieces-pieces.ensures.content) c.requires in
    let small = item_has (λ p. IsPieceUpTo (2 ^ g.bits - 1) (kept_piece p)) pieces i piece low c.piece-item.is
    (All-unmapped (IsPieceUpTo (2 ^ g.bits - 1)) kept_piece pieces all) in
    record {
      made = rw (next_piece pieces i piece low c.piece-item.is)
          (made_more g params (HasElement params) (map kept_piece (take i pieces)) (kept_piece piece) kept so_far.made (piece ∷ [])
          pushed is
          (λ v e. (
            (λ a. Any-one (HasElement params v e) (kept_piece piece) a),
            (λ k. Any-first (HasElement params v e) (kept_piece piece) [] k),
          ))
          (All-cons (IsPieceOf params) piece [] sound (All-nil (IsPieceOf params)))
          (All-cons (IsPieceUpTo (2 ^ g.bits - 1)) (kept_piece piece) [] small (All-nil (IsPieceUpTo (2 ^ g.bits - 1)))));
      parts = rw (next_piece pieces i piece low c.piece-item.is)
          (flat_pushed params (map kept_piece (take i pieces)) (kept_piece piece) kept (piece ∷ []) pushed is so_far.parts
          (piece_itself params (kept_piece piece)));
      plain = plain_more kept (piece ∷ []) pushed is so_far.plain
          (All-cons (λ (p : KeptPiece). p.definitions ≡ []) (kept_piece piece) [] none (All-nil (λ (p : KeptPiece). p.definitions ≡ [])));
      charged = so_far.charged;
      counted = counted_more g c.loop-piece.meter c.loop-piece.meter pieces piece i kept (piece ∷ []) pushed low is so_far.counted
          (omega arith);
      same = λ n.
          let before = so_far.same n in (
            is ∙ ap₂ (λ (l : List PieceView) (p : PieceView). l ++ p ∷ []) before.0 c.piece-item.is ∙ sym (take_more pieces i piece low),
            before.1,
          );
    }

pub returns-clause-kept : goal.returns-clause-kept
returns-clause-kept c =
    let params = c.params-params.result.now in
    let pieces = c.pieces-pieces.result.now in
    let end : length pieces ≤ c.loop-piece.piece-index = omega arith in
    made_kept c.args.meter.now params (HasElement params) pieces c.loop-piece.kept.items c.loop-piece.piece-index c.args.self.now.pieces
    c.from_normal.result end c.pieces-pieces.ensures.content c.loop-piece.invariant.made
    (rw c.in_ok-copy-2.ensures at c.from_normal.ensures)
    c.params-params.ensures.well_formed

pub returns-clause-pieces : goal.returns-clause-pieces
returns-clause-pieces c =
    let pieces = c.pieces-pieces.result.now in
    let end : length pieces ≤ c.loop-piece.piece-index = omega arith in
    flat_all c.params-params.result.now pieces c.loop-piece.kept.items c.loop-piece.piece-index c.args.self.now c.from_normal.result end
    c.params-params.ensures.content c.pieces-pieces.ensures.content (rw c.in_ok-copy-2.ensures at c.from_normal.ensures)
    c.loop-piece.invariant.parts

pub returns-clause-elements : goal.returns-clause-elements
returns-clause-elements c v e =
    let params = c.params-params.result.now in
    let pieces = c.pieces-pieces.result.now in
    let end : length pieces ≤ c.loop-piece.piece-index = omega arith in
    rw c.params-params.ensures.content at (made_has c.args.meter.now params (HasElement params) pieces c.loop-piece.kept.items
    c.loop-piece.piece-index c.args.self.now.pieces c.from_normal.result end c.pieces-pieces.ensures.content c.loop-piece.invariant.made
    (rw c.in_ok-copy-2.ensures at c.from_normal.ensures) v e)

pub returns-clause-numbers : goal.returns-clause-numbers
returns-clause-numbers c =
    let params = c.params-params.result.now in
    let pieces = c.pieces-pieces.result.now in
    let end : length pieces ≤ c.loop-piece.piece-index = omega arith in
    made_small c.args.meter.now params (HasElement params) pieces c.loop-piece.kept.items c.loop-piece.piece-index c.args.self.now.pieces
    c.from_normal.result end c.pieces-pieces.ensures.content c.loop-piece.invariant.made
    (rw c.in_ok-copy-2.ensures at c.from_normal.ensures)

pub returns-in_err-systems-clause-same : goal.returns-in_err-systems-clause-same
returns-in_err-systems-clause-same c = λ n.
    let low : c.loop-piece.piece-index < length c.pieces-pieces.result.now = omega arith in
    let no : c.is_empty.result ≡ false = grind arith in
    absurd (never_opened c.pieces-pieces.result.now c.args.self.now.pieces c.loop-piece.piece-index c.piece-item.result
    c.system-system.result.now
    c.is_empty.result low c.piece-item.is c.pieces-pieces.ensures.content c.system-system.ensures no c.is_empty.ensures.1 n)

pub returns-in_err-more-clause-same : goal.returns-in_err-more-clause-same
returns-in_err-more-clause-same c = λ n.
    let low : c.loop-piece.piece-index < length c.pieces-pieces.result.now = omega arith in
    let no : c.is_empty.result ≡ false = grind arith in
    absurd (never_opened c.pieces-pieces.result.now c.args.self.now.pieces c.loop-piece.piece-index c.piece-item.result
    c.system-system.result.now
    c.is_empty.result low c.piece-item.is c.pieces-pieces.ensures.content c.system-system.ensures no c.is_empty.ensures.1 n)

pub returns-in_err-append-clause-same : goal.returns-in_err-append-clause-same
returns-in_err-append-clause-same c = λ n.
    let low : c.loop-piece.piece-index < length c.pieces-pieces.result.now = omega arith in
    let no : c.is_empty.result ≡ false = grind arith in
    absurd (never_opened c.pieces-pieces.result.now c.args.self.now.pieces c.loop-piece.piece-index c.piece-item.result
    c.system-system.result.now
    c.is_empty.result low c.piece-item.is c.pieces-pieces.ensures.content c.system-system.ensures no c.is_empty.ensures.1 n)

pub returns-clause-counted : goal.returns-clause-counted
returns-clause-counted c =
    let params = c.params-params.result.now in
    let pieces = c.pieces-pieces.result.now in
    let end : length pieces ≤ c.loop-piece.piece-index = omega arith in
    counted_all c.args.meter.now c.loop-piece.meter params pieces c.loop-piece.kept.items c.loop-piece.piece-index c.args.self.now.pieces
    c.from_normal.result end c.pieces-pieces.ensures.content (rw c.in_ok-copy-2.ensures at c.from_normal.ensures)
    c.loop-piece.invariant.counted
