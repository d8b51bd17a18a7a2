-- How many pieces are made of others, and how many units are used.
use Rattle.std.proofs.Common.{◌≡◌, sym, ap, ◌∙◌, arith, ℕ, ◌+◌, ◌<◌, ◌≤◌, Option, Some, None, option_to_list, List, [], ◌∷◌, ◌++◌}
use Rattle.std.proofs.Common.{get_or, length, length-append, map, take}
use Rattle.std.proofs.lemmas.List.{length-map, take_all, take_more}
use Rattle.isl_meter.specs.Gauge.{Gauge}
use Rattle.isl_space.specs.Name.{Name}
use Rattle.isl_piece.specs.declared.system.System.{System}
use Rattle.isl_piece.specs.Piece.{PieceView}
use Rattle.isl_union.specs.KeptValue.{KeptPiece, KeptValue}
use Rattle.isl_union.specs.Piece.{kept_piece}

-- a piece at most of one more system
pub few_more : (before rest : List System) (s : System) (kept pushed : List PieceView) (o : Option PieceView) (n : ℕ) → before ≡ s ∷ rest
    → pushed ≡ kept ++ option_to_list o → length kept + length before ≤ n → length pushed + length rest ≤ n
few_more before rest s kept pushed None n next is so_far =
    let first = ap length next in
    let second = ap length is in
    let both = length-append kept [] in
    omega (arith, first, second, both, so_far)
few_more before rest s kept pushed (Some x) n next is so_far =
    let first = ap length next in
    let second = ap length is in
    let both = length-append kept (x ∷ []) in
    omega (arith, first, second, both, so_far)

-- what is made of one more of the pieces: at most one for each unit, and one
pub counted_more : (g h k : Gauge) (pieces : List PieceView) (piece : PieceView) (i : ℕ) (kept more pushed : List PieceView)
    → i < length pieces → pushed ≡ kept ++ more → length kept + g.units ≤ h.units + length (take i pieces)
    → length more + h.units ≤ k.units + 1 → length pushed + g.units ≤ k.units + length (take (i + 1) pieces)
counted_more g h k pieces piece i kept more pushed low is so_far here =
    let all = ap length is in
    let both = length-append kept more in
    let on = ap length (take_more pieces i piece low) in
    let one = length-append (take i pieces) (get_or pieces i piece ∷ []) in
    omega (arith, all, both, on, one, so_far, here)

-- the value of the pieces
pub counted_value : (g k : Gauge) (params : List Name) (made : List PieceView) (value : KeptValue) (n : ℕ)
    → value ≡ record { params = params; pieces = map kept_piece made } → length made + g.units ≤ k.units + n
    → length value.pieces + g.units ≤ k.units + n
counted_value g k params made value n is counted = rw (is, length-map made kept_piece) counted

-- once all pieces were looked at
pub counted_all : (g k : Gauge) (params : List Name) (pieces made : List PieceView) (i : ℕ) (others : List KeptPiece) (value : KeptValue)
    → length pieces ≤ i → map kept_piece pieces ≡ others → value ≡ record { params = params; pieces = map kept_piece made }
    → length made + g.units ≤ k.units + length (take i pieces) → length value.pieces + g.units ≤ k.units + length others
counted_all g k params pieces made i others value end content is counted =
    let whole = ap length (take_all i pieces end) in
    let same = sym (length-map pieces kept_piece) ∙ ap length content in
    let all = counted_value g k params made value (length (take i pieces)) is counted in
    omega (arith, whole, same, all)

pub length_mapped : {A B : Type 0} (f : A → B) (xs : List A) (ys : List B) → ys ≡ map f xs → length ys ≡ length xs
length_mapped f xs ys is = ap length is ∙ length-map xs f
