-- Operations that are answered as calls are that may be cut.
use Rattle.std.proofs.Common.{◌≡◌, inl, inr, refl, sym, ap, ◌∙◌, subst, arith, ℕ, suc, ◌+◌, ◌*◌, ◌^◌, ◌≤◌, Bool, true, false, if◌then◌else◌, Some, None}
use Rattle.std.proofs.Common.{List, [], ◌∷◌, ◌++◌, All, IfSome, Option, cond, filter, get_or, length, map, option_to_list, ◌<◌, ◌-◌, Err}
use Rattle.std.specs.List.{cons_option}
use Rattle.std.proofs.Math.Nat.{add-mul, mul-le-mul_left, mul-le-mul_right, pow-zero}
use Rattle.std.proofs.lemmas.List.{length-map, map-append}
use Rattle.std.proofs.lemmas.List.Elements.{All-append, All-filter, All-map, All-nil}
use Rattle.isl_math.proofs.ListLaws.{All-unmapped}
use Rattle.isl_meter.specs.declared.Cut.{Cut}
use Rattle.isl_meter.specs.Gauge.{Gauge}
use Rattle.isl_space.specs.Name.{Name}
use Rattle.isl_space.specs.Names.{joined}
use Rattle.isl_space.specs.SpaceForm.{SpaceForm}
use Rattle.isl_space.specs.declared.fault.SpaceFault.{SpaceFault}
use Rattle.isl_space.specs.declared.fault.SpaceFault.TheVariants as space_fault
use Rattle.isl_piece.specs.declared.system.System.{System}
use Rattle.isl_piece.specs.Meet.{over_same_columns}
use Rattle.isl_piece.specs.Piece.{PieceView}
use Rattle.isl_ledger.specs.Answered.{IsTame}
use Rattle.isl_ledger.specs.Difference.{IsDifferenceRow, IsDifferenceSystem}
use Rattle.isl_ledger.specs.Work.{Size, AreOfSize, allowance, drop_size, row_limit}
use Rattle.isl_ledger.proofs.SizeLaws.{differences_of, of_size_append, of_size_wider}
use Rattle.isl_ledger.proofs.WorkLaws.{allowance_more}
use Rattle.isl_difference.specs.Tame.{left_size, left_work, part_limit, HasNormalDifferences}
use Rattle.isl_difference.proofs.TameLaws.{left_size_more, left_work_more, normal_rows_of, one_of_size, part_limit_more, tame_memory}
use Rattle.isl_union.specs.declared.fault.OpFault.{OpFault}
use Rattle.isl_union.specs.declared.fault.OpFault.TheVariants as op_fault
use Rattle.isl_union.specs.Fault.{fault_of, IsPlainFault}
use Rattle.isl_union.specs.KeptValue.{KeptPiece, KeptValue, IsKeptValue, piece_system}
use Rattle.isl_union.specs.Meet.{is_same_space}
use Rattle.isl_union.specs.Minus.{piece_in, systems_in, IsAlignedPair}
use Rattle.isl_union.specs.Moved.{aligned_pieces}
use Rattle.isl_union.specs.Numbers.{IsWithinLimit}
use Rattle.isl_union.specs.Tame.{minus_size, size_of, systems_of, AreOfSizes, IsOfSize, IsTameAnswer}
use Rattle.isl_union.specs.Union.{AreOfBoth, IsUnionOf}
use Rattle.isl_union.proofs.MeetSteps.{item_has}
use Rattle.isl_union.proofs.MinusLaws.{systems_all}
use Rattle.isl_union.proofs.SizeLaws.{aligned_of_size, product_more, sizes_append}
use Rattle.isl_union.proofs.ValueLaws.{first_in, second_in}

-- a fault before any work
pub plain_answer : {A : Type 0} (params : List Name) (most : ℕ) (g : Gauge) (P : A → Type 0) (fault : OpFault) → IsPlainFault params fault
    → IsTameAnswer most g g P (Err fault)
plain_answer params most g P op_fault.TooWide wide = tt
plain_answer {A = A} params most g P (op_fault.Cut cut) is =
    subst (λ (c : Cut). IsTame {A = A} most g g P (Err c)) (sym is) (tame_memory 0 most g g P (omega arith) (omega arith))

-- a call is cut, which may use fewer units
pub cut_more : {A B : Type 0} (few most : ℕ) (g h : Gauge) (P : A → Type 0) (Q : B → Type 0) (cut : Cut) → few ≤ most
    → IsTame few g h P (Err cut) → IsTame most g h Q (Err cut)
cut_more few most g h P Q cut room tame = record {
  within = record {
    units = let u = tame.within.units in omega (arith, u, room);
    answered = λ left. tame.within.answered (omega (arith, left, room));
  };
  numbers = tame.numbers;
  answer = tt;
}

pub item_system : (P : System → Type 0) (pieces : List PieceView) (i : ℕ) (piece : PieceView) → i < length pieces
    → piece ≡ get_or pieces i piece → All P (systems_of pieces) → P piece.system
item_system P pieces i piece low at all =
    item_has (λ (p : PieceView). P p.system) pieces i piece low at (All-unmapped P (λ (p : PieceView). p.system) pieces all)

pub none_of_size : (size : Size) (systems : List System) → systems ≡ [] → AreOfSize size systems
none_of_size size systems none = rw none (record { few = omega arith; each = All-nil (IsDifferenceSystem size.columns size.bits) })

-- ---- the others that lie in the space of a piece
few_in_space : (space : SpaceForm) (pieces : List PieceView) → length (systems_in space pieces) ≤ length pieces
few_in_space space [] = omega arith
few_in_space space (p ∷ pieces) = by (is_same_space space p.space) (few_in_space space pieces)
  where
    by : (b : Bool) → length (systems_in space pieces) ≤ length pieces
        → length (cons_option (if b then Some p.system else None) (systems_in space pieces)) ≤ suc (length pieces)
    by true few = omega (arith, few)
    by false few = omega (arith, few)

module _ {X : Type 0} (f : X → System) (space : SpaceForm) (others : List PieceView) (found : List X)
    (are : map f found ≡ systems_in space others) where
  pub few_found : length found ≤ length others
  few_found =
      let made = length-map found f in
      let same = ap (λ (ss : List System). length ss) are in
      let few = few_in_space space others in
      omega (arith, made, same, few)

  pub all_found : (P : System → Type 0) → All P (systems_of others) → All P (map f found)
  all_found P h =
      subst (All P) (sym are)
      (systems_all P space others (λ k d l same. All-unmapped P (λ (p : PieceView). p.system) others h k d l))

-- what is left of one piece, with the next pieces
pub one_left : (columns bits others : ℕ) (piece : PieceView) (left : List PieceView) → left ≡ piece ∷ []
    → IsDifferenceSystem columns bits piece.system → AreOfSize (left_size columns bits others) (systems_of left)
one_left columns bits others piece left is d =
    rw is (left_size_more columns bits 0 others (piece.system ∷ []) (omega arith)
    (of_size_wider (size_of 1 columns bits) (left_size columns bits 0) (piece.system ∷ [])
    (record { pieces = some (2 * row_limit columns); columns = omega arith; bits = omega arith }) (one_of_size columns bits piece.system d)))
  where
    some : (r : ℕ) → 1 ≤ r ^ 0
    some r = let e = pow-zero r in omega (arith, e)

pub left_pieces : (size : Size) (space : SpaceForm) (parts : List System) (left : List PieceView) → left ≡ map (piece_in space) parts
    → AreOfSize size parts → AreOfSize size (systems_of left)
left_pieces size space parts left made h = subst (AreOfSize size) (sym (ap systems_of made ∙ by parts)) h
  where
    by : (parts : List System) → systems_of (map (piece_in space) parts) ≡ parts
    by [] = refl
    by (s ∷ parts) = ap (λ ss. s ∷ ss) (by parts)

-- ---- pieces that are found
option_of_size : (columns bits : ℕ) (o : Option PieceView) → IfSome o (λ p. IsDifferenceSystem columns bits p.system)
    → AreOfSize (size_of 1 columns bits) (systems_of (option_to_list o))
option_of_size columns bits None h = none_of_size (size_of 1 columns bits) [] refl
option_of_size columns bits (Some p) h = one_of_size columns bits p.system h

pub found_more : (i columns bits : ℕ) (kept pushed : List PieceView) (o : Option PieceView) → pushed ≡ kept ++ option_to_list o
    → IfSome o (λ p. IsDifferenceSystem columns bits p.system) → AreOfSize (size_of i columns bits) (systems_of kept)
    → AreOfSize (size_of (i + 1) columns bits) (systems_of pushed)
found_more i columns bits kept pushed o is found h =
    sizes_append i 1 (i + 1) columns bits kept (option_to_list o) pushed (omega arith) is h (option_of_size columns bits o found)

-- the rows of both
pub both_differences : (columns bits : ℕ) (a b both : System) → IsDifferenceSystem columns bits a → IsDifferenceSystem columns bits b
    → both ≡ over_same_columns a b → HasNormalDifferences columns bits both
both_differences columns bits a b both h k is = rw is (normal_rows_of columns bits (over_same_columns a b) (record {
  narrow = h.narrow;
  undefined = h.undefined;
  rows = All-append (IsDifferenceRow bits) a.rows b.rows h.rows k.rows;
}))

pub few_filtered : (p : PieceView → Bool) (pieces : List PieceView) → length (filter p pieces) ≤ length pieces
few_filtered p [] = omega arith
few_filtered p (x ∷ pieces) = by (p x) (few_filtered p pieces)
  where
    by : (b : Bool) → length (filter p pieces) ≤ length pieces → length (cond b (x ∷ filter p pieces) (filter p pieces)) ≤ suc (length pieces)
    by true few = omega (arith, few)
    by false few = omega (arith, few)

pub all_filtered : (P : System → Type 0) (p : PieceView → Bool) (pieces : List PieceView) → All P (systems_of pieces)
    → All P (systems_of (filter p pieces))
all_filtered P p pieces h =
    All-map P (λ (q : PieceView). q.system) (filter p pieces)
    (All-filter p (λ (q : PieceView). P q.system) pieces (All-unmapped P (λ (q : PieceView). q.system) pieces h))

-- ---- one system less that is still to come, each with as many units
pub count_next : (g h k before rest n w : ℕ) → before ≡ suc rest → h + before * w ≤ g + n * w → k ≤ h + w → k + rest * w ≤ g + n * w
count_next g h k before rest n w is so_far used = let e = ap (λ m. m * w) is in omega (arith, e, so_far, used)

pub count_fits : (g h before rest n w : ℕ) → before ≡ suc rest → g ≤ h → h + before * w ≤ g + n * w → (h - g) + w ≤ n * w
count_fits g h before rest n w is charged so_far = let e = ap (λ m. m * w) is in omega (arith, e, charged, so_far)

-- ---- a fault of a space, before any work
pub space_answer : {A : Type 0} (most : ℕ) (g : Gauge) (P : A → Type 0) (fault : SpaceFault) → IsTameAnswer most g g P (Err (fault_of fault))
space_answer most g P space_fault.TooWide = tt
space_answer most g P space_fault.NoMemory = tame_memory 0 most g g P (omega arith) (omega arith)

-- ---- two values over their joined parameters
module _ (g : Gauge) (a b : KeptValue) (params : List Name) (firsts seconds : List PieceView) (pair : IsAlignedPair g a b params firsts seconds)
    (own others columns bits : ℕ) (sizes : AreOfSizes own others columns bits a b) where
  own_sized : AreOfSize (size_of own columns bits) (systems_of firsts)
  own_sized = pair.own.sizes (size_of own columns bits) (subst (λ (l : List Name). IsOfSize l (size_of own columns bits) a) (sym pair.params)
      sizes.first)

  others_sized : AreOfSize (size_of others columns bits) (systems_of seconds)
  others_sized = pair.others.sizes (size_of others columns bits)
      (subst (λ (l : List Name). IsOfSize l (size_of others columns bits) b) (sym pair.params) sizes.second)

  pub own_each : All (IsDifferenceSystem columns bits) (systems_of firsts)
  own_each = own_sized.each

  pub others_each : All (IsDifferenceSystem columns bits) (systems_of seconds)
  others_each = others_sized.each

  pub own_few : length firsts ≤ own
  own_few = let few = own_sized.few in let all = length-map firsts (λ (p : PieceView). p.system) in omega (arith, few, all)

  pub others_few : length seconds ≤ others
  others_few = let few = others_sized.few in let all = length-map seconds (λ (p : PieceView). p.system) in omega (arith, few, all)

  pub minus_allowed : length firsts * left_work columns (length seconds) ≤ own * left_work columns others
  minus_allowed =
      product_more (length firsts) (left_work columns (length seconds)) own (left_work columns others) own_few
      (left_work_more columns (length seconds) others others_few)

  pub minus_back_allowed : length seconds * left_work columns (length firsts) ≤ others * left_work columns own
  minus_back_allowed =
      product_more (length seconds) (left_work columns (length firsts)) others (left_work columns own) others_few
      (left_work_more columns (length firsts) own own_few)

  pub minus_sized : (left : List PieceView) → AreOfSize (minus_size (length firsts) (length seconds) columns bits) (systems_of left)
      → AreOfSize (minus_size own others columns bits) (systems_of left)
  minus_sized left h =
      of_size_wider (minus_size (length firsts) (length seconds) columns bits) (minus_size own others columns bits) (systems_of left) (record {
        pieces = product_more (length firsts) (part_limit columns (length seconds)) own (part_limit columns others) own_few
            (part_limit_more columns (length seconds) others others_few);
        columns = omega arith;
        bits = omega arith;
      }) h

  pub meet_allowed : (w : ℕ) → length firsts * (length seconds * w) ≤ own * (others * w)
  meet_allowed w =
      product_more (length firsts) (length seconds * w) own (others * w) own_few
      (mul-le-mul_right {m = length seconds} {n = others} w others_few)

  pub meet_sized : (met : List PieceView) → AreOfSize (size_of (length firsts * length seconds) columns bits) (systems_of met)
      → AreOfSize (size_of (own * others) columns bits) (systems_of met)
  meet_sized met h =
      of_size_wider (size_of (length firsts * length seconds) columns bits) (size_of (own * others) columns bits) (systems_of met) (record {
        pieces = product_more (length firsts) (length seconds) own others own_few others_few;
        columns = omega arith;
        bits = omega arith;
      }) h

-- ---- pieces without some of their columns
-- the systems that are left of one, and their tests
pub narrowed_work : (c t n : ℕ) → n ≤ 1 → t * (c * c) + n * ((c - t) * ((c - t) * (c - t))) ≤ (t + c) * (c * c)
narrowed_work c t n one = by (c - t) (omega arith)
  where
    by : (d : ℕ) → d ≤ c → t * (c * c) + n * (d * (d * d)) ≤ (t + c) * (c * c)
    by d less =
        let square = product_more d d c c less less in
        let cube = product_more d (d * d) c (c * c) less square in
        let few = product_more n (d * (d * d)) 1 (c * (c * c)) one cube in
        let both = add-mul t c (c * c) in
        omega (arith, few, both)

pub narrowed_rows : (count columns bits : ℕ) (systems : List System)
    → AreOfSize (drop_size count (size_of 1 columns bits)) systems → All (HasNormalDifferences (columns - count) (bits + count)) systems
narrowed_rows count columns bits systems h = λ k d l.
    let s = get_or systems k d in
    normal_rows_of (columns - count) (bits + count) s (differences_of (columns - count) (bits + count) s (h.each k d l))

pub narrowed_sized : (n columns bits : ℕ) (more : List PieceView) → n ≤ 1 → AreOfSize (size_of n columns bits) (systems_of more)
    → AreOfSize (size_of 1 columns bits) (systems_of more)
narrowed_sized n columns bits more one h =
    of_size_wider (size_of n columns bits) (size_of 1 columns bits) (systems_of more)
    (record { pieces = one; columns = omega arith; bits = omega arith }) h

pub more_pieces : (few most columns bits : ℕ) (pieces : List PieceView) → few ≤ most → AreOfSize (size_of few columns bits) (systems_of pieces)
    → AreOfSize (size_of most columns bits) (systems_of pieces)
more_pieces few most columns bits pieces room h =
    of_size_wider (size_of few columns bits) (size_of most columns bits) (systems_of pieces)
    (record { pieces = room; columns = omega arith; bits = omega arith }) h

-- ---- one of some pieces
pub sample_allowed : (pieces columns : ℕ) → 1 ≤ pieces
    → 8 * ((columns + 1) * allowance 1 columns) ≤ 8 * ((columns + 1) * allowance pieces columns)
sample_allowed pieces columns some =
    mul-le-mul_left 8 (mul-le-mul_left (columns + 1) (allowance_more 1 pieces columns some))

-- ---- the union of two values
both_sized : (params : List Name) (p q columns bits : ℕ) (own others pieces : List KeptPiece) → AreOfBoth own others pieces
    → AreOfSize (size_of p columns bits) (map (piece_system params) own) → AreOfSize (size_of q columns bits) (map (piece_system params) others)
    → AreOfSize (size_of (p + q) columns bits) (map (piece_system params) pieces)
both_sized params p q columns bits own others pieces (inl once) h k =
    rw once.1 (of_size_wider (size_of p columns bits) (size_of (p + q) columns bits) (map (piece_system params) own)
    (record { pieces = omega arith; columns = omega arith; bits = omega arith }) h)
both_sized params p q columns bits own others pieces (inr apart) h k =
    rw (apart.1, map-append (piece_system params) own others)
    (of_size_append p q columns bits (map (piece_system params) own) (map (piece_system params) others) h k)

pub union_sized : (g : Gauge) (a b value : KeptValue) → IsKeptValue a → IsKeptValue b → IsWithinLimit g a → IsWithinLimit g b
    → IsUnionOf a b value → (own others columns bits : ℕ) → AreOfSizes own others columns bits a b
    → IsOfSize value.params (size_of (own + others) columns bits) value
union_sized g a b value p q h k is own others columns bits sizes =
    let all = joined a.params b.params in
    let first = aligned_of_size g all a p h (first_in a.params b.params) (size_of own columns bits) sizes.first in
    let second = aligned_of_size g all b q k (second_in a.params b.params p.params q.params) (size_of others columns bits) sizes.second in
    subst (λ (l : List Name). IsOfSize l (size_of (own + others) columns bits) value) (sym is.params)
    (both_sized all own others columns bits (aligned_pieces all a) (aligned_pieces all b) value.pieces is.pieces first second)
