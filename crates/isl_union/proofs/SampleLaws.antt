-- Rows that say what a number is, and the systems of one point.
use Rattle.std.proofs.Common.{◌≡◌, ◌≢◌, ◌↔◌, refl, sym, ap, ◌∙◌, arith, subst, ℕ, zero, suc, ◌+◌, ◌-◌, ◌^◌, ◌<◌, ◌≤◌, ℤ, pos, neg_ℤ, ◌<ℤ◌}
use Rattle.std.proofs.Common.{◌+ℤ◌, ◌-ℤ◌, ◌*ℤ◌, unsigned_abs, false, List, [], ◌∷◌, ◌++◌, All, length, get_or, set, take, drop, replicate}
use Rattle.std.proofs.Common.{ap₂, pow_mono, take-append-drop, inr, Any, Some, map, slice_get}
use Rattle.std.specs.List.{zip}
use Rattle.std.proofs.lemmas.Bool.{false_from_ne_true}
use Rattle.std.proofs.lemmas.List.{get_or-replicate, get_or-set_same, get_or-set_other, length-drop, length-replicate, length-set}
use Rattle.std.proofs.lemmas.List.{get_or-map, length-map, length-take-le, take_more}
use Rattle.std.proofs.lemmas.List.Elements.{All-cons, All-head, All-nil, All-replicate, All-set, All-tail, All-weaker}
use Rattle.std.proofs.lemmas.Option.{get_or_from_slice_get}
use Rattle.isl_math.specs.Dot.{dot}
use Rattle.isl_math.specs.Gcd.{content}
use Rattle.isl_math.proofs.DivideLaws.{Divides-same, one-Divides}
use Rattle.isl_math.proofs.DotLaws.{dot-set_left, dot-zeros}
use Rattle.isl_math.proofs.Ring.{expand, linear}
use Rattle.isl_meter.specs.Gauge.{Gauge, IsWithin}
use Rattle.isl_space.specs.Element.{Element, IsElement}
use Rattle.isl_space.specs.Name.{Name}
use Rattle.isl_space.specs.Names.{AreDistinct}
use Rattle.isl_space.specs.SpaceForm.{SpaceForm, IsWellFormedSpace}
use Rattle.isl_space.specs.Valuation.{Valuation, values_of}
use Rattle.isl_space.proofs.ValuationLaws.{values_of-zip}
use Rattle.isl_piece.specs.declared.row.Row.{Row}
use Rattle.isl_piece.specs.Normal.{normal_row, same_bound, IsNormal, Kept}
use Rattle.isl_piece.specs.Numbers.{lead}
use Rattle.isl_piece.specs.Row.{HoldsRow, HasModulus, IsRowUpTo, IsWellFormed}
use Rattle.isl_piece.specs.Piece.{PieceView}
use Rattle.isl_piece.specs.System.{HoldRows, HoldsSystem, IsSystemWithin, free_columns}
use Rattle.isl_piece.proofs.ContentLaws.{content_is}
use Rattle.isl_piece.proofs.MergeLaws.{same_bound-true, AreApart}
use Rattle.isl_piece.proofs.NormalLaws.{IsNormal-from}
use Rattle.isl_piece.proofs.NormalSteps.{upright_stays, zero_kept}
use Rattle.isl_piece.proofs.NumberLaws.{divided_one, quotient_one}
use Rattle.isl_ledger.specs.Difference.{IsDifferenceSystem}
use Rattle.isl_ledger.specs.Work.{Size}
use Rattle.isl_elim.specs.Sample.{IsSample}
use Rattle.isl_union.specs.KeptValue.{KeptPiece, KeptValue, Has, HasElement, IsKeptPiece, IsKeptValue, columns_of, piece_system, point_of}
use Rattle.isl_union.specs.Numbers.{IsPieceUpTo, IsWithinLimit}
use Rattle.isl_union.specs.Piece.{kept_piece, piece_of, IsPieceOf}
use Rattle.isl_union.specs.Sample.{number_row, number_rows, only_piece, point_system, IsSampleOf}
use Rattle.isl_union.specs.Tame.{IsOfSize}
use Rattle.isl_union.proofs.PieceLaws.{IsKeptValue-from_pieces}
use Rattle.isl_union.proofs.SizeLaws.{pieces_of_size}
use Rattle.isl_union.proofs.TameLaws.{item_system}
use Rattle.isl_union.proofs.SystemLaws.{made_sound, view_free, view_is, view_within}

-- ---- the form that is one column
-- 0 at each column but one, where it is 1
abbrev unit_form : ℕ → ℕ → List ℤ
unit_form columns column = set (replicate columns (pos 0)) column (pos 1)

unit_long : (n c : ℕ) → length (unit_form n c) ≡ n
unit_long n c = length-set (replicate n (pos 0)) c (pos 1) ∙ length-replicate n (pos 0)

unit_here : (n c : ℕ) → c < n → get_or (unit_form n c) c (pos 0) ≡ pos 1
unit_here n c low = get_or-set_same (replicate n (pos 0)) c (pos 1) (pos 0) (let l = length-replicate n (pos 0) in omega arith)

unit_other : (n c d : ℕ) → d < n → d ≢ c → get_or (unit_form n c) d (pos 0) ≡ pos 0
unit_other n c d low other = get_or-set_other (replicate n (pos 0)) c d (pos 1) (pos 0) other ∙ get_or-replicate n d (pos 0) (pos 0) low

unit_content : (n c : ℕ) → c < n → content (unit_form n c) ≡ pos 1
unit_content n c low = content_is (unit_form n c) (pos 1) (record {
  not_negative = omega (arith, linear);
  common = λ i d l. one-Divides (get_or (unit_form n c) i d);
  greatest = λ d all. Divides-same d (get_or (unit_form n c) c (pos 0)) (pos 1) (unit_here n c low)
      (all c (pos 0) (let l = unit_long n c in omega arith));
})

unit_lead : (n c : ℕ) → c < n → lead (unit_form n c) ≡ pos 1
unit_lead zero c low = absurd (omega arith)
unit_lead (suc n) zero low = refl
unit_lead (suc n) (suc c) low = unit_lead n c (omega arith)

unit_dot : (n c : ℕ) (xs : List ℤ) → c < n → dot (unit_form n c) xs ≡ get_or xs c (pos 0)
unit_dot n c xs low =
    let zeros = replicate n (pos 0) in
    by (dot (unit_form n c) xs) (dot zeros xs) (get_or zeros c (pos 0)) (get_or xs c (pos 0))
    (dot-set_left zeros xs c (pos 1) (let l = length-replicate n (pos 0) in omega arith)) (dot-zeros n xs)
    (get_or-replicate n c (pos 0) (pos 0) low)
  where
    by : (v d g y : ℤ) → v ≡ d +ℤ (pos 1 -ℤ g) *ℤ y → d ≡ pos 0 → g ≡ pos 0 → v ≡ y
    by v d g y e z h = let e' = simp expand at e in let m = simp expand at (ap (λ w. w *ℤ y) h) in omega (arith, linear)

-- ---- one row
module _ (n c : ℕ) (z : ℤ) (low : c < n) where
  number_settled : normal_row (number_row n c z) ≡ Kept (number_row n c z)
  number_settled =
      let one = unit_lead n c low in
      let r = number_row n c z in
      let upright = upright_stays r refl refl (not_zero (lead r.coefs) one) (not_negative (lead r.coefs) one) in
      let divides = one-Divides (neg_ℤ z) in
      zero_kept (unit_form n c) (neg_ℤ z) (pos 1) r (sym (unit_content n c low)) (λ e. absurd (omega (arith, linear))) divides
      (rw (divided_one (unit_form n c), quotient_one (neg_ℤ z)) upright)
    where
      not_zero : (x : ℤ) → x ≡ pos 1 → x ≢ pos 0
      not_zero x e f = omega (arith, linear)

      not_negative : (x : ℤ) → x ≡ pos 1 → ¬ (x <ℤ pos 0)
      not_negative x e f = omega (arith, linear)

  number_formed : IsWellFormed n (number_row n c z)
  number_formed = record { width = unit_long n c; modulus = refl }

  number_up_to : (b : ℕ) → 1 ≤ b → unsigned_abs z ≤ b → IsRowUpTo b (number_row n c z)
  number_up_to b one up = record {
    coefs = All-set (λ x. unsigned_abs x ≤ b) (replicate n (pos 0)) c (pos 1) one
        (All-replicate (λ x. unsigned_abs x ≤ b) n (pos 0) (omega arith));
    constant = omega (arith, linear);
    k = one;
  }

  pub number_holds : (xs : List ℤ) → HoldsRow (number_row n c z) xs ↔ (get_or xs c (pos 0) ≡ z)
  number_holds xs = by (dot (unit_form n c) xs) (get_or xs c (pos 0)) (unit_dot n c xs low)
    where
      by : (v y : ℤ) → v ≡ y → (v +ℤ neg_ℤ z ≡ pos 0) ↔ (y ≡ z)
      by v y e = ((λ h. omega (arith, linear)), (λ h. omega (arith, linear)))

number_apart : (n c d : ℕ) (y z : ℤ) → c < n → c ≢ d → same_bound (number_row n c y) (number_row n d z) ≡ false
number_apart n c d y z low other = false_from_ne_true _
    (λ e. never (get_or (unit_form n c) c (pos 0)) (get_or (unit_form n d) c (pos 0)) (unit_here n c low) (unit_other n d c low other)
    (ap (λ l. get_or l c (pos 0)) (same_bound-true (number_row n c y) (number_row n d z) e).coefs))
  where
    never : (a b : ℤ) → a ≡ pos 1 → b ≡ pos 0 → a ≡ b → ⊥
    never a b e f g = omega (arith, linear)

-- ---- rows
-- what each row has, where its number has Q
numbers_all : (P : Row → Type 0) (Q : ℤ → Type 0) (n : ℕ) → ((c : ℕ) (z : ℤ) → c < n → Q z → P (number_row n c z))
    → (first : ℕ) (zs : List ℤ) → first + length zs ≤ n → All Q zs → All P (number_rows n first zs)
numbers_all P Q n f first [] room all = All-nil P
numbers_all P Q n f first (z ∷ zs) room all =
    All-cons P (number_row n first z) (number_rows n (suc first) zs) (f first z (omega arith) (All-head Q z zs all))
    (numbers_all P Q n f (suc first) zs (omega arith) (All-tail Q z zs all))

-- the same without a fact of the numbers
numbers_each : (P : Row → Type 0) (n : ℕ) → ((c : ℕ) (z : ℤ) → c < n → P (number_row n c z)) → (first : ℕ) (zs : List ℤ)
    → first + length zs ≤ n → All P (number_rows n first zs)
numbers_each P n f first zs room = numbers_all P (λ z. Unit {0}) n (λ c z low _. f c z low) first zs room (λ i d l. tt)

numbers_other : (n c : ℕ) (y : ℤ) → c < n → (first : ℕ) (zs : List ℤ) → c < first
    → All (λ r. same_bound (number_row n c y) r ≡ false) (number_rows n first zs)
numbers_other n c y low first [] before = All-nil (λ r. same_bound (number_row n c y) r ≡ false)
numbers_other n c y low first (z ∷ zs) before =
    All-cons (λ r. same_bound (number_row n c y) r ≡ false) (number_row n first z) (number_rows n (suc first) zs)
    (number_apart n c first y z low (λ e. omega arith)) (numbers_other n c y low (suc first) zs (omega arith))

numbers_apart : (n first : ℕ) (zs : List ℤ) → first + length zs ≤ n → AreApart (number_rows n first zs)
numbers_apart n first [] room = tt
numbers_apart n first (z ∷ zs) room =
    (numbers_other n first z (omega arith) (suc first) zs (omega arith), numbers_apart n (suc first) zs (omega arith))

numbers_normal : (n first : ℕ) (zs : List ℤ) → first + length zs ≤ n → IsNormal (number_rows n first zs)
numbers_normal n first zs room =
    IsNormal-from (number_rows n first zs) (numbers_each (λ r. normal_row r ≡ Kept r) n (λ c z low. number_settled n c z low) first zs room)
    (numbers_each (λ r. HasModulus r.kind r.k) n (λ c z low. refl) first zs room) (numbers_apart n first zs room)

-- they hold where each column has its number
numbers_hold : (n first : ℕ) (zs xs : List ℤ) → first + length zs ≤ n
    → ((i : ℕ) → i < length zs → get_or xs (first + i) (pos 0) ≡ get_or zs i (pos 0)) → HoldRows (number_rows n first zs) xs
numbers_hold n first [] xs room same = All-nil (λ r. HoldsRow r xs)
numbers_hold n first (z ∷ zs) xs room same =
    All-cons (λ r. HoldsRow r xs) (number_row n first z) (number_rows n (suc first) zs)
    ((number_holds n first z (omega arith) xs).1 (ap (λ i. get_or xs i (pos 0)) (omega arith) ∙ same 0 (omega arith)))
    (numbers_hold n (suc first) zs xs (omega arith)
    (λ i low. ap (λ j. get_or xs j (pos 0)) (omega arith) ∙ same (suc i) (omega arith)))

pub point_holds : (point : List ℤ) → HoldRows (point_system point).rows point
point_holds point = numbers_hold (length point) 0 point point (omega arith)
    (λ i low. ap (λ j. get_or point j (pos 0)) (omega arith))

-- ---- a loop's step: the row of one number more
numbers_push : (n first : ℕ) (zs : List ℤ) (z : ℤ)
    → number_rows n first (zs ++ z ∷ []) ≡ number_rows n first zs ++ number_row n (first + length zs) z ∷ []
numbers_push n first [] z = ap (λ c. number_row n c z ∷ []) (omega arith)
numbers_push n first (y ∷ zs) z =
    ap (λ rows. number_row n first y ∷ rows)
    (numbers_push n (suc first) zs z ∙ ap (λ c. number_rows n (suc first) zs ++ number_row n c z ∷ []) (omega arith))

pub numbers_more : (n : ℕ) (point : List ℤ) (i : ℕ) (z : ℤ) → i < length point → get_or point i z ≡ z
    → number_rows n 0 (take (i + 1) point) ≡ number_rows n 0 (take i point) ++ number_row n i z ∷ []
numbers_more n point i z low at =
    ap (number_rows n 0) (take_more point i z low ∙ ap (λ y. take i point ++ y ∷ []) at) ∙ numbers_push n 0 (take i point) z
    ∙ ap (λ c. number_rows n 0 (take i point) ++ number_row n c z ∷ [])
    (let l = length-take-le i point (omega arith) in omega (arith, l))

-- ---- the piece of a point
-- the piece with the first of its rows
abbrev pub numbers_piece : SpaceForm → ℕ → List Row → PieceView
numbers_piece space columns rows = record { space = space; system = record { columns = columns; definitions = []; rows = rows } }

module _ (params : List Name) (space : SpaceForm) (point : List ℤ) (long : length point ≡ columns_of params space) where
  pub point_kept : IsWellFormedSpace space → IsKeptPiece params (piece_of space (point_system point))
  point_kept formed = record {
    space = formed;
    definitions = tt;
    rows = let e : length point ≡ 0 + columns_of params space = omega (arith, long) in
        subst (λ n. All (IsWellFormed n) (number_rows (length point) 0 point)) e
        (numbers_each (IsWellFormed (length point)) (length point) (λ c z low. number_formed (length point) c z low) 0 point (omega arith));
    normal = numbers_normal (length point) 0 point (omega arith);
    live = λ void. void point long (point_holds point);
  }

  pub point_up_to : (b : ℕ) → 1 ≤ b → All (λ z. unsigned_abs z ≤ b) point → IsPieceUpTo b (piece_of space (point_system point))
  point_up_to b one up = record {
    rows = numbers_all (IsRowUpTo b) (λ z. unsigned_abs z ≤ b) (length point)
        (λ c z low. number_up_to (length point) c z low b one) 0 point (omega arith) up;
    definitions = All-nil _;
  }

  -- each list of numbers is the point of some element at some valuation
  pub point_split : AreDistinct params
      → (v : Valuation) × (e : Element) × (e.space ≡ space) × IsElement e × (point_of params v e ≡ point)
  point_split distinct =
      let n = length params in
      let v : Valuation = zip params (take n point) in
      let e : Element = record { space = space; coordinates = drop n point } in
      let front = length-take-le n point (omega (arith, long)) in
      let behind = length-drop n point in
      let named : values_of params v ≡ take n point = values_of-zip params (take n point) distinct (sym front) in
      (v, e, refl, omega (arith, behind, long), ap (λ xs. xs ++ drop n point) named ∙ take-append-drop n point)

-- ---- the sample of a value
-- the piece of one point of the other, with numbers within the limit
abbrev IsPointPiece : Gauge → PieceView → PieceView → Type 0
IsPointPiece g p only = (point : List ℤ) × IsSample g (free_columns p.system) (HoldsSystem p.system) point
    × (only ≡ record { space = p.space; system = point_system point })

-- the value with these names and pieces is a sample of the other, and may be kept, with its numbers within the limit
pub record IsMade (g : Gauge) (value made : KeptValue) : Type 0 where
  pub exact : IsSampleOf value made
  pub kept : IsKeptValue made
  pub small : All (IsPieceUpTo (2 ^ g.bits - 1)) made.pieces

module _ (g : Gauge) (value : KeptValue) (kept : IsKeptValue value) where
  module _ (p : PieceView) (fit : IsPieceOf value.params p) (point : List ℤ)
      (sample : IsSample g (free_columns p.system) (HoldsSystem p.system) point) where
    point_wide : length point ≡ columns_of value.params p.space
    point_wide = sample.width ∙ view_free value.params p fit

    point_has : (v : Valuation) (e : Element) → e.space ≡ p.space → IsElement e → point_of value.params v e ≡ point
        → HasElement value.params v e (kept_piece p)
    point_has v e space numbers whole = record {
      numbers = numbers;
      space = sym space;
      holds = subst (λ xs. HoldsSystem (piece_system value.params (kept_piece p)) xs) (sym whole)
          (subst (λ s. HoldsSystem s point) (view_is value.params p fit) sample.holds);
    }

    only_sound : (only : PieceView) → only ≡ record { space = p.space; system = point_system point } → IsPieceOf value.params only
    only_sound only is =
        made_sound value.params only (piece_of p.space (point_system point)) (ap kept_piece is)
        (ap (λ (m : PieceView). m.system.columns) is ∙ (let w = point_wide in omega (arith, w)))
        (point_kept value.params p.space point point_wide fit.kept.space)

  -- the first piece, and the elements that the value has by it
  module _ (pieces : List PieceView) (p : PieceView) (same : map kept_piece pieces ≡ value.pieces)
      (sound : All (IsPieceOf value.params) pieces) (first : slice_get pieces 0 ≡ Some p) where
    first_low : 0 < length pieces
    first_low = by pieces first
      where
        by : (ps : List PieceView) → slice_get ps 0 ≡ Some p → 0 < length ps
        by [] e = absurd (let f = e in cc)
        by (q ∷ ps) e = omega arith

    first_here : get_or pieces 0 p ≡ p
    first_here = get_or_from_slice_get pieces 0 p p first

    first_fit : IsPieceOf value.params p
    first_fit = subst (IsPieceOf value.params) first_here (sound 0 p first_low)

    first_has : (v : Valuation) (e : Element) → HasElement value.params v e (kept_piece p) → Has value v e
    first_has v e h =
        subst (Any (HasElement value.params v e)) same (
          0,
          kept_piece p,
          rw (length-map pieces kept_piece) first_low,
          get_or-map kept_piece pieces 0 p (kept_piece p) first_low ∙ ap kept_piece first_here,
          h,
        )

    pub first_within : IsWithinLimit g value → IsSystemWithin g p.system
    first_within all =
        let b = 2 ^ g.bits - 1 in
        let stored = subst (All (IsPieceUpTo b)) (sym same) all 0 (kept_piece p) (rw (length-map pieces kept_piece) first_low) in
        view_within g value.params p first_fit (subst (IsPieceUpTo b)
        (get_or-map kept_piece pieces 0 p (kept_piece p) first_low ∙ ap kept_piece first_here) stored)

    -- the first piece is of difference constraints where all are
    pub first_of_size : (size : Size) → IsOfSize value.params size value
        → (1 ≤ size.pieces) × IsDifferenceSystem size.columns size.bits p.system
    first_of_size size h =
        let all = pieces_of_size value.params size pieces value.pieces sound same h in
        let few = all.few in
        let long = length-map pieces (λ (q : PieceView). q.system) in
        let some = first_low in (
          omega (arith, few, long, some),
          item_system (IsDifferenceSystem size.columns size.bits) pieces 0 p some (sym first_here) all.each,
        )

    pub one_sound : (only : PieceView) → IsPointPiece g p only → (made : List PieceView) → made ≡ only ∷ []
        → All (IsPieceOf value.params) made
    one_sound only it made is =
        rw is (All-cons (IsPieceOf value.params) only [] (only_sound p first_fit it.0 it.1 only it.2) (All-nil (IsPieceOf value.params)))

    pub one_made : 8 ≤ g.bits → (only : PieceView) → IsPointPiece g p only → (made : KeptValue)
        → made ≡ record { params = value.params; pieces = map kept_piece (only ∷ []) } → IsMade g value made
    one_made low only it made is =
        let room : 2 ^ 8 ≤ 2 ^ g.bits = pow_mono low in
        let point = it.0 in
        let sample = it.1 in
        let split = point_split value.params p.space point (point_wide p first_fit point sample) kept.params.distinct in
        let v = split.0 in
        let e = split.1 in
        let space = split.2 in
        let whole = split.4 in
        let has = first_has v e (point_has p first_fit point sample v e space split.3 whole) in
        let written : kept_piece only ≡ only_piece value.params v e = ap kept_piece it.2
        ∙ ap₂ (λ s xs. piece_of s (point_system xs)) (sym space) (sym whole) in
        let few : All (λ z. unsigned_abs z ≤ 2 ^ g.bits - 1) point = All-weaker (IsWithin g) (λ z. unsigned_abs z ≤ 2 ^ g.bits - 1)
        (λ z h. omega (arith, h)) point sample.within in
        let small : IsPieceUpTo (2 ^ g.bits - 1) (kept_piece only) =
        subst (IsPieceUpTo (2 ^ g.bits - 1)) (sym (ap kept_piece it.2))
        (point_up_to value.params p.space point (point_wide p first_fit point sample) (2 ^ g.bits - 1)
        (omega arith) few) in
        rw is (record {
          exact = record { params = refl; pieces = inr (v, e, has, ap (λ (k : KeptPiece). k ∷ []) written) };
          kept = IsKeptValue-from_pieces value.params (only ∷ []) kept.params
              (one_sound only it (only ∷ []) refl);
          small = All-cons (IsPieceUpTo (2 ^ g.bits - 1)) (kept_piece only) [] small (All-nil (IsPieceUpTo (2 ^ g.bits - 1)));
        })
