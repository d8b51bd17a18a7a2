-- A column between two opposite bounds.
use Rattle.std.proofs.Common.{◌≡◌, ◌≢◌, ◌↔◌, ◌⊎◌, inl, inr, true, refl, sym, ap, subst, ◌∙◌, arith, ℕ, zero, suc, ◌+◌, ◌-◌, ◌<◌, ◌≤◌}
use Rattle.std.proofs.Common.{ℤ, pos, negsuc, neg_ℤ, ◌+ℤ◌, ◌-ℤ◌, ◌*ℤ◌, ◌≤ℤ◌, ◌<ℤ◌}
use Rattle.std.proofs.Common.{List, [], ◌∷◌, ◌++◌, length, get_or, set, replicate, Option, add-one}
use Rattle.std.specs.List.{All, insert}
use Rattle.std.specs.Prelude.{Result, Ok, Err}
use Rattle.isl_meter.specs.declared.Cut.{Cut}
use Rattle.std.proofs.lemmas.List.{append_assoc, get_or-set_same, get_or-set_other, get_or-replicate, get_or_default}
use Rattle.std.proofs.lemmas.List.{length-set, length-replicate}
use Rattle.std.proofs.lemmas.List.Elements.{All-nil, All-append, All-push, All-replicate}
use Rattle.isl_math.proofs.ListLaws.{All-last, All-parts}
use lib.IntN.{neg_ℤ-neg_ℤ}
use Rattle.isl_math.specs.Divide.{Divides, floor_div, floor_mod}
use Rattle.isl_math.specs.Dot.{dot, scaled}
use Rattle.isl_math.proofs.Ring.{expand, linear}
use Rattle.isl_math.proofs.OrderLaws.{cases_ℤ}
use Rattle.isl_math.proofs.DotLaws.{dot-scaled, dot-zeros}
use Rattle.isl_math.proofs.DivideLaws.{floor_split, floor_mod_bounds, le_from_Divides, Divides_self, Divides-zero, Divides-same}
use Rattle.isl_meter.specs.Gauge.{Gauge, IsDone, IsWithin}
use Rattle.isl_meter.proofs.LimitLemmas.{IsWithin-zero}
use Rattle.isl_piece.specs.declared.row.RowKind.{RowKind}
use Rattle.isl_piece.specs.declared.row.RowKind.TheVariants as kinds
use Rattle.isl_piece.specs.declared.row.Row.{Row}
use Rattle.isl_piece.specs.Normal.{bound}
use Rattle.isl_piece.specs.Row.{HasModulus, HoldsRow, HoldsValue, IsRowWithin, IsWellFormed, coef_at, value_at}
use Rattle.isl_piece.specs.System.{HoldRows}
use Rattle.isl_shadows.specs.Column.{HoldAtSome}
use Rattle.isl_omega.specs.Column.{HoldAt, IsAnswerFor, IsFree, IsFreeKind, IsProper, rest_at}
use Rattle.isl_omega.proofs.ColumnLemmas.{value_at-insert, free_anywhere}
use Rattle.isl_omega.proofs.ImageLemmas.{answer_same}
use Rattle.isl_elim.specs.declared.narrow.Narrow.{Narrow}
use Rattle.isl_ledger.specs.Difference.{IsDifferenceRow}
use Rattle.isl_elim.proofs.OthersLaws.{among, among_at}
use Rattle.isl_elim.proofs.TameLaws.{unit_rows}
use Rattle.isl_elim.specs.Narrow.{AreBounds, AreFreeBelow, AreOpposite, IsNarrow, remainder_out, remainders_out}

-- ---- numbers
-- e - k d is between 0 and s for some d, where none of the k - 1 - s numbers behind e is a multiple of k
few_remainders : (k e s : ℤ) → pos 0 <ℤ k → pos 0 ≤ℤ s → s <ℤ k
    → ((d : ℤ) × (pos 0 ≤ℤ (e -ℤ k *ℤ d)) × ((e -ℤ k *ℤ d) ≤ℤ s)) ↔ ((t : ℤ) → pos 1 ≤ℤ t → t ≤ℤ (k -ℤ pos 1 -ℤ s) → ¬ Divides k (e +ℤ t))
few_remainders k e s p low high = (forth, back)
  where
    forth : (h : (d : ℤ) × (pos 0 ≤ℤ (e -ℤ k *ℤ d)) × ((e -ℤ k *ℤ d) ≤ℤ s)) → (t : ℤ) → pos 1 ≤ℤ t → t ≤ℤ (k -ℤ pos 1 -ℤ s)
        → ¬ Divides k (e +ℤ t)
    forth h t a b = λ v.
        let d = h.0 in
        let least = h.1 in
        let most = h.2 in
        let is = simp expand at v.is in
        let m : Divides k (e -ℤ k *ℤ d +ℤ t) = record { quotient = v.quotient -ℤ d; is = simp expand (omega (arith, linear)) } in
        let far = le_from_Divides k (e -ℤ k *ℤ d +ℤ t) (omega (arith, linear)) m in
        omega (arith, linear)

    back : ((t : ℤ) → pos 1 ≤ℤ t → t ≤ℤ (k -ℤ pos 1 -ℤ s) → ¬ Divides k (e +ℤ t))
        → (d : ℤ) × (pos 0 ≤ℤ (e -ℤ k *ℤ d)) × ((e -ℤ k *ℤ d) ≤ℤ s)
    back f =
        let split = floor_split e k p in
        let bounds = floor_mod_bounds e k p in
        let q = floor_div e k in
        let r = floor_mod e k in
        let rest : e -ℤ k *ℤ q ≡ r = omega (arith, linear) in
        let small : r ≤ℤ s → (d : ℤ) × (pos 0 ≤ℤ (e -ℤ k *ℤ d)) × ((e -ℤ k *ℤ d) ≤ℤ s) =
        λ l. (q, omega (arith, linear), omega (arith, linear)) in
        elim (cases_ℤ r s) [
          | inl l ↦ small (omega (arith, linear))
          | inr h ↦ elim h [
            | inl l ↦ small (omega (arith, linear))
            | inr l ↦ absurd (f (k -ℤ r) (omega (arith, linear)) (omega (arith, linear))
                (record { quotient = q +ℤ pos 1; is = simp expand (omega (arith, linear)) }))
          ]
        ]

whole_part : (t : ℤ) → pos 1 ≤ℤ t → (n : ℕ) × (t ≡ pos n) × (1 ≤ n)
whole_part (pos n) l = (n, refl, omega (arith, linear, l))
whole_part (negsuc n) l = absurd (omega (arith, linear, l))

-- ---- the rows that leave remainders out
pub leave_out : (col : ℕ) (r : Row) (n : ℕ) (xs : List ℤ)
    → HoldRows (remainders_out col r n) xs ↔ ((m : ℕ) → 1 ≤ m → m ≤ n → ¬ Divides (coef_at r col) (value_at r xs +ℤ pos m))
leave_out col r n xs = (forth n, back n)
  where
    k : ℤ
    k = coef_at r col

    P : Row → Type 0
    P q = HoldsRow q xs

    sum : (d c m : ℤ) → d +ℤ (c +ℤ m) ≡ (d +ℤ c) +ℤ m
    sum d c m = omega (arith, linear)

    same : (m : ℕ) → dot r.coefs xs +ℤ (r.constant +ℤ pos m) ≡ value_at r xs +ℤ pos m
    same m = sum (dot r.coefs xs) r.constant (pos m)

    at_most : (m n : ℕ) → m ≤ suc n → (m ≤ n) ⊎ (m ≡ suc n)
    at_most m n l = grind arith

    forth : (n : ℕ) → HoldRows (remainders_out col r n) xs → (m : ℕ) → 1 ≤ m → m ≤ n → ¬ Divides k (value_at r xs +ℤ pos m)
    forth zero h m low high = absurd (omega arith)
    forth (suc n) h m low high =
        let all = All-last P (remainders_out col r n) (remainder_out col r (suc n)) h in
        elim (at_most m n high) [
          | inl l ↦ forth n all.0 m low l
          | inr e ↦ λ v. all.1 (Divides-same k (value_at r xs +ℤ pos m) (dot r.coefs xs +ℤ (r.constant +ℤ pos (suc n)))
              (ap (λ (j : ℕ). value_at r xs +ℤ pos j) e ∙ sym (same (suc n))) v)
        ]

    back : (n : ℕ) → ((m : ℕ) → 1 ≤ m → m ≤ n → ¬ Divides k (value_at r xs +ℤ pos m)) → HoldRows (remainders_out col r n) xs
    back zero f = All-nil P
    back (suc n) f =
        All-push P (remainders_out col r n) (remainder_out col r (suc n)) (back n (λ m low high. f m low (omega arith)))
        (λ v. f (suc n) (omega arith) (omega arith)
        (Divides-same k (dot r.coefs xs +ℤ (r.constant +ℤ pos (suc n))) (value_at r xs +ℤ pos (suc n)) (same (suc n)) v))

pub outs_free : (col : ℕ) (r : Row) (n : ℕ) → All (IsFree col) (remainders_out col r n)
outs_free col r zero = All-nil (IsFree col)
outs_free col r (suc n) =
    All-push (IsFree col) (remainders_out col r n) (remainder_out col r (suc n)) (outs_free col r n) (Divides_self (coef_at r col))

pub outs_formed : (columns col : ℕ) (r : Row) (n : ℕ) → length r.coefs ≡ columns → pos 0 <ℤ coef_at r col
    → All (IsWellFormed columns) (remainders_out col r n)
outs_formed columns col r zero w p = All-nil (IsWellFormed columns)
outs_formed columns col r (suc n) w p =
    All-push (IsWellFormed columns) (remainders_out col r n) (remainder_out col r (suc n)) (outs_formed columns col r n w p)
    (record { width = w; modulus = p })

-- one more of them
pub remainder_more : (g : Gauge) (col n : ℕ) (r : Row) (old rows new : List Row) (constant more : ℤ) (made : Row)
    → constant ≡ r.constant +ℤ pos n → more ≡ constant +ℤ pos 1
    → made ≡ record { kind = kinds.NotDivides; coefs = r.coefs; constant = more; k = coef_at r col }
    → rows ≡ old ++ remainders_out col r n → new ≡ rows ++ made ∷ [] → new ≡ old ++ remainders_out col r (n + 1)
remainder_more g col n r old rows new constant more made e f is so_far pushed =
    pushed
    ∙ ap (λ (xs : List Row). xs ++ made ∷ []) so_far
    ∙ append_assoc old (remainders_out col r n) (made ∷ [])
    ∙ ap (λ (q : Row). old ++ (remainders_out col r n ++ q ∷ [])) (is ∙ ap (λ z. with_constant z) (f ∙ sum r.constant constant n e))
    ∙ ap (λ (m : ℕ). old ++ remainders_out col r m) (sym (add-one n))
  where
    with_constant : ℤ → Row
    with_constant z = record { kind = kinds.NotDivides; coefs = r.coefs; constant = z; k = coef_at r col }

    sum : (a c : ℤ) (n : ℕ) → c ≡ a +ℤ pos n → c +ℤ pos 1 ≡ a +ℤ pos (suc n)
    sum a c n e = omega (arith, linear, e)

pub remainder_within : (g : Gauge) (columns col n : ℕ) (r : Row) (constant more : ℤ) → IsProper g columns r → col < columns
    → constant ≡ r.constant +ℤ pos n → more ≡ constant +ℤ pos 1 → IsWithin g more → All (IsRowWithin g) (remainders_out col r n)
    → All (IsRowWithin g) (remainders_out col r (n + 1))
remainder_within g columns col n r constant more p low e f within h =
    subst (λ (m : ℕ). All (IsRowWithin g) (remainders_out col r m)) (sym (add-one n))
    (All-push (IsRowWithin g) (remainders_out col r n) (remainder_out col r (suc n)) h (record {
      coefs = p.within.coefs;
      constant = subst (IsWithin g) (f ∙ sum r.constant constant n e) within;
      k = p.within.coefs col (pos 0) (let w = p.formed.width in omega (arith, w, low));
    }))
  where
    sum : (a c : ℤ) (n : ℕ) → c ≡ a +ℤ pos n → c +ℤ pos 1 ≡ a +ℤ pos (suc n)
    sum a c n e = omega (arith, linear, e)

-- ---- the rows at other places
equal : (i j : ℕ) → (i ≡ j) ⊎ (i ≢ j)
equal i j = grind arith

-- the bounds are replaced by rows that always hold
abbrev pub others_of_bounds : List Row → Narrow → Row → List Row
others_of_bounds rows narrow always = set (set rows narrow.lower always) narrow.upper always

-- what holds of a row that always does, and of the other rows
all_others : (P : Row → Type 0) (rows : List Row) (narrow : Narrow) (always : Row) → P always
    → ((i : ℕ) (d : Row) → i < length rows → i ≢ narrow.lower → i ≢ narrow.upper → P (get_or rows i d))
    → All P (others_of_bounds rows narrow always)
all_others P rows narrow always p f = λ i d l.
    let low = length-set rows narrow.lower always in
    let long = length-set (set rows narrow.lower always) narrow.upper always in
    elim (equal i narrow.upper) [
      | inl e ↦ subst P (sym (ap (λ (j : ℕ). get_or (set (set rows narrow.lower always) narrow.upper always) j d) e
          ∙ get_or-set_same (set rows narrow.lower always) narrow.upper always d (omega (arith, l, long, e)))) p
      | inr n ↦ elim (equal i narrow.lower) [
        | inl e ↦ subst P (sym (get_or-set_other (set rows narrow.lower always) narrow.upper i always d n
            ∙ ap (λ (j : ℕ). get_or (set rows narrow.lower always) j d) e
            ∙ get_or-set_same rows narrow.lower always d (omega (arith, l, long, low, e)))) p
        | inr m ↦ subst P (sym (get_or-set_other (set rows narrow.lower always) narrow.upper i always d n
            ∙ get_or-set_other rows narrow.lower i always d m)) (f i d (omega (arith, l, long, low)) m n)
      ]
    ]

other_at : (P : Row → Type 0) (rows : List Row) (narrow : Narrow) (always : Row) → All P (others_of_bounds rows narrow always)
    → (i : ℕ) (d : Row) → i < length rows → i ≢ narrow.lower → i ≢ narrow.upper → P (get_or rows i d)
other_at P rows narrow always h i d l m n =
    let low = length-set rows narrow.lower always in
    let long = length-set (set rows narrow.lower always) narrow.upper always in
    subst P (get_or-set_other (set rows narrow.lower always) narrow.upper i always d n ∙ get_or-set_other rows narrow.lower i always d m)
    (h i d (omega (arith, l, low, long)))

-- what holds of both bounds, and of the other rows
all_places : (P : Row → Type 0) (rows : List Row) (narrow : Narrow) (lower : Row) → AreBounds rows narrow
    → P (get_or rows narrow.lower lower) → P (get_or rows narrow.upper lower)
    → ((i : ℕ) (d : Row) → i < length rows → i ≢ narrow.lower → i ≢ narrow.upper → P (get_or rows i d)) → All P rows
all_places P rows narrow lower is p q f = λ i d l. elim (equal i narrow.lower) [
  | inl e ↦ subst P (get_or_default rows narrow.lower lower d is.lower_in ∙ ap (λ (j : ℕ). get_or rows j d) (sym e)) p
  | inr m ↦ elim (equal i narrow.upper) [
    | inl e ↦ subst P (get_or_default rows narrow.upper lower d is.upper_in ∙ ap (λ (j : ℕ). get_or rows j d) (sym e)) q
    | inr n ↦ f i d l m n
  ]
]

zero_free : (col : ℕ) (r : Row) → coef_at r col ≡ pos 0 → IsFree col r
zero_free col r z = by r.kind
  where
    by : (kind : RowKind) → IsFreeKind kind r.k (coef_at r col)
    by kinds.Zero = z
    by kinds.AtLeast = z
    by kinds.Divides = Divides-same r.k (pos 0) (coef_at r col) (sym z) (Divides-zero r.k)
    by kinds.NotDivides = Divides-same r.k (pos 0) (coef_at r col) (sym z) (Divides-zero r.k)

-- ---- a row that always holds
abbrev pub always_row : ℕ → Row
always_row columns = bound (replicate columns (pos 0)) (pos 0)

always_holds : (columns : ℕ) (xs : List ℤ) → HoldsRow (always_row columns) xs
always_holds columns xs = by (dot (replicate columns (pos 0)) xs) (dot-zeros columns xs)
  where
    by : (d : ℤ) → d ≡ pos 0 → pos 0 ≤ℤ (d +ℤ pos 0)
    by d e = omega (arith, linear, e)

-- ---- the bounds
opposite_value : (lower upper : Row) (xs : List ℤ) → upper.coefs ≡ scaled (negsuc 0) lower.coefs
    → value_at upper xs ≡ lower.constant +ℤ upper.constant -ℤ value_at lower xs
opposite_value lower upper xs e =
    let d = ap (λ (cs : List ℤ). dot cs xs) e ∙ dot-scaled (negsuc 0) lower.coefs xs in
    by (dot upper.coefs xs) (dot lower.coefs xs) lower.constant upper.constant d
  where
    by : (u v c d : ℤ) → u ≡ negsuc 0 *ℤ v → u +ℤ d ≡ c +ℤ d -ℤ (v +ℤ c)
    by u v c d e = omega (arith, linear, e)

-- both bounds hold with x at the column exactly where the form less k (- x) lies between
bounds_hold : (col count : ℕ) (lower upper : Row) (point : List ℤ) (x : ℤ) → AreOpposite col lower upper count → col < length lower.coefs
    → col ≤ length point
    → (HoldsRow lower (insert point col x) × HoldsRow upper (insert point col x))
    ↔ ((pos 0 ≤ℤ (rest_at lower col point -ℤ coef_at lower col *ℤ neg_ℤ x))
    × ((rest_at lower col point -ℤ coef_at lower col *ℤ neg_ℤ x) ≤ℤ (lower.constant +ℤ upper.constant)))
bounds_hold col count lower upper point x o wide inside = (forth, back)
  where
    xs : List ℤ
    xs = insert point col x

    Between : ℤ → Type 0
    Between z = (pos 0 ≤ℤ z) × (z ≤ℤ (lower.constant +ℤ upper.constant))

    turn : (k x e : ℤ) → k *ℤ x +ℤ e ≡ e -ℤ k *ℤ neg_ℤ x
    turn k x e = simp expand (omega (arith, linear))

    value : value_at lower xs ≡ rest_at lower col point -ℤ coef_at lower col *ℤ neg_ℤ x
    value = value_at-insert lower col point x wide inside ∙ turn (coef_at lower col) x (rest_at lower col point)

    high_of : (a v s : ℤ) → v ≡ s -ℤ a → pos 0 ≤ℤ v → a ≤ℤ s
    high_of a v s e l = omega (arith, linear)

    upper_of : (a v s : ℤ) → v ≡ s -ℤ a → a ≤ℤ s → pos 0 ≤ℤ v
    upper_of a v s e l = omega (arith, linear)

    sum : ℤ
    sum = lower.constant +ℤ upper.constant

    other : value_at upper xs ≡ sum -ℤ value_at lower xs
    other = opposite_value lower upper xs o.opposite

    forth : HoldsRow lower xs × HoldsRow upper xs → Between (rest_at lower col point -ℤ coef_at lower col *ℤ neg_ℤ x)
    forth h =
        let low : pos 0 ≤ℤ value_at lower xs = subst (λ kind. HoldsValue kind lower.k (value_at lower xs)) o.lower_kind h.0 in
        let high : pos 0 ≤ℤ value_at upper xs = subst (λ kind. HoldsValue kind upper.k (value_at upper xs)) o.upper_kind h.1 in
        subst Between value (low, high_of (value_at lower xs) (value_at upper xs) sum other high)

    back : Between (rest_at lower col point -ℤ coef_at lower col *ℤ neg_ℤ x) → HoldsRow lower xs × HoldsRow upper xs
    back h =
        let between : Between (value_at lower xs) = subst Between (sym value) h in
        let high = upper_of (value_at lower xs) (value_at upper xs) sum other between.1 in (
          subst (λ kind. HoldsValue kind lower.k (value_at lower xs)) (sym o.lower_kind) between.0,
          subst (λ kind. HoldsValue kind upper.k (value_at upper xs)) (sym o.upper_kind) high,
        )

-- ---- what is left
-- the rows that are made normal without the column
abbrev pub left_rows : ℕ → List Row → Narrow → Row → List Row
left_rows columns rows narrow lower = others_of_bounds rows narrow (always_row columns) ++ remainders_out narrow.col lower narrow.count

pub left_free : (columns : ℕ) (rows : List Row) (narrow : Narrow) (lower : Row) → AreBounds rows narrow → narrow.col < columns
    → All (IsFree narrow.col) (left_rows columns rows narrow lower)
left_free columns rows narrow lower is low =
    All-append (IsFree narrow.col) (others_of_bounds rows narrow (always_row columns)) (remainders_out narrow.col lower narrow.count)
    (all_others (IsFree narrow.col) rows narrow (always_row columns) (get_or-replicate columns narrow.col (pos 0) (pos 0) low)
    (λ i d l m n. zero_free narrow.col (get_or rows i d) (is.free i d l m n)))
    (outs_free narrow.col lower narrow.count)

pub left_formed : (g : Gauge) (columns : ℕ) (rows : List Row) (narrow : Narrow) (lower : Row) → AreBounds rows narrow
    → All (IsProper g columns) rows → lower ≡ get_or rows narrow.lower lower
    → All (IsWellFormed columns) (left_rows columns rows narrow lower)
left_formed g columns rows narrow lower is proper read =
    let own = proper narrow.lower lower is.lower_in in
    let steep = (is.bounds lower).steep in
    let here : pos 1 <ℤ coef_at lower narrow.col = subst (λ (r : Row). pos 1 <ℤ coef_at r narrow.col) (sym read) steep in
    All-append (IsWellFormed columns) (others_of_bounds rows narrow (always_row columns)) (remainders_out narrow.col lower narrow.count)
    (all_others (IsWellFormed columns) rows narrow (always_row columns)
    (record { width = length-replicate columns (pos 0); modulus = refl })
    (λ i d l m n. (proper i d l).formed))
    (outs_formed columns narrow.col lower narrow.count (ap (λ (r : Row). length r.coefs) read ∙ own.formed.width)
    (omega (arith, linear, here)))

pub left_within : (g : Gauge) (columns : ℕ) (rows : List Row) (narrow : Narrow) (lower : Row) → AreBounds rows narrow
    → All (IsProper g columns) rows → All (IsRowWithin g) (remainders_out narrow.col lower narrow.count)
    → All (IsRowWithin g) (left_rows columns rows narrow lower)
left_within g columns rows narrow lower is proper outs =
    All-append (IsRowWithin g) (others_of_bounds rows narrow (always_row columns)) (remainders_out narrow.col lower narrow.count)
    (all_others (IsRowWithin g) rows narrow (always_row columns) always (λ i d l m n. (proper i d l).within))
    outs
  where
    one : (r : Row) → r.kind ≡ kinds.AtLeast → IsProper g columns r → IsWithin g (pos 1)
    one r e p = subst (IsWithin g) (subst (λ kind. HasModulus kind r.k) e p.formed.modulus) p.within.k

    always : IsRowWithin g (always_row columns)
    always =
        let own = one (get_or rows narrow.lower lower) (is.bounds lower).lower_kind (proper narrow.lower lower is.lower_in) in
        let nought = IsWithin-zero g in
        record { coefs = All-replicate (IsWithin g) columns (pos 0) nought; constant = nought; k = own }

-- they hold exactly where some number at the column makes the rows hold
pub left_points : (g : Gauge) (columns : ℕ) (rows : List Row) (narrow : Narrow) (lower : Row) → AreBounds rows narrow
    → All (IsProper g columns) rows → lower ≡ get_or rows narrow.lower lower → narrow.col < columns
    → (point : List ℤ) → length point ≡ columns - 1
    → HoldAt (left_rows columns rows narrow lower) narrow.col point (pos 0) ↔ HoldAtSome rows narrow.col point
left_points g columns rows narrow lower is proper read low point len = (forth, back)
  where
    upper : Row
    upper = get_or rows narrow.upper lower

    o : AreOpposite narrow.col lower upper narrow.count
    o = subst (λ (r : Row). AreOpposite narrow.col r upper narrow.count) (sym read) (is.bounds lower)

    k : ℤ
    k = coef_at lower narrow.col

    s : ℤ
    s = lower.constant +ℤ upper.constant

    e : ℤ
    e = rest_at lower narrow.col point

    at_zero : List ℤ
    at_zero = insert point narrow.col (pos 0)

    inside : narrow.col ≤ length point
    inside = omega (arith, len, low)

    wide : narrow.col < length lower.coefs
    wide = let w = ap (λ (r : Row). length r.coefs) read ∙ (proper narrow.lower lower is.lower_in).formed.width in omega (arith, w, low)

    positive : pos 0 <ℤ k
    positive = by k o.steep
      where
        by : (k : ℤ) → pos 1 <ℤ k → pos 0 <ℤ k
        by k p = omega (arith, linear)

    near : s <ℤ k
    near = by s k narrow.count o.left_out
      where
        by : (s k : ℤ) (n : ℕ) → s ≡ k -ℤ pos 1 -ℤ pos n → s <ℤ k
        by s k n e = omega (arith, linear, e)

    few : ((d : ℤ) × (pos 0 ≤ℤ (e -ℤ k *ℤ d)) × ((e -ℤ k *ℤ d) ≤ℤ s))
        ↔ ((t : ℤ) → pos 1 ≤ℤ t → t ≤ℤ (k -ℤ pos 1 -ℤ s) → ¬ Divides k (e +ℤ t))
    few = few_remainders k e s positive o.apart near

    value : value_at lower at_zero ≡ e
    value = value_at-insert lower narrow.col point (pos 0) wide inside ∙ by k e
      where
        by : (k e : ℤ) → k *ℤ pos 0 +ℤ e ≡ e
        by k e = omega (arith, linear)

    free : (i : ℕ) (d : Row) (x y : ℤ) → i < length rows → i ≢ narrow.lower → i ≢ narrow.upper
        → HoldsRow (get_or rows i d) (insert point narrow.col x) → HoldsRow (get_or rows i d) (insert point narrow.col y)
    free i d x y l m n h =
        let w = (proper i d l).formed.width in
        free_anywhere (get_or rows i d) narrow.col point x y (omega (arith, w, low)) inside
        (zero_free narrow.col (get_or rows i d) (is.free i d l m n)) h

    counted : (m : ℕ) → m ≤ narrow.count → pos m ≤ℤ (k -ℤ pos 1 -ℤ s)
    counted m l = by s k m narrow.count o.left_out l
      where
        by : (s k : ℤ) (m n : ℕ) → s ≡ k -ℤ pos 1 -ℤ pos n → m ≤ n → pos m ≤ℤ (k -ℤ pos 1 -ℤ s)
        by s k m n e l = omega (arith, linear, e, l)

    within_count : (m : ℕ) → pos m ≤ℤ (k -ℤ pos 1 -ℤ s) → m ≤ narrow.count
    within_count m l = by s k m narrow.count o.left_out l
      where
        by : (s k : ℤ) (m n : ℕ) → s ≡ k -ℤ pos 1 -ℤ pos n → pos m ≤ℤ (k -ℤ pos 1 -ℤ s) → m ≤ n
        by s k m n e l = omega (arith, linear, e, l)

    forth : HoldAt (left_rows columns rows narrow lower) narrow.col point (pos 0) → HoldAtSome rows narrow.col point
    forth h =
        let P : Row → Type 0 = λ r. HoldsRow r at_zero in
        let parts = All-parts P (others_of_bounds rows narrow (always_row columns)) (remainders_out narrow.col lower narrow.count) h in
        let out = (leave_out narrow.col lower narrow.count at_zero).0 parts.1 in
        let found = few.1 (λ t a b v.
        let w = whole_part t a in
        let l = within_count w.0 (subst (λ z. z ≤ℤ (k -ℤ pos 1 -ℤ s)) w.1 b) in
        out w.0 w.2 l (Divides-same k (e +ℤ t) (value_at lower at_zero +ℤ pos w.0)
        (ap (λ z. e +ℤ z) w.1 ∙ ap (λ z. z +ℤ pos w.0) (sym value)) v)) in
        let x = neg_ℤ found.0 in
        let same : found.0 ≡ neg_ℤ x = sym (neg_ℤ-neg_ℤ found.0) in
        let between : (pos 0 ≤ℤ (e -ℤ k *ℤ neg_ℤ x)) × ((e -ℤ k *ℤ neg_ℤ x) ≤ℤ s) =
        subst (λ d. (pos 0 ≤ℤ (e -ℤ k *ℤ d)) × ((e -ℤ k *ℤ d) ≤ℤ s)) same (found.1, found.2) in
        let bounds = (bounds_hold narrow.col narrow.count lower upper point x o wide inside).1 between in (
          x,
          all_places (λ (r : Row). HoldsRow r (insert point narrow.col x)) rows narrow lower is
              (subst (λ (r : Row). HoldsRow r (insert point narrow.col x)) read bounds.0) bounds.1
              (λ i d l m n. free i d (pos 0) x l m n (other_at P rows narrow (always_row columns) parts.0 i d l m n)),
        )

    back : HoldAtSome rows narrow.col point → HoldAt (left_rows columns rows narrow lower) narrow.col point (pos 0)
    back h =
        let P : Row → Type 0 = λ r. HoldsRow r at_zero in
        let x = h.0 in
        let own = subst (λ (r : Row). HoldsRow r (insert point narrow.col x)) (sym read) (h.1 narrow.lower lower is.lower_in) in
        let between = (bounds_hold narrow.col narrow.count lower upper point x o wide inside).0 (own, h.1 narrow.upper lower is.upper_in) in
        All-append P (others_of_bounds rows narrow (always_row columns)) (remainders_out narrow.col lower narrow.count)
        (all_others P rows narrow (always_row columns) (always_holds columns at_zero) (λ i d l m n. free i d x (pos 0) l m n (h.1 i d l)))
        ((leave_out narrow.col lower narrow.count at_zero).1 (λ m a b v.
        few.0 (neg_ℤ x, between.0, between.1) (pos m) (let l : pos 1 ≤ℤ pos m = omega (arith, linear, a) in l) (counted m b)
        (Divides-same k (value_at lower at_zero +ℤ pos m) (e +ℤ pos m) (ap (λ z. z +ℤ pos m) value) v)))

-- the answer for the rows that are left is one for the column
pub narrow_answer : (g : Gauge) (columns : ℕ) (rows left : List Row) (narrow : Narrow) (lower : Row) (found : Option (List Row))
    → AreBounds rows narrow → All (IsProper g columns) rows → lower ≡ get_or rows narrow.lower lower → narrow.col < columns
    → left ≡ left_rows columns rows narrow lower
    → IsAnswerFor g (columns - 1) (λ point. HoldAt left narrow.col point (pos 0)) found
    → IsAnswerFor g (columns - 1) (HoldAtSome rows narrow.col) found
narrow_answer g columns rows left narrow lower found is proper read low e a =
    answer_same g (columns - 1) (λ point. HoldAt left narrow.col point (pos 0)) (HoldAtSome rows narrow.col)
    (λ point len. rw e (left_points g columns rows narrow lower is proper read low point len)) found a

pub narrow_done : (g k : Gauge) (columns : ℕ) (rows left : List Row) (narrow : Narrow) (lower : Row)
    (result : Result (Option (List Row)) Cut)
    → AreBounds rows narrow → All (IsProper g columns) rows → lower ≡ get_or rows narrow.lower lower → narrow.col < columns
    → left ≡ left_rows columns rows narrow lower
    → IsDone g k (IsAnswerFor g (columns - 1) (λ point. HoldAt left narrow.col point (pos 0))) result
    → IsDone g k (IsAnswerFor g (columns - 1) (HoldAtSome rows narrow.col)) result
narrow_done g k columns rows left narrow lower (Ok found) is proper read low e d =
    (narrow_answer g columns rows left narrow lower found is proper read low e d.0, d.1)
narrow_done g k columns rows left narrow lower (Err cut) is proper read low e d = d

-- how they are made
pub left_made : (columns : ℕ) (rows : List Row) (narrow : Narrow) (lower a b : Row) (first second left : List Row)
    → a ≡ bound (replicate columns (pos 0)) (pos 0) → b ≡ bound (replicate columns (pos 0)) (pos 0) → first ≡ set rows narrow.lower a
    → second ≡ set first narrow.upper b → left ≡ second ++ remainders_out narrow.col lower narrow.count
    → left ≡ left_rows columns rows narrow lower
left_made columns rows narrow lower a b first second left is_a is_b is_first is_second is =
    rw (is, is_second, is_first, is_a, is_b) refl

-- what is looked for
pub narrow_is : (rows : List Row) (col lower upper count : ℕ) (low high : Row) → lower < length rows → upper < length rows
    → low ≡ get_or rows lower low → high ≡ get_or rows upper high → AreOpposite col low high count
    → AreFreeBelow rows (record { col = col; lower = lower; upper = upper; count = count }) (length rows)
    → AreBounds rows (record { col = col; lower = lower; upper = upper; count = count })
narrow_is rows col lower upper count low high low_in high_in at_lower at_upper o free = record {
  lower_in = low_in;
  upper_in = high_in;
  bounds = λ d.
      let first = at_lower ∙ get_or_default rows lower low d low_in in
      let second = at_upper ∙ get_or_default rows upper high d high_in in
      subst (λ (r : Row). AreOpposite col r (get_or rows upper d) count) first
      (subst (λ (r : Row). AreOpposite col low r count) second o);
  free = free;
}

-- one row more
pub free_more : (rows : List Row) (narrow : Narrow) (at : ℕ) (row : Row) → row ≡ get_or rows at row → at < length rows
    → (at ≢ narrow.lower → at ≢ narrow.upper → coef_at row narrow.col ≡ pos 0) → AreFreeBelow rows narrow at
    → AreFreeBelow rows narrow (at + 1)
free_more rows narrow at row is low here before = λ i d l m n. elim (at_most i at l) [
  | inl b ↦ before i d b m n
  | inr e ↦ subst (λ (r : Row). coef_at r narrow.col ≡ pos 0)
      (is ∙ get_or_default rows at row d low ∙ ap (λ (j : ℕ). get_or rows j d) (sym e))
      (here (subst (λ (j : ℕ). j ≢ narrow.lower) e m) (subst (λ (j : ℕ). j ≢ narrow.upper) e n))
]
  where
    at_most : (i n : ℕ) → i < n + 1 → (i < n) ⊎ (i ≡ n)
    at_most i n l = grind arith

pub narrow_in : (rows : List Row) (cols : List ℕ) (narrow : Narrow) → IsNarrow rows cols narrow → among narrow.col cols ≡ true
narrow_in rows cols narrow is = subst (λ (c : ℕ). among c cols ≡ true) is.column (among_at cols is.index is.among)

pub narrow_low : (columns : ℕ) (rows : List Row) (cols : List ℕ) (narrow : Narrow) → IsNarrow rows cols narrow → All (λ c. c < columns) cols
    → narrow.col < columns
narrow_low columns rows cols narrow is low = subst (λ (c : ℕ). c < columns) is.column (low is.index 0 is.among)

-- difference constraints have no such column
pub narrow_no_difference : (g : Gauge) (columns bits : ℕ) (rows : List Row) (narrow : Narrow) → AreBounds rows narrow
    → All (IsProper g columns) rows → All (IsDifferenceRow bits) rows → narrow.col < columns → ⊥
narrow_no_difference g columns bits rows narrow is proper differences low =
    let d = always_row columns in
    let steep = (is.bounds d).steep in
    let w = (proper narrow.lower d is.lower_in).formed.width in
    let small = (unit_rows bits rows differences narrow.lower d is.lower_in).coefs narrow.col (pos 0) (omega (arith, w, low)) in
    omega (arith, linear, steep, small)

pub ruleset narrow_steps = (remainder_more, remainder_within)
