-- What the side of a row says of it, and that the sides of rows hold where the rows do.
use Rattle.std.proofs.Common.{◌≡◌, ◌≢◌, ◌⊎◌, inl, inr, ◌↔◌, ◌∙◌, sym, Bool, true, false, cond, refl, arith, ℕ, zero, suc, ◌-◌, ◌<◌, ℤ, pos, negsuc, ◌<ℤ◌, List, [], ◌∷◌, length, get_or}
use Rattle.std.specs.List.{All, filter, insert}
use Rattle.std.proofs.lemmas.List.Elements.{All-filter, filter_passes, All-head, All-tail, All-cons, All-weaker}
use Rattle.isl_math.proofs.Ring.{linear}
use Rattle.isl_math.specs.Divide as divide
use Rattle.isl_math.specs.Divide.{floor_mod}
use Rattle.isl_math.proofs.DivideLaws.{Divides-from_mod, mod-from_Divides}
use Rattle.isl_math.proofs.ListLaws.{Any-first, Any-later}
use Rattle.isl_meter.specs.Gauge.{Gauge}
use Rattle.isl_piece.specs.declared.row.RowKind.{RowKind}
use Rattle.isl_piece.specs.declared.row.RowKind.TheVariants as kind
use Rattle.isl_piece.specs.declared.row.Row.{Row}
use Rattle.isl_piece.specs.Row.{HoldsRow, IsWellFormed, HasModulus, coef_at}
use Rattle.isl_omega.specs.Column.{IsFreeKind, IsFree, HoldAt, IsProper}
use Rattle.isl_omega.specs.Equality.{HasEquality}
use Rattle.isl_omega.specs.Sides.{side_of_kind, side_of, by_sign, unless_multiple, is_same, on_side, AreSidesOf, AreSided, SidesHold, IsLower, IsUpper, IsDivides, IsNotDivides, IsFreeRow}
use Rattle.isl_piece.proofs.RowMagnitudes.{row_within_kept}
use Rattle.isl_omega.proofs.ColumnLemmas.{hold_anywhere}
use Rattle.isl_omega.specs.declared.sides.Side.{Side}
use Rattle.isl_omega.specs.declared.sides.Side.TheVariants.{Lower, Upper, Divides, NotDivides, Free}
use Rattle.isl_omega.specs.declared.sides.Sides.{Sides}

pub by_sign_positive : (c : ℤ) → pos 0 <ℤ c → by_sign c ≡ Lower
by_sign_positive (pos zero) p = absurd p.lt
by_sign_positive (pos (suc n)) p = refl
by_sign_positive (negsuc n) p = absurd p.lt

pub by_sign_negative : (c : ℤ) → c <ℤ pos 0 → by_sign c ≡ Upper
by_sign_negative (pos n) p = absurd (omega (arith, linear))
by_sign_negative (negsuc n) p = refl

pub by_sign_zero : (c : ℤ) → ¬ (pos 0 <ℤ c) → ¬ (c <ℤ pos 0) → by_sign c ≡ Free
by_sign_zero (pos zero) p n = refl
by_sign_zero (pos (suc c)) p n = absurd (p (omega (arith, linear)))
by_sign_zero (negsuc c) p n = absurd (n (omega (arith, linear)))

pub ruleset sign_cases = (by_sign_positive, by_sign_negative, by_sign_zero)

pub unless_zero : (side : Side) (z : ℤ) → z ≡ pos 0 → unless_multiple side z ≡ Free
unless_zero side z e = rw e refl

pub unless_not_zero : (side : Side) (z : ℤ) → z ≢ pos 0 → unless_multiple side z ≡ side
unless_not_zero side (pos zero) n = absurd (n refl)
unless_not_zero side (pos (suc z)) n = refl
unless_not_zero side (negsuc z) n = refl

pub ruleset multiple_cases = (unless_zero, unless_not_zero)

pub same_true : (a : Side) → is_same a a ≡ true
same_true Lower = refl
same_true Upper = refl
same_true Divides = refl
same_true NotDivides = refl
same_true Free = refl

-- ---- what a row's side says of it
pub same_from : (a b : Side) → is_same a b ≡ true → b ≡ a
same_from Lower Lower e = refl
same_from Lower Upper e = cc
same_from Lower Divides e = cc
same_from Lower NotDivides e = cc
same_from Lower Free e = cc
same_from Upper Lower e = cc
same_from Upper Upper e = refl
same_from Upper Divides e = cc
same_from Upper NotDivides e = cc
same_from Upper Free e = cc
same_from Divides Lower e = cc
same_from Divides Upper e = cc
same_from Divides Divides e = refl
same_from Divides NotDivides e = cc
same_from Divides Free e = cc
same_from NotDivides Lower e = cc
same_from NotDivides Upper e = cc
same_from NotDivides Divides e = cc
same_from NotDivides NotDivides e = refl
same_from NotDivides Free e = cc
same_from Free Lower e = cc
same_from Free Upper e = cc
same_from Free Divides e = cc
same_from Free NotDivides e = cc
same_from Free Free e = refl

-- what each side says of a kind, a modulus and a coefficient
abbrev pub SideMeans : Side → RowKind → ℤ → ℤ → Type 0
SideMeans Lower asks k c = (asks ≡ kind.AtLeast) × (pos 0 <ℤ c)
SideMeans Upper asks k c = (asks ≡ kind.AtLeast) × (c <ℤ pos 0)
SideMeans Divides asks k c = asks ≡ kind.Divides
SideMeans NotDivides asks k c = (asks ≡ kind.NotDivides) × (¬ divide.Divides k c)
SideMeans Free asks k c = (asks ≡ kind.Zero) ⊎ IsFreeKind asks k c

means_by_sign : (k c : ℤ) → SideMeans (by_sign c) kind.AtLeast k c
means_by_sign k (pos zero) = inr refl
means_by_sign k (pos (suc n)) = (refl, omega (arith, linear))
means_by_sign k (negsuc n) = (refl, omega (arith, linear))

means_divides : (z k c : ℤ) → pos 0 <ℤ k → z ≡ floor_mod c k → SideMeans (unless_multiple Divides z) kind.Divides k c
means_divides (pos zero) k c p e = inr (Divides-from_mod k c p (sym e))
means_divides (pos (suc n)) k c p e = refl
means_divides (negsuc n) k c p e = refl

means_not_divides : (z k c : ℤ) → pos 0 <ℤ k → z ≡ floor_mod c k → SideMeans (unless_multiple NotDivides z) kind.NotDivides k c
means_not_divides (pos zero) k c p e = inr (Divides-from_mod k c p (sym e))
means_not_divides (pos (suc n)) k c p e = (refl, (λ d. let f = e ∙ mod-from_Divides k c p d in omega (arith, linear)))
means_not_divides (negsuc n) k c p e = (refl, (λ d. let f = e ∙ mod-from_Divides k c p d in omega (arith, linear)))

pub side_means : (asks : RowKind) (k c : ℤ) → HasModulus asks k → SideMeans (side_of_kind asks k c) asks k c
side_means kind.Zero k c h = inl refl
side_means kind.AtLeast k c h = means_by_sign k c
side_means kind.Divides k c h = means_divides (floor_mod c k) k c h refl
side_means kind.NotDivides k c h = means_not_divides (floor_mod c k) k c h refl

-- a row that was picked for a side
pub means_of : (columns col : ℕ) (side : Side) (r : Row) → IsWellFormed columns r → is_same side (side_of col r) ≡ true → SideMeans side r.kind r.k (coef_at r col)
means_of columns col side r w e = let s = same_from side (side_of col r) e in rw s at (side_means r.kind r.k (coef_at r col) w.modulus)

pub picked : (g : Gauge) (columns col : ℕ) (side : Side) (rows : List Row) (P : Row → Type 0) → ((r : Row) → IsProper g columns r → SideMeans side r.kind r.k (coef_at r col) → P r) → All (IsProper g columns) rows → All P (on_side side col rows)
picked g columns col side rows P f h = λ k d i.
    let proper = All-filter (λ r. is_same side (side_of col r)) (IsProper g columns) rows h k d i in
    f (get_or (on_side side col rows) k d) proper (means_of columns col side (get_or (on_side side col rows) k d) proper.formed (filter_passes (λ r. is_same side (side_of col r)) rows k d i))

-- an equality that does not have the column is free of it
pub free_from : (asks : RowKind) (k c : ℤ) → (asks ≡ kind.Zero → c ≡ pos 0) → (asks ≡ kind.Zero) ⊎ IsFreeKind asks k c → IsFreeKind asks k c
free_from asks k c none (inl e) = rw e (none e)
free_from asks k c none (inr f) = f

-- each equality lacks the column, where none has it
abbrev pub LackColumn : ℕ → List Row → Type 0
LackColumn col rows = All (λ r. r.kind ≡ kind.Zero → coef_at r col ≡ pos 0) rows

pub equalities_lack : (col : ℕ) (rows : List Row) → ¬ HasEquality col rows → LackColumn col rows
equalities_lack col [] n = λ k d i e. absurd (omega arith)
equalities_lack col (r ∷ rows) n =
    All-cons (λ r. r.kind ≡ kind.Zero → coef_at r col ≡ pos 0) r rows
    (λ e. zero_unless (coef_at r col) (λ c. n (Any-first (λ r. (r.kind ≡ kind.Zero) × (coef_at r col ≢ pos 0)) r rows (e, c))))
    (equalities_lack col rows (λ a. n (Any-later (λ r. (r.kind ≡ kind.Zero) × (coef_at r col ≢ pos 0)) r rows a)))
  where
    zero_unless : (z : ℤ) → ¬ (z ≢ pos 0) → z ≡ pos 0
    zero_unless (pos zero) n = refl
    zero_unless (pos (suc z)) n = absurd (n (λ e. omega (arith, linear)))
    zero_unless (negsuc z) n = absurd (n (λ e. omega (arith, linear)))

pub lacking_has_none : (col : ℕ) (rows : List Row) → LackColumn col rows → ¬ HasEquality col rows
lacking_has_none col rows h a = let p = h a.0 a.1 a.2 in (a.4).1 (rw (a.3) at p (a.4).0)

pub sides_are : (g : Gauge) (columns col : ℕ) (rows : List Row) (sides : Sides) → AreSidesOf rows col sides → All (IsProper g columns) rows → ¬ HasEquality col rows → AreSided g columns col sides
sides_are g columns col rows sides s h n = record {
  lowers = rw s.lowers (picked g columns col Lower rows (IsLower g columns col) (λ r p m. record { proper = p; kind = m.0; factor = m.1 }) h);
  uppers = rw s.uppers (picked g columns col Upper rows (IsUpper g columns col) (λ r p m. record { proper = p; kind = m.0; factor = m.1 }) h);
  divides = rw s.divides (picked g columns col Divides rows (IsDivides g columns) (λ r p m. record { proper = p; kind = m }) h);
  not_divides = rw s.not_divides (picked g columns col NotDivides rows (IsNotDivides g columns col) (λ r p m. record { proper = p; kind = m.0; depends = m.1 }) h);
  free = rw s.free (frees rows h (equalities_lack col rows n));
}
  where
    frees : (rows : List Row) → All (IsProper g columns) rows → LackColumn col rows → All (IsFreeRow g columns col) (on_side Free col rows)
    frees rows h n = λ k d i.
        let proper = All-filter (λ r. is_same Free (side_of col r)) (IsProper g columns) rows h k d i in
        let r = get_or (on_side Free col rows) k d in
        let none = All-filter (λ r. is_same Free (side_of col r)) (λ r. r.kind ≡ kind.Zero → coef_at r col ≡ pos 0) rows n k d i in
        record { proper = proper; free = free_from r.kind r.k (coef_at r col) none (means_of columns col Free r proper.formed (filter_passes (λ r. is_same Free (side_of col r)) rows k d i)) }

-- ---- the sides hold where the rows do
-- an element that the test keeps is in the filtered list
pub in_filter : (p : Row → Bool) (P : Row → Type 0) (rows : List Row) (k : ℕ) (d : Row) → k < length rows → p (get_or rows k d) ≡ true → All P (filter p rows) → P (get_or rows k d)
in_filter p P [] k d i e h = absurd (omega arith)
in_filter p P (r ∷ rows) zero d i e h = All-head P r (filter p rows) (kept (p r) e h)
  where
    kept : (b : Bool) → b ≡ true → All P (cond b (r ∷ filter p rows) (filter p rows)) → All P (r ∷ filter p rows)
    kept true e h = h
    kept false e h = cc
in_filter p P (r ∷ rows) (suc k) d i e h = in_filter p P rows k d (omega arith) e (rest (p r) h)
  where
    rest : (b : Bool) → All P (cond b (r ∷ filter p rows) (filter p rows)) → All P (filter p rows)
    rest true h = All-tail P r (filter p rows) h
    rest false h = h

all_sides : (P : Row → Type 0) (col : ℕ) (rows : List Row) → All P (on_side Lower col rows) → All P (on_side Upper col rows) → All P (on_side Divides col rows) → All P (on_side NotDivides col rows) → All P (on_side Free col rows) → All P rows
all_sides P col rows l u v a f = λ k d i. by k d i (side_of col (get_or rows k d)) refl
  where
    by : (k : ℕ) (d : Row) → k < length rows → (s : Side) → s ≡ side_of col (get_or rows k d) → P (get_or rows k d)
    by k d i Lower e = in_filter (λ r. is_same Lower (side_of col r)) P rows k d i (rw (← e) refl) l
    by k d i Upper e = in_filter (λ r. is_same Upper (side_of col r)) P rows k d i (rw (← e) refl) u
    by k d i Divides e = in_filter (λ r. is_same Divides (side_of col r)) P rows k d i (rw (← e) refl) v
    by k d i NotDivides e = in_filter (λ r. is_same NotDivides (side_of col r)) P rows k d i (rw (← e) refl) a
    by k d i Free e = in_filter (λ r. is_same Free (side_of col r)) P rows k d i (rw (← e) refl) f

pub sides_hold : (rows : List Row) (col : ℕ) (sides : Sides) (point : List ℤ) (x : ℤ) → AreSidesOf rows col sides → HoldAt rows col point x ↔ SidesHold sides col point x
sides_hold rows col sides point x s = (
  (λ h. record {
    lowers = rw s.lowers (All-filter (λ r. is_same Lower (side_of col r)) (λ r. HoldsRow r (insert point col x)) rows h);
    uppers = rw s.uppers (All-filter (λ r. is_same Upper (side_of col r)) (λ r. HoldsRow r (insert point col x)) rows h);
    divides = rw s.divides (All-filter (λ r. is_same Divides (side_of col r)) (λ r. HoldsRow r (insert point col x)) rows h);
    not_divides = rw s.not_divides (All-filter (λ r. is_same NotDivides (side_of col r)) (λ r. HoldsRow r (insert point col x)) rows h);
    free = rw s.free (All-filter (λ r. is_same Free (side_of col r)) (λ r. HoldsRow r (insert point col x)) rows h);
  }),
  (λ h. all_sides (λ r. HoldsRow r (insert point col x)) col rows (rw s.lowers at h.lowers) (rw s.uppers at h.uppers) (rw s.divides at h.divides) (rw s.not_divides at h.not_divides) (rw s.free at h.free)),
)

-- rows that a modulus must not divide are not_divides or free
pub sides_not_divides : (P : Row → Type 0) (columns col : ℕ) (rows : List Row) → All (IsWellFormed columns) rows → All (λ r. r.kind ≡ kind.NotDivides) rows → All P (on_side NotDivides col rows) → All P (on_side Free col rows) → All P rows
sides_not_divides P columns col rows w n a f = λ k d i. by k d i (side_of col (get_or rows k d)) refl
  where
    clash : (asks : RowKind) → asks ≡ kind.NotDivides → asks ≡ kind.AtLeast → ⊥
    clash asks e f = cc

    clash_divides : (asks : RowKind) → asks ≡ kind.NotDivides → asks ≡ kind.Divides → ⊥
    clash_divides asks e f = cc

    means : (k : ℕ) (d : Row) → k < length rows → (s : Side) → s ≡ side_of col (get_or rows k d) → SideMeans s (get_or rows k d).kind (get_or rows k d).k (coef_at (get_or rows k d) col)
    means k d i s e = let r = get_or rows k d in rw e (side_means r.kind r.k (coef_at r col) (w k d i).modulus)

    by : (k : ℕ) (d : Row) → k < length rows → (s : Side) → s ≡ side_of col (get_or rows k d) → P (get_or rows k d)
    by k d i Lower e = absurd (clash (get_or rows k d).kind (n k d i) (means k d i Lower e).0)
    by k d i Upper e = absurd (clash (get_or rows k d).kind (n k d i) (means k d i Upper e).0)
    by k d i Divides e = absurd (clash_divides (get_or rows k d).kind (n k d i) (means k d i Divides e))
    by k d i NotDivides e = in_filter (λ r. is_same NotDivides (side_of col r)) P rows k d i (rw (← e) refl) a
    by k d i Free e = in_filter (λ r. is_same Free (side_of col r)) P rows k d i (rw (← e) refl) f

-- ---- rows that are free of the column, and the limit at another time
-- they hold with any number at the column or with none
pub free_rows_hold : (g : Gauge) (columns col : ℕ) (rows : List Row) (point : List ℤ) (x y : ℤ) → col < columns
    → length point ≡ columns - 1 → All (IsFreeRow g columns col) rows → HoldAt rows col point x → HoldAt rows col point y
free_rows_hold g columns col rows point x y l n f a =
    hold_anywhere columns col rows point x y l n
    (All-weaker (IsFreeRow g columns col) (IsWellFormed columns) (λ r h. h.proper.formed) rows f)
    (All-weaker (IsFreeRow g columns col) (IsFree col) (λ r h. h.free) rows f) a

pub proper_kept : (g h : Gauge) (columns : ℕ) (r : Row) → h.bits ≡ g.bits → IsProper h columns r → IsProper g columns r
proper_kept g h columns r e p = record { formed = p.formed; within = row_within_kept g h r e p.within }
