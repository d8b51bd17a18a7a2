-- Columns at which a congruence and bounds leave one number.
use Rattle.std.proofs.Common.{◌≡◌, ◌≢◌, ◌∙◌, ◌↔◌, ◌⊎◌, ◌+◌, inl, inr, sym, subst, ap, arith, ℕ, zero, suc}
use Rattle.std.proofs.Common.{◌<◌, ℤ, pos, neg_ℤ, ◌+ℤ◌, ◌-ℤ◌, ◌*ℤ◌, ◌≤ℤ◌, ◌<ℤ◌, List, [], ◌∷◌, ◌++◌, length, get_or, set, get_or-set_other}
use Rattle.std.specs.Prelude.{Option, Some, None, IfSome, MatchOption, replicate}
use Rattle.std.specs.List.{All}
use Rattle.std.proofs.lemmas.Bool.{cases_eq, cases_order}
use Rattle.std.proofs.lemmas.List.{length-set, length-replicate, get_or-set_same, get_or-replicate}
use Rattle.std.proofs.lemmas.List.Elements.{All-append, All-cons, All-nil, All-replicate, All-set}
use Rattle.isl_math.specs.Divide as divide
use Rattle.isl_math.specs.Divide.{IsGcdOf, IsInverse}
use Rattle.isl_math.specs.Dot.{dot}
use Rattle.isl_math.proofs.DivideLaws.{Divides-+ℤ, Divides-*ℤ, Divides-from_coprime, Divides-minus, Divides-neg_ℤ, Divides-same, Divides-zero}
use Rattle.isl_math.proofs.DivideLaws.{Divides_self, Divides_trans, divisor_positive, le_from_Divides}
use Rattle.isl_math.proofs.OrderLaws.{cases_ℤ}
use Rattle.isl_math.proofs.DotLaws.{dot-set_left, dot-zeros}
use Rattle.isl_math.proofs.ListLaws.{All-parts}
use Rattle.isl_math.proofs.Ring.{expand, linear}
use Rattle.isl_meter.specs.Gauge.{Gauge, IsWithin}
use Rattle.isl_meter.proofs.LimitLemmas.{IsWithin-zero}
use Rattle.isl_piece.specs.declared.row.Row.{Row}
use Rattle.isl_piece.specs.declared.row.RowKind.TheVariants.{Zero, AtLeast, Divides}
use Rattle.isl_piece.specs.Normal.{IsNormal}
use Rattle.isl_piece.specs.Row.{HoldsRow, IsRowWithin, IsWellFormed, coef_at, value_at}
use Rattle.isl_piece.specs.System.{HoldRows}
use Rattle.isl_omega.specs.Column.{IsProper}
use Rattle.isl_presolve.specs.declared.fixed.Range.{Range}
use Rattle.isl_presolve.specs.Emptiness.{HoldNowhere}
use Rattle.isl_presolve.specs.Shear.{IsReduction}
use Rattle.isl_presolve.specs.Fixed.{AreFixed, AreRanges, DividesOthers, HoldAlike, IsAlone, IsInRange, IsRangeAt}

-- ---- numbers
before_or_at : (j i : ℕ) → j < i + 1 → (j ≡ i) ⊎ (j < i)
before_or_at j i l = elim (cases_order j i) [
  | inl e ↦ inl e
  | inr s ↦ elim s [ inl a ↦ inr a | inr a ↦ absurd (omega arith) ]
]

-- a multiple of g between -g and g is 0
no_multiple_between : (g z : ℤ) → divide.Divides g z → z <ℤ g → neg_ℤ g <ℤ z → z ≡ pos 0
no_multiple_between g z d s l = elim (cases_ℤ (pos 0) z) [
  | inl p ↦ let m = le_from_Divides g z p d in absurd (omega (arith, linear))
  | inr r ↦ elim r [
    | inl e ↦ sym e
    | inr p ↦ let m = le_from_Divides g (neg_ℤ z) (omega (arith, linear)) (Divides-neg_ℤ g z d) in absurd (omega (arith, linear))
  ]
]

-- where g divides c x + t at two numbers that are less than g apart, these are one
one_left : (g c t v l u x : ℤ) → IsGcdOf c g (pos 1) → divide.Divides g (c *ℤ x +ℤ t) → divide.Divides g (c *ℤ v +ℤ t) → l ≤ℤ x → x ≤ℤ u
    → l ≤ℤ v → v <ℤ (l +ℤ g) → (u -ℤ l) <ℤ g → x ≡ v
one_left g c t v l u x one dx dv lx xu lv vl w =
    let both = Divides-same g _ _ (by c x v t) (Divides-minus g (c *ℤ x +ℤ t) (c *ℤ v +ℤ t) dx dv) in
    let same = Divides-from_coprime g c (x -ℤ v) one both in
    let none = no_multiple_between g (x -ℤ v) same (omega (arith, linear)) (omega (arith, linear)) in
    omega (arith, linear)
  where
    by : (c x v t : ℤ) → c *ℤ x +ℤ t -ℤ (c *ℤ v +ℤ t) ≡ c *ℤ (x -ℤ v)
    by c x v t = simp expand (omega (arith, linear))

-- the number that an inverse finds
pub first_divided : (g c t l v z p s inverse rest offset q w : ℤ) → IsInverse c g inverse → rest ≡ t -ℤ g *ℤ q → p ≡ rest *ℤ inverse
    → s ≡ p +ℤ l → z ≡ pos 0 -ℤ s → offset ≡ z -ℤ g *ℤ w → v ≡ l +ℤ offset → divide.Divides g (c *ℤ v +ℤ t)
first_divided g c t l v z p s inverse rest offset q w i re pe se ze oe ve = record {
  quotient = q -ℤ rest *ℤ i.inverse.quotient -ℤ c *ℤ w;
  is = by g c t l v z p s inverse rest offset q i.inverse.quotient w i.inverse.is re pe se ze oe ve;
}
  where
    by : (g c t l v z p s j r o x y w : ℤ) → c *ℤ j -ℤ pos 1 ≡ g *ℤ y → r ≡ t -ℤ g *ℤ x → p ≡ r *ℤ j → s ≡ p +ℤ l → z ≡ pos 0 -ℤ s
        → o ≡ z -ℤ g *ℤ w → v ≡ l +ℤ o → c *ℤ v +ℤ t ≡ g *ℤ (x -ℤ r *ℤ y -ℤ c *ℤ w)
    by g c t l v z p s j r o x y w i re pe se ze oe ve =
        let one = simp expand at (ap (λ (m : ℤ). r *ℤ m) i) in
        let two = simp expand at (ap (λ (m : ℤ). c *ℤ m) oe) in
        let three = simp expand at (ap (λ (m : ℤ). c *ℤ m) ze) in
        let four = simp expand at (ap (λ (m : ℤ). c *ℤ m) se) in
        let five = simp expand at (ap (λ (m : ℤ). c *ℤ m) pe) in
        let six = simp expand at (ap (λ (m : ℤ). c *ℤ m) ve) in
        simp expand (omega (arith, linear))

pub if_some_is : (found : Option ℤ) (v : ℤ) (P : ℤ → Type 0) → IfSome found (λ x. x ≡ v) → P v → IfSome found P
if_some_is None v P e p = tt
if_some_is (Some x) v P e p = subst P (sym e) p

-- ---- divisors of the numbers at all columns but one
pub record IsDivisorSoFar (k : ℤ) (cs : List ℤ) (col i : ℕ) (g : ℤ) : Type 0 where
  pub positive : pos 0 <ℤ g
  pub modulus : divide.Divides g k
  pub others : (j : ℕ) → j < i → j ≢ col → divide.Divides g (get_or cs j (pos 0))

pub divisor_first : (k : ℤ) (cs : List ℤ) (col : ℕ) → pos 0 <ℤ k → IsDivisorSoFar k cs col 0 k
divisor_first k cs col p = record { positive = p; modulus = Divides_self k; others = λ j l n. absurd (omega arith) }

pub divisor_own : (k : ℤ) (cs : List ℤ) (col i : ℕ) (g : ℤ) → i ≡ col → IsDivisorSoFar k cs col i g → IsDivisorSoFar k cs col (i + 1) g
divisor_own k cs col i g e d = record {
  positive = d.positive;
  modulus = d.modulus;
  others = λ j l n. elim (before_or_at j i l) [ inl same ↦ absurd (n (same ∙ e)) | inr m ↦ d.others j m n ];
}

pub divisor_next : (k : ℤ) (cs : List ℤ) (col i : ℕ) (g h : ℤ) → IsDivisorSoFar k cs col i g → IsGcdOf g (get_or cs i (pos 0)) h
    → IsDivisorSoFar k cs col (i + 1) h
divisor_next k cs col i g h d is = record {
  positive = divisor_positive h g d.positive is.not_negative is.first;
  modulus = Divides_trans h g k is.first d.modulus;
  others = λ j l n. elim (before_or_at j i l) [
    | inl e ↦ rw e is.second
    | inr m ↦ Divides_trans h g (get_or cs j (pos 0)) is.first (d.others j m n)
  ];
}

pub divisor_all : (k : ℤ) (cs : List ℤ) (col i : ℕ) (g : ℤ) → i ≡ length cs → IsDivisorSoFar k cs col i g → DividesOthers g col cs
divisor_all k cs col i g e d = λ j l n. d.others j (omega (arith, e, l)) n

pub ruleset divisor_steps = (divisor_first, divisor_own, divisor_next, divisor_all)

-- ---- the column of a form
all_divided : (g : ℤ) (cs xs : List ℤ) → ((i : ℕ) → i < length cs → divide.Divides g (get_or cs i (pos 0))) → divide.Divides g (dot cs xs)
all_divided g [] xs d = Divides-zero g
all_divided g (c ∷ cs) [] d = Divides-zero g
all_divided g (c ∷ cs) (x ∷ xs) d =
    Divides-+ℤ g (c *ℤ x) (dot cs xs) (Divides-*ℤ g c x (d zero (omega arith))) (all_divided g cs xs (λ i l. d (suc i) (omega arith)))

-- beside the column a form is divided
divided_beside : (g : ℤ) (col : ℕ) (cs xs : List ℤ) → DividesOthers g col cs
    → divide.Divides g (dot cs xs -ℤ get_or cs col (pos 0) *ℤ get_or xs col (pos 0))
divided_beside g col [] xs d = Divides-same g (pos 0) _ (omega (arith, linear)) (Divides-zero g)
divided_beside g col (c ∷ cs) [] d = Divides-same g (pos 0) _ (omega (arith, linear)) (Divides-zero g)
divided_beside g zero (c ∷ cs) (x ∷ xs) d =
    let rest = all_divided g cs xs (λ i l. d (suc i) (omega arith) (λ e. absurd (omega (arith, e)))) in
    Divides-same g (dot cs xs) _ (omega (arith, linear)) rest
divided_beside g (suc col) (c ∷ cs) (x ∷ xs) d =
    let rest = divided_beside g col cs xs (λ i l n. d (suc i) (omega arith) (λ e. n (omega (arith, e)))) in
    let first = Divides-*ℤ g c x (d zero (omega arith) (λ e. absurd (omega (arith, e)))) in
    Divides-same g (c *ℤ x +ℤ (dot cs xs -ℤ get_or cs col (pos 0) *ℤ get_or xs col (pos 0))) _ (omega (arith, linear))
    (Divides-+ℤ g (c *ℤ x) (dot cs xs -ℤ get_or cs col (pos 0) *ℤ get_or xs col (pos 0)) first rest)

-- a column that stands alone
alone_value : (col : ℕ) (cs xs : List ℤ) → IsAlone col cs → dot cs xs ≡ get_or cs col (pos 0) *ℤ get_or xs col (pos 0)
alone_value col cs xs a =
    let none : DividesOthers (pos 0) col cs = λ i l n. record { quotient = pos 0; is = a i l n } in
    let d = divided_beside (pos 0) col cs xs none in
    let e = d.is in
    omega (arith, linear)

-- of the first numbers all are 0 but the one at the place that was found
pub record IsSeen (cs : List ℤ) (i : ℕ) (found : Option ℕ) : Type 0 where
  pub place : IfSome found (λ col. col < i)
  pub zeros : (j : ℕ) → j < i → found ≢ Some j → get_or cs j (pos 0) ≡ pos 0

pub seen_first : (cs : List ℤ) (found : Option ℕ) → found ≡ None → IsSeen cs 0 found
seen_first cs found e = record { place = rw e tt; zeros = λ j l n. absurd (omega arith) }

pub seen_zero : (cs : List ℤ) (i : ℕ) (found : Option ℕ) → get_or cs i (pos 0) ≡ pos 0 → IsSeen cs i found → IsSeen cs (i + 1) found
seen_zero cs i found z s = record {
  place = further found i s.place;
  zeros = λ j l n. elim (before_or_at j i l) [ inl e ↦ rw e z | inr m ↦ s.zeros j m n ];
}
  where
    further : (found : Option ℕ) (i : ℕ) → IfSome found (λ col. col < i) → IfSome found (λ col. col < i + 1)
    further None i l = tt
    further (Some col) i l = omega (arith, l)

pub seen_found : (cs : List ℤ) (i : ℕ) (found : Option ℕ) → found ≡ None → IsSeen cs i found → IsSeen cs (i + 1) (Some i)
seen_found cs i found e s = record {
  place = omega arith;
  zeros = λ j l n. elim (before_or_at j i l) [ inl at ↦ absurd (n (ap Some (sym at))) | inr m ↦ s.zeros j m (λ h. cc) ];
}

pub seen_all : (cs : List ℤ) (i : ℕ) (found : Option ℕ) → i ≡ length cs → IsSeen cs i found
    → IfSome found (λ col. (col < length cs) × IsAlone col cs)
seen_all cs i None e s = tt
seen_all cs i (Some col) e s = (let l = s.place in omega (arith, l, e), λ j l n. s.zeros j (omega (arith, l, e)) (λ h. n cc))

pub ruleset seen_steps = (seen_first, seen_zero, seen_found, seen_all)

-- ---- ranges
pub whole_ranges : (columns : ℕ) (rows : List Row) (whole : Range) → whole.least ≡ None → whole.greatest ≡ None
    → AreRanges columns rows (replicate columns whole)
whole_ranges columns rows whole l h = record {
  count = length-replicate columns whole;
  each = λ col other i point w x.
      let e : get_or (replicate columns whole) col other ≡ whole = get_or-replicate columns col whole other i in
      rw e (record { low = rw l tt; high = rw h tt });
}

pub ranges_next : (columns : ℕ) (rows : List Row) (ranges : List Range) (col : ℕ) (new : Range) → AreRanges columns rows ranges
    → col < columns
    → IsRangeAt columns rows col new → AreRanges columns rows (set ranges col new)
ranges_next columns rows ranges col new r i n = record {
  count = length-set ranges col new ∙ r.count;
  each = λ at other l. elim (cases_eq at col) [
    | inl e ↦ rw e (rw (get_or-set_same ranges col new other (let c = r.count in omega arith)) n)
    | inr d ↦ rw (get_or-set_other ranges col at new other d) (r.each at other l)
  ];
}

pub range_narrowed : (columns : ℕ) (rows : List Row) (row : Row) (i col : ℕ) (old new : Range) → i < length rows → row ≡ get_or rows i row
    → row.kind ≡ AtLeast → IsAlone col row.coefs → IsRangeAt columns rows col old
    → ((x : ℤ) → IsInRange old x → pos 0 ≤ℤ (coef_at row col *ℤ x +ℤ row.constant) → IsInRange new x) → IsRangeAt columns rows col new
range_narrowed columns rows row i col old new l is kind alone r step point w h =
    let holds : HoldsRow row point = subst (λ (x : Row). HoldsRow x point) (sym is) (h i row l) in
    let value : pos 0 ≤ℤ value_at row point = rw kind at holds in
    let e = alone_value col row.coefs point alone in
    step (get_or point col (pos 0)) (r point w h) (omega (arith, linear))

-- ---- the number that is left
pub number_alone : (row : Row) (col : ℕ) (range : Range) (g v l u : ℤ) → row.kind ≡ Divides → divide.Divides g row.k
    → DividesOthers g col row.coefs
    → IsGcdOf (coef_at row col) g (pos 1) → range.least ≡ Some l → range.greatest ≡ Some u → (u -ℤ l) <ℤ g
    → l ≤ℤ v → v <ℤ (l +ℤ g) → divide.Divides g (coef_at row col *ℤ v +ℤ row.constant)
    → (point : List ℤ) → HoldsRow row point → IsInRange range (get_or point col (pos 0)) → get_or point col (pos 0) ≡ v
number_alone row col range g v l u kind k others one least greatest w lv vl dv point holds inside =
    let c = coef_at row col in
    let x = get_or point col (pos 0) in
    let value : divide.Divides row.k (value_at row point) = rw kind at holds in
    let all = Divides_trans g row.k (value_at row point) k value in
    let beside = divided_beside g col row.coefs point others in
    let dx : divide.Divides g (c *ℤ x +ℤ row.constant) =
    Divides-same g _ _ (by (dot row.coefs point) (c *ℤ x) row.constant)
    (Divides-minus g (value_at row point) (dot row.coefs point -ℤ c *ℤ x) all beside) in
    let lx : l ≤ℤ x = rw least at inside.low in
    let xu : x ≤ℤ u = rw greatest at inside.high in
    one_left g c row.constant v l u x one dx dv lx xu lv vl w
  where
    by : (d m t : ℤ) → d +ℤ t -ℤ (d -ℤ m) ≡ m +ℤ t
    by d m t = simp expand (omega (arith, linear))

pub number_found : (row : Row) (col : ℕ) (range : Range) (g l u : ℤ) (found : Option ℤ) → row.kind ≡ Divides → divide.Divides g row.k
    → DividesOthers g col row.coefs → IsGcdOf (coef_at row col) g (pos 1) → range.least ≡ Some l → range.greatest ≡ Some u → (u -ℤ l) <ℤ g
    → IfSome found (λ v. l ≤ℤ v) → IfSome found (λ v. v <ℤ (l +ℤ g))
    → IfSome found (λ v. divide.Divides g (coef_at row col *ℤ v +ℤ row.constant))
    → IfSome found (λ v. (point : List ℤ) → length point ≡ length row.coefs → HoldsRow row point
    → IsInRange range (get_or point col (pos 0)) → get_or point col (pos 0) ≡ v)
number_found row col range g l u None kind k others one least greatest w lv vl dv = tt
number_found row col range g l u (Some v) kind k others one least greatest w lv vl dv =
    λ point e holds inside. number_alone row col range g v l u kind k others one least greatest w lv vl dv point holds inside

-- ---- the row of a number
pub number_row_proper : (g : Gauge) (columns col : ℕ) (number : ℤ) (row : Row) → col < columns → row.kind ≡ Zero
    → row.coefs ≡ set (replicate columns (pos 0)) col (pos 1) → row.constant ≡ pos 0 -ℤ number → row.k ≡ pos 1 → IsWithin g (pos 1)
    → IsWithin g row.constant → IsProper g columns row
number_row_proper g columns col number row i kind cs t k one within = record {
  formed = record {
    width = ap length cs ∙ length-set (replicate columns (pos 0)) col (pos 1) ∙ length-replicate columns (pos 0);
    modulus = rw kind k;
  };
  within = record {
    coefs = rw cs (All-set (IsWithin g) (replicate columns (pos 0)) col (pos 1) one
        (All-replicate (IsWithin g) columns (pos 0) (IsWithin-zero g)));
    constant = within;
    k = rw k one;
  };
}

pub number_row_holds : (columns col : ℕ) (number : ℤ) (row : Row) → col < columns → row.kind ≡ Zero
    → row.coefs ≡ set (replicate columns (pos 0)) col (pos 1) → row.constant ≡ pos 0 -ℤ number
    → (point : List ℤ) → length point ≡ columns → get_or point col (pos 0) ≡ number → HoldsRow row point
number_row_holds columns col number row i kind cs t point w e =
    let inside : col < length (replicate columns (pos 0)) = rw (length-replicate columns (pos 0)) i in
    let first = dot-set_left (replicate columns (pos 0)) point col (pos 1) inside in
    let none = get_or-replicate columns col (pos 0) (pos 0) i in
    let zeros = dot-zeros columns point in
    let value = ap (λ (c : List ℤ). dot c point) cs in
    let made = simp expand at (rw none at first) in
    rw kind (omega (arith, linear))

-- ---- all rows
pub fixed_none : (g : Gauge) (columns : ℕ) (rows : List Row) → AreFixed g columns rows []
fixed_none g columns rows = record { proper = All-nil (IsProper g columns); implied = λ point w h. All-nil (λ r. HoldsRow r point) }

pub fixed_next : (g : Gauge) (columns : ℕ) (rows found : List Row) (row : Row) → AreFixed g columns rows found → IsProper g columns row
    → ((point : List ℤ) → length point ≡ columns → HoldRows rows point → HoldsRow row point) → AreFixed g columns rows (found ++ row ∷ [])
fixed_next g columns rows found row f p h = record {
  proper = All-append (IsProper g columns) found (row ∷ []) f.proper (All-cons (IsProper g columns) row [] p (All-nil (IsProper g columns)));
  implied = λ point w x.
      All-append (λ r. HoldsRow r point) found (row ∷ []) (f.implied point w x)
      (All-cons (λ r. HoldsRow r point) row [] (h point w x) (All-nil (λ r. HoldsRow r point)));
}

pub alike_itself : (g : Gauge) (columns : ℕ) (rows : List Row) → All (IsProper g columns) rows → IsNormal rows
    → HoldAlike g columns rows rows
alike_itself g columns rows p n = record { proper = p; normal = n; points = λ point l. ((λ h. h), (λ h. h)) }

pub formed_all : (g : Gauge) (columns : ℕ) (rows more all : List Row) → all ≡ rows ++ more → All (IsProper g columns) rows
    → AreFixed g columns rows more → All (IsWellFormed columns) all
formed_all g columns rows more all e p f =
    rw e (All-append (IsWellFormed columns) rows more (λ k d i. (p k d i).formed) (λ k d i. (f.proper k d i).formed))

both_hold : (g : Gauge) (columns : ℕ) (rows more all : List Row) → all ≡ rows ++ more → AreFixed g columns rows more
    → (point : List ℤ) → length point ≡ columns → HoldRows rows point → HoldRows all point
both_hold g columns rows more all e f point l h = rw e (All-append (λ r. HoldsRow r point) rows more h (f.implied point l h))

pub alike_found : (g : Gauge) (columns : ℕ) (rows more all : List Row) (found : Option (List Row)) → all ≡ rows ++ more
    → AreFixed g columns rows more
    → ((point : List ℤ) → MatchOption found (¬ HoldRows all point) (λ kept. HoldRows kept point ↔ HoldRows all point))
    → IfSome found IsNormal → IfSome found (All (IsWellFormed columns)) → IfSome found (All (IsRowWithin g))
    → MatchOption found (HoldNowhere columns rows) (HoldAlike g columns rows)
alike_found g columns rows more all None e f p n w m = λ point l h. p point (both_hold g columns rows more all e f point l h)
alike_found g columns rows more all (Some new) e f p n w m = record {
  proper = λ k d i. record { formed = w k d i; within = m k d i };
  normal = n;
  points = λ point l. (
    (λ h. (All-parts (λ r. HoldsRow r point) rows more (rw e at ((p point).0 h))).0),
    (λ h. (p point).1 (both_hold g columns rows more all e f point l h)),
  );
}

-- ---- emptiness
alike_nowhere : (g : Gauge) (columns : ℕ) (old new : List Row) → HoldAlike g columns old new
    → HoldNowhere columns new ↔ HoldNowhere columns old
alike_nowhere g columns old new a = (
  (λ none point l h. none point l ((a.points point l).1 h)),
  (λ none point l h. none point l ((a.points point l).0 h)),
)

pub reduction_alike : (g : Gauge) (columns : ℕ) (old new : List Row) → HoldAlike g columns old new → IsReduction g columns old new
reduction_alike g columns old new a =
    record { are = record { proper = a.proper; nowhere = alike_nowhere g columns old new a }; normal = a.normal }

pub reduction_later : (g : Gauge) (columns : ℕ) (old fixed : List Row) (found : Option (List Row)) → HoldAlike g columns old fixed
    → MatchOption found (HoldNowhere columns fixed) (IsReduction g columns fixed)
    → MatchOption found (HoldNowhere columns old) (IsReduction g columns old)
reduction_later g columns old fixed None a r = (alike_nowhere g columns old fixed a).0 r
reduction_later g columns old fixed (Some new) a r =
    let both = alike_nowhere g columns old fixed a in
    let n = r.are.nowhere in
    record { are = record { proper = r.are.proper; nowhere = ((λ h. both.0 (n.0 h)), (λ h. n.1 (both.1 h))) }; normal = r.normal }

pub ruleset fixed_steps = (fixed_none, fixed_next)
