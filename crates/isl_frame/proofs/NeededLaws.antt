-- Rows of which those are taken out that are known.
use Rattle.std.proofs.Common.{◌≡◌, ◌↔◌, ◌⊎◌, inl, inr, refl, sym, ap, ◌∙◌, subst, arith, Bool, ℕ, zero, suc, ◌-◌, ◌<◌, ◌≤◌}
use Rattle.std.proofs.Common.{List, [], ◌∷◌, ◌++◌, length, get_or}
use Rattle.std.proofs.Common.{ℤ, take, drop}
use Rattle.std.specs.Prelude.{IfOk, IsTrue, Result, Ok, Err}
use Rattle.std.specs.List.{All, Contains, remove}
use Rattle.std.proofs.lemmas.List.Elements.{All-append, All-cons, All-drop, All-head, All-nil, All-tail, All-take}
use Rattle.std.proofs.lemmas.List.Elements.{Contains-get_or}
use Rattle.std.proofs.lemmas.List.Edits.{get_or-remove_above, length-remove}
use Rattle.std.proofs.Math.Nat.{eq-or-lt_of_le}
use Rattle.isl_math.proofs.ListLaws.{All-parts}
use Rattle.isl_meter.specs.Gauge.{Gauge, IsCharged}
use Rattle.isl_piece.specs.declared.row.Row.{Row}
use Rattle.isl_piece.specs.Row.{HoldsRow, IsRowWithin, IsWellFormed}
use Rattle.isl_piece.specs.declared.system.System.{System}
use Rattle.isl_piece.specs.System.{HoldRows, IsSystemWithin, free_columns}
use Rattle.isl_difference.specs.Split.{HoldsBut}
use Rattle.isl_difference.proofs.RowCases.{row_cases}
use Rattle.isl_difference.proofs.SplitLaws.{charged_within}
use Rattle.isl_elim.specs.Sample.{IsNowhere}
use Rattle.isl_frame.specs.Needed.{AreKnown, AreRowsOver, IsKnown, IsNeeded, NoneIsKnown}

-- ---- one row taken out
pub all_removed : (P : Row → Type 0) (rows : List Row) (i : ℕ) → All P rows → All P (remove rows i)
all_removed P rows i h = All-append P (take i rows) (drop (suc i) rows) (All-take P i rows h) (All-drop P (suc i) rows h)

all_put_back : (P : Row → Type 0) (rows : List Row) (i : ℕ) → i < length rows → All P (remove rows i) → ((d : Row) → P (get_or rows i d))
    → All P rows
all_put_back P [] i l h p = absurd (omega (arith, l))
all_put_back P (r ∷ rows) zero l h p = All-cons P r rows (p r) h
all_put_back P (r ∷ rows) (suc i) l h p =
    All-cons P r rows (All-head P r (remove rows i) h) (all_put_back P rows i (omega (arith, l)) (All-tail P r (remove rows i) h) p)

module _ (variables : ℕ) (context rows : List Row) where
  pub needed_first : IsNeeded variables context rows rows
  needed_first = record {
    each = λ k d l. Contains-get_or rows k d l;
    points = λ point long h. ((λ k. k), (λ k. k));
  }

  pub needed_less : (kept : List Row) (i : ℕ) → i < length kept → IsNeeded variables context rows kept
      → ((d : Row) → IsKnown variables (context ++ remove kept i) (get_or kept i d)) → IsNeeded variables context rows (remove kept i)
  needed_less kept i low is known = record {
    each = all_removed (Contains rows) kept i is.each;
    points = λ point long h. (
      (λ k. (is.points point long h).0 (all_put_back (λ r. HoldsRow r point) kept i low k
          (λ d. known d point long (All-append (λ r. HoldsRow r point) context (remove kept i) h k)))),
      (λ k. all_removed (λ r. HoldsRow r point) kept i ((is.points point long h).1 k)),
    );
  }

-- ---- rows that say something
-- two rows taken out, one behind the other
all_removed_twice : (P : Row → Type 0) (rows : List Row) (i j : ℕ) → i ≤ j → suc j < length rows → All P (remove rows (suc j))
    → All P (remove (remove rows i) j)
all_removed_twice P [] i j up l h = absurd (omega (arith, l))
all_removed_twice P (r ∷ rows) zero j up l h = All-tail P r (remove rows j) h
all_removed_twice P (r ∷ rows) (suc i) zero up l h = absurd (omega (arith, up))
all_removed_twice P (r ∷ rows) (suc i) (suc j) up l h =
    All-cons P r (remove (remove rows i) j) (All-head P r (remove rows (suc j)) h)
    (all_removed_twice P rows i j (omega (arith, up)) (omega (arith, l)) (All-tail P r (remove rows (suc j)) h))

module _ (variables : ℕ) (context : List Row) where
  -- of the rows from a place on none is known
  abbrev pub NoneFrom : ℕ → List Row → Type 0
  NoneFrom from rows = (at : ℕ) (d : Row) → from ≤ at → at < length rows → ¬ IsKnown variables (context ++ remove rows at) (get_or rows at d)

  pub none_behind : (rows : List Row) (from : ℕ) → length rows ≤ from → NoneFrom from rows
  none_behind rows from end at d up low known = absurd (omega (arith, end, up, low))

  pub none_at_all : (rows : List Row) → NoneFrom 0 rows → NoneIsKnown variables context rows
  none_at_all rows none at d low known = none at d (omega arith) low known

  pub none_before : (rows : List Row) (from : ℕ) → ((d : Row) → ¬ IsKnown variables (context ++ remove rows from) (get_or rows from d))
      → NoneFrom (suc from) rows → NoneFrom from rows
  none_before rows from here later at d up low known = elim (eq-or-lt_of_le up) [
    | inl e ↦ here d (subst (λ k. IsKnown variables (context ++ remove rows k) (get_or rows k d)) (sym e) known)
    | inr more ↦ later at d (omega (arith, more)) low known
  ]

  -- a row that is known goes
  pub none_removed : (rows : List Row) (from : ℕ) → from < length rows → NoneFrom (suc from) rows → NoneFrom from (remove rows from)
  none_removed rows from inside later at d up low known =
      let long = length-remove rows from inside in
      let most : suc at < length rows = omega (arith, low, long, inside) in
      later (suc at) d (omega (arith, up)) most (λ point wide holds.
      let H : Row → Type 0 = λ r. HoldsRow r point in
      let parts = All-parts H context (remove rows (suc at)) holds in
      let fewer = all_removed_twice H rows from at up most parts.1 in
      subst H (moved most) (known point wide (All-append H context (remove (remove rows from) at) parts.0 fewer)))
    where
      moved : suc at < length rows → get_or (remove rows from) at d ≡ get_or rows (suc at) d
      moved most = get_or-remove_above rows from d at up inside ∙ ap (λ (n : ℕ). get_or rows n d) (omega arith)

-- ---- what is asked of a system of rows
abbrev pub over_rows : ℕ → List Row → System
over_rows variables rows = record { columns = variables; definitions = []; rows = rows }

pub system_over : (g : Gauge) (variables : ℕ) (rows : List Row) (s : System) → s ≡ over_rows variables rows
    → AreRowsOver g variables rows → IsSystemWithin g s
system_over g variables rows s is over =
    rw is (record { rows = over.formed; within = over.within; count = omega arith; definitions = tt })

-- what all rows have, those that are kept have
pub kept_have : (P : Row → Type 0) (rows kept : List Row) → All (Contains rows) kept → All P rows → All P kept
kept_have P rows kept each h = λ k d l. let c = each k d l in subst P c.2 (h c.0 (get_or kept k d) c.1)

-- the limit stays while units are used
pub over_later : (g h : Gauge) (variables : ℕ) (rows : List Row) → IsCharged g h → AreRowsOver g variables rows
    → AreRowsOver h variables rows
over_later g h variables rows charged over =
    let later = charged_within g h (over_rows variables rows) charged (system_over g variables rows (over_rows variables rows) refl over) in
    record { formed = later.rows; within = later.within }

-- some of the rows over so many variables
pub over_some : (g : Gauge) (variables : ℕ) (rows kept : List Row) → All (Contains rows) kept → AreRowsOver g variables rows
    → AreRowsOver g variables kept
over_some g variables rows kept each over = record {
  formed = kept_have (IsWellFormed variables) rows kept each over.formed;
  within = kept_have (IsRowWithin g) rows kept each over.within;
}

pub kept_over : (g : Gauge) (variables : ℕ) (context rows kept : List Row) → IsNeeded variables context rows kept
    → AreRowsOver g variables rows → AreRowsOver g variables kept
kept_over g variables context rows kept is over = over_some g variables rows kept is.each over

pub rows_beside : (g : Gauge) (variables : ℕ) (context rows : List Row) (i : ℕ) → AreRowsOver g variables context
    → AreRowsOver g variables rows
    → AreRowsOver g variables (context ++ remove rows i)
rows_beside g variables context rows i a b = record {
  formed = All-append (IsWellFormed variables) context (remove rows i) a.formed (all_removed (IsWellFormed variables) rows i b.formed);
  within = All-append (IsRowWithin g) context (remove rows i) a.within (all_removed (IsRowWithin g) rows i b.within);
}

-- what holds nowhere but not is known
pub known_exactly : (b : Bool) (variables : ℕ) (others : List Row) (r : Row) → IsWellFormed variables r
    → IsTrue b ↔ IsNowhere variables (λ point. HoldRows others point × (¬ HoldRows (r ∷ []) point)) → IsTrue b ↔ IsKnown variables others r
known_exactly b variables others r formed told = (
  (λ t point long h. elim (row_cases r point formed.modulus) [
    | inl holds ↦ holds
    | inr fails ↦ absurd (told.0 t point long (h, λ all. fails (All-head (λ s. HoldsRow s point) r [] all)))
  ]),
  (λ known. told.1 (λ point long h. h.1 (All-cons (λ s. HoldsRow s point) r [] (known point long h.0) (All-nil (λ s. HoldsRow s point))))),
)

pub known_told : {E : Type 0} (answer : Result Bool E) (variables : ℕ) (s : System) (others rows : List Row) (r : Row)
    → s ≡ over_rows variables others → rows ≡ r ∷ [] → IsWellFormed variables r
    → IfOk answer (λ all. IsTrue all ↔ IsNowhere (free_columns s) (HoldsBut s rows))
    → IfOk answer (λ known. IsTrue known ↔ IsKnown variables others r)
known_told (Ok b) variables s others rows r is only formed told =
    known_exactly b variables others r formed
    (subst (λ n. IsTrue b ↔ IsNowhere n (λ point. HoldRows others point × (¬ HoldRows (r ∷ []) point))) all_free (rw (is, only) at told))
  where
    all_free : variables - 0 ≡ variables
    all_free = omega arith
known_told (Err e) variables s others rows r is only formed told = told

-- rows hold together or not
rows_cases : (rows : List Row) (point : List ℤ) (variables : ℕ) → All (IsWellFormed variables) rows
    → HoldRows rows point ⊎ (¬ HoldRows rows point)
rows_cases [] point variables formed = inl (All-nil (λ r. HoldsRow r point))
rows_cases (r ∷ rows) point variables formed =
    let H : Row → Type 0 = λ s. HoldsRow s point in
    elim (row_cases r point (All-head (IsWellFormed variables) r rows formed).modulus) [
      | inl holds ↦ elim (rows_cases rows point variables (All-tail (IsWellFormed variables) r rows formed)) [
        | inl all ↦ inl (All-cons H r rows holds all)
        | inr some ↦ inr (λ h. some (All-tail H r rows h))
      ]
      | inr fails ↦ inr (λ h. fails (All-head H r rows h))
    ]

all_known : (b : Bool) (variables : ℕ) (rows others : List Row) → All (IsWellFormed variables) others
    → IsTrue b ↔ IsNowhere variables (λ point. HoldRows rows point × (¬ HoldRows others point)) → IsTrue b ↔ AreKnown variables rows others
all_known b variables rows others formed told = (
  (λ t point long h. elim (rows_cases others point variables formed) [
    | inl holds ↦ holds
    | inr fails ↦ absurd (told.0 t point long (h, fails))
  ]),
  (λ known. told.1 (λ point long h. h.1 (known point long h.0))),
)

pub all_told : {E : Type 0} (answer : Result Bool E) (variables : ℕ) (s : System) (rows others : List Row)
    → s ≡ over_rows variables rows → All (IsWellFormed variables) others
    → IfOk answer (λ all. IsTrue all ↔ IsNowhere (free_columns s) (HoldsBut s others))
    → IfOk answer (λ known. IsTrue known ↔ AreKnown variables rows others)
all_told (Ok b) variables s rows others is formed told =
    all_known b variables rows others formed
    (subst (λ n. IsTrue b ↔ IsNowhere n (λ point. HoldRows rows point × (¬ HoldRows others point))) all_free (rw is at told))
  where
    all_free : variables - 0 ≡ variables
    all_free = omega arith
all_told (Err e) variables s rows others is formed told = told
