-- Rows by the last column that they name.
use Rattle.std.proofs.Common.{◌≡◌, ◌≢◌, ◌↔◌, ◌⊎◌, inl, inr, refl, sym, ap, ◌∙◌, subst, arith, Bool, true, false, ℕ, suc, ◌+◌, ◌<◌, ◌≤◌}
use Rattle.std.proofs.Common.{ℤ, pos, ◌+ℤ◌, ◌*ℤ◌, List, [], ◌∷◌, ◌++◌, length, get_or, take}
use Rattle.std.specs.Prelude.{if◌then◌else◌}
use Rattle.std.specs.List.{All}
use Rattle.std.specs.Ordering.{int_eq}
use Rattle.std.proofs.lemmas.Bool.Decides.{Decides-int_eq}
use Rattle.std.proofs.lemmas.List.{length-take-le, take_more}
use Rattle.std.proofs.lemmas.List.Elements.{All-append, All-cons, All-head, All-nil, All-take, All-weaker, All-contains}
use Rattle.std.proofs.lemmas.List.Elements.{Contains-append_left, Contains-push}
use Rattle.isl_math.specs.Dot.{dot}
use Rattle.isl_math.proofs.ListLaws.{All-parts}
use Rattle.isl_meter.specs.Gauge.{Gauge, IsWithin}
use Rattle.isl_piece.specs.declared.row.Row.{Row}
use Rattle.isl_piece.specs.Row.{HoldsRow, IsRowWithin, IsWellFormed}
use Rattle.isl_piece.specs.System.{HoldRows}
use Rattle.isl_frame.specs.Needed.{AreRowsOver}
use Rattle.isl_nest.specs.Item.{counted, named, HoldFront, HoldOwn}
use Rattle.isl_nest.specs.Naming.{cut, AreNaming, IsCutOf}

-- ---- the last that is named
pub named_zero : (cs : List ℤ) (c : ℤ) → c ≡ pos 0 → named (cs ++ c ∷ []) ≡ named cs
named_zero [] c e = by (int_eq c (pos 0)) ((Decides-int_eq c (pos 0)).1 e)
  where
    by : (b : Bool) → b ≡ true → ◌≡◌ {A = ℕ} (if b then 0 else 1) 0
    by b e = rw e refl
named_zero (d ∷ cs) c e = ap (counted d) (named_zero cs c e)

pub named_some : (cs : List ℤ) (c : ℤ) → c ≢ pos 0 → named (cs ++ c ∷ []) ≡ suc (length cs)
named_some [] c n = by (int_eq c (pos 0)) (λ e. n ((Decides-int_eq c (pos 0)).0 e))
  where
    by : (b : Bool) → ¬ (b ≡ true) → ◌≡◌ {A = ℕ} (if b then 0 else 1) 1
    by true n = absurd (n refl)
    by false n = refl
named_some (d ∷ cs) c n = ap (counted d) (named_some cs c n)

module _ (cs : List ℤ) (i : ℕ) (c : ℤ) (low : i < length cs) (read : c ≡ get_or cs i (pos 0)) where
  taken : take (i + 1) cs ≡ take i cs ++ c ∷ []
  taken = take_more cs i (pos 0) low ∙ ap (λ z. take i cs ++ z ∷ []) (sym read)

  pub named_step_zero : (count : ℕ) → c ≡ pos 0 → count ≡ named (take i cs) → count ≡ named (take (i + 1) cs)
  named_step_zero count zero_is so_far = so_far ∙ sym (ap named taken ∙ named_zero (take i cs) c zero_is)

  pub named_step_some : c ≢ pos 0 → i + 1 ≡ named (take (i + 1) cs)
  named_step_some some =
      let long = length-take-le i cs (omega (arith, low)) in
      let e = ap named taken ∙ named_some (take i cs) c some in
      omega (arith, long, e)

-- ---- rows over their first columns
dot_cut : (cs xs : List ℤ) → dot (take (length xs) cs) xs ≡ dot cs xs
dot_cut [] [] = refl
dot_cut [] (x ∷ xs) = refl
dot_cut (c ∷ cs) [] = refl
dot_cut (c ∷ cs) (x ∷ xs) = ap (λ z. c *ℤ x +ℤ z) (dot_cut cs xs)

pub cut_holds : (columns : ℕ) (r : Row) (front : List ℤ) → length front ≡ columns → HoldsRow (cut columns r) front ↔ HoldsRow r front
cut_holds columns r front e =
    let same : dot (take columns r.coefs) front ≡ dot r.coefs front = subst (λ n. dot (take n r.coefs) front ≡ dot r.coefs front) e
    (dot_cut r.coefs front) in
    rw same ((λ h. h), (λ h. h))

-- ---- one row more
module _ (least columns : ℕ) (rows own : List Row) (r : Row) (is : AreNaming least columns rows own) where
  abbrev Asked : List ℤ → Row → Type 0
  Asked front row = least ≤ named row.coefs → named row.coefs ≤ columns → HoldsRow row front

  abbrev Comes : List Row → Row → Type 0
  Comes from row = IsCutOf least columns from row

  kept : All (Comes (rows ++ r ∷ [])) own
  kept = All-weaker (Comes rows) (Comes (rows ++ r ∷ []))
      (λ row c. (c.0, Contains-append_left rows (r ∷ []) c.0 c.1, c.2, c.3, c.4)) own is.each

  pub naming_more : least ≤ named r.coefs → named r.coefs ≤ columns → AreNaming least columns (rows ++ r ∷ []) (own ++ cut columns r ∷ [])
  naming_more low high = record {
    each = All-append (Comes (rows ++ r ∷ [])) own (cut columns r ∷ []) kept
        (All-cons (Comes (rows ++ r ∷ [])) (cut columns r) [] (r, Contains-push rows r, refl, low, high) (All-nil (Comes (rows ++ r ∷ []))));
    points = λ front e.
        let H : Row → Type 0 = λ row. HoldsRow row front in
        let A : Row → Type 0 = Asked front in
        let first = is.points front e in
        let one = cut_holds columns r front e in (
          (λ h.
              let parts = All-parts H own (cut columns r ∷ []) h in
              All-append A rows (r ∷ []) (first.0 parts.0)
              (All-cons A r [] (λ a b. one.0 (All-head H (cut columns r) [] parts.1)) (All-nil A))),
          (λ h.
              let parts = All-parts A rows (r ∷ []) h in
              All-append H own (cut columns r ∷ []) (first.1 parts.0)
              (All-cons H (cut columns r) [] (one.1 (All-head A r [] parts.1 low high)) (All-nil H))),
        );
  }

  pub naming_same : ¬ ((least ≤ named r.coefs) × (named r.coefs ≤ columns)) → AreNaming least columns (rows ++ r ∷ []) own
  naming_same other = record {
    each = kept;
    points = λ front e.
        let A : Row → Type 0 = Asked front in
        let first = is.points front e in (
          (λ h. All-append A rows (r ∷ []) (first.0 h) (All-cons A r [] (λ a b. absurd (other (a, b))) (All-nil A))),
          (λ h. first.1 (All-parts A rows (r ∷ []) h).0),
        );
  }

pub naming_none : (least columns : ℕ) → AreNaming least columns [] []
naming_none least columns = record {
  each = All-nil (IsCutOf least columns []);
  points = λ front e. (
    (λ h. All-nil (λ r. least ≤ named r.coefs → named r.coefs ≤ columns → HoldsRow r front)),
    (λ h. All-nil (λ r. HoldsRow r front)),
  );
}

-- ---- what they say
pub own_holds : (rows own : List Row) (columns : ℕ) → AreNaming columns columns rows own → (front : List ℤ) → length front ≡ columns
    → HoldRows own front ↔ HoldOwn rows front
own_holds rows own columns is front e =
    let A : Row → Type 0 = λ r. columns ≤ named r.coefs → named r.coefs ≤ columns → HoldsRow r front in
    let O : Row → Type 0 = λ r. named r.coefs ≡ length front → HoldsRow r front in
    let first = is.points front e in (
      (λ h. All-weaker A O (λ r a n. a (omega (arith, e, n)) (omega (arith, e, n))) rows (first.0 h)),
      (λ h. first.1 (All-weaker O A (λ r o a b. o (omega (arith, e, a, b))) rows h)),
    )

pub front_holds : (rows own : List Row) (columns : ℕ) → AreNaming 0 columns rows own → (front : List ℤ) → length front ≡ columns
    → HoldRows own front ↔ HoldFront rows front
front_holds rows own columns is front e =
    let A : Row → Type 0 = λ r. 0 ≤ named r.coefs → named r.coefs ≤ columns → HoldsRow r front in
    let F : Row → Type 0 = λ r. named r.coefs ≤ length front → HoldsRow r front in
    let first = is.points front e in (
      (λ h. All-weaker A F (λ r a n. a (omega arith) (omega (arith, e, n))) rows (first.0 h)),
      (λ h. first.1 (All-weaker F A (λ r o a b. o (omega (arith, e, b))) rows h)),
    )

pub naming_over : (g : Gauge) (least columns all : ℕ) (rows own : List Row) → columns ≤ all → AreNaming least columns rows own
    → AreRowsOver g all rows → AreRowsOver g columns own
naming_over g least columns all rows own few is over = record {
  formed = All-weaker (IsCutOf least columns rows) (IsWellFormed columns) formed own is.each;
  within = All-weaker (IsCutOf least columns rows) (IsRowWithin g) within own is.each;
}
  where
    formed : (r : Row) → IsCutOf least columns rows r → IsWellFormed columns r
    formed r c =
        let w = All-contains (IsWellFormed all) rows c.0 over.formed c.1 in
        let wide = w.width in
        subst (IsWellFormed columns) (sym c.2)
        (record { width = length-take-le columns c.0.coefs (omega (arith, wide, few)); modulus = w.modulus })

    within : (r : Row) → IsCutOf least columns rows r → IsRowWithin g r
    within r c =
        let w = All-contains (IsRowWithin g) rows c.0 over.within c.1 in
        subst (IsRowWithin g) (sym c.2)
        (record { coefs = All-take (IsWithin g) columns c.0.coefs w.coefs; constant = w.constant; k = w.k })

-- ---- one after another
module _ (least columns : ℕ) (rows : List Row) (i : ℕ) (row : Row) (own : List Row) (low : i < length rows) (read : row ≡ get_or rows i row)
    (is : AreNaming least columns (take i rows) own) where
  one_more : take (i + 1) rows ≡ take i rows ++ row ∷ []
  one_more = take_more rows i row low ∙ ap (λ (r : Row). take i rows ++ r ∷ []) (sym read)

  pub naming_step : (one : Row) (pushed : List Row) → least ≤ named row.coefs → named row.coefs ≤ columns → one ≡ cut columns row
      → pushed ≡ own ++ one ∷ [] → AreNaming least columns (take (i + 1) rows) pushed
  naming_step one pushed a b e f = rw (one_more, f, e) (naming_more least columns (take i rows) own row is a b)

  pub naming_skip : ¬ ((least ≤ named row.coefs) × (named row.coefs ≤ columns)) → AreNaming least columns (take (i + 1) rows) own
  naming_skip other = rw one_more (naming_same least columns (take i rows) own row is other)

pub outside : (least columns last count : ℕ) → last ≡ count → (last < least) ⊎ ((least ≤ last) × (columns < last))
    → ¬ ((least ≤ count) × (count ≤ columns))
outside least columns last count e (inl few) both = let a = both.0 in omega (arith, e, few, a)
outside least columns last count e (inr more) both = let a = more.1 in let b = both.1 in omega (arith, e, a, b)
