-- Rows taken apart by whether a loop's variable has a part in them.
use Rattle.std.proofs.Common.{◌≡◌, ◌≢◌, ◌∙◌, refl, sym, ap, subst, arith, Bool, true, false, ◌&&◌, ℕ, zero, suc, ◌+◌, ◌≤◌, ◌<◌}
use Rattle.std.proofs.Common.{ℤ, pos, ◌+ℤ◌, ◌*ℤ◌, List, [], ◌∷◌, ◌++◌, length, get_or, take}
use Rattle.std.specs.Prelude.{slice_index_or}
use Rattle.std.specs.List.{All}
use Rattle.std.proofs.lemmas.List.{length-take-le, take_all, take_more}
use Rattle.std.proofs.lemmas.List.Elements.{All-append, All-cons, All-head, All-nil, All-take}
use Rattle.isl_math.specs.Dot.{dot}
use Rattle.isl_math.proofs.DotLaws.{dot-nil_right}
use Rattle.isl_math.proofs.ListLaws.{All-parts}
use Rattle.isl_math.proofs.Ring.{linear}
use Rattle.isl_meter.specs.Gauge.{Gauge, IsWithin}
use Rattle.isl_piece.specs.declared.row.Row.{Row}
use Rattle.isl_piece.specs.Normal.{normal_row, Kept}
use Rattle.isl_piece.specs.Row.{coef_at}
use Rattle.isl_piece.specs.System.{widened}
use Rattle.isl_loop.specs.Formed.{IsRowOver}
use Rattle.isl_loop.specs.Run.{holds_value, row_holds, rows_hold}
use Rattle.isl_nest.specs.Naming.{cut}
use Rattle.isl_nest.specs.Opened.{AreParted}
use Rattle.isl_nest.proofs.WideLaws.{narrow_normal}

-- ---- a row over its first columns
pub past : (cs : List ℤ) (n : ℕ) → length cs ≤ n → slice_index_or cs n (pos 0) ≡ pos 0
past [] n l = refl
past (c ∷ cs) zero l = absurd (omega (arith, l))
past (c ∷ cs) (suc n) l = past cs n (omega (arith, l))

dot_narrow : (cs xs : List ℤ) (x : ℤ) → slice_index_or cs (length xs) (pos 0) ≡ pos 0 → dot cs (xs ++ x ∷ []) ≡ dot (take (length xs) cs) xs
dot_narrow [] [] x none = refl
dot_narrow [] (y ∷ xs) x none = refl
dot_narrow (c ∷ cs) [] x none =
    let z = ap (λ d. d *ℤ x) none in
    let rest = dot-nil_right cs in
    omega (arith, linear, z, rest)
dot_narrow (c ∷ cs) (y ∷ xs) x none = ap (λ z. c *ℤ y +ℤ z) (dot_narrow cs xs x none)

cut_holds : (r : Row) (n : ℕ) (point : List ℤ) (x : ℤ) → length point ≡ n → coef_at r n ≡ pos 0
    → row_holds (point ++ x ∷ []) r ≡ row_holds point (cut n r)
cut_holds r n point x long none =
    ap (λ (z : ℤ). holds_value r.kind r.k (z +ℤ r.constant))
    (subst (λ m. dot r.coefs (point ++ x ∷ []) ≡ dot (take m r.coefs) point) long
    (dot_narrow r.coefs point x (subst (λ m. slice_index_or r.coefs m (pos 0) ≡ pos 0) (sym long) none)))

pub cut_short : (r : Row) (n : ℕ) → length r.coefs ≤ n → r ≡ cut n r
cut_short r n l =
    ap (λ (cs : List ℤ). record { kind = r.kind; coefs = cs; constant = r.constant; k = r.k }) (sym (take_all n r.coefs l))

cut_over : (g : Gauge) (n : ℕ) (r : Row) → coef_at r n ≡ pos 0 → IsRowOver g (n + 1) r → IsRowOver g n (cut n r)
cut_over g n r none over =
    let wide = over.shape.width in
    let low : n < length r.coefs = omega (arith, wide) in
    let whole : r.coefs ≡ take n r.coefs ++ pos 0 ∷ [] =
    sym (take_all (n + 1) r.coefs (omega (arith, wide))) ∙ take_more r.coefs n (pos 0) low ∙ ap (λ z. take n r.coefs ++ z ∷ []) none in
    let same : r ≡ widened (cut n r) =
    ap (λ (cs : List ℤ). record { kind = r.kind; coefs = cs; constant = r.constant; k = r.k }) whole in record {
      shape = record { width = length-take-le n r.coefs (omega (arith, low)); modulus = over.shape.modulus };
      within = record { coefs = All-take (IsWithin g) n r.coefs over.within.coefs; constant = over.within.constant; k = over.within.k };
      normal = narrow_normal (cut n r) (subst (λ (s : Row). normal_row s ≡ Kept s) same over.normal);
    }

-- ---- one row more
hold_more : (rows : List Row) (r : Row) (point : List ℤ) → rows_hold (rows ++ r ∷ []) point ≡ (rows_hold rows point && row_holds point r)
hold_more [] r point = by (row_holds point r)
  where
    by : (b : Bool) → (b && true) ≡ (true && b)
    by true = refl
    by false = refl
hold_more (s ∷ rows) r point = by (row_holds point s) (hold_more rows r point)
  where
    by : (b : Bool) → rows_hold (rows ++ r ∷ []) point ≡ (rows_hold rows point && row_holds point r)
        → (b && rows_hold (rows ++ r ∷ []) point) ≡ ((b && rows_hold rows point) && row_holds point r)
    by true e = e
    by false e = refl

all_more : (P : Row → Type 0) (rows : List Row) (r : Row) → All P rows → P r → All P (rows ++ r ∷ [])
all_more P rows r all one = All-append P rows (r ∷ []) all (All-cons P r [] one (All-nil P))

all_less : (P : Row → Type 0) (rows : List Row) (r : Row) → All P (rows ++ r ∷ []) → All P rows × P r
all_less P rows r all = let parts = All-parts P rows (r ∷ []) all in (parts.0, All-head P r [] parts.1)

pub parted_none : (n : ℕ) → AreParted n [] [] []
parted_none n = record {
  hold = λ point x long. refl;
  name = All-nil (λ r. coef_at r n ≢ pos 0);
  over = λ g all. (All-nil (IsRowOver g n), All-nil (IsRowOver g (n + 1)));
}

module _ (n : ℕ) (rows outside inside : List Row) (r : Row) (is : AreParted n rows outside inside) where
  pub parted_outside : coef_at r n ≡ pos 0 → AreParted n (rows ++ r ∷ []) (outside ++ cut n r ∷ []) inside
  parted_outside none = record {
    hold = λ point x long.
        hold_more rows r (point ++ x ∷ [])
        ∙ by (rows_hold rows (point ++ x ∷ [])) (rows_hold outside point) (rows_hold inside (point ++ x ∷ []))
        (row_holds (point ++ x ∷ []) r) (row_holds point (cut n r)) (rows_hold (outside ++ cut n r ∷ []) point)
        (is.hold point x long) (cut_holds r n point x long none) (hold_more outside (cut n r) point);
    name = is.name;
    over = λ g all.
        let parts = all_less (IsRowOver g (n + 1)) rows r all in
        let below = is.over g parts.0 in
        (all_more (IsRowOver g n) outside (cut n r) below.0 (cut_over g n r none parts.1), below.1);
  }
    where
      by : (w o i a b both : Bool) → w ≡ (o && i) → a ≡ b → both ≡ (o && b) → (w && a) ≡ (both && i)
      by w o i a b both e f h = rw (e, f, h) (swap o i b)
        where
          swap : (o i b : Bool) → ((o && i) && b) ≡ ((o && b) && i)
          swap true true true = refl
          swap true true false = refl
          swap true false true = refl
          swap true false false = refl
          swap false i b = refl

  pub parted_inside : coef_at r n ≢ pos 0 → AreParted n (rows ++ r ∷ []) outside (inside ++ r ∷ [])
  parted_inside some = record {
    hold = λ point x long.
        hold_more rows r (point ++ x ∷ [])
        ∙ by (rows_hold rows (point ++ x ∷ [])) (rows_hold outside point) (rows_hold inside (point ++ x ∷ []))
        (row_holds (point ++ x ∷ []) r) (rows_hold (inside ++ r ∷ []) (point ++ x ∷ []))
        (is.hold point x long) (hold_more inside r (point ++ x ∷ []));
    name = all_more (λ s. coef_at s n ≢ pos 0) inside r is.name some;
    over = λ g all.
        let parts = all_less (IsRowOver g (n + 1)) rows r all in
        let below = is.over g parts.0 in
        (below.0, all_more (IsRowOver g (n + 1)) inside r below.1 parts.1);
  }
    where
      by : (w o i a both : Bool) → w ≡ (o && i) → both ≡ (i && a) → (w && a) ≡ (o && both)
      by w o i a both e h = rw (e, h) (swap o i a)
        where
          swap : (o i a : Bool) → ((o && i) && a) ≡ (o && (i && a))
          swap true i a = refl
          swap false i a = refl

module _ (n : ℕ) (rows : List Row) (i : ℕ) (row : Row) (low : i < length rows) (at : row ≡ get_or rows i row) (outside inside : List Row)
    (is : AreParted n (take i rows) outside inside) (pushed others : List Row) where
  more : take i rows ++ row ∷ [] ≡ take (i + 1) rows
  more = sym (take_more rows i row low ∙ ap (λ (r : Row). take i rows ++ r ∷ []) (sym at))

  pub next_outside : coef_at row n ≡ pos 0 → pushed ≡ outside ++ cut n row ∷ [] → others ≡ inside
      → AreParted n (take (i + 1) rows) pushed others
  next_outside none e f =
      subst (λ (rs : List Row). AreParted n rs pushed others) more
      (rw (e, f) (parted_outside n (take i rows) outside inside row is none))

  pub next_inside : coef_at row n ≢ pos 0 → pushed ≡ outside → others ≡ inside ++ row ∷ [] → AreParted n (take (i + 1) rows) pushed others
  next_inside some e f =
      subst (λ (rs : List Row). AreParted n rs pushed others) more (rw (e, f) (parted_inside n (take i rows) outside inside row is some))
