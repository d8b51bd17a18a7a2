-- Systems without the rows that have no coefficient at their last column.
use Rattle.std.proofs.Common.{◌≡◌, ◌≢◌, ◌↔◌, ◌⊎◌, ◌∙◌, inl, inr, refl, sym, ap, subst, arith, ℕ, ◌+◌, ◌-◌, ◌<◌, ℤ, pos, ◌+ℤ◌, ◌*ℤ◌, ◌<ℤ◌}
use Rattle.std.proofs.Common.{Bool, true, false, not, cond, Decides, List, [], ◌∷◌, ◌++◌, length, get_or, take, drop, map}
use Rattle.std.specs.List.{All, Any, filter}
use Rattle.std.specs.Ordering.{int_eq}
use Rattle.std.proofs.lemmas.Bool.Decides.{Decides-int_eq}
use Rattle.std.proofs.lemmas.List.{length-take-le, length_push, map-append, take-append-drop, take_more}
use Rattle.std.proofs.lemmas.List.Elements.{All-nil, All-cons, All-head, All-tail, All-filter, filter-append}
use Rattle.isl_math.specs.Dot.{dot}
use Rattle.isl_math.proofs.DotLaws.{dot-append}
use Rattle.isl_math.proofs.ListLaws.{Any-none, Any-first, Any-later, Any-cases}
use Rattle.isl_math.proofs.Ring.{expand, linear}
use Rattle.isl_meter.specs.Gauge.{Gauge}
use Rattle.isl_piece.specs.declared.row.RowKind.{RowKind}
use Rattle.isl_piece.specs.declared.row.RowKind.TheVariants.{Zero, AtLeast, Divides, NotDivides}
use Rattle.isl_piece.specs.declared.row.Row.{Row}
use Rattle.isl_piece.specs.declared.system.System.{System}
use Rattle.isl_piece.specs.Row.{HoldsRow, HoldsValue, IsRowWithin, IsWellFormed, coef_at}
use Rattle.isl_piece.specs.System.{HoldsSystem, IsSystemWithin, free_columns}
use Rattle.isl_elim.proofs.ProjectionLaws.{plain_holds}
use Rattle.isl_tower.specs.Ends.{EndsAbove, EndsBelow, HasLowerEnd, HasUpperEnd}
use Rattle.isl_tower.specs.Numbers.{row_at}
use Rattle.isl_points.specs.Fibre.{IsEnded}
use Rattle.isl_points.specs.Shorn.{has_coef, rows_on, shorn}
use Rattle.isl_points.proofs.RowLaws.{last_left, rows_wide}

-- ---- lists without some elements
kept_all : {X : Type 0} (p : X → Bool) (P : X → Type 0) (xs : List X) → All (λ x. p x ≡ false → P x) xs → All P (filter p xs) → All P xs
kept_all p P [] a b = All-nil P
kept_all p P (x ∷ xs) a b = by (p x) refl (kept_all p P xs (All-tail (λ y. p y ≡ false → P y) x xs a)) b
  where
    by : (t : Bool) → p x ≡ t → (All P (filter p xs) → All P xs) → All P (cond t (x ∷ filter p xs) (filter p xs)) → All P (x ∷ xs)
    by true e f h = All-cons P x xs (All-head P x (filter p xs) h) (f (All-tail P x (filter p xs) h))
    by false e f h = All-cons P x xs (All-head (λ y. p y ≡ false → P y) x xs a e) (f h)

kept_any : {X : Type 0} (p : X → Bool) (P : X → Type 0) (xs : List X) → ((x : X) → P x → p x ≡ true) → Any P xs → Any P (filter p xs)
kept_any p P [] f a = absurd (Any-none P a)
kept_any p P (x ∷ xs) f a = by (p x) refl (kept_any p P xs f) (Any-cases P x xs a)
  where
    by : (t : Bool) → p x ≡ t → (Any P xs → Any P (filter p xs)) → P x ⊎ Any P xs → Any P (cond t (x ∷ filter p xs) (filter p xs))
    by true e g (inl h) = Any-first P x (filter p xs) h
    by true e g (inr h) = Any-later P x (filter p xs) (g h)
    by false e g (inl h) = absurd (let y = f x h in cc)
    by false e g (inr h) = g h

-- ---- the coefficient
pub zero_coef : (c : ℤ) → not (int_eq c (pos 0)) ≡ false → c ≡ pos 0
zero_coef c e = by (int_eq c (pos 0)) (Decides-int_eq c (pos 0)) e
  where
    by : (t : Bool) → Decides t (c ≡ pos 0) → not t ≡ false → c ≡ pos 0
    by true d f = d.0 refl
    by false d f = absurd (cc)

pub some_coef : (c : ℤ) → c ≢ pos 0 → not (int_eq c (pos 0)) ≡ true
some_coef c n = by (int_eq c (pos 0)) (Decides-int_eq c (pos 0))
  where
    by : (t : Bool) → Decides t (c ≡ pos 0) → not t ≡ true
    by true d = absurd (n (d.0 refl))
    by false d = refl

positive : (c : ℤ) → pos 0 <ℤ c → c ≡ pos 0 → ⊥
positive c h e = omega (arith, linear)

negative : (c : ℤ) → c <ℤ pos 0 → c ≡ pos 0 → ⊥
negative c h e = omega (arith, linear)

below_some : (kind : RowKind) (c : ℤ) → EndsBelow kind c → not (int_eq c (pos 0)) ≡ true
below_some Zero c h = some_coef c h
below_some AtLeast c h = some_coef c (positive c h)
below_some Divides c h = absurd h
below_some NotDivides c h = absurd h

above_some : (kind : RowKind) (c : ℤ) → EndsAbove kind c → not (int_eq c (pos 0)) ≡ true
above_some Zero c h = some_coef c h
above_some AtLeast c h = some_coef c (negative c h)
above_some Divides c h = absurd h
above_some NotDivides c h = absurd h

-- ---- a row without it says the same of each number
without_coef : (r : Row) (prefix : List ℤ) (x : ℤ) → length r.coefs ≡ length prefix + 1 → coef_at r (length prefix) ≡ pos 0
    → dot r.coefs (prefix ++ x ∷ []) ≡ dot (take (length prefix) r.coefs) prefix
without_coef r prefix x wide none =
    let n = length prefix in
    ap (λ (cs : List ℤ). dot cs (prefix ++ x ∷ [])) (sym (take-append-drop n r.coefs))
    ∙ dot-append (take n r.coefs) (drop n r.coefs) prefix (x ∷ []) (length-take-le n r.coefs (omega (arith, wide)))
    ∙ ap (λ (cs : List ℤ). dot (take n r.coefs) prefix +ℤ dot cs (x ∷ []))
    (last_left r.coefs n (pos 0) wide ∙ ap (λ (c : ℤ). c ∷ []) none)
    ∙ by (dot (take n r.coefs) prefix)
  where
    by : (t : ℤ) → t +ℤ (pos 0 *ℤ x +ℤ pos 0) ≡ t
    by t = simp expand (omega (arith, linear))

any_number : (r : Row) (prefix : List ℤ) (x y : ℤ) → length r.coefs ≡ length prefix + 1 → coef_at r (length prefix) ≡ pos 0
    → HoldsRow r (prefix ++ y ∷ []) → HoldsRow r (prefix ++ x ∷ [])
any_number r prefix x y wide none h = subst (λ (z : ℤ). HoldsValue r.kind r.k (z +ℤ r.constant))
    (without_coef r prefix y wide none ∙ sym (without_coef r prefix x wide none)) h

-- ---- systems
pub shorn_within : (g : Gauge) (s : System) (col : ℕ) → IsSystemWithin g s → IsSystemWithin g (shorn col s)
shorn_within g s col w = record {
  rows = All-filter (has_coef col) (IsWellFormed s.columns) s.rows w.rows;
  within = All-filter (has_coef col) (IsRowWithin g) s.rows w.within;
  count = w.count;
  definitions = w.definitions;
}

-- where the system holds at some number behind the prefix, it holds where the other rows do
pub shorn_holds : (g : Gauge) (s : System) (prefix : List ℤ) (x y : ℤ) → IsSystemWithin g s → s.definitions ≡ []
    → free_columns s ≡ length prefix + 1 → HoldsSystem s (prefix ++ y ∷ [])
    → HoldsSystem (shorn (length prefix) s) (prefix ++ x ∷ []) ↔ HoldsSystem s (prefix ++ x ∷ [])
shorn_holds g s prefix x y w d f begun =
    let n = length prefix in
    let P : Row → Type 0 = λ r. HoldsRow r (prefix ++ x ∷ []) in
    let wide = rows_wide g s prefix w d f in
    let own = plain_holds s (prefix ++ x ∷ []) d in
    let cut = plain_holds (shorn n s) (prefix ++ x ∷ []) d in
    let at = (plain_holds s (prefix ++ y ∷ []) d).0 begun in (
      (λ h. own.1 (kept_all (has_coef n) P s.rows
          (λ i e l z. any_number (get_or s.rows i e) prefix x y (wide i e l) (zero_coef (coef_at (get_or s.rows i e) n) z) (at i e l))
          (cut.0 h))),
      (λ h. cut.1 (All-filter (has_coef n) P s.rows (own.0 h))),
    )

-- it has an end on each side
pub shorn_ended : (s : System) (prefix : List ℤ) (y : ℤ) → free_columns s ≡ length prefix + 1 → IsEnded s → HoldsSystem s (prefix ++ y ∷ [])
    → IsEnded (shorn (length prefix) s)
shorn_ended s prefix y f ended begun none =
    absurd (ended (λ ends. none (below ends.0, above ends.1)) (prefix ++ y ∷ []) (let l = length_push prefix y in omega (arith, l, f)) begun)
  where
    last : free_columns s - 1 ≡ length prefix
    last = omega (arith, f)

    below : HasLowerEnd (free_columns s - 1) s.rows → HasLowerEnd (free_columns s - 1) (rows_on (length prefix) s.rows)
    below h = kept_any (has_coef (length prefix)) (λ r. EndsBelow r.kind (coef_at r (free_columns s - 1))) s.rows
        (λ r m. below_some r.kind (coef_at r (length prefix)) (subst (λ (n : ℕ). EndsBelow r.kind (coef_at r n)) last m)) h

    above : HasUpperEnd (free_columns s - 1) s.rows → HasUpperEnd (free_columns s - 1) (rows_on (length prefix) s.rows)
    above h = kept_any (has_coef (length prefix)) (λ r. EndsAbove r.kind (coef_at r (free_columns s - 1))) s.rows
        (λ r m. above_some r.kind (coef_at r (length prefix)) (subst (λ (n : ℕ). EndsAbove r.kind (coef_at r n)) last m)) h

-- ---- one row more
pub on_none : (col : ℕ) (r : Row) → coef_at r col ≡ pos 0 → rows_on col (r ∷ []) ≡ []
on_none col r e = by (int_eq (coef_at r col) (pos 0)) (Decides-int_eq (coef_at r col) (pos 0))
  where
    by : (t : Bool) → Decides t (coef_at r col ≡ pos 0) → cond (not t) (r ∷ []) [] ≡ []
    by true d = refl
    by false d = absurd (let y = d.1 e in cc)

pub on_one : (col : ℕ) (r : Row) → coef_at r col ≢ pos 0 → rows_on col (r ∷ []) ≡ r ∷ []
on_one col r n = ap (λ (t : Bool). cond t (r ∷ []) []) (some_coef (coef_at r col) n)

pub on_more : (numbers : List ℤ) (rows : List Row) (i : ℕ) (row : Row) (old new : List Row) → i < length rows → row ≡ get_or rows i row
    → old ≡ map (row_at numbers) (rows_on (length numbers) (take i rows))
    → new ≡ old ++ map (row_at numbers) (rows_on (length numbers) (row ∷ []))
    → new ≡ map (row_at numbers) (rows_on (length numbers) (take (i + 1) rows))
on_more numbers rows i row old new low at before more =
    let p = has_coef (length numbers) in
    let one : take (i + 1) rows ≡ take i rows ++ row ∷ [] = take_more rows i row low
    ∙ ap (λ (r : Row). take i rows ++ r ∷ []) (sym at) in
    more ∙ ap (λ (l : List Row). l ++ map (row_at numbers) (filter p (row ∷ []))) before
    ∙ sym (map-append (row_at numbers) (filter p (take i rows)) (filter p (row ∷ [])))
    ∙ ap (λ (l : List Row). map (row_at numbers) l) (sym (filter-append p (take i rows) (row ∷ [])))
    ∙ ap (λ (l : List Row). map (row_at numbers) (filter p l)) (sym one)
