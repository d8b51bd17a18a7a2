-- Rows over the last column, and what is put behind prefixes.
use Rattle.std.proofs.Common.{◌≡◌, ◌↔◌, ◌∙◌, refl, sym, ap, subst, arith, ℕ, ◌+◌, ◌-◌, ◌*◌, ◌/◌, ◌<◌, ℤ, pos, ◌+ℤ◌, ◌*ℤ◌, List, [], ◌∷◌}
use Rattle.std.proofs.Common.{◌++◌, length}
use Rattle.std.proofs.Common.{get_or, take, drop, map, Bool, true, false, not}
use Rattle.std.specs.Prelude.{IsTrue, ◌<ℤ◌}
use Rattle.std.specs.List.{All}
use Rattle.std.proofs.lemmas.List.{append-nil, append_assoc, drop_all, drop_more, map_more, map_push, take_more}
use Rattle.isl_math.specs.Divide as divide
use Rattle.isl_math.specs.Divide.{floor_mod}
use Rattle.isl_math.proofs.Ring.{expand, linear}
use Rattle.isl_meter.specs.Gauge.{Gauge, IsWithin}
use Rattle.isl_omega.specs.Column.{IsProper}
use Rattle.isl_piece.specs.declared.row.RowKind.TheVariants.{NotDivides}
use Rattle.isl_piece.specs.declared.row.Row.{Row}
use Rattle.isl_piece.specs.declared.system.System.{System}
use Rattle.isl_piece.specs.Row.{HoldsRow, IsWellFormed}
use Rattle.isl_piece.specs.System.{IsSystemWithin, free_columns}
use Rattle.isl_piece.proofs.RowLemmas.{Divides-test}
use Rattle.isl_elim.proofs.ProjectionLaws.{plain_free}
use Rattle.isl_tower.specs.Numbers.{row_at}
use Rattle.isl_tower.proofs.NumberLaws.{system_within_at}
use Rattle.isl_points.specs.Flat.{laid_out, points_in}
use Rattle.isl_points.specs.Level.{behind}
use Rattle.isl_points.proofs.FlatLaws.{count_is, laid_out-append, length-laid_out, points_in-laid_out}

-- ---- a row that its modulus must not divide
not_true : (t : Bool) (D : Type 0) → IsTrue t ↔ D → IsTrue (not t) ↔ ¬ D
not_true true D h = ((λ e. absurd cc), (λ n. absurd (n (h.0 refl))))
not_true false D h = ((λ _ d. let e = h.1 d in absurd cc), (λ _. refl))

pub spared : (r : Row) (c x z m : ℤ) (t : Bool) → r.kind ≡ NotDivides → r.coefs ≡ c ∷ [] → z ≡ c *ℤ x +ℤ r.constant
    → pos 0 <ℤ r.k → m ≡ floor_mod z r.k → IsTrue t ↔ (m ≡ pos 0) → IsTrue (not t) ↔ HoldsRow r (x ∷ [])
spared r c x z m t kind coefs value modulus rest test =
    rw (kind, coefs) (not_true t (divide.Divides r.k (c *ℤ x +ℤ pos 0 +ℤ r.constant))
    (subst (λ (y : ℤ). IsTrue t ↔ divide.Divides r.k y) (value ∙ same (c *ℤ x) r.constant) (Divides-test r.k z m t modulus rest test)))
  where
    same : (p k : ℤ) → p +ℤ k ≡ p +ℤ pos 0 +ℤ k
    same p k = omega (arith, linear)

-- ---- what is left of a row
pub plus_zero : (sum coef x : ℤ) → coef ≡ pos 0 → sum ≡ sum +ℤ coef *ℤ x
plus_zero sum coef x none = rw none (by x)
  where
    by : (x : ℤ) → sum ≡ sum +ℤ pos 0 *ℤ x
    by x = simp expand (omega (arith, linear))

-- the last coefficient alone
pub last_left : (coefs : List ℤ) (n : ℕ) (d : ℤ) → length coefs ≡ n + 1 → drop n coefs ≡ get_or coefs n d ∷ []
last_left coefs n d long =
    drop_more coefs n d (omega (arith, long)) ∙ ap (λ (l : List ℤ). get_or coefs n d ∷ l) (drop_all (n + 1) coefs (omega (arith, long)))

-- ---- the rows of a system behind a prefix
pub rows_wide : (g : Gauge) (s : System) (prefix : List ℤ) → IsSystemWithin g s → s.definitions ≡ []
    → free_columns s ≡ length prefix + 1 → All (λ r. length r.coefs ≡ length prefix + 1) s.rows
rows_wide g s prefix w d f i e l = let free = plain_free s d in let own = (w.rows i e l).width in omega (arith, free, f, own)

-- one row more
pub rows_more : (numbers : List ℤ) (rows : List Row) (i : ℕ) (row left : Row) (old new : List Row) → i < length rows
    → row ≡ get_or rows i row → left ≡ row_at numbers row → old ≡ map (row_at numbers) (take i rows) → new ≡ old ++ left ∷ []
    → new ≡ map (row_at numbers) (take (i + 1) rows)
rows_more numbers rows i row left old new low at is before more =
    more ∙ ap (λ (l : List Row). l ++ left ∷ []) before
    ∙ ap (λ (r : Row). map (row_at numbers) (take i rows) ++ r ∷ []) (is ∙ ap (λ (r : Row). row_at numbers r) at)
    ∙ sym (map_more (row_at numbers) rows i row low)

pub rows_proper : (g : Gauge) (s : System) (prefix : List ℤ) (rows : List Row) → IsSystemWithin g s → s.definitions ≡ []
    → free_columns s ≡ length prefix + 1 → rows ≡ map (row_at prefix) s.rows → All (λ (r : Row). IsWithin g r.constant) rows
    → All (IsProper g 1) rows
rows_proper g s prefix rows w d f is constants =
    let free = plain_free s d in
    let one : s.columns - length prefix ≡ 1 = omega (arith, free, f) in
    let left = system_within_at g prefix s w (subst (All (λ (r : Row). IsWithin g r.constant)) is constants) in
    subst (All (IsProper g 1)) (sym is) (λ i e l. record {
      formed = subst (λ (n : ℕ). IsWellFormed n (get_or (map (row_at prefix) s.rows) i e)) one (left.rows i e l);
      within = left.within i e l;
    })

-- ---- what is put behind a prefix
pub pushed_more : (start old new prefix numbers : List ℤ) (i : ℕ) (x : ℤ) → i < length numbers → x ≡ get_or numbers i x
    → old ≡ start ++ laid_out (behind prefix (take i numbers)) → new ≡ (old ++ prefix) ++ x ∷ []
    → new ≡ start ++ laid_out (behind prefix (take (i + 1) numbers))
pushed_more start old new prefix numbers i x low at before now =
    let f : ℤ → List ℤ = λ z. prefix ++ z ∷ [] in
    let here = take i numbers in
    let more : take (i + 1) numbers ≡ here ++ x ∷ [] = take_more numbers i x low ∙ ap (λ (y : ℤ). here ++ y ∷ []) (sym at) in
    let laid : laid_out (map f (take (i + 1) numbers)) ≡ laid_out (map f here) ++ f x =
    ap (λ (xs : List ℤ). laid_out (map f xs)) more ∙ ap (λ (ps : List (List ℤ)). laid_out ps) (map_push f here x)
    ∙ laid_out-append (map f here) (f x ∷ []) ∙ ap (λ (l : List ℤ). laid_out (map f here) ++ l) (append-nil (f x)) in
    now ∙ append_assoc old prefix (x ∷ []) ∙ ap (λ (l : List ℤ). l ++ f x) before ∙ append_assoc start (laid_out (map f here)) (f x)
    ∙ ap (λ (l : List ℤ). start ++ l) (sym laid)

-- ---- points that were laid out
pub whole_points : (width : ℕ) (numbers : List ℤ) (points : List (List ℤ)) → 0 < width → All (λ p. length p ≡ width) points
    → numbers ≡ laid_out points
    → (points_in width (length numbers / width) numbers ≡ points) × (length numbers ≡ length numbers / width * width)
whole_points width numbers points some wide is =
    let long : length numbers ≡ length points * width = ap (λ (l : List ℤ). length l) is ∙ length-laid_out width points wide in
    let count : length numbers / width ≡ length points = ap (λ (n : ℕ). n / width) long ∙ count_is width (length points) some in (
      ap (λ (n : ℕ). points_in width n numbers) count ∙ ap (λ (l : List ℤ). points_in width (length points) l) is
          ∙ points_in-laid_out width points wide,
      long ∙ ap (λ (n : ℕ). n * width) (sym count),
    )
