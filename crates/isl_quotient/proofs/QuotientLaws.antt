-- One column replaced by a quotient: the system holds where it did with some number at the column.
use Rattle.std.proofs.Common.{◌≡◌, ◌↔◌, refl, sym, ap, subst, ◌∙◌, arith, ℕ, zero, suc, ◌-◌, ◌<◌, ◌≤◌, ℤ, pos, negsuc, neg_ℤ, ◌+ℤ◌, ◌*ℤ◌}
use Rattle.std.proofs.Common.{◌≤ℤ◌, ◌<ℤ◌, List, [], ◌∷◌, ◌++◌, length, length-append, get_or, map}
use Rattle.std.specs.List.{All, insert, remove}
use Rattle.std.proofs.lemmas.List.Edits.{length-remove}
use Rattle.std.proofs.lemmas.List.Elements.{All-head, All-tail, All-map}
use Rattle.isl_math.specs.Divide.{floor_div}
use Rattle.isl_math.specs.Dot.{dot, scaled}
use Rattle.isl_math.proofs.Ring.{expand, linear}
use Rattle.isl_math.proofs.ColumnLaws.{dot-insert}
use Rattle.isl_math.proofs.DotLaws.{dot-append, dot-scaled}
use Rattle.isl_math.proofs.DivideLaws.{floor_div-from_IsFloor}
use Rattle.isl_math.proofs.ListLaws.{All-unmapped}
use Rattle.isl_meter.specs.Gauge.{Gauge}
use Rattle.isl_piece.specs.declared.definition.Definition.{Definition}
use Rattle.isl_piece.specs.declared.row.Row.{Row}
use Rattle.isl_piece.specs.declared.system.System.{System}
use Rattle.isl_piece.specs.Definition.{defined_value, with_next, with_defined, AreDefinitions}
use Rattle.isl_piece.specs.Row.{HoldsRow, HoldsValue, value_at, coef_at, IsWellFormed}
use Rattle.isl_piece.specs.System.{HoldRows, HoldsSystem, IsSystemWithin, free_columns}
use Rattle.isl_piece.proofs.DefinedLaws.{with_defined_push, length-with_defined}
use Rattle.isl_quotient.specs.Quotient.{turned, turned_row, short_definition, quotient_of, with_quotient, IsQuotient, IsUndefining}

-- ---- one number among the others
insert-append : (xs : List ℤ) (i : ℕ) (x v : ℤ) → i ≤ length xs → insert xs i x ++ v ∷ [] ≡ insert (xs ++ v ∷ []) i x
insert-append [] zero x v l = refl
insert-append [] (suc i) x v l = absurd (omega arith)
insert-append (y ∷ xs) zero x v l = refl
insert-append (y ∷ xs) (suc i) x v l = ap (λ (zs : List ℤ). y ∷ zs) (insert-append xs i x v (omega arith))

-- a form that does not name the column
value-short : (col : ℕ) (d : Definition) (point : List ℤ) (x : ℤ) → col < length d.coefs → col ≤ length point
    → get_or d.coefs col (pos 0) ≡ pos 0
    → defined_value d (insert point col x) ≡ defined_value (short_definition col d) point
value-short col d point x i l z =
    ap (λ v. floor_div (v +ℤ d.constant) d.k) (by (dot d.coefs (insert point col x)) (get_or d.coefs col (pos 0))
    (dot (remove d.coefs col) point) (dot-insert d.coefs point col x i l) z)
  where
    by : (u c w : ℤ) → u ≡ c *ℤ x +ℤ w → c ≡ pos 0 → u ≡ w
    by u c w e z = let f = rw z at e in omega (arith, linear, f)

-- the full point, with and without the column
pub full_short : (g : Gauge) (col : ℕ) (definitions : List Definition) (point : List ℤ) (x : ℤ) → col ≤ length point
    → AreDefinitions g (suc (length point)) definitions → IsUndefining col definitions
    → with_defined definitions (insert point col x) ≡ insert (with_defined (map (short_definition col) definitions) point) col x
full_short g col [] point x l a n = refl
full_short g col (d ∷ definitions) point x l a n =
    let P : Definition → Type 0 = λ e. get_or e.coefs col (pos 0) ≡ pos 0 in
    let w = a.0.width in
    let value = value-short col d point x (omega (arith, w, l)) l (All-head P d definitions n) in
    let next = insert-append point col x (defined_value (short_definition col d) point) l in
    let long = length-append point (defined_value (short_definition col d) point ∷ []) in
    let wide : length (with_next point (short_definition col d)) ≡ suc (length point) = omega (arith, long) in
    ap (λ v. with_defined definitions (insert point col x ++ v ∷ [])) value
    ∙ ap (λ (xs : List ℤ). with_defined definitions xs) next
    ∙ full_short g col definitions (with_next point (short_definition col d)) x (omega (arith, wide, l)) (rw wide a.1)
    (All-tail P d definitions n)

-- ---- rows
pub value-turned : (col : ℕ) (r : Row) (full : List ℤ) (x : ℤ) → length r.coefs ≡ suc (length full) → col ≤ length full
    → value_at (turned_row col r) (full ++ x ∷ []) ≡ value_at r (insert full col x)
value-turned col r full x w l =
    let short = length-remove r.coefs col (omega (arith, w, l)) in
    let there = dot-append (remove r.coefs col) (get_or r.coefs col (pos 0) ∷ []) full (x ∷ []) (omega (arith, short, w)) in
    let here = dot-insert r.coefs full col x (omega (arith, w, l)) l in
    by (dot (turned col r.coefs) (full ++ x ∷ [])) (dot r.coefs (insert full col x)) (get_or r.coefs col (pos 0))
    (dot (remove r.coefs col) full) there here
  where
    by : (u v c d : ℤ) → u ≡ d +ℤ (c *ℤ x +ℤ pos 0) → v ≡ c *ℤ x +ℤ d → u +ℤ r.constant ≡ v +ℤ r.constant
    by u v c d e f = omega (arith, linear, e, f)

pub turned_hold : (columns col : ℕ) (rows : List Row) (full : List ℤ) (x : ℤ) → All (IsWellFormed columns) rows
    → suc (length full) ≡ columns → col ≤ length full
    → HoldRows (map (turned_row col) rows) (full ++ x ∷ []) ↔ HoldRows rows (insert full col x)
turned_hold columns col rows full x formed w l = (
  (λ h k d i. subst (HoldsValue (get_or rows k d).kind (get_or rows k d).k) (same k d i)
      (All-unmapped (λ r. HoldsRow r (full ++ x ∷ [])) (turned_row col) rows h k d i)),
  (λ h. All-map (λ r. HoldsRow r (full ++ x ∷ [])) (turned_row col) rows
      (λ k d i. subst (HoldsValue (get_or rows k d).kind (get_or rows k d).k) (sym (same k d i)) (h k d i))),
)
  where
    same : (k : ℕ) (d : Row) → k < length rows
        → value_at (turned_row col (get_or rows k d)) (full ++ x ∷ []) ≡ value_at (get_or rows k d) (insert full col x)
    same k d i = value-turned col (get_or rows k d) full x ((formed k d i).width ∙ sym w) l

-- ---- the quotient
-- u is what the upper bound says, v the lower one: k x <= f and f <= k x + s, where s < k
pinned : (f c d k x u v : ℤ) → u ≡ neg_ℤ k *ℤ x +ℤ f → v ≡ neg_ℤ u → pos 0 <ℤ k → (c +ℤ d) <ℤ k → pos 0 ≤ℤ (u +ℤ c) → pos 0 ≤ℤ (v +ℤ d)
    → x ≡ floor_div (f +ℤ c) k
pinned f c d k x u v e o p n a b =
    let e' = simp expand at e in
    floor_div-from_IsFloor (f +ℤ c) k x (record {
      below = simp expand (omega (arith, linear));
      above = simp expand (omega (arith, linear));
    })

pub dot-opposite : (cs xs : List ℤ) → dot (scaled (negsuc 0) cs) xs ≡ neg_ℤ (dot cs xs)
dot-opposite cs xs = let e = dot-scaled (negsuc 0) cs xs in omega (arith, linear, e)

pub opposite-at : (cs : List ℤ) (i : ℕ) → get_or (scaled (negsuc 0) cs) i (pos 0) ≡ neg_ℤ (get_or cs i (pos 0))
opposite-at [] i = refl
opposite-at (c ∷ cs) zero = omega (arith, linear)
opposite-at (c ∷ cs) (suc i) = opposite-at cs i

-- the number at the column is the quotient, where both bounds hold
pub quotient_pinned : (col : ℕ) (upper lower : Row) (full : List ℤ) (x : ℤ) → IsQuotient col upper lower
    → length upper.coefs ≡ suc (length full) → col ≤ length full
    → HoldsRow upper (insert full col x) → HoldsRow lower (insert full col x) → x ≡ defined_value (quotient_of col upper lower) full
quotient_pinned col upper lower full x q w l h k =
    let xs = insert full col x in
    let c = get_or upper.coefs col (pos 0) in
    let there = dot-insert upper.coefs full col x (omega (arith, w, l)) l in
    let turn : c ≡ neg_ℤ (coef_at lower col) = ap (λ (cs : List ℤ). get_or cs col (pos 0)) q.opposite ∙ opposite-at lower.coefs col in
    let both : dot upper.coefs xs ≡ neg_ℤ (dot lower.coefs xs) = ap (λ (cs : List ℤ). dot cs xs) q.opposite ∙ dot-opposite lower.coefs xs in
    let above = subst (λ kind. HoldsValue kind upper.k (value_at upper xs)) q.upper_kind h in
    let below = subst (λ kind. HoldsValue kind lower.k (value_at lower xs)) q.lower_kind k in
    pinned (dot (remove upper.coefs col) full) upper.constant lower.constant (coef_at lower col) x (dot upper.coefs xs) (dot lower.coefs xs)
    (there ∙ ap (λ v. v *ℤ x +ℤ dot (remove upper.coefs col) full) turn) (by (dot upper.coefs xs) (dot lower.coefs xs) both) q.positive
    q.near above below
  where
    by : (u v : ℤ) → u ≡ neg_ℤ v → v ≡ neg_ℤ u
    by u v e = omega (arith, linear, e)

pub length-mapped : {X Y : Type 0} (f : X → Y) (xs : List X) → length (map f xs) ≡ length xs
length-mapped f [] = refl
length-mapped f (x ∷ xs) = ap suc (length-mapped f xs)

-- the new system holds at a point exactly where some number at the column makes the old one hold
pub quotient_points : (g : Gauge) (s : System) (col : ℕ) (upper lower : Row) (i j : ℕ) → IsSystemWithin g s → col < free_columns s
    → IsUndefining col s.definitions → IsQuotient col upper lower
    → i < length s.rows → get_or s.rows i upper ≡ upper → j < length s.rows → get_or s.rows j lower ≡ lower
    → (point : List ℤ) → length point ≡ free_columns s - 1
    → HoldsSystem (with_quotient col upper lower s) point ↔ ((x : ℤ) × HoldsSystem s (insert point col x))
quotient_points g s col upper lower i j w c n q il ir jl jr point e =
    let short = map (short_definition col) s.definitions in
    let full = with_defined short point in
    let d = quotient_of col upper lower in
    let count = w.count in
    let long = length-with_defined short point in
    let same = length-mapped (short_definition col) s.definitions in
    let wide : suc (length full) ≡ s.columns = omega (arith, long, same, e, c, count) in
    let low : col ≤ length point = omega (arith, e, c) in
    let inside : col ≤ length full = omega (arith, wide, c) in
    let defined : AreDefinitions g (suc (length point)) s.definitions =
    subst (λ m. AreDefinitions g m s.definitions) (omega (arith, e, c)) w.definitions in
    let push = with_defined_push short d point in
    let old : (x : ℤ) → with_defined s.definitions (insert point col x) ≡ insert full col x =
    λ x. full_short g col s.definitions point x low defined n in
    let rows : (x : ℤ) → HoldRows (map (turned_row col) s.rows) (full ++ x ∷ []) ↔ HoldRows s.rows (insert full col x) =
    λ x. turned_hold s.columns col s.rows full x w.rows wide inside in (
      (λ h. let x = defined_value d full in (
        x,
        subst (HoldRows s.rows) (sym (old x))
            ((rows x).0 (subst (HoldRows (map (turned_row col) s.rows)) push h)),
      )),
      (λ h.
          let x = h.0 in
          let hold = subst (HoldRows s.rows) (old x) h.1 in
          let above : HoldsRow upper (insert full col x) = subst (λ r. HoldsRow r (insert full col x)) ir (hold i upper il) in
          let below : HoldsRow lower (insert full col x) = subst (λ r. HoldsRow r (insert full col x)) jr (hold j lower jl) in
          let width : length upper.coefs ≡ suc (length full) =
          ap (λ (r : Row). length r.coefs) (sym ir) ∙ (w.rows i upper il).width ∙ sym wide in
          let is = quotient_pinned col upper lower full x q width inside above below in
          subst (HoldRows (map (turned_row col) s.rows)) (ap (λ v. full ++ v ∷ []) is ∙ sym push) ((rows x).1 hold)),
    )
