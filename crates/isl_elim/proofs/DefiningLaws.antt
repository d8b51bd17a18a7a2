-- What the rows of definitions say: each defined column has the number that its definition gives.
use Rattle.std.proofs.Common.{◌≡◌, ◌↔◌, refl, sym, ap, ◌∙◌, arith, ℕ, suc, ◌+◌, ◌-◌, ◌<◌, ◌≤◌, ℤ, pos, negsuc, neg_ℤ, ◌+ℤ◌, ◌-ℤ◌, ◌*ℤ◌, ◌≤ℤ◌, ◌<ℤ◌, List, [], ◌∷◌, ◌++◌, length, replicate, length-append, get_or, take, drop}
use Rattle.std.proofs.lemmas.List.{append_assoc, append-nil, length-take-le, take-append-drop, take_more}
use Rattle.std.proofs.lemmas.List.Elements.{All-nil, All-cons, All-head, All-tail, All-append}
use Rattle.isl_math.proofs.ListLaws.{All-parts}
use Rattle.isl_math.specs.Divide.{floor_div}
use Rattle.isl_math.specs.Dot.{dot, scaled}
use Rattle.isl_math.proofs.Ring.{expand, linear}
use Rattle.isl_math.proofs.DotLaws.{dot-append, dot-zeros, dot-scaled}
use Rattle.isl_math.proofs.DivideLaws.{IsFloor-floor_div, floor_div-from_IsFloor}
use Rattle.isl_meter.specs.Gauge.{Gauge}
use Rattle.isl_piece.specs.declared.definition.Definition.{Definition}
use Rattle.isl_piece.specs.declared.row.Row.{Row}
use Rattle.isl_piece.specs.declared.system.System.{System}
use Rattle.isl_piece.specs.Definition.{defined_value, with_defined, AreDefinitions}
use Rattle.isl_piece.specs.Row.{HoldsRow}
use Rattle.isl_piece.specs.System.{HoldRows, HoldsSystem, IsSystemWithin, free_columns}
use Rattle.isl_elim.specs.Opened.{padded, least_row, most_row, definition_rows}

-- ---- one definition
-- coefficients and 0 behind them, where the numbers go on
dot-padded : (columns : ℕ) (cs : List ℤ) (a : ℤ) (xs : List ℤ) (z : ℤ) (zs : List ℤ) → length cs ≡ length xs → dot (padded columns (cs ++ a ∷ [])) (xs ++ z ∷ zs) ≡ dot cs xs +ℤ a *ℤ z
dot-padded columns cs a xs z zs e =
    let m = columns - length (cs ++ a ∷ []) in
    let none : List ℤ = replicate m (pos 0) in
    let same : padded columns (cs ++ a ∷ []) ≡ cs ++ a ∷ none = append_assoc cs (a ∷ []) none in
    ap (λ (ds : List ℤ). dot ds (xs ++ z ∷ zs)) same ∙ by (dot (cs ++ a ∷ none) (xs ++ z ∷ zs)) (dot cs xs) (dot none zs) (dot-append cs (a ∷ none) xs (z ∷ zs) e) (dot-zeros m zs)
  where
    by : (u v w : ℤ) → u ≡ v +ℤ (a *ℤ z +ℤ w) → w ≡ pos 0 → u ≡ v +ℤ a *ℤ z
    by u v w h n = omega (arith, linear)

dot-opposite : (cs xs : List ℤ) → dot (scaled (negsuc 0) cs) xs ≡ neg_ℤ (dot cs xs)
dot-opposite cs xs = let e = dot-scaled (negsuc 0) cs xs in omega (arith, linear)

floor_rows : (f c k z u v : ℤ) → pos 0 <ℤ k → u ≡ f +ℤ neg_ℤ k *ℤ z → v ≡ neg_ℤ f +ℤ k *ℤ z → ((pos 0 ≤ℤ (u +ℤ c)) × (pos 0 ≤ℤ (v +ℤ (k -ℤ pos 1 -ℤ c)))) ↔ (z ≡ floor_div (f +ℤ c) k)
floor_rows f c k z u v p e m =
    let least = simp expand at e in
    let most = simp expand at m in (
      (λ h.
          let low = simp expand at h.0 in
          let high = simp expand at h.1 in
          floor_div-from_IsFloor (f +ℤ c) k z (record { below = simp expand (omega (arith, linear)); above = simp expand (omega (arith, linear)) })),
      (λ h.
          let floor = IsFloor-floor_div (f +ℤ c) k p in
          let below = simp expand at (rw (← h) at floor.below) in
          let above = simp expand at (rw (← h) at floor.above) in
          (simp expand (omega (arith, linear)), simp expand (omega (arith, linear)))),
    )

-- the two rows of a definition hold where its column has its number
pub defining : (columns : ℕ) (d : Definition) (xs : List ℤ) (z : ℤ) (zs : List ℤ) → length d.coefs ≡ length xs → pos 0 <ℤ d.k
    → (HoldsRow (least_row columns d) (xs ++ z ∷ zs) × HoldsRow (most_row columns d) (xs ++ z ∷ zs)) ↔ (z ≡ defined_value d xs)
defining columns d xs z zs e p =
    let least = dot-padded columns d.coefs (neg_ℤ d.k) xs z zs e in
    let most = dot-padded columns (scaled (negsuc 0) d.coefs) d.k xs z zs (length-scaled d.coefs ∙ e) in
    let f = dot d.coefs xs in
    floor_rows f d.constant d.k z (dot (padded columns (d.coefs ++ neg_ℤ d.k ∷ [])) (xs ++ z ∷ zs)) (dot (padded columns (scaled (negsuc 0) d.coefs ++ d.k ∷ [])) (xs ++ z ∷ zs)) p least (most ∙ ap (λ w. w +ℤ d.k *ℤ z) (dot-opposite d.coefs xs))
  where
    length-scaled : (cs : List ℤ) → length (scaled (negsuc 0) cs) ≡ length cs
    length-scaled [] = refl
    length-scaled (c ∷ cs) = ap suc (length-scaled cs)

-- ---- definitions one after another
-- the numbers zs, behind xs, are those that the definitions give
abbrev pub AreDefinedBy : List Definition → List ℤ → List ℤ → Type 0
AreDefinedBy [] xs zs = zs ≡ []
AreDefinedBy (d ∷ definitions) xs [] = ⊥
AreDefinedBy (d ∷ definitions) xs (z ∷ zs) = (z ≡ defined_value d xs) × AreDefinedBy definitions (xs ++ z ∷ []) zs

pub next_number : (xs : List ℤ) (z : ℤ) (zs : List ℤ) → (xs ++ z ∷ []) ++ zs ≡ xs ++ z ∷ zs
next_number xs z zs = append_assoc xs (z ∷ []) zs

pub defined_by : (definitions : List Definition) (xs zs : List ℤ) → AreDefinedBy definitions xs zs → with_defined definitions xs ≡ xs ++ zs
defined_by [] xs zs h = sym (append-nil xs) ∙ ap (λ (ys : List ℤ). xs ++ ys) (sym h)
defined_by (d ∷ definitions) xs [] h = absurd h
defined_by (d ∷ definitions) xs (z ∷ zs) h = ap (λ v. with_defined definitions (xs ++ v ∷ [])) (sym h.0) ∙ defined_by definitions (xs ++ z ∷ []) zs h.1 ∙ next_number xs z zs

-- what definitions give behind numbers
pub defined_numbers : List Definition → List ℤ → List ℤ
defined_numbers [] xs = []
defined_numbers (d ∷ definitions) xs = defined_value d xs ∷ defined_numbers definitions (xs ++ defined_value d xs ∷ [])

pub defined_numbers-are : (definitions : List Definition) (xs : List ℤ) → AreDefinedBy definitions xs (defined_numbers definitions xs)
unfolding defined_numbers
defined_numbers-are [] xs = refl
defined_numbers-are (d ∷ definitions) xs = (refl, defined_numbers-are definitions (xs ++ defined_value d xs ∷ []))

pub length-defined_by : (definitions : List Definition) (xs zs : List ℤ) → AreDefinedBy definitions xs zs → length zs ≡ length definitions
length-defined_by [] xs zs h = ap (λ (ys : List ℤ). length ys) h
length-defined_by (d ∷ definitions) xs [] h = absurd h
length-defined_by (d ∷ definitions) xs (z ∷ zs) h = ap suc (length-defined_by definitions (xs ++ z ∷ []) zs h.1)

-- ---- the rows of all definitions
pub defining_all : (g : Gauge) (columns : ℕ) (definitions : List Definition) (xs zs : List ℤ) → AreDefinitions g (length xs) definitions → length zs ≡ length definitions
    → HoldRows (definition_rows columns definitions) (xs ++ zs) ↔ AreDefinedBy definitions xs zs
defining_all g columns [] xs [] a l = ((λ h. refl), (λ h. All-nil (λ r. HoldsRow r (xs ++ []))))
defining_all g columns [] xs (z ∷ zs) a l = absurd (omega (arith, l))
defining_all g columns (d ∷ definitions) xs [] a l = absurd (omega (arith, l))
defining_all g columns (d ∷ definitions) xs (z ∷ zs) a l =
    let P : Row → Type 0 = λ r. HoldsRow r (xs ++ z ∷ zs) in
    let rows = definition_rows columns definitions in
    let wide : length (xs ++ z ∷ []) ≡ suc (length xs) = length-append xs (z ∷ []) ∙ omega arith in
    let one = defining columns d xs z zs a.0.width a.0.modulus in
    let rest = rw (next_number xs z zs) at (defining_all g columns definitions (xs ++ z ∷ []) zs (rw wide a.1) (omega (arith, l))) in (
      (λ h.
          let tail = All-tail P (least_row columns d) (most_row columns d ∷ rows) h in
          (one.0 (All-head P (least_row columns d) (most_row columns d ∷ rows) h, All-head P (most_row columns d) rows tail), rest.0 (All-tail P (most_row columns d) rows tail))),
      (λ h.
          let both = one.1 h.0 in
          All-cons P (least_row columns d) (most_row columns d ∷ rows) both.0 (All-cons P (most_row columns d) rows both.1 (rest.1 h.1))),
    )

-- ---- systems
-- the numbers of the free columns, and those behind them
pub front_length : (s : System) (whole : List ℤ) → length s.definitions ≤ s.columns → length whole ≡ s.columns → (length (take (free_columns s) whole) ≡ free_columns s) × (length (drop (free_columns s) whole) ≡ length s.definitions)
front_length s whole c l =
    let front = length-take-le (free_columns s) whole (omega (arith, l)) in
    let both = ap (λ (xs : List ℤ). length xs) (take-append-drop (free_columns s) whole) in
    let sum = length-append (take (free_columns s) whole) (drop (free_columns s) whole) in
    (front, omega (arith, front, both, sum, l, c))

-- the opened rows hold where the system does
pub all_opened : (g : Gauge) (s : System) (whole : List ℤ) → IsSystemWithin g s → length whole ≡ s.columns → HoldRows (s.rows ++ definition_rows s.columns s.definitions) whole → HoldsSystem s (take (free_columns s) whole)
all_opened g s whole w l h =
    let xs = take (free_columns s) whole in
    let zs = drop (free_columns s) whole in
    let join : xs ++ zs ≡ whole = take-append-drop (free_columns s) whole in
    let front = front_length s whole w.count l in
    let rows = All-parts (λ r. HoldsRow r whole) s.rows (definition_rows s.columns s.definitions) h in
    let defined = (defining_all g s.columns s.definitions xs zs (rw front.0 w.definitions) front.1).0 (rw join rows.1) in
    let full : with_defined s.definitions xs ≡ whole = defined_by s.definitions xs zs defined ∙ join in
    rw full rows.0

-- and they hold at the numbers of a point with what the definitions give behind them, where the system holds at the point
pub all_opened_at : (g : Gauge) (s : System) (point : List ℤ) → IsSystemWithin g s → length point ≡ free_columns s → HoldsSystem s point
    → (length (point ++ defined_numbers s.definitions point) ≡ s.columns) × HoldRows (s.rows ++ definition_rows s.columns s.definitions) (point ++ defined_numbers s.definitions point)
all_opened_at g s point w l h =
    let zs = defined_numbers s.definitions point in
    let are = defined_numbers-are s.definitions point in
    let count = length-defined_by s.definitions point zs are in
    let full = defined_by s.definitions point zs are in
    let sum = length-append point zs in
    let c = w.count in
    let rows = (defining_all g s.columns s.definitions point zs (rw l w.definitions) count).1 are in
    (omega (arith, sum, count, l, c), All-append (λ r. HoldsRow r (point ++ zs)) s.rows (definition_rows s.columns s.definitions) (rw full at h) rows)

pub all_opened_back : (g : Gauge) (s : System) (point : List ℤ) → IsSystemWithin g s → length point ≡ free_columns s → HoldsSystem s point
    → (whole : List ℤ) × (length whole ≡ s.columns) × HoldRows (s.rows ++ definition_rows s.columns s.definitions) whole
all_opened_back g s point w l h = let k = all_opened_at g s point w l h in (point ++ defined_numbers s.definitions point, k.0, k.1)

pub definition_rows-append : (columns : ℕ) (definitions : List Definition) (d : Definition) → definition_rows columns (definitions ++ d ∷ []) ≡ definition_rows columns definitions ++ least_row columns d ∷ most_row columns d ∷ []
definition_rows-append columns [] d = refl
definition_rows-append columns (first ∷ definitions) d = ap (λ (rows : List Row). least_row columns first ∷ most_row columns first ∷ rows) (definition_rows-append columns definitions d)

-- the rows of one definition more
pub definition_rows-more : (columns : ℕ) (rows : List Row) (definitions : List Definition) (i : ℕ) (d : Definition) → i < length definitions
    → rows ++ definition_rows columns (take (i + 1) definitions) ≡ (rows ++ definition_rows columns (take i definitions)) ++ least_row columns (get_or definitions i d) ∷ most_row columns (get_or definitions i d) ∷ []
definition_rows-more columns rows definitions i d l =
    let one = get_or definitions i d in
    ap (λ (ds : List Definition). rows ++ definition_rows columns ds) (take_more definitions i d l)
    ∙ ap (λ (more : List Row). rows ++ more) (definition_rows-append columns (take i definitions) one)
    ∙ sym (append_assoc rows (definition_rows columns (take i definitions)) (least_row columns one ∷ most_row columns one ∷ []))
