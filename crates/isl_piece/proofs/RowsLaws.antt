-- What the normal rows of rows are.
use Rattle.std.proofs.Common.{◌≡◌, ◌↔◌, inl, inr, refl, sym, ◌∙◌, arith, ℕ, ◌-◌, ◌<◌, ◌^◌, ℤ, List, [], ◌∷◌, length, get_or, map, Option, Some, None, option_map, IfSome, IsNone, Result, IfOk}
use Rattle.std.specs.List.{All, Any}
use Rattle.std.proofs.lemmas.List.Elements.{All-weaker}
use Rattle.std.proofs.lemmas.Result.{IfOk-weaker}
use Rattle.isl_math.proofs.ListLaws.{Any-first, Any-later, Any-cases}
use Rattle.isl_meter.specs.Gauge.{Gauge}
use Rattle.isl_piece.specs.declared.row.Row.{Row}
use Rattle.isl_piece.specs.Normal.{Verdict, Always, Never, Kept, normal_row, kept_rows, merged, normal_rows, IsNormal}
use Rattle.isl_piece.specs.Row.{HoldsRow, HasModulus, IsWellFormed, IsRowWithin, IsRowUpTo}
use Rattle.isl_piece.proofs.RowMagnitudes.{up_to_limit, within_limit}
use Rattle.isl_piece.proofs.WitnessLaws.{never_exactly}
use Rattle.isl_piece.proofs.NormalLaws.{HaveModuli, HoldWhere, normal_rows_hold, normal_rows_normal, normal_rows_well_formed, normal_rows_up_to}

-- ---- no normal rows
abbrev IsNever : Row → Type 0
IsNever r = normal_row r ≡ Never

abbrev HasNever : List Row → Type 0
HasNever rows = Any IsNever rows

kept_rows_none : (rows : List Row) → IsNone (kept_rows (map normal_row rows)) ↔ HasNever rows
kept_rows_none [] = ((λ n. cc), (λ a. let h = a.2 in absurd (omega arith)))
kept_rows_none (r ∷ rows) = by (kept_rows_none rows) (normal_row r) refl
  where
    ends : (o : Option (List Row)) (s : Row) → IsNone (option_map (λ xs. s ∷ xs) o) ↔ IsNone o
    ends None s = ((λ n. n), (λ n. n))
    ends (Some xs) s = ((λ n. n), (λ n. n))

    by : IsNone (kept_rows (map normal_row rows)) ↔ HasNever rows → (v : Verdict) → normal_row r ≡ v → IsNone (kept_rows (v ∷ map normal_row rows)) ↔ HasNever (r ∷ rows)
    by rest Always e = (
      (λ n. Any-later IsNever r rows (rest.0 n)),
      (λ a. elim (Any-cases IsNever r rows a) [ inl f ↦ absurd (let g = sym e ∙ f in cc) | inr m ↦ rest.1 m ]),
    )
    by rest Never e = ((λ n. Any-first IsNever r rows e), (λ a. refl))
    by rest (Kept s) e = (
      (λ n. Any-later IsNever r rows (rest.0 ((ends (kept_rows (map normal_row rows)) s).0 n))),
      (λ a. elim (Any-cases IsNever r rows a) [ inl f ↦ absurd (let g = sym e ∙ f in cc) | inr m ↦ (ends (kept_rows (map normal_row rows)) s).1 (rest.1 m) ]),
    )

-- one of the rows holds at no point
abbrev pub HasImpossible : List Row → Type 0
HasImpossible rows = Any (λ r. (xs : List ℤ) → ¬ HoldsRow r xs) rows

impossible : (rows : List Row) → HaveModuli rows → HasNever rows ↔ HasImpossible rows
impossible rows d = (
  (λ a. (a.0, a.1, a.2, a.3, (never_exactly a.1 (modulus_of a.0 a.1 a.2 a.3)).0 a.4)),
  (λ a. (a.0, a.1, a.2, a.3, (never_exactly a.1 (modulus_of a.0 a.1 a.2 a.3)).1 a.4)),
)
  where
    modulus_of : (k : ℕ) (x : Row) → k < length rows → get_or rows k x ≡ x → HasModulus x.kind x.k
    modulus_of k x l is = rw is at (d k x l)

no_normal_rows : (rows : List Row) → IsNone (normal_rows rows) ↔ HasNever rows
no_normal_rows rows = by (kept_rows (map normal_row rows)) (kept_rows_none rows)
  where
    by : (o : Option (List Row)) → IsNone o ↔ HasNever rows → IsNone (option_map merged o) ↔ HasNever rows
    by None h = h
    by (Some kept) h = h

-- there are no normal rows exactly where one of the rows holds at no point
pub normal_rows_none : (rows : List Row) → HaveModuli rows → IsNone (normal_rows rows) ↔ HasImpossible rows
normal_rows_none rows d = let f = no_normal_rows rows in let i = impossible rows d in ((λ n. i.0 (f.0 n)), (λ a. f.1 (i.1 a)))

-- ---- within the limit
IfSome-weaker : (P Q : List Row → Type 0) → ((rows : List Row) → P rows → Q rows) → (o : Option (List Row)) → IfSome o P → IfSome o Q
IfSome-weaker P Q f None h = tt
IfSome-weaker P Q f (Some rows) h = f rows h

pub normal_rows_within : (g : Gauge) (rows : List Row) → HaveModuli rows → All (IsRowWithin g) rows → IfSome (normal_rows rows) (All (IsRowWithin g))
normal_rows_within g rows d w =
    let up_to = IsRowUpTo (2 ^ g.bits - 1) in
    IfSome-weaker (All up_to) (All (IsRowWithin g)) (All-weaker up_to (IsRowWithin g) (within_limit g)) (normal_rows rows)
    (normal_rows_up_to (2 ^ g.bits - 1) rows d (All-weaker (IsRowWithin g) up_to (up_to_limit g) rows w))

-- ---- what was answered
module _ {E : Type 0} (g : Gauge) (rows : List Row) (result : Result (Option (List Row)) E) (exact : IfOk result (λ normal. normal ≡ normal_rows rows)) (d : HaveModuli rows) where
  answered : (P : Option (List Row) → Type 0) → P (normal_rows rows) → IfOk result P
  answered P h = IfOk-weaker result (λ normal. normal ≡ normal_rows rows) P (λ normal e. rw e h) exact

  pub answered_none : IfOk result (λ normal. IsNone normal ↔ HasImpossible rows)
  answered_none = answered (λ normal. IsNone normal ↔ HasImpossible rows) (normal_rows_none rows d)

  pub answered_points : IfOk result (λ normal. (xs : List ℤ) → HoldWhere normal xs (All (λ r. HoldsRow r xs) rows))
  answered_points = answered (λ normal. (xs : List ℤ) → HoldWhere normal xs (All (λ r. HoldsRow r xs) rows)) (λ xs. normal_rows_hold rows xs d)

  pub answered_normal : IfOk result (λ normal. IfSome normal IsNormal)
  answered_normal = answered (λ normal. IfSome normal IsNormal) (normal_rows_normal rows d)

  pub answered_shape : (columns : ℕ) → All (IsWellFormed columns) rows → IfOk result (λ normal. IfSome normal (All (IsWellFormed columns)))
  answered_shape columns h = answered (λ normal. IfSome normal (All (IsWellFormed columns))) (normal_rows_well_formed columns rows h)

  pub answered_within : All (IsRowWithin g) rows → IfOk result (λ normal. IfSome normal (All (IsRowWithin g)))
  answered_within w = answered (λ normal. IfSome normal (All (IsRowWithin g))) (normal_rows_within g rows d w)

  pub answered_up_to : (b : ℕ) → All (IsRowUpTo b) rows → IfOk result (λ normal. IfSome normal (All (IsRowUpTo b)))
  answered_up_to b u = answered (λ normal. IfSome normal (All (IsRowUpTo b))) (normal_rows_up_to b rows d u)
