-- What is kept of rows holds at a point where they do so if they hold at another.
use Rattle.std.proofs.Common.{◌≡◌, sym, ap, ◌∙◌, ℕ, ◌+◌, ◌<◌, ℤ, neg_ℤ, negsuc, List, [], ◌∷◌, ◌++◌, All, get_or, length, take}
use Rattle.std.proofs.lemmas.List.{take_more}
use Rattle.std.proofs.lemmas.List.Elements.{All-nil, All-cons, All-head, All-tail, All-push}
use Rattle.isl_math.specs.Dot.{scaled}
use Rattle.isl_piece.specs.declared.row.RowKind.{RowKind}
use Rattle.isl_piece.specs.declared.row.RowKind.TheVariants.{Zero, AtLeast, Divides, NotDivides}
use Rattle.isl_piece.specs.declared.row.Row.{Row}
use Rattle.isl_piece.specs.Normal.{bound}
use Rattle.isl_piece.specs.Row.{HoldsRow}
use Rattle.isl_coalesce.specs.Beyond.{Carries, IsCarried}
use Rattle.isl_coalesce.specs.Parts.{halves, halves_by, AreParts}
use Rattle.isl_coalesce.proofs.PartLaws.{parts_keep, parts_true}

module _ (from to : List ℤ) where
  abbrev C : Row → Type 0
  C = λ (r : Row). Carries from to r

  abbrev W : Row → Type 0
  W = λ (r : Row). IsCarried from to r

  -- a half has no halves
  halved : (r : Row) → IsCarried from to r → All (λ h. IsCarried from to h) (halves r)
  halved r carried = by r.kind carried.1
    where
      by : (kind : RowKind) → All (λ h. Carries from to h) (halves_by kind r) → All (λ h. IsCarried from to h) (halves_by kind r)
      by Zero all =
          let upper = bound r.coefs r.constant in
          let lower = bound (scaled (negsuc 0) r.coefs) (neg_ℤ r.constant) in
          All-cons W upper (lower ∷ []) (All-head C upper (lower ∷ []) all, All-nil C)
          (All-cons W lower [] (All-head C lower [] (All-tail C upper (lower ∷ []) all), All-nil C) (All-nil W))
      by AtLeast all = All-nil W
      by Divides all = All-nil W
      by NotDivides all = All-nil W

  pub carried_hold : (True : Row → Type 0) → ((r : Row) → True r → HoldsRow r from) → (rows parts : List Row)
      → All (λ r. IsCarried from to r) rows → AreParts True rows parts → All (λ r. HoldsRow r to) parts
  carried_hold True at rows parts all are =
      let kept = parts_keep True W halved rows parts all are in
      let true = parts_true True rows parts are in
      λ k d l. (kept k d l).0 (at (get_or parts k d) (true k d l))

-- ---- one row after another
pub rows_more : (P : Row → Type 0) (rows : List Row) (i : ℕ) (r : Row) → i < length rows → r ≡ get_or rows i r → All P (take i rows) → P r
    → All P (take (i + 1) rows)
rows_more P rows i r low at so_far one =
    rw (take_more rows i r low ∙ ap (λ (x : Row). take i rows ++ x ∷ []) (sym at)) (All-push P (take i rows) r so_far one)
