-- Rows made one by one.
use Rattle.std.proofs.Common.{◌≡◌, sym, ap, ◌∙◌, subst, ℕ, ◌+◌, ◌<◌, ℤ, List, [], ◌∷◌, ◌++◌, length, get_or, take}
use Rattle.std.specs.List.{All, AllZip}
use Rattle.std.proofs.lemmas.List.{take_more}
use Rattle.std.proofs.lemmas.List.Elements.{All-append, All-cons, All-nil}
use Rattle.isl_math.proofs.ListLaws.{AllZip-more}
use Rattle.isl_meter.specs.Gauge.{Gauge, IsWithin}
use Rattle.isl_piece.specs.declared.row.Row.{Row}
use Rattle.isl_piece.specs.Row.{IsRowWithin}

pub zip_step : (R : Row → Row → Type 0) (rows : List Row) (i : ℕ) (row : Row) (made : List Row) (one : Row) (pushed : List Row)
    → i < length rows → row ≡ get_or rows i row → AllZip R (take i rows) made → R row one → pushed ≡ made ++ one ∷ []
    → AllZip R (take (i + 1) rows) pushed
zip_step R rows i row made one pushed low at z r is =
    subst (AllZip R (take (i + 1) rows)) (sym is)
    (subst (λ (rs : List Row). AllZip R rs (made ++ one ∷ []))
    (sym (take_more rows i row low ∙ ap (λ (x : Row). take i rows ++ x ∷ []) (sym at)))
    (AllZip-more R (take i rows) made row one z r))

pub all_step : (P : Row → Type 0) (made : List Row) (one : Row) (pushed : List Row) → All P made → P one → pushed ≡ made ++ one ∷ []
    → All P pushed
all_step P made one pushed all p is = subst (All P) (sym is) (All-append P made (one ∷ []) all (All-cons P one [] p (All-nil P)))

-- ---- one coefficient more
pub pushed_within : (g : Gauge) (r : Row) (c : ℤ) (coefs : List ℤ) → IsRowWithin g r → IsWithin g c → coefs ≡ r.coefs ++ c ∷ []
    → IsRowWithin g (record { kind = r.kind; coefs = coefs; constant = r.constant; k = r.k })
pushed_within g r c coefs within small is = rw is (record {
  coefs = All-append (IsWithin g) r.coefs (c ∷ []) within.coefs (All-cons (IsWithin g) c [] small (All-nil (IsWithin g)));
  constant = within.constant;
  k = within.k;
})
