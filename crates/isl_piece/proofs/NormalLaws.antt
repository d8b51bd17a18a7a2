-- The laws of normal rows.
use Rattle.std.proofs.Common.{◌≡◌, ◌≢◌, ◌↔◌, inl, inr, refl, sym, ap, ◌∙◌, arith, ℕ, zero, suc, ℤ, List, [], ◌∷◌, get_or, map, fold, length, false, Option, Some, None, option_map, MatchOption, IfSome}
use Rattle.std.specs.List.{All, AllPairs}
use Rattle.std.proofs.lemmas.List.Elements.{All-nil, All-cons, All-head, All-tail, All-get_or}
use Rattle.isl_piece.specs.declared.row.RowKind.TheVariants.{AtLeast}
use Rattle.isl_piece.specs.declared.row.Row.{Row}
use Rattle.isl_piece.specs.Normal.{Verdict, Always, Never, Kept}
use Rattle.isl_piece.specs.Row.{HoldsRow, HasModulus, IsWellFormed, IsRowUpTo}
use Rattle.isl_piece.specs.System.{HoldRows}
use Rattle.isl_piece.specs.Normal.{normal_row, kept_rows, same_bound, with_row, merged, normal_rows, IsNormal}
use Rattle.isl_piece.proofs.PointLaws.{HoldsVerdict, normal_row_holds}
use Rattle.isl_piece.proofs.ShapeLaws.{IfKept, IfKept-weaker, normal_row_well_formed, normal_row_up_to}
use Rattle.isl_piece.proofs.SettledLaws.{normal_row_settled}
use Rattle.isl_piece.proofs.WitnessLaws.{IsContingent-settled}
use Rattle.isl_piece.proofs.MergeLaws.{same_bound-from, fold_all, fold_holds, fold_apart, merged_itself, AreApart}

-- ---- the rows that verdicts keep
pub kept_rows_all : (P : Row → Type 0) (verdicts : List Verdict) → All (IfKept P) verdicts → IfSome (kept_rows verdicts) (All P)
kept_rows_all P [] h = All-nil P
kept_rows_all P (Always ∷ verdicts) h = kept_rows_all P verdicts (All-tail (IfKept P) Always verdicts h)
kept_rows_all P (Never ∷ verdicts) h = tt
kept_rows_all P (Kept r ∷ verdicts) h = by (kept_rows verdicts) (kept_rows_all P verdicts (All-tail (IfKept P) (Kept r) verdicts h))
  where
    by : (o : Option (List Row)) → IfSome o (All P) → IfSome (option_map (λ rows. r ∷ rows) o) (All P)
    by None g = tt
    by (Some rows) g = All-cons P r rows (All-head (IfKept P) (Kept r) verdicts h) g

-- each verdict holds at a point
HoldVerdicts : List Verdict → List ℤ → Type 0
HoldVerdicts verdicts xs = All (λ v. HoldsVerdict v xs) verdicts

-- the rows, if there are some, hold where P does; if there are none, P does not
abbrev pub HoldWhere : Option (List Row) → List ℤ → Type 0 → Type 0
HoldWhere o xs P = MatchOption o (¬ P) (λ rows. HoldRows rows xs ↔ P)

HoldWhere-like : (o : Option (List Row)) (xs : List ℤ) (P Q : Type 0) → P ↔ Q → HoldWhere o xs P → HoldWhere o xs Q
HoldWhere-like None xs P Q f h = λ q. h (f.1 q)
HoldWhere-like (Some rows) xs P Q f h = ((λ r. f.0 (h.0 r)), (λ q. h.1 (f.1 q)))

pub kept_rows_hold : (verdicts : List Verdict) (xs : List ℤ) → HoldWhere (kept_rows verdicts) xs (All (λ v. HoldsVerdict v xs) verdicts)
kept_rows_hold [] xs = ((λ h. All-nil (λ v. HoldsVerdict v xs)), (λ h. All-nil (λ r. HoldsRow r xs)))
kept_rows_hold (Always ∷ verdicts) xs =
    HoldWhere-like (kept_rows verdicts) xs (All (λ v. HoldsVerdict v xs) verdicts) (All (λ v. HoldsVerdict v xs) (Always ∷ verdicts))
    ((λ h. All-cons (λ v. HoldsVerdict v xs) Always verdicts tt h), (λ h. All-tail (λ v. HoldsVerdict v xs) Always verdicts h))
    (kept_rows_hold verdicts xs)
kept_rows_hold (Never ∷ verdicts) xs = λ h. All-head (λ v. HoldsVerdict v xs) Never verdicts h
kept_rows_hold (Kept r ∷ verdicts) xs = by (kept_rows verdicts) (kept_rows_hold verdicts xs)
  where
    by : (o : Option (List Row)) → HoldWhere o xs (All (λ v. HoldsVerdict v xs) verdicts) → HoldWhere (option_map (λ rows. r ∷ rows) o) xs (All (λ v. HoldsVerdict v xs) (Kept r ∷ verdicts))
    by None g = λ h. g (All-tail (λ v. HoldsVerdict v xs) (Kept r) verdicts h)
    by (Some rows) g = (
      (λ h. All-cons (λ v. HoldsVerdict v xs) (Kept r) verdicts (All-head (λ s. HoldsRow s xs) r rows h) (g.0 (All-tail (λ s. HoldsRow s xs) r rows h))),
      (λ h. All-cons (λ s. HoldsRow s xs) r rows (All-head (λ v. HoldsVerdict v xs) (Kept r) verdicts h) (g.1 (All-tail (λ v. HoldsVerdict v xs) (Kept r) verdicts h))),
    )

kept_rows_itself : (rows : List Row) → All (λ r. normal_row r ≡ Kept r) rows → kept_rows (map normal_row rows) ≡ Some rows
kept_rows_itself [] h = refl
kept_rows_itself (r ∷ rows) h =
    ap (λ v. kept_rows (v ∷ map normal_row rows)) (All-head (λ s. normal_row s ≡ Kept s) r rows h)
    ∙ ap (option_map (λ s. r ∷ s)) (kept_rows_itself rows (All-tail (λ s. normal_row s ≡ Kept s) r rows h))

-- ---- the normal rows
verdicts_all : (P : Row → Type 0) (Q : Verdict → Type 0) → ((r : Row) → P r → Q (normal_row r)) → (rows : List Row) → All P rows → All Q (map normal_row rows)
verdicts_all P Q f [] h = All-nil Q
verdicts_all P Q f (r ∷ rows) h = All-cons Q (normal_row r) (map normal_row rows) (f r (All-head P r rows h)) (verdicts_all P Q f rows (All-tail P r rows h))

merged_some : (P : List Row → Type 0) (Q : List Row → Type 0) → ((rows : List Row) → P rows → Q (merged rows)) → (o : Option (List Row)) → IfSome o P → IfSome (option_map merged o) Q
merged_some P Q f None h = tt
merged_some P Q f (Some rows) h = f rows h

-- what each normal form of a row has, each normal row has
pub normal_rows_all : (P Q : Row → Type 0) → ((r : Row) → P r → IfKept Q (normal_row r)) → (rows : List Row) → All P rows → IfSome (normal_rows rows) (All Q)
normal_rows_all P Q f rows h = merged_some (All Q) (All Q) (λ kept g. fold_all Q [] kept (All-nil Q) g) (kept_rows (map normal_row rows)) (kept_rows_all Q (map normal_row rows) (verdicts_all P (IfKept Q) f rows h))

-- the normal rows hold at the same points
pub normal_rows_hold : (rows : List Row) (xs : List ℤ) → All (λ r. HasModulus r.kind r.k) rows → HoldWhere (normal_rows rows) xs (HoldRows rows xs)
normal_rows_hold rows xs h = by (kept_rows (map normal_row rows)) (HoldWhere-like (kept_rows (map normal_row rows)) xs (All (λ v. HoldsVerdict v xs) (map normal_row rows)) (HoldRows rows xs) (same rows h) (kept_rows_hold (map normal_row rows) xs))
  where
    same : (rows : List Row) → All (λ r. HasModulus r.kind r.k) rows → All (λ v. HoldsVerdict v xs) (map normal_row rows) ↔ HoldRows rows xs
    same [] h = ((λ g. All-nil (λ r. HoldsRow r xs)), (λ g. All-nil (λ v. HoldsVerdict v xs)))
    same (r ∷ rows) h =
        let one = normal_row_holds r xs (All-head (λ s. HasModulus s.kind s.k) r rows h) in
        let rest = same rows (All-tail (λ s. HasModulus s.kind s.k) r rows h) in (
          (λ g. All-cons (λ s. HoldsRow s xs) r rows (one.0 (All-head (λ v. HoldsVerdict v xs) (normal_row r) (map normal_row rows) g)) (rest.0 (All-tail (λ v. HoldsVerdict v xs) (normal_row r) (map normal_row rows) g))),
          (λ g. All-cons (λ v. HoldsVerdict v xs) (normal_row r) (map normal_row rows) (one.1 (All-head (λ s. HoldsRow s xs) r rows g)) (rest.1 (All-tail (λ s. HoldsRow s xs) r rows g))),
        )

    by : (o : Option (List Row)) → HoldWhere o xs (HoldRows rows xs) → HoldWhere (option_map merged o) xs (HoldRows rows xs)
    by None g = g
    by (Some kept) g =
        let f = fold_holds [] kept xs in (
          (λ p. g.0 (f.0 p).1),
          (λ p. f.1 (All-nil (λ r. HoldsRow r xs), g.1 p)),
        )

-- ---- they are normal
at_pairs : (R : Row → Row → Type 0) → ((a b : Row) → same_bound a b ≡ false → R a b) → (rows : List Row) → AreApart rows → AllPairs R rows
at_pairs R f [] h i j d l m = absurd (omega arith)
at_pairs R f (a ∷ rows) h i zero d l m = absurd (omega arith)
at_pairs R f (a ∷ rows) h zero (suc j) d l m = f a (get_or rows j d) (All-get_or (λ b. same_bound a b ≡ false) rows j d (omega arith) h.0)
at_pairs R f (a ∷ rows) h (suc i) (suc j) d l m = at_pairs R f rows h.1 i j d (omega arith) (omega arith)

differ : (a b : Row) → same_bound a b ≡ false → a ≢ b
differ a b f e =
    let t = same_bound-from a b (record { kind = ap (λ (r : Row). r.kind) e; coefs = ap (λ (r : Row). r.coefs) e; k = ap (λ (r : Row). r.k) e; constant = inr (ap (λ (r : Row). r.constant) e) }) in
    cc

-- pairs of rows of which each has a fact beside
at_pairs_with : (P : Row → Type 0) (R : Row → Row → Type 0) → ((a b : Row) → P a → P b → same_bound a b ≡ false → R a b) → (rows : List Row) → All P rows → AreApart rows → AllPairs R rows
at_pairs_with P R f [] p h i j d l m = absurd (omega arith)
at_pairs_with P R f (a ∷ rows) p h i zero d l m = absurd (omega arith)
at_pairs_with P R f (a ∷ rows) p h zero (suc j) d l m = f a (get_or rows j d) (All-head P a rows p) (All-get_or P rows j d (omega arith) (All-tail P a rows p)) (All-get_or (λ b. same_bound a b ≡ false) rows j d (omega arith) h.0)
at_pairs_with P R f (a ∷ rows) p h (suc i) (suc j) d l m = at_pairs_with P R f rows (All-tail P a rows p) h.1 i j d (omega arith) (omega arith)

undominated : (a b : Row) → HasModulus a.kind a.k → HasModulus b.kind b.k → same_bound a b ≡ false → a.kind ≡ AtLeast → b.kind ≡ AtLeast → a.coefs ≢ b.coefs
undominated a b p q f s t e =
    let m = rw s at p in
    let n = rw t at q in
    let x = same_bound-from a b (record { kind = s ∙ sym t; coefs = e; k = m ∙ sym n; constant = inl s }) in
    cc

pub IsNormal-from : (rows : List Row) → All (λ r. normal_row r ≡ Kept r) rows → All (λ r. HasModulus r.kind r.k) rows → AreApart rows → IsNormal rows
IsNormal-from rows s d h = record {
  settled = s;
  contingent = λ k e l. IsContingent-settled (get_or rows k e) (d k e l) (s k e l);
  distinct = at_pairs (λ a b. a ≢ b) differ rows h;
  undominated = at_pairs_with (λ r. HasModulus r.kind r.k) (λ a b. a.kind ≡ AtLeast → b.kind ≡ AtLeast → a.coefs ≢ b.coefs) undominated rows d h;
  itself = ap (option_map merged) (kept_rows_itself rows s) ∙ ap Some (merged_itself rows h);
}

normal_rows_apart : (rows : List Row) → IfSome (normal_rows rows) AreApart
normal_rows_apart rows = by (kept_rows (map normal_row rows))
  where
    by : (o : Option (List Row)) → IfSome (option_map merged o) AreApart
    by None = tt
    by (Some kept) = fold_apart [] kept tt

IfSome-three : (P Q R S : List Row → Type 0) → ((rows : List Row) → P rows → Q rows → R rows → S rows) → (o : Option (List Row)) → IfSome o P → IfSome o Q → IfSome o R → IfSome o S
IfSome-three P Q R S f None p q r = tt
IfSome-three P Q R S f (Some rows) p q r = f rows p q r

pub normal_rows_well_formed : (n : ℕ) (rows : List Row) → All (IsWellFormed n) rows → IfSome (normal_rows rows) (All (IsWellFormed n))
normal_rows_well_formed n rows h = normal_rows_all (IsWellFormed n) (IsWellFormed n) (λ r. normal_row_well_formed n r) rows h

-- each row has a modulus of its kind
abbrev pub HaveModuli : List Row → Type 0
HaveModuli rows = All (λ r. HasModulus r.kind r.k) rows

normal_rows_moduli : (rows : List Row) → HaveModuli rows → IfSome (normal_rows rows) HaveModuli
normal_rows_moduli rows h = normal_rows_all (λ r. HasModulus r.kind r.k) (λ r. HasModulus r.kind r.k) modulus rows h
  where
    modulus : (r : Row) → HasModulus r.kind r.k → IfKept (λ s. HasModulus s.kind s.k) (normal_row r)
    modulus r d = IfKept-weaker (IsWellFormed (length r.coefs)) (λ s. HasModulus s.kind s.k) (normal_row r) (λ s w. w.modulus)
        (normal_row_well_formed (length r.coefs) r (record { width = refl; modulus = d }))

pub normal_rows_normal : (rows : List Row) → HaveModuli rows → IfSome (normal_rows rows) IsNormal
normal_rows_normal rows h =
    IfSome-three (All (λ r. normal_row r ≡ Kept r)) HaveModuli AreApart IsNormal IsNormal-from (normal_rows rows)
    (normal_rows_all (λ r. HasModulus r.kind r.k) (λ r. normal_row r ≡ Kept r) normal_row_settled rows h)
    (normal_rows_moduli rows h)
    (normal_rows_apart rows)

-- ---- no greater numbers
-- a row with a modulus of its kind and numbers up to b
pub record IsFitRow (b : ℕ) (r : Row) : Type 0 where
  pub modulus : HasModulus r.kind r.k
  pub up_to : IsRowUpTo b r

pub normal_rows_up_to : (b : ℕ) (rows : List Row) → All (λ r. HasModulus r.kind r.k) rows → All (IsRowUpTo b) rows → IfSome (normal_rows rows) (All (IsRowUpTo b))
normal_rows_up_to b rows d h = normal_rows_all (IsFitRow b) (IsRowUpTo b) (λ r f. normal_row_up_to b r f.modulus f.up_to) rows (both rows d h)
  where
    both : (rows : List Row) → All (λ r. HasModulus r.kind r.k) rows → All (IsRowUpTo b) rows → All (IsFitRow b) rows
    both rows d h k e l = record { modulus = d k e l; up_to = h k e l }

-- ---- row by row
-- the normal rows, where some are kept already and the rest is still to come
pub normal_from : List Row → List Row → Option (List Row)
normal_from kept rest = option_map (λ rows. fold with_row kept rows) (kept_rows (map normal_row rest))

pub normal_from_none : (rows : List Row) → normal_from [] rows ≡ normal_rows rows
unfolding normal_from
normal_from_none rows = refl

pub normal_from_all : (kept rest : List Row) → rest ≡ [] → normal_from kept rest ≡ Some kept
unfolding normal_from
normal_from_all kept rest e = rw e refl

pub normal_from_always : (kept : List Row) (r : Row) (rest : List Row) → normal_row r ≡ Always → normal_from kept (r ∷ rest) ≡ normal_from kept rest
unfolding normal_from
normal_from_always kept r rest e = ap (λ v. option_map (λ rows. fold with_row kept rows) (kept_rows (v ∷ map normal_row rest))) e

pub normal_from_never : (kept : List Row) (r : Row) (rest : List Row) → normal_row r ≡ Never → normal_from kept (r ∷ rest) ≡ None
unfolding normal_from
normal_from_never kept r rest e = ap (λ v. option_map (λ rows. fold with_row kept rows) (kept_rows (v ∷ map normal_row rest))) e

pub normal_from_kept : (kept : List Row) (r : Row) (rest : List Row) (s : Row) → normal_row r ≡ Kept s → normal_from kept (r ∷ rest) ≡ normal_from (with_row kept s) rest
unfolding normal_from
normal_from_kept kept r rest s e = ap (λ v. option_map (λ rows. fold with_row kept rows) (kept_rows (v ∷ map normal_row rest))) e ∙ by (kept_rows (map normal_row rest))
  where
    by : (o : Option (List Row)) → option_map (λ rows. fold with_row kept rows) (option_map (λ rows. s ∷ rows) o) ≡ option_map (λ rows. fold with_row (with_row kept s) rows) o
    by None = refl
    by (Some rows) = refl
