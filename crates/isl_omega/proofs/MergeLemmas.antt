-- A list of congruences made one.
use Rattle.std.proofs.Common.{◌≡◌, ◌↔◌, ◌∙◌, refl, sym, ap, ℕ, suc, ◌<◌, arith, ℤ, pos, ◌*ℤ◌, ◌≤ℤ◌, ◌<ℤ◌, List, [], ◌∷◌, ◌++◌, length, get_or, take}
use Rattle.std.specs.List.{All}
use Rattle.std.proofs.lemmas.List.Elements.{All-push, All-nil, All-cons, All-head}
use Rattle.isl_math.proofs.Ring.{expand, linear}
use Rattle.isl_math.proofs.OrderLaws.{*ℤ-≤ℤ, positive-*ℤ}
use Rattle.isl_meter.specs.Gauge.{Gauge}
use Rattle.isl_piece.specs.declared.row.RowKind.TheVariants.{Divides}
use Rattle.isl_piece.specs.declared.row.Row.{Row}
use Rattle.isl_piece.specs.Row.{HoldsRow, value_at, IsWellFormed, IsRowWithin}
use Rattle.isl_omega.specs.Column.{IsFree}
use Rattle.isl_omega.specs.Congruence.{reduced_row, AreJoined, AreMergedTo, product_of_divisors}
use Rattle.isl_math.proofs.ListLaws.{All-last}
use Rattle.isl_omega.proofs.ReduceLemmas.{reduced_is, holds_congruence, value_reduced}
use Rattle.isl_piece.proofs.RowLemmas.{HasModulus-positive}
use Rattle.isl_math.proofs.DivideLaws.{IsCongruent_sym, Divides-congruent}

pub product-append : (rows : List Row) (r : Row) → product_of_divisors (rows ++ r ∷ []) ≡ product_of_divisors rows *ℤ r.k
product-append [] r = omega (arith, linear)
product-append (q ∷ rows) r = let e = product-append rows r in ap (λ z. q.k *ℤ z) e ∙ by q.k (product_of_divisors rows) r.k
  where
    by : (a b c : ℤ) → a *ℤ (b *ℤ c) ≡ (a *ℤ b) *ℤ c
    by a b c = simp expand (omega (arith, linear))

pub product_positive : (columns : ℕ) (rows : List Row) → All (IsWellFormed columns) rows → pos 0 <ℤ product_of_divisors rows
product_positive columns [] h = omega (arith, linear)
product_positive columns (r ∷ rows) h = positive-*ℤ r.k (product_of_divisors rows) (HasModulus-positive r.kind r.k (All-head (IsWellFormed columns) r rows h).modulus) (product_positive columns rows (λ k d i. h (suc k) d (omega arith)))

-- a congruence and its reduced form hold at the same points
pub holds_reduced : (r : Row) (xs : List ℤ) → r.kind ≡ Divides → pos 0 <ℤ r.k → HoldsRow (reduced_row r) xs ↔ HoldsRow r xs
holds_reduced r xs is p =
    let congruent = value_reduced r xs p in
    let of_r = holds_congruence r r.k xs is refl in
    let of_small = holds_congruence (reduced_row r) r.k xs is refl in (
      (λ h. of_r.1 (Divides-congruent r.k (value_at (reduced_row r) xs) (value_at r xs) (IsCongruent_sym r.k (value_at r xs) (value_at (reduced_row r) xs) congruent) (of_small.0 h))),
      (λ h. of_small.1 (Divides-congruent r.k (value_at r xs) (value_at (reduced_row r) xs) congruent (of_r.0 h))),
    )

-- one congruence alone
pub merged_first : (g : Gauge) (columns col : ℕ) (r one : Row) → r.kind ≡ Divides → IsWellFormed columns r → IsRowWithin g one → one ≡ reduced_row r → AreMergedTo g columns col (r ∷ []) one []
merged_first g columns col r one is w i e =
    let p = HasModulus-positive r.kind r.k w.modulus in
    rw e (record {
      is_reduced = reduced_is columns r is p w.width;
      positive = p;
      within = rw e at i;
      small = omega (arith, linear);
      well_formed = All-nil (IsWellFormed columns);
      others_within = All-nil (IsRowWithin g);
      free = All-nil (IsFree col);
      same = λ xs. (
        (λ h. ((holds_reduced r xs is p).1 (All-head (λ q. HoldsRow q xs) r [] h), All-nil (λ q. HoldsRow q xs))),
        (λ h. All-cons (λ q. HoldsRow q xs) r [] ((holds_reduced r xs is p).0 h.0) (All-nil (λ q. HoldsRow q xs))),
      );
    })

-- one congruence more
pub merged_more : (g : Gauge) (columns col : ℕ) (rows : List Row) (r one other next : Row) (others : List Row) → AreMergedTo g columns col rows one others → IsWellFormed columns r → AreJoined columns col one r next other → IsRowWithin g next → IsRowWithin g other
    → AreMergedTo g columns col (rows ++ r ∷ []) next (others ++ other ∷ [])
merged_more g columns col rows r one other next others m w j a b = record {
  is_reduced = j.is_reduced;
  positive = j.positive;
  within = a;
  small = rw (product-append rows r) (by one.k r.k (product_of_divisors rows) next.k (HasModulus-positive r.kind r.k w.modulus) m.small j.small);
  well_formed = All-push (IsWellFormed columns) others other m.well_formed j.well_formed;
  others_within = All-push (IsRowWithin g) others other m.others_within b;
  free = All-push (IsFree col) others other m.free j.free;
  same = λ xs. (
    (λ h. let parts = All-last (λ q. HoldsRow q xs) rows r h in
        let split = (m.same xs).0 parts.0 in
        let pair = (j.same xs).0 (split.0, parts.1) in
        (pair.0, All-push (λ q. HoldsRow q xs) others other split.1 pair.1)),
    (λ h. let parts = All-last (λ q. HoldsRow q xs) others other h.1 in
        let pair = (j.same xs).1 (h.0, parts.1) in
        All-push (λ q. HoldsRow q xs) rows r ((m.same xs).1 (pair.0, parts.0)) pair.1),
  );
}
  where
    by : (a k p n : ℤ) → pos 0 <ℤ k → a ≤ℤ p → n ≤ℤ (a *ℤ k) → n ≤ℤ (p *ℤ k)
    by a k p n h l m = let t = simp expand at (*ℤ-≤ℤ k a p (omega (arith, linear)) l) in let m' = simp expand at m in simp expand (omega (arith, linear))

pub take_one : (rows : List Row) (r : Row) → 0 < length rows → r ≡ get_or rows 0 r → take 1 rows ≡ r ∷ []
take_one [] r h e = absurd (omega arith)
take_one (q ∷ rows) r h e = ap (λ (s : Row). s ∷ []) (sym e)
