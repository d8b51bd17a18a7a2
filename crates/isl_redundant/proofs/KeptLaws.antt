-- Rows of which some are taken out.
use Rattle.std.proofs.Common.{◌≡◌, ◌≢◌, inl, inr, refl, ap, arith, ℕ, zero, suc, List, [], ◌∷◌, ◌<◌, length, get_or, take, drop, false}
use Rattle.std.specs.Prelude.{Option, Some, None, option_map, IfSome, map}
use Rattle.std.specs.List.{All, remove}
use Rattle.std.proofs.lemmas.List.Elements.{All-cons, All-head, All-tail, All-append, All-take, All-drop, All-weaker}
use Rattle.isl_piece.specs.declared.row.Row.{Row}
use Rattle.isl_piece.specs.Row.{HasModulus, HoldsRow, IsRowWithin, IsWellFormed}
use Rattle.isl_piece.specs.Normal.{Kept, IsNormal, kept_rows, merged, normal_row, same_bound}
use Rattle.isl_piece.proofs.MergeLaws.{AreApart, fold_apart}
use Rattle.isl_piece.proofs.NormalLaws.{IsNormal-from}
use Rattle.isl_redundant.specs.Redundant.{AreSome, IsImplied, IsReduced}

-- ---- in the same order
pub some_itself : (rows : List Row) → AreSome rows rows
some_itself [] = tt
some_itself (r ∷ rows) = inl (refl, some_itself rows)

some_more : (kept : List Row) (s : Row) (rows : List Row) → AreSome kept rows → AreSome kept (s ∷ rows)
some_more [] s rows a = tt
some_more (r ∷ kept) s rows a = inr a

some_tail : (r : Row) (kept rows : List Row) → AreSome (r ∷ kept) rows → AreSome kept rows
some_tail r kept [] a = absurd a
some_tail r kept (s ∷ rows) (inl x) = some_more kept s rows x.1
some_tail r kept (s ∷ rows) (inr a) = some_more kept s rows (some_tail r kept rows a)

some_removed : (kept rows : List Row) (i : ℕ) → AreSome kept rows → AreSome (remove kept i) rows
some_removed [] rows zero a = tt
some_removed [] rows (suc i) a = tt
some_removed (r ∷ kept) rows zero a = some_tail r kept rows a
some_removed (r ∷ kept) [] (suc i) a = absurd a
some_removed (r ∷ kept) (s ∷ rows) (suc i) (inl x) = inl (x.0, some_removed kept rows i x.1)
some_removed (r ∷ kept) (s ∷ rows) (suc i) (inr a) = inr (some_removed (r ∷ kept) rows (suc i) a)

-- ---- each of them
all_removed : (P : Row → Type 0) (rows : List Row) (i : ℕ) → All P rows → All P (remove rows i)
all_removed P rows i h = All-append P (take i rows) (drop (suc i) rows) (All-take P i rows h) (All-drop P (suc i) rows h)

all_put_back : (P : Row → Type 0) (rows : List Row) (i : ℕ) → i < length rows → All P (remove rows i) → ((d : Row) → P (get_or rows i d)) → All P rows
all_put_back P [] i l h p = absurd (omega arith)
all_put_back P (r ∷ rows) zero l h p = All-cons P r rows (p r) h
all_put_back P (r ∷ rows) (suc i) l h p =
    All-cons P r rows (All-head P r (remove rows i) h) (all_put_back P rows i (omega arith) (All-tail P r (remove rows i) h) p)

pub get_or_any : (rows : List Row) (i : ℕ) (d e : Row) → i < length rows → get_or rows i d ≡ get_or rows i e
get_or_any [] i d e l = absurd (omega arith)
get_or_any (r ∷ rows) zero d e l = refl
get_or_any (r ∷ rows) (suc i) d e l = get_or_any rows i d e (omega arith)

-- at another place
pub others_at : (P : Row → Type 0) (rows : List Row) (i j : ℕ) (d : Row) → All P (remove rows i) → j ≢ i → j < length rows → P (get_or rows j d)
others_at P [] i j d h n l = absurd (omega arith)
others_at P (r ∷ rows) zero zero d h n l = absurd (n refl)
others_at P (r ∷ rows) zero (suc j) d h n l = h j d (omega arith)
others_at P (r ∷ rows) (suc i) zero d h n l = All-head P r (remove rows i) h
others_at P (r ∷ rows) (suc i) (suc j) d h n l =
    others_at P rows i j d (All-tail P r (remove rows i) h) (λ e. n (ap suc e)) (omega arith)

-- behind them
pub removed_behind : (rows : List Row) → remove rows (length rows) ≡ rows
removed_behind [] = refl
removed_behind (r ∷ rows) = ap (λ (rs : List Row). r ∷ rs) (removed_behind rows)

-- ---- normal rows
apart_of : (rows : List Row) → IsNormal rows → AreApart rows
apart_of rows n = rw n.itself at (by (kept_rows (map normal_row rows)))
  where
    by : (o : Option (List Row)) → IfSome (option_map merged o) AreApart
    by None = tt
    by (Some kept) = fold_apart [] kept tt

apart_removed : (rows : List Row) (i : ℕ) → AreApart rows → AreApart (remove rows i)
apart_removed [] zero a = tt
apart_removed [] (suc i) a = tt
apart_removed (r ∷ rows) zero a = a.1
apart_removed (r ∷ rows) (suc i) a = (all_removed (λ b. same_bound r b ≡ false) rows i a.0, apart_removed rows i a.1)

normal_removed : (columns : ℕ) (rows : List Row) (i : ℕ) → All (IsWellFormed columns) rows → IsNormal rows → IsNormal (remove rows i)
normal_removed columns rows i w n =
    IsNormal-from (remove rows i) (all_removed (λ r. normal_row r ≡ Kept r) rows i n.settled)
    (all_removed (λ r. HasModulus r.kind r.k) rows i (All-weaker (IsWellFormed columns) (λ r. HasModulus r.kind r.k) (λ r f. f.modulus) rows w))
    (apart_removed rows i (apart_of rows n))

-- ---- all together
pub reduced_first : (columns : ℕ) (rows : List Row) → All (IsWellFormed columns) rows → IsReduced columns rows rows
reduced_first columns rows w = record {
  some = some_itself rows;
  points = λ point. ((λ h. h), (λ h. h));
  normal = λ n. n;
  shape = w;
  within = λ g h. h;
}

pub reduced_less : (columns : ℕ) (rows kept : List Row) (i : ℕ) → i < length kept → IsReduced columns rows kept → ((d : Row) → IsImplied (remove kept i) (get_or kept i d)) → IsReduced columns rows (remove kept i)
reduced_less columns rows kept i l a implied = record {
  some = some_removed kept rows i a.some;
  points = λ point. (
    (λ h. (a.points point).0 (all_put_back (λ r. HoldsRow r point) kept i l h (λ d. implied d point h))),
    (λ h. all_removed (λ r. HoldsRow r point) kept i ((a.points point).1 h)),
  );
  normal = λ n. normal_removed columns kept i a.shape (a.normal n);
  shape = all_removed (IsWellFormed columns) kept i a.shape;
  within = λ g h. all_removed (IsRowWithin g) kept i (a.within g h);
}

pub ruleset kept_steps = (reduced_first, reduced_less)
