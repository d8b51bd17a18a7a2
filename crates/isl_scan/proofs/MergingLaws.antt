-- Lists of points put together, one point after another.
use Rattle.std.proofs.Common.{◌≡◌, ◌∙◌, ◌⊎◌, inl, inr, ◌+◌, ◌*◌, ◌<◌, ◌≤◌, ℕ, ℤ, List, [], ◌∷◌, ◌++◌, length, get_or, drop}
use Rattle.std.proofs.Common.{ap, sym, subst, refl, arith, All}
use Rattle.std.specs.Ordering.{match_ordering}
use Rattle.std.specs.declared.cmp.Ordering.{Ordering}
use Rattle.std.specs.declared.cmp.Ordering.TheVariants.{Less, Equal, Greater}
use Rattle.std.proofs.lemmas.List.{append_assoc, append-nil, drop_all, drop_more, length-append, length_push}
use Rattle.isl_points.specs.Flat.{laid_out, points_in}
use Rattle.isl_points.proofs.FlatLaws.{laid_out-append, length-laid_out, points_in-laid_out}
use Rattle.isl_scan.specs.Merged.{merged_points, point_cmp, IsMerging, IsNextOf}
use Rattle.isl_scan.proofs.MergeLaws.{all_merged, length_merged, merged_nil}

abbrev P : Type 0
P = List ℤ

-- ---- what comes next, from two places on
split : (fs ss : List P) (i j : ℕ) (q : Ordering) → i < length fs → j < length ss
    → merged_points (drop i fs) (drop j ss) ≡ match_ordering q
    (get_or fs i [] ∷ merged_points (drop (i + 1) fs) (get_or ss j [] ∷ drop (j + 1) ss))
    (get_or fs i [] ∷ merged_points (drop (i + 1) fs) (drop (j + 1) ss))
    (get_or ss j [] ∷ merged_points (get_or fs i [] ∷ drop (i + 1) fs) (drop (j + 1) ss))
    → IsNextOf q fs i ss j
split fs ss i j Less low_i low_j e =
    (low_i, e ∙ ap (λ (l : List P). get_or fs i [] ∷ merged_points (drop (i + 1) fs) l) (sym (drop_more ss j [] low_j)))
split fs ss i j Equal low_i low_j e = ((low_i, low_j), e)
split fs ss i j Greater low_i low_j e =
    (low_j, e ∙ ap (λ (l : List P). get_or ss j [] ∷ merged_points l (drop (j + 1) ss)) (sym (drop_more fs i [] low_i)))

pub next_of : (fs ss : List P) (i j : ℕ) → i < length fs → j < length ss
    → IsNextOf (point_cmp (get_or fs i []) (get_or ss j [])) fs i ss j
next_of fs ss i j low_i low_j =
    split fs ss i j (point_cmp (get_or fs i []) (get_or ss j [])) low_i low_j (
    ap (λ (l : List P). merged_points l (drop j ss)) (drop_more fs i [] low_i)
    ∙ ap (λ (l : List P). merged_points (get_or fs i [] ∷ drop (i + 1) fs) l) (drop_more ss j [] low_j))

pub next_of_second : (fs ss : List P) (i j : ℕ) → length fs ≤ i → (i < length fs) ⊎ (j < length ss) → IsNextOf Greater fs i ss j
next_of_second fs ss i j over (inl low) = absurd (omega arith)
next_of_second fs ss i j over (inr low) =
    let none : drop i fs ≡ [] = drop_all i fs over in (
      low,
      ap (λ (l : List P). merged_points l (drop j ss)) none ∙ drop_more ss j [] low
          ∙ ap (λ (l : List P). get_or ss j [] ∷ merged_points l (drop (j + 1) ss)) (sym none),
    )

pub next_of_first : (fs ss : List P) (i j : ℕ) → i < length fs → length ss ≤ j → IsNextOf Less fs i ss j
next_of_first fs ss i j low over =
    let none : drop j ss ≡ [] = drop_all j ss over in (
      low,
      ap (λ (l : List P). merged_points (drop i fs) l) none ∙ merged_nil (drop i fs) ∙ drop_more fs i [] low
          ∙ ap (λ (l : List P). get_or fs i [] ∷ l) (sym (merged_nil (drop (i + 1) fs)))
          ∙ ap (λ (l : List P). get_or fs i [] ∷ merged_points (drop (i + 1) fs) l) (sym none),
    )

-- ---- one point more
pub merging_start : (fs ss : List P) (numbers : List ℤ) → numbers ≡ [] → IsMerging fs ss numbers 0 0 0
merging_start fs ss numbers none = record { points = []; laid = none; counted = refl; rest = refl }

pub merging_more : (fs ss : List P) (numbers new : List ℤ) (count i j k m : ℕ) (p : P) → IsMerging fs ss numbers count i j
    → merged_points (drop i fs) (drop j ss) ≡ p ∷ merged_points (drop k fs) (drop m ss) → new ≡ numbers ++ p
    → IsMerging fs ss new (count + 1) k m
merging_more fs ss numbers new count i j k m p before step more = record {
  points = before.points ++ p ∷ [];
  laid = more ∙ ap (λ (l : List ℤ). l ++ p) before.laid
      ∙ sym (laid_out-append before.points (p ∷ []) ∙ ap (λ (l : List ℤ). laid_out before.points ++ l) (append-nil p));
  counted = let n = length_push before.points p in let e = before.counted in omega (arith, n, e);
  rest = append_assoc before.points (p ∷ []) (merged_points (drop k fs) (drop m ss))
      ∙ ap (λ (l : List P). before.points ++ l) (sym step) ∙ before.rest;
}

-- there are fewer than there will be
pub merging_low : (fs ss : List P) (numbers : List ℤ) (count i j k m : ℕ) (p : P) → IsMerging fs ss numbers count i j
    → merged_points (drop i fs) (drop j ss) ≡ p ∷ merged_points (drop k fs) (drop m ss) → count < length fs + length ss
merging_low fs ss numbers count i j k m p before step =
    let whole = ap (λ (l : List P). length l) (ap (λ (l : List P). before.points ++ l) (sym step) ∙ before.rest) in
    let parts = length-append before.points (p ∷ merged_points (drop k fs) (drop m ss)) in
    let most = length_merged fs ss in
    let e = before.counted in
    omega (arith, whole, parts, most, e)

-- the end
pub merging_done : (fs ss : List P) (numbers : List ℤ) (count i j width : ℕ) → IsMerging fs ss numbers count i j
    → All (λ p. length p ≡ width) fs → All (λ p. length p ≡ width) ss → length fs ≤ i → length ss ≤ j
    → (points_in width count numbers ≡ merged_points fs ss) × (length numbers ≡ count * width)
merging_done fs ss numbers count i j width m wide_f wide_s over_i over_j =
    let left : merged_points (drop i fs) (drop j ss) ≡ [] =
    ap (λ (l : List P). merged_points l (drop j ss)) (drop_all i fs over_i) ∙ drop_all j ss over_j in
    let all : m.points ≡ merged_points fs ss = sym (append-nil m.points) ∙ ap (λ (l : List P). m.points ++ l) (sym left) ∙ m.rest in
    let wide : All (λ p. length p ≡ width) m.points =
    subst (All (λ p. length p ≡ width)) (sym all) (all_merged (λ p. length p ≡ width) fs ss wide_f wide_s) in (
      ap (λ (l : List ℤ). points_in width count l) m.laid ∙ ap (λ (n : ℕ). points_in width n (laid_out m.points)) m.counted
          ∙ points_in-laid_out width m.points wide ∙ all,
      ap (λ (l : List ℤ). length l) m.laid ∙ length-laid_out width m.points wide ∙ ap (λ (n : ℕ). n * width) (sym m.counted),
    )
