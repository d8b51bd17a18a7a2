-- Rows that are put behind others, one list after the other.
use Rattle.std.proofs.Common.{◌≡◌, ◌∙◌, refl, sym, ap, subst, ℕ, ◌+◌, ◌<◌, List}
use Rattle.std.proofs.Common.{[], ◌∷◌, ◌++◌, map, drop, length, get_or, arith, All, Any, Bool}
use Rattle.std.proofs.lemmas.List.{append_assoc, map-append, drop_more}
use Rattle.isl_math.proofs.ListLaws.{Any-left, Any-right, Any-first}
use Rattle.isl_meter.specs.Gauge.{Gauge}
use Rattle.isl_meter.specs.declared.Cut.{Cut}
use Rattle.isl_meter.specs.declared.Cut.TheVariants.{Overflow, Budget, NoMemory}
use Rattle.isl_piece.specs.declared.row.Row.{Row}
use Rattle.isl_piece.specs.Row.{IsRowWithin}
use Rattle.isl_tree.specs.declared.tree.Entry.{Entry}
use Rattle.isl_tree.specs.declared.tree.Formula.{Formula}
use Rattle.isl_plain.specs.Rows.{Written, written_chain, written_list, placed_entry, placed_entries}
use Rattle.isl_plain.specs.Passes.{FailsBy}

-- a failure of a part is one of the whole
pub fails_more : (P Q : Type 0) (old new : Gauge) (cut : Cut) → (P → Q) → FailsBy P old new cut → FailsBy Q old new cut
fails_more P Q old new Overflow more h = (more h.0, h.1)
fails_more P Q old new Budget more h = absurd h
fails_more P Q old new NoMemory more h = h

-- the same where the meter was as before until then
pub fails_later : (P : Gauge → Type 0) (Q : Type 0) (old middle new : Gauge) (cut : Cut) → middle ≡ old → (P old → Q)
    → FailsBy (P middle) middle new cut → FailsBy Q old new cut
fails_later P Q old middle new cut same more h =
    fails_more (P old) Q old new cut more (subst (λ (g : Gauge). FailsBy (P g) g new cut) same h)

-- one row alone
pub fails_one : (P : Written → Type 0) (w : Written) (old new : Gauge) (cut : Cut) → FailsBy (P w) old new cut
    → FailsBy (Any P (w ∷ [])) old new cut
fails_one P w old new cut h = fails_more (P w) (Any P (w ∷ [])) old new cut (λ p. Any-first P w [] p) h

-- what a loop keeps of the rows that are still to come
abbrev pub AreToCome : (Gauge → Written → Type 0) → (Written → Row) → (before now : Gauge) → (old new : List Row)
    → (rest all : List Written) → Type 0
AreToCome P f before now old new rest all =
    (new ++ map f rest ≡ old ++ map f all) × All (IsRowWithin before) new × (now ≡ before) × (Any (P before) rest → Any (P before) all)

module _ (P : Gauge → Written → Type 0) (f : Written → Row) (g m : Gauge) where
  pub next_rows : (m' : Gauge) (old rows new : List Row) (rest this later all : List Written)
      → AreToCome P f g m old rows rest all → (new ≡ rows ++ map f this) × All (IsRowWithin m) new × (m' ≡ m) → rest ≡ this ++ later
      → AreToCome P f g m' old new later all
  next_rows m' old rows new rest this later all so_far step split = (
    ap (λ (l : List Row). l ++ map f later) step.0 ∙ append_assoc rows (map f this) (map f later)
        ∙ ap (λ (l : List Row). rows ++ l) (sym (map-append f this later) ∙ ap (map f) (sym split)) ∙ so_far.0,
    subst (λ (k : Gauge). All (IsRowWithin k) new) so_far.2 step.1,
    step.2 ∙ so_far.2,
    λ a. so_far.3 (subst (Any (P g)) (sym split) (Any-right (P g) this later a)),
  )

  pub failed_rows : (m' : Gauge) (cut : Cut) (old rows : List Row) (rest this later all : List Written)
      → AreToCome P f g m old rows rest all → rest ≡ this ++ later → FailsBy (Any (P m) this) m m' cut → FailsBy (Any (P g) all) g m' cut
  failed_rows m' cut old rows rest this later all so_far split h =
      fails_later (λ k. Any (P k) this) (Any (P g) all) g m m' cut so_far.2
      (λ a. so_far.3 (subst (Any (P g)) (sym split) (Any-left (P g) this later a))) h

  -- two lists of rows
  pub both_rows : (m' : Gauge) (old rows new : List Row) (first second : List Written) → rows ≡ old ++ map f first → m ≡ g
      → (new ≡ rows ++ map f second) × All (IsRowWithin m) new × (m' ≡ m)
      → (new ≡ old ++ map f (first ++ second)) × All (IsRowWithin g) new × (m' ≡ g)
  both_rows m' old rows new first second so_far same step = (
    step.0 ∙ ap (λ (l : List Row). l ++ map f second) so_far ∙ append_assoc old (map f first) (map f second)
        ∙ ap (λ (l : List Row). old ++ l) (sym (map-append f first second)),
    subst (λ (k : Gauge). All (IsRowWithin k) new) same step.1,
    step.2 ∙ same,
  )

  pub both_fail : (m' : Gauge) (cut : Cut) (first second : List Written) → m ≡ g → FailsBy (Any (P m) second) m m' cut
      → FailsBy (Any (P g) (first ++ second)) g m' cut
  both_fail m' cut first second same h =
      fails_later (λ k. Any (P k) second) (Any (P g) (first ++ second)) g m m' cut same (λ a. Any-right (P g) first second a) h

-- ---- the rows of the next of a list
pub next_chain : (n : ℕ) (fs : List Formula) (i : ℕ) (f : Formula) → f ≡ get_or fs i f → i < length fs
    → written_list n (drop i fs) ≡ written_chain n f ++ written_list n (drop (i + 1) fs)
next_chain n fs i f is inside = ap (written_list n) (drop_more fs i f inside ∙ ap (λ (x : Formula). x ∷ drop (i + 1) fs) (sym is))

pub next_entry : {A : Type 0} (brings : Entry → ℕ → Bool) (now : A → Entry) (es : List A) (i first : ℕ) (d : A) → i < length es
    → placed_entries brings (map now (drop i es)) (first + i) ≡ placed_entry brings (now (get_or es i d)) (first + i) ++ placed_entries
    brings (map now (drop (i + 1) es)) (first + (i + 1))
next_entry {A = A} brings now es i first d inside =
    let next : first + i + 1 ≡ first + (i + 1) = omega arith in
    ap (λ (l : List A). placed_entries brings (map now l) (first + i)) (drop_more es i d inside)
    ∙ ap (λ (k : ℕ). placed_entry brings (now (get_or es i d)) (first + i) ++ placed_entries brings (map now (drop (i + 1) es)) k) next

pub entries_start : (params : ℕ) → params + 0 ≡ params
entries_start params = omega arith

pub ruleset joins = (append_assoc, map-append, fails_later, Any-left, Any-right)

pub ruleset entries_next = (entries_start)
