-- One pass over rows, and then the other.
use Rattle.std.proofs.Common.{◌≡◌, inl, inr, sym, ap, ◌∙◌, subst, ℕ, ◌+◌, ◌<◌, ◌≤◌, ℤ, List, [], ◌∷◌, ◌++◌, length, get_or, take, drop}
use Rattle.std.specs.List.{All}
use Rattle.std.proofs.lemmas.List.{append-nil, drop_all, drop_more, take_all, take_more}
use Rattle.std.proofs.lemmas.List.Elements.{All-append, All-drop, All-head, All-nil, All-take, All-weaker}
use Rattle.isl_meter.specs.Gauge.{Gauge, IsCharged}
use Rattle.isl_piece.proofs.RowMagnitudes.{row_within_kept}
use Rattle.isl_piece.specs.declared.row.Row.{Row}
use Rattle.isl_piece.specs.declared.system.System.{System}
use Rattle.isl_piece.specs.Row.{HoldsRow}
use Rattle.isl_piece.specs.System.{HoldRows}
use Rattle.isl_gist.specs.declared.pass.Pass.{Pass}
use Rattle.isl_gist.specs.declared.pass.Pass.TheVariants.{Inequalities, Equations}
use Rattle.isl_gist.specs.Halves.{lower_half, upper_half, none, AreSomeOf, IsWhatStands}
use Rattle.isl_gist.specs.Thinned.{AreNeeded, AreThinned, IsDone, IsNeeded, IsPart, IsPlain, IsRowOver, WillBeDone}
use Rattle.isl_gist.proofs.HalfLaws.{half_over, some_all, some_append, some_one, some_trans, stands_hold}
use Rattle.isl_gist.proofs.IdleLaws.{plain_over}
use Rattle.isl_gist.proofs.NeededLaws.{are_fewer, are_more, hold_append, hold_back, hold_cons, hold_front, hold_head}
use Rattle.isl_gist.proofs.NeededLaws.{hold_one, hold_tail, needed_fewer, none_asked}

-- so many rows are looked at: those that are needed, beside the rows that follow, which are needed where they were before
pub record IsSwept (pass : Pass) (P : List ℤ → Type 0) (rows kept : List Row) (i : ℕ) : Type 0 where
  pub some : AreSomeOf (take i rows) kept
  pub done : AreNeeded (WillBeDone pass) P (drop i rows) kept
  pub todo : AreNeeded (IsDone pass) P kept (drop i rows)
  pub same : (point : List ℤ) → P point → HoldRows kept point → HoldRows (drop i rows) point → HoldRows (take i rows) point

pub swept_first : (pass : Pass) (P : List ℤ → Type 0) (rows : List Row) → AreNeeded (IsDone pass) P [] rows → IsSwept pass P rows [] 0
swept_first pass P rows needed = record {
  some = none;
  done = tt;
  todo = needed;
  same = λ point p h k. All-nil (λ r. HoldsRow r point);
}

-- what is left of one more row, behind those that are kept
done_more : (W : Row → Type 0) (P : List ℤ → Type 0) (front kept : List Row) (r : Row) (left : List Row) → IsWhatStands r left
    → AreNeeded W P (r ∷ front) kept → All (λ s. W s → IsNeeded P (kept ++ front) s) left → AreNeeded W P front (kept ++ left)
done_more W P front kept r left stands needed all = by left stands all
  where
    gone : AreNeeded W P front kept
    gone = are_fewer P W (r ∷ front) front kept (λ xs h. hold_tail xs r front h) needed

    one : (s : Row) (left : List Row) → IsWhatStands r left → left ≡ s ∷ [] → All (λ s. W s → IsNeeded P (kept ++ front) s) left
        → AreNeeded W P front (kept ++ left)
    one s left stands is all = rw is (are_more P W front kept s
        (are_fewer P W (r ∷ front) (s ∷ front) kept
        (λ xs h. hold_cons xs s front
        (hold_head xs s [] (subst (λ l. HoldRows l xs) is (stands_hold xs r left stands (hold_head xs r front h))))
        (hold_tail xs r front h)) needed)
        (λ w. needed_fewer P (kept ++ front) (front ++ kept) s
        (λ xs h. hold_append xs front kept (hold_back xs kept front h) (hold_front xs kept front h))
        (All-head (λ s. W s → IsNeeded P (kept ++ front) s) s [] (subst (All (λ s. W s → IsNeeded P (kept ++ front) s)) is all) w)))

    by : (left : List Row) → IsWhatStands r left → All (λ s. W s → IsNeeded P (kept ++ front) s) left → AreNeeded W P front (kept ++ left)
    by left (inl whole) all = one r left (inl whole) whole all
    by left (inr (inl none_left)) all = rw (none_left, append-nil kept) gone
    by left (inr (inr (zero, inl upper))) all = one (upper_half r) left (inr (inr (zero, inl upper))) upper all
    by left (inr (inr (zero, inr lower))) all = one (lower_half r) left (inr (inr (zero, inr lower))) lower all

module _ (pass : Pass) (P : List ℤ → Type 0) (rows kept : List Row) (i : ℕ) (so_far : IsSwept pass P rows kept i) where
  module _ (r : Row) (low : i < length rows) (at : r ≡ get_or rows i r) where
    abbrev rest : List Row
    rest = drop (i + 1) rows

    drop_is : drop i rows ≡ r ∷ rest
    drop_is = drop_more rows i r low ∙ ap (λ (s : Row). s ∷ rest) (sym at)

    take_is : take (i + 1) rows ≡ take i rows ++ r ∷ []
    take_is = take_more rows i r low ∙ ap (λ (s : Row). take i rows ++ s ∷ []) (sym at)

    here : AreNeeded (IsDone pass) P kept (r ∷ rest)
    here = subst (AreNeeded (IsDone pass) P kept) drop_is so_far.todo

    pub needed_here : IsDone pass r → IsNeeded P (kept ++ rest) r
    needed_here = here.0

    pub swept_more : (left : List Row) → IsPart pass P (kept ++ rest) r left → IsSwept pass P rows (kept ++ left) (i + 1)
    swept_more left part = record {
      some = subst (λ l. AreSomeOf l (kept ++ left)) (sym take_is)
          (subst (λ l. AreSomeOf (take i rows ++ r ∷ []) (kept ++ l)) (append-nil left)
          (some_append (take i rows) kept (r ∷ []) (left ++ []) so_far.some (some_one r left part.stands)));
      done = done_more (WillBeDone pass) P rest kept r left part.stands
          (subst (λ l. AreNeeded (WillBeDone pass) P l kept) drop_is so_far.done) part.needed;
      todo = are_fewer P (IsDone pass) (kept ++ r ∷ []) (kept ++ left) rest
          (λ xs h. hold_append xs kept left (hold_front xs kept (r ∷ []) h)
          (stands_hold xs r left part.stands (hold_head xs r [] (hold_back xs kept (r ∷ []) h)))) here.1;
      same = λ point p h k.
          let own = hold_front point kept left h in
          let one = part.same point p (hold_append point kept rest own k) (hold_back point kept left h) in
          subst (λ l. HoldRows l point) (sym take_is) (hold_append point (take i rows) (r ∷ [])
          (so_far.same point p own (subst (λ l. HoldRows l point) (sym drop_is) (hold_cons point r rest one k))) (hold_one point r one));
    }

  pub swept_all : length rows ≤ i → AreThinned (WillBeDone pass) P rows kept
  swept_all over = record {
    some = subst (λ l. AreSomeOf l kept) (take_all i rows over) so_far.some;
    needed = subst (λ l. AreNeeded (WillBeDone pass) P l kept) (drop_all i rows over) so_far.done;
    same = λ point p h. subst (λ l. HoldRows l point) (take_all i rows over)
        (so_far.same point p h (subst (λ l. HoldRows l point) (sym (drop_all i rows over)) (All-nil (λ r. HoldsRow r point))));
  }

  -- the rows that are kept lie over the same columns, within the limit
  pub kept_over : (g : Gauge) (n : ℕ) → All (IsRowOver g n) rows → All (IsRowOver g n) kept
  kept_over g n all = some_all (IsRowOver g n) (half_over g n) (take i rows) kept so_far.some (All-take (IsRowOver g n) i rows all)

  pub beside_over : (g : Gauge) (n : ℕ) → All (IsRowOver g n) rows → All (IsRowOver g n) (kept ++ drop (i + 1) rows)
  beside_over g n all = All-append (IsRowOver g n) kept (drop (i + 1) rows) (kept_over g n all) (All-drop (IsRowOver g n) (i + 1) rows all)

-- ---- both passes
pub thinned_twice : (P : List ℤ → Type 0) (rows middle left : List Row) → AreThinned (WillBeDone Inequalities) P rows middle
    → AreThinned (WillBeDone Equations) P middle left → AreThinned (WillBeDone Equations) P rows left
thinned_twice P rows middle left first second = record {
  some = some_trans rows middle left first.some second.some;
  needed = second.needed;
  same = λ point p h. first.same point p (second.same point p h);
}

pub first_asked : (P : List ℤ → Type 0) (rows : List Row) → AreNeeded (IsDone Inequalities) P [] rows
first_asked P rows = none_asked P [] rows

-- within the limit of the meter as it was
pub plain_back : (g h : Gauge) (n : ℕ) (s : System) → IsCharged g h → IsPlain h n s → IsPlain g n s
plain_back g h n s p plain = record {
  columns = plain.columns;
  definitions = plain.definitions;
  rows = All-weaker (IsRowOver h n) (IsRowOver g n) (λ r over. record {
    formed = over.formed;
    within = row_within_kept g h r (ap (λ (x : Gauge). x.bits) p.same) over.within;
  }) s.rows plain.rows;
}

pub ruleset sweep_steps = (plain_over)
