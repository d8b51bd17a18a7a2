-- What is left of one row beside others.
use Rattle.std.proofs.Common.{◌≡◌, ◌≢◌, ◌↔◌, inl, inr, refl, sym, subst, ℕ, ℤ, List, [], ◌∷◌, Bool}
use Rattle.std.specs.Prelude.{IsTrue}
use Rattle.isl_meter.specs.Gauge.{Gauge}
use Rattle.isl_piece.specs.declared.system.System.{System}
use Rattle.std.specs.List.{All}
use Rattle.std.proofs.lemmas.List.Elements.{All-nil, All-cons}
use Rattle.isl_piece.specs.declared.row.RowKind.{RowKind}
use Rattle.isl_piece.specs.declared.row.RowKind.TheVariants.{Zero, AtLeast, Divides, NotDivides}
use Rattle.isl_piece.specs.declared.row.Row.{Row}
use Rattle.isl_piece.specs.Row.{HoldsRow}
use Rattle.isl_gist.specs.declared.pass.Pass.{Pass}
use Rattle.isl_gist.specs.declared.pass.Pass.TheVariants.{Inequalities, Equations}
use Rattle.isl_gist.specs.Halves.{lower_half, upper_half}
use Rattle.isl_gist.specs.Thinned.{plain_system, IsAmong, IsIdleAt, IsNeeded, IsNeededBy, IsPart, IsPlain, IsRest, IsRowOver, WillBeDone}
use Rattle.isl_gist.proofs.HalfLaws.{both_halves}
use Rattle.isl_gist.proofs.IdleLaws.{plain_over}
use Rattle.isl_gist.proofs.NeededLaws.{hold_cons, hold_head, hold_tail}

module _ (P : List ℤ → Type 0) (others : List Row) where
  needed_plain : (kind : RowKind) (r : Row) → kind ≢ Zero → ¬ IsIdleAt P others r → IsNeededBy kind P others r
  needed_plain Zero r other not = absurd (other refl)
  needed_plain AtLeast r other not = not
  needed_plain Divides r other not = not
  needed_plain NotDivides r other not = not

  module _ (pass : Pass) (r : Row) (left : List Row) where
    abbrev Asked : Row → Type 0
    Asked = λ s. WillBeDone pass s → IsNeeded P others s

    -- the row stays
    pub whole_part : left ≡ r ∷ [] → (WillBeDone pass r → IsNeeded P others r) → IsPart pass P others r left
    whole_part is needed = rw is (record {
      stands = inl refl;
      needed = All-cons Asked r [] needed (All-nil Asked);
      same = λ point p h k. hold_head point r [] k;
    })

  -- a row that is no equation
  pub rest_part : (r : Row) (left : List Row) → r.kind ≢ Zero → IsRest P others r left → IsPart Inequalities P others r left
  rest_part r left kind (inl (idle, is)) = rw is (record {
    stands = inr (inl refl);
    needed = All-nil (λ s. WillBeDone Inequalities s → IsNeeded P others s);
    same = λ point p h k. idle.holds point p h;
  })
  rest_part r left kind (inr (not, is)) = whole_part Inequalities r left is (λ w. needed_plain r.kind r kind not)

  -- ---- an equation
  module _ (r : Row) (zero : r.kind ≡ Zero) (left : List Row) where
    abbrev Needed : Row → Type 0
    Needed = λ s. WillBeDone Equations s → IsNeeded P others s

    both_hold : (point : List ℤ) → HoldsRow (upper_half r) point → HoldsRow (lower_half r) point → HoldsRow r point
    both_hold point h k = (both_halves r point zero).1 (h, k)

    -- the upper half is idle beside the lower one
    pub lower_part : IsIdleAt P (lower_half r ∷ others) (upper_half r) → IsRest P others (lower_half r) left
        → IsPart Equations P others r left
    lower_part upper (inl (lower, is)) = rw is (record {
      stands = inr (inl refl);
      needed = All-nil Needed;
      same = λ point p h k.
          let below = lower.holds point p h in
          both_hold point (upper.holds point p (hold_cons point (lower_half r) others below h)) below;
    })
    lower_part upper (inr (not, is)) = rw is (record {
      stands = inr (inr (zero, inr refl));
      needed = All-cons Needed (lower_half r) [] (λ w. not) (All-nil Needed);
      same = λ point p h k.
          let below = hold_head point (lower_half r) [] k in
          both_hold point (upper.holds point p (hold_cons point (lower_half r) others below h)) below;
    })

    module _ (not : ¬ IsIdleAt P (lower_half r ∷ others) (upper_half r)) where
      -- the lower half is idle beside the upper one
      pub upper_part : IsIdleAt P (upper_half r ∷ others) (lower_half r) → left ≡ upper_half r ∷ [] → IsPart Equations P others r left
      upper_part lower is = rw is (record {
        stands = inr (inr (zero, inl refl));
        needed = All-cons Needed (upper_half r) [] (λ w idle. not (record {
          holds = λ point p h. idle.holds point p (hold_tail point (lower_half r) others h);
        })) (All-nil Needed);
        same = λ point p h k.
            let above = hold_head point (upper_half r) [] k in
            both_hold point above (lower.holds point p (hold_cons point (upper_half r) others above h));
      })

      pub equation_part : (¬ IsIdleAt P (upper_half r ∷ others) (lower_half r)) → left ≡ r ∷ [] → IsPart Equations P others r left
      equation_part also is = whole_part Equations r left is
          (λ w. subst (λ kind. IsNeededBy kind P others r) (sym zero) (not, also))

-- ---- one more row in front
pub with_plain : (g : Gauge) (n : ℕ) (r : Row) (rows : List Row) (made : System) → made ≡ plain_system n (r ∷ rows) → IsRowOver g n r
    → All (IsRowOver g n) rows → IsPlain g made.columns made
with_plain g n r rows made is over all =
    subst (λ (s : System). IsPlain g s.columns s) (sym is) (plain_over g n (r ∷ rows) (All-cons (IsRowOver g n) r rows over all))

-- the answer in the words of the rows
pub idle_with : (n : ℕ) (contexts : List System) (others : List Row) (r s t u : Row) (made : System) (b : Bool)
    → made ≡ plain_system n (r ∷ others) → r ≡ s → t ≡ u
    → (IsTrue b ↔ IsIdleAt (IsAmong made.columns contexts) made.rows t) → IsTrue b ↔ IsIdleAt (IsAmong n contexts) (s ∷ others) u
idle_with n contexts others r s t u made b is same also exact =
    subst (λ (x : Row). IsTrue b ↔ IsIdleAt (IsAmong n contexts) (s ∷ others) x) also
    (subst (λ (x : Row). IsTrue b ↔ IsIdleAt (IsAmong n contexts) (x ∷ others) t) same
    (subst (λ (x : System). IsTrue b ↔ IsIdleAt (IsAmong x.columns contexts) x.rows t) is exact))

pub ruleset part_steps = (plain_over, whole_part, rest_part)
