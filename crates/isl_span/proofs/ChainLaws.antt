-- Columns of systems one after another, and the rows of the hull of what is left.
use Rattle.std.proofs.Common.{◌≡◌, ◌∙◌, refl, sym, ap, subst, arith, ℕ, ◌+◌, ℤ, pos}
use Rattle.std.proofs.Common.{List, [], ◌∷◌, ◌++◌, length, map, get_or, true, false}
use Rattle.std.specs.List.{All, insert, remove}
use Rattle.std.proofs.lemmas.Bool.{false≢true, true≢false}
use Rattle.std.proofs.lemmas.List.{append_assoc}
use Rattle.std.proofs.lemmas.List.Edits.{length-insert, length-remove}
use Rattle.std.proofs.lemmas.List.Elements.{All-head, All-weaker}
use Rattle.isl_math.proofs.ListLaws.{Any-first, Any-one}
use Rattle.isl_meter.specs.Gauge.{Gauge}
use Rattle.isl_piece.specs.declared.row.Row.{Row}
use Rattle.isl_piece.specs.declared.system.System.{System}
use Rattle.isl_piece.specs.System.{HoldsSystem, IsSystemWithin, free_columns}
use Rattle.isl_piece.proofs.FormedLaws.{system_within_kept}
use Rattle.isl_elim.specs.Elimination.{HoldsAtAny, IsProjection}
use Rattle.isl_elim.specs.Sample.{IsNowhere}
use Rattle.isl_elim.proofs.EmptinessLaws.{insert-remove}
use Rattle.isl_span.specs.declared.link.Link.{Link}
use Rattle.isl_span.specs.declared.link.Link.TheVariants.{Equation, Free, Unknown}
use Rattle.isl_span.specs.Chain.{AreHullRows, IsChainOf, IsFreeAtLast, IsLastEquation, IsLinkOf, IsPushed, padded}
use Rattle.isl_span.specs.Points.{IsOver, IsPoint}
use Rattle.isl_span.proofs.CallLaws.{alone_at}
use Rattle.isl_span.proofs.FormLaws.{form_later, forms_later}
use Rattle.isl_span.proofs.LastLaws.{IsFront, hull_free, hull_with}
use Rattle.isl_span.proofs.WiderLaws.{padded_all_again, padded_all_own}

-- ---- the systems themselves
pub chain_none : (g : Gauge) (n : ℕ) (systems : List System) → All (IsOver g n) systems → IsChainOf g n systems [] n systems
chain_none g n systems over = record {
  few = omega arith;
  over = over;
  hull = λ rest h. subst (AreHullRows g n (IsPoint n systems)) (sym (padded_all_own g n rest h.forms)) h;
  none = λ none. none;
}

-- ---- one column more
pub equation_later : (g h : Gauge) (n : ℕ) (P : List ℤ → Type 0) (r : Row) → h.bits ≡ g.bits → IsLastEquation g n P r
    → IsLastEquation h n P r
equation_later g h n P r same e = record { form = form_later g h (n + 1) r same e.form; unit = e.unit; zero = e.zero }

module _ (g : Gauge) (columns : ℕ) (systems : List System) (rows : List Row) (n : ℕ) (s : System) (left : List System)
    (old : IsChainOf g columns systems rows (n + 1) (s ∷ [])) (projection : IsProjection s n left)
    (within : All (IsSystemWithin g) left) where
  free_is : free_columns s ≡ n + 1
  free_is = (All-head (IsOver g (n + 1)) s [] old.over).free

  abbrev P : List ℤ → Type 0
  P = IsPoint (n + 1) (s ∷ [])

  front : IsFront n P (IsPoint n left)
  front = record {
    long = λ p at. at.long;
    short = λ q at. at.long;
    down = λ p at.
        let long = at.long in
        let short = length-remove p n (omega (arith, long)) in
        record {
          long = omega (arith, long, short);
          holds = (projection.points (remove p n) (omega (arith, long, short, free_is))).1 (
            get_or p n (pos 0),
            subst (HoldsSystem s) (sym (insert-remove p n (omega (arith, long))))
                (Any-one (λ t. HoldsSystem t p) s at.holds),
          );
        };
    up = λ q at.
        let long = at.long in
        let x = (projection.points q (omega (arith, long, free_is))).0 at.holds in (
          x.0,
          record {
            long = length-insert q n x.0 (omega (arith, long)) ∙ ap (λ m. m + 1) long;
            holds = Any-first (λ t. HoldsSystem t (insert q n x.0)) s [] x.1;
          },
        );
  }

  left_over : All (IsOver g n) left
  left_over = λ k t low. record { free = (let e = projection.columns k t low in omega (arith, e, free_is)); within = within k t low }

  nowhere : IsNowhere n (HoldsAtAny left) → IsNowhere columns (HoldsAtAny systems)
  nowhere none = old.none (λ p long any.
      let at = front.down p (record { long = long; holds = any }) in
      none (remove p n) at.long at.holds)

  pub chain_free : IsFreeAtLast n P → IsChainOf g columns systems rows n left
  chain_free free = record {
    few = let f = old.few in omega (arith, f);
    over = left_over;
    hull = λ rest h. subst (λ (l : List Row). AreHullRows g columns (IsPoint columns systems) (rows ++ l))
        (padded_all_again g n columns (n + 1) rest (omega arith) old.few h.forms)
        (old.hull (map (padded (n + 1)) rest) (hull_free g n P (IsPoint n left) front rest h free));
    none = nowhere;
  }

  pub chain_with : (e : Row) → IsLastEquation g n P e → IsChainOf g columns systems (rows ++ padded columns e ∷ []) n left
  chain_with e own = record {
    few = let f = old.few in omega (arith, f);
    over = left_over;
    hull = λ rest h. subst (AreHullRows g columns (IsPoint columns systems))
        (ap (λ (l : List Row). rows ++ padded columns e ∷ l) (padded_all_again g n columns (n + 1) rest (omega arith) old.few h.forms)
        ∙ sym (append_assoc rows (padded columns e ∷ []) (map (padded columns) rest)))
        (old.hull (e ∷ map (padded (n + 1)) rest) (hull_with g n P (IsPoint n left) front rest h e own));
    none = nowhere;
  }

-- ---- what was seen, whatever it is
module _ (g h : Gauge) (same : h.bits ≡ g.bits) (columns : ℕ) (systems : List System) (rows new : List Row) (n : ℕ) (left : List System)
    (link : Link) (linked : IsLinkOf h n left link) where
  pub one_left : IsPushed columns link rows new true → length left ≡ 1
  one_left = by link linked
    where
      by : (link : Link) → IsLinkOf h n left link → IsPushed columns link rows new true → length left ≡ 1
      by (Equation r) l p = l.0
      by Free l p = l.0
      by Unknown l p = absurd (true≢false p.0)

  pub none_seen : IsPushed columns link rows new false → (link ≡ Unknown) × (new ≡ rows)
  none_seen = by link
    where
      by : (link : Link) → IsPushed columns link rows new false → (link ≡ Unknown) × (new ≡ rows)
      by (Equation r) p = absurd (false≢true p.0)
      by Free p = absurd (false≢true p.0)
      by Unknown p = (refl, p.1)

  pub chain_step : IsPushed columns link rows new true → IsChainOf g columns systems rows (n + 1) left → (s : System)
      → s ≡ get_or left 0 s → (next : List System) → IsProjection s n next → All (IsSystemWithin h) next
      → IsChainOf g columns systems new n next
  chain_step pushed old s here next projection within = by link linked pushed
    where
      own : All (IsSystemWithin g) next
      own = All-weaker (IsSystemWithin h) (IsSystemWithin g) (λ t w. system_within_kept g h t same w) next within

      by : (link : Link) → IsLinkOf h n left link → IsPushed columns link rows new true → IsChainOf g columns systems new n next
      by (Equation r) l p =
          let is = alone_at left s l.0 here in
          subst (λ (o : List Row). IsChainOf g columns systems o n next) (sym p.1)
          (chain_with g columns systems rows n s next (subst (IsChainOf g columns systems rows (n + 1)) is old) projection own r
          (equation_later h g n (IsPoint (n + 1) (s ∷ [])) r (sym same)
          (subst (λ (o : List System). IsLastEquation h n (IsPoint (n + 1) o) r) is l.1)))
      by Free l p =
          let is = alone_at left s l.0 here in
          subst (λ (o : List Row). IsChainOf g columns systems o n next) (sym p.1)
          (chain_free g columns systems rows n s next (subst (IsChainOf g columns systems rows (n + 1)) is old) projection own
          (subst (λ (o : List System). IsFreeAtLast n (IsPoint (n + 1) o)) is l.1))
      by Unknown l p = absurd (true≢false p.0)

-- ---- what the loop asks for
pub first_over : (g : Gauge) (n : ℕ) (left : List System) (s : System) → All (IsOver g n) left → length left ≡ 1 → s ≡ get_or left 0 s
    → IsOver g n s
first_over g n left s all one is = subst (IsOver g n) (sym is) (all 0 s (omega (arith, one)))

-- the rows of a hull with another meter of the same limit
pub hull_rows_kept : (g h : Gauge) (n : ℕ) (P : List ℤ → Type 0) (rows : List Row) → h.bits ≡ g.bits → AreHullRows h n P rows
    → AreHullRows g n P rows
hull_rows_kept g h n P rows same are = record {
  forms = forms_later h g n rows (sym same) are.forms;
  independent = are.independent;
  some = are.some;
  exact = are.exact;
}

pub one_over : (g : Gauge) (n : ℕ) (left : List System) (s : System) → left ≡ s ∷ [] → All (IsOver g n) left → IsOver g n s
one_over g n left s is all = All-head (IsOver g n) s [] (subst (All (IsOver g n)) is all)
