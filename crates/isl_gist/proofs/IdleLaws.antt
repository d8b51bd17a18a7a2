-- Rows that say nothing new at the points of other systems.
use Rattle.std.proofs.Common.{◌≡◌, ◌↔◌, inl, inr, refl, sym, ap, ◌∙◌, subst, arith, ℕ, ◌+◌, ◌<◌, ℤ}
use Rattle.std.proofs.Common.{List, [], ◌∷◌, ◌++◌, length, get_or, take, Bool}
use Rattle.std.specs.Prelude.{IsTrue}
use Rattle.std.specs.List.{All}
use Rattle.std.proofs.lemmas.List.{take_more}
use Rattle.std.proofs.lemmas.List.Elements.{All-nil, All-cons, All-head, All-append, All-weaker}
use Rattle.isl_math.proofs.ListLaws.{All-parts, Any-none, Any-one, Any-first, Any-parts}
use Rattle.isl_meter.specs.Gauge.{Gauge, IsCharged}
use Rattle.isl_piece.specs.declared.definition.Definition.{Definition}
use Rattle.isl_piece.specs.declared.row.Row.{Row}
use Rattle.isl_piece.specs.declared.system.System.{System}
use Rattle.isl_piece.specs.Definition.{with_defined}
use Rattle.isl_piece.specs.Meet.{over_same_columns}
use Rattle.isl_piece.specs.Row.{HoldsRow, IsRowWithin, IsWellFormed}
use Rattle.isl_piece.specs.System.{HoldRows, HoldsSystem, IsSystemWithin, free_columns}
use Rattle.isl_piece.proofs.RowMagnitudes.{row_within_kept}
use Rattle.isl_elim.specs.Sample.{IsNowhere}
use Rattle.isl_difference.specs.Split.{HoldsBut}
use Rattle.isl_difference.proofs.RowCases.{rows_cases}
use Rattle.isl_gist.specs.Thinned.{plain_system, IsAmong, IsIdleAt, IsPlain, IsRowOver}

-- ---- systems without definitions
pub rows_formed : (g : Gauge) (n : ℕ) (rows : List Row) → All (IsRowOver g n) rows → All (IsWellFormed n) rows
rows_formed g n rows all = All-weaker (IsRowOver g n) (IsWellFormed n) (λ r o. o.formed) rows all

pub rows_within : (g : Gauge) (n : ℕ) (rows : List Row) → All (IsRowOver g n) rows → All (IsRowWithin g) rows
rows_within g n rows all = All-weaker (IsRowOver g n) (IsRowWithin g) (λ r o. o.within) rows all

pub plain_is : (g : Gauge) (n : ℕ) (s : System) → IsPlain g n s → s ≡ plain_system n s.rows
plain_is g n s p = by s.columns s.definitions s.rows p.columns p.definitions
  where
    system : ℕ → List Definition → List Row → System
    system columns definitions rows = record { columns = columns; definitions = definitions; rows = rows }

    by : (m : ℕ) (ds : List Definition) (rows : List Row) → m ≡ n → ds ≡ [] → system m ds rows ≡ plain_system n rows
    by m ds rows e f = cc

rows_system : (g : Gauge) (n : ℕ) (rows : List Row) → All (IsRowOver g n) rows → IsSystemWithin g (plain_system n rows)
rows_system g n rows all = record {
  rows = rows_formed g n rows all;
  within = rows_within g n rows all;
  count = omega arith;
  definitions = tt;
}

pub plain_within : (g : Gauge) (n : ℕ) (s : System) → IsPlain g n s → IsSystemWithin g s
plain_within g n s p = subst (IsSystemWithin g) (sym (plain_is g n s p)) (rows_system g n s.rows p.rows)

pub over_later : (g h : Gauge) (n : ℕ) (r : Row) → IsCharged g h → IsRowOver g n r → IsRowOver h n r
over_later g h n r p over = record {
  formed = over.formed;
  within = row_within_kept h g r (sym (ap (λ (x : Gauge). x.bits) p.same)) over.within;
}

pub plain_later : (g h : Gauge) (n : ℕ) (s : System) → IsCharged g h → IsPlain g n s → IsPlain h n s
plain_later g h n s p plain = record {
  columns = plain.columns;
  definitions = plain.definitions;
  rows = All-weaker (IsRowOver g n) (IsRowOver h n) (λ r o. over_later g h n r p o) s.rows plain.rows;
}

pub all_later : (g h : Gauge) (n : ℕ) (systems : List System) → IsCharged g h → All (IsPlain g n) systems → All (IsPlain h n) systems
all_later g h n systems p all = All-weaker (IsPlain g n) (IsPlain h n) (λ s o. plain_later g h n s p o) systems all

pub plain_over : (g : Gauge) (n : ℕ) (rows : List Row) → All (IsRowOver g n) rows → IsPlain g n (plain_system n rows)
plain_over g n rows all = record { columns = refl; definitions = refl; rows = all }

-- ---- in one context
module _ (g : Gauge) (n : ℕ) (others rows : List Row) (context : System) (plain : IsPlain g n context)
    (over : All (IsRowOver g n) rows) where
  abbrev both : System
  both = plain_system n (others ++ context.rows)

  context_holds : (point : List ℤ) → HoldsSystem context point ↔ HoldRows context.rows point
  context_holds point =
      let P : List Definition → Type 0 = λ ds. HoldRows context.rows (with_defined ds point) in
      ((λ h. subst P plain.definitions h), (λ h. subst P (sym plain.definitions) h))

  free_is : free_columns both ≡ n
  free_is = omega arith

  pub idle_in : IsNowhere (free_columns both) (HoldsBut both rows) ↔ All (IsIdleAt (IsAmong n (context ∷ [])) others) rows
  idle_in = (
    (λ nowhere k d low. record {
      holds = λ point among h.
          let all = All-append (λ r. HoldsRow r point) others context.rows h
          ((context_holds point).0 (Any-one (λ s. HoldsSystem s point) context among.holds)) in
          elim (rows_cases n rows point (rows_formed g n rows over)) [
            | inl hold ↦ hold k d low
            | inr fail ↦ absurd (nowhere point (among.long ∙ sym free_is) (all, fail))
          ];
    }),
    (λ idle point long h.
        let parts = All-parts (λ r. HoldsRow r point) others context.rows h.0 in
        h.1 (λ k d low. (idle k d low).holds point (record {
          long = long ∙ free_is;
          holds = Any-first (λ s. HoldsSystem s point) context [] ((context_holds point).1 parts.1);
        }) parts.0)),
  )

-- the system of others and context
pub both_is : (g : Gauge) (n : ℕ) (others context meeting : System) → IsPlain g n others → IsPlain g n context
    → (others.definitions ≡ context.definitions → meeting ≡ over_same_columns others context)
    → meeting ≡ plain_system n (others.rows ++ context.rows)
both_is g n others context meeting p q is =
    is (p.definitions ∙ sym q.definitions)
    ∙ ap (λ (s : System). over_same_columns s context) (plain_is g n others p)

pub idle_exactly : (g : Gauge) (n : ℕ) (others context meeting : System) (rows : List Row) (b : Bool)
    → IsPlain g n others → IsPlain g n context
    → All (IsRowOver g n) rows → meeting ≡ plain_system n (others.rows ++ context.rows)
    → (IsTrue b ↔ IsNowhere (free_columns meeting) (HoldsBut meeting rows))
    → IsTrue b ↔ All (IsIdleAt (IsAmong n (context ∷ [])) others.rows) rows
idle_exactly g n others context meeting rows b p q over is same =
    let exact = idle_in g n others.rows rows context q over in
    let here = subst (λ (s : System). IsTrue b ↔ IsNowhere (free_columns s) (HoldsBut s rows)) is same in
    ((λ t. exact.0 (here.0 t)), (λ h. here.1 (exact.1 h)))

pub one_row : (P : Row → Type 0) (r : Row) → All P (r ∷ []) ↔ P r
one_row P r = ((λ h. All-head P r [] h), (λ h. All-cons P r [] h (All-nil P)))

-- ---- in one context after another
pub idle_weaker : (P Q : List ℤ → Type 0) (others fewer : List Row) (r : Row) → ((point : List ℤ) → Q point → P point)
    → ((point : List ℤ) → HoldRows fewer point → HoldRows others point) → IsIdleAt P others r → IsIdleAt Q fewer r
idle_weaker P Q others fewer r f h idle = record { holds = λ point q k. idle.holds point (f point q) (h point k) }

module _ (n : ℕ) (others : List Row) (r : Row) where
  pub idle_first : IsIdleAt (IsAmong n []) others r
  idle_first = record { holds = λ point among h. absurd (Any-none (λ s. HoldsSystem s point) among.holds) }

  module _ (contexts : List System) (i : ℕ) (context : System) (low : i < length contexts) (at : context ≡ get_or contexts i context) where
    more_are : take (i + 1) contexts ≡ take i contexts ++ context ∷ []
    more_are = take_more contexts i context low ∙ ap (λ (s : System). take i contexts ++ s ∷ []) (sym at)

    pub idle_more : IsIdleAt (IsAmong n (take i contexts)) others r → IsIdleAt (IsAmong n (context ∷ [])) others r
        → IsIdleAt (IsAmong n (take (i + 1) contexts)) others r
    idle_more so_far here = rw more_are (record {
      holds = λ point among h. elim (Any-parts (λ s. HoldsSystem s point) (take i contexts) (context ∷ []) among.holds) [
        | inl a ↦ so_far.holds point (record { long = among.long; holds = a }) h
        | inr b ↦ here.holds point (record { long = among.long; holds = b }) h
      ];
    })

    pub idle_not : ¬ IsIdleAt (IsAmong n (context ∷ [])) others r → ¬ IsIdleAt (IsAmong n contexts) others r
    idle_not fails idle = fails (record {
      holds = λ point among h. idle.holds point (record {
        long = among.long;
        holds = (i, context, low, sym at, Any-one (λ s. HoldsSystem s point) context among.holds);
      }) h;
    })

pub ruleset idle_steps = (plain_within)
