-- Whether a system and others have a point in common.
use Rattle.std.proofs.Common.{◌≡◌, ◌↔◌, inl, inr, refl, sym, ap, ◌∙◌, subst, arith, ℕ, ◌+◌, ◌<◌, ◌≤◌, ℤ, List}
use Rattle.std.proofs.Common.{[], ◌∷◌, ◌++◌, length, get_or, take, Bool, true, false}
use Rattle.std.specs.Prelude.{IsTrue, not}
use Rattle.std.proofs.lemmas.Bool.{false≢true}
use Rattle.std.proofs.lemmas.List.{take_all, take_more}
use Rattle.std.proofs.lemmas.List.Elements.{All-append}
use Rattle.isl_math.proofs.ListLaws.{All-parts, Any-first, Any-none, Any-one, Any-parts}
use Rattle.isl_meter.specs.Gauge.{Gauge}
use Rattle.isl_piece.specs.declared.definition.Definition.{Definition}
use Rattle.isl_piece.specs.declared.row.Row.{Row}
use Rattle.isl_piece.specs.declared.system.System.{System}
use Rattle.isl_piece.specs.Definition.{with_defined}
use Rattle.isl_piece.specs.Row.{HoldsRow}
use Rattle.isl_piece.specs.System.{HoldRows, HoldsSystem, free_columns}
use Rattle.isl_elim.specs.Sample.{IsNowhere}
use Rattle.isl_gist.specs.Meeting.{AreApartIn, IsMeeting}
use Rattle.isl_gist.specs.Thinned.{plain_system, IsAmong, IsPlain}

module _ (g : Gauge) (n : ℕ) (rows : List Row) (context : System) (plain : IsPlain g n context) where
  abbrev both : System
  both = plain_system n (rows ++ context.rows)

  free_is : free_columns both ≡ n
  free_is = omega arith

  context_holds : (point : List ℤ) → HoldsSystem context point ↔ HoldRows context.rows point
  context_holds point =
      let P : List Definition → Type 0 = λ ds. HoldRows context.rows (with_defined ds point) in
      ((λ h. subst P plain.definitions h), (λ h. subst P (sym plain.definitions) h))

  nowhere_exactly : IsNowhere (free_columns both) (HoldsSystem both) ↔ AreApartIn (IsAmong n (context ∷ [])) rows
  nowhere_exactly = (
    (λ nowhere. record {
      nowhere = λ point among h. nowhere point (among.long ∙ sym free_is) (All-append (λ r. HoldsRow r point) rows context.rows h
          ((context_holds point).0 (Any-one (λ s. HoldsSystem s point) context among.holds)));
    }),
    (λ apart point long h.
        let parts = All-parts (λ r. HoldsRow r point) rows context.rows h in
        apart.nowhere point (record {
          long = long ∙ free_is;
          holds = Any-first (λ s. HoldsSystem s point) context [] ((context_holds point).1 parts.1);
        }) parts.0),
  )

  pub common_exactly : (meeting : System) (empty answer : Bool) → meeting ≡ both → answer ≡ not empty
      → (IsTrue empty ↔ IsNowhere (free_columns meeting) (HoldsSystem meeting)) → IsMeeting (IsAmong n (context ∷ [])) rows answer
  common_exactly meeting empty answer is turned exact =
      by empty turned (subst (λ (s : System). IsTrue empty ↔ IsNowhere (free_columns s) (HoldsSystem s)) is exact)
    where
      by : (empty : Bool) → answer ≡ not empty → (IsTrue empty ↔ IsNowhere (free_columns both) (HoldsSystem both))
          → IsMeeting (IsAmong n (context ∷ [])) rows answer
      by true t same = record {
        some = λ yes. absurd (false≢true (sym t ∙ yes));
        none = λ no_point. nowhere_exactly.0 (same.0 refl);
      }
      by false t same = record {
        some = λ yes apart. false≢true (same.1 (nowhere_exactly.1 apart));
        none = λ no_point. absurd (false≢true (sym no_point ∙ t));
      }

module _ (n : ℕ) (rows : List Row) where
  pub apart_first : AreApartIn (IsAmong n []) rows
  apart_first = record { nowhere = λ point among h. absurd (Any-none (λ s. HoldsSystem s point) among.holds) }

  module _ (contexts : List System) (i : ℕ) (context : System) (low : i < length contexts) (at : context ≡ get_or contexts i context) where
    more_are : take (i + 1) contexts ≡ take i contexts ++ context ∷ []
    more_are = take_more contexts i context low ∙ ap (λ (s : System). take i contexts ++ s ∷ []) (sym at)

    pub apart_more : AreApartIn (IsAmong n (take i contexts)) rows → AreApartIn (IsAmong n (context ∷ [])) rows
        → AreApartIn (IsAmong n (take (i + 1) contexts)) rows
    apart_more so_far here = rw more_are (record {
      nowhere = λ point among h. elim (Any-parts (λ s. HoldsSystem s point) (take i contexts) (context ∷ []) among.holds) [
        | inl a ↦ so_far.nowhere point (record { long = among.long; holds = a }) h
        | inr b ↦ here.nowhere point (record { long = among.long; holds = b }) h
      ];
    })

    pub met_here : ¬ AreApartIn (IsAmong n (context ∷ [])) rows → IsMeeting (IsAmong n contexts) rows true
    met_here some = record {
      some = λ yes apart. some (record {
        nowhere = λ point among h. apart.nowhere point (record {
          long = among.long;
          holds = (i, context, low, sym at, Any-one (λ s. HoldsSystem s point) context among.holds);
        }) h;
      });
      none = λ no_point. absurd (false≢true (sym no_point));
    }

  pub met_nowhere : (contexts : List System) (i : ℕ) → length contexts ≤ i → AreApartIn (IsAmong n (take i contexts)) rows
      → IsMeeting (IsAmong n contexts) rows false
  met_nowhere contexts i over apart = record {
    some = λ yes. absurd (false≢true yes);
    none = λ no_point. subst (λ l. AreApartIn (IsAmong n l) rows) (take_all i contexts over) apart;
  }
