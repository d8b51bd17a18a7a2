-- The hull of one space: its points are those of elements.
use Rattle.std.proofs.Common.{◌≡◌, ◌↔◌, ◌∙◌, refl, sym, ap, subst, arith, ℕ, ◌+◌, ℤ, pos, ◌+ℤ◌, List, [], map, length, get_or}
use Rattle.std.proofs.Common.{MatchOption, None, Option, Some}
use Rattle.std.specs.List.{All}
use Rattle.isl_math.specs.Dot.{dot}
use Rattle.isl_meter.specs.Gauge.{Gauge}
use Rattle.isl_space.specs.Element.{Element, IsElement}
use Rattle.isl_space.specs.Name.{Name}
use Rattle.isl_space.specs.Names.{AreDistinct}
use Rattle.isl_space.specs.SpaceForm.{SpaceForm, IsWellFormedSpace}
use Rattle.isl_space.specs.Valuation.{Valuation}
use Rattle.isl_piece.specs.declared.definition.Definition.{Definition}
use Rattle.isl_piece.specs.declared.row.Row.{Row}
use Rattle.isl_piece.specs.declared.system.System.{System}
use Rattle.isl_piece.specs.Piece.{PieceView}
use Rattle.isl_piece.specs.Row.{IsWellFormed}
use Rattle.isl_elim.specs.Elimination.{HoldsAtAny}
use Rattle.isl_elim.specs.Sample.{IsNowhere}
use Rattle.isl_union.specs.KeptValue.{KeptValue, Has, columns_of, point_of}
use Rattle.isl_union.specs.Minus.{piece_in, systems_in}
use Rattle.isl_union.specs.Piece.{kept_piece, IsPieceOf}
use Rattle.isl_union.specs.Numbers.{AreWithinLimit}
use Rattle.isl_union.proofs.MinusLaws.{element_long, in_space, systems_all}
use Rattle.isl_union.proofs.SampleLaws.{point_split}
use Rattle.isl_union.proofs.SystemLaws.{view_free}
use Rattle.isl_span.specs.Points.{IsHullSystem, IsOver, IsPoint, VanishesOnAll}
use Rattle.isl_hull.specs.Hull.{HasNoneIn, VanishesOn}
use Rattle.isl_hull.specs.Values.{IsHullPiece}

module _ (params : List Name) (distinct : AreDistinct params) (space : SpaceForm) (pieces : List PieceView) where
  abbrev value : KeptValue
  value = record { params = params; pieces = map kept_piece pieces }

  abbrev n : ℕ
  n = columns_of params space

  abbrev P : List ℤ → Type 0
  P = IsPoint n (systems_in space pieces)

  has_holds : (v : Valuation) (e : Element) → IsElement e → space ≡ e.space
      → HoldsAtAny (systems_in space pieces) (point_of params v e) ↔ Has value v e
  has_holds v e numbers lies = in_space params v e space pieces numbers lies

  -- an element of the space is at a point
  has_point : (v : Valuation) (e : Element) → Has value v e → e.space ≡ space → P (point_of params v e)
  has_point v e has lies =
      let numbers : IsElement e = has.4.numbers in
      record {
        long = element_long params v e space numbers (sym lies);
        holds = (has_holds v e numbers (sym lies)).1 has;
      }

  -- and at each point there is one
  point_has : (point : List ℤ) → P point
      → (v : Valuation) × (e : Element) × (e.space ≡ space) × Has value v e × (point_of params v e ≡ point)
  point_has point p =
      let s = point_split params space point p.long distinct in
      (s.0, s.1, s.2, (has_holds s.0 s.1 s.3 (sym s.2)).0 (subst (HoldsAtAny (systems_in space pieces)) (sym s.4) p.holds), s.4)

  vanishes_from : (coefs : List ℤ) (constant : ℤ) → length coefs ≡ n → VanishesOn params (Has value) space coefs constant
      → VanishesOnAll n P coefs constant
  vanishes_from coefs constant long zero = record {
    long = long;
    zero = λ point p.
        let at = point_has point p in
        subst (λ x. dot coefs x +ℤ constant ≡ pos 0) at.4 (zero at.0 at.1 at.3 at.2);
  }

  vanishes_to : (coefs : List ℤ) (constant : ℤ) → VanishesOnAll n P coefs constant → VanishesOn params (Has value) space coefs constant
  vanishes_to coefs constant zero v e has lies = zero.zero (point_of params v e) (has_point v e has lies)

  pub none_in : IsNowhere n (HoldsAtAny (systems_in space pieces)) → HasNoneIn (Has value) space
  none_in none v e has lies = let p = has_point v e has lies in none (point_of params v e) p.long p.holds

  some_in : ¬ ((point : List ℤ) → ¬ P point) → ¬ HasNoneIn (Has value) space
  some_in some none = some (λ point p. let at = point_has point p in none at.0 at.1 at.3 at.2)

  -- ---- the systems of the space
  pub systems_over : (g : Gauge) (columns : ℕ) (systems : List System) → columns ≡ n → systems ≡ systems_in space pieces
      → All (IsPieceOf params) pieces
      → AreWithinLimit g pieces → All (IsOver g columns) systems
  systems_over g columns systems wide same sound within =
      subst (λ (k : ℕ). All (IsOver g k) systems) (sym wide) (subst (All (IsOver g n)) (sym same)
      (systems_all (IsOver g n) space pieces (λ k d l lies. record {
        free = view_free params (get_or pieces k d) (sound k d l) ∙ ap (columns_of params) lies;
        within = within k d l;
      })))

  -- what was found, over these
  pub hull_told : (g : Gauge) (columns : ℕ) (systems : List System) (found : Option System) → columns ≡ n
      → systems ≡ systems_in space pieces
      → MatchOption found (IsNowhere columns (HoldsAtAny systems)) (IsHullSystem g columns (IsPoint columns systems))
      → MatchOption found (HasNoneIn (Has value) space) (IsHullSystem g n P)
  hull_told g columns systems found wide same h = by found
      (subst (λ (k : ℕ). MatchOption found (IsNowhere k (HoldsAtAny (systems_in space pieces)))
      (IsHullSystem g k (IsPoint k (systems_in space pieces)))) wide
      (subst (λ (l : List System). MatchOption found (IsNowhere columns (HoldsAtAny l)) (IsHullSystem g columns (IsPoint columns l))) same
      h))
    where
      by : (found : Option System) → MatchOption found (IsNowhere n (HoldsAtAny (systems_in space pieces))) (IsHullSystem g n P)
          → MatchOption found (HasNoneIn (Has value) space) (IsHullSystem g n P)
      by None none = none_in none
      by (Some hull) told = told

  module _ (g : Gauge) (formed : IsWellFormedSpace space) where
    abbrev plain : List Row → System
    plain rows = record { columns = n; definitions = []; rows = rows }

    hull_piece : (rows : List Row) → IsHullSystem g n P (plain rows) → IsHullPiece g value (piece_in space (plain rows))
    hull_piece rows h = record {
      sound = record {
        columns = omega arith;
        kept = record {
          space = formed;
          definitions = tt;
          rows = let e : n ≡ 0 + n = omega arith in subst (λ (k : ℕ). All (IsWellFormed k) rows) e h.formed;
          normal = h.normal;
          live = λ void. h.some (λ point p. void point p.long ((h.exact point).1 (λ coefs constant v. v.zero point p)));
        };
      };
      within = record { rows = h.formed; within = h.within; count = omega arith; definitions = tt };
      plain = refl;
      equations = h.equations;
      independent = h.independent;
      elements = λ v e. (
        (λ has. (
          has.space,
          record {
            numbers = has.numbers;
            live = subst (λ (s : SpaceForm). ¬ HasNoneIn (Has value) s) has.space (some_in h.some);
            zero = λ coefs constant long zero. (h.exact (point_of params v e)).0 has.holds coefs constant
                (vanishes_from coefs constant (long ∙ ap (columns_of params) (sym has.space))
                (subst (λ (s : SpaceForm). VanishesOn params (Has value) s coefs constant) (sym has.space) zero));
          },
        )),
        (λ both.
            let lies : space ≡ e.space = both.0 in
            let a = both.1 in
            record {
              numbers = a.numbers;
              space = lies;
              holds = (h.exact (point_of params v e)).1
                  (λ coefs constant zero. a.zero coefs constant (zero.long ∙ ap (columns_of params) lies)
                  (subst (λ (s : SpaceForm). VanishesOn params (Has value) s coefs constant) lies (vanishes_to coefs constant zero)));
            }),
      );
    }

    pub found_piece : (hull : System) (piece : PieceView) → piece ≡ piece_in space hull → IsHullSystem g n P hull
        → (piece.space ≡ space) × IsHullPiece g value piece
    found_piece hull piece is h = (
      ap (λ (p : PieceView). p.space) is,
      subst (IsHullPiece g value) (sym (is ∙ ap (piece_in space) same))
          (hull_piece hull.rows (subst (IsHullSystem g n P) same h)),
    )
      where
        system : ℕ → List Definition → List Row → System
        system columns definitions rows = record { columns = columns; definitions = definitions; rows = rows }

        same : hull ≡ plain hull.rows
        same = by hull.columns hull.definitions h.width h.plain
          where
            by : (m : ℕ) (ds : List Definition) → m ≡ n → ds ≡ [] → system m ds hull.rows ≡ plain hull.rows
            by m ds e f = cc
