-- The arguments of a call.
use Rattle.std.proofs.Common.{◌≡◌, refl, sym, ap, ◌∙◌, subst, ℕ, ◌+◌, ◌<◌, ◌≤◌, ℤ, pos, ◌<ℤ◌, List, [], ◌∷◌, ◌++◌}
use Rattle.std.proofs.Common.{length, get_or, take}
use Rattle.std.specs.Prelude.{map}
use Rattle.std.specs.List.{All}
use Rattle.std.proofs.lemmas.List.{get_or-map, map_more, map_push, take_all}
use Rattle.std.proofs.lemmas.List.Elements.{All-append, All-cons, All-nil}
use Rattle.isl_meter.specs.Gauge.{Gauge}
use Rattle.isl_piece.specs.declared.row.Row.{Row}
use Rattle.isl_piece.specs.Row.{HasModulus, IsRowWithin, IsWellFormed}
use Rattle.isl_piece.specs.declared.row.RowKind.{RowKind}
use Rattle.isl_piece.specs.declared.row.RowKind.TheVariants.{Divides}
use Rattle.isl_frame.specs.Frame.{column_at, columns_at}
use Rattle.isl_loop.specs.declared.tree.Expr.{Expr}
use Rattle.isl_loop.specs.declared.tree.Loop.{Loop, Call}
use Rattle.isl_loop.specs.Expr.{expr_value}
use Rattle.isl_loop.specs.Formed.{IsExprOver, IsLoopOver}
use Rattle.isl_nest.specs.declared.place.Place.{Place}
use Rattle.isl_nest.specs.Item.{ItemView}
use Rattle.isl_nest.specs.Nest.{IsCallAt}
use Rattle.isl_nest.specs.Places.{IsPlace}

-- the first so many arguments
pub record AreArguments (g : Gauge) (place : Place) (arguments : List ℕ) (count : ℕ) (exprs : List Expr) : Type 0 where
  pub over : All (IsExprOver g place.variables) exprs
  pub values : (point : List ℤ) → length point ≡ place.variables
      → map (λ e. expr_value e point) exprs ≡ map (λ at. get_or (columns_at place.frame point) at (pos 0)) (take count arguments)

pub arguments_none : (g : Gauge) (place : Place) (arguments : List ℕ) → AreArguments g place arguments 0 []
arguments_none g place arguments = record { over = All-nil (IsExprOver g place.variables); values = λ point e. refl }

-- a column of a place
module _ (g : Gauge) (place : Place) (is : IsPlace g place) (at : ℕ) (entry : Row) (low : at < length place.frame)
    (read : entry ≡ get_or place.frame at entry) where
  pub entry_formed : IsWellFormed place.variables entry
  entry_formed = subst (IsWellFormed place.variables) (sym read) (is.frame.formed at entry low)

  pub entry_within : IsRowWithin g entry
  entry_within = subst (IsRowWithin g) (sym read) (is.within at entry low)

  pub entry_modulus : pos 0 <ℤ entry.k
  entry_modulus =
      let kind : entry.kind ≡ Divides = subst (λ (r : Row). r.kind ≡ Divides) (sym read) (is.frame.divides at entry low) in
      subst (λ (k : RowKind). HasModulus k entry.k) kind entry_formed.modulus

  pub entry_number : (point : List ℤ) → column_at point entry ≡ get_or (columns_at place.frame point) at (pos 0)
  entry_number point = ap (column_at point) read ∙ sym (get_or-map (column_at point) place.frame at entry (pos 0) low)

  pub arguments_more : (arguments : List ℕ) (i : ℕ) (exprs : List Expr) (e : Expr) (pushed : List Expr) → i < length arguments
      → at ≡ get_or arguments i at → AreArguments g place arguments i exprs → IsExprOver g place.variables e
      → ((point : List ℤ) → length entry.coefs ≡ length point → expr_value e point ≡ column_at point entry) → pushed ≡ exprs ++ e ∷ []
      → AreArguments g place arguments (i + 1) pushed
  arguments_more arguments i exprs e pushed inside here so_far over value is = rw is (record {
    over = All-append (IsExprOver g place.variables) exprs (e ∷ []) so_far.over
        (All-cons (IsExprOver g place.variables) e [] over (All-nil (IsExprOver g place.variables)));
    values = λ point long.
        let columns = columns_at place.frame point in
        let f : ℕ → ℤ = λ a. get_or columns a (pos 0) in
        let first = so_far.values point long in
        let one : expr_value e point ≡ f at = value point (entry_formed.width ∙ sym long) ∙ entry_number point in
        map_push (λ (x : Expr). expr_value x point) exprs e
        ∙ ap (λ (zs : List ℤ). zs ++ expr_value e point ∷ []) first
        ∙ ap (λ z. map f (take i arguments) ++ z ∷ []) (one ∙ ap f here)
        ∙ sym (map_more f arguments i at inside);
  })

pub call_is : (item : ItemView) (place : Place) (exprs : List Expr) (tree : Loop) (g : Gauge) (i : ℕ) → tree ≡ Call item.name exprs
    → length item.arguments ≤ i → AreArguments g place item.arguments i exprs → IsCallAt item place tree × IsLoopOver g place.variables tree
call_is item place exprs tree g i e end is = rw e (
  record {
    call = λ point here.
        let columns = columns_at place.frame point in
        let same : map (λ x. expr_value x point) exprs ≡ map (λ at. get_or columns at (pos 0)) item.arguments =
        is.values point here.width ∙ ap (map (λ at. get_or columns at (pos 0))) (take_all i item.arguments end) in
        rw same refl;
    turned = λ point. refl;
    idle = λ point. refl;
    depth = refl;
  },
  is.over,
)
