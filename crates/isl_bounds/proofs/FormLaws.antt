-- Forms as expressions.
use Rattle.std.proofs.Common.{◌≡◌, sym, ap, ◌∙◌, subst, arith, ℕ, ◌+◌, ◌<◌, ◌≤◌, ℤ, pos, ◌+ℤ◌, ◌*ℤ◌, List, [], ◌∷◌, ◌++◌, length}
use Rattle.std.proofs.Common.{get_or, take}
use Rattle.std.specs.List.{All}
use Rattle.std.proofs.lemmas.List.{take_all}
use Rattle.std.proofs.lemmas.List.Elements.{All-push}
use Rattle.isl_math.specs.Dot.{dot}
use Rattle.isl_math.proofs.DotLaws.{dot-take_more}
use Rattle.isl_math.proofs.Ring.{linear}
use Rattle.isl_meter.specs.Gauge.{Gauge, IsWithin}
use Rattle.isl_loop.specs.declared.tree.Item.{Item}
use Rattle.isl_loop.specs.declared.tree.Atom.{Atom, Column}
use Rattle.isl_loop.specs.Expr.{atom_value}
use Rattle.isl_loop.specs.Lists.{sum_of, IsItemOver}
use Rattle.isl_ast.proofs.FormedLaws.{column_parts}

-- ---- one summand more
sum_push : (items : List Item) (item : Item) (point : List ℤ)
    → sum_of (items ++ item ∷ []) point ≡ sum_of items point +ℤ item.coef *ℤ atom_value item.atom point
sum_push [] item point = omega (arith, linear)
sum_push (one ∷ items) item point = omega (arith, linear, sum_push items item point)

-- the summands of the first coefficients
pub record AreSummands (coefs : List ℤ) (count : ℕ) (items : List Item) : Type 0 where
  pub over : (g : Gauge) (n : ℕ) → All (IsWithin g) coefs → length coefs ≡ n → All (IsItemOver g n) items
  pub value : (point : List ℤ) → length coefs ≡ length point → sum_of items point ≡ dot (take count coefs) (take count point)

pub summands_skip : (coefs : List ℤ) (i : ℕ) (items : List Item) (coef : ℤ) → i < length coefs → AreSummands coefs i items
    → coef ≡ get_or coefs i (pos 0) → coef ≡ pos 0 → AreSummands coefs (i + 1) items
summands_skip coefs i items coef low so_far read none = record {
  over = so_far.over;
  value = λ point long.
      let d = dot-take_more coefs point i low (omega (arith, low, long)) in
      let e = so_far.value point long in
      let z = ap (λ c. c *ℤ get_or point i (pos 0)) (sym read ∙ none) in
      omega (arith, linear, d, e, z);
}

pub summands_more : (coefs : List ℤ) (i : ℕ) (items : List Item) (item : Item) → i < length coefs → AreSummands coefs i items
    → item.coef ≡ get_or coefs i (pos 0) → item.atom ≡ Column i → AreSummands coefs (i + 1) (items ++ item ∷ [])
summands_more coefs i items item low so_far read at = record {
  over = λ g n within long.
      All-push (IsItemOver g n) items item (so_far.over g n within long) (record {
        coef = subst (IsWithin g) (sym read) (within i (pos 0) low);
        atom = (column_parts g n item.atom i at).1 (omega (arith, low, long));
      });
  value = λ point long.
      let d = dot-take_more coefs point i low (omega (arith, low, long)) in
      let e = so_far.value point long in
      let p = sum_push items item point in
      let v : atom_value item.atom point ≡ get_or point i (pos 0) = ap (λ (a : Atom). atom_value a point) at in
      let z = ap (λ c. c *ℤ atom_value item.atom point) read ∙ ap (λ x. get_or coefs i (pos 0) *ℤ x) v in
      omega (arith, linear, d, e, p, z);
}

pub summands_all : (coefs : List ℤ) (i : ℕ) (items : List Item) (point : List ℤ) → length coefs ≤ i → AreSummands coefs i items
    → length coefs ≡ length point → sum_of items point ≡ dot coefs point
summands_all coefs i items point end all long =
    all.value point long ∙ ap (λ (cs : List ℤ). dot cs (take i point)) (take_all i coefs end)
    ∙ ap (λ (xs : List ℤ). dot coefs xs) (take_all i point (omega (arith, end, long)))

pub summands_pushed : (coefs : List ℤ) (i : ℕ) (items pushed : List Item) (item : Item) → pushed ≡ items ++ item ∷ [] → i < length coefs
    → AreSummands coefs i items → item.coef ≡ get_or coefs i (pos 0) → item.atom ≡ Column i → AreSummands coefs (i + 1) pushed
summands_pushed coefs i items pushed item is low so_far read at =
    subst (AreSummands coefs (i + 1)) (sym is) (summands_more coefs i items item low so_far read at)
