-- Forms as sums.
use Rattle.std.proofs.Common.{◌≡◌, sym, ap, ◌∙◌, subst, arith, ℕ, ◌+◌, ◌<◌, ◌≤◌, ℤ, pos, ◌+ℤ◌, ◌*ℤ◌, List, [], ◌∷◌, ◌++◌, length, get_or, take}
use Rattle.std.specs.List.{All}
use Rattle.std.proofs.lemmas.List.{take_all}
use Rattle.std.proofs.lemmas.List.Elements.{All-nil, All-push}
use Rattle.isl_math.specs.Dot.{dot}
use Rattle.isl_math.proofs.DotLaws.{dot-take_more}
use Rattle.isl_math.proofs.Ring.{linear}
use Rattle.isl_meter.specs.Gauge.{Gauge, IsWithin}
use Rattle.isl_loop.specs.declared.tree.Item.{Item}
use Rattle.isl_loop.specs.declared.tree.Atom.{Atom, Column}
use Rattle.isl_loop.specs.Expr.{atom_value}
use Rattle.isl_loop.specs.Lists.{sum_of, IsItemOver}
use Rattle.isl_ast.proofs.FormedLaws.{column_parts}
use Rattle.isl_quast.specs.Quasi.{IsQuasiAtom}
use Rattle.isl_greatest.specs.Summands.{AreSummands}
use Rattle.isl_greatest.proofs.QuasiLaws.{sum_push, IsQuasiItem}

pub summands_first : (coefs : List ℤ) (items : List Item) → items ≡ [] → AreSummands coefs 0 items
summands_first coefs items is = subst (AreSummands coefs 0) (sym is) (record {
  over = λ g n within long. All-nil (IsItemOver g n);
  value = λ point long. omega (arith, linear);
  quasi = All-nil IsQuasiItem;
})

pub summands_skip : (coefs : List ℤ) (i : ℕ) (items : List Item) (coef : ℤ) → i < length coefs → AreSummands coefs i items
    → coef ≡ get_or coefs i (pos 0) → coef ≡ pos 0 → AreSummands coefs (i + 1) items
summands_skip coefs i items coef low so_far read none = record {
  over = so_far.over;
  value = λ point long.
      let d = dot-take_more coefs point i low (omega (arith, low, long)) in
      let e = so_far.value point long in
      let z = ap (λ c. c *ℤ get_or point i (pos 0)) (sym read ∙ none) in
      omega (arith, linear, d, e, z);
  quasi = so_far.quasi;
}

summands_more : (coefs : List ℤ) (i : ℕ) (items : List Item) (item : Item) → i < length coefs → AreSummands coefs i items
    → item.coef ≡ get_or coefs i (pos 0) → item.atom ≡ Column i → AreSummands coefs (i + 1) (items ++ item ∷ [])
summands_more coefs i items item low so_far read at = record {
  over = λ g n within long.
      All-push (IsItemOver g n) items item (so_far.over g n within long) (record {
        coef = subst (IsWithin g) (sym read) (within i (pos 0) low);
        atom = (column_parts g n item.atom i at).1 (omega (arith, low, long));
      });
  value = λ point long.
      let d = dot-take_more coefs point i low (omega (arith, low, long)) in
      let e = so_far.value point long in
      let p = sum_push items item point in
      let v : atom_value item.atom point ≡ get_or point i (pos 0) = ap (λ (a : Atom). atom_value a point) at in
      let z = ap (λ c. c *ℤ atom_value item.atom point) read ∙ ap (λ x. get_or coefs i (pos 0) *ℤ x) v in
      omega (arith, linear, d, e, p, z);
  quasi = All-push IsQuasiItem items item so_far.quasi (subst IsQuasiAtom (sym at) tt);
}

pub summands_pushed : (coefs : List ℤ) (i : ℕ) (items pushed : List Item) (item : Item) → pushed ≡ items ++ item ∷ [] → i < length coefs
    → AreSummands coefs i items → item.coef ≡ get_or coefs i (pos 0) → item.atom ≡ Column i → AreSummands coefs (i + 1) pushed
summands_pushed coefs i items pushed item is low so_far read at =
    subst (AreSummands coefs (i + 1)) (sym is) (summands_more coefs i items item low so_far read at)

pub summands_all : (coefs : List ℤ) (items : List Item) (point : List ℤ) → AreSummands coefs (length coefs) items
    → length coefs ≡ length point → sum_of items point ≡ dot coefs point
summands_all coefs items point all long =
    all.value point long ∙ ap (λ (cs : List ℤ). dot cs (take (length coefs) point)) (take_all (length coefs) coefs (omega arith))
    ∙ ap (λ (xs : List ℤ). dot coefs xs) (take_all (length coefs) point (omega (arith, long)))
