-- What systems with numbers in the place of their first columns say.
use Rattle.std.proofs.Common.{◌≡◌, ◌↔◌, ◌∙◌, refl, sym, ap, subst, arith, ℕ, ◌+◌, ◌-◌, ◌<◌, ◌≤◌, ℤ, ◌+ℤ◌, List, [], ◌++◌, length, get_or}
use Rattle.std.proofs.Common.{map, take, drop, to_z-of_z}
use Rattle.std.specs.List.{All}
use Rattle.std.proofs.lemmas.List.{length-drop, length-take-le, nil_from_length, take-append-drop, get_or_read}
use Rattle.std.proofs.lemmas.List.Elements.{All-drop, All-map}
use Rattle.isl_math.specs.Dot.{dot}
use Rattle.isl_math.proofs.DotLaws.{dot-append, dot-take_more}
use Rattle.isl_math.proofs.ListLaws.{All-unmapped}
use Rattle.isl_math.proofs.Ring.{linear}
use Rattle.isl_meter.specs.Gauge.{Gauge, IsWithin}
use Rattle.isl_meter.proofs.CutLemmas.{charges}
use Rattle.isl_piece.specs.declared.row.Row.{Row}
use Rattle.isl_piece.specs.declared.system.System.{System}
use Rattle.isl_piece.specs.Row.{HoldsValue, HoldsRow, value_at, IsWellFormed, IsRowWithin}
use Rattle.isl_piece.specs.System.{HoldsSystem, IsSystemWithin, free_columns}
use Rattle.isl_elim.proofs.ProjectionLaws.{plain_free, plain_holds}
use Rattle.isl_tower.specs.Bounded.{IsBounded, IsBoundedAt}
use Rattle.isl_tower.specs.Numbers.{row_at, system_at}

-- the row says of the other numbers what it said of all
value_at_numbers : (numbers : List ℤ) (r : Row) (rest : List ℤ) → length numbers ≤ length r.coefs
    → value_at (row_at numbers r) rest ≡ value_at r (numbers ++ rest)
value_at_numbers numbers r rest h =
    let n = length numbers in
    let whole : dot r.coefs (numbers ++ rest) ≡ dot (take n r.coefs) numbers +ℤ dot (drop n r.coefs) rest =
    ap (λ (cs : List ℤ). dot cs (numbers ++ rest)) (sym (take-append-drop n r.coefs))
    ∙ dot-append (take n r.coefs) (drop n r.coefs) numbers rest (length-take-le n r.coefs h) in
    by (dot (drop n r.coefs) rest) r.constant (dot (take n r.coefs) numbers) (dot r.coefs (numbers ++ rest)) whole
  where
    by : (d c t w : ℤ) → w ≡ t +ℤ d → d +ℤ (t +ℤ c) ≡ w +ℤ c
    by d c t w e = omega (arith, linear)

holds_row_at : (numbers : List ℤ) (r : Row) (rest : List ℤ) → length numbers ≤ length r.coefs
    → HoldsRow (row_at numbers r) rest ↔ HoldsRow r (numbers ++ rest)
holds_row_at numbers r rest h =
    let e = value_at_numbers numbers r rest h in (
      (λ m. subst (λ v. HoldsValue r.kind r.k v) e m),
      (λ m. subst (λ v. HoldsValue r.kind r.k v) (sym e) m),
    )

pub holds_system_at : (columns : ℕ) (numbers : List ℤ) (s : System) (rest : List ℤ) → s.definitions ≡ []
    → All (IsWellFormed columns) s.rows → length numbers ≤ columns
    → HoldsSystem (system_at numbers s) rest ↔ HoldsSystem s (numbers ++ rest)
holds_system_at columns numbers s rest d w h = (
  (λ m. (plain_holds s (numbers ++ rest) d).1
      (let u = All-unmapped (λ r. HoldsRow r rest) (row_at numbers) s.rows m in λ i e l. (one i e l).0 (u i e l))),
  (λ m. let u = (plain_holds s (numbers ++ rest) d).0 m in
      All-map (λ r. HoldsRow r rest) (row_at numbers) s.rows (λ i e l. (one i e l).1 (u i e l))),
)
  where
    one : (i : ℕ) (e : Row) → (l : i < length s.rows)
        → HoldsRow (row_at numbers (get_or s.rows i e)) rest ↔ HoldsRow (get_or s.rows i e) (numbers ++ rest)
    one i e l = holds_row_at numbers (get_or s.rows i e) rest (let k = (w i e l).width in omega (arith, k, h))

row_formed : (columns : ℕ) (numbers : List ℤ) (r : Row) → IsWellFormed columns r
    → IsWellFormed (columns - length numbers) (row_at numbers r)
row_formed columns numbers r w = record {
  width = let k = length-drop (length numbers) r.coefs in let e = w.width in omega (arith, k, e);
  modulus = w.modulus;
}

-- the numbers of the row are within the limit
pub row_within_at : (g : Gauge) (numbers : List ℤ) (r : Row) → IsRowWithin g r → IsWithin g (row_at numbers r).constant
    → IsRowWithin g (row_at numbers r)
row_within_at g numbers r w c = record { coefs = All-drop (IsWithin g) (length numbers) r.coefs w.coefs; constant = c; k = w.k }

pub system_within_at : (g : Gauge) (numbers : List ℤ) (s : System) → IsSystemWithin g s
    → All (λ r. IsWithin g r.constant) (map (row_at numbers) s.rows)
    → IsSystemWithin g (system_at numbers s)
system_within_at g numbers s w c = record {
  rows = All-map (IsWellFormed (s.columns - length numbers)) (row_at numbers) s.rows
      (λ i e l. row_formed s.columns numbers (get_or s.rows i e) (w.rows i e l));
  within = (let u = All-unmapped (λ r. IsWithin g r.constant) (row_at numbers) s.rows c in
      All-map (IsRowWithin g) (row_at numbers) s.rows (λ i e l. row_within_at g numbers (get_or s.rows i e) (w.within i e l) (u i e l)));
  count = omega arith;
  definitions = tt;
}

-- bounded at the numbers
pub bounded_at : (g : Gauge) (numbers : List ℤ) (s : System) → IsSystemWithin g s → s.definitions ≡ [] → length numbers ≤ free_columns s
    → IsBounded (system_at numbers s) 0 ↔ IsBoundedAt s numbers
bounded_at g numbers s w d h =
    let free = plain_free s d in
    let n : length numbers ≤ s.columns = omega (arith, free, h) in (
      (λ b. let z = b [] refl in
          (z.0, λ rest l m. z.1 rest (omega (arith, l, free, n)) ((holds_system_at s.columns numbers s rest d w.rows n).1 m))),
      (λ b front e.
          let none = nil_from_length front e in
          rw none (b.0, λ rest l m. b.1 rest (omega (arith, l, free, n)) ((holds_system_at s.columns numbers s rest d w.rows n).0 m))),
    )

pub ruleset number_steps = (to_z-of_z, get_or_read, charges, dot-take_more)
