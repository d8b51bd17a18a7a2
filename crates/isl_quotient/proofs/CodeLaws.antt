-- Steps of the code.
use Rattle.std.proofs.Common.{◌≡◌, refl, sym, ap, subst, ◌∙◌, arith, ℕ, ◌+◌, ◌-◌, ◌<◌, pos, ◌<ℤ◌}
use Rattle.std.proofs.Common.{List, [], ◌∷◌, ◌++◌, length, get_or, map, take, to_z-of_z}
use Rattle.std.specs.List.{All, remove}
use Rattle.std.proofs.lemmas.List.{take_more}
use Rattle.std.proofs.lemmas.List.Edits.{length-remove}
use Rattle.isl_meter.specs.Gauge.{Gauge}
use Rattle.isl_piece.specs.declared.definition.Definition.{Definition}
use Rattle.isl_piece.specs.declared.row.Row.{Row}
use Rattle.isl_piece.specs.declared.system.System.{System}
use Rattle.isl_piece.specs.Row.{IsWellFormed}
use Rattle.isl_piece.specs.System.{IsSystemWithin, free_columns, with_definition}
use Rattle.isl_piece.proofs.DefinedLaws.{definition_at}
use Rattle.isl_elim.proofs.OppositeLaws.{opposite_more, opposite_all}
use Rattle.isl_quotient.specs.Quotient.{short_definition}

-- the definition at the place, without the column
pub short_wide : (g : Gauge) (s : System) (i col : ℕ) (d : Definition) → IsSystemWithin g s → i < length s.definitions
    → d ≡ get_or s.definitions i d → col < free_columns s
    → (col < length d.coefs) × (length (remove d.coefs col) ≡ free_columns s - 1 + i) × (pos 0 <ℤ d.k)
short_wide g s i col d w l at c =
    let is = definition_at g (free_columns s) s.definitions i d w.definitions l in
    let width : length d.coefs ≡ free_columns s + i = ap (λ (e : Definition). length e.coefs) at ∙ is.width in
    let short = length-remove d.coefs col (omega (arith, width, c)) in
    (omega (arith, width, c), omega (arith, width, short, c), subst (λ k. pos 0 <ℤ k) (ap (λ (e : Definition). e.k) (sym at)) is.modulus)

pub short_inside : (g : Gauge) (s : System) (i col : ℕ) (d : Definition) → IsSystemWithin g s → i < length s.definitions
    → d ≡ get_or s.definitions i d → col < free_columns s → col < length d.coefs
short_inside g s i col d w l at c = (short_wide g s i col d w l at c).0

pub short_width : (g : Gauge) (s : System) (i col : ℕ) (d : Definition) → IsSystemWithin g s → i < length s.definitions
    → d ≡ get_or s.definitions i d → col < free_columns s
    → length (remove d.coefs col) ≡ free_columns s - 1 + i
short_width g s i col d w l at c = (short_wide g s i col d w l at c).1

pub short_modulus : (g : Gauge) (s : System) (i col : ℕ) (d : Definition) → IsSystemWithin g s → i < length s.definitions
    → d ≡ get_or s.definitions i d → col < free_columns s → pos 0 <ℤ d.k
short_modulus g s i col d w l at c = (short_wide g s i col d w l at c).2

mapped_push : (f : Definition → Definition) (xs : List Definition) (d : Definition) → map f (xs ++ d ∷ []) ≡ map f xs ++ f d ∷ []
mapped_push f [] d = refl
mapped_push f (x ∷ xs) d = ap (λ (ys : List Definition). f x ∷ ys) (mapped_push f xs d)

-- one definition more
pub short_next : (s made next : System) (i col : ℕ) (d : Definition) → i < length s.definitions → d ≡ get_or s.definitions i d
    → made.definitions ≡ map (short_definition col) (take i s.definitions) → next ≡ with_definition made (short_definition col d)
    → next.definitions ≡ map (short_definition col) (take (i + 1) s.definitions)
short_next s made next i col d l at are is =
    ap (λ (t : System). t.definitions) is
    ∙ ap (λ (ds : List Definition). ds ++ short_definition col d ∷ []) are
    ∙ sym (mapped_push (short_definition col) (take i s.definitions) d)
    ∙ ap (map (short_definition col)) (ap (λ (e : Definition). take i s.definitions ++ e ∷ []) at ∙ sym (take_more s.definitions i d l))

pub rows_wide : (columns col : ℕ) (rows : List Row) → All (IsWellFormed columns) rows → col < columns → All (λ r. col < length r.coefs) rows
rows_wide columns col rows f l k r i = let w = (f k r i).width in omega (arith, w, l)

pub ruleset quotient_steps = (to_z-of_z, opposite_more, opposite_all, short_inside, short_width, short_modulus, short_next, rows_wide)
