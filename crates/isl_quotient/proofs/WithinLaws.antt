-- The system with the quotient is one within the limit.
use Rattle.std.proofs.Common.{◌≡◌, sym, subst, ◌∙◌, arith, ℕ, zero, suc, ◌+◌, ◌-◌, ◌<◌, ◌≤◌, ℤ, pos, ◌<ℤ◌, List, [], ◌∷◌, ◌++◌, length}
use Rattle.std.proofs.Common.{length-append, get_or, map}
use Rattle.std.specs.List.{All, remove}
use Rattle.std.proofs.lemmas.List.Edits.{length-remove}
use Rattle.std.proofs.lemmas.List.Elements.{All-nil, All-cons, All-head, All-tail, All-map, All-append}
use Rattle.isl_meter.specs.Gauge.{Gauge, IsWithin}
use Rattle.isl_piece.specs.declared.definition.Definition.{Definition}
use Rattle.isl_piece.specs.declared.row.Row.{Row}
use Rattle.isl_piece.specs.declared.system.System.{System}
use Rattle.isl_piece.specs.Definition.{IsDefinition, AreDefinitions}
use Rattle.isl_piece.specs.Row.{coef_at, IsWellFormed, IsRowWithin}
use Rattle.isl_piece.specs.System.{IsSystemWithin, free_columns}
use Rattle.isl_piece.proofs.DefinedLaws.{AreDefinitions-push}
use Rattle.isl_quotient.specs.Quotient.{turned, turned_row, short_definition, quotient_of, with_quotient}
use Rattle.isl_quotient.proofs.QuotientLaws.{length-mapped}

All-remove : (P : ℤ → Type 0) (xs : List ℤ) (i : ℕ) → All P xs → All P (remove xs i)
All-remove P [] zero a = a
All-remove P [] (suc i) a = a
All-remove P (x ∷ xs) zero a = All-tail P x xs a
All-remove P (x ∷ xs) (suc i) a = All-cons P x (remove xs i) (All-head P x xs a) (All-remove P xs i (All-tail P x xs a))

length-turned : (col : ℕ) (xs : List ℤ) → col < length xs → length (turned col xs) ≡ length xs
length-turned col xs l =
    let a = length-append (remove xs col) (get_or xs col (pos 0) ∷ []) in
    let b = length-remove xs col l in
    omega (arith, a, b, l)

row_formed : (columns col : ℕ) (r : Row) → col < columns → IsWellFormed columns r → IsWellFormed columns (turned_row col r)
row_formed columns col r l f =
    let w = f.width in record { width = length-turned col r.coefs (omega (arith, w, l)) ∙ w; modulus = f.modulus }

row_within : (g : Gauge) (columns col : ℕ) (r : Row) → col < columns → IsWellFormed columns r → IsRowWithin g r
    → IsRowWithin g (turned_row col r)
row_within g columns col r l f h = let w = f.width in record {
  coefs = All-append (IsWithin g) (remove r.coefs col) (get_or r.coefs col (pos 0) ∷ []) (All-remove (IsWithin g) r.coefs col h.coefs)
      (All-cons (IsWithin g) (get_or r.coefs col (pos 0)) [] (h.coefs col (pos 0) (omega (arith, w, l))) (All-nil (IsWithin g)));
  constant = h.constant;
  k = h.k;
}

definitions_short : (g : Gauge) (n col : ℕ) (definitions : List Definition) → col ≤ n → AreDefinitions g (suc n) definitions
    → AreDefinitions g n (map (short_definition col) definitions)
definitions_short g n col [] l a = tt
definitions_short g n col (d ∷ definitions) l a =
    let w = a.0.width in
    let short = length-remove d.coefs col (omega (arith, w, l)) in (
      record {
        width = omega (arith, w, short);
        modulus = a.0.modulus;
        coefs = All-remove (IsWithin g) d.coefs col a.0.coefs;
        constant = a.0.constant;
        k = a.0.k;
      },
      definitions_short g (suc n) col definitions (omega (arith, l)) a.1,
    )

pub quotient_within : (g : Gauge) (s : System) (col : ℕ) (upper lower : Row) → IsSystemWithin g s → col < free_columns s
    → IsWellFormed s.columns upper → IsRowWithin g upper
    → IsWellFormed s.columns lower → IsRowWithin g lower → pos 0 <ℤ coef_at lower col
    → (free_columns (with_quotient col upper lower s) ≡ free_columns s - 1) × IsSystemWithin g (with_quotient col upper lower s)
quotient_within g s col upper lower w l uf uw lf lw p =
    let short = map (short_definition col) s.definitions in
    let d = quotient_of col upper lower in
    let count = w.count in
    let same = length-mapped (short_definition col) s.definitions in
    let all = length-append short (d ∷ []) in
    let inside : col < s.columns = omega (arith, l) in
    let free : s.columns - length (short ++ d ∷ []) ≡ free_columns s - 1 = omega (arith, all, same, l, count) in
    let before : suc (free_columns s - 1) ≡ free_columns s = omega (arith, l) in
    let width = uf.width in
    let wide = length-remove upper.coefs col (omega (arith, width, inside)) in
    let lw' = lf.width in
    let last : IsDefinition g (free_columns s - 1 + length short) d = record {
      width = omega (arith, wide, width, same, l, count);
      modulus = p;
      coefs = All-remove (IsWithin g) upper.coefs col uw.coefs;
      constant = uw.constant;
      k = lw.coefs col (pos 0) (omega (arith, lw', inside));
    } in
    let defined =
    definitions_short g (free_columns s - 1) col s.definitions (omega (arith, l))
    (subst (λ n. AreDefinitions g n s.definitions) (sym before) w.definitions) in (
      free,
      record {
        rows =
            All-map (IsWellFormed s.columns) (turned_row col) s.rows (λ k r i. row_formed s.columns col (get_or s.rows k r) inside
            (w.rows k r i));
        within =
            All-map (IsRowWithin g) (turned_row col) s.rows (λ k r i. row_within g s.columns col (get_or s.rows k r) inside (w.rows k r i)
            (w.within k r i));
        count = omega (arith, all, same, l, count);
        definitions =
            subst (λ n. AreDefinitions g n (short ++ d ∷ [])) (sym free) (AreDefinitions-push g (free_columns s - 1) short d defined last);
      },
    )
