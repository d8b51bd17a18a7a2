-- The numbers of any value are within the limit of some meter.
use Rattle.std.proofs.Common.{◌<◌, ◌≤◌, ◌+◌, ◌-◌, ◌^◌, ℕ, zero, suc, ℤ, List, [], ◌∷◌, All, unsigned_abs, arith}
use Rattle.std.proofs.lemmas.List.Elements.{All-nil, All-cons, All-weaker}
use Rattle.isl_meter.specs.Gauge.{Gauge}
use Rattle.isl_piece.specs.declared.definition.Definition.{Definition}
use Rattle.isl_piece.specs.declared.row.Row.{Row}
use Rattle.isl_piece.specs.Formed.{IsDefinitionUpTo}
use Rattle.isl_piece.specs.Row.{IsRowUpTo}
use Rattle.isl_piece.proofs.RowMagnitudes.{row_more, rows_more}
use Rattle.isl_union.specs.KeptValue.{KeptPiece, KeptValue}
use Rattle.isl_union.specs.Numbers.{HasNumbersUpTo, IsPieceUpTo, IsWithinLimit}

-- ---- numbers up to a limit are up to a greater one
definition_more : (m n : ℕ) (d : Definition) → m ≤ n → IsDefinitionUpTo m d → IsDefinitionUpTo n d
definition_more m n d less small = record {
  coefs = All-weaker (λ c. unsigned_abs c ≤ m) (λ c. unsigned_abs c ≤ n) (λ c p. omega (arith, p, less)) d.coefs small.coefs;
  constant = let p = small.constant in omega (arith, p, less);
  k = let p = small.k in omega (arith, p, less);
}

piece_more : (m n : ℕ) (piece : KeptPiece) → m ≤ n → IsPieceUpTo m piece → IsPieceUpTo n piece
piece_more m n piece less small = record {
  rows = rows_more m n piece.rows less small.rows;
  definitions = All-weaker (IsDefinitionUpTo m) (IsDefinitionUpTo n) (λ e p. definition_more m n e less p) piece.definitions
      small.definitions;
}

pub numbers_more : (m n : ℕ) (value : KeptValue) → m ≤ n → HasNumbersUpTo m value → HasNumbersUpTo n value
numbers_more m n value less small =
    All-weaker (IsPieceUpTo m) (IsPieceUpTo n) (λ piece p. piece_more m n piece less p) value.pieces small

-- ---- some limit
-- one for each gives one for all
one_for_all : {X : Type 0} (UpTo : ℕ → X → Type 0) → ((m n : ℕ) (x : X) → m ≤ n → UpTo m x → UpTo n x)
    → ((x : X) → (n : ℕ) × UpTo n x) → (xs : List X) → (n : ℕ) × All (UpTo n) xs
one_for_all UpTo more each [] = (0, All-nil (UpTo 0))
one_for_all UpTo more each (x ∷ xs) =
    let here = each x in
    let rest = one_for_all UpTo more each xs in
    let n = here.0 + rest.0 in (
      n,
      All-cons (UpTo n) x xs (more here.0 n x (omega arith) here.1)
          (All-weaker (UpTo rest.0) (UpTo n) (λ y p. more rest.0 n y (omega arith) p) xs rest.1),
    )

numbers_limit : (numbers : List ℤ) → (n : ℕ) × All (λ c. unsigned_abs c ≤ n) numbers
numbers_limit numbers =
    one_for_all (λ n c. unsigned_abs c ≤ n) (λ m n c less p. omega (arith, p, less)) (λ c. (unsigned_abs c, omega arith)) numbers

row_limit : (r : Row) → (n : ℕ) × IsRowUpTo n r
row_limit r =
    let coefs = numbers_limit r.coefs in
    let n = coefs.0 + unsigned_abs r.constant + unsigned_abs r.k in (
      n,
      record {
        coefs = All-weaker (λ c. unsigned_abs c ≤ coefs.0) (λ c. unsigned_abs c ≤ n) (λ c p. omega (arith, p)) r.coefs coefs.1;
        constant = omega arith;
        k = omega arith;
      },
    )

definition_limit : (d : Definition) → (n : ℕ) × IsDefinitionUpTo n d
definition_limit d =
    let coefs = numbers_limit d.coefs in
    let n = coefs.0 + unsigned_abs d.constant + unsigned_abs d.k in (
      n,
      record {
        coefs = All-weaker (λ c. unsigned_abs c ≤ coefs.0) (λ c. unsigned_abs c ≤ n) (λ c p. omega (arith, p)) d.coefs coefs.1;
        constant = omega arith;
        k = omega arith;
      },
    )

piece_limit : (piece : KeptPiece) → (n : ℕ) × IsPieceUpTo n piece
piece_limit piece =
    let rows = one_for_all IsRowUpTo row_more row_limit piece.rows in
    let definitions = one_for_all IsDefinitionUpTo definition_more definition_limit piece.definitions in
    let n = rows.0 + definitions.0 in (
      n,
      record {
        rows = rows_more rows.0 n piece.rows (omega arith) rows.1;
        definitions = All-weaker (IsDefinitionUpTo definitions.0) (IsDefinitionUpTo n)
            (λ d p. definition_more definitions.0 n d (omega arith) p) piece.definitions definitions.1;
      },
    )

below_power : (n : ℕ) → n < 2 ^ n
below_power zero = omega arith
below_power (suc n) = let h = below_power n in omega (arith, h)

pub some_limit : (value : KeptValue) → (g : Gauge) × IsWithinLimit g value
some_limit value =
    let limit = one_for_all IsPieceUpTo piece_more piece_limit value.pieces in
    let n = limit.0 in
    let large = below_power n in (
      record { bits = n; budget = 0; units = 0; overflows = 0; spents = 0 },
      numbers_more n (2 ^ n - 1) value (omega (arith, large)) limit.1,
    )
