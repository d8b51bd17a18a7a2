-- public: how many nodes a proof has, and where a number that it asks for passes the limit of so many bits: a product or a sum, or a
-- number of a row that a node adds.
use Rattle.std.specs.Prelude.{◌≡◌, ◌⊎◌, true, ℕ, ◌+◌, ◌-◌, ◌<◌, ◌^◌, ℤ, pos, ◌+ℤ◌, ◌*ℤ◌, int_lt, unsigned_abs, List, [], ◌∷◌}
use Rattle.std.specs.Prelude.{Any, map, MatchOption, slice_get}
use Rattle.isl_meter.specs.Gauge.{Gauge, IsCharged}
use Rattle.isl_piece.specs.declared.row.Row.{Row}
use Rattle.isl_piece.specs.Negation.{below}
use Rattle.isl_piece.specs.Normal.{bound}
use Rattle.isl_piece.specs.System.{widened}
use Rattle.isl_refute.specs.declared.tree.Cert.{Cert, False, Add', Tie', Mod', Weaken', Fresh', Split', Residue', Outside', Row_of-Cert}
use Rattle.isl_refute.specs.declared.tree.Cert.{end_of-Cert, more_of-Cert}
use Rattle.isl_refute.specs.Refutes.{and_row, fresh_row, is_over, mod_row, negations, refutes, refutes_in, residue_rows, sum_row, tie_row}
use Rattle.isl_refute.specs.Refutes.{weaken_row, with_both, with_one}
use Rattle.isl_refute.specs.Visited.{fits, visited, visited_in}

-- ---- nodes
abbrev mutual
  pub nodes : Cert → ℕ
  nodes (False i) = 1
  nodes (Add' i a j b s part) = 1 + nodes_in part
  nodes (Tie' i j s part) = 1 + nodes_in part
  nodes (Mod' i k s part) = 1 + nodes_in part
  nodes (Weaken' i k s part) = 1 + nodes_in part
  nodes (Fresh' i s part) = 1 + nodes_in part
  nodes (Split' form s up t down) = 1 + (nodes_in up + nodes_in down)
  nodes (Residue' form k s parts) = 1 + nodes_each parts
  nodes (Outside' q s parts) = 1 + nodes_each parts

  pub nodes_in : {m : _} → Row_of-Cert m → ℕ
  nodes_in end_of-Cert = 0
  nodes_in (more_of-Cert cert rest) = nodes cert

  pub nodes_each : {m : _} → Row_of-Cert m → ℕ
  nodes_each end_of-Cert = 0
  nodes_each (more_of-Cert cert rest) = nodes cert + nodes_each rest

-- so many units were used, and nothing else happened
pub record IsCounted (old new : Gauge) (count : ℕ) : Type 0 where
  pub charged : IsCharged old new
  pub units : new.units ≡ old.units + count

-- ---- numbers past the limit
abbrev pub Above : ℕ → ℤ → Type 0
Above bits z = ¬ (unsigned_abs z < 2 ^ bits)

-- a number of the row
abbrev pub RowPasses : ℕ → Row → Type 0
RowPasses bits r = Any (Above bits) r.coefs ⊎ (Above bits r.constant ⊎ Above bits r.k)

-- a product, or the sum of the two
abbrev pub SumPasses : ℕ → ℤ → ℤ → ℤ → ℤ → Type 0
SumPasses bits a x b y = Above bits (a *ℤ x) ⊎ (Above bits (b *ℤ y) ⊎ Above bits (a *ℤ x +ℤ b *ℤ y))

abbrev pub SumsPass : ℕ → ℤ → List ℤ → ℤ → List ℤ → Type 0
SumsPass bits a [] b ys = ⊥
SumsPass bits a (x ∷ xs) b [] = ⊥
SumsPass bits a (x ∷ xs) b (y ∷ ys) = SumPasses bits a x b y ⊎ SumsPass bits a xs b ys

-- so in a times a row plus b times another one, where these can be added up
abbrev pub RowSumPasses : ℕ → ℤ → ℤ → Row → Row → Type 0
RowSumPasses bits a b r s =
    MatchOption (sum_row a b r s) ⊥ (λ _. SumsPass bits a r.coefs b s.coefs ⊎ SumPasses bits a r.constant b s.constant)

abbrev pub SumAtPasses : ℕ → List Row → ℕ → ℤ → ℕ → ℤ → Type 0
SumAtPasses bits rows i a j b = MatchOption (slice_get rows i) ⊥ (λ r. MatchOption (slice_get rows j) ⊥ (λ s. RowSumPasses bits a b r s))

abbrev mutual
  -- so in the node that is looked at as number m, from 1 on: a node asks for its numbers before any part of it is looked at
  pub Passes : ℕ → List (List Row) → ℕ → List Row → Cert → ℕ → Type 0
  Passes bits outs n rows (False i) m = ⊥
  Passes bits outs n rows (Add' i a j b s part) m =
      ((m ≡ 1) × SumAtPasses bits rows i a j b)
      ⊎ MatchOption (with_both (slice_get rows i) (slice_get rows j) (sum_row a b)) ⊥
      (λ r. PassesIn bits outs n (and_row rows r) part (m - 1))
  Passes bits outs n rows (Tie' i j s part) m =
      MatchOption (with_both (slice_get rows i) (slice_get rows j) tie_row) ⊥ (λ r. PassesIn bits outs n (and_row rows r) part (m - 1))
  Passes bits outs n rows (Mod' i k s part) m =
      MatchOption (with_one (slice_get rows i) (mod_row k)) ⊥
      (λ r. ((m ≡ 1) × RowPasses bits r) ⊎ PassesIn bits outs n (and_row rows r) part (m - 1))
  Passes bits outs n rows (Weaken' i k s part) m =
      MatchOption (with_one (slice_get rows i) (weaken_row k)) ⊥ (λ r. PassesIn bits outs n (and_row rows r) part (m - 1))
  Passes bits outs n rows (Fresh' i s part) m =
      MatchOption (with_one (slice_get rows i) fresh_row) ⊥
      (λ r. PassesIn bits outs (n + 1) (and_row (map widened rows) r) part (m - 1))
  Passes bits outs n rows (Split' form s up t down) m =
      (is_over n form ≡ true)
      × (((m ≡ 1) × (RowPasses bits (bound form.coefs form.constant) ⊎ RowPasses bits (below form.coefs form.constant)))
      ⊎ (PassesIn bits outs n (and_row rows (bound form.coefs form.constant)) up (m - 1)
      ⊎ ((refutes_in outs n (and_row rows (bound form.coefs form.constant)) up ≡ true)
      × PassesIn bits outs n (and_row rows (below form.coefs form.constant)) down
      ((m - 1) - visited_in outs n (and_row rows (bound form.coefs form.constant)) up))))
  Passes bits outs n rows (Residue' form k s parts) m =
      (is_over n form ≡ true) × (int_lt (pos 1) k ≡ true) × (fits (residue_rows form k) parts ≡ true)
      × (((m ≡ 1) × Any (RowPasses bits) (residue_rows form k)) ⊎ PassesEach bits outs n rows (residue_rows form k) parts (m - 1))
  Passes bits outs n rows (Outside' q s parts) m =
      MatchOption (slice_get outs q) ⊥ (λ out. (fits (negations n out) parts ≡ true)
      × (((m ≡ 1) × Any (RowPasses bits) (negations n out)) ⊎ PassesEach bits outs n rows (negations n out) parts (m - 1)))

  pub PassesIn : {m : _} → ℕ → List (List Row) → ℕ → List Row → Row_of-Cert m → ℕ → Type 0
  PassesIn bits outs n rows end_of-Cert m = ⊥
  PassesIn bits outs n rows (more_of-Cert cert rest) m = Passes bits outs n rows cert m

  -- in a part, and all parts before it refute
  pub PassesEach : {m : _} → ℕ → List (List Row) → ℕ → List Row → List Row → Row_of-Cert m → ℕ → Type 0
  PassesEach bits outs n rows [] parts m = ⊥
  PassesEach bits outs n rows (r ∷ more) end_of-Cert m = ⊥
  PassesEach bits outs n rows (r ∷ more) (more_of-Cert cert rest) m =
      Passes bits outs n (and_row rows r) cert m
      ⊎ ((refutes outs n (and_row rows r) cert ≡ true)
      × PassesEach bits outs n rows more rest (m - visited outs n (and_row rows r) cert))
