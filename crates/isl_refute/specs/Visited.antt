-- public: how many nodes of a proof are looked at: depth first, each once, up to the first that asks in vain. Where a node asks in vain
-- (its rows are not there, or cannot be added up, or it has too few parts or too many) none of its parts is looked at.
use Rattle.std.specs.Prelude.{Bool, true, false, ◌&&◌, if◌then◌else◌, int_lt, ℕ, ◌+◌, pos, List, [], ◌∷◌, map, slice_get}
use Rattle.std.specs.Prelude.{Option, Some, None}
use Rattle.isl_piece.specs.declared.row.Row.{Row}
use Rattle.isl_piece.specs.Negation.{below}
use Rattle.isl_piece.specs.Normal.{bound}
use Rattle.isl_piece.specs.System.{widened}
use Rattle.isl_refute.specs.declared.tree.Cert.{Cert, False, Add', Tie', Mod', Weaken', Fresh', Split', Residue', Outside', Row_of-Cert}
use Rattle.isl_refute.specs.declared.tree.Cert.{end_of-Cert, more_of-Cert}
use Rattle.isl_refute.specs.Refutes.{and_row, fresh_row, is_over, mod_row, negations, refutes, refutes_in, residue_rows, sum_row, tie_row}
use Rattle.isl_refute.specs.Refutes.{weaken_row, with_both, with_one}

-- where there is a row, the number of it
abbrev pub where_count : {A : Type 0} → Option A → (A → ℕ) → ℕ
where_count None count = 0
where_count (Some x) count = count x

-- there are as many parts as rows
abbrev pub fits : {m : _} → List Row → Row_of-Cert m → Bool
fits [] end_of-Cert = true
fits [] (more_of-Cert cert rest) = false
fits (r ∷ more) end_of-Cert = false
fits (r ∷ more) (more_of-Cert cert rest) = fits more rest

abbrev mutual
  -- the node, and of its parts those that are looked at
  pub visited : List (List Row) → ℕ → List Row → Cert → ℕ
  visited outs n rows (False i) = 1
  visited outs n rows (Add' i a j b s part) =
      1 + where_count (with_both (slice_get rows i) (slice_get rows j) (sum_row a b)) (λ r. visited_in outs n (and_row rows r) part)
  visited outs n rows (Tie' i j s part) =
      1 + where_count (with_both (slice_get rows i) (slice_get rows j) tie_row) (λ r. visited_in outs n (and_row rows r) part)
  visited outs n rows (Mod' i k s part) =
      1 + where_count (with_one (slice_get rows i) (mod_row k)) (λ r. visited_in outs n (and_row rows r) part)
  visited outs n rows (Weaken' i k s part) =
      1 + where_count (with_one (slice_get rows i) (weaken_row k)) (λ r. visited_in outs n (and_row rows r) part)
  visited outs n rows (Fresh' i s part) =
      1 + where_count (with_one (slice_get rows i) fresh_row) (λ r. visited_in outs (n + 1) (and_row (map widened rows) r) part)
  visited outs n rows (Split' form s up t down) =
      1 + (if is_over n form then visited_in outs n (and_row rows (bound form.coefs form.constant)) up
      + (if refutes_in outs n (and_row rows (bound form.coefs form.constant)) up
      then visited_in outs n (and_row rows (below form.coefs form.constant)) down else 0) else 0)
  visited outs n rows (Residue' form k s parts) =
      1 + (if is_over n form && (int_lt (pos 1) k && fits (residue_rows form k) parts)
      then visited_each outs n rows (residue_rows form k) parts else 0)
  visited outs n rows (Outside' q s parts) =
      1 + where_count (slice_get outs q)
      (λ out. if fits (negations n out) parts then visited_each outs n rows (negations n out) parts else 0)

  pub visited_in : {m : _} → List (List Row) → ℕ → List Row → Row_of-Cert m → ℕ
  visited_in outs n rows end_of-Cert = 0
  visited_in outs n rows (more_of-Cert cert rest) = visited outs n rows cert

  -- the next part only where the one before refutes
  pub visited_each : {m : _} → List (List Row) → ℕ → List Row → List Row → Row_of-Cert m → ℕ
  visited_each outs n rows [] parts = 0
  visited_each outs n rows (r ∷ more) end_of-Cert = 0
  visited_each outs n rows (r ∷ more) (more_of-Cert cert rest) =
      visited outs n (and_row rows r) cert
      + (if refutes outs n (and_row rows r) cert then visited_each outs n rows more rest else 0)
