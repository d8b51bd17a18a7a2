-- How many nodes are looked at: at most all, and all where the proof refutes.
use Rattle.std.proofs.Common.{◌≡◌, ◌∙◌, refl, sym, ap, ap₂, arith, Bool, true, false, ◌&&◌, int_lt, ℕ, ◌+◌, ◌≤◌, pos, List, [], ◌∷◌, map}
use Rattle.std.proofs.Common.{slice_get, Option, Some, None}
use Rattle.std.specs.Prelude.{if◌then◌else◌}
use Rattle.std.proofs.lemmas.Bool.{and_parts, true≢false}
use Rattle.isl_piece.specs.declared.row.Row.{Row}
use Rattle.isl_piece.specs.Negation.{below}
use Rattle.isl_piece.specs.Normal.{bound}
use Rattle.isl_piece.specs.System.{widened}
use Rattle.isl_refute.specs.declared.tree.Cert.{Cert, False, Add', Tie', Mod', Weaken', Fresh', Split', Residue', Outside', Row_of-Cert}
use Rattle.isl_refute.specs.declared.tree.Cert.{end_of-Cert, more_of-Cert}
use Rattle.isl_refute.specs.Passes.{nodes, nodes_each, nodes_in}
use Rattle.isl_refute.specs.Refutes.{and_row, fresh_row, is_over, mod_row, negations, refutes, refutes_each, refutes_in, residue_rows}
use Rattle.isl_refute.specs.Refutes.{sum_row}
use Rattle.isl_refute.specs.Refutes.{tie_row, weaken_row, with_both, with_one}
use Rattle.isl_refute.specs.Visited.{fits, visited, visited_each, visited_in, where_count}
use Rattle.isl_refute.proofs.Sound.{found_some}

where_most : {A : Type 0} (o : Option A) (count : A → ℕ) (most : ℕ) → ((x : A) → count x ≤ most) → where_count o count ≤ most
where_most None count most f = omega arith
where_most (Some x) count most f = f x

if_most : (b : Bool) (few most : ℕ) → few ≤ most → (if b then few else 0) ≤ most
if_most true few most l = l
if_most false few most l = omega arith

one_more : (few most : ℕ) → few ≤ most → 1 + few ≤ 1 + most
one_more few most l = omega arith

row_most : {A : Type 0} (o : Option A) (count : A → ℕ) (most : ℕ) → ((x : A) → count x ≤ most) → 1 + where_count o count ≤ 1 + most
row_most o count most f = one_more (where_count o count) most (where_most o count most f)

plus_most : (few other most all : ℕ) → few ≤ most → other ≤ all → few + other ≤ most + all
plus_most few other most all l k = omega arith

both_most : (b c : Bool) (few other most all : ℕ) → few ≤ most → other ≤ all
    → (if b then few + (if c then other else 0) else 0) ≤ most + all
both_most b c few other most all l k =
    if_most b (few + (if c then other else 0)) (most + all) (plus_most few (if c then other else 0) most all l (if_most c other all k))

-- where there is a row, its number
where_found : {A : Type 0} (o : Option A) (x : A) (count : A → ℕ) → o ≡ Some x → where_count o count ≡ count x
where_found o x count found = ap (λ p. where_count p count) found

if_true : (b : Bool) (count : ℕ) → b ≡ true → (if b then count else 0) ≡ count
if_true b count is = ap (λ c. if c then count else 0) is

both_whole : (b c : Bool) (few other most all : ℕ) → b ≡ true → c ≡ true → few ≡ most → other ≡ all
    → (if b then few + (if c then other else 0) else 0) ≡ most + all
both_whole b c few other most all is says same alike =
    if_true b (few + (if c then other else 0)) is ∙ ap₂ (λ (u v : ℕ). u + v) same (if_true c other says ∙ alike)

-- ---- at most all
module _ (outs : List (List Row)) where
  mutual
    pub visited_most : (cert : Cert) (n : ℕ) (rows : List Row) → visited outs n rows cert ≤ nodes cert
    visited_most (False i) n rows = omega arith
    visited_most (Add' i a j b s part) n rows =
        row_most (with_both (slice_get rows i) (slice_get rows j) (sum_row a b)) (λ r. visited_in outs n (and_row rows r) part)
        (nodes_in part) (λ r. in_most part n (and_row rows r))
    visited_most (Tie' i j s part) n rows =
        row_most (with_both (slice_get rows i) (slice_get rows j) tie_row) (λ r. visited_in outs n (and_row rows r) part) (nodes_in part)
        (λ r. in_most part n (and_row rows r))
    visited_most (Mod' i k s part) n rows =
        row_most (with_one (slice_get rows i) (mod_row k)) (λ r. visited_in outs n (and_row rows r) part) (nodes_in part)
        (λ r. in_most part n (and_row rows r))
    visited_most (Weaken' i k s part) n rows =
        row_most (with_one (slice_get rows i) (weaken_row k)) (λ r. visited_in outs n (and_row rows r) part) (nodes_in part)
        (λ r. in_most part n (and_row rows r))
    visited_most (Fresh' i s part) n rows =
        row_most (with_one (slice_get rows i) fresh_row) (λ r. visited_in outs (n + 1) (and_row (map widened rows) r) part) (nodes_in part)
        (λ r. in_most part (n + 1) (and_row (map widened rows) r))
    visited_most (Split' form s up t down) n rows =
        one_more (if is_over n form then visited_in outs n (and_row rows (bound form.coefs form.constant)) up
        + (if refutes_in outs n (and_row rows (bound form.coefs form.constant)) up
        then visited_in outs n (and_row rows (below form.coefs form.constant)) down else 0) else 0) (nodes_in up + nodes_in down)
        (both_most (is_over n form) (refutes_in outs n (and_row rows (bound form.coefs form.constant)) up)
        (visited_in outs n (and_row rows (bound form.coefs form.constant)) up)
        (visited_in outs n (and_row rows (below form.coefs form.constant)) down) (nodes_in up) (nodes_in down)
        (in_most up n (and_row rows (bound form.coefs form.constant))) (in_most down n (and_row rows (below form.coefs form.constant))))
    visited_most (Residue' form k s parts) n rows =
        one_more (if is_over n form && (int_lt (pos 1) k && fits (residue_rows form k) parts)
        then visited_each outs n rows (residue_rows form k) parts else 0) (nodes_each parts)
        (if_most (is_over n form && (int_lt (pos 1) k && fits (residue_rows form k) parts))
        (visited_each outs n rows (residue_rows form k) parts) (nodes_each parts) (each_most (residue_rows form k) parts n rows))
    visited_most (Outside' q s parts) n rows =
        row_most (slice_get outs q)
        (λ out. if fits (negations n out) parts then visited_each outs n rows (negations n out) parts else 0) (nodes_each parts)
        (λ out. if_most (fits (negations n out) parts) (visited_each outs n rows (negations n out) parts) (nodes_each parts)
        (each_most (negations n out) parts n rows))

    in_most : {m : _} (part : Row_of-Cert m) (n : ℕ) (rows : List Row) → visited_in outs n rows part ≤ nodes_in part
    in_most end_of-Cert n rows = omega arith
    in_most (more_of-Cert cert rest) n rows = visited_most cert n rows

    each_most : {m : _} (more : List Row) (parts : Row_of-Cert m) (n : ℕ) (rows : List Row)
        → visited_each outs n rows more parts ≤ nodes_each parts
    each_most [] parts n rows = omega arith
    each_most (r ∷ more) end_of-Cert n rows = omega arith
    each_most (r ∷ more) (more_of-Cert cert rest) n rows =
        plus_most (visited outs n (and_row rows r) cert)
        (if refutes outs n (and_row rows r) cert then visited_each outs n rows more rest else 0) (nodes cert) (nodes_each rest)
        (visited_most cert n (and_row rows r))
        (if_most (refutes outs n (and_row rows r) cert) (visited_each outs n rows more rest) (nodes_each rest) (each_most more rest n rows))

  -- ---- all of a proof that refutes
  each_fits : {m : _} (n : ℕ) (rows more : List Row) (parts : Row_of-Cert m) → refutes_each outs n rows more parts ≡ true
      → fits more parts ≡ true
  each_fits n rows [] end_of-Cert e = refl
  each_fits n rows [] (more_of-Cert cert rest) e = e
  each_fits n rows (r ∷ more) end_of-Cert e = e
  each_fits n rows (r ∷ more) (more_of-Cert cert rest) e =
      each_fits n rows more rest (and_parts (refutes outs n (and_row rows r) cert) (refutes_each outs n rows more rest) e).1

  mutual
    pub visited_whole : (cert : Cert) (n : ℕ) (rows : List Row) → refutes outs n rows cert ≡ true → visited outs n rows cert ≡ nodes cert
    visited_whole (False i) n rows e = refl
    visited_whole (Add' i a j b s part) n rows e =
        let o = with_both (slice_get rows i) (slice_get rows j) (sum_row a b) in
        let g = found_some o (λ r. refutes_in outs n (and_row rows r) part) e in
        ap (λ (u : ℕ). 1 + u)
        (where_found o g.0 (λ r. visited_in outs n (and_row rows r) part) g.1 ∙ in_whole part n (and_row rows g.0) g.2)
    visited_whole (Tie' i j s part) n rows e =
        let o = with_both (slice_get rows i) (slice_get rows j) tie_row in
        let g = found_some o (λ r. refutes_in outs n (and_row rows r) part) e in
        ap (λ (u : ℕ). 1 + u)
        (where_found o g.0 (λ r. visited_in outs n (and_row rows r) part) g.1 ∙ in_whole part n (and_row rows g.0) g.2)
    visited_whole (Mod' i k s part) n rows e =
        let o = with_one (slice_get rows i) (mod_row k) in
        let g = found_some o (λ r. refutes_in outs n (and_row rows r) part) e in
        ap (λ (u : ℕ). 1 + u)
        (where_found o g.0 (λ r. visited_in outs n (and_row rows r) part) g.1 ∙ in_whole part n (and_row rows g.0) g.2)
    visited_whole (Weaken' i k s part) n rows e =
        let o = with_one (slice_get rows i) (weaken_row k) in
        let g = found_some o (λ r. refutes_in outs n (and_row rows r) part) e in
        ap (λ (u : ℕ). 1 + u)
        (where_found o g.0 (λ r. visited_in outs n (and_row rows r) part) g.1 ∙ in_whole part n (and_row rows g.0) g.2)
    visited_whole (Fresh' i s part) n rows e =
        let o = with_one (slice_get rows i) fresh_row in
        let g = found_some o (λ r. refutes_in outs (n + 1) (and_row (map widened rows) r) part) e in
        ap (λ (u : ℕ). 1 + u)
        (where_found o g.0 (λ r. visited_in outs (n + 1) (and_row (map widened rows) r) part) g.1
        ∙ in_whole part (n + 1) (and_row (map widened rows) g.0) g.2)
    visited_whole (Split' form s up t down) n rows e =
        let parts = and_parts (is_over n form) (refutes_in outs n (and_row rows (bound form.coefs form.constant)) up
        && refutes_in outs n (and_row rows (below form.coefs form.constant)) down) e in
        let both = and_parts (refutes_in outs n (and_row rows (bound form.coefs form.constant)) up)
        (refutes_in outs n (and_row rows (below form.coefs form.constant)) down) parts.1 in
        ap (λ (u : ℕ). 1 + u)
        (both_whole (is_over n form) (refutes_in outs n (and_row rows (bound form.coefs form.constant)) up)
        (visited_in outs n (and_row rows (bound form.coefs form.constant)) up)
        (visited_in outs n (and_row rows (below form.coefs form.constant)) down) (nodes_in up) (nodes_in down) parts.0 both.0
        (in_whole up n (and_row rows (bound form.coefs form.constant)) both.0)
        (in_whole down n (and_row rows (below form.coefs form.constant)) both.1))
    visited_whole (Residue' form k s parts) n rows e =
        let first = and_parts (is_over n form) (int_lt (pos 1) k && refutes_each outs n rows (residue_rows form k) parts) e in
        let rest = and_parts (int_lt (pos 1) k) (refutes_each outs n rows (residue_rows form k) parts) first.1 in
        ap (λ (u : ℕ). 1 + u)
        (if_true (is_over n form && (int_lt (pos 1) k && fits (residue_rows form k) parts))
        (visited_each outs n rows (residue_rows form k) parts)
        (ap₂ (λ b c. b && c) first.0 (ap₂ (λ b c. b && c) rest.0 (each_fits n rows (residue_rows form k) parts rest.1)))
        ∙ each_whole (residue_rows form k) parts n rows rest.1)
    visited_whole (Outside' q s parts) n rows e =
        let g = found_some (slice_get outs q) (λ out. refutes_each outs n rows (negations n out) parts) e in
        ap (λ (u : ℕ). 1 + u)
        (where_found (slice_get outs q) g.0
        (λ out. if fits (negations n out) parts then visited_each outs n rows (negations n out) parts else 0) g.1
        ∙ (if_true (fits (negations n g.0) parts) (visited_each outs n rows (negations n g.0) parts)
        (each_fits n rows (negations n g.0) parts g.2) ∙ each_whole (negations n g.0) parts n rows g.2))

    in_whole : {m : _} (part : Row_of-Cert m) (n : ℕ) (rows : List Row) → refutes_in outs n rows part ≡ true
        → visited_in outs n rows part ≡ nodes_in part
    in_whole end_of-Cert n rows e = refl
    in_whole (more_of-Cert cert rest) n rows e = visited_whole cert n rows e

    each_whole : {m : _} (more : List Row) (parts : Row_of-Cert m) (n : ℕ) (rows : List Row) → refutes_each outs n rows more parts ≡ true
        → visited_each outs n rows more parts ≡ nodes_each parts
    each_whole [] end_of-Cert n rows e = refl
    each_whole [] (more_of-Cert cert rest) n rows e = absurd (true≢false (sym e))
    each_whole (r ∷ more) end_of-Cert n rows e = absurd (true≢false (sym e))
    each_whole (r ∷ more) (more_of-Cert cert rest) n rows e =
        let both = and_parts (refutes outs n (and_row rows r) cert) (refutes_each outs n rows more rest) e in
        ap₂ (λ (u v : ℕ). u + v) (visited_whole cert n (and_row rows r) both.0)
        (if_true (refutes outs n (and_row rows r) cert) (visited_each outs n rows more rest) both.0 ∙ each_whole more rest n rows both.1)
