-- inner: the parts of a node, as lists.
use Rattle.std.specs.Prelude.{◌≡◌, Bool, true, false, ◌&&◌, if◌then◌else◌, ◌⊎◌, ℕ, ◌+◌, ◌-◌, ℤ, pos, int_lt, List, [], ◌∷◌, ◌++◌}
use Rattle.std.specs.Prelude.{length, codes, Any}
use Rattle.isl_meter.specs.Gauge.{Gauge, IsCharged}
use Rattle.isl_piece.specs.declared.row.Row.{Row}
use Rattle.isl_piece.specs.Negation.{below}
use Rattle.isl_piece.specs.Normal.{bound}
use Rattle.isl_refute.specs.declared.tree.Cert.{Cert}
use Rattle.isl_refute.specs.declared.tree.Form.{Form}
use Rattle.isl_refute.specs.CertText.{cert_text}
use Rattle.isl_refute.specs.Passes.{nodes, Passes, RowPasses}
use Rattle.isl_refute.specs.Refutes.{and_row, is_over, negations, refutes, residue_rows}
use Rattle.isl_refute.specs.Visited.{visited}

abbrev pub nodes_of : List Cert → ℕ
nodes_of [] = 0
nodes_of (cert ∷ certs) = nodes cert + nodes_of certs

-- one part for each of these rows
abbrev pub refute_all : List (List Row) → ℕ → List Row → List Row → List Cert → Bool
refute_all outs n rows [] [] = true
refute_all outs n rows [] (cert ∷ certs) = false
refute_all outs n rows (r ∷ more) [] = false
refute_all outs n rows (r ∷ more) (cert ∷ certs) = refutes outs n (and_row rows r) cert && refute_all outs n rows more certs

-- as many parts as rows
abbrev pub fit : List Row → List Cert → Bool
fit [] [] = true
fit [] (cert ∷ certs) = false
fit (r ∷ more) [] = false
fit (r ∷ more) (cert ∷ certs) = fit more certs

-- how many nodes of the parts are looked at
abbrev pub visit_all : List (List Row) → ℕ → List Row → List Row → List Cert → ℕ
visit_all outs n rows [] certs = 0
visit_all outs n rows (r ∷ more) [] = 0
visit_all outs n rows (r ∷ more) (cert ∷ certs) =
    visited outs n (and_row rows r) cert + (if refutes outs n (and_row rows r) cert then visit_all outs n rows more certs else 0)

-- a part that is looked at asks for a number past the limit, in the node that is number m of the parts
abbrev pub SomePass : ℕ → List (List Row) → ℕ → List Row → List Row → List Cert → ℕ → Type 0
SomePass bits outs n rows [] certs m = ⊥
SomePass bits outs n rows (r ∷ more) [] m = ⊥
SomePass bits outs n rows (r ∷ more) (cert ∷ certs) m =
    Passes bits outs n (and_row rows r) cert m
    ⊎ ((refutes outs n (and_row rows r) cert ≡ true) × SomePass bits outs n rows more certs (m - visited outs n (and_row rows r) cert))

-- or one of the rows does, before any part is looked at
abbrev pub RowsPass : ℕ → List (List Row) → ℕ → List Row → List Row → List Cert → ℕ → Type 0
RowsPass bits outs n rows more certs m = ((m ≡ 0) × Any (RowPasses bits) more) ⊎ SomePass bits outs n rows more certs m

-- ---- the two parts of a split
abbrev pub sides_refute : List (List Row) → ℕ → List Row → Form → Cert → Cert → Bool
sides_refute outs n rows form up down =
    refutes outs n (and_row rows (bound form.coefs form.constant)) up
    && refutes outs n (and_row rows (below form.coefs form.constant)) down

abbrev pub visit_sides : List (List Row) → ℕ → List Row → Form → Cert → Cert → ℕ
visit_sides outs n rows form up down =
    visited outs n (and_row rows (bound form.coefs form.constant)) up
    + (if refutes outs n (and_row rows (bound form.coefs form.constant)) up
    then visited outs n (and_row rows (below form.coefs form.constant)) down else 0)

abbrev pub SidesPass : ℕ → List (List Row) → ℕ → List Row → Form → Cert → Cert → ℕ → Type 0
SidesPass bits outs n rows form up down m =
    ((m ≡ 0) × (RowPasses bits (bound form.coefs form.constant) ⊎ RowPasses bits (below form.coefs form.constant)))
    ⊎ (Passes bits outs n (and_row rows (bound form.coefs form.constant)) up m
    ⊎ ((refutes outs n (and_row rows (bound form.coefs form.constant)) up ≡ true)
    × Passes bits outs n (and_row rows (below form.coefs form.constant)) down
    (m - visited outs n (and_row rows (bound form.coefs form.constant)) up)))

-- ---- a part for each number that a form may leave
abbrev pub residues_refute : List (List Row) → ℕ → List Row → Form → ℤ → List Cert → Bool
residues_refute outs n rows form k certs = is_over n form && (int_lt (pos 1) k && refute_all outs n rows (residue_rows form k) certs)

abbrev pub visit_residues : List (List Row) → ℕ → List Row → Form → ℤ → List Cert → ℕ
visit_residues outs n rows form k certs =
    if is_over n form && (int_lt (pos 1) k && fit (residue_rows form k) certs) then visit_all outs n rows (residue_rows form k) certs else 0

abbrev pub ResiduesPass : ℕ → List (List Row) → ℕ → List Row → Form → ℤ → List Cert → ℕ → Type 0
ResiduesPass bits outs n rows form k certs m =
    (is_over n form ≡ true) × (int_lt (pos 1) k ≡ true) × (length (residue_rows form k) ≡ length certs)
    × RowsPass bits outs n rows (residue_rows form k) certs m

-- ---- a part for each row of the negations of an out
abbrev pub visit_outside : List (List Row) → ℕ → List Row → List Row → List Cert → ℕ
visit_outside outs n rows out certs = if fit (negations n out) certs then visit_all outs n rows (negations n out) certs else 0

abbrev pub OutsidePass : ℕ → List (List Row) → ℕ → List Row → List Row → List Cert → ℕ → Type 0
OutsidePass bits outs n rows out certs m =
    (length (negations n out) ≡ length certs) × RowsPass bits outs n rows (negations n out) certs m

-- ---- what is left of rows and parts answers as all do
pub record IsLeft (bits : ℕ) (outs : List (List Row)) (n : ℕ) (rows : List Row) (g h : Gauge) (more all : List Row) (left whole : List Cert)
    : Type 0 where
  pub answer : refute_all outs n rows more left ≡ refute_all outs n rows all whole
  pub charged : IsCharged g h
  pub units : h.units + visit_all outs n rows more left ≡ g.units + visit_all outs n rows all whole
  pub passes : (m : ℕ) → SomePass bits outs n rows more left m → SomePass bits outs n rows all whole ((h.units - g.units) + m)

-- the texts of proofs, with a blank before each
abbrev pub texts_of : List Cert → List ℕ
texts_of [] = []
texts_of (cert ∷ certs) = (codes " " ++ cert_text cert) ++ texts_of certs
