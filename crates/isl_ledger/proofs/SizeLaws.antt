-- Systems of difference constraints that are counted: more room, and two lists of them.
use Rattle.std.proofs.Common.{arith, ℕ, ◌+◌, ◌≤◌, List, [], ◌∷◌, ◌++◌, length-append}
use Rattle.std.proofs.lemmas.List.Elements.{All-append, All-head, All-weaker}
use Rattle.isl_piece.specs.declared.system.System.{System}
use Rattle.isl_ledger.specs.Difference.{HasDifferenceRows, IsDifferenceRow, IsDifferenceSystem}
use Rattle.isl_ledger.specs.Work.{Size, AreOfSize, HasSize}
use Rattle.isl_ledger.proofs.NormalDifferences.{difference_wider}

-- normal rows among all
pub differences_of : (columns bits : ℕ) (s : System) → IsDifferenceSystem columns bits s → HasDifferenceRows columns bits s
differences_of columns bits s d = record { narrow = d.narrow; undefined = d.undefined; rows = d.rows }

pub one_system : (size : Size) (s : System) → AreOfSize size (s ∷ []) → IsDifferenceSystem size.columns size.bits s
one_system size s h = All-head (IsDifferenceSystem size.columns size.bits) s [] h.each

pub has_size : (size : Size) (s : System) → AreOfSize size (s ∷ []) → HasSize size s
has_size size s h = record { some = h.few; rows = differences_of size.columns size.bits s (one_system size s h) }

-- at most as many columns and bits
pub system_wider : (columns more bits longer : ℕ) (s : System) → columns ≤ more → bits ≤ longer → IsDifferenceSystem columns bits s
    → IsDifferenceSystem more longer s
system_wider columns more bits longer s wide long h = record {
  narrow = let n = h.narrow in omega arith;
  undefined = h.undefined;
  normal = h.normal;
  rows = All-weaker (IsDifferenceRow bits) (IsDifferenceRow longer) (λ r d. difference_wider bits longer r long d) s.rows h.rows;
}

-- a size is within another one
pub record IsWithinSize (size limit : Size) : Type 0 where
  pub pieces : size.pieces ≤ limit.pieces
  pub columns : size.columns ≤ limit.columns
  pub bits : size.bits ≤ limit.bits

pub of_size_wider : (size limit : Size) (systems : List System) → IsWithinSize size limit → AreOfSize size systems → AreOfSize limit systems
of_size_wider size limit systems w h = record {
  few = let p = w.pieces in let f = h.few in omega arith;
  each = All-weaker (IsDifferenceSystem size.columns size.bits) (IsDifferenceSystem limit.columns limit.bits)
      (λ s d. system_wider size.columns limit.columns size.bits limit.bits s w.columns w.bits d) systems h.each;
}

pub of_size_append : (p q c b : ℕ) (systems others : List System) → AreOfSize (record { pieces = p; columns = c; bits = b }) systems
    → AreOfSize (record { pieces = q; columns = c; bits = b }) others
    → AreOfSize (record { pieces = p + q; columns = c; bits = b }) (systems ++ others)
of_size_append p q c b systems others h g = record {
  few = let f = h.few in let e = g.few in let l = length-append systems others in omega arith;
  each = All-append (IsDifferenceSystem c b) systems others h.each g.each;
}
