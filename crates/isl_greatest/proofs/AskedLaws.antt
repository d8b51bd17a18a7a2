-- Forms that questions and columns are made of.
use Rattle.std.proofs.Common.{◌≡◌, ◌≢◌, refl, sym, ap, ◌∙◌, subst, arith, ℕ, ◌+◌, ◌-◌, ◌<◌, ◌≤◌, ℤ, pos, negsuc, List, length, replicate, set}
use Rattle.std.specs.List.{All}
use Rattle.std.proofs.lemmas.List.{length-replicate, length-set}
use Rattle.std.proofs.lemmas.List.Elements.{All-replicate, All-set}
use Rattle.isl_meter.specs.Gauge.{Gauge, IsWithin}
use Rattle.isl_meter.proofs.LimitLemmas.{IsWithin-small, IsWithin-zero}
use Rattle.isl_piece.specs.declared.row.RowKind.TheVariants as kind
use Rattle.isl_piece.specs.declared.row.Row.{Row}
use Rattle.isl_piece.specs.declared.system.System.{System}
use Rattle.isl_piece.specs.Definition.{AreDefinitions}
use Rattle.isl_piece.specs.Row.{IsRowWithin, IsWellFormed}
use Rattle.isl_greatest.specs.State.{IsFrame, IsQuestion}
use Rattle.isl_greatest.proofs.CandidateLaws.{frame_columns}
use Rattle.isl_greatest.proofs.DecideLaws.{question_formed, question_within}

module _ (g : Gauge) (n : ℕ) (s : System) (asked : IsQuestion g n s) (r : Row) (is : r ≡ asked.row) where
  pub asked_definitions : AreDefinitions g n s.definitions
  asked_definitions = subst (λ k. AreDefinitions g k s.definitions) asked.free asked.within.definitions

  pub asked_within : IsRowWithin g r
  asked_within = subst (IsRowWithin g) (sym is) (question_within g n s asked)

  pub asked_formed : IsWellFormed (n + length s.definitions) r
  asked_formed =
      let c = asked.within.count in
      let f = asked.free in
      let columns : s.columns ≡ n + length s.definitions = omega (arith, c, f) in
      subst (IsWellFormed (n + length s.definitions)) (sym is) (subst (λ m. IsWellFormed m asked.row) columns (question_formed g n s asked))

  pub asked_kind : r.kind ≢ kind.Zero
  asked_kind = subst (λ (t : Row). t.kind ≢ kind.Zero) (sym is) asked.kind

-- ---- columns
pub frame_definitions : (g : Gauge) (n : ℕ) (s : System) → IsFrame g n s → AreDefinitions g n s.definitions
frame_definitions g n s frame = subst (λ k. AreDefinitions g k s.definitions) frame.free frame.within.definitions

pub column_count : (g : Gauge) (n : ℕ) (s : System) (column : ℕ) (coefs : List ℤ) → IsFrame g n s
    → coefs ≡ set (replicate s.columns (pos 0)) column (negsuc 0) → length coefs ≡ n + length s.definitions
column_count g n s column coefs frame is =
    ap length is ∙ length-set (replicate s.columns (pos 0)) column (negsuc 0) ∙ length-replicate s.columns (pos 0) ∙ frame_columns g n s frame

pub column_within : (g : Gauge) (m column : ℕ) (coefs : List ℤ) → 8 ≤ g.bits → coefs ≡ set (replicate m (pos 0)) column (negsuc 0)
    → All (IsWithin g) coefs
column_within g m column coefs room is =
    subst (All (IsWithin g)) (sym is)
    (All-set (IsWithin g) (replicate m (pos 0)) column (negsuc 0) (IsWithin-small g (negsuc 0) room (omega arith))
    (All-replicate (IsWithin g) m (pos 0) (IsWithin-zero g)))
