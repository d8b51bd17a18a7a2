-- One piece and the pieces in its space.
use Rattle.std.proofs.Common.{◌≡◌, ◌↔◌, ◌∙◌, ◌<◌, ℕ, true, List, [], ◌∷◌, All, IfOk, IfSome, IsNone, None, Option, Some, Ok, Err}
use Rattle.std.proofs.Common.{Result, ap, arith, get_or, length, map, refl, sym, subst}
use Rattle.std.proofs.lemmas.Bool.{true≢false}
use Rattle.std.proofs.lemmas.List.{length-map, get_or-map}
use Rattle.std.proofs.Common.{◌^◌, ◌-◌}
use Rattle.isl_difference.specs.Difference.{IsCovered}
use Rattle.isl_elim.proofs.PartsLaws.{charged_bits}
use Rattle.isl_math.proofs.ListLaws.{Any-one}
use Rattle.isl_meter.specs.Gauge.{Gauge, IsCharged}
use Rattle.isl_piece.specs.Piece.{PieceView}
use Rattle.isl_piece.specs.System.{IsSystemWithin}
use Rattle.isl_piece.specs.declared.system.System.{System}
use Rattle.isl_refute.specs.Refutes.{refutes, rows_of}
use Rattle.isl_refute.specs.declared.tree.Cert.{Cert}
use Rattle.isl_space.specs.Name.{Name}
use Rattle.isl_space.specs.Names.{AreDistinct}
use Rattle.isl_union.proofs.CompareLaws.{covered_back, covered_from}
use Rattle.isl_union.proofs.MinusLaws.{systems_all, systems_within}
use Rattle.isl_union.specs.KeptValue.{KeptPiece, KeptValue, HasElement, columns_of}
use Rattle.isl_union.specs.Minus.{systems_in, AreCovered}
use Rattle.isl_union.specs.Numbers.{AreWithinLimit, HasNumbersUpTo, IsWithinLimit}
use Rattle.isl_union.specs.Piece.{kept_piece, IsPieceOf}
use Rattle.isl_claim.specs.Sides.{IsProvedBy}

-- at a later moment of the meter
pub value_later : (g h : Gauge) (value : KeptValue) → IsCharged g h → IsWithinLimit g value → IsWithinLimit h value
value_later g h value charged small =
    subst (λ (bits : ℕ). HasNumbersUpTo (2 ^ bits - 1) value) (sym (charged_bits g h charged)) small

module _ (params : List Name) (piece : PieceView) (others : List PieceView) (sound : IsPieceOf params piece)
    (all : All (IsPieceOf params) others) (plain : piece.system.definitions ≡ [])
    (plains : All (λ other. other.system.definitions ≡ []) others) (systems : List System)
    (are : systems ≡ systems_in piece.space others) where
  pub columns_are : piece.system.columns ≡ columns_of params piece.space
  columns_are =
      let own = sound.columns in
      let none = ap length plain in
      omega (arith, own, none)

  pub outs_columns : All (λ out. out.columns ≡ piece.system.columns) systems
  outs_columns =
      let P : System → Type 0 = λ out. out.columns ≡ piece.system.columns in
      subst (All P) (sym are) (systems_all P piece.space others (λ k d l same.
      let own = columns_are in
      let other = (all k d l).columns in
      let none = ap length (plains k d l) in
      let wide = ap (columns_of params) same in
      omega (arith, own, other, none, wide)))

  pub outs_plain : All (λ out. out.definitions ≡ []) systems
  outs_plain =
      let P : System → Type 0 = λ out. out.definitions ≡ [] in
      subst (All P) (sym are) (systems_all P piece.space others (λ k d l same. plains k d l))

  pub outs_within : (g : Gauge) → AreWithinLimit g others → All (IsSystemWithin g) systems
  outs_within g within = subst (All (IsSystemWithin g)) (sym are) (systems_within g piece.space others within)

  -- a point is left exactly where an element is
  none_is : AreDistinct params → (found : Option Cert) → (IsNone found ↔ (¬ IsCovered piece.system systems))
      → (IsNone found ↔ (¬ AreCovered params (kept_piece piece ∷ []) (map kept_piece others)))
  none_is distinct found told = (
    (λ none covered. told.0 none (covered_back params piece sound others systems are distinct covered)),
    (λ left. told.1 (λ covered. left (covered_from params piece sound others systems are covered))),
  )

  proved_is : (cert : Cert) → refutes (map rows_of systems) piece.system.columns piece.system.rows cert ≡ true
      → IsProvedBy params others piece cert
  proved_is cert proved =
      subst (λ (outs : List System). refutes (map rows_of outs) (columns_of params piece.space) piece.system.rows cert ≡ true) are
      (subst (λ (columns : ℕ). refutes (map rows_of systems) columns piece.system.rows cert ≡ true) columns_are proved)

  pub none_ok : {E : Type 0} (r : Result (Option Cert) E) → AreDistinct params
      → IfOk r (λ found. IsNone found ↔ (¬ IsCovered piece.system systems))
      → IfOk r (λ found. IsNone found ↔ (¬ AreCovered params (kept_piece piece ∷ []) (map kept_piece others)))
  none_ok (Ok found) distinct told = none_is distinct found told
  none_ok (Err fault) distinct told = tt

  pub proved_ok : {E : Type 0} (r : Result (Option Cert) E)
      → IfOk r (λ found. IfSome found (λ c. refutes (map rows_of systems) piece.system.columns piece.system.rows c ≡ true))
      → IfOk r (λ found. IfSome found (IsProvedBy params others piece))
  proved_ok (Ok (Some cert)) told = proved_is cert told
  proved_ok (Ok None) told = tt
  proved_ok (Err fault) told = tt

-- a proof that is found speaks against nothing being left
pub some_covered : (C : Type 0) (found : Option Cert) (cert : Cert) → found ≡ Some cert → (IsNone found ↔ (¬ C)) → ¬ (¬ C)
some_covered C found cert is told = λ left. absurd (true≢false (subst (λ (o : Option Cert). IsNone o) is (told.1 left)))

pub some_proved : (P : Cert → Type 0) (found : Option Cert) (cert : Cert) → found ≡ Some cert → IfSome found P → P cert
some_proved P found cert is told = subst (λ (o : Option Cert). IfSome o P) is told

pub none_left : (C : Type 0) (found : Option Cert) → found ≡ None → (IsNone found ↔ (¬ C)) → ¬ C
none_left C found is told = told.0 (subst (λ (o : Option Cert). IsNone o) (sym is) refl)

-- what others have of all pieces they have of each
pub covered_one : (params : List Name) (pieces : List PieceView) (piece : PieceView) (i : ℕ) (others : List KeptPiece)
    → i < length pieces → piece ≡ get_or pieces i piece → AreCovered params (map kept_piece pieces) others
    → AreCovered params (kept_piece piece ∷ []) others
covered_one params pieces piece i others low at covered = record {
  elements = λ v e a. covered.elements v e (
    i,
    kept_piece piece,
    (let long = length-map pieces kept_piece in omega (arith, low, long)),
    get_or-map kept_piece pieces i piece (kept_piece piece) low ∙ ap kept_piece (sym at),
    Any-one (HasElement params v e) (kept_piece piece) a,
  );
}
