-- Proofs of one piece after another.
use Rattle.std.proofs.Common.{◌≡◌, ◌∙◌, ◌<◌, ◌≤◌, ◌+◌, ℕ, List, [], ◌∷◌, ◌++◌, All, ap, get_or, length, map, refl, subst, sym, take}
use Rattle.std.proofs.lemmas.List.{map-append, take_all, take_more}
use Rattle.std.proofs.lemmas.List.Elements.{All-nil, All-push}
use Rattle.isl_meter.proofs.CutLemmas.{IsCharged_refl, IsCharged_trans}
use Rattle.isl_meter.specs.Gauge.{Gauge, IsCharged}
use Rattle.isl_piece.specs.Piece.{PieceView}
use Rattle.isl_refute.specs.declared.tree.Cert.{Cert}
use Rattle.isl_space.specs.Name.{Name}
use Rattle.isl_union.proofs.CompareLaws.{covered_first, covered_step}
use Rattle.isl_union.specs.Minus.{AreCovered}
use Rattle.isl_union.specs.Piece.{kept_piece}
use Rattle.isl_claim.specs.Sides.{IsProvedBy}

module _ {X : Type 0} (view : X → PieceView) (cert : X → Cert) (params : List Name) (pieces others : List PieceView) where
  -- the first of the pieces, each with its proof; nothing speaks against it that the others have all of their elements
  pub record AreFound (g h : Gauge) (i : ℕ) (parts : List X) : Type 0 where
    pub views : map view parts ≡ take i pieces
    pub proved : All (λ (x : X). IsProvedBy params others (view x) (cert x)) parts
    pub covered : ¬ (¬ AreCovered params (map kept_piece (take i pieces)) (map kept_piece others))
    pub charged : IsCharged g h

  pub found_first : (g : Gauge) (parts : List X) → parts ≡ [] → AreFound g g 0 parts
  found_first g parts none =
      let P : X → Type 0 = λ x. IsProvedBy params others (view x) (cert x) in
      record {
        views = ap (map view) none;
        proved = subst (All P) (sym none) (All-nil P);
        covered = λ no. no (covered_first params (map kept_piece others));
        charged = IsCharged_refl g g refl;
      }

  pub found_step : (g h k : Gauge) (i : ℕ) (parts pushed : List X) (x : X) (piece : PieceView) → i < length pieces
      → piece ≡ get_or pieces i piece → pushed ≡ parts ++ x ∷ [] → view x ≡ piece → IsProvedBy params others piece (cert x)
      → ¬ (¬ AreCovered params (kept_piece piece ∷ []) (map kept_piece others)) → IsCharged h k → AreFound g h i parts
      → AreFound g k (i + 1) pushed
  found_step g h k i parts pushed x piece low at made is proved covered charged so_far =
      let P : X → Type 0 = λ x. IsProvedBy params others (view x) (cert x) in
      record {
        views =
            ap (map view) made ∙ map-append view parts (x ∷ []) ∙ ap (λ (ps : List PieceView). ps ++ view x ∷ []) so_far.views
            ∙ ap (λ (p : PieceView). take i pieces ++ p ∷ []) (is ∙ at) ∙ sym (take_more pieces i piece low);
        proved = subst (All P) (sym made)
            (All-push P parts x so_far.proved (subst (λ (p : PieceView). IsProvedBy params others p (cert x)) (sym is) proved));
        covered = λ no. so_far.covered (λ first. covered (λ one.
            no (covered_step params pieces piece i (map kept_piece others) low at first one)));
        charged = IsCharged_trans g h k so_far.charged charged;
      }

  pub found_all : (g h : Gauge) (i : ℕ) (parts : List X) → length pieces ≤ i → AreFound g h i parts → map view parts ≡ pieces
  found_all g h i parts over found = found.views ∙ take_all i pieces over

  pub covered_all : (g h : Gauge) (i : ℕ) (parts : List X) → length pieces ≤ i → AreFound g h i parts
      → ¬ (¬ AreCovered params (map kept_piece pieces) (map kept_piece others))
  covered_all g h i parts over found =
      subst (λ (ps : List PieceView). ¬ (¬ AreCovered params (map kept_piece ps) (map kept_piece others))) (take_all i pieces over)
      found.covered
