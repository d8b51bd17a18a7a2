-- What each operation makes of the system of a piece.
use Rattle.std.proofs.Common.{◌≡◌, ◌↔◌, sym, ap, ap₂, ◌∙◌, arith, subst, ℕ, ◌+◌, ◌-◌, ◌≤◌, ℤ, IfSome, List, ◌++◌, append_assoc}
use Rattle.std.proofs.Common.{length, length-append}
use Rattle.std.specs.List.{range_with_len}
use Rattle.isl_meter.specs.Gauge.{Gauge}
use Rattle.isl_space.specs.Form.{Form, leaf, pair, width_of}
use Rattle.isl_space.specs.Name.{Name}
use Rattle.isl_space.specs.SpaceForm.{SpaceForm, set_of, map_of}
use Rattle.isl_space.specs.Valuation.{Valuation, values_of}
use Rattle.isl_space.proofs.ValuationLaws.{length-values_of}
use Rattle.isl_piece.specs.declared.system.System.{System}
use Rattle.isl_piece.specs.Meet.{numbers_at}
use Rattle.isl_piece.specs.Piece.{PieceView}
use Rattle.isl_piece.specs.System.{HoldsSystem, IsSystemWithin, free_columns}
use Rattle.isl_union.specs.KeptValue.{columns_of}
use Rattle.isl_union.specs.Piece.{IsPieceOf}
use Rattle.isl_union.proofs.PlacesLaws.{numbers_behind}
use Rattle.isl_union.proofs.SystemLaws.{view_free}
use Rattle.isl_maps.specs.Change.{formed_space, IsChangedSystem, IsImageSystem}
use Rattle.isl_maps.specs.Copied.{copied_system}
use Rattle.isl_maps.specs.Places.{exchanged_system}
use Rattle.isl_maps.specs.declared.change.Change.TheVariants.{Wrap, Unwrap, Zip, Identity, DomainMap, RangeMap}
use Rattle.isl_maps.proofs.CopiedLaws.{copied_free, copied_live, copied_plain, copied_points, copied_up_to, copied_within}
use Rattle.isl_maps.proofs.ElementLaws.{domain_map_has, identity_has, range_map_has, unwrap_has, wrap_has, zip_has}
use Rattle.isl_maps.proofs.InversePlaces.{numbers_between}
use Rattle.isl_maps.proofs.ZippedLaws.{exchanged_free, exchanged_live, exchanged_plain, exchanged_points, exchanged_up_to, exchanged_within}

module _ (g : Gauge) (params : List Name) (own : System) (within : IsSystemWithin g own) where
  abbrev p : ℕ
  p = length params

  -- ---- the columns stay
  pub wrap_image : (x y : Form) → free_columns own ≡ columns_of params (map_of x y)
      → IsImageSystem g Wrap params (map_of x y) (set_of (pair x y)) own own
  wrap_image x y free = record {
    elements = λ v e. wrap_has params v own x y e;
    live = λ n. n;
    free = free;
    within = λ _. within;
    normal = λ _ h. h;
    definitions = λ h. h;
    numbers = λ _ _ h. h;
  }

  pub unwrap_image : (x y : Form) → free_columns own ≡ columns_of params (set_of (pair x y))
      → IsImageSystem g Unwrap params (set_of (pair x y)) (map_of x y) own own
  unwrap_image x y free = record {
    elements = λ v e. unwrap_has params v own x y e;
    live = λ n. n;
    free = free;
    within = λ _. within;
    normal = λ _ h. h;
    definitions = λ h. h;
    numbers = λ _ _ h. h;
  }

  -- ---- the middle columns are exchanged
  module _ (x y u w : Form) (free : free_columns own ≡ columns_of params (map_of (pair x y) (pair u w))) where
    abbrev before : ℕ
    before = p + width_of x

    abbrev zipped : System
    zipped = exchanged_system before (width_of y) (width_of u) own

    inside : before + (width_of y + width_of u) ≤ free_columns own
    inside = omega (arith, free)

    zip_points : (v : Valuation) (a b c d : List ℤ) → length a ≡ width_of x → length b ≡ width_of y → length c ≡ width_of u
        → length d ≡ width_of w
        → HoldsSystem zipped (values_of params v ++ ((a ++ c) ++ (b ++ d))) ↔ HoldsSystem own (values_of params v ++ ((a ++ b) ++ (c ++ d)))
    zip_points v a b c d la lb lc ld =
        let vs = values_of params v in
        let first : length (vs ++ a) ≡ before = length-append vs a ∙ ap₂ (λ m n. m + n) (length-values_of params v) la in
        let last : length d ≡ free_columns own - (before + (width_of y + width_of u)) = omega (arith, ld, free) in
        let here = exchanged_points before (width_of y) (width_of u) own inside g within (vs ++ a) b c d first lb lc last in
        let one : ((vs ++ a) ++ (c ++ b)) ++ d ≡ vs ++ ((a ++ c) ++ (b ++ d)) = simp append_assoc in
        let other : ((vs ++ a) ++ (b ++ c)) ++ d ≡ vs ++ ((a ++ b) ++ (c ++ d)) = simp append_assoc in
        subst (λ xs. HoldsSystem zipped xs ↔ HoldsSystem own (vs ++ ((a ++ b) ++ (c ++ d)))) one
        (subst (λ xs. HoldsSystem zipped (((vs ++ a) ++ (c ++ b)) ++ d) ↔ HoldsSystem own xs) other here)

    pub zip_image : IsImageSystem g Zip params (map_of (pair x y) (pair u w)) (map_of (pair x u) (pair y w)) own zipped
    zip_image =
        let same = exchanged_free before (width_of y) (width_of u) own inside g within in
        record {
          elements = λ v e. zip_has params v own zipped x y u w (zip_points v) e;
          live = λ n. exchanged_live before (width_of y) (width_of u) own inside g within (λ q l. n q (l ∙ sym same));
          free = same ∙ free ∙ omega arith;
          within = λ _. exchanged_within before (width_of y) (width_of u) own inside g within;
          normal = λ k. absurd k;
          definitions = exchanged_plain before (width_of y) (width_of u) own;
          numbers = λ most _. exchanged_up_to before (width_of y) (width_of u) own most;
        }

  -- ---- columns are there once more
  module _ (first count : ℕ) (inside : first + count ≤ free_columns own) where
    -- the numbers of the columns that are there once more
    copies : (q c here : List ℤ) → length q ≡ free_columns own → length c ≡ count → numbers_at (range_with_len first count) q ≡ here
        → HoldsSystem (copied_system first count own) (q ++ c) ↔ (HoldsSystem own q × (c ≡ here))
    copies q c here wide more is =
        subst (λ zs. HoldsSystem (copied_system first count own) (q ++ c) ↔ (HoldsSystem own q × (c ≡ zs))) is
        (copied_points g first count own within inside q c wide more)

  pub identity_image : (x : Form) → free_columns own ≡ columns_of params (set_of x)
      → IsImageSystem g Identity params (set_of x) (map_of x x) own (copied_system p (width_of x) own)
  identity_image x free =
      let n = width_of x in
      let inside : p + n ≤ free_columns own = omega (arith, free) in
      record {
        elements = λ v e. identity_has params v own (copied_system p n own) x (points v) e;
        live = copied_live g p n own within inside;
        free = copied_free g p n own within inside ∙ omega (arith, free);
        within = copied_within g p n own within inside;
        normal = λ k. absurd k;
        definitions = copied_plain p n own;
        numbers = copied_up_to g p n own within inside;
      }
    where
      points : (v : Valuation) (a c : List ℤ) → length a ≡ width_of x → length c ≡ width_of x
          → HoldsSystem (copied_system p (width_of x) own) (values_of params v ++ (a ++ c))
          ↔ (HoldsSystem own (values_of params v ++ a) × (c ≡ a))
      points v a c la lc =
          let vs = values_of params v in
          let lv = length-values_of params v in
          let wide : length (vs ++ a) ≡ free_columns own = length-append vs a ∙ ap₂ (λ m n. m + n) lv la ∙ sym free in
          let is : numbers_at (range_with_len p (width_of x)) (vs ++ a) ≡ a =
          ap (λ n. numbers_at (range_with_len n (width_of x)) (vs ++ a)) (sym lv) ∙ numbers_behind vs a (width_of x) (sym la) in
          subst (λ xs. HoldsSystem (copied_system p (width_of x) own) xs ↔ (HoldsSystem own (vs ++ a) × (c ≡ a))) (append_assoc vs a c)
          (copies p (width_of x) (omega (arith, free)) (vs ++ a) c a wide lc is)

  module _ (x y : Form) (free : free_columns own ≡ columns_of params (map_of x y)) where
    wide_enough : (v : Valuation) (a b : List ℤ) → length a ≡ width_of x → length b ≡ width_of y
        → length (values_of params v ++ (a ++ b)) ≡ free_columns own
    wide_enough v a b la lb =
        length-append (values_of params v) (a ++ b)
        ∙ ap₂ (λ m n. m + n) (length-values_of params v) (length-append a b ∙ ap₂ (λ m n. m + n) la lb) ∙ sym free

    pub domain_map_image : IsImageSystem g DomainMap params (map_of x y) (map_of (pair x y) x) own (copied_system p (width_of x) own)
    domain_map_image =
        let n = width_of x in
        let inside : p + n ≤ free_columns own = omega (arith, free) in
        record {
          elements = λ v e. domain_map_has params v own (copied_system p n own) x y (points v) e;
          live = copied_live g p n own within inside;
          free = copied_free g p n own within inside ∙ omega (arith, free);
          within = copied_within g p n own within inside;
          normal = λ k. absurd k;
          definitions = copied_plain p n own;
          numbers = copied_up_to g p n own within inside;
        }
      where
        points : (v : Valuation) (a b c : List ℤ) → length a ≡ width_of x → length b ≡ width_of y → length c ≡ width_of x
            → HoldsSystem (copied_system p (width_of x) own) (values_of params v ++ ((a ++ b) ++ c))
            ↔ (HoldsSystem own (values_of params v ++ (a ++ b)) × (c ≡ a))
        points v a b c la lb lc =
            let vs = values_of params v in
            let lv = length-values_of params v in
            subst (λ xs. HoldsSystem (copied_system p (width_of x) own) xs ↔ (HoldsSystem own (vs ++ (a ++ b)) × (c ≡ a)))
            (append_assoc vs (a ++ b) c)
            (copies p (width_of x) (omega (arith, free)) (vs ++ (a ++ b)) c a (wide_enough v a b la lb) lc
            (numbers_between vs a b p (width_of x) (sym lv) (sym la)))

    pub range_map_image : IsImageSystem g RangeMap params (map_of x y) (map_of (pair x y) y) own
        (copied_system (p + width_of x) (width_of y) own)
    range_map_image =
        let n = width_of y in
        let first = p + width_of x in
        let inside : first + n ≤ free_columns own = omega (arith, free) in
        record {
          elements = λ v e. range_map_has params v own (copied_system first n own) x y (points v) e;
          live = copied_live g first n own within inside;
          free = copied_free g first n own within inside ∙ omega (arith, free);
          within = copied_within g first n own within inside;
          normal = λ k. absurd k;
          definitions = copied_plain first n own;
          numbers = copied_up_to g first n own within inside;
        }
      where
        points : (v : Valuation) (a b c : List ℤ) → length a ≡ width_of x → length b ≡ width_of y → length c ≡ width_of y
            → HoldsSystem (copied_system (p + width_of x) (width_of y) own) (values_of params v ++ ((a ++ b) ++ c))
            ↔ (HoldsSystem own (values_of params v ++ (a ++ b)) × (c ≡ b))
        points v a b c la lb lc =
            let vs = values_of params v in
            let lv = length-values_of params v in
            let first : length (vs ++ a) ≡ p + width_of x = length-append vs a ∙ ap₂ (λ m n. m + n) lv la in
            let is : numbers_at (range_with_len (p + width_of x) (width_of y)) (vs ++ (a ++ b)) ≡ b =
            ap₂ (λ n xs. numbers_at (range_with_len n (width_of y)) xs) (sym first) (sym (append_assoc vs a b))
            ∙ numbers_behind (vs ++ a) b (width_of y) (sym lb) in
            subst (λ xs. HoldsSystem (copied_system (p + width_of x) (width_of y) own) xs ↔ (HoldsSystem own (vs ++ (a ++ b)) × (c ≡ b)))
            (append_assoc vs (a ++ b) c)
            (copies (p + width_of x) (width_of y) (omega (arith, free)) (vs ++ (a ++ b)) c b (wide_enough v a b la lb) lc is)

-- ---- the systems that the code makes
module _ (params : List Name) (piece : PieceView) (sound : IsPieceOf params piece) (new : System) where
  free : free_columns piece.system ≡ columns_of params piece.space
  free = view_free params piece sound

  pub wrap_changed : new ≡ piece.system → IsChangedSystem Wrap params piece new
  wrap_changed is g within = by piece.space free
    where
      by : (space : SpaceForm) → free_columns piece.system ≡ columns_of params space
          → IfSome (formed_space Wrap space) (λ formed. IsImageSystem g Wrap params space formed piece.system new)
      by (set_of x) f = tt
      by (map_of x y) f = rw is (wrap_image g params piece.system within x y f)

  pub unwrap_changed : new ≡ piece.system → IsChangedSystem Unwrap params piece new
  unwrap_changed is g within = by piece.space free
    where
      by : (space : SpaceForm) → free_columns piece.system ≡ columns_of params space
          → IfSome (formed_space Unwrap space) (λ formed. IsImageSystem g Unwrap params space formed piece.system new)
      by (set_of (leaf name width)) f = tt
      by (set_of (pair x y)) f = rw is (unwrap_image g params piece.system within x y f)
      by (map_of x y) f = tt

  -- in a space where nothing is formed any system will do
  pub zip_changed : (x y u w : Form) → piece.space ≡ map_of (pair x y) (pair u w)
      → new ≡ exchanged_system (length params + width_of x) (width_of y) (width_of u) piece.system → IsChangedSystem Zip params piece new
  zip_changed x y u w at is g within =
      rw (at, is) (zip_image g params piece.system within x y u w (free ∙ ap (columns_of params) at))

  pub identity_changed : (x : Form) → piece.space ≡ set_of x → new ≡ copied_system (length params) (width_of x) piece.system
      → IsChangedSystem Identity params piece new
  identity_changed x at is g within = rw (at, is) (identity_image g params piece.system within x (free ∙ ap (columns_of params) at))

  pub domain_map_changed : (x y : Form) → piece.space ≡ map_of x y → new ≡ copied_system (length params) (width_of x) piece.system
      → IsChangedSystem DomainMap params piece new
  domain_map_changed x y at is g within =
      rw (at, is) (domain_map_image g params piece.system within x y (free ∙ ap (columns_of params) at))

  pub range_map_changed : (x y : Form) → piece.space ≡ map_of x y
      → new ≡ copied_system (length params + width_of x) (width_of y) piece.system → IsChangedSystem RangeMap params piece new
  range_map_changed x y at is g within =
      rw (at, is) (range_map_image g params piece.system within x y (free ∙ ap (columns_of params) at))
