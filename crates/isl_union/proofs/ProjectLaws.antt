-- Elements without some of their coordinates.
use Rattle.std.proofs.Common.{◌≡◌, ◌↔◌, refl, sym, ap, ap₂, ◌∙◌, arith, subst, ℕ, ◌+◌, ◌-◌, ℤ, List}
use Rattle.std.proofs.Common.{◌++◌, All, Any, append_assoc, length, length-append, take, drop, take-append-drop}
use Rattle.std.specs.List.{range_with_len}
use Rattle.std.proofs.lemmas.List.{drop_at, length-drop, length-take-le, take_at}
use Rattle.std.proofs.lemmas.List.FromFn.{length-range_with_len}
use Rattle.isl_math.proofs.ListLaws.{Any-contains, Any-element}
use Rattle.isl_space.specs.Element.{Element, IsElement}
use Rattle.isl_space.specs.Name.{Name}
use Rattle.isl_space.specs.SpaceForm.{SpaceForm, coordinates_of}
use Rattle.isl_space.specs.Valuation.{Valuation, values_of}
use Rattle.isl_space.proofs.ValuationLaws.{length-values_of}
use Rattle.isl_piece.specs.declared.system.System.{System}
use Rattle.isl_piece.specs.Piece.{PieceView}
use Rattle.isl_piece.specs.System.{HoldsSystem, free_columns}
use Rattle.isl_elim.specs.Elimination.{HoldsAlong, IsProjectionAlong, without}
use Rattle.isl_elim.proofs.RangeLaws.{without_range}
use Rattle.isl_union.specs.KeptValue.{KeptPiece, KeptValue, HasElement, columns_of, point_of}
use Rattle.isl_union.specs.Piece.{kept_piece}
use Rattle.isl_union.specs.Pieces.{IsOfAny}
use Rattle.isl_union.specs.Project.{IsNarrower, IsProjected, put_between}

-- ---- numbers between others
-- the numbers that were left out stand between the others
pub along_range : (a b : List ℤ) (count columns : ℕ) (P : List ℤ → Type 0) → columns ≡ length a + count + length b
    → HoldsAlong columns (range_with_len (length a) count) P (a ++ b) ↔ ((m : List ℤ) × (length m ≡ count) × P (a ++ (m ++ b)))
along_range a b count columns P e = (
  (λ h.
      let w = h.0 in
      let rest = drop (length a) w in
      let A = take (length a) w in
      let M = take count rest in
      let B = drop count rest in
      let long = h.1 in
      let behind = length-drop (length a) w in
      let A_long = length-take-le (length a) w (omega (arith, long, e)) in
      let M_long = length-take-le count rest (omega (arith, behind, long, e)) in
      let parts : w ≡ A ++ (M ++ B) = sym (take-append-drop (length a) w) ∙ ap (λ y. A ++ y) (sym (take-append-drop count rest)) in
      let left : without (range_with_len (length a) count) w ≡ A ++ B =
      ap₂ (λ i n. without (range_with_len i n) w) (sym A_long) (sym M_long) ∙ ap (without (range_with_len (length A) (length M))) parts
      ∙ without_range A M B in
      let same : A ++ B ≡ a ++ b = sym left ∙ h.2 in
      let front : A ≡ a = sym (take_at A B (length a) A_long) ∙ ap (take (length a)) same ∙ take_at a b (length a) refl in
      let back : B ≡ b = sym (drop_at A B (length a) A_long) ∙ ap (drop (length a)) same ∙ drop_at a b (length a) refl in
      (M, M_long, subst P (parts ∙ ap₂ (λ x y. x ++ (M ++ y)) front back) h.3)),
  (λ k.
      let m = k.0 in
      let whole = a ++ (m ++ b) in
      let first = length-append a (m ++ b) in
      let second = length-append m b in
      let long = k.1 in (
        whole,
        omega (arith, first, second, long, e),
        ap (λ n. without (range_with_len (length a) n) whole) (sym long) ∙ without_range a m b,
        k.2,
      )),
)

-- ---- one piece
-- the element lies in the space `to`, and with some numbers for the coordinates that were left out the piece has it in `space`
abbrev pub HasBetween : List Name → SpaceForm → ℕ → ℕ → SpaceForm → Valuation → Element → KeptPiece → Type 0
HasBetween params space from count to v e piece =
    IsElement e × (e.space ≡ to) × (middle : List ℤ) × (length middle ≡ count)
    × HasElement params v (record { space = space; coordinates = put_between from middle e.coordinates }) piece

-- a piece of another space has none
pub between_same : (params : List Name) (space : SpaceForm) (from count : ℕ) (to : SpaceForm) (v : Valuation) (e : Element)
    (piece : KeptPiece)
    → HasBetween params space from count to v e piece → piece.space ≡ space
between_same params space from count to v e piece h = h.4.space

module _ (params : List Name) (piece : PieceView) (space to : SpaceForm) (from count : ℕ) (narrower : IsNarrower space from count to)
    (lies : piece.space ≡ space) (free : free_columns piece.system ≡ columns_of params space) (systems : List System)
    (projection : IsProjectionAlong piece.system (range_with_len (length params + from) count) systems) where
  abbrev s : System
  s = piece.system

  abbrev cols : List ℕ
  cols = range_with_len (length params + from) count

  gone : length cols ≡ count
  gone = length-range_with_len (length params + from) count

  pub projected_columns : All (λ t. free_columns t ≡ columns_of params to) systems
  projected_columns = λ k d l.
      let n = projection.columns k d l in
      let w = narrower.left in
      omega (arith, n, w, free, gone)

  module _ (v : Valuation) (e : Element) where
    front : List ℤ
    front = values_of params v ++ take from e.coordinates

    -- the point of the element with others between
    between : (middle : List ℤ) → values_of params v ++ put_between from middle e.coordinates ≡ front ++ (middle ++ drop from e.coordinates)
    unfolding front
    between middle = sym (append_assoc (values_of params v) (take from e.coordinates) (middle ++ drop from e.coordinates))

    whole : point_of params v e ≡ front ++ drop from e.coordinates
    unfolding front
    whole =
        ap (λ xs. values_of params v ++ xs) (sym (take-append-drop from e.coordinates))
        ∙ sym (append_assoc (values_of params v) (take from e.coordinates) (drop from e.coordinates))

    module _ (numbers : IsElement e) (in_to : e.space ≡ to) where
      long : length e.coordinates ≡ coordinates_of to
      long = numbers ∙ ap coordinates_of in_to

      front_long : length front ≡ length params + from
      unfolding front
      front_long =
          let both = length-append (values_of params v) (take from e.coordinates) in
          let names = length-values_of params v in
          let i = narrower.inside in
          let w = narrower.left in
          let some = length-take-le from e.coordinates (omega (arith, long, i, w)) in
          omega (arith, both, names, some)

      point_is : length (point_of params v e) ≡ free_columns s - length cols
      point_is =
          let both = length-append (values_of params v) e.coordinates in
          let names = length-values_of params v in
          let w = narrower.left in
          omega (arith, both, names, long, w, free, gone)

      along : HoldsAlong (free_columns s) cols (HoldsSystem s) (front ++ drop from e.coordinates)
          ↔ ((m : List ℤ) × (length m ≡ count) × HoldsSystem s (front ++ (m ++ drop from e.coordinates)))
      along =
          let behind = length-drop from e.coordinates in
          let i = narrower.inside in
          let w = narrower.left in
          rw front_long at (along_range front (drop from e.coordinates) count (free_columns s) (HoldsSystem s)
          (omega (arith, behind, long, front_long, i, w, free)))

      put_long : (middle : List ℤ) → length middle ≡ count → length (put_between from middle e.coordinates) ≡ coordinates_of space
      put_long middle m =
          let i = narrower.inside in
          let w = narrower.left in
          let some = length-take-le from e.coordinates (omega (arith, long, i, w)) in
          let behind = length-drop from e.coordinates in
          let first = length-append (take from e.coordinates) (middle ++ drop from e.coordinates) in
          let second = length-append middle (drop from e.coordinates) in
          omega (arith, long, i, w, some, behind, first, second, m)

    pub projected : IsOfAny params to systems v e ↔ HasBetween params space from count to v e (kept_piece piece)
    projected = (
      (λ h.
          let some = (projection.points (point_of params v e) (point_is h.numbers h.lies)).0 h.holds in
          let k = (along h.numbers h.lies).0 (subst (HoldsAlong (free_columns s) cols (HoldsSystem s)) whole some) in (
            h.numbers,
            h.lies,
            k.0,
            k.1,
            record {
              numbers = put_long h.numbers h.lies k.0 k.1;
              space = lies;
              holds = subst (HoldsSystem s) (sym (between k.0)) k.2;
            },
          )),
      (λ h. record {
        numbers = h.0;
        lies = h.1;
        holds = (projection.points (point_of params v e) (point_is h.0 h.1)).1
            (subst (HoldsAlong (free_columns s) cols (HoldsSystem s)) (sym whole)
            ((along h.0 h.1).1 (h.2, h.3, subst (HoldsSystem s) (between h.2) h.4.holds)));
      }),
    )

-- ---- all pieces
pub projected_exactly : (value : KeptValue) (space : SpaceForm) (from count : ℕ) (to : SpaceForm) (v : Valuation) (e : Element)
    → Any (HasBetween value.params space from count to v e) value.pieces ↔ IsProjected value space from count to v e
projected_exactly value space from count to v e =
    let Q = HasBetween value.params space from count to v e in (
      (λ a.
          let one = Any-element Q value.pieces a in
          let h = one.2 in record {
            numbers = h.0;
            lies = h.1;
            middle = h.2;
            long = h.3;
            whole = Any-contains (HasElement value.params v (record { space = space; coordinates = put_between from h.2 e.coordinates }))
                value.pieces one.0 one.1 h.4;
          }),
      (λ p.
          let one = Any-element
          (HasElement value.params v (record { space = space; coordinates = put_between from p.middle e.coordinates }))
          value.pieces p.whole in
          Any-contains Q value.pieces one.0 one.1 (p.numbers, p.lies, p.middle, p.long, one.2)),
    )
