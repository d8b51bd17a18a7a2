-- The pieces from source to sink of a precedence.
use Rattle.std.proofs.Common.{◌≡◌, ◌↔◌, refl, sym, ap, ap₂, ◌∙◌, subst, arith, ℕ, ◌+◌, ◌*◌, ℤ, List, [], ◌++◌, append-nil}
use Rattle.std.proofs.Common.{append_assoc}
use Rattle.std.proofs.Common.{All, length, length-append, get_or, map, take, drop, take-append-drop}
use Rattle.std.proofs.lemmas.List.{length-drop, length-take-le}
use Rattle.std.proofs.lemmas.List.Elements.{All-map}
use Rattle.isl_math.proofs.ListLaws.{Any-unmapped}
use Rattle.isl_meter.specs.Gauge.{Gauge}
use Rattle.isl_space.specs.Element.{Element, IsElement}
use Rattle.isl_space.specs.Form.{Form, width_of}
use Rattle.isl_space.specs.Name.{Name}
use Rattle.isl_space.specs.Shape.{form_of}
use Rattle.isl_space.specs.SpaceForm.{SpaceForm, map_of, coordinates_of, IsWellFormedSpace}
use Rattle.isl_space.specs.Valuation.{Valuation, values_of}
use Rattle.isl_piece.specs.declared.system.System.{System}
use Rattle.isl_piece.specs.Piece.{PieceView}
use Rattle.isl_piece.specs.System.{HoldsSystem, IsSystemWithin}
use Rattle.isl_elim.specs.Elimination.{HoldsAtAny}
use Rattle.isl_elim.proofs.ProjectionLaws.{any_mapped}
use Rattle.isl_difference.specs.Split.{IsLive}
use Rattle.isl_union.specs.KeptValue.{KeptPiece, HasElement, columns_of, point_of}
use Rattle.isl_union.specs.Minus.{piece_in}
use Rattle.isl_union.specs.Piece.{kept_piece, piece_of}
use Rattle.isl_union.proofs.MinusLaws.{element_long, parts_have}
use Rattle.isl_union.proofs.SystemLaws.{columns_from, kept_from, system_is}
use Rattle.isl_images.specs.Made.{IsPlain}
use Rattle.isl_images.proofs.ImageLaws.{element_is}
use Rattle.isl_blocks.specs.Left.{IsLeftWithout}
use Rattle.isl_precedence.specs.declared.precedence.Precedence.{Precedence}
use Rattle.isl_remainder.specs.Made.{AreMade}
use Rattle.isl_precedence.specs.Later.{ShowsWith}
use Rattle.isl_precedence.specs.Precedence.{HasAt, IsPlainPrecedence, IsPrecedence, IsSound, Shows}
use Rattle.isl_remainder.proofs.MadeLaws.{made_same}

-- a system with a point makes a piece of the space
pub live_sound : (g : Gauge) (params : List Name) (space : SpaceForm) (s : System) → IsWellFormedSpace space
    → IsLive g (columns_of params space) s → IsSound g params (piece_in space s)
live_sound g params space s formed live =
    let columns = columns_from g params space s live.within live.free in
    record {
      sound = record {
        columns = columns;
        kept = kept_from g params (piece_of space s) formed (subst (IsSystemWithin g) (system_is params space s columns) live.within)
            live.normal
            live.somewhere;
      };
      within = live.within;
    }

-- five lists, of which three are behind
blocks_join : (v x y a p q : List ℤ) → v ++ (x ++ (y ++ (a ++ (p ++ (q ++ []))))) ≡ (v ++ (x ++ y)) ++ (a ++ (p ++ q))
blocks_join v x y a p q =
    ap (λ l. v ++ (x ++ (y ++ (a ++ (p ++ l))))) (append-nil q) ∙ ap (λ l. v ++ l) (sym (append_assoc x y (a ++ (p ++ q))))
    ∙ sym (append_assoc v (x ++ y) (a ++ (p ++ q)))

module _ (g : Gauge) (params : List Name) (r : Precedence) (is : IsPrecedence g params r) where
  abbrev x_form : Form
  x_form = form_of r.forms.source.value

  abbrev y_form : Form
  y_form = form_of r.forms.sink.value

  abbrev a_form : Form
  a_form = form_of r.forms.access.value

  abbrev p_form : Form
  p_form = form_of r.forms.time.value

  abbrev space : SpaceForm
  space = map_of x_form y_form

  abbrev rest : ℕ
  rest = width_of a_form + 2 * width_of p_form

  -- systems that hold at the elements of the space for which some numbers of the place and of the times make P hold
  module _ (P : List ℤ → Type 0) (parts : List System)
      (left : (point : List ℤ) → length point ≡ columns_of params space
      → HoldsAtAny parts point ↔ ((behind : List ℤ) × (length behind ≡ rest) × P (point ++ behind))) where
    module _ (v : Valuation) (e : Element) where
      pub shown : (IsElement e × (space ≡ e.space) × HoldsAtAny parts (point_of params v e)) ↔ ShowsWith params r.forms P v e
      shown = (
        (λ h.
            let long : length e.coordinates ≡ width_of x_form + width_of y_form = h.0 ∙ ap coordinates_of (sym h.1) in
            let whole = element_long params v e space h.0 h.1 in
            let some = (left (point_of params v e) whole).0 h.2 in
            let behind = some.0 in
            let count : length behind ≡ width_of a_form + 2 * width_of p_form = some.1 in
            let xs = take (width_of x_form) e.coordinates in
            let ys = drop (width_of x_form) e.coordinates in
            let place = take (width_of a_form) behind in
            let ts = drop (width_of a_form) behind in
            let ps = take (width_of p_form) ts in
            let qs = drop (width_of p_form) ts in
            let dx = length-drop (width_of x_form) e.coordinates in
            let da = length-drop (width_of a_form) behind in
            let dp = length-drop (width_of p_form) ts in
            let apart : e.coordinates ≡ xs ++ ys = sym (take-append-drop (width_of x_form) e.coordinates) in
            let ends : behind ≡ place ++ (ps ++ qs) =
            sym (take-append-drop (width_of a_form) behind) ∙ ap (λ l. place ++ l) (sym (take-append-drop (width_of p_form) ts)) in
            record {
              occurrence = record {
                valuation = v;
                source = record { form = x_form; numbers = xs };
                sink = record { form = y_form; numbers = ys };
                access = record { form = a_form; numbers = place };
                time = record { form = p_form; numbers = ps };
                sink_time = record { form = p_form; numbers = qs };
              };
              at = refl;
              lies = record {
                source = refl;
                sink = refl;
                access = refl;
                time = refl;
                sink_time = refl;
                source_point = length-take-le (width_of x_form) e.coordinates (omega (arith, long));
                sink_point = omega (arith, long, dx);
                access_point = length-take-le (width_of a_form) behind (omega (arith, count));
                time_point = length-take-le (width_of p_form) ts (omega (arith, count, da));
                sink_time_point = omega (arith, count, da, dp);
              };
              holds = subst P
                  (ap₂ (λ c b. (values_of params v ++ c) ++ b) apart ends ∙ sym (blocks_join (values_of params v) xs ys place ps qs))
                  some.2;
              is = element_is e space (sym h.1) ∙ ap (λ ns. let f : Element = record { space = space; coordinates = ns } in f) apart;
            }),
        (λ k.
            let o = k.occurrence in
            let lies = k.lies in
            let same : e.space ≡ space = ap (λ (f : Element). f.space) k.is ∙ ap₂ map_of lies.source lies.sink in
            let coordinates : e.coordinates ≡ o.source.numbers ++ o.sink.numbers = ap (λ (f : Element). f.coordinates) k.is in
            let both = length-append o.source.numbers o.sink.numbers in
            let x = lies.source_point in
            let y = lies.sink_point in
            let numbers : IsElement e = subst IsElement (sym k.is) (omega (arith, both, x, y)) in
            let a = lies.access_point ∙ ap width_of lies.access in
            let p = lies.time_point ∙ ap width_of lies.time in
            let q = lies.sink_time_point ∙ ap width_of lies.sink_time in
            let one = length-append o.access.numbers (o.time.numbers ++ o.sink_time.numbers) in
            let two = length-append o.time.numbers o.sink_time.numbers in
            let there = subst (λ (w : Valuation). P
            ((values_of params w ++ (o.source.numbers ++ o.sink.numbers)) ++ (o.access.numbers ++ (o.time.numbers ++
            o.sink_time.numbers)))) k.at
            (subst P
            (blocks_join (values_of params o.valuation) o.source.numbers o.sink.numbers o.access.numbers o.time.numbers o.sink_time.numbers)
            k.holds) in
            let here = subst (λ ns. P ((values_of params v ++ ns)
            ++ (o.access.numbers ++ (o.time.numbers ++ o.sink_time.numbers)))) (sym coordinates) there in (
              numbers,
              sym same,
              (left (point_of params v e) (element_long params v e space numbers (sym same))).1
                  (o.access.numbers ++ (o.time.numbers ++ o.sink_time.numbers), omega (arith, one, two, a, p, q), here),
            )),
      )

    pub pieces_with : (S : Type 0) → All (IsLive g (columns_of params space)) parts → (S → All (λ s. s.definitions ≡ []) parts)
        → (made : List PieceView) → made ≡ map (piece_in space) parts
        → AreMade (HasAt params) (IsSound g params) IsPlain S (λ at. ShowsWith params r.forms P at.0 at.1) made
    pieces_with S live plain made are = rw are (record {
      has = λ at.
          let H : KeptPiece → Type 0 = HasElement params at.0 at.1 in
          let both = parts_have params at.0 at.1 space parts in
          let show = shown at.0 at.1 in
          let pieces = map (piece_in space) parts in (
            (λ a. show.0 (both.0 (any_mapped H kept_piece pieces a))),
            (λ k. Any-unmapped H kept_piece pieces (both.1 (show.1 k))),
          );
      sound = All-map (IsSound g params) (piece_in space) parts (λ k d l.
          live_sound g params space (get_or parts k d) is.space (live k d l));
      plain = λ none. All-map IsPlain (piece_in space) parts (λ k d l. plain none k d l);
    })

  pub pieces_made : (parts : List System) → IsLeftWithout g r.system (columns_of params space) rest parts
      → (made : List PieceView) → made ≡ map (piece_in space) parts
      → AreMade (HasAt params) (IsSound g params) IsPlain (IsPlainPrecedence r) (λ at. Shows params at.0 at.1 r) made
  pieces_made parts left made are = made_same (HasAt params) (IsSound g params) IsPlain (IsPlainPrecedence r) (IsSound g params)
      (IsPlainPrecedence r) (λ at. ShowsWith params r.forms (HoldsSystem r.system) at.0 at.1) (λ at. Shows params at.0 at.1 r)
      (λ p s. s) (λ s. s)
      (λ at. (
        (λ s. record { occurrence = s.occurrence; at = s.at; has = record { lies = s.lies; holds = s.holds }; is = s.is }),
        (λ s. record { occurrence = s.occurrence; at = s.at; lies = s.has.lies; holds = s.has.holds; is = s.is }),
      )) made
      (pieces_with (HoldsSystem r.system) parts left.points (IsPlainPrecedence r) left.live left.definitions made are)
