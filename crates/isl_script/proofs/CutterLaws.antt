-- What a cutter knows as its part grows.
use Rattle.std.proofs.Common.{◌≤◌, length, arith, ◌≡◌, ℕ, Bool, true, false, ◌&&◌, ◌||◌, if◌then◌else◌, [], ◌∷◌, ◌++◌, refl, sym, ap, ◌∙◌}
use Rattle.std.proofs.lemmas.Bool.{and_parts, and_from}
use Rattle.isl_script.specs.Script.{Bytes, Place, place_of, place_after, depth_after, is_blank, is_commented_after, is_commented}
use Rattle.isl_script.specs.Cutter.{Known, IsAt}
use Rattle.isl_script.proofs.ScriptLaws.{place-nil, place-push, blank_nil, blank_push, blank_front, blank_last, depth-le-length}

pub at_start : IsAt (record { place = record { in_comment = false; depth = 0 }; blank = true }) []
at_start = record { place = sym place-nil; blank = (λ _. blank_nil, λ _. refl) }

-- one more byte: it is commented or not, and the depth and what is blank follow
module _ (known : Known) (part : Bytes) (b : ℕ) (at_part : IsAt known part) (commented : Bool) (is : commented ≡ is_commented_after known.place.in_comment b)
    (depth : ℕ) (depth_is : depth ≡ (if commented then known.place.depth else depth_after known.place.depth b))
    (blank : Bool) (blank_is : blank ≡ (known.blank && (commented || is_blank b))) where
  same : commented ≡ is_commented part b
  same = is ∙ ap (λ (p : Place). is_commented_after p.in_comment b) at_part.place

  place_made : Bool → ℕ → Place
  place_made q d = record { in_comment = q; depth = d }

  place-next : place_made commented depth ≡ place_of (part ++ b ∷ [])
  unfolding place_made
  place-next = ap (λ (d : ℕ). place_made commented d) depth_is
      ∙ ap (λ (q : Bool). place_made q (if q then known.place.depth else depth_after known.place.depth b)) is
      ∙ ap (λ (p : Place). place_after p b) at_part.place ∙ sym (place-push part b)

  pub at_push : IsAt (record { place = record { in_comment = commented; depth = depth }; blank = blank }) (part ++ b ∷ [])
  unfolding place_made
  at_push = record {
    place = place-next;
    blank = (
      λ all. let both = and_parts known.blank _ (sym blank_is ∙ all) in
          blank_push part b (at_part.blank.0 both.0) (ap (λ (q : Bool). q || is_blank b) (sym same) ∙ both.1),
      λ all. blank_is ∙ and_from known.blank _ (at_part.blank.1 (blank_front part b all)) (ap (λ (q : Bool). q || is_blank b) same ∙ blank_last part b all),
    );
  }

-- a cutter counts no more open brackets than its part has bytes
pub at-depth-le : (known : Known) (part : Bytes) → IsAt known part → known.place.depth ≤ length part
at-depth-le known part at_part = omega (arith, depth-le-length part, ap (λ (p : Place). p.depth) at_part.place)
