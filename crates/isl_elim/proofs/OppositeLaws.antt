-- Lists of numbers of which one has those of the other with the other sign.
use Rattle.std.proofs.Common.{◌≡◌, refl, sym, ap, ◌∙◌, arith, ℕ, ◌+◌, ◌<◌, ◌≤◌, ℤ, pos, negsuc, neg_ℤ, ◌*ℤ◌}
use Rattle.std.proofs.Common.{List, [], ◌∷◌, ◌++◌, length, get_or, take, to_z-of_z}
use Rattle.std.proofs.lemmas.List.{take_more, take_all}
use Rattle.isl_math.specs.Dot.{scaled}
use Rattle.isl_math.proofs.Ring.{linear}

minus : (z : ℤ) → neg_ℤ z ≡ negsuc 0 *ℤ z
minus z = omega (arith, linear)

scaled_push : (zs : List ℤ) (z : ℤ) → scaled (negsuc 0) (zs ++ z ∷ []) ≡ scaled (negsuc 0) zs ++ (negsuc 0 *ℤ z) ∷ []
scaled_push [] z = refl
scaled_push (y ∷ zs) z = ap (λ (ys : List ℤ). (negsuc 0 *ℤ y) ∷ ys) (scaled_push zs z)

pub opposite_more : (xs ys : List ℤ) (i : ℕ) → i < length xs → length xs ≡ length ys → take i xs ≡ scaled (negsuc 0) (take i ys)
    → get_or xs i (pos 0) ≡ neg_ℤ (get_or ys i (pos 0)) → take (i + 1) xs ≡ scaled (negsuc 0) (take (i + 1) ys)
opposite_more xs ys i l e h v =
    take_more xs i (pos 0) l
    ∙ ap (λ (zs : List ℤ). zs ++ get_or xs i (pos 0) ∷ []) h
    ∙ ap (λ z. scaled (negsuc 0) (take i ys) ++ z ∷ []) (v ∙ minus (get_or ys i (pos 0)))
    ∙ sym (scaled_push (take i ys) (get_or ys i (pos 0)))
    ∙ ap (λ (zs : List ℤ). scaled (negsuc 0) zs) (sym (take_more ys i (pos 0) (omega (arith, l, e))))

pub opposite_all : (xs ys : List ℤ) (i : ℕ) → length xs ≤ i → length xs ≡ length ys → take i xs ≡ scaled (negsuc 0) (take i ys)
    → xs ≡ scaled (negsuc 0) ys
opposite_all xs ys i l e h =
    sym (take_all i xs l) ∙ h ∙ ap (λ (zs : List ℤ). scaled (negsuc 0) zs) (take_all i ys (omega (arith, l, e)))

pub ruleset opposite_steps = (to_z-of_z, opposite_more, opposite_all)
