-- Each byte of a part, with what stands before it, as the part grows by a byte at its end.
use Rattle.std.proofs.Common.{◌≡◌, ℕ, [], ◌∷◌, ◌++◌, ◌⊎◌, inl, inr, refl, sym, ap, ◌∙◌, subst, append_assoc}
use Rattle.isl_script.specs.Script.{Bytes, EachByte}

no_front : (front behind : Bytes) (b : ℕ) → [] ≡ front ++ b ∷ behind → ⊥
no_front [] behind b e = cc
no_front (x ∷ front) behind b e = cc

-- a place in a part that ends in b: it is before that byte, or is that byte
pub record IsEarlier (part front : Bytes) (x : ℕ) (behind : Bytes) : Type 0 where
  pub between : Bytes
  pub split : part ≡ front ++ x ∷ between

place_in_push : (part front : Bytes) (b x : ℕ) (behind : Bytes) → part ++ b ∷ [] ≡ front ++ x ∷ behind → IsEarlier part front x behind ⊎ ((front ≡ part) × (x ≡ b))
place_in_push [] [] b x behind e = inr (refl, cc)
place_in_push [] (y ∷ front) b x behind e = absurd (no_front front behind x cc)
place_in_push (p ∷ part) [] b x behind e = inl (record { between = part; split = cc })
place_in_push (p ∷ part) (y ∷ front) b x behind e = elim (place_in_push part front b x behind cc) [
  | inl earlier ↦ inl (record { between = earlier.between; split = let split = earlier.split in cc })
  | inr same ↦ inr (let front_is = same.0 in cc, same.1)
]

module _ (P : Bytes → ℕ → Type 0) where
  pub each_nil : EachByte P []
  each_nil front b behind e = absurd (no_front front behind b e)

  pub each_push : (part : Bytes) (b : ℕ) → EachByte P part → P part b → EachByte P (part ++ b ∷ [])
  each_push part b each last front x behind e = elim (place_in_push part front b x behind e) [
    | inl earlier ↦ each front x earlier.between earlier.split
    | inr same ↦ subst (λ (y : ℕ). P front y) (sym same.1) (subst (λ (l : Bytes). P l b) (sym same.0) last)
  ]

  pub each_front : (part : Bytes) (b : ℕ) → EachByte P (part ++ b ∷ []) → EachByte P part
  each_front part b each front x behind e = each front x (behind ++ b ∷ []) (ap (λ (l : Bytes). l ++ b ∷ []) e ∙ append_assoc front (x ∷ behind) (b ∷ []))

  pub each_last : (part : Bytes) (b : ℕ) → EachByte P (part ++ b ∷ []) → P part b
  each_last part b each = each part b [] refl
