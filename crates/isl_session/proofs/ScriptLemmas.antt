-- One byte behind the bytes that a session holds.
use Rattle.std.proofs.Common.{◌≡◌, ℕ, true, false, List, [], ◌∷◌, ◌++◌, sym, ◌∙◌, ap, subst}
use Rattle.isl_script.specs.Script.{statements, rest_of, ends, IsOpen}
use Rattle.isl_script.proofs.ScriptLaws.{rest-end, rest-hold, rest-open, statements-end, statements-hold, statements-open}

module _ (rest : List ℕ) (byte : ℕ) (is_open : IsOpen rest) where
  -- a byte that ends nothing is held
  module _ (is : ends rest byte ≡ false) where
    at_rest : ends (rest_of rest) byte ≡ false
    at_rest = subst (λ (l : List ℕ). ends l byte ≡ false) (sym (rest-open rest is_open)) is

    pub statements-held : statements (rest ++ byte ∷ []) ≡ []
    statements-held = statements-hold rest byte at_rest ∙ statements-open rest is_open

    pub rest_of-held : rest_of (rest ++ byte ∷ []) ≡ rest ++ byte ∷ []
    rest_of-held = rest-hold rest byte at_rest ∙ ap (λ (l : List ℕ). l ++ byte ∷ []) (rest-open rest is_open)

  -- a byte that ends a statement
  module _ (is : ends rest byte ≡ true) where
    at_end : ends (rest_of rest) byte ≡ true
    at_end = subst (λ (l : List ℕ). ends l byte ≡ true) (sym (rest-open rest is_open)) is

    pub statements-ended : statements (rest ++ byte ∷ []) ≡ rest ∷ []
    statements-ended =
        statements-end rest byte at_end
        ∙ ap (λ (l : List (List ℕ)). l ++ rest_of rest ∷ []) (statements-open rest is_open)
        ∙ ap (λ (l : List ℕ). l ∷ []) (rest-open rest is_open)

    pub rest_of-ended : rest_of (rest ++ byte ∷ []) ≡ []
    rest_of-ended = rest-end rest byte at_end
