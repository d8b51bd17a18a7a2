-- The signs that a printer writes are tokens. A blank follows those with which a longer sign begins.
use Rattle.std.proofs.Common.{◌≡◌, ℕ, ◌<◌, Bool, true, false, List, [], ◌∷◌, ◌++◌, length, slice_index, refl, sym, subst, arith}
use Rattle.std.specs.Prelude.{◌||◌}
use Rattle.std.specs.List.{list_any}
use Rattle.std.specs.Str.{bytes_eq}
use Rattle.std.proofs.lemmas.Bool.{eqb-true, false≢true}
use Rattle.std.proofs.lemmas.Slice.Eq.{bytes_eq-Decides}
use Rattle.isl_token.specs.TokenView as token
use Rattle.isl_token.specs.declared.lex.Piece.TheVariants as piece
use Rattle.isl_token.specs.Token.{Text, signs}
use Rattle.isl_token.specs.Lex.{cut}
use Rattle.isl_token.proofs.Prints.{Prints, any, blank, blank_prints, prints_both, sign_prints}

-- the text is cut as a sign, where a byte after it passes the test
Cuts : (ℕ → Bool) → Text → Type 0
Cuts test text = (0 < length text) × ((z : Text) → test (slice_index z 0) ≡ true → cut (text ++ z) ≡ (piece.Sign, length text))

AllCut : (ℕ → Bool) → List Text → Type 0
AllCut test [] = Unit {0}
AllCut test (text ∷ texts) = Cuts test text × AllCut test texts

one_cuts : (test : ℕ → Bool) (texts : List Text) → AllCut test texts → (text : Text) → list_any (bytes_eq text) texts ≡ true
    → Cuts test text
unfolding AllCut
one_cuts test [] all text among = absurd (false≢true among)
one_cuts test (t ∷ texts) all text among = by_test (bytes_eq text t) refl among (one_cuts test texts all.1 text)
  where
    by_test : (q : Bool) → bytes_eq text t ≡ q → (q || list_any (bytes_eq text) texts) ≡ true
        → (list_any (bytes_eq text) texts ≡ true → Cuts test text) → Cuts test text
    by_test true same among rest = subst (Cuts test) (sym ((bytes_eq-Decides text t).0 same)) all.0
    by_test false other among rest = rest among

-- ---- signs that no byte makes longer: `,` `;` `(` `)` `[` `]` `{` `}` `+` `>=` `!=`

abbrev pub whole_signs : List Text
whole_signs =
    (44 ∷ []) ∷ (59 ∷ []) ∷ (40 ∷ []) ∷ (41 ∷ []) ∷ (91 ∷ []) ∷ (93 ∷ []) ∷ (123 ∷ []) ∷ (125 ∷ []) ∷ (43 ∷ []) ∷ (62 ∷ 61 ∷ []) ∷
    (33 ∷ 61 ∷ []) ∷ []

whole_cut : AllCut any whole_signs
unfolding AllCut Cuts cut signs
whole_cut = (
  (omega arith, λ z _. refl),
  (
    (omega arith, λ z _. refl),
    (
      (omega arith, λ z _. refl),
      (
        (omega arith, λ z _. refl),
        (
          (omega arith, λ z _. refl),
          (
            (omega arith, λ z _. refl),
            (
              (omega arith, λ z _. refl),
              (
                (omega arith, λ z _. refl),
                ((omega arith, λ z _. refl), ((omega arith, λ z _. refl), ((omega arith, λ z _. refl), tt))),
              ),
            ),
          ),
        ),
      ),
    ),
  ),
)

pub whole_sign_prints : (text : Text) → list_any (bytes_eq text) whole_signs ≡ true → Prints text (token.Sign text ∷ []) any
unfolding Cuts
whole_sign_prints text among = let is = one_cuts any whole_signs whole_cut text among in sign_prints text any is.0 is.1

-- ---- signs before a blank: `-` `->` `=` `:`

abbrev pub spaced_signs : List Text
spaced_signs = (45 ∷ []) ∷ (45 ∷ 62 ∷ []) ∷ (61 ∷ []) ∷ (58 ∷ []) ∷ []

-- what is known before a blank is known of what follows
before_blank : (text : Text) → ((z : Text) → cut (text ++ 32 ∷ z) ≡ (piece.Sign, length text)) → (z : Text) → blank
    (slice_index z 0) ≡ true → cut (text ++ z) ≡ (piece.Sign, length text)
before_blank text is [] ends = absurd cc
before_blank text is (b ∷ z) ends = let e : b ≡ 32 = eqb-true b 32 ends in rw e (is z)

spaced_cut : AllCut blank spaced_signs
unfolding AllCut Cuts cut signs
spaced_cut = (
  (omega arith, before_blank (45 ∷ []) (λ z. refl)),
  (
    (omega arith, before_blank (45 ∷ 62 ∷ []) (λ z. refl)),
    ((omega arith, before_blank (61 ∷ []) (λ z. refl)), ((omega arith, before_blank (58 ∷ []) (λ z. refl)), tt)),
  ),
)

pub spaced_sign_prints : (text : Text) → list_any (bytes_eq text) spaced_signs ≡ true → Prints (text ++ 32 ∷ []) (token.Sign text ∷ []) any
unfolding Cuts
spaced_sign_prints text among =
    let is = one_cuts blank spaced_signs spaced_cut text among in
    prints_both text (32 ∷ []) (token.Sign text ∷ []) [] blank any (sign_prints text blank is.0 is.1) blank_prints (λ z _. refl)
