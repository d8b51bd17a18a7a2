-- One turn of the loop that cuts tokens.
use Rattle.std.proofs.Common.{◌≡◌, ◌≢◌, ℕ, zero, suc, ◌+◌, ◌-◌, ◌<◌, ◌≤◌, List, [], ◌∷◌, ◌++◌, length, take, drop, Option, Some, None, Ok}
use Rattle.std.proofs.Common.{Err, refl, sym, ap, subst, ◌∙◌, arith}
use Rattle.std.specs.Prelude.{All, map}
use Rattle.std.proofs.lemmas.List.Elements.{All-push}
use Rattle.std.proofs.lemmas.List.{append-nil, append_assoc, length-drop, map-append, nil_from_length}
use Rattle.isl_token.specs.TokenView.{Token}
use Rattle.isl_token.specs.declared.lex.Piece.{Piece}
use Rattle.isl_token.specs.Token.{Text, IsToken}
use Rattle.isl_token.specs.declared.fault.Fault.{Fault}
use Rattle.isl_token.specs.declared.fault.Fault.TheVariants.{NoMemory, Syntax}
use Rattle.isl_token.specs.declared.marks.Mark.{Mark}
use Rattle.isl_token.specs.declared.token.Kind.{Kind}
use Rattle.isl_token.specs.declared.lex.Piece.TheVariants as piece
use Rattle.isl_token.specs.Lex.{cut, tokens_of, token_of, token_at, join, tokens_from, tokens, Lexes, IsPiece, IsKindAt, IsKindOfPiece}
use Rattle.isl_token.proofs.Fronts.{front_piece}

tokens_from-drop : (n : ℕ) (z : Text) → tokens_from n z ≡ tokens_from 0 (drop n z)
tokens_from-drop zero z = refl
tokens_from-drop (suc n) [] = refl
tokens_from-drop (suc n) (b ∷ z) = tokens_from-drop n z

drop-cons : (n b : ℕ) (z : Text) → 1 ≤ n → drop (n - 1) z ≡ drop n (b ∷ z)
drop-cons zero b z h = absurd (omega arith)
drop-cons (suc n) b z h = let e : suc n - 1 ≡ n = omega arith in ap (λ k. drop k z) e

-- the tokens of a text are those of the piece at its front, and the rest's
pub tokens_step : (z : Text) → 0 < length z → 1 ≤ (cut z).1 → tokens z ≡ join (tokens_of (cut z).0 (take (cut z).1 z))
    (tokens (drop (cut z).1 z))
unfolding tokens
tokens_step [] some moves = absurd (omega arith)
tokens_step (b ∷ z) some moves = rw (tokens_from-drop ((cut (b ∷ z)).1 - 1) z, drop-cons (cut (b ∷ z)).1 b z moves) refl

tokens_wrong : (z : Text) → 0 < length z → tokens_of (cut z).0 (take (cut z).1 z) ≡ None → tokens z ≡ None
unfolding tokens
tokens_wrong [] some wrong = absurd (omega arith)
tokens_wrong (b ∷ z) some wrong = rw wrong refl

pub join_join : (us vs : List Token) (r : Option (List Token)) → join (Some us) (join (Some vs) r) ≡ join (Some (us ++ vs)) r
join_join us vs None = refl
join_join us vs (Some ts) = ap (λ l. Some l) (sym (append_assoc us vs ts))

goes : (total : Option (List Token)) (found new : List Token) (z : Text) (p : Piece) (n : ℕ)
    → total ≡ join (Some found) (tokens z) → (p, n) ≡ cut z → tokens_of p (take n z) ≡ Some new → 0 < length z → 1 ≤ n
    → total ≡ join (Some (found ++ new)) (tokens (drop n z))
goes total found new z p n so_far is token some moves =
    let pn : p ≡ (cut z).0 = ap (λ c. c.0) is in
    let nn : n ≡ (cut z).1 = ap (λ c. c.1) is in
    let step = tokens_step z some (rw (← nn) moves) in
    so_far ∙ ap (join (Some found)) (step ∙ rw (← pn, ← nn, token) refl) ∙ join_join found new (tokens (drop n z))

-- ---- marks

abbrev pub tokens_at : Text → List Mark → List Token
tokens_at text marks = map (λ m. token_at text m.place) marks

pub no_marks : (text : Text) (marks : List Mark) → length marks < 1 → tokens_at text marks ≡ []
no_marks text [] none = refl
no_marks text (m ∷ marks) none = absurd (omega (arith, none))

drop_none : (n : ℕ) → drop n (let none : Text = [] in none) ≡ []
drop_none zero = refl
drop_none (suc n) = refl

drop_more : (n m : ℕ) (z : Text) → drop m (drop n z) ≡ drop (n + m) z
drop_more zero m z = ap (λ k. drop k z) (let e : m ≡ 0 + m = omega arith in e)
drop_more (suc n) m [] = drop_none m ∙ sym (drop_none (suc n + m))
drop_more (suc n) m (b ∷ z) = let e : suc (n + m) ≡ suc n + m = omega arith in drop_more n m z ∙ ap (λ k. drop k (b ∷ z)) e

pub token_there : (text : Text) (at : ℕ) (p : Piece) (n : ℕ) → (p, n) ≡ cut (drop at text) → token_at text at ≡ token_of p
    (take n (drop at text))
unfolding token_at
token_there text at p n is = ap (λ (c : Piece × ℕ). token_of c.0 (take c.1 (drop at text))) (sym is)

some_left : (text : Text) (at : ℕ) → at < length text → 0 < length (drop at text)
some_left text at below = omega (arith, length-drop at text)

tokens_push : (text : Text) (marks : List Mark) (mark : Mark) → tokens_at text
    (marks ++ mark ∷ []) ≡ tokens_at text marks ++ token_at text mark.place ∷ []
tokens_push text marks mark = map-append (λ (m : Mark). token_at text m.place) marks (mark ∷ [])

formed_token : (p : Piece) (text : Text) → IsPiece p text → tokens_of p text ≡ Some (token_of p text ∷ []) → IsToken (token_of p text)
formed_token piece.Nothing text is some = absurd cc
formed_token piece.Word text is some = is
formed_token piece.Number text is some = is
formed_token piece.Sign text is some = is
formed_token piece.Wrong text is some = absurd cc

pub cut_piece : (z : Text) (p : Piece) (n : ℕ) → (p, n) ≡ cut z → IsPiece p (take n z)
cut_piece z p n is = let motive : Piece × ℕ → Type 0 = λ c. IsPiece c.0 (take c.1 z) in subst motive (sym is) (front_piece z)

pub front_is_piece : (z front : Text) (p : Piece) (n : ℕ) → (p, n) ≡ cut z → front ≡ take n z → IsPiece p front
front_is_piece z front p n is begins = rw begins (cut_piece z p n is)

pub not_some : (o : Option Kind) → ((k : Kind) → o ≢ Some k) → o ≡ None
not_some None none = refl
not_some (Some k) none = absurd (none k refl)

module _ (text : Text) (marks : List Mark) (at : ℕ) (z front : Text) (p : Piece) (n : ℕ)
    (so_far : tokens text ≡ join (Some (tokens_at text marks)) (tokens (drop at text)))
    (back : z ≡ drop at text) (is : (p, n) ≡ cut z) (begins : front ≡ take n z) (below : at < length text) where
  cut_is : (p, n) ≡ cut (drop at text)
  cut_is = is ∙ ap cut back

  front_is : front ≡ take n (drop at text)
  front_is = begins ∙ ap (take n) back

  token_is : (place : ℕ) → place ≡ at → token_at text place ≡ token_of p front
  token_is place same = ap (token_at text) same ∙ token_there text at p n cut_is ∙ ap (token_of p) (sym front_is)

  front_tokens : (new : List Token) → tokens_of p front ≡ Some new → tokens_of p (take n (drop at text)) ≡ Some new
  front_tokens new is = ap (tokens_of p) (sym front_is) ∙ is

  pub one_mark : (more : List Mark) (next : ℕ) (kind : Kind) (mark : Mark) → IsKindOfPiece p front (Ok (Some kind)) → 1 ≤ n
      → mark.place ≡ at → more ≡ marks ++ mark ∷ [] → next ≡ at + n
      → tokens text ≡ join (Some (tokens_at text more)) (tokens (drop next text))
  one_mark more next kind mark known moves place pushed end =
      let new : tokens_of p front ≡ Some (token_at text mark.place ∷ []) = known.0 ∙ ap (λ (t : Token). Some (t ∷ []))
      (sym (token_is mark.place place)) in
      goes (tokens text) (tokens_at text marks) (token_at text mark.place ∷ []) (drop at text) p n so_far cut_is (front_tokens _ new)
      (some_left text at below) moves
      ∙ rw (end, pushed, tokens_push text marks mark, drop_more at n text) refl

  pub no_mark : (next : ℕ) → IsKindOfPiece p front (Ok None) → 1 ≤ n → next ≡ at + n → tokens text ≡ join (Some (tokens_at text marks))
      (tokens (drop next text))
  no_mark next known moves end =
      goes (tokens text) (tokens_at text marks) [] (drop at text) p n so_far cut_is (front_tokens [] known) (some_left text at below) moves
      ∙ rw (end, append-nil (tokens_at text marks), drop_more at n text) refl

  pub marks_fail : (e : Fault) → IsKindOfPiece p front (Err e) → Lexes (tokens text) (Err e)
  marks_fail NoMemory wrong = tt
  marks_fail Syntax wrong =
      let pn : p ≡ (cut (drop at text)).0 = ap (λ c. c.0) cut_is in
      let nn : n ≡ (cut (drop at text)).1 = ap (λ c. c.1) cut_is in
      let none : tokens (drop at text) ≡ None = tokens_wrong (drop at text) (some_left text at below) (rw (← pn, ← nn, ← front_is) wrong) in
      so_far ∙ rw none refl

  pub one_kind : (more : List Mark) (kind : Kind) (mark : Mark) → All (λ (m : Mark). IsKindAt text m.place m.kind) marks
      → IsKindOfPiece p front (Ok (Some kind))
      → mark.place ≡ at → mark.kind ≡ kind → more ≡ marks ++ mark ∷ [] → All (λ (m : Mark). IsKindAt text m.place m.kind) more
  one_kind more kind mark known one place same pushed =
      rw pushed (All-push (λ (m : Mark). IsKindAt text m.place m.kind) marks mark known
      (rw place below, rw (same, token_is mark.place place) one.1))

  pub one_formed : (more : List Mark) (kind : Kind) (mark : Mark) → All IsToken (tokens_at text marks) → IsKindOfPiece p front
      (Ok (Some kind)) → mark.place ≡ at → more ≡ marks ++ mark ∷ []
      → All IsToken (tokens_at text more)
  one_formed more kind mark formed one place pushed =
      let piece : IsPiece p front = rw front_is (cut_piece (drop at text) p n cut_is) in
      rw (pushed, tokens_push text marks mark)
      (All-push IsToken (tokens_at text marks) (token_at text mark.place) formed
      (rw (token_is mark.place place) (formed_token p front piece one.0)))

pub marks_end : (text : Text) (marks : List Mark) (at : ℕ) → tokens text ≡ join (Some (tokens_at text marks)) (tokens (drop at text))
    → length text ≤ at → tokens text ≡ Some (tokens_at text marks)
unfolding tokens
marks_end text marks at so_far over =
    let none : drop at text ≡ [] = nil_from_length (drop at text) (omega (arith, length-drop at text)) in
    so_far ∙ rw none (ap (λ l. Some l) (append-nil (tokens_at text marks)))

pub ruleset pieces = (front_is_piece, one_mark, no_mark, marks_fail, marks_end, one_kind, one_formed)
