-- Calls that are kept.
use Rattle.std.proofs.Common.{◌≡◌, ◌∙◌, ap, sym, List, [], ◌∷◌, ◌++◌, append_assoc}
use Rattle.std.proofs.lemmas.List.{append-nil}
use Rattle.isl_loop.specs.Run.{Event}
use Rattle.isl_ast.specs.Called.{AreCalled}

-- where each call is put behind others, all are
pub called_list : (before after calls : List Event)
    → AreCalled (λ (kept : List Event) (call : Event) (more : List Event). more ≡ kept ++ call ∷ []) before calls after
    → after ≡ before ++ calls
called_list before after [] p = p ∙ sym (append-nil before)
called_list before after (call ∷ calls) p =
    called_list p.0 after calls p.2 ∙ ap (λ (es : List Event). es ++ calls) p.1 ∙ append_assoc before (call ∷ []) calls
