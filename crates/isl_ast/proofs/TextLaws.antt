-- Calls as text, line by line.
use Rattle.std.proofs.Common.{◌≡◌, ◌∙◌, ℕ, List, [], ◌∷◌, ◌++◌, ap, sym, append_assoc}
use Rattle.std.proofs.lemmas.List.{append-nil}
use Rattle.isl_loop.specs.Run.{Event}
use Rattle.isl_ast.specs.Called.{AreCalled}
use Rattle.isl_ast.specs.CallText.{call_line, call_lines}

-- where each call puts its line behind a text, all put theirs there
pub called_lines : (before after : List ℕ) (calls : List Event)
    → AreCalled (λ (text : List ℕ) (call : Event) (longer : List ℕ). longer ≡ text ++ call_line call) before calls after
    → after ≡ before ++ call_lines calls
called_lines before after [] p = p ∙ sym (append-nil before)
called_lines before after (call ∷ calls) p =
    called_lines p.0 after calls p.2 ∙ ap (λ (t : List ℕ). t ++ call_lines calls) p.1
    ∙ append_assoc before (call_line call) (call_lines calls)
