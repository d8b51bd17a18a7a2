-- inner: comparisons, and the names that `exists` binds: how they are read.
use Rattle.std.specs.Prelude.{Bool, is_some, List, [], ◌∷◌, Option, Some, None, if◌then◌else◌}
use Rattle.isl_token.specs.TokenView.{Token}
use Rattle.isl_token.specs.declared.token.Kind.{Kind}
use Rattle.isl_token.specs.declared.token.Kind.TheVariants as k
use Rattle.isl_token.specs.Reading.{Parser, ◌>>=◌, ◌>>◌, pure, none, head_kind, sees, peek, skip, name, row, after_sign, separated}
use Rattle.isl_tree.specs.declared.tree.Signed.{Signed}
use Rattle.isl_tree.specs.declared.tree.Compare.{Compare}
use Rattle.isl_tree.specs.declared.tree.Compare.TheVariants as compare
use Rattle.isl_tree.specs.declared.tree.Binder.{Binder}
use Rattle.isl_tree.specs.declared.tree.Formula.{Formula}
use Rattle.isl_tree.specs.declared.tree.Formula.TheVariants as f

abbrev pub compare_of : Kind → Option Compare
compare_of k.Equal = Some compare.Equal
compare_of k.Less = Some compare.Less
compare_of k.LessEqual = Some compare.LessEqual
compare_of k.Greater = Some compare.Greater
compare_of k.GreaterEqual = Some compare.GreaterEqual
compare_of k.Differs = Some compare.Differs
compare_of _ = None

abbrev pub sees_compare : List Token → Bool
sees_compare ts = is_some (compare_of (head_kind ts))

-- a compare sign
abbrev pub compare_by : Option Compare → Parser Compare
compare_by (Some c) = skip >> pure c
compare_by None = none

unfoldable pub comparison : Parser Compare
comparison = peek >>= λ kind. compare_by (compare_of kind)

module _ (term : Parser (List Signed)) where
  abbrev pub side : Parser (List (List Signed))
  side = separated k.Comma term

  unfoldable pub link : Parser (Compare × List (List Signed))
  link = do
    c ← comparison
    right ← side
    pure (c, right)

  unfoldable pub chain : Parser Formula
  chain = do
    first ← side
    second ← link
    links ← row sees_compare link (second ∷ [])
    pure (f.Chain first links)

  -- what a name is bound to
  abbrev pub value : Parser (Option (List Signed))
  value = λ ts. if sees k.Equal ts then (after_sign term >>= λ t. pure (Some t)) ts else Some (None, ts)

  unfoldable pub binder : Parser Binder
  binder = do
    bound ← name
    held ← value
    pure (record { name = bound; value = held })

  abbrev pub binders : Parser (List Binder)
  binders = separated k.Comma binder
