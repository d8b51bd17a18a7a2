-- inner: the names that are known at a place of a literal, as the check of a literal keeps them.
use Rattle.std.specs.Prelude.{Bool, true, false, List, Option, Some, None}
use Rattle.std.specs.Str.{bytes_eq}
use Rattle.isl_space.specs.Name.{Name}
use Rattle.isl_tree.specs.declared.tree.Entry.{Entry}
use Rattle.isl_tree.specs.declared.tree.Entry.TheVariants.{Plain, Named}
use Rattle.isl_tree.specs.Literal.{lone_name, entries_of}
use Rattle.isl_tree.specs.Term.{Term}
use Rattle.isl_tree.specs.Known.{known_behind, known_below, term_is_known}
use Rattle.isl_kinds.specs.declared.place.Place.{Place, Params, Behind', After', Below'}

-- the names that are known at a place
abbrev pub names_at : Place → List Name
names_at (Params params) = params.now
names_at (Behind' entries p before) = known_behind (names_at before) entries.now
names_at (After' tuple p before) = known_behind (names_at before) (entries_of tuple.now)
names_at (Below' binders p before) = known_below (names_at before) binders.now

abbrev pub is_name : Name → Option Name → Bool
is_name name None = false
is_name name (Some other) = bytes_eq other name

-- the name stands alone at an entry, or before `=`
abbrev pub stands_at : Name → Entry → Bool
stands_at name (Plain term) = is_name name (lone_name term)
stands_at name (Named other term) = bytes_eq other name

-- the term of a binder knows its names, where there is one
abbrev pub value_is_known : List Name → Option Term → Bool
value_is_known known None = true
value_is_known known (Some term) = term_is_known known term
