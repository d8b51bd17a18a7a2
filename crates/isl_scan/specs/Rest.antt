-- inner: what is left to write of a listing.
use Rattle.std.specs.Prelude.{Bool, true, false, List, [], ◌∷◌, ◌++◌, codes}
use Rattle.isl_print.specs.Joined.{Text, each_after}

-- what stands before an element
abbrev pub lead_text : Bool → Text
lead_text true = codes " "
lead_text false = codes "; "

-- the texts of the elements that are left, of which the first is that of the listing, or a later one
abbrev pub rest_text : Bool → List Text → Text
rest_text is_first [] = []
rest_text is_first (text ∷ texts) = lead_text is_first ++ text ++ each_after (codes "; ") texts
