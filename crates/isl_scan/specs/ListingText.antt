-- public: listed elements as text. (the iscc chapter of the barvinok manual, on `scan`)
use Rattle.std.specs.Prelude.{List, map}
use Rattle.std.specs.Fmt.{signed_decimal}
use Rattle.isl_space.specs.Element.{Element}
use Rattle.isl_print.specs.Joined.{Text}
use Rattle.isl_print.specs.Printed.{pieces_text}
use Rattle.isl_print.specs.Tuple.{tuples_text}

-- the tuples of the element's space, with its numbers in them
abbrev pub element_text : Element → Text
element_text element = tuples_text element.space (map signed_decimal element.coordinates)

-- `{ }`, or the elements with `; ` between them, in braces
abbrev pub listing_text : List Element → Text
listing_text listing = pieces_text (map element_text listing)
