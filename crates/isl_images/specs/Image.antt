-- inner: the operations of this crate on one value, as one.
use Rattle.isl_space.specs.Element.{Element}
use Rattle.isl_relation.specs.Maps.{DeltasHas, DomainHas, RangeHas}
use Rattle.isl_images.specs.declared.image.Image.{Image}
use Rattle.isl_images.specs.declared.image.Image.TheVariants.{Deltas, Domain, Range}

-- the elements of the image of a map
abbrev pub ImageHas : Image → (Element → Type 0) → Element → Type 0
ImageHas Domain M element = DomainHas M element
ImageHas Range M element = RangeHas M element
ImageHas Deltas M element = DeltasHas M element
