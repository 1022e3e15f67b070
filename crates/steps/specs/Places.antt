-- Places of the code.
use Rattle.steps.specs.declared.place.Place.{Place as Code}
use Rattle.steps.specs.Images.{Place}

-- the place of an image that it is
abbrev pub place_of : Code → Place
place_of p = record { column = p.column; row = p.row }
