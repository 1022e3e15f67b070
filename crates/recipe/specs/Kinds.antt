-- The kinds of records and their numbers.
use Rattle.std.specs.Prelude.{◌≡◌, ℕ, ◌<◌, ◌⊎◌, Result, MatchResult}
use Rattle.recipe.specs.declared.kind.Kind.{Kind}
use Rattle.recipe.specs.declared.kind.Kind.TheVariants.{Frame, Negate, Erode, Dilate, Open, Close, Meet, Join, MeanLow, MeanHigh, SelectLow, SelectHigh}
use Rattle.recipe.specs.declared.kind.UnknownKind.{UnknownKind}

-- the byte that stands for a kind
abbrev pub number_of : Kind → ℕ
number_of Frame = 1
number_of Negate = 2
number_of Erode = 3
number_of Dilate = 4
number_of Open = 5
number_of Close = 6
number_of Meet = 7
number_of Join = 8
number_of MeanLow = 9
number_of MeanHigh = 10
number_of SelectLow = 11
number_of SelectHigh = 12

-- the kind of this number, or an error with the number where it is not from 1 to 12
abbrev pub Decodes : ℕ → Result Kind UnknownKind → Type 0
Decodes number r = MatchResult r (λ kind. number_of kind ≡ number) (λ e. (e.0 ≡ number) × ((number < 1) ⊎ (12 < number)))

-- low for high and high for low
abbrev pub mirror_kind : Kind → Kind
mirror_kind Frame = Frame
mirror_kind Negate = Negate
mirror_kind Erode = Dilate
mirror_kind Dilate = Erode
mirror_kind Open = Close
mirror_kind Close = Open
mirror_kind Meet = Join
mirror_kind Join = Meet
mirror_kind MeanLow = MeanHigh
mirror_kind MeanHigh = MeanLow
mirror_kind SelectLow = SelectHigh
mirror_kind SelectHigh = SelectLow
