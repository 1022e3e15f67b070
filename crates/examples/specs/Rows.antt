-- Rows that the definitions of the steps must give.
use Rattle.std.specs.Prelude.{◌≡◌, ℕ, zero, suc, ◌-◌, List, [], ◌∷◌, map, length, pos, negsuc, slice_index}
use Rattle.std.proofs.Common.{lit<}
use Rattle.level.specs.declared.side.Side.TheVariants.{Low, High}
use Rattle.level.specs.Kind.{Kind}
use Rattle.level.specs.Flags.{Flag, Set}
use Rattle.level.specs.Delivered.{greys, masks, heights, height, labels, label}
use Rattle.rule.specs.Criterion.{Criterion}
use Rattle.rule.specs.Variance.{least_variance}
use Rattle.rule.specs.Range.{least_range}
use Rattle.recipe.specs.declared.element.Element.{Element}
use Rattle.recipe.specs.declared.step.Step.{Step}
use Rattle.recipe.specs.declared.step.Step.TheVariants.{Frame, Erode, Dilate, Open, Close, MeanLow, MeanHigh, SelectLow, SelectHigh}
use Rattle.steps.specs.Images.{Image, bound}
use Rattle.steps.specs.Recipes.{image, mean}

-- one row of ranks as a frame
abbrev pub row : (K : Kind) → List ℕ → Image K
row K xs p = K.at (slice_index xs p.column)

-- the ranks of the last n columns before column e, in order
abbrev pub columns : (K : Kind) → Image K → ℕ → ℕ → List ℕ
columns K f e zero = []
columns K f e (suc n) = K.rank (f (record { column = e - suc n; row = 0 })) ∷ columns K f e n

-- what a recipe makes of a row
abbrev pub made : Kind → Criterion → List Step → List ℕ → List ℕ
made K C steps xs = columns K (image K C (record { width = length xs; height = 1 }) steps (row K xs)) (length xs) (length xs)

-- the element of a mask
abbrev pub by : ℕ → Element
by n = record { bits = n }

abbrev pub four : List ℕ
four = 3 ∷ 9 ∷ 2 ∷ 7 ∷ []

abbrev pub peak : List ℕ
peak = 4 ∷ 4 ∷ 4 ∷ 10 ∷ 4 ∷ 4 ∷ 4 ∷ []

abbrev pub gaps : List ℕ
gaps = 1 ∷ 1 ∷ 0 ∷ 1 ∷ 0 ∷ 0 ∷ 0 ∷ 0 ∷ 1 ∷ 1 ∷ 0 ∷ 1 ∷ []

abbrev pub ramp : List ℕ
ramp = 0 ∷ 0 ∷ 10 ∷ 20 ∷ 20 ∷ []

-- rows of grey, and one of a mask, whatever the rule
pub record FoldedRows (C : Criterion) : Type 0 where
  pub eroded : made greys C (Frame ∷ Erode (by 0x3800) ∷ []) four ≡ 3 ∷ 2 ∷ 2 ∷ 2 ∷ []
  pub dilated : made greys C (Frame ∷ Dilate (by 0x3800) ∷ []) four ≡ 9 ∷ 9 ∷ 9 ∷ 7 ∷ []
  pub mean_low : made greys C (Frame ∷ Erode (by 0x3800) ∷ Frame ∷ Dilate (by 0x3800) ∷ MeanLow ∷ []) four ≡ 6 ∷ 5 ∷ 5 ∷ 4 ∷ []
  pub mean_high : made greys C (Frame ∷ Erode (by 0x3800) ∷ Frame ∷ Dilate (by 0x3800) ∷ MeanHigh ∷ []) four ≡ 6 ∷ 6 ∷ 6 ∷ 5 ∷ []
  pub opened : made greys C (Frame ∷ Open (by 0x3800) ∷ []) four ≡ 3 ∷ 3 ∷ 2 ∷ 2 ∷ []
  pub closed : made greys C (Frame ∷ Close (by 0x3800) ∷ []) four ≡ 9 ∷ 9 ∷ 7 ∷ 7 ∷ []
  pub between : made greys C (Frame ∷ Open (by 0x3800) ∷ Frame ∷ Close (by 0x3800) ∷ MeanLow ∷ []) peak ≡ 4 ∷ 4 ∷ 4 ∷ 7 ∷ 4 ∷ 4 ∷ 4 ∷ []
  pub smoothed :
      made greys C (Frame ∷ Open (by 0x3800) ∷ Close (by 0x3800) ∷ Frame ∷ Close (by 0x3800) ∷ Open (by 0x3800) ∷ MeanHigh ∷ []) peak
      ≡ 4 ∷ 4 ∷ 4 ∷ 4 ∷ 4 ∷ 4 ∷ 4 ∷ []
  -- no level outside is read: where the element leads nowhere inside, erosion gives the greatest level and dilation the least
  pub eroded_past : made greys C (Frame ∷ Erode (by 0x2000) ∷ []) (5 ∷ 6 ∷ []) ≡ 6 ∷ 255 ∷ []
  pub dilated_past : made greys C (Frame ∷ Dilate (by 0x2000) ∷ []) (5 ∷ 6 ∷ []) ≡ 6 ∷ 0 ∷ []
  pub opened_past : made greys C (Frame ∷ Open (by 0x2000) ∷ []) (9 ∷ []) ≡ 0 ∷ []
  pub closed_past : made greys C (Frame ∷ Close (by 0x2000) ∷ []) (9 ∷ []) ≡ 255 ∷ []
  pub open_close :
      made masks C (Frame ∷ Open (by 0x3400) ∷ Close (by 0x3400) ∷ []) gaps ≡ 1 ∷ 1 ∷ 1 ∷ 1 ∷ 0 ∷ 0 ∷ 1 ∷ 0 ∷ 1 ∷ 1 ∷ 1 ∷ 1 ∷ []
  pub close_open :
      made masks C (Frame ∷ Close (by 0x3400) ∷ Open (by 0x3400) ∷ []) gaps ≡ 1 ∷ 1 ∷ 1 ∷ 1 ∷ 0 ∷ 0 ∷ 0 ∷ 0 ∷ 1 ∷ 1 ∷ 1 ∷ 1 ∷ []

-- rows of grey by the delivered rules
pub record SelectedRows : Type 0 where
  pub variance_low : made greys least_variance (Frame ∷ SelectLow (by 0x3800) ∷ []) ramp ≡ 0 ∷ 0 ∷ 3 ∷ 20 ∷ 20 ∷ []
  pub variance_high : made greys least_variance (Frame ∷ SelectHigh (by 0x3800) ∷ []) ramp ≡ 0 ∷ 0 ∷ 17 ∷ 20 ∷ 20 ∷ []
  pub range_low : made greys least_range (Frame ∷ SelectLow (by 0x3800) ∷ []) ramp ≡ 0 ∷ 0 ∷ 5 ∷ 20 ∷ 20 ∷ []
  pub range_high : made greys least_range (Frame ∷ SelectHigh (by 0x3800) ∷ []) ramp ≡ 0 ∷ 0 ∷ 15 ∷ 20 ∷ 20 ∷ []
  pub border : made greys least_variance (Frame ∷ SelectLow (by 0x3800) ∷ []) (0 ∷ 4 ∷ 5 ∷ []) ≡ 2 ∷ 4 ∷ 4 ∷ []
  -- windows are turned against the element: the other way round this would be 5 5 9 9
  pub turned : made greys least_variance (Frame ∷ SelectLow (by 0x3000) ∷ []) (0 ∷ 5 ∷ 5 ∷ 9 ∷ []) ≡ 0 ∷ 5 ∷ 5 ∷ 7 ∷ []

-- the twelve flags of a label, the lowest first
abbrev pub each : List (Flag 12)
each =
    (0, lit< tt) ∷ (1, lit< tt) ∷ (2, lit< tt) ∷ (3, lit< tt) ∷ (4, lit< tt) ∷ (5, lit< tt)
    ∷ (6, lit< tt) ∷ (7, lit< tt) ∷ (8, lit< tt) ∷ (9, lit< tt) ∷ (10, lit< tt) ∷ (11, lit< tt) ∷ []

-- the two labels have the same flags
abbrev pub Agree : Set 12 → Set 12 → Type 0
Agree a b = map a each ≡ map b each

-- levels of the other kinds
pub record OtherLevels : Type 0 where
  pub height_low : mean heights Low (height (negsuc 2)) (height (pos 2)) ≡ height (negsuc 0)
  pub height_high : mean heights High (height (negsuc 2)) (height (pos 2)) ≡ height (pos 0)
  pub label_meet : Agree (bound labels Low (label 0x00F0) (label 0x0033)) (label 0x0030)
  pub label_join : Agree (bound labels High (label 0x00F0) (label 0x0033)) (label 0x00F3)
  pub label_negation : Agree (labels.negation (label 0x00F3)) (label 0x0F0C)
  -- the heights -32,768 and 32,767 are each other's negation
  pub lowest_negation : heights.negation (height (negsuc 32767)) ≡ height (pos 32767)
  pub highest_negation : heights.negation (height (pos 32767)) ≡ height (negsuc 32767)
  -- the labels are equal, flag by flag and so whole
  pub label_meet_is : bound labels Low (label 0x00F0) (label 0x0033) ≡ label 0x0030
  pub label_join_is : bound labels High (label 0x00F0) (label 0x0033) ≡ label 0x00F3
  pub label_negation_is : labels.negation (label 0x00F3) ≡ label 0x0F0C
