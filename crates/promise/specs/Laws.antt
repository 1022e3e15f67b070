-- The promises of a recipe's sheet, for every kind of level and every rule.
use Rattle.std.specs.Prelude.{◌≡◌, ℕ, ◌<◌, true, T, List, [], map, length, take, slice_index_or}
use Rattle.std.specs.List.{AllByRecursion as Every}
use Rattle.level.specs.Kind.{Kind}
use Rattle.rule.specs.Criterion.{Criterion}
use Rattle.recipe.specs.declared.step.Step.{Step}
use Rattle.recipe.specs.declared.entry.Entry.{Entry}
use Rattle.recipe.specs.declared.entry.Marks.{Marks}
use Rattle.recipe.specs.declared.entry.Sheet.{Sheet}
use Rattle.recipe.specs.Steps.{form, reads_ranks, mirror_step}
use Rattle.recipe.specs.Machines.{run}
use Rattle.recipe.specs.Sheets.{frame_entry, on_entries, marks_of}
use Rattle.recipe.specs.Plans.{given, checked, steps_of}
use Rattle.recipe.specs.Mirrors.{mirror}
use Rattle.steps.specs.Images.{Size, Sized, Image, Same, negative}
use Rattle.steps.specs.Recipes.{planes, image}
use Rattle.promise.specs.Operators.{Operator, Reaches, Marked}

-- the recipe is admitted, with this sheet
abbrev pub Admitted : Kind → List ℕ → Sheet → Type 0
Admitted K bytes sheet = checked K.ranked bytes ≡ given sheet

-- the kind has ranks if the steps read them
abbrev pub Suits : Kind → List Step → Type 0
Suits K steps = Every (λ x. T (reads_ranks (form x)) → K.ranked ≡ true) steps

-- the entries of the planes that steps leave, the top one first
abbrev pub entries : List Step → List Entry
entries steps = run on_entries steps []

-- the entry at one place of that stack
abbrev pub entry : List Step → ℕ → Entry
entry steps k = slice_index_or (entries steps) k frame_entry

module _ (K : Kind) (C : Criterion) (s : Size) where
  -- what steps make of a frame at one place of the stack
  abbrev pub plane : List Step → ℕ → Operator K
  plane steps k f = slice_index_or (planes K C s steps f) k f

  module _ (P : ℕ → Marks → Operator K → Type 0) where
    -- P holds of every entry's reach and marks, and of the plane beside it
    pub record OnStack (steps : List Step) : Type 0 where
      pub as_many : (f : Image K) → length (planes K C s steps f) ≡ length (entries steps)
      pub each : (k : ℕ) → k < length (entries steps) → P (entry steps k).reach (marks_of (entry steps k)) (plane steps k)

    -- one plane is left, P holds of the sheet and the image, and P holds on the stack after every record
    pub record Throughout (bytes : List ℕ) (sheet : Sheet) : Type 0 where
      pub one_plane : (f : Image K) → length (planes K C s (steps_of bytes) f) ≡ 1
      pub of_image : P sheet.reach sheet.marks (image K C s (steps_of bytes))
      pub of_stack : (n : ℕ) → OnStack (take n (steps_of bytes))

-- every mark is true of its image
abbrev pub MarksLaw : Kind → Criterion → Type 0
MarksLaw K C =
    (s : Size) → Sized s → (bytes : List ℕ) (sheet : Sheet) → Admitted K bytes sheet → Throughout K C s (Marked K s) bytes sheet

-- an image depends on the frame within its reach alone
abbrev pub ReachLaw : Kind → Criterion → Type 0
ReachLaw K C =
    (s : Size) → Sized s → (bytes : List ℕ) (sheet : Sheet) → Admitted K bytes sheet →
    Throughout K C s (λ reach marks. Reaches K s reach) bytes sheet

-- the mirrored recipe makes of the negative the negative of the image
abbrev pub MirrorLaw : Kind → Criterion → Type 0
MirrorLaw K C =
    (s : Size) (bytes : List ℕ) (sheet : Sheet) → Admitted K bytes sheet → (f : Image K) →
    Same K s (image K C s (steps_of (mirror bytes)) (negative K f)) (negative K (image K C s (steps_of bytes) f))

-- and so do all mirrored steps that find their ranks
abbrev pub MirrorStepsLaw : Kind → Criterion → Type 0
MirrorStepsLaw K C =
    (s : Size) (steps : List Step) → Suits K steps → (f : Image K) →
    Same K s (image K C s (map mirror_step steps) (negative K f)) (negative K (image K C s steps f))
