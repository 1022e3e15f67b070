-- The admission sheet: reach and marks of each plane on the stack, step by step.
use Rattle.std.specs.Prelude.{ℕ, ◌+◌, ◌*◌, min, max, Bool, true, false, cond, ◌&&◌, ◌||◌, List, [], ◌∷◌, ◌==◌}
use Rattle.level.specs.Sides.{is_low, is_high}
use Rattle.recipe.specs.declared.element.Element.{Element}
use Rattle.recipe.specs.declared.entry.Chain.{Chain}
use Rattle.recipe.specs.declared.entry.Chain.TheVariants.{OfAny, Of, Broken}
use Rattle.recipe.specs.declared.entry.Entry.{Entry}
use Rattle.recipe.specs.declared.entry.Marks.{Marks}
use Rattle.recipe.specs.declared.entry.Sheet.{Sheet}
use Rattle.recipe.specs.Elements.{offsets, centred, radius}
use Rattle.recipe.specs.Steps.{Change, negation, folding, filtering, selecting, Merge, bounding, averaging}
use Rattle.recipe.specs.Machines.{Machine}

-- the frame's entry: it reaches nowhere else, has every mark but T, and is a chain of any element
abbrev pub frame_entry : Entry
frame_entry = record { reach = 0; below = true; above = true; keeps = true; turns = false; within = true; chain = OfAny }

-- a reach lengthened; 255 is the whole of any frame, and no longer reach is told from it
abbrev pub further : ℕ → ℕ → ℕ
further reach more = min 255 (reach + more)

-- the chain after an open or a close by an element
abbrev pub longer : Element → Chain → Chain
longer n OfAny = Of n
longer n (Of m) = cond (m.bits == n.bits) (Of n) Broken
longer n Broken = Broken

-- an entry after a change of its plane
abbrev pub after : Change → Entry → Entry
after negation e = record {
  reach = e.reach;
  below = false;
  above = false;
  keeps = e.turns;
  turns = e.keeps;
  within = false;
  chain = Broken;
}
after (folding d n) e = record {
  reach = further e.reach (radius (offsets n));
  below = is_low d && (e.below && centred (offsets n));
  above = is_high d && (e.above && centred (offsets n));
  keeps = e.keeps;
  turns = e.turns;
  within = e.within && centred (offsets n);
  chain = Broken;
}
after (filtering d n) e = record {
  reach = further e.reach (2 * radius (offsets n));
  below = is_low d && e.below;
  above = is_high d && e.above;
  keeps = e.keeps;
  turns = e.turns;
  within = e.within && centred (offsets n);
  chain = longer n e.chain;
}
after (selecting d n) e = record {
  reach = further e.reach (2 * radius (offsets n));
  below = false;
  above = false;
  keeps = false;
  turns = false;
  within = e.within;
  chain = Broken;
}

-- the entry of one plane made of two: most marks if both have them, B of a meet and D of a join if either has it
abbrev pub of_two : Merge → Entry → Entry → Entry
of_two (bounding d) a b = record {
  reach = max a.reach b.reach;
  below = cond (is_low d) (a.below || b.below) (a.below && b.below);
  above = cond (is_low d) (a.above && b.above) (a.above || b.above);
  keeps = a.keeps && b.keeps;
  turns = a.turns && b.turns;
  within = a.within && b.within;
  chain = Broken;
}
of_two (averaging d) a b = record {
  reach = max a.reach b.reach;
  below = a.below && b.below;
  above = a.above && b.above;
  keeps = a.keeps && b.keeps;
  turns = a.turns && b.turns;
  within = a.within && b.within;
  chain = Broken;
}

abbrev pub on_entries : Machine Entry
on_entries = record { begin = frame_entry; one = after; two = of_two }

-- S is given exactly to chains
abbrev pub settles : Chain → Bool
settles OfAny = true
settles (Of n) = true
settles Broken = false

abbrev pub marks_of : Entry → Marks
marks_of e = record { below = e.below; above = e.above; keeps = e.keeps; turns = e.turns; settles = settles e.chain; within = e.within }

-- the top entry of a stack
abbrev pub top : List Entry → Entry
top [] = frame_entry
top (e ∷ st) = e

-- the sheet of the stack that a recipe leaves, and of its greatest depth
abbrev pub sheet_of : ℕ → List Entry → Sheet
sheet_of planes st = record { planes = planes; reach = (top st).reach; marks = marks_of (top st) }
