-- What a cell promises of images, of one kind by one rule.
use Rattle.level.specs.Kind.{Kind}
use Rattle.level.specs.Chain.{chain_to}
use Rattle.level.specs.Pairs.{pair}
use Rattle.level.specs.Delivered.{heights, masks}
use Rattle.rule.specs.Criterion.{Criterion}
use Rattle.cell.specs.Histories.{Setting}
use Rattle.cell.specs.Laws.{ImageLaw, MarkLaw, MirrorLaw, ReachLaw}

-- the four promises over every history of calls
pub record Promises (K : Kind) (C : Criterion) : Type 0 where
  pub image : (s : Setting) → ImageLaw K C s
  pub marks : (s : Setting) → MarkLaw K C s
  pub mirror : (s : Setting) → MirrorLaw K C s
  pub reach : (s s' : Setting) → ReachLaw K C s s'

-- depths have the ranks 0 to 4095
abbrev pub depths : Kind
depths = chain_to 4095

-- two flags beside a height
abbrev pub trusted_heights : Kind
trusted_heights = pair (pair masks masks) heights
