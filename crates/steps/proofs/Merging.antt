-- Two planes merged level by level into the lower one.
use Rattle.std.proofs.Common.{◌≡◌, ℕ, List, ◌∙◌, ap₂}
use Rattle.level.specs.Kind.{Kind}
use Rattle.steps.specs.Images.{Size}
use Rattle.steps.specs.Planes.{places, index, Merged}
use Rattle.steps.specs.Written.{MergedBy}
use Rattle.steps.proofs.Written.{index_fits}

-- what becomes of two levels means op of what they mean
pub merged_by : (K : Kind) {X : Type 0} (m : X → K.Level) (s : Size) (op : K.Level → K.Level → K.Level) {becomes : X → X → X → Type 0} {lower upper : ℕ} {before after : List X} →
    ((a b r : X) → becomes a b r → m r ≡ op (m a) (m b)) → MergedBy becomes lower upper (places s) before after →
    Merged K m s (λ f g p. op (f p) (g p)) lower upper before after
merged_by K m s op means did = record {
  made = λ f g held and p d i. means _ _ _ (did.levels (index s p) d (index_fits s p i)) ∙ ap₂ op (held p d i) (and p d i);
  kept = did.kept;
}
