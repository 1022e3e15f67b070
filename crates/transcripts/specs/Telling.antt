-- Texts that grow.
use Rattle.std.specs.Prelude.{◌≡◌, ℕ, List, [], ◌++◌}
use Rattle.std.proofs.Common.{sym, ap, ◌∙◌, append_assoc}
use Rattle.std.proofs.lemmas.List.{append-nil}

-- grown by two texts, one after the other
pub appended : (x y z first second : List ℕ) → y ≡ x ++ first → z ≡ y ++ second → z ≡ x ++ (first ++ second)
appended x y z first second a b = b ∙ ap (λ t. t ++ second) a ∙ append_assoc x first second

-- grown by nothing
pub unchanged : (x : List ℕ) → x ≡ x ++ []
unchanged x = sym (append-nil x)
