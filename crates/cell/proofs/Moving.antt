-- Loops that copy levels one by one.
use Rattle.std.proofs.Common.{◌≡◌, ℕ, ◌+◌, ◌<◌, ◌≤◌, ◌≢◌, List, length, get_or, set, refl, ◌∙◌, arith, length-set, below_more}
use Rattle.std.proofs.lemmas.List.{get_or-set_same, get_or-set_other}

-- the first i levels are as wanted, and the others as they were
pub record Written {X : Type 0} (wanted : ℕ → X → X) (before : List X) (i : ℕ) (now : List X) : Type 0 where
  pub long : length now ≡ length before
  pub done : (k : ℕ) (d : X) → k < i → get_or now k d ≡ wanted k d
  pub rest : (k : ℕ) (d : X) → i ≤ k → get_or now k d ≡ get_or before k d

module _ {X : Type 0} {wanted : ℕ → X → X} {before : List X} where
  pub written_none : Written wanted before 0 before
  written_none = record { long = refl; done = λ k d h. absurd (omega arith); rest = λ k d h. refl }

  pub written_more :
      (i : ℕ) (now : List X) (r : X) → Written wanted before i now → i < length now → ((d : X) → r ≡ wanted i d) → Written wanted before (i + 1) (set now i r)
  written_more i now r was room new = record {
    long = length-set now i r ∙ was.long;
    done = λ k d h. below_more (λ j. get_or (set now i r) j d ≡ wanted j d) i
        (λ j g. let ne : j ≢ i = omega arith in get_or-set_other now i j r d ne ∙ was.done j d g)
        (get_or-set_same now i r d room ∙ new d)
        k h;
    rest = λ k d h. let ne : k ≢ i = omega arith in get_or-set_other now i k r d ne ∙ was.rest k d (omega arith);
  }
