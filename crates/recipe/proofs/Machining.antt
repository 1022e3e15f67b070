-- Two machines whose parts are related leave related stacks.
use Rattle.std.proofs.Common.{◌≡◌, List, [], ◌∷◌, ◌++◌, refl}
use Rattle.recipe.specs.declared.step.Step.{Step}
use Rattle.recipe.specs.Steps.{Change, Merge, Form, start, change, merge, form}
use Rattle.recipe.specs.Machines.{Machine, by_form, stepped, run}

-- two stacks of one height, related place by place
pub data Pairwise {A B : Type 0} (R : A → B → Type 0) : List A → List B → Type 0 where
  nil : Pairwise R [] []
  cons : {a : A} {b : B} {st : List A} {su : List B} → R a b → Pairwise R st su → Pairwise R (a ∷ st) (b ∷ su)

module _ {A B : Type 0} (R : A → B → Type 0) (M : Machine A) (N : Machine B) (begins : R M.begin N.begin)
    (ones : (c : Change) (a : A) (b : B) → R a b → R (M.one c a) (N.one c b))
    (twos : (m : Merge) (a a' : A) (b b' : B) → R a b → R a' b' → R (M.two m a a') (N.two m b b')) where
  pub by_form_related : {st : List A} {su : List B} (f : Form) → Pairwise R st su → Pairwise R (by_form M f st) (by_form N f su)
  by_form_related start p = cons begins p
  by_form_related (change c) nil = nil
  by_form_related (change c) (cons r p) = cons (ones c _ _ r) p
  by_form_related (merge m) nil = nil
  by_form_related (merge m) (cons r nil) = cons r nil
  by_form_related (merge m) (cons r (cons q p)) = cons (twos m _ _ _ _ q r) p

  pub run_related : {st : List A} {su : List B} (xs : List Step) → Pairwise R st su → Pairwise R (run M xs st) (run N xs su)
  run_related {st = st} {su = su} [] p = p
  run_related {st = st} {su = su} (x ∷ xs) p =
      run_related {st = by_form M (form x) st} {su = by_form N (form x) su} xs (by_form_related (form x) p)

-- steps run one after the other
pub run_after : {A : Type 0} (M : Machine A) (xs ys : List Step) (st : List A) → run M (xs ++ ys) st ≡ run M ys (run M xs st)
run_after M [] ys st = refl
run_after M (x ∷ xs) ys st = run_after M xs ys (stepped M x st)
