-- Windows gathered offset by offset, and the choice among the windows of the candidates.
use Rattle.std.proofs.Common.{◌≡◌, ℕ, zero, suc, ◌+◌, ◌-◌, ◌/◌, ◌%◌, ◌<◌, ◌≤◌, Bool, true, false, cond, ◌&&◌, T, List, [], ◌∷◌, ◌++◌, length, Some, None, Option, sym, refl, ap, ◌∙◌, subst, ap₂, arith, length-append}
use Rattle.std.specs.List.{AllByRecursion as Every}
use Rattle.std.specs.Option.{MatchOption}
use Rattle.std.proofs.lemmas.Bool.{and_parts, and_from}
use Rattle.std.proofs.lemmas.Bool.Decides.{nat_tests}
use Rattle.level.specs.declared.side.Side.{Side}
use Rattle.level.specs.Kind.{Kind}
use Rattle.recipe.specs.Elements.{Offsets, gather, turned}
use Rattle.recipe.proofs.Gathered.{gather_taken, gather_left, lower, nearest}
use Rattle.rule.specs.declared.window.Window.{Window}
use Rattle.rule.specs.Ranks.{Numbers, numbers, Ranks}
use Rattle.rule.specs.Windows.{made, highest_below}
use Rattle.rule.specs.Views.{seen, standing, Gathered}
use Rattle.rule.specs.Criterion.{Criterion}
use Rattle.rule.specs.Choice.{somebody, winner, best, selection, Lies}
use Rattle.rule.proofs.Chosen.{best_more}
use Rattle.rule.proofs.Choosing.{choice}
use Rattle.steps.specs.Images.{Size, Place, Inside, Image, moved, among, lands}
use Rattle.steps.specs.Selections.{ranks_seen, candidates}
use Rattle.steps.proofs.Folding.{among_low}
use Rattle.steps.proofs.Changing.{gather_takes}

-- a number that is taken
true_T : (b : Bool) → b ≡ true → T b
true_T b e = subst T (sym e) tt

T_true : (b : Bool) → T b → b ≡ true
T_true true t = refl
T_true false t = elim t [ ]

-- Lists that are gathered item by item.
module _ {A : Type 0} (takes : ℕ → Bool) (item : ℕ → A) where
  abbrev pub listed : ℕ → List A
  listed n = gather ◌++◌ [] takes (λ b. item b ∷ []) n

  pub listed_few : (n : ℕ) → length (listed n) ≤ n
  unfolding gather
  listed_few zero = omega arith
  listed_few (suc n) = pick (takes n) (listed_few n)
    where
      pick : (c : Bool) → length (listed n) ≤ n → length (cond c (listed n ++ (item n ∷ [])) (listed n)) ≤ suc n
      pick true h = omega (arith, length-append (listed n) (item n ∷ []))
      pick false h = omega arith

  pub listed_some : (n b : ℕ) → b < n → takes b ≡ true → 1 ≤ length (listed n)
  listed_some n b h e =
      lower (λ xs ys. length ys ≤ length xs) ◌++◌ (λ a b c p q. omega arith) (λ a b. omega (arith, length-append a b)) (λ a b. omega (arith, length-append a b))
      [] takes (λ b. item b ∷ []) n b h (true_T _ e)

  pub listed_all : (P : A → Type 0) (n : ℕ) → ((b : ℕ) → b < n → takes b ≡ true → P (item b)) → Every P (listed n)
  listed_all P n all =
      nearest (λ _ xs. Every P xs) ◌++◌ (λ a b c p q. both a b p q) [] [] tt takes (λ b. item b ∷ []) n (λ b h t. (all b h (T_true _ t), tt))
    where
      both : (xs ys : List A) → Every P xs → Every P ys → Every P (xs ++ ys)
      both [] ys p q = q
      both (x ∷ xs) ys p q = (p.0, both xs ys p.1 q)

-- the offset turned leads back
lands_back : (s : Size) (p : Place) (b : ℕ) → Inside s p → b < 25 → lands s p b ≡ true → lands s (moved p b) (24 - b) ≡ true
lands_back s p b i h e =
    let q = and_parts (among s.width (p.column + b % 5)) (among s.height (p.row + b / 5)) e in
    let x = among_low s.width (p.column + b % 5) q.0 in
    let y = among_low s.height (p.row + b / 5) q.1 in
    let c = i.0 in
    let r = i.1 in
    let ec : p.column + b % 5 - 2 + (24 - b) % 5 ≡ p.column + 2 = omega arith in
    let er : p.row + b / 5 - 2 + (24 - b) / 5 ≡ p.row + 2 = omega arith in
    and_from _ _ (ap (among s.width) ec ∙ there s.width p.column c) (ap (among s.height) er ∙ there s.height p.row r)
  where
    there : (n x : ℕ) → x < n → among n (x + 2) ≡ true
    there n x h = grind (arith, nat_tests)

-- what is known where there is nothing
pub unseen : {A : Type 0} (P : Type 0) (Q : A → Type 0) (o : Option A) → MatchOption o P Q → ((a : A) → o ≡ Some a → ⊥) → P
unseen P Q None none other = none
unseen P Q (Some a) some other = absurd (other a refl)

-- where there are ranks there is a window
pub no_window : (rs : List ℕ) (o : Option Window) → 1 ≤ length rs → Gathered o rs → ((w : Window) → o ≡ Some w → ⊥) → ⊥
no_window rs None some is other = let e = ap length is in omega arith
no_window rs (Some w) some is other = other w refl

module _ (K : Kind) (s : Size) (E : Offsets) (f : Image K) (p : Place) where
  -- the ranks by the first n offsets
  abbrev pub ranks_upto : ℕ → List ℕ
  ranks_upto n = listed (λ b. E b && lands s p b) (λ b. K.rank (f (moved p b))) n

  -- the candidates by the first n offsets
  abbrev pub candidates_upto : ℕ → List Numbers
  candidates_upto n = listed (λ b. E b && lands s p b) (λ b. numbers (ranks_seen K s (turned E) f (moved p b))) n

  -- the ranks that the element leads to are a window's, where there are any
  pub seen_ranks : K.ranked ≡ true → 1 ≤ length (ranks_seen K s E f p) → Ranks K.top (ranks_seen K s E f p)
  seen_ranks ranked some = record {
    some = some;
    few = listed_few _ _ 25;
    below = listed_all _ _ (λ r. r ≤ K.top) 25 (λ b h e. K.rank_top ranked (f (moved p b)));
  }

module _ (K : Kind) (s : Size) (E : Offsets) (f : Image K) (p : Place) (i : Inside s p) (ranked : K.ranked ≡ true) where
  -- the place itself lies in the window of each of its candidates
  pub window_some : (b : ℕ) → b < 25 → (E b && lands s p b) ≡ true → 1 ≤ length (ranks_seen K s (turned E) f (moved p b))
  window_some b h e =
      let q = and_parts (E b) (lands s p b) e in
      let back : 24 - (24 - b) ≡ b = omega arith in
      listed_some (λ c. turned E c && lands s (moved p b) c) _ 25 (24 - b) (omega arith) (and_from _ _ (ap E back ∙ q.0) (lands_back s p b i h q.1))

  window_lies : (b : ℕ) → b < 25 → (E b && lands s p b) ≡ true → Lies 0 K.top (numbers (ranks_seen K s (turned E) f (moved p b)))
  window_lies b h e =
      let rs = seen_ranks K s (turned E) f (moved p b) ranked (window_some b h e) in
      let top = K.top_most ranked in
      record {
        made = made _ (record { some = rs.some; few = rs.few; below = listed_all _ _ (λ r. r ≤ 65535) 25 (λ c l t. let k = K.rank_top ranked (f (moved (moved p b) c)) in omega arith) });
        above = omega arith;
        below = highest_below K.top _ rs.below;
      }

  -- what is selected is a rank
  pub selection_top : (C : Criterion) (side : Side) → selection C side (K.rank (f p)) (candidates K s E f p) ≤ K.top
  selection_top C side =
      ((choice C).within side 0 K.top (K.rank (f p)) (omega arith) (K.rank_top ranked (f p)) (candidates K s E f p)
      (listed_all _ _ (Lies 0 K.top) 25 window_lies)).1

-- ranks seen through elements with the same offsets
pub seen_offsets : (K : Kind) (s : Size) (E F : Offsets) (f : Image K) (p : Place) → ((b : ℕ) → b < 25 → E b ≡ F b) → ranks_seen K s E f p ≡ ranks_seen K s F f p
seen_offsets K s E F f p same = gather_takes _ _ _ _ _ 25 (λ b h. ap (λ t. t && lands s p b) (same b h))

-- a window gathered at a place that is this one, through an element with the same offsets
pub window_there : (K : Kind) (s s' : Size) (E F : Offsets) (f : Image K) (p p' : Place) (o : Option Window) → s' ≡ s → p' ≡ p → ((b : ℕ) → b < 25 → F b ≡ E b) →
    Gathered o (ranks_seen K s' F f p') → Gathered o (ranks_seen K s E f p)
window_there K s s' E F f p p' o size place same was = subst (Gathered o) (ap₂ (λ s p. ranks_seen K s F f p) size place ∙ seen_offsets K s F E f p same) was

-- One offset more.
module _ (K : Kind) (s : Size) (E : Offsets) (f : Image K) (p : Place) (b : ℕ) where
  pub window_left : (o after : Option Window) → (E b && lands s p b) ≡ false → after ≡ o →
      Gathered o (ranks_upto K s E f p b) → Gathered after (ranks_upto K s E f p (b + 1))
  window_left o after e same was = subst (λ o. Gathered o (ranks_upto K s E f p (b + 1))) (sym same) (subst (Gathered o) (sym (gather_left _ _ _ _ b e)) was)

  pub window_taken : (rank : ℕ) (o after : Option Window) (w : Window) → b < 25 → (E b && lands s p b) ≡ true → after ≡ Some w →
      rank ≡ K.rank (f (moved p b)) → ((rs : List ℕ) → Gathered o rs → length rs < 25 → seen w ≡ numbers (rs ++ (rank ∷ []))) →
      Gathered o (ranks_upto K s E f p b) → Gathered after (ranks_upto K s E f p (b + 1))
  window_taken rank o after w h e same is more was =
      let rs = ranks_upto K s E f p b in
      let next : rs ++ (rank ∷ []) ≡ ranks_upto K s E f p (b + 1) = ap (λ r. rs ++ (r ∷ [])) is ∙ sym (gather_taken _ _ _ _ b e) in
      let few = listed_few (λ b. E b && lands s p b) (λ b. K.rank (f (moved p b))) b in
      subst (λ o. Gathered o (ranks_upto K s E f p (b + 1))) (sym same) (subst (Gathered (Some w)) next (more rs was (omega arith)))

  module _ (C : Criterion) (side : Side) (x : ℕ) where
    pub best_left : (o after : Option Window) → (E b && lands s p b) ≡ false → after ≡ o →
        standing o ≡ best C side x (candidates_upto K s E f p b) → standing after ≡ best C side x (candidates_upto K s E f p (b + 1))
    best_left o after e same was = ap standing same ∙ (was ∙ ap (best C side x) (sym (gather_left _ _ _ _ b e)))

    pub best_taken : (o after : Option Window) (w r : Window) → (E b && lands s p b) ≡ true → after ≡ Some r →
        seen w ≡ numbers (ranks_seen K s (turned E) f (moved p b)) → somebody (seen r) ≡ winner C side x (standing o) (somebody (seen w)) →
        standing o ≡ best C side x (candidates_upto K s E f p b) → standing after ≡ best C side x (candidates_upto K s E f p (b + 1))
    best_taken o after w r e same is wins was =
        let ws = candidates_upto K s E f p b in
        let v = numbers (ranks_seen K s (turned E) f (moved p b)) in
        ap standing same
        ∙ (wins
        ∙ (ap₂ (λ o v. winner C side x o (somebody v)) was is
        ∙ (sym (best_more C side x ws v) ∙ ap (best C side x) (sym (gather_taken _ _ _ _ b e)))))
