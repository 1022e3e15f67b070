-- A selected level lies between the levels of the windows, depends on them and on the level there was alone, and turns with them.
use Rattle.std.proofs.Common.{◌≡◌, ℕ, ◌-◌, ◌≤◌, true, ◌&&◌, List, map, sym, refl, ap, ◌∙◌, ap₂, arith}
use Rattle.std.specs.List.{AllByRecursion as Every}
use Rattle.std.proofs.ByRecursion.{All-weaker}
use Rattle.level.specs.declared.side.Side.{Side}
use Rattle.level.specs.Sides.{opposite}
use Rattle.level.specs.Kind.{Kind}
use Rattle.level.specs.Lattice.{rank_laws}
use Rattle.rule.specs.Ranks.{Ranks, Made, numbers, flipped}
use Rattle.rule.specs.Criterion.{Criterion}
use Rattle.rule.specs.Windows.{lowest_above, highest_below, made}
use Rattle.rule.specs.Flipped.{wider}
use Rattle.rule.specs.Choice.{Lies, selection}
use Rattle.rule.proofs.Choosing.{choice}
use Rattle.recipe.specs.Elements.{Offsets, turned}
use Rattle.steps.specs.Images.{Size, Place, Inside, Image, moved, lands, negative}
use Rattle.steps.specs.Selections.{ranks_seen, candidates, selected}
use Rattle.promise.proofs.Seen.{Sees, turn, leads_seen, seen_leads}
use Rattle.promise.proofs.Listed.{listed, listed_all, listed_few, listed_some, listed_map, listed_same}

module _ (K : Kind) (s : Size) (E : Offsets) (f : Image K) where
  ranks_all : (P : ℕ → Type 0) (c : Place) → ((q : Place) → Sees s E c q → P (K.rank (f q))) → Every P (ranks_seen K s E f c)
  ranks_all P c h = listed_all _ (λ b. K.rank (f (moved c b))) P 25 (λ b l t. h (moved c b) (leads_seen E b (l, t)))

  -- a centre that sees a place has the ranks of a window
  window_ranks : K.ranked ≡ true → (c q : Place) → Sees s E c q → Ranks K.top (ranks_seen K s E f c)
  window_ranks w c q v =
      let l = seen_leads v in
      record {
        some = listed_some _ (λ b. K.rank (f (moved c b))) 25 v.offset l.0 l.1;
        few = listed_few _ (λ b. K.rank (f (moved c b))) 25;
        below = ranks_all (λ r. r ≤ K.top) c (λ q v. K.rank_top w (f q));
      }

module _ (K : Kind) (w : K.ranked ≡ true) (s : Size) (E : Offsets) (f : Image K) (p : Place) (i : Inside s p) where
  -- the ranks of the candidate windows
  abbrev windows : List (List ℕ)
  windows = listed (λ b. E b && lands s p b) (λ b. ranks_seen K s (turned E) f (moved p b)) 25

  windows_ranks : Every (Ranks K.top) windows
  windows_ranks =
      listed_all _ (λ b. ranks_seen K s (turned E) f (moved p b)) (Ranks K.top) 25
      (λ b l t. window_ranks K s (turned E) f w (moved p b) p (turn i (leads_seen E b (l, t))))

  candidates_are : candidates K s E f p ≡ map numbers windows
  candidates_are = listed_map _ (λ b. ranks_seen K s (turned E) f (moved p b)) numbers _ 25 (λ b l t. refl)

  candidates_lie : (low high : ℕ) →
      ((c q : Place) → Sees s E p c → Sees s (turned E) c q → (low ≤ K.rank (f q)) × (K.rank (f q) ≤ high)) →
      Every (Lies low high) (candidates K s E f p)
  candidates_lie low high all =
      listed_all _ (λ b. numbers (ranks_seen K s (turned E) f (moved p b))) (Lies low high) 25 (λ b l t.
      let v = leads_seen E b (l, t) in
      let r = window_ranks K s (turned E) f w (moved p b) p (turn i v) in
      record {
        made = made _ (wider K.top 65535 _ (K.top_most w) r);
        above = lowest_above low _ r.some (ranks_all K s (turned E) f (λ r. low ≤ r) (moved p b) (λ q y. (all _ q v y).0));
        below = highest_below high _ (ranks_all K s (turned E) f (λ r. r ≤ high) (moved p b) (λ q y. (all _ q v y).1));
      })

  candidates_ranked : Every (Lies 0 K.top) (candidates K s E f p)
  candidates_ranked = candidates_lie 0 K.top (λ c q v y. (omega arith, K.rank_top w _))

  pub candidates_made : Every Made (candidates K s E f p)
  candidates_made = All-weaker (Lies 0 K.top) Made (λ v h. h.made) _ candidates_ranked

module _ (K : Kind) (w : K.ranked ≡ true) (s : Size) (C : Criterion) (d : Side) (E : Offsets) (f : Image K) (p : Place) (i : Inside s p) where
  pub selected_between : (a b : K.Level) → (K.◌⊑◌ a (f p)) × (K.◌⊑◌ (f p) b) →
      ((c q : Place) → Sees s E p c → Sees s (turned E) c q → (K.◌⊑◌ a (f q)) × (K.◌⊑◌ (f q) b)) →
      (K.◌⊑◌ a (selected K s C d E f p)) × (K.◌⊑◌ (selected K s C d E f p) b)
  selected_between a b here all =
      let k = selection C d (K.rank (f p)) (candidates K s E f p) in
      let h =
      (choice C).within d (K.rank a) (K.rank b) (K.rank (f p)) (K.rank_up w _ _ here.0) (K.rank_up w _ _ here.1) _
      (candidates_lie K w s E f p i _ _ (λ c q v y. (K.rank_up w _ _ (all c q v y).0, K.rank_up w _ _ (all c q v y).1))) in
      let e = K.rank_at w k (omega (arith, K.rank_top w b)) in
      (K.rank_down w _ _ (omega arith), K.rank_down w _ _ (omega arith))

  pub selected_negative : selected K s C (opposite d) E (negative K f) p ≡ K.negation (selected K s C d E f p)
  selected_negative =
      ap K.at
      (ap₂ (selection C (opposite d)) (K.rank_negation w (f p)) (candidates_are K w s E (negative K f) p i ∙ ap (map numbers) turned_windows)
      ∙ ((choice C).flips K.top (K.top_most w) d (K.rank (f p)) (K.rank_top w (f p)) (windows K w s E f p i) (windows_ranks K w s E f p i)
      ∙ ap (λ ws. K.top - selection C d (K.rank (f p)) ws) (sym (candidates_are K w s E f p i))))
      ∙ sym ((rank_laws K w).negation_at _ small)
    where
      turned_windows : windows K w s E (negative K f) p i ≡ map (flipped K.top) (windows K w s E f p i)
      turned_windows =
          listed_map _ (λ b. ranks_seen K s (turned E) f (moved p b)) (flipped K.top) _ 25
          (λ b l t. listed_map _ (λ c. K.rank (f (moved (moved p b) c))) (λ r. K.top - r) _ 25 (λ c m u. K.rank_negation w _))

      small : selection C d (K.rank (f p)) (candidates K s E f p) ≤ K.top
      small =
          ((choice C).within d 0 K.top (K.rank (f p)) (omega arith) (K.rank_top w _) _ (candidates_ranked K w s E f p i)).1

pub selected_same :
    (K : Kind) (s : Size) (C : Criterion) (d : Side) (E : Offsets) (f g : Image K) (p : Place) → f p ≡ g p →
    ((c q : Place) → Sees s E p c → Sees s (turned E) c q → f q ≡ g q) → selected K s C d E f p ≡ selected K s C d E g p
selected_same K s C d E f g p here all =
    ap₂ (λ a ws. K.at (selection C d (K.rank a) ws)) here
    (listed_same _ _ _ 25 (λ b l t. ap numbers (listed_same _ _ _ 25
    (λ c m u. ap K.rank (all (moved p b) (moved (moved p b) c) (leads_seen E b (l, t)) (leads_seen (turned E) c (m, u)))))))
