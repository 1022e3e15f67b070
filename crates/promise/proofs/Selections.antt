-- The level that is selected is that of every best window.
use Rattle.std.proofs.Common.{ℕ, List, [], ◌∷◌, ap, ◌∙◌, subst}
use Rattle.std.specs.List.{AllByRecursion as Every}
use Rattle.level.specs.declared.side.Side.{Side}
use Rattle.level.specs.Kind.{Kind}
use Rattle.rule.specs.Ranks.{Numbers, Made}
use Rattle.rule.specs.Criterion.{Criterion}
use Rattle.rule.specs.Choice.{In, Ahead, Best, selection}
use Rattle.rule.proofs.Chosen.{all_in}
use Rattle.rule.proofs.Choosing.{choice}
use Rattle.steps.specs.Selections.{candidates}
use Rattle.promise.specs.Morphology.{Leads}
use Rattle.promise.specs.Selection.{window, SelectionLaw}
use Rattle.promise.proofs.Listed.{in_listed, listed_in, listed_all, listed_none}
use Rattle.promise.proofs.Selected.{candidates_made}

-- among candidates there is a best one
best_of : (C : Criterion) (d : Side) (x : ℕ) (ws : List Numbers) → Every Made ws → (w : Numbers) → In w ws → (v : Numbers) × Best C d x ws v
best_of C d x [] h w l = elim l [ ]
best_of C d x (v ∷ ws) h w l = (choice C).exists d x v ws h

pub selection_law : (K : Kind) (C : Criterion) → SelectionLaw K C
selection_law K C ranked s E f p i d = record {
  some = λ b l.
      let w = best_of C d x ws made (seen b) (listed_in _ seen 25 b l.0 l.1) in
      let c = in_listed _ seen 25 w.0 w.1.among in
      let ahead : (b : ℕ) → Leads s E p b → Ahead C d x w.0 (seen b) = λ b l. all_in _ ws _ w.1.ahead (listed_in _ seen 25 b l.0 l.1) in
      (c.0, ((c.1, c.2), λ b l. subst (λ v. Ahead C d x v (seen b)) c.3 (ahead b l)));
  every = λ c h. ap K.at ((choice C).selected d x ws made (seen c) (record {
    among = listed_in _ seen 25 c h.0.0 h.0.1;
    ahead = listed_all _ seen (Ahead C d x (seen c)) 25 (λ b l t. h.1 b (l, t));
  }));
  none = λ h. ap (λ vs. K.at (selection C d x vs)) (listed_none _ seen 25 (λ b l t. h b (l, t))) ∙ K.at_rank ranked (f p);
}
  where
    x : ℕ
    x = K.rank (f p)

    seen : ℕ → Numbers
    seen = window K s E f p

    ws : List Numbers
    ws = candidates K s E f p

    made : Every Made ws
    made = candidates_made K ranked s E f p i
