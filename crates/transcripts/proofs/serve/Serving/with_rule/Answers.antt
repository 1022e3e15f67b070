use Rattle.std.proofs.Common.{ℕ, List, IfOk, map, drop, vec_items, sym, subst}
use Rattle.transcripts.specs.Scripts.{ServedAs}
use Rattle.transcripts.proofs.serve.Serving.with_rule.Goals as goal

pub returns-in-Grey-clause-served : goal.returns-in-Grey-clause-served
returns-in-Grey-clause-served g c =
    subst (λ k. IfOk c.session.result (λ next. (text : List ℕ) × g.T.Teller.tells c.args.self.now.teller.now c.session.new.self.teller.now text × ServedAs g.T.Words.Parting.cut g.T.Teller.misses k g.R.Rule.criterion c.args.start (map vec_items (drop c.args.start.line c.args.self.now.lines.now)) text next)) (sym c.in-Grey.is) c.session.ensures.served

pub returns-in-Height-clause-served : goal.returns-in-Height-clause-served
returns-in-Height-clause-served g c =
    subst (λ k. IfOk c.session-in-Height.result (λ next. (text : List ℕ) × g.T.Teller.tells c.args.self.now.teller.now c.session-in-Height.new.self.teller.now text × ServedAs g.T.Words.Parting.cut g.T.Teller.misses k g.R.Rule.criterion c.args.start (map vec_items (drop c.args.start.line c.args.self.now.lines.now)) text next)) (sym c.in-Height.is) c.session-in-Height.ensures.served

pub returns-in-Mask-clause-served : goal.returns-in-Mask-clause-served
returns-in-Mask-clause-served g c =
    subst (λ k. IfOk c.session-in-Mask.result (λ next. (text : List ℕ) × g.T.Teller.tells c.args.self.now.teller.now c.session-in-Mask.new.self.teller.now text × ServedAs g.T.Words.Parting.cut g.T.Teller.misses k g.R.Rule.criterion c.args.start (map vec_items (drop c.args.start.line c.args.self.now.lines.now)) text next)) (sym c.in-Mask.is) c.session-in-Mask.ensures.served

pub returns-in-Labels-clause-served : goal.returns-in-Labels-clause-served
returns-in-Labels-clause-served g c =
    subst (λ k. IfOk c.session-in-Labels.result (λ next. (text : List ℕ) × g.T.Teller.tells c.args.self.now.teller.now c.session-in-Labels.new.self.teller.now text × ServedAs g.T.Words.Parting.cut g.T.Teller.misses k g.R.Rule.criterion c.args.start (map vec_items (drop c.args.start.line c.args.self.now.lines.now)) text next)) (sym c.in-Labels.is) c.session-in-Labels.ensures.served

pub returns-in-GreyLabels-clause-served : goal.returns-in-GreyLabels-clause-served
returns-in-GreyLabels-clause-served g c =
    subst (λ k. IfOk c.session-in-GreyLabels.result (λ next. (text : List ℕ) × g.T.Teller.tells c.args.self.now.teller.now c.session-in-GreyLabels.new.self.teller.now text × ServedAs g.T.Words.Parting.cut g.T.Teller.misses k g.R.Rule.criterion c.args.start (map vec_items (drop c.args.start.line c.args.self.now.lines.now)) text next)) (sym c.in-GreyLabels.is) c.session-in-GreyLabels.ensures.served
