-- A call that comes about on a desk gets the reply that is defined.
use Rattle.std.proofs.Common.{◌≡◌, ℕ, true, leb, List, ◌∷◌, MatchBool, Result, sym, refl, subst}
use Rattle.level.specs.Kind.{Kind}
use Rattle.rule.specs.Criterion.{Criterion}
use Rattle.recipe.specs.Plans.{Answer, given}
use Rattle.cell.specs.Histories.{Call, Good, Take, event, History, Setting, defined}
use Rattle.commands.specs.Commands.{take}
use Rattle.desk.specs.declared.desk.Desk.{Desk}
use Rattle.desk.specs.Desks.{After, ComesAbout}
use Rattle.transcripts.specs.declared.reply.Reply.{Reply}
use Rattle.transcripts.specs.Replies.{Calls, Pictures, Replies, Stays, Tells, most}
use Rattle.transcripts.specs.declared.reply.Trouble.{Trouble}
use Rattle.transcripts.specs.declared.reply.Trouble.TheVariants.{TooLong}

module _ (K : Kind) {S P R : Type 0} (m : P → K.Level) (C : Criterion) (spells : List ℕ → P → Type 0) (before after : Desk S P R) where
  pub comes : (c : Call K.Level) (a : Answer (Good c)) (reply : Result (Reply P) Trouble) → ComesAbout K m C before after c a → Tells K m c a reply → (s : Setting) (h : History K.Level) → After K m C before s h → (h' : History K.Level) × Calls K m C spells s h c h' reply × After K m C after s h'
  comes c a reply about tells s h b =
      let f = about s h b in
      let e : a ≡ defined K C s h c = f.behind.can.1 in (
        event c (defined K C s h c) ∷ h,
        record { grown = refl; tells = subst (λ x. Tells K m c x reply) e tells },
        subst (λ x. After K m C after s (event c x ∷ h)) e f,
      )

  pub takes : (n : ℕ) → leb n most ≡ true → (image : List K.Level) (reply : Result (Reply P) Trouble) → ComesAbout K m C before after (Take n) (given image) → Pictures K m image reply → (s : Setting) (h : History K.Level) → After K m C before s h → (h' : History K.Level) × Replies K m C spells s h (take n) h' reply × After K m C after s h'
  takes n few image reply about shows s h b =
      let f = comes (Take n) (given image) reply about shows s h b in
      (f.0, subst (λ t. MatchBool t (Calls K m C spells s h (Take n) f.0 reply) (Stays K m C spells s TooLong h f.0 reply)) (sym few) f.1, f.2)
