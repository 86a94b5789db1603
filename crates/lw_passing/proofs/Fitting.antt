-- A token that is passed on fits its receiver.
use Rattle.std.proofs.Common.{◌≡◌, ℕ, ◌+◌, ◌<◌, List, [], ◌∷◌, Some, sym, ap, subst, ◌∙◌}
use Rattle.std.proofs.lemmas.List.Elements.{All-nil, All-cons, All-append}
use Rattle.lw_base.specs.Letters.{FitsRing}
use Rattle.lw_base.specs.declared.message.Mark.{Mark}
use Rattle.lw_model.specs.Threads.{thread_count}
use Rattle.lw_thread.specs.Acts.{ActsEnd, Post, AllFit}
use Rattle.lw_mail.specs.Runs.{Run}
use Rattle.lw_mail.specs.Fitting.{Fits, IsVisit, IsCast, fits_mail}
use Rattle.lw_mail.specs.declared.mail.Mail.{Mail}
use Rattle.lw_mail.specs.declared.mail.Content.{Content}
use Rattle.lw_mail.specs.declared.mail.Content.TheVariants as content
use Rattle.lw_visit.specs.Tokens.{Visit, Cast}
use Rattle.lw_passing.specs.Passing.{Asks, IsNextVisit, IsNextCast, PassesVisit, PassesCast}

-- one more that fits
pub asked_fits : (r : Run) (to : ℕ) (c : Content) (old new : ActsEnd Mail) → Asks to c old new → Fits to r c → AllFit fits_mail (Some r) old.pending → AllFit fits_mail (Some r) new.pending
asked_fits r to c old new h f all =
    let Fit = λ (p : Post Mail). FitsRing fits_mail p.to (Some r) p.what in
    let one : Post Mail = record { to = to; what = h.waiting } in
    subst (λ ps. AllFit fits_mail (Some r) ps) (sym (ap (λ (a : ActsEnd Mail). a.pending) h.added))
    (All-append Fit old.pending (one ∷ []) all (All-cons Fit one [] (h.still_fits to r f) (All-nil Fit)))

pub visit_fits : (r : Run) (past : ℕ) (marks : List Mark) (token : Visit) (to : ℕ) (c : Content) → IsVisit r token → token.goes_to ≡ past → IsNextVisit past marks token to c → Fits to r c
visit_fits r past marks token to (content.Visit b) v at n = subst (λ x. IsVisit r x × (x.goes_to ≡ to) × (to < thread_count r.script)) (sym n.2)
    (record { threads = v.threads; origin = v.origin; device = v.device }, ap (λ g. g + 1) at ∙ sym n.0, subst (λ m. to < m) v.threads n.1)
visit_fits r past marks token to (content.Visited b) v at n = subst (λ x. IsVisit r x × (x.goes_to ≡ thread_count r.script) × (x.origin ≡ to)) (sym n.2)
    (record { threads = v.threads; origin = v.origin; device = v.device }, ap (λ g. g + 1) at ∙ sym n.1 ∙ v.threads, sym n.0)
visit_fits r past marks token to (content.Request c k) v at n = absurd n
visit_fits r past marks token to (content.Read c k b) v at n = absurd n
visit_fits r past marks token to (content.Written k) v at n = absurd n
visit_fits r past marks token to (content.Filled k b) v at n = absurd n
visit_fits r past marks token to (content.Flushed k w) v at n = absurd n
visit_fits r past marks token to (content.PutSelf d) v at n = absurd n
visit_fits r past marks token to (content.Cast b) v at n = absurd n
visit_fits r past marks token to (content.Casted b) v at n = absurd n
visit_fits r past marks token to (content.Done b) v at n = absurd n
visit_fits r past marks token to content.Stop v at n = absurd n

pub cast_fits : (r : Run) (past : ℕ) (ran : List ℕ) (token : Cast) (to : ℕ) (c : Content) → IsCast r token → token.goes_to ≡ past → IsNextCast past ran token to c → Fits to r c
cast_fits r past ran token to (content.Cast b) v at n = subst (λ x. IsCast r x × (x.goes_to ≡ to) × (to < thread_count r.script)) (sym n.2)
    (record { threads = v.threads; origin = v.origin }, ap (λ g. g + 1) at ∙ sym n.0, subst (λ m. to < m) v.threads n.1)
cast_fits r past ran token to (content.Casted b) v at n = subst (λ x. IsCast r x × (x.goes_to ≡ thread_count r.script) × (x.origin ≡ to)) (sym n.2)
    (record { threads = v.threads; origin = v.origin }, ap (λ g. g + 1) at ∙ sym n.1 ∙ v.threads, sym n.0)
cast_fits r past ran token to (content.Request c k) v at n = absurd n
cast_fits r past ran token to (content.Read c k b) v at n = absurd n
cast_fits r past ran token to (content.Written k) v at n = absurd n
cast_fits r past ran token to (content.Filled k b) v at n = absurd n
cast_fits r past ran token to (content.Flushed k w) v at n = absurd n
cast_fits r past ran token to (content.PutSelf d) v at n = absurd n
cast_fits r past ran token to (content.Visit b) v at n = absurd n
cast_fits r past ran token to (content.Visited b) v at n = absurd n
cast_fits r past ran token to (content.Done b) v at n = absurd n
cast_fits r past ran token to content.Stop v at n = absurd n

-- so all that is asked for fits
pub visit_all_fit : (r : Run) (past : ℕ) (marks : List Mark) (token : Visit) (old new : ActsEnd Mail) → IsVisit r token → token.goes_to ≡ past → PassesVisit past marks token old new → AllFit fits_mail (Some r) old.pending → AllFit fits_mail (Some r) new.pending
visit_all_fit r past marks token old new v at h = asked_fits r h.to h.content old new h.asked (visit_fits r past marks token h.to h.content v at h.next)

pub cast_all_fit : (r : Run) (past : ℕ) (ran : List ℕ) (token : Cast) (old new : ActsEnd Mail) → IsCast r token → token.goes_to ≡ past → PassesCast past ran token old new → AllFit fits_mail (Some r) old.pending → AllFit fits_mail (Some r) new.pending
cast_all_fit r past ran token old new v at h = asked_fits r h.to h.content old new h.asked (cast_fits r past ran token h.to h.content v at h.next)
