-- What is asked for where a token is passed on.
use Rattle.std.proofs.Common.{◌≡◌, ℕ, ◌+◌, nat_lt, Bool, true, false, List, ◌++◌, sym, ap, ap₂, subst, ◌∙◌, arith}
use Rattle.std.proofs.lemmas.Bool.{lt-ltb, le-ltb}
use Rattle.lw_base.specs.declared.message.Mark.{Mark}
use Rattle.lw_base.specs.declared.message.What.{What}
use Rattle.lw_base.specs.declared.message.What.TheVariants as what
use Rattle.lw_thread.specs.Acts.{ActsEnd}
use Rattle.lw_thread.specs.Calls.{Adds}
use Rattle.lw_thread.proofs.Adding.{adds_send}
use Rattle.lw_whole.specs.Letters.{Load, marked, reached}
use Rattle.lw_whole.specs.Unsent.{named}
use Rattle.lw_visit.specs.Tokens.{Visit, Cast}
use Rattle.lw_mail.specs.Saying.{letter_of, what_of, load_of}
use Rattle.lw_mail.specs.Fitting.{fits_mail}
use Rattle.lw_mail.specs.declared.mail.Mail.{Mail}
use Rattle.lw_mail.specs.declared.mail.Content.{Content}
use Rattle.lw_mail.specs.declared.mail.Content.TheVariants as content
use Rattle.lw_passing.specs.Passing.{unsent_mail, Asks, IsNextVisit, IsNextCast, PassesVisit, PassesCast, AsksFor, GoesPast, GoesPastAs, VisitGoesPast, CastGoesPast}

-- one send adds to the acts
pub adds_asked : (to : ℕ) (c : Content) (old new : ActsEnd Mail) → Asks to c old new → Adds old new
adds_asked to c old new h = adds_send letter_of named fits_mail to (unsent_mail c) old new h

-- a content that is asked for, by what it is for and what it carries
pub asks_for : (to : ℕ) (c : Content) (w : What) (load : Load) (old new : ActsEnd Mail) → what_of c ≡ w → load_of c ≡ load → Asks to c old new → AsksFor to w load old new
asks_for to c w load old new e f h = record {
  waiting = h.waiting;
  letter = h.same_letter ∙ ap₂ (λ x y. record { tag = record { sender = 0; number = 0; what = x }; load = y }) e f;
  added = h.added;
}

-- whether there is a next thread
goes_past : (origin : ℕ) (way home : What) (past : ℕ) (load : Load) (old new : ActsEnd Mail) (b : Bool) → nat_lt (past + 1) old.threads ≡ b → GoesPastAs b origin way home past load old new → GoesPast origin way home past load old new
goes_past origin way home past load old new b e h = subst (λ c. GoesPastAs c origin way home past load old new) (sym e) h

visit_to : (token : Visit) (past : ℕ) (marks : List Mark) (old new : ActsEnd Mail) (to : ℕ) (c : Content) → token.threads ≡ old.threads → IsNextVisit past marks token to c → Asks to c old new
    → VisitGoesPast token.origin token.op token.device past (marked (token.marks ++ marks)) old new
visit_to token past marks old new to (content.Visit v) threads next asked =
    let way = what.Visit token.origin token.op token.device in
    let load = marked (token.marks ++ marks) in
    goes_past token.origin way (what.Visited token.op) past load old new true (lt-ltb (past + 1) old.threads (omega (arith, next.0, next.1, threads)))
    (subst (λ n. AsksFor n way load old new) next.0 (asks_for to (content.Visit v) way load old new (ap (λ (x : Visit). what.Visit x.origin x.op x.device) next.2) (ap (λ (x : Visit). marked x.marks) next.2) asked))
visit_to token past marks old new to (content.Visited v) threads next asked =
    let home = what.Visited token.op in
    let load = marked (token.marks ++ marks) in
    goes_past token.origin (what.Visit token.origin token.op token.device) home past load old new false (le-ltb (past + 1) old.threads (omega (arith, next.1, threads)))
    (subst (λ n. AsksFor n home load old new) next.0 (asks_for to (content.Visited v) home load old new (ap (λ (x : Visit). what.Visited x.op) next.2) (ap (λ (x : Visit). marked x.marks) next.2) asked))
visit_to token past marks old new to (content.Request c k) threads next asked = absurd next
visit_to token past marks old new to (content.Read c k b) threads next asked = absurd next
visit_to token past marks old new to (content.Written k) threads next asked = absurd next
visit_to token past marks old new to (content.Filled k b) threads next asked = absurd next
visit_to token past marks old new to (content.Flushed k w) threads next asked = absurd next
visit_to token past marks old new to (content.PutSelf d) threads next asked = absurd next
visit_to token past marks old new to (content.Cast b) threads next asked = absurd next
visit_to token past marks old new to (content.Casted b) threads next asked = absurd next
visit_to token past marks old new to (content.Done b) threads next asked = absurd next
visit_to token past marks old new to content.Stop threads next asked = absurd next

cast_to : (token : Cast) (past : ℕ) (ran : List ℕ) (old new : ActsEnd Mail) (to : ℕ) (c : Content) → token.threads ≡ old.threads → IsNextCast past ran token to c → Asks to c old new
    → CastGoesPast token.origin token.op past (reached (token.ran ++ ran)) old new
cast_to token past ran old new to (content.Cast v) threads next asked =
    let way = what.Cast token.origin token.op in
    let load = reached (token.ran ++ ran) in
    goes_past token.origin way (what.Casted token.op) past load old new true (lt-ltb (past + 1) old.threads (omega (arith, next.0, next.1, threads)))
    (subst (λ n. AsksFor n way load old new) next.0 (asks_for to (content.Cast v) way load old new (ap (λ (x : Cast). what.Cast x.origin x.op) next.2) (ap (λ (x : Cast). reached x.ran) next.2) asked))
cast_to token past ran old new to (content.Casted v) threads next asked =
    let home = what.Casted token.op in
    let load = reached (token.ran ++ ran) in
    goes_past token.origin (what.Cast token.origin token.op) home past load old new false (le-ltb (past + 1) old.threads (omega (arith, next.1, threads)))
    (subst (λ n. AsksFor n home load old new) next.0 (asks_for to (content.Casted v) home load old new (ap (λ (x : Cast). what.Casted x.op) next.2) (ap (λ (x : Cast). reached x.ran) next.2) asked))
cast_to token past ran old new to (content.Request c k) threads next asked = absurd next
cast_to token past ran old new to (content.Read c k b) threads next asked = absurd next
cast_to token past ran old new to (content.Written k) threads next asked = absurd next
cast_to token past ran old new to (content.Filled k b) threads next asked = absurd next
cast_to token past ran old new to (content.Flushed k w) threads next asked = absurd next
cast_to token past ran old new to (content.PutSelf d) threads next asked = absurd next
cast_to token past ran old new to (content.Visit b) threads next asked = absurd next
cast_to token past ran old new to (content.Visited b) threads next asked = absurd next
cast_to token past ran old new to (content.Done b) threads next asked = absurd next
cast_to token past ran old new to content.Stop threads next asked = absurd next

-- a token that is passed on, by its letter
pub visit_goes_past : (token : Visit) (past : ℕ) (marks : List Mark) (old new : ActsEnd Mail) → token.threads ≡ old.threads → PassesVisit past marks token old new → VisitGoesPast token.origin token.op token.device past (marked (token.marks ++ marks)) old new
visit_goes_past token past marks old new threads h = visit_to token past marks old new h.to h.content threads h.next h.asked

pub cast_goes_past : (token : Cast) (past : ℕ) (ran : List ℕ) (old new : ActsEnd Mail) → token.threads ≡ old.threads → PassesCast past ran token old new → CastGoesPast token.origin token.op past (reached (token.ran ++ ran)) old new
cast_goes_past token past ran old new threads h = cast_to token past ran old new h.to h.content threads h.next h.asked
