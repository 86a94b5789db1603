-- A thread runs a token once at most.
use Rattle.std.proofs.Common.{◌≡◌, ℕ, suc, ◌+◌, ◌<◌, ◌≤◌, Bool, true, false, cond, not, ◌||◌, List, [], ◌∷◌, refl, sym, ap, subst, ◌∙◌, arith, inl, inr, IsTrue}
use Rattle.std.specs.List.{list_all, list_any}
use Rattle.std.proofs.lemmas.Bool.{and_from, false≢true, cases_eq}
use Rattle.lw_base.specs.declared.message.Tag.{Tag}
use Rattle.lw_base.specs.declared.message.What.{What}
use Rattle.lw_model.specs.declared.record.Record.{Record}
use Rattle.lw_model.specs.Threads.{EachThread, thread_count, ran_of}
use Rattle.lw_model.specs.OwnOrder.{with_past}
use Rattle.lw_model.specs.Sent.{is_same_token}
use Rattle.lw_model.specs.Lawful.{is_first_run}
use Rattle.lw_whole.specs.Logs.{Log}
use Rattle.lw_whole.specs.WholeRun.{IsWholeRun}
use Rattle.lw_whole.proofs.Access.{of_log, log_of}
use Rattle.lw_whole.proofs.Flow.{once, ran_started}
use Rattle.lw_whole.proofs.TokenCounts.{same_is}
use Rattle.lw_whole.proofs.TokenRuns.{Token, count_tags}
use Rattle.lw_whole.proofs.TokenFlow.{runs_at, runs_are, starts_of, goes_of, few, up, came, start}
use Rattle.lw_whole.proofs.TokenWay.{Begun, begun, home}

pub none_counted : (w : What) (past : List Tag) → count_tags w past ≡ 0 → list_any (λ x. is_same_token w x.what) past ≡ false
none_counted w [] e = refl
none_counted w (m ∷ past) e = at (is_same_token w m.what) e (λ f. none_counted w past f)
  where
    at : (b : Bool) → cond b 1 0 + count_tags w past ≡ 0 → (count_tags w past ≡ 0 → list_any (λ x. is_same_token w x.what) past ≡ false) → (b || list_any (λ x. is_same_token w x.what) past) ≡ false
    at true f go = absurd (omega (arith, f))
    at false f go = go (omega (arith, f))

-- what is no token is the same token as nothing
no_token : (w : What) → is_same_token w w ≡ false → (past : List Tag) → list_any (λ x. is_same_token w x.what) past ≡ false
no_token w e [] = refl
no_token w e (m ∷ past) = at (is_same_token w m.what) refl (no_token w e past)
  where
    at : (b : Bool) → is_same_token w m.what ≡ b → list_any (λ x. is_same_token w x.what) past ≡ false → (b || list_any (λ x. is_same_token w x.what) past) ≡ false
    at true f go = absurd (false≢true (sym e ∙ subst (λ v. is_same_token w v ≡ true) (same_is w m.what f) f))
    at false f go = go

first_runs : (past rest : List Tag) → ((w : What) → Token w → count_tags w past + count_tags w rest ≤ 1) → list_all (λ p. is_first_run p.0 p.1) (with_past past rest) ≡ true
first_runs past [] h = refl
first_runs past (m ∷ rest) h =
    and_from (is_first_run past m) (list_all (λ p. is_first_run p.0 p.1) (with_past (m ∷ past) rest))
    (ap not (at (is_same_token m.what m.what) refl))
    (first_runs (m ∷ past) rest (λ w tok. omega (arith, h w tok)))
  where
    at : (b : Bool) → is_same_token m.what m.what ≡ b → list_any (λ x. is_same_token m.what x.what) past ≡ false
    at true e = none_counted m.what past (omega (arith, h m.what e, ap {B = ℕ} (λ b. cond b 1 0) e))
    at false e = no_token m.what e past

module _ (r : Record) (logs : List Log) (whole : IsWholeRun r logs) (w : What) (tok : Token w) where
  -- who ran it shows that it was started
  pub begun_by_run : (t : ℕ) → t < thread_count r.script → 1 ≤ runs_at r logs whole w t → Begun r logs w
  begun_by_run t less some = begun r logs whole w
      (ran_started (thread_count r.script) (runs_at r logs whole w) (starts_of r logs whole w) (goes_of r logs whole w) (few r logs whole w tok) (up r logs whole w tok) (came r logs whole w) (suc t) t (omega arith) less some)

  pub runs_once : (t : ℕ) → t < thread_count r.script → runs_at r logs whole w t ≤ 1
  runs_once t less = elim (cases_eq (runs_at r logs whole w t) 0) [
    | inl none ↦ omega (arith, none)
    | inr some ↦
        once (thread_count r.script) (runs_at r logs whole w) (starts_of r logs whole w) (goes_of r logs whole w) (few r logs whole w tok) (up r logs whole w tok) (came r logs whole w)
        (start r logs whole w) (home r logs whole w tok (begun_by_run t less (omega (arith, some)))) t less
  ]

pub first_run : (r : Record) (logs : List Log) → IsWholeRun r logs → EachThread r (λ t. IsTrue (list_all (λ p. is_first_run p.0 p.1) (with_past [] (ran_of r t))))
first_run r logs whole t less =
    let l = log_of r logs whole t less in
    ap (λ (ms : List Tag). list_all (λ p. is_first_run p.0 p.1) (with_past [] ms)) (of_log r logs whole (λ x. x.ran) t l.0 l.1)
    ∙ first_runs [] l.0.lines.ran (λ w tok. omega (arith, runs_once r logs whole w tok t less, runs_are r logs whole w t l.0 l.1))
