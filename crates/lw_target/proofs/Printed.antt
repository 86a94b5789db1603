-- A record of the three threads has a text.
use Rattle.std.proofs.Common.{ℕ, ◌≡◌, ◌+◌, true, List, [], None, length, refl, sym, ◌∙◌, ap, subst, nat_lt, eq-eqb}
use Rattle.std.specs.Prelude.{is_none}
use Rattle.std.specs.List.{list_all, enumerate_from}
use Rattle.std.proofs.lemmas.Bool.{and_from}
use Rattle.lw_base.specs.declared.message.Tag.{Tag}
use Rattle.lw_model.specs.declared.script.Script.{Script}
use Rattle.lw_model.specs.declared.script.ClientOf.{ClientOf}
use Rattle.lw_base.specs.declared.moves.Round.{Round}
use Rattle.lw_model.specs.declared.record.Did.{Did}
use Rattle.lw_model.specs.declared.record.Called.{Called}
use Rattle.lw_model.specs.declared.record.Reply.{Reply}
use Rattle.lw_model.specs.declared.record.ThreadRecord.{ThreadRecord}
use Rattle.lw_base.specs.declared.ends.DeviceEnd.{DeviceEnd}
use Rattle.lw_model.specs.declared.record.RoleKind.{RoleKind}
use Rattle.lw_model.specs.declared.record.RoleKind.TheVariants.{App, Client, Owner}
use Rattle.lw_base.specs.declared.moves.Scheduler.{Scheduler}
use Rattle.lw_base.specs.declared.moves.Scheduler.TheVariants.{Static}
use Rattle.lw_model.specs.ScriptRules.{rule_broken, is_within}
use Rattle.lw_model.specs.Printable.{has_a_line, has_bytes, has_role, may_reply, is_empty, is_printable_thread, is_printable}
use Rattle.lw_target.specs.declared.options.Options.{Options}
use Rattle.lw_target.specs.Options.{AreServed}
use Rattle.lw_target.specs.Run.{IsThread, AreThreads}

pub is_thread : (t : ThreadRecord) (kind : RoleKind) (ran : List Tag) (did : List Did) (called : List Called) (replies : List Reply)
    → t ≡ record { role = kind; home = 0; hops = []; ran = ran; did = did; called = called; replies = replies; seen = [] }
    → list_all (λ m. has_a_line m.what) ran ≡ true → list_all (λ c. nat_lt c.device 1) called ≡ true → list_all (λ r. has_bytes r.answer) replies ≡ true
    → IsThread kind t
is_thread t kind ran did called replies e r c p = record {
  role = ap (λ t. t.role) e;
  ran = ap (λ t. list_all (λ m. has_a_line m.what) t.ran) e ∙ r;
  called = ap (λ t. list_all (λ c. nat_lt c.device 1) t.called) e ∙ c;
  replies = ap (λ t. list_all (λ r. has_bytes r.answer) t.replies) e ∙ p;
  seen = ap (λ t. t.seen) e;
}

thread_printed : (s : Script) (n : ℕ) (kind : RoleKind) (t : ThreadRecord) → IsThread kind t → length s.images ≡ 1
    → has_role (length s.clients) n kind ≡ true → may_reply kind t ≡ true → is_printable_thread s n t ≡ true
thread_printed s n kind t h images role replies =
    and_from _ _ (and_from _ _ (and_from _ _
    (subst (λ k. has_role (length s.clients) n k ≡ true) (sym h.role) role)
    (subst (λ k. may_reply k t ≡ true) (sym h.role) replies)) h.ran)
    (subst (λ d. list_all (λ c. nat_lt c.device d) t.called ≡ true) (sym images) h.called)

threads_printed : (s : Script) (threads : List ThreadRecord) → length s.images ≡ 1 → length s.clients ≡ 1 → AreThreads threads
    → list_all (λ p. is_printable_thread s p.0 p.1) (enumerate_from 0 threads) ≡ true
threads_printed s threads images clients (app, client, owner, e, a, c, o, none, nothing) =
    subst (λ ts. list_all (λ p. is_printable_thread s p.0 p.1) (enumerate_from 0 ts) ≡ true) (sym e)
    (and_from _ _ (thread_printed s 0 App app a images refl (and_from _ _ (ap is_empty none) (ap is_empty a.seen)))
    (and_from _ _ (thread_printed s 1 Client client c images (subst (λ k. has_role k 1 Client ≡ true) (sym clients) refl)
    (and_from _ _ c.replies (rw (c.seen) refl)))
    (and_from _ _ (thread_printed s 2 Owner owner o images (subst (λ k. has_role k 2 Owner ≡ true) (sym clients) refl)
    (and_from _ _ (ap is_empty nothing) (ap is_empty o.seen))) refl)))

pub printed : (s : Script) (period : ℕ) (threads : List ThreadRecord) (devices : List DeviceEnd) → rule_broken s ≡ None
    → is_within 1 1000000000000 period ≡ true → length s.images ≡ 1 → length s.clients ≡ 1 → AreThreads threads → length devices ≡ 1
    → is_printable s Static 1 period threads devices None [] ≡ true
printed s period threads devices rules fits images clients all ends =
    and_from _ _ (and_from _ _ (and_from _ _ (and_from _ _ (and_from _ _ (and_from _ _ (ap is_none rules) refl) fits)
    (eq-eqb (length threads) (1 + length s.clients + length s.images)
    (ap length all.3 ∙ sym (ap (λ c. 1 + c + length s.images) clients ∙ ap (λ i. 1 + 1 + i) images))))
    (threads_printed s threads images clients all))
    (eq-eqb (length devices) (length s.images) (ends ∙ sym images))) refl

-- the same of a script that was taken apart and put together again, under options that are served, with no rounds
pub printed_again : (s : Script) (options : Options) (clients : List ClientOf) (threads : List ThreadRecord) (devices : List DeviceEnd) (rounds : List Round)
    → s.clients ≡ clients → rounds ≡ [] → rule_broken s ≡ None → AreServed options
    → length s.images ≡ 1 → length s.clients ≡ 1 → AreThreads threads → length devices ≡ 1
    → is_printable (record { images = s.images; clients = clients; small = s.small; large = s.large }) options.scheduler options.reactors options.period threads devices None rounds ≡ true
printed_again s options clients threads devices rounds e none rules served images count all ends =
    subst (λ (cs : List ClientOf). is_printable (record { images = s.images; clients = cs; small = s.small; large = s.large }) options.scheduler options.reactors options.period threads devices None rounds ≡ true) e
    (subst (λ (rs : List Round). is_printable s options.scheduler options.reactors options.period threads devices None rs ≡ true) (sym none)
    (subst (λ (how : Scheduler). is_printable s how options.reactors options.period threads devices None [] ≡ true) (sym served.scheduler)
    (subst (λ (n : ℕ). is_printable s Static n options.period threads devices None [] ≡ true) (sym served.reactors)
    (printed s options.period threads devices rules served.period images count all ends))))
