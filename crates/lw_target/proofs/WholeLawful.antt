-- The record of a whole run of one client on one image is lawful.
use Rattle.std.proofs.Common.{ℕ, ◌≡◌, ◌%◌, true, List, [], ◌∷◌, filter_map, Option, Some, None, slice_get, unwrap_or, option_map, refl, sym, ap, subst, ◌∙◌, arith, IsTrue}
use Rattle.std.specs.List.{AllByRecursion, list_all, cons_option}
use Rattle.std.proofs.lemmas.Bool.{false≢true}
use Rattle.lw_base.specs.declared.message.Tag.{Tag}
use Rattle.lw_base.specs.declared.message.What.{What}
use Rattle.lw_base.specs.declared.message.What.TheVariants as what
use Rattle.lw_model.specs.declared.record.Record.{Record}
use Rattle.lw_base.specs.declared.moves.Hop.{Hop}
use Rattle.lw_model.specs.declared.record.ThreadRecord.{ThreadRecord}
use Rattle.lw_base.specs.declared.ends.DeviceEnd.{DeviceEnd}
use Rattle.lw_model.specs.declared.record.Span.{Span}
use Rattle.lw_model.specs.Threads.{of_thread, ran_of}
use Rattle.lw_model.specs.OwnOrder.{with_past}
use Rattle.lw_model.specs.Moves.{HomesAndHops, Numbers, home_of, first_reactor, hops_of, hop_fits, number_fits}
use Rattle.lw_model.specs.Rounds.{RoundsAndOrders, RoundsHold}
use Rattle.lw_model.proofs.Homes.{first_reactor_is}
use Rattle.lw_model.specs.Lawful.{Lawful, VisitsSeen, seen_of, seen_by}
use Rattle.lw_target.specs.WholeRun.{are_numbered}
use Rattle.lw_target.proofs.WholeParts.{IsMadeOf, each, each_client, of_app, of_client, of_owner}
use Rattle.lw_target.proofs.WholeAnswers.{answers}
use Rattle.lw_target.proofs.WholeSent.{is_back}
use Rattle.lw_target.proofs.WholeRan.{BackTag, client_back, ran_is_sent}
use Rattle.lw_target.proofs.WholeDevices.{devices}
use Rattle.lw_target.proofs.WholeReplies.{replies}

-- messages of which no completion is one have no results
sees_none : (r : Record) (ran : List Tag) → AllByRecursion BackTag ran → filter_map (seen_by r 1) ran ≡ []
sees_none r [] all = refl
sees_none r (m ∷ ran) all = ap (λ o. cons_option o (filter_map (seen_by r 1) ran)) (at m.sender m.number m.what all.0) ∙ sees_none r ran all.1
  where
    at : (sender number : ℕ) (w : What) → is_back w ≡ true → seen_by r 1 (record { sender = sender; number = number; what = w }) ≡ None
    at sender number (what.Visited k) e = absurd (false≢true e)
    at sender number (what.Casted k) e = absurd (false≢true e)
    at sender number _ e = refl

-- the rule on rounds of a record with such a span
abbrev RoundsOf : Record → Option Span → Type 0
RoundsOf r span = elim span [ None ↦ Unit {0} | Some x ↦ RoundsHold r x ]

module _ (r : Record) (app client owner : ThreadRecord) (end : DeviceEnd) (made : IsMadeOf r app client owner end) where
  home_at : (t : ℕ) (x : ThreadRecord) → slice_get r.threads t ≡ Some x → x.home ≡ 0 → home_of r t ≡ first_reactor r t
  home_at t x e f = ap (λ (o : Option ThreadRecord). unwrap_or (option_map (λ (y : ThreadRecord). y.home) o) 0) e ∙ f ∙ sym (first_reactor_is r t ∙ ap (λ n. t % n) made.reactors ∙ one t)
    where
      one : (n : ℕ) → n % 1 ≡ 0
      one n = omega arith

  thread_at : (t : ℕ) (x : ThreadRecord) → slice_get (app ∷ client ∷ owner ∷ []) t ≡ Some x → slice_get r.threads t ≡ Some x
  thread_at t x e = ap (λ ts. slice_get ts t) made.threads ∙ e

  hops_at : (t : ℕ) (x : ThreadRecord) → of_thread (λ y. y.hops) r t ≡ x.hops → x.hops ≡ [] → IsTrue (list_all (λ p. hop_fits r t p.0 p.1) (with_past [] (hops_of r t)))
  hops_at t x e f = ap (λ (hs : List Hop). list_all (λ p. hop_fits r t p.0 p.1) (with_past [] hs)) (e ∙ f)

  homes_and_hops : HomesAndHops r
  homes_and_hops = record {
    homes = each r app client owner end made (λ t. home_of r t ≡ first_reactor r t)
        (home_at 0 app (thread_at 0 app refl) made.whole.app_ended.stayed.home)
        (home_at 1 client (thread_at 1 client refl) made.whole.client_ended.stayed.home)
        (home_at 2 owner (thread_at 2 owner refl) made.whole.owner_ended.stayed.home);
    hops = each r app client owner end made (λ t. IsTrue (list_all (λ p. hop_fits r t p.0 p.1) (with_past [] (hops_of r t))))
        (hops_at 0 app (of_app r app client owner end made (λ x. x.hops)) made.whole.app_ended.stayed.hops)
        (hops_at 1 client (of_client r app client owner end made (λ x. x.hops)) made.whole.client_ended.stayed.hops)
        (hops_at 2 owner (of_owner r app client owner end made (λ x. x.hops)) made.whole.owner_ended.stayed.hops);
  }

  numbered_at : (t : ℕ) (x : ThreadRecord) → ran_of r t ≡ x.ran → are_numbered x.ran ≡ true → IsTrue (list_all (λ p. number_fits p.0 p.1) (with_past [] (ran_of r t)))
  numbered_at t x e f = ap are_numbered e ∙ f

  numbers : Numbers r
  numbers = each r app client owner end made (λ t. IsTrue (list_all (λ p. number_fits p.0 p.1) (with_past [] (ran_of r t))))
      (numbered_at 0 app (of_app r app client owner end made (λ x. x.ran)) made.whole.app_ended.stayed.numbered)
      (numbered_at 1 client (of_client r app client owner end made (λ x. x.ran)) made.whole.client_ended.stayed.numbered)
      (numbered_at 2 owner (of_owner r app client owner end made (λ x. x.ran)) made.whole.owner_ended.stayed.numbered)

  visits_seen : VisitsSeen r
  visits_seen = each_client r app client owner end made (λ t. seen_of r t ≡ filter_map (seen_by r t) (ran_of r t))
      (of_client r app client owner end made (λ x. x.seen) ∙ made.whole.client_ended.stayed.seen
      ∙ sym (ap (filter_map (seen_by r 1)) (of_client r app client owner end made (λ x. x.ran)) ∙ sees_none r client.ran (client_back r app client owner end made)))

  rounds_and_orders : RoundsAndOrders r
  rounds_and_orders = subst (λ span. RoundsOf r span) (sym made.span) tt

  pub whole_is_lawful : Lawful r
  whole_is_lawful = record {
    homes_and_hops = homes_and_hops;
    numbers = numbers;
    answers = answers r app client owner end made;
    ran_is_sent = ran_is_sent r app client owner end made;
    replies = replies r app client owner end made;
    devices = devices r app client owner end made;
    visits_seen = visits_seen;
    rounds_and_orders = rounds_and_orders;
    buffers_home = record { small = made.small; large = made.large };
  }
