-- A client that has run and listed nothing.
use Rattle.std.proofs.Common.{ℕ, ◌≡◌, ◌+◌, Bool, true, false, List, [], ◌∷◌, ◌++◌, length, arith, refl, sym, ap, ap₂, ◌∙◌, subst, cond, reverse}
use Rattle.std.specs.Prelude.{count_by, filter_map, Some, None, is_some, slice_get}
use Rattle.std.specs.List.{All, AllByRecursion, list_any, range_with_len}
use Rattle.std.proofs.lemmas.Option.{slice_get_within, get_or_from_slice_get}
use Rattle.std.proofs.lemmas.List.Elements.{All-get_or, recursion_from_All}
use Rattle.std.proofs.lemmas.List.Sums.{sum_by-cons}
use Rattle.lw_base.specs.declared.message.What.TheVariants as what
use Rattle.lw_model.specs.declared.script.Script.{Script}
use Rattle.lw_model.specs.declared.step.Step.{Step}
use Rattle.lw_model.specs.declared.record.Did.{Did}
use Rattle.lw_model.specs.OwnOrder.{own_order}
use Rattle.lw_model.specs.Threads.{is_on}
use Rattle.lw_model.specs.Holding.{says, always, is_closed, ordinal_given}
use Rattle.lw_model.specs.Answers.{unanswered}
use Rattle.lw_model.specs.Devices.{is_refusal}
use Rattle.lw_target.specs.declared.channel.Channel.{Channel}
use Rattle.lw_target.specs.declared.client.Client.{Client}
use Rattle.lw_target.specs.declared.device.Device.{Device}
use Rattle.lw_target.specs.Client.{IsFresh}
use Rattle.lw_target.specs.ClientLog.{Follows, IsOf, KeepsDevice, log_of, steps_so_far, past_so_far, sent_so_far, sends_of_steps, was_refused, lines_fit, ats_ascend}
use Rattle.lw_target.specs.ClientCalls.{AllAgree}

abbrev IsNothing : Channel → Type 0
IsNothing k = k ≡ record { ordinal = None; references = 0; pending = 0 }

none_stands : (ks : List Channel) → AllByRecursion IsNothing ks → count_by (λ (k : Channel). is_some k.ordinal) ks ≡ 0
none_stands [] all = refl
none_stands (k ∷ ks) all =
    sum_by-cons (λ (k : Channel). cond (is_some k.ordinal) 1 0) k ks
    ∙ ap₂ (λ (j : Channel) (n : ℕ). cond (is_some j.ordinal) 1 0 + n) all.0 (none_stands ks all.1)

no_steps : (c : Client) → IsFresh c → steps_so_far c [] ≡ []
no_steps c f = ap (λ (did : List Did). own_order (log_of [] did c.replies)) f.did

pub kept_nothing : (c : Client) (d : ℕ) (k : Channel) → IsFresh c → slice_get c.channels.items d ≡ Some k → IsNothing k
kept_nothing c d k f e =
    subst IsNothing (get_or_from_slice_get c.channels.items d k k e) (All-get_or IsNothing c.channels.items d k (slice_get_within c.channels.items d k e) f.channels)

keeps_nothing : (s : Script) (t d : ℕ) → KeepsDevice s t [] d (record { ordinal = None; references = 0; pending = 0 })
keeps_nothing s t d = record {
  ordinal = refl;
  references = refl;
  pending = refl;
  standing = λ e. let wrong : false ≡ true = e in cc;
  stands = λ e. absurd (omega (arith, e));
  balance = omega arith;
  waited = λ e. refl;
}

pub fresh_follows : (s : Script) (c : Client) → IsFresh c → IsOf s c → Follows s c []
fresh_follows s c f of =
    let none = no_steps c f in
    let past : past_so_far c [] ≡ [] = ap reverse none in
    record {
      of = of;
      listed = ap length f.did ∙ ap₂ (λ (n : ℕ) (b : Bool). n + cond b 1 0) (sym f.next) (sym f.closed);
      closed = λ e. let wrong : false ≡ true = sym f.closed ∙ e in cc;
      says_closed = ap (list_any (says always is_closed)) past ∙ sym f.closed;
      devices = λ d k e.
          subst (λ (q : List Step). KeepsDevice s c.thread q d k) (sym past) (subst (KeepsDevice s c.thread [] d) (sym (kept_nothing c d k f e)) (keeps_nothing s c.thread d));
      standing = f.standing ∙ sym (none_stands c.channels.items (recursion_from_All IsNothing c.channels.items f.channels));
      unanswered = f.unanswered ∙ ap (λ (q : List Step). reverse (unanswered q)) (sym past);
      lines = ap (lines_fit s c.thread) none;
      ats = ap (ats_ascend 0) f.did;
      done = λ e. let wrong : false ≡ true = sym f.done ∙ e in cc;
      gets = λ d. omega (arith, ap length (ap (filter_map (ordinal_given (is_on s c.thread d))) none));
    }

pub fresh_sends : (s : Script) (c : Client) → IsFresh c → sent_so_far s c [] ≡ []
fresh_sends s c f = ap₂ (λ (q : List Step) (b : Bool). sends_of_steps s c.thread q ++ cond b ((0, what.Done) ∷ []) []) (no_steps c f) f.done

pub fresh_refused : (c : Client) → IsFresh c → was_refused c [] ≡ false
fresh_refused c f = ap (list_any (says always is_refusal)) (no_steps c f)

pub fresh_agree : (s : Script) (c : Client) (devices : List Device) → IsFresh c → All (λ v. (v.standing ≡ 0) × (v.given ≡ 0)) devices → AllAgree s c [] devices
fresh_agree s c devices f zeros = λ d k v ek ev.
    let zero' : (v.standing ≡ 0) × (v.given ≡ 0) =
    subst (λ (w : Device). (w.standing ≡ 0) × (w.given ≡ 0)) (get_or_from_slice_get devices d v v ev)
    (All-get_or (λ (w : Device). (w.standing ≡ 0) × (w.given ≡ 0)) devices d v (slice_get_within devices d v ev) zeros) in
    record {
      standing = zero'.0 ∙ sym (ap {B = ℕ} (λ (j : Channel). cond (is_some j.ordinal) 1 0) (kept_nothing c d k f ek));
      given = ap (filter_map (ordinal_given (is_on s c.thread d))) (no_steps c f) ∙ sym (ap (range_with_len 0) zero'.1);
    }
