-- What the answer of an op says of the channel, of the device and of what stands before it.
use Rattle.std.proofs.Common.{ℕ, zero, suc, ◌≡◌, ◌<◌, Bool, true, false, List, reverse, length, arith, refl, sym, ap, ◌∙◌, subst, nat_lt, nat_le}
use Rattle.std.specs.Prelude.{◌==◌, Option, Some, None, option_and_then, slice_get, if◌then◌else◌}
use Rattle.std.specs.List.{list_any}
use Rattle.std.proofs.lemmas.Option.{same_Some, none-some}
use Rattle.std.proofs.lemmas.Bool.{eqb-true, eqb-false, eq-eqb, and_from, lt-ltb, ltb-true, ltb-false, leb-false}
use Rattle.std.proofs.lemmas.List.{length-reverse}
use Rattle.lw_model.specs.declared.script.Script.{Script}
use Rattle.lw_model.specs.declared.script.Op.{Op}
use Rattle.lw_model.specs.declared.script.Op.TheVariants as op
use Rattle.lw_model.specs.declared.step.Step.{Step}
use Rattle.lw_model.specs.declared.record.Answer.{Answer}
use Rattle.lw_model.specs.declared.record.Answer.TheVariants as answer
use Rattle.lw_model.specs.ScriptRules.{image_of}
use Rattle.lw_model.specs.Threads.{is_on, is_client, ops_of, depth_of, image_at}
use Rattle.lw_model.specs.Holding.{is_closed, is_started, loses, references, held}
use Rattle.lw_model.specs.Answers.{unanswered, unanswered_on, answer_fits, depth_fits, get_fits, request_fits}
use Rattle.lw_model.specs.Devices.{is_refusal}
use Rattle.lw_target.specs.declared.channel.Channel.{Channel}
use Rattle.lw_target.specs.declared.device.Device.{Device}
use Rattle.lw_target.specs.ClientLog.{KeepsDevice}
use Rattle.lw_target.specs.Actions.{action_on, device_of, names_image}
use Rattle.lw_target.specs.Answers.{get_answer, answer_to}
use Rattle.lw_target.specs.Ops.{is_servable}
use Rattle.lw_target.proofs.Kept.{IsApt}

-- ---- the op, and the image that it is about

pub image_is : (n : ℕ) (o : Op) → is_servable n o ≡ true → image_of o ≡ Some (device_of (action_on o))
image_is n (op.Get d) e = refl
image_is n (op.Put d) e = refl
image_is n (op.Write d start count pattern) e = refl
image_is n (op.Read d start count) e = refl
image_is n _ e = let wrong : false ≡ true = e in cc

-- a client's op
pub at_client : (s : Script) (t : ℕ) (ops : List Op) (n : ℕ) (o : Op) (d : ℕ) → is_client s t ≡ true → ops_of s t ≡ ops → slice_get ops n ≡ Some o → image_of o ≡ Some d → image_at s t n ≡ Some d
at_client s zero ops n o d client same found is = let wrong : false ≡ true = client in cc
at_client s (suc c) ops n o d client same found is = ap (option_and_then image_of) (ap (λ (q : List Op). slice_get q n) same ∙ found) ∙ is

pub on_client : (s : Script) (t : ℕ) (ops : List Op) (d k : ℕ) → is_client s t ≡ true → ops_of s t ≡ ops → is_on s t d k ≡ names_image ops d k
on_client s zero ops d k client same = let wrong : false ≡ true = client in cc
on_client s (suc c) ops d k client same = ap (λ (q : List Op). names_image q d k) same

-- ---- what an answer says of the channel and of the device

pub record OpFacts (s : Script) (t : ℕ) (past : List Step) (o : Op) (v : Device) (k : Channel) (a : Answer) : Type 0 where
  pub fits : answer_fits s t past (Some o) a ≡ true
  pub deep : depth_fits s t past a ≡ true
  pub going : is_closed a ≡ false
  pub unstarted : is_started a ≡ false
  pub apt : IsApt a k
  pub gone : loses a ≡ true → length (unanswered_on s t (device_of (action_on o)) past) ≡ 0
  pub given : (n : ℕ) → a ≡ answer.Given n → (n ≡ v.given) × (k.ordinal ≡ None)
  pub usable : v.shut_by ≡ None → is_refusal a ≡ false

facts_get : (s : Script) (t : ℕ) (past : List Step) (d : ℕ) (v : Device) (k : Channel) (shut ordinal : Option ℕ) → v.shut_by ≡ shut → k.ordinal ≡ ordinal
    → held (is_on s t d) d past ≡ k.ordinal
    → OpFacts s t past (op.Get d) v k (elim shut as (λ q. Answer) [ Some x ↦ answer.Shut | None ↦ elim ordinal as (λ q. Answer) [ Some n ↦ answer.Again n | None ↦ answer.Given v.given ] ])
facts_get s t past d v k (Some x) ordinal es eo h = record {
  fits = always_shut (held (is_on s t d) d past);
  deep = refl;
  going = refl;
  unstarted = refl;
  apt = tt;
  gone = λ e. let wrong : false ≡ true = e in cc;
  given = λ n e. let wrong : answer.Shut ≡ answer.Given n = e in cc;
  usable = λ e. absurd (none-some x (sym e ∙ es));
}
  where
    always_shut : (o : Option ℕ) → get_fits o answer.Shut ≡ true
    always_shut None = refl
    always_shut (Some n) = refl
facts_get s t past d v k None None es eo h = record {
  fits = ap (λ (o : Option ℕ). get_fits o (answer.Given v.given)) (h ∙ eo);
  deep = refl;
  going = refl;
  unstarted = refl;
  apt = tt;
  gone = λ e. let wrong : false ≡ true = e in cc;
  given = λ n e. let same : v.given ≡ n = cc in (sym same, eo);
  usable = λ e. refl;
}
facts_get s t past d v k None (Some n) es eo h = record {
  fits = ap (λ (o : Option ℕ). get_fits o (answer.Again n)) (h ∙ eo) ∙ eq-eqb n n refl;
  deep = refl;
  going = refl;
  unstarted = refl;
  apt = eo;
  gone = λ e. let wrong : false ≡ true = e in cc;
  given = λ m e. let wrong : answer.Again n ≡ answer.Given m = e in cc;
  usable = λ e. refl;
}

facts_put : (s : Script) (t : ℕ) (past : List Step) (d : ℕ) (v : Device) (k : Channel) (waits none many : Bool) → (k.references == 0) ≡ none → nat_lt 1 k.references ≡ many
    → references (is_on s t d) past ≡ k.references → (waits ≡ false → length (unanswered_on s t d past) ≡ 0) → (k.references ≡ 0 → length (unanswered_on s t d past) ≡ 0)
    → (a : Answer) → (if none then Some answer.NoChannel else (if waits then None else (if many then Some answer.Counted else Some answer.Deferred))) ≡ Some a
    → OpFacts s t past (op.Put d) v k a
facts_put s t past d v k waits true many en em refs free waited a is =
    subst (OpFacts s t past (op.Put d) v k) (same_Some answer.NoChannel a is)
    (record {
      fits = and_from (references (is_on s t d) past == 0) (length (unanswered_on s t d past) == 0)
          (ap (λ n. n == 0) refs ∙ en) (eq-eqb (length (unanswered_on s t d past)) 0 (waited (eqb-true k.references 0 en)));
      deep = refl;
      going = refl;
      unstarted = refl;
      apt = tt;
      gone = λ e. let wrong : false ≡ true = e in cc;
      given = λ m e. let wrong : answer.NoChannel ≡ answer.Given m = e in cc;
      usable = λ e. refl;
    })
facts_put s t past d v k true false many en em refs free waited a is = absurd (none-some a is)
facts_put s t past d v k false false true en em refs free waited a is =
    subst (OpFacts s t past (op.Put d) v k) (same_Some answer.Counted a is)
    (record {
      fits = and_from (nat_lt 1 (references (is_on s t d) past)) (length (unanswered_on s t d past) == 0)
          (ap (nat_lt 1) refs ∙ em) (eq-eqb (length (unanswered_on s t d past)) 0 (free refl));
      deep = refl;
      going = refl;
      unstarted = refl;
      apt = ltb-true 1 k.references em;
      gone = λ e. free refl;
      given = λ m e. let wrong : answer.Counted ≡ answer.Given m = e in cc;
      usable = λ e. refl;
    })
facts_put s t past d v k false false false en em refs free waited a is =
    let one : k.references ≡ 1 = let less = ltb-false 1 k.references em in let some = eqb-false k.references 0 en in omega (arith, less, some) in
    subst (OpFacts s t past (op.Put d) v k) (same_Some answer.Deferred a is)
    (record {
      fits = and_from (references (is_on s t d) past == 1) (length (unanswered_on s t d past) == 0)
          (eq-eqb (references (is_on s t d) past) 1 (refs ∙ one)) (eq-eqb (length (unanswered_on s t d past)) 0 (free refl));
      deep = refl;
      going = refl;
      unstarted = refl;
      apt = one;
      gone = λ e. free refl;
      given = λ m e. let wrong : answer.Deferred ≡ answer.Given m = e in cc;
      usable = λ e. refl;
    })

-- a write or a read
record AskFacts (s : Script) (t : ℕ) (past : List Step) (d : ℕ) (v : Device) (k : Channel) (a : Answer) : Type 0 where
  fits : request_fits (references (is_on s t d) past) a ≡ true
  deep : depth_fits s t past a ≡ true
  going : is_closed a ≡ false
  unstarted : is_started a ≡ false
  apt : IsApt a k
  gone : loses a ≡ false
  given : (n : ℕ) → a ≡ answer.Given n → ⊥
  usable : is_refusal a ≡ false

facts_ask : (s : Script) (t : ℕ) (past : List Step) (d count depth : ℕ) (v : Device) (k : Channel) (none full : Bool) → (k.references == 0) ≡ none → nat_le depth count ≡ full
    → references (is_on s t d) past ≡ k.references → count ≡ length (unanswered past) → depth_of s t ≡ depth
    → (a : Answer) → (if none then Some answer.NoChannel else (if full then None else Some answer.Sent)) ≡ Some a → AskFacts s t past d v k a
facts_ask s t past d count depth v k true full en ef refs many deep a is =
    subst (AskFacts s t past d v k) (same_Some answer.NoChannel a is)
    (record {
      fits = ap (λ n. n == 0) refs ∙ en;
      deep = refl;
      going = refl;
      unstarted = refl;
      apt = tt;
      gone = refl;
      given = λ m e. let wrong : answer.NoChannel ≡ answer.Given m = e in cc;
      usable = refl;
    })
facts_ask s t past d count depth v k false true en ef refs many deep a is = absurd (none-some a is)
facts_ask s t past d count depth v k false false en ef refs many deep a is =
    let some : 0 < k.references = let ne = eqb-false k.references 0 en in omega (arith, ne) in
    subst (AskFacts s t past d v k) (same_Some answer.Sent a is)
    (record {
      fits = lt-ltb 0 (references (is_on s t d) past) (omega (arith, refs, some));
      deep = lt-ltb (length (unanswered past)) (depth_of s t) (let less = leb-false depth count ef in omega (arith, less, many, deep));
      going = refl;
      unstarted = refl;
      apt = some;
      gone = refl;
      given = λ m e. let wrong : answer.Sent ≡ answer.Given m = e in cc;
      usable = refl;
    })

pub facts : (s : Script) (t m : ℕ) (past : List Step) (o : Op) (ops : List Op) (waiting : List ℕ) (depth : ℕ) (v : Device) (k : Channel) (a : Answer) → is_servable m o ≡ true
    → KeepsDevice s t past (device_of (action_on o)) k → waiting ≡ reverse (unanswered past) → depth_of s t ≡ depth
    → (list_any (names_image ops (device_of (action_on o))) waiting ≡ false → length (unanswered_on s t (device_of (action_on o)) past) ≡ 0)
    → answer_to ops waiting depth (action_on o) v k ≡ Some a → OpFacts s t past o v k a
facts s t m past (op.Get d) ops waiting depth v k a serves h is deep free e =
    subst (OpFacts s t past (op.Get d) v k) (same_Some (get_answer v k) a e) (facts_get s t past d v k v.shut_by k.ordinal refl refl h.ordinal)
facts s t m past (op.Put d) ops waiting depth v k a serves h is deep free e =
    facts_put s t past d v k (list_any (names_image ops d) waiting) (k.references == 0) (nat_lt 1 k.references) refl refl h.references free h.waited a e
facts s t m past (op.Write d start count pattern) ops waiting depth v k a serves h is deep free e =
    let f = facts_ask s t past d (length waiting) depth v k (k.references == 0) (nat_le depth (length waiting)) refl refl h.references
    (ap length is ∙ length-reverse (unanswered past)) deep a e in
    record {
      fits = f.fits;
      deep = f.deep;
      going = f.going;
      unstarted = f.unstarted;
      apt = f.apt;
      gone = λ w. let wrong : false ≡ true = sym f.gone ∙ w in cc;
      given = λ n w. absurd (f.given n w);
      usable = λ w. f.usable;
    }
facts s t m past (op.Read d start count) ops waiting depth v k a serves h is deep free e =
    let f = facts_ask s t past d (length waiting) depth v k (k.references == 0) (nat_le depth (length waiting)) refl refl h.references
    (ap length is ∙ length-reverse (unanswered past)) deep a e in
    record {
      fits = f.fits;
      deep = f.deep;
      going = f.going;
      unstarted = f.unstarted;
      apt = f.apt;
      gone = λ w. let wrong : false ≡ true = sym f.gone ∙ w in cc;
      given = λ n w. absurd (f.given n w);
      usable = λ w. f.usable;
    }
facts s t m past _ ops waiting depth v k a serves h is deep free e = absurd (let wrong : false ≡ true = serves in cc)
