-- Visits seen: a completion brings what all threads added that ran its token.
use Rattle.std.proofs.Common.{◌≡◌, ℕ, zero, suc, ◌+◌, ◌<◌, ◌≤◌, true, cond, List, [], ◌∷◌, map, Option, Some, None, slice_get, refl, sym, ap, ap₂, subst, ◌∙◌, arith, inl, inr}
use Rattle.std.specs.Prelude.{filter_map, option_and_then}
use Rattle.std.specs.List.{cons_option}
use Rattle.std.proofs.lemmas.Bool.{eq-eqb, false≢true}
use Rattle.lw_base.specs.declared.message.Tag.{Tag}
use Rattle.lw_base.specs.declared.message.What.{What}
use Rattle.lw_base.specs.declared.message.What.TheVariants as what
use Rattle.lw_model.specs.declared.script.Script.{Script}
use Rattle.lw_model.specs.declared.script.Op.{Op}
use Rattle.lw_model.specs.declared.script.Op.TheVariants as op
use Rattle.lw_model.specs.declared.record.Record.{Record}
use Rattle.lw_model.specs.declared.record.Seen.{Seen}
use Rattle.lw_model.specs.declared.record.SeenBy.TheVariants as by
use Rattle.lw_model.specs.declared.step.Step.{Step}
use Rattle.lw_model.specs.declared.step.Step.TheVariants as step
use Rattle.lw_model.specs.ScriptRules.{image_of}
use Rattle.lw_model.specs.Threads.{thread_count, is_client, op_at, image_at}
use Rattle.lw_model.specs.Holding.{runs}
use Rattle.lw_model.specs.Sent.{is_same_token, token_of, token_of_op, completion, runners, sent_last}
use Rattle.lw_model.specs.Lawful.{VisitsSeen, mark_of, seen_by, visit_results}
use Rattle.lw_whole.specs.Letters.{Letter, Load, marks_in, threads_in}
use Rattle.lw_whole.specs.Logs.{Log, load_at, steps}
use Rattle.lw_whole.specs.Tokens.{GoesOn, may_pass, empty_load, load_behind}
use Rattle.lw_whole.specs.Sends.{SentBy}
use Rattle.lw_whole.specs.Lines.{results_in}
use Rattle.lw_whole.specs.WholeRun.{IsWholeRun}
use Rattle.lw_whole.proofs.Access.{client_within, of_log, log_of, ended, client_ended}
use Rattle.lw_whole.proofs.Flow.{count_at}
use Rattle.lw_whole.proofs.TokenCounts.{dest, dests}
use Rattle.lw_whole.proofs.TokenRuns.{Token, count_of, count_steps, ran_goes, started_goes}
use Rattle.lw_whole.proofs.TokenFlow.{runs_at, goes_of, goes_is, runs_are}
use Rattle.lw_whole.proofs.TokenBack.{Among, IsTo, is_back, back_no_token, of_step, plain_not}
use Rattle.lw_whole.proofs.TokenWay.{Begun, last_back}
use Rattle.lw_whole.proofs.Once.{begun_by_run}
use Rattle.lw_whole.proofs.AtStep.{AtStep, at_step}
use Rattle.lw_whole.proofs.TokenGoes.{all_go, at_most_once, dest_home, not_passed, between}
use Rattle.lw_whole.proofs.Marks.{below_same, loaded_of, loaded}
use Rattle.lw_whole.proofs.SentFrom.{SentFrom}
use Rattle.lw_whole.proofs.TokenLoads.{single, sent_from, in_run, behind, carried}

-- ---- what a completion tells of its token

-- the op of a visit's token is a visit
visit_op : (t k d : ℕ) (o : Option Op) → elim o [ None ↦ None | Some x ↦ token_of_op t k x ] ≡ Some (what.Visit t k d) → o ≡ Some (op.Visit d)
visit_op t k d None e = cc
visit_op t k d (Some (op.Visit f)) e = ap (λ a. Some (op.Visit a)) (ap device e)
  where
    device : Option What → ℕ
    device None = 0
    device (Some (what.Visit a b c)) = c
    device (Some _) = 0
visit_op t k d (Some op.Each) e = cc
visit_op t k d (Some _) e = cc

visit_image : (s : Script) (t k d : ℕ) → is_client s t ≡ true → token_of s t k ≡ Some (what.Visit t k d) → image_at s t k ≡ Some d
visit_image s zero k d c e = absurd (false≢true c)
visit_image s (suc a) k d c e = ap (option_and_then image_of) (visit_op (suc a) k d (op_at s (suc a) k) e)

-- a message among these is one of the one
pub among_is : (o : ℕ) (x : Letter) (now : List (ℕ × Letter)) → Among (IsTo o (λ y. y ≡ x)) now → Among (IsTo o (λ y. y.tag.what ≡ x.tag.what)) now
among_is o x [] g = g
among_is o x (p ∷ now) (inl is) = inl (is.0, ap (λ (y : Letter). y.tag.what) is.1)
among_is o x (p ∷ now) (inr g) = inr (among_is o x now g)

-- a completion is sent by what goes home
pub back_home : (s : Script) (t : ℕ) (x : Letter) (w : What) (from : ℕ) (load : Load) (now : List (ℕ × Letter)) → Token w → is_back x.tag.what ≡ true → GoesOn s w from load now → Among (IsTo t (λ y. y ≡ x)) now
    → (x.load ≡ load) × may_pass s w from (thread_count s) × (1 ≤ count_at (thread_count s) (dests (thread_count s) w now))
back_home s t x w from load [] tok back h g = absurd g
back_home s t x w from load (p ∷ []) tok back h (inr g) = absurd g
back_home s t x w from load (p ∷ []) tok back (inl to) (inl is) =
    let same : x.tag.what ≡ w = ap (λ (y : Letter). y.tag.what) (sym is.1) ∙ to.token in
    absurd (false≢true (sym (back_no_token x.tag.what back) ∙ ap (λ v. is_same_token v v) same ∙ tok))
back_home s t x w from load (p ∷ []) tok back (inr home) (inl is) = (
  ap (λ (y : Letter). y.load) (sym is.1) ∙ home.carried,
  home.passed,
  omega (arith, ap {B = ℕ} (λ b. cond b 1 0) (eq-eqb (dest (thread_count s) w p) (thread_count s) (dest_home (thread_count s) w p home.completes))),
)
back_home s t x w from load (p ∷ q ∷ rest) tok back h g = absurd h

module _ (r : Record) (logs : List Log) (whole : IsWholeRun r logs) where
  abbrev n : ℕ
  n = thread_count r.script

  -- the token whose completion a letter is, with what all threads added
  pub record Back (t : ℕ) (x : Letter) : Type 0 where
    pub token : What
    pub begun : Begun r logs token
    pub completes : completion token ≡ (t, x.tag.what) ∷ []
    pub brought : x.load ≡ loaded r token (thread_count r.script)

  module _ (t : ℕ) (x : Letter) (back : is_back x.tag.what ≡ true) where
    of_run : (s : ℕ) (l : Log) → slice_get logs s ≡ Some l → s < thread_count r.script → (a : AtStep r.script s l (IsTo t (λ y. y ≡ x))) (w : What) → Token w → completion w ≡ (t, x.tag.what) ∷ [] → (y : Step) → a.this ≡ y
        → runs (is_same_token w) a.this ≡ true → Back t x
    of_run s l at less a w tok completes (step.Did i d) this f = absurd (false≢true (ap (runs (is_same_token w)) (sym this) ∙ f))
    of_run s l at less a w tok completes (step.Called i d) this f = absurd (false≢true (ap (runs (is_same_token w)) (sym this) ∙ f))
    of_run s l at less a w tok completes (step.Ran i m) this f =
        let is_run : is_same_token w m.what ≡ true = ap (runs (is_same_token w)) (sym this) ∙ f in
        let home = back_home r.script t x w (s + 1) (load_behind r.script s a.past w (load_at l i)) a.now tok back (ran_goes r.script s l w a.past i m a.now is_run (subst (λ z. SentBy r.script s l a.past z a.now) this a.sent)) a.among in
        let total : runs_at r logs whole w s ≡ count_of (runs (is_same_token w)) (steps l) = runs_are r logs whole w s l at ∙ sym (count_steps (is_same_token w) l) in
        let b = begun_by_run r logs whole w tok s less (omega (arith, total, a.counted (runs (is_same_token w)) f)) in
        let goes = single n (goes_of r logs whole w s) (omega (arith, all_go r logs whole w tok b s less, at_most_once r logs whole w tok b s less))
        (omega (arith, home.2, a.out (runs (is_same_token w)) n w n f, ap (count_at n) (goes_is r logs whole w s l at))) in
        record {
          token = w;
          begun = b;
          completes = completes;
          brought = home.0 ∙ behind r logs whole w tok s l at less b (carried r logs whole w tok (suc s) s (omega arith)) (IsTo t (λ y. y ≡ x)) a i m this is_run
              ∙ sym (ap (loaded_of r w) (below_same r w (suc s) n (omega (arith, less)) (λ v low high. between r logs whole w tok b s n v (omega (arith, low)) high (omega arith) goes)));
        }

    of_sender : SentFrom logs t x → Back t x
    of_sender from = elim from.among [
      | inl at_steps ↦
          let a = at_step r.script from.sender from.log (IsTo t (λ y. y ≡ x)) (ended r logs whole from.sender from.log from.at).sends.at_steps at_steps in
          let of = of_step r.script from.sender n t from.log x.tag.what back a.past a.this a.now a.sent (among_is t x a.now a.among) in
          elim of.by [
            | inl begins ↦
                let home = back_home r.script t x of.token 0 (empty_load of.token) a.now of.is_token back (started_goes r.script from.sender from.log of.token a.past a.this a.now begins a.sent) a.among in
                absurd (not_passed r.script of.token 0 n 0 (omega arith) (omega arith) refl home.1)
            | inr ran ↦ of_run from.sender from.log from.at (in_run r logs whole from.sender from.within) a of.token of.is_token of.completes a.this refl ran
          ]
      | inr at_end ↦ absurd (plain_not t x.tag.what (sent_last r.script from.sender) from.log.last back (ended r logs whole from.sender from.log from.at).sends.at_end (last_back r.script from.sender) (among_is t x from.log.last at_end))
    ]

  -- ---- the results

  -- completions of visits and of casts tell them apart
  abbrev visited : List (ℕ × What) → Option (ℕ × ℕ)
  visited [] = None
  visited (p ∷ ps) = elim p.1 [ what.Visited k ↦ Some (p.0, k) | _ ↦ None ]

  abbrev casted : List (ℕ × What) → Option (ℕ × ℕ)
  casted [] = None
  casted (p ∷ ps) = elim p.1 [ what.Casted k ↦ Some (p.0, k) | _ ↦ None ]

  module _ (t : ℕ) (l : Log) (at : slice_get logs t ≡ Some l) (less : t < thread_count r.script) (client : is_client r.script t ≡ true) where
    visit_results_are : (k : ℕ) (x : Letter) (w : What) → Begun r logs w → completion w ≡ (t, what.Visited k) ∷ [] → x.load ≡ loaded r w n → by.Visit (marks_in x.load) ≡ visit_results r t k
    visit_results_are k x (what.Visit o j d) b e load =
        let pairs : ◌≡◌ {A = Option (ℕ × ℕ)} (Some (o, j)) (Some (t, k)) = ap visited e in
        let to : o ≡ t = ap (λ (q : Option (ℕ × ℕ)). elim q [ None ↦ 0 | Some p ↦ p.0 ]) pairs in
        let op_is : j ≡ k = ap (λ (q : Option (ℕ × ℕ)). elim q [ None ↦ 0 | Some p ↦ p.1 ]) pairs in
        let same : what.Visit o j d ≡ what.Visit t k d = ap₂ (λ a c. what.Visit a c d) to op_is in
        let token : token_of r.script t k ≡ Some (what.Visit t k d) = ap₂ (λ a c. token_of r.script a c) (sym (b.origin ∙ to)) (sym op_is) ∙ b.token ∙ ap Some same in
        ap (λ z. by.Visit (marks_in z)) (load ∙ ap (λ z. loaded r z n) same)
        ∙ sym (ap (λ (i : Option ℕ). elim i [ None ↦ by.Visit [] | Some e ↦ by.Visit (filter_map (mark_of r (what.Visit t k e) e) (runners r (what.Visit t k e))) ]) (visit_image r.script t k d client token))
    visit_results_are k x (what.Cast o j) b e load = let wrong : ◌≡◌ {A = Option (ℕ × ℕ)} None (Some (t, k)) = ap visited e in cc
    visit_results_are k x _ b e load = cc

    cast_results_are : (k : ℕ) (x : Letter) (w : What) → completion w ≡ (t, what.Casted k) ∷ [] → x.load ≡ loaded r w n → by.Cast (threads_in x.load) ≡ by.Cast (runners r (what.Cast t k))
    cast_results_are k x (what.Cast o j) e load =
        let pairs : ◌≡◌ {A = Option (ℕ × ℕ)} (Some (o, j)) (Some (t, k)) = ap casted e in
        let to : o ≡ t = ap (λ (q : Option (ℕ × ℕ)). elim q [ None ↦ 0 | Some p ↦ p.0 ]) pairs in
        let op_is : j ≡ k = ap (λ (q : Option (ℕ × ℕ)). elim q [ None ↦ 0 | Some p ↦ p.1 ]) pairs in
        ap (λ z. by.Cast (threads_in z)) (load ∙ ap (λ z. loaded r z n) (ap₂ (λ a c. what.Cast a c) to op_is))
    cast_results_are k x (what.Visit o j d) e load = let wrong : ◌≡◌ {A = Option (ℕ × ℕ)} None (Some (t, k)) = ap casted e in cc
    cast_results_are k x _ e load = cc

    results_are : (i : ℕ) (x : Letter) → slice_get l.ran i ≡ Some x → results_in x ≡ seen_by r t x.tag
    results_are i x e = on x.tag.what refl
      where
        on : (v : What) → x.tag.what ≡ v
            → ◌≡◌ {A = Option Seen} (elim v [ what.Visited k ↦ Some (record { op = k; results = by.Visit (marks_in x.load) }) | what.Casted k ↦ Some (record { op = k; results = by.Cast (threads_in x.load) }) | _ ↦ None ])
            (elim v [ what.Visited k ↦ Some (record { op = k; results = visit_results r t k }) | what.Casted k ↦ Some (record { op = k; results = by.Cast (runners r (what.Cast t k)) }) | _ ↦ None ])
        on (what.Visited k) is =
            let back = of_sender t x (ap is_back is) (sent_from r logs whole t l at i x e) in
            ap (λ z. Some (record { op = k; results = z })) (visit_results_are k x back.token back.begun (back.completes ∙ ap (λ v. (t, v) ∷ []) is) back.brought)
        on (what.Casted k) is =
            let back = of_sender t x (ap is_back is) (sent_from r logs whole t l at i x e) in
            ap (λ z. Some (record { op = k; results = z })) (cast_results_are k x back.token (back.completes ∙ ap (λ v. (t, v) ∷ []) is) back.brought)
        on _ is = refl

pub of_each : {Y : Type 0} (f : Letter → Option Y) (g : Tag → Option Y) (ls : List Letter) → ((i : ℕ) (x : Letter) → slice_get ls i ≡ Some x → f x ≡ g x.tag) → filter_map f ls ≡ filter_map g (map (λ x. x.tag) ls)
of_each f g [] same = refl
of_each f g (x ∷ ls) same = ap₂ cons_option (same 0 x refl) (of_each f g ls (λ i y e. same (suc i) y e))

pub visits_seen : (r : Record) (logs : List Log) → IsWholeRun r logs → VisitsSeen r
visits_seen r logs whole t client =
    let less = client_within r.script t client in
    let l = log_of r logs whole t less in
    of_log r logs whole (λ x. x.seen) t l.0 l.1
    ∙ (client_ended r logs whole t l.0 l.1 client).seen
    ∙ of_each results_in (seen_by r t) l.0.ran (results_are r logs whole t l.0 l.1 less client)
    ∙ ap (filter_map (seen_by r t)) ((ended r logs whole t l.0 l.1).tags ∙ sym (of_log r logs whole (λ x. x.ran) t l.0 l.1))
