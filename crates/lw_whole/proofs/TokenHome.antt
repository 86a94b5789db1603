-- A token that was started came home: its origin ended, so it ran the completion, which was sent behind the last thread.
use Rattle.std.proofs.Common.{◌≡◌, ℕ, ◌+◌, ◌<◌, ◌≤◌, ◌==◌, nat_le, Bool, true, false, cond, ◌&&◌, List, [], ◌∷◌, ◌++◌, length, Option, Some, None, refl, sym, ap, subst, ◌∙◌, arith}
use Rattle.std.specs.Prelude.{is_none}
use Rattle.std.specs.List.{list_all}
use Rattle.std.proofs.lemmas.Bool.{and_parts, eqb-true, false≢true}
use Rattle.std.proofs.lemmas.Option.{slice_get_within}
use Rattle.lw_base.specs.declared.message.What.{What}
use Rattle.lw_base.specs.declared.message.What.TheVariants as what
use Rattle.lw_model.specs.declared.script.Script.{Script}
use Rattle.lw_model.specs.declared.script.Op.{Op}
use Rattle.lw_model.specs.declared.script.Op.TheVariants as op
use Rattle.lw_model.specs.declared.step.Step.{Step}
use Rattle.lw_model.specs.declared.step.Step.TheVariants as step
use Rattle.lw_model.specs.Threads.{ops_of, op_at}
use Rattle.lw_model.specs.OwnOrder.{with_past}
use Rattle.lw_model.specs.Holding.{runs}
use Rattle.lw_model.specs.Answers.{completes, answer_fits, depth_fits}
use Rattle.lw_model.specs.Sent.{token_of, token_of_op}
use Rattle.lw_whole.specs.Letters.{Letter}
use Rattle.lw_whole.specs.Lines.{awaits, is_a_did, dids_in, client_line_fits}
use Rattle.lw_whole.proofs.Answers.{one_more, one_ran, one_called}
use Rattle.lw_whole.proofs.TokenCounts.{starts, dests, outs}
use Rattle.lw_whole.proofs.TokenRuns.{count_of}
use Rattle.lw_whole.proofs.TokenFlow.{op_of, starts_at}

-- ---- the origin runs the completion

-- a client that awaits a completion and lists something yet runs the completion
await_run : (s : Script) (t k : ℕ) (past rest : List Step) → awaits s t past ≡ Some k → list_all (λ p. client_line_fits s t p.0 p.1) (with_past past rest) ≡ true → 1 ≤ count_of is_a_did rest
    → 1 ≤ count_of (runs (completes (op_at s t k) k)) rest
await_run s t k past [] e fits some = absurd (omega (arith, some))
await_run s t k past (step.Did i x ∷ rest) e fits some =
    let both = and_parts (client_line_fits s t past (step.Did i x)) (list_all (λ p. client_line_fits s t p.0 p.1) (with_past (step.Did i x ∷ past) rest)) fits in
    let free = (and_parts (i == dids_in past && x.op == i && nat_le i (length (ops_of s t)) && answer_fits s t past (op_at s t i) x.answer && depth_fits s t past x.answer) (is_none (awaits s t past)) both.0).1 in
    absurd (false≢true (sym (ap (λ (o : Option ℕ). is_none o) e) ∙ free))
await_run s t k past (step.Called i x ∷ rest) e fits some = omega (arith, await_run s t k (step.Called i x ∷ past) rest e fits (omega (arith, some)))
await_run s t k past (step.Ran i m ∷ rest) e fits some = at (completes (op_at s t k) k m.what) refl (λ f. await_run s t k (step.Ran i m ∷ past) rest f fits (omega (arith, some)))
  where
    at : (b : Bool) → completes (op_at s t k) k m.what ≡ b → (awaits s t (step.Ran i m ∷ past) ≡ Some k → 1 ≤ count_of (runs (completes (op_at s t k) k)) rest) → 1 ≤ cond b 1 0 + count_of (runs (completes (op_at s t k) k)) rest
    at true f go = omega arith
    at false f go = omega (
      arith,
      go (ap (λ (o : Option ℕ). elim o as (λ z. Option ℕ) [ None ↦ None | Some j ↦ cond (completes (op_at s t j) j m.what) None (Some j) ]) e ∙ ap (λ b. cond b None (Some k)) f),
    )

-- what completes the op that starts w is its completion
abbrev pub back : What → What
back (what.Visit o k d) = what.Visited k
back (what.Cast o k) = what.Casted k
back w = w

pub completes_back : (t k : ℕ) (o : Option Op) (w v : What) → elim o [ None ↦ None | Some x ↦ token_of_op t k x ] ≡ Some w → completes o k v ≡ true → v ≡ back w
completes_back t k None w v e f = cc
completes_back t k (Some (op.Visit d)) w (what.Visited j) e f =
    let is : what.Visit t k d ≡ w = cc in ap what.Visited (eqb-true j k (and_parts (j == k) true f).0) ∙ ap back is
completes_back t k (Some op.Each) w (what.Casted j) e f =
    let is : what.Cast t k ≡ w = cc in ap what.Casted (eqb-true j k (and_parts (j == k) true f).0) ∙ ap back is
completes_back t k (Some (op.Visit d)) w (what.Casted j) e f = absurd (false≢true (sym (no_right (j == k)) ∙ f))
  where
    no_right : (b : Bool) → (b && false) ≡ false
    no_right true = refl
    no_right false = refl
completes_back t k (Some op.Each) w (what.Visited j) e f = absurd (false≢true (sym (no_right (j == k)) ∙ f))
  where
    no_right : (b : Bool) → (b && false) ≡ false
    no_right true = refl
    no_right false = refl
completes_back t k (Some (op.Visit d)) w (what.Request j) e f = absurd (false≢true f)
completes_back t k (Some (op.Visit d)) w (what.Reply j) e f = absurd (false≢true f)
completes_back t k (Some (op.Visit d)) w (what.PutSelf j) e f = absurd (false≢true f)
completes_back t k (Some (op.Visit d)) w (what.Visit a b c) e f = absurd (false≢true f)
completes_back t k (Some (op.Visit d)) w (what.Cast a b) e f = absurd (false≢true f)
completes_back t k (Some (op.Visit d)) w what.Done e f = absurd (false≢true f)
completes_back t k (Some (op.Visit d)) w what.Stop e f = absurd (false≢true f)
completes_back t k (Some (op.Visit d)) w (what.Arrive a b) e f = absurd (false≢true f)
completes_back t k (Some (op.Visit d)) w (what.Order a b c) e f = absurd (false≢true f)
completes_back t k (Some op.Each) w (what.Request j) e f = absurd (false≢true f)
completes_back t k (Some op.Each) w (what.Reply j) e f = absurd (false≢true f)
completes_back t k (Some op.Each) w (what.PutSelf j) e f = absurd (false≢true f)
completes_back t k (Some op.Each) w (what.Visit a b c) e f = absurd (false≢true f)
completes_back t k (Some op.Each) w (what.Cast a b) e f = absurd (false≢true f)
completes_back t k (Some op.Each) w what.Done e f = absurd (false≢true f)
completes_back t k (Some op.Each) w what.Stop e f = absurd (false≢true f)
completes_back t k (Some op.Each) w (what.Arrive a b) e f = absurd (false≢true f)
completes_back t k (Some op.Each) w (what.Order a b c) e f = absurd (false≢true f)
completes_back t k (Some (op.Get d)) w v e f = cc
completes_back t k (Some (op.Put d)) w v e f = cc
completes_back t k (Some (op.Write d a b c)) w v e f = cc
completes_back t k (Some (op.Read d a b)) w v e f = cc
completes_back t k (Some (op.Flush d)) w v e f = cc
completes_back t k (Some (op.Wait d)) w v e f = cc
completes_back t k (Some (op.Unregister d)) w v e f = cc

-- what went out was sent at steps that pass
pub outs_some : (p : Step → Bool) (n : ℕ) (w : What) (past rest : List Step) (sends : List (List (ℕ × Letter))) → 1 ≤ length (outs p n w (with_past past rest) sends) → 1 ≤ count_of p rest
outs_some p n w past [] sends h = absurd (omega (arith, h))
outs_some p n w past (x ∷ rest) [] h = absurd (omega (arith, h))
outs_some p n w past (x ∷ rest) (now ∷ sends) h = at (p x) h (λ more. outs_some p n w (x ∷ past) rest sends more)
  where
    at : (b : Bool) → 1 ≤ length (cond b (dests n w now) [] ++ outs p n w (with_past (x ∷ past) rest) sends) → (1 ≤ length (outs p n w (with_past (x ∷ past) rest) sends) → 1 ≤ count_of p rest) → 1 ≤ cond b 1 0 + count_of p rest
    at true h go = omega arith
    at false h go = omega (arith, go h)

pub none_pass : (p : Step → Bool) → ((x : Step) → p x ≡ false) → (ss : List Step) → count_of p ss ≡ 0
none_pass p never [] = refl
none_pass p never (x ∷ ss) = omega (arith, ap {B = ℕ} (λ b. cond b 1 0) (never x), none_pass p never ss)

module _ (s : Script) (t : ℕ) (w : What) where
  abbrev Goal : List Step → Type 0
  Goal rest = (token_of s t (op_of w) ≡ Some w) × (1 ≤ count_of (runs (completes (op_at s t (op_of w)) (op_of w))) rest)

  -- behind the line that starts the token its completion is run
  pub start_run : (past rest : List Step) → dids_in past + count_of is_a_did rest ≡ length (ops_of s t) + 1 → list_all (λ p. client_line_fits s t p.0 p.1) (with_past past rest) ≡ true
      → 1 ≤ count_of (starts s t w) rest → (token_of s t (op_of w) ≡ Some w) × (1 ≤ count_of (runs (completes (op_at s t (op_of w)) (op_of w))) rest)
  start_run past [] total fits some = absurd (omega (arith, some))
  start_run past (x ∷ rest) total fits some =
      let both = and_parts (client_line_fits s t past x) (list_all (λ p. client_line_fits s t p.0 p.1) (with_past (x ∷ past) rest)) fits in
      at (starts s t w x) refl x refl both.0 both.1 some (λ more. start_run (x ∷ past) rest (step_total x total) both.1 more)
    where
      step_total : (x : Step) → dids_in past + count_of is_a_did (x ∷ rest) ≡ length (ops_of s t) + 1 → dids_in (x ∷ past) + count_of is_a_did rest ≡ length (ops_of s t) + 1
      step_total (step.Did i d) h = omega (arith, h, one_more i d past)
      step_total (step.Called i d) h = omega (arith, h, one_called i d past)
      step_total (step.Ran i m) h = omega (arith, h, one_ran i m past)

      wider : (x : Step) → Goal rest → Goal (x ∷ rest)
      wider x g = (g.0, omega (arith, g.1))

      at : (b : Bool) → starts s t w x ≡ b → (y : Step) → x ≡ y → client_line_fits s t past x ≡ true → list_all (λ p. client_line_fits s t p.0 p.1) (with_past (x ∷ past) rest) ≡ true
          → 1 ≤ cond b 1 0 + count_of (starts s t w) rest → (1 ≤ count_of (starts s t w) rest → Goal rest) → Goal (x ∷ rest)
      at false e y is fits more some go = wider x (go (omega (arith, some)))
      at true e (step.Did i d) is fits more some go =
          let f = starts_at s t w i d (subst (λ z. starts s t w z ≡ true) is e) in
          let token : token_of s t (op_of w) ≡ Some w = ap (token_of s t) (sym f.1) ∙ f.4 in
          let fits' = subst (λ z. client_line_fits s t past z ≡ true) is fits in
          let place : i ≡ dids_in past = eqb-true i (dids_in past) (and_parts (i == dids_in past) (d.op == i) (and_parts (i == dids_in past && d.op == i) (nat_le i (length (ops_of s t))) (and_parts (i == dids_in past && d.op == i && nat_le i (length (ops_of s t))) (answer_fits s t past (op_at s t i) d.answer) (and_parts (i == dids_in past && d.op == i && nat_le i (length (ops_of s t)) && answer_fits s t past (op_at s t i) d.answer) (depth_fits s t past d.answer) (and_parts (i == dids_in past && d.op == i && nat_le i (length (ops_of s t)) && answer_fits s t past (op_at s t i) d.answer && depth_fits s t past d.answer) (is_none (awaits s t past)) fits').0).0).0).0).0 in
          let op_is : d.op ≡ i = eqb-true d.op i (and_parts (i == dids_in past) (d.op == i) (and_parts (i == dids_in past && d.op == i) (nat_le i (length (ops_of s t))) (and_parts (i == dids_in past && d.op == i && nat_le i (length (ops_of s t))) (answer_fits s t past (op_at s t i) d.answer) (and_parts (i == dids_in past && d.op == i && nat_le i (length (ops_of s t)) && answer_fits s t past (op_at s t i) d.answer) (depth_fits s t past d.answer) (and_parts (i == dids_in past && d.op == i && nat_le i (length (ops_of s t)) && answer_fits s t past (op_at s t i) d.answer && depth_fits s t past d.answer) (is_none (awaits s t past)) fits').0).0).0).0).1 in
          let within : op_of w < length (ops_of s t) = op_within (op_at s t (op_of w)) refl token in
          let rest_total : dids_in past + count_of is_a_did (step.Did i d ∷ rest) ≡ length (ops_of s t) + 1 = subst (λ z. dids_in past + count_of is_a_did (z ∷ rest) ≡ length (ops_of s t) + 1) is total in
          let waits : awaits s t (x ∷ past) ≡ Some (op_of w) = ap (λ z. awaits s t (z ∷ past)) is ∙ ap (λ b. cond b (Some d.op) None) f.3 ∙ ap Some f.1 in
          wider x (token, await_run s t (op_of w) (x ∷ past) rest waits more (omega (arith, rest_total, place, op_is, f.1, within)))
        where
          op_within : (o : Option Op) → op_at s t (op_of w) ≡ o → elim o [ None ↦ None | Some y ↦ token_of_op t (op_of w) y ] ≡ Some w → op_of w < length (ops_of s t)
          op_within None e f = cc
          op_within (Some y) e f = slice_get_within (ops_of s t) (op_of w) y e
      at true e (step.Called i d) is fits more some go = absurd (false≢true (subst (λ z. starts s t w z ≡ true) is e))
      at true e (step.Ran i m) is fits more some go = absurd (false≢true (subst (λ z. starts s t w z ≡ true) is e))
