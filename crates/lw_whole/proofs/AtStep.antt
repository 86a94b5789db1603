-- The step of a log at which a letter went out.
use Rattle.std.proofs.Common.{◌≡◌, ℕ, ◌+◌, ◌≤◌, Bool, true, false, cond, List, [], ◌∷◌, Some, refl, ap, ◌∙◌, arith, inl, inr, find}
use Rattle.std.specs.List.{list_all, flat_map, AllByRecursion}
use Rattle.std.proofs.lemmas.Bool.{and_parts}
use Rattle.lw_base.specs.declared.message.What.{What}
use Rattle.lw_model.specs.declared.script.Script.{Script}
use Rattle.lw_model.specs.declared.step.Step.{Step}
use Rattle.lw_model.specs.OwnOrder.{with_past}
use Rattle.lw_whole.specs.Letters.{Letter}
use Rattle.lw_whole.specs.Logs.{Log, without_callbacks, steps, steps_with_past}
use Rattle.lw_whole.specs.Sends.{SentBy, SentAlong}
use Rattle.lw_whole.proofs.Steps.{Stands, all_stand}
use Rattle.lw_whole.proofs.Flow.{count_at}
use Rattle.lw_whole.proofs.TokenCounts.{dests, outs, count_at-append}
use Rattle.lw_whole.proofs.TokenRuns.{count_of}
use Rattle.lw_whole.proofs.TokenBack.{Among, among_either}

-- a step that sent one of these letters
pub record AtStep (s : Script) (t : ℕ) (l : Log) (P : ℕ × Letter → Type 0) : Type 0 where
  pub past : List Step
  pub this : Step
  pub now : List (ℕ × Letter)
  pub sent : SentBy s t l past this now
  pub among : Among P now
  pub stands : Stands (without_callbacks l.lines) this
  -- what it passes alone, it is the first to pass
  pub found : (q : Step → Bool) → q this ≡ true → count_of q (steps l) ≤ 1 → find (λ p. q p.1) (steps_with_past l) ≡ Some (past, this)
  pub counted : (q : Step → Bool) → q this ≡ true → 1 ≤ count_of q (steps l)
  -- what holds of each step holds of it
  pub each : (f : List Step → Step → Bool) → list_all (λ p. f p.0 p.1) (steps_with_past l) ≡ true → f past this ≡ true
  -- what it sent is of what all steps sent
  pub out : (q : Step → Bool) (n : ℕ) (w : What) (v : ℕ) → q this ≡ true → count_at v (dests n w now) ≤ count_at v (outs q n w (steps_with_past l) l.sends)

module _ (s : Script) (t : ℕ) (l : Log) (P : ℕ × Letter → Type 0) where
  walk : (past rest : List Step) (sends : List (List (ℕ × Letter))) → SentAlong s t l (with_past past rest) sends → Among P (flat_map (λ now. now) sends) → AllByRecursion (Stands (without_callbacks l.lines)) rest
      → ((q : Step → Bool) → count_of q past ≡ 0 → find (λ p. q p.1) (steps_with_past l) ≡ find (λ p. q p.1) (with_past past rest))
      → ((q : Step → Bool) → count_of q past + count_of q rest ≡ count_of q (steps l))
      → ((f : List Step → Step → Bool) → list_all (λ p. f p.0 p.1) (steps_with_past l) ≡ true → list_all (λ p. f p.0 p.1) (with_past past rest) ≡ true)
      → ((q : Step → Bool) (n : ℕ) (w : What) (v : ℕ) → count_at v (outs q n w (with_past past rest) sends) ≤ count_at v (outs q n w (steps_with_past l) l.sends))
      → AtStep s t l P
  walk past [] [] h g stand first count every out = absurd g
  walk past [] (now ∷ sends) h g stand first count every out = absurd h
  walk past (x ∷ rest) [] h g stand first count every out = absurd h
  walk past (x ∷ rest) (now ∷ sends) h g stand first count every out = elim (among_either P now (flat_map (λ now. now) sends) g) [
    | inl here ↦ record {
      past = past;
      this = x;
      now = now;
      sent = h.0;
      among = here;
      stands = stand.0;
      found = λ q e one. first q (omega (arith, count q, one, ap {B = ℕ} (λ b. cond b 1 0) e)) ∙ ap (λ b. cond b (Some (past, x)) (find (λ p. q p.1) (with_past (x ∷ past) rest))) e;
      counted = λ q e. omega (arith, count q, ap {B = ℕ} (λ b. cond b 1 0) e);
      each = λ f e. (and_parts (f past x) (list_all (λ p. f p.0 p.1) (with_past (x ∷ past) rest)) (every f e)).0;
      out = λ q n w v e. omega (
        arith,
        out q n w v,
        count_at-append v (cond (q x) (dests n w now) []) (outs q n w (with_past (x ∷ past) rest) sends),
        ap (λ b. count_at v (cond b (dests n w now) [])) e,
      );
    }
    | inr later ↦ walk (x ∷ past) rest sends h.1 later stand.1
        (λ q none. first q (omega (arith, none)) ∙ skip q (q x) none)
        (λ q. omega (arith, count q))
        (λ f e. (and_parts (f past x) (list_all (λ p. f p.0 p.1) (with_past (x ∷ past) rest)) (every f e)).1)
        (λ q n w v. omega (arith, out q n w v, count_at-append v (cond (q x) (dests n w now) []) (outs q n w (with_past (x ∷ past) rest) sends)))
  ]
    where
      skip : (q : Step → Bool) (b : Bool) → cond b 1 0 + count_of q past ≡ 0
          → cond b (Some (past, x)) (find (λ p. q p.1) (with_past (x ∷ past) rest)) ≡ find (λ p. q p.1) (with_past (x ∷ past) rest)
      skip q true e = absurd (omega (arith, e))
      skip q false e = refl

  pub at_step : SentAlong s t l (steps_with_past l) l.sends → Among P (flat_map (λ now. now) l.sends) → AtStep s t l P
  at_step h g = walk [] (steps l) l.sends h g (all_stand (without_callbacks l.lines)) (λ q none. refl) (λ q. omega arith) (λ f e. e) (λ q n w v. omega arith)
