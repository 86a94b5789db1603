-- Whether a step that passes came since another is told by when each of the two last came.
use Rattle.std.proofs.Common.{◌≡◌, ℕ, suc, ◌+◌, slice_get, ◌≤◌, ◌==◌, nat_lt, Bool, true, false, not, cond, ◌&&◌, ◌||◌, List, [], ◌∷◌, length, take_while, Option, Some, None, refl, sym, ap, ap₂, ◌∙◌, arith}
use Rattle.std.specs.List.{list_any}
use Rattle.std.proofs.lemmas.Bool.{lt-ltb, le-ltb, true≢false}
use Rattle.std.proofs.lemmas.List.Sums.{take_while-cons}
use Rattle.lw_base.specs.declared.message.What.{What}
use Rattle.lw_base.specs.declared.message.What.TheVariants as what
use Rattle.lw_model.specs.declared.script.Op.{Op}
use Rattle.lw_model.specs.declared.script.Op.TheVariants as op
use Rattle.lw_model.specs.declared.step.Step.{Step}
use Rattle.lw_model.specs.declared.step.Step.TheVariants as step
use Rattle.lw_model.specs.Holding.{runs}
use Rattle.lw_model.specs.declared.record.Record.{Record}
use Rattle.lw_model.specs.declared.record.Did.{Did}
use Rattle.lw_model.specs.Threads.{did_of}
use Rattle.lw_model.specs.Answers.{completes, is_did, is_completed, earlier_completed}
use Rattle.lw_judge_answers.specs.CompletionsAt.{last_where}

last_where-le : (p : Step → Bool) (past : List Step) → last_where p past ≤ length past
last_where-le p [] = omega arith
last_where-le p (s ∷ past) = at (p s) (last_where-le p past)
  where
    at : (b : Bool) → last_where p past ≤ length past → cond b (length past + 1) (last_where p past) ≤ suc (length past)
    at true h = omega arith
    at false h = omega (arith, h)

last_where-never : (p : Step → Bool) → ((s : Step) → p s ≡ false) → (past : List Step) → last_where p past ≡ 0
last_where-never p never [] = refl
last_where-never p never (s ∷ past) = ap₂ (λ b n. cond b (length past + 1) n) (never s) (last_where-never p never past)

-- p and q hold of no step both
pub came_since : (p q : Step → Bool) → ((s : Step) → p s ≡ true → q s ≡ false) → (past : List Step) → list_any p (take_while (λ s. not (q s)) past) ≡ nat_lt (last_where q past) (last_where p past)
came_since p q apart [] = refl
came_since p q apart (s ∷ past) = ap (list_any p) (take_while-cons (λ s. not (q s)) s past) ∙ at (q s) (p s) refl refl (came_since p q apart past)
  where
    rest : List Step
    rest = take_while (λ s. not (q s)) past

    at : (b d : Bool) → q s ≡ b → p s ≡ d → list_any p (take_while (λ s. not (q s)) past) ≡ nat_lt (last_where q past) (last_where p past)
        → list_any p (cond (not b) (s ∷ take_while (λ s. not (q s)) past) []) ≡ nat_lt (cond b (length past + 1) (last_where q past)) (cond d (length past + 1) (last_where p past))
    at true true e f more = absurd (true≢false (sym e ∙ apart s f))
    at true false e f more = sym (le-ltb (length past + 1) (last_where p past) (omega (arith, last_where-le p past)))
    at false true e f more = ap (λ b. b || list_any p (take_while (λ s. not (q s)) past)) f ∙ sym (lt-ltb (last_where q past) (length past + 1) (omega (arith, last_where-le q past)))
    at false false e f more = ap (λ b. b || list_any p (take_while (λ s. not (q s)) past)) f ∙ more

-- what is run is no `did` line
pub runs_no_did : (passes : What → Bool) (i : ℕ) (s : Step) → runs passes s ≡ true → is_did i s ≡ false
runs_no_did passes i (step.Did j x) e = absurd (true≢false (sym e))
runs_no_did passes i (step.Called j x) e = refl
runs_no_did passes i (step.Ran j m) e = refl

-- ---- What completes an op

and_false : (b : Bool) → false ≡ (b && false)
and_false true = refl
and_false false = refl

nothing_completes : (k : ℕ) (o : Option Op) → ((w : What) → completes o k w ≡ false) → (past : List Step) → last_where (runs (completes o k)) past ≡ 0
nothing_completes k o none past = last_where-never (runs (completes o k)) never past
  where
    never : (s : Step) → runs (completes o k) s ≡ false
    never (step.Did i x) = refl
    never (step.Called i x) = refl
    never (step.Ran i m) = none m.what

pub no_op_completed : (k : ℕ) (past : List Step) → last_where (runs (completes None k)) past ≡ 0
no_op_completed k past = nothing_completes k None (λ w. refl) past

idle : (k : ℕ) (o : Op) → (elim o [ op.Visit d ↦ true | _ ↦ false ]) ≡ false → (elim o [ op.Each ↦ true | _ ↦ false ]) ≡ false → (w : What) → completes (Some o) k w ≡ false
idle k o e f (what.Visited j) = ap (λ b. j == k && b) e ∙ sym (and_false (j == k))
idle k o e f (what.Casted j) = ap (λ b. j == k && b) f ∙ sym (and_false (j == k))
idle k o e f (what.Request j) = refl
idle k o e f (what.Reply j) = refl
idle k o e f (what.PutSelf d) = refl
idle k o e f (what.Visit i j d) = refl
idle k o e f (what.Cast i j) = refl
idle k o e f what.Done = refl
idle k o e f what.Stop = refl
idle k o e f (what.Arrive n t) = refl
idle k o e f (what.Order n t to) = refl

-- an op that is neither a visit nor a cast
pub other_completed : (k : ℕ) (o : Op) (past : List Step) → ((d : ℕ) → o ≡ op.Visit d → ⊥) → (o ≡ op.Each → ⊥) → last_where (runs (completes (Some o) k)) past ≡ 0
other_completed k o past no_visit no_cast = nothing_completes k (Some o) (none o no_visit no_cast) past
  where
    none : (o : Op) → ((d : ℕ) → o ≡ op.Visit d → ⊥) → (o ≡ op.Each → ⊥) → (w : What) → completes (Some o) k w ≡ false
    none (op.Visit d) no_visit no_cast w = absurd (no_visit d refl)
    none op.Each no_visit no_cast w = absurd (no_cast refl)
    none (op.Get d) no_visit no_cast w = idle k (op.Get d) refl refl w
    none (op.Put d) no_visit no_cast w = idle k (op.Put d) refl refl w
    none (op.Write d start count pattern) no_visit no_cast w = idle k (op.Write d start count pattern) refl refl w
    none (op.Read d start count) no_visit no_cast w = idle k (op.Read d start count) refl refl w
    none (op.Flush d) no_visit no_cast w = idle k (op.Flush d) refl refl w
    none (op.Wait ticks) no_visit no_cast w = idle k (op.Wait ticks) refl refl w
    none (op.Unregister d) no_visit no_cast w = idle k (op.Unregister d) refl refl w

-- ---- The line before another

pub earlier_line : (r : Record) (t : ℕ) (past : List Step) (i j : ℕ) (x : Did) → i ≡ j + 1 → slice_get (did_of r t) j ≡ Some x → is_completed r.script t past j x ≡ earlier_completed r t past i
earlier_line r t past i j x next is = sym (ap (earlier_completed r t past) behind ∙ ap (λ (o : Option Did). elim o [ None ↦ true | Some y ↦ is_completed r.script t past j y ]) is)
  where
    behind : i ≡ suc j
    behind = omega (arith, next)

pub no_earlier_line : (r : Record) (t : ℕ) (past : List Step) (i j : ℕ) → i ≡ j + 1 → slice_get (did_of r t) j ≡ None → true ≡ earlier_completed r t past i
no_earlier_line r t past i j next is = sym (ap (earlier_completed r t past) behind ∙ ap (λ (o : Option Did). elim o [ None ↦ true | Some y ↦ is_completed r.script t past j y ]) is)
  where
    behind : i ≡ suc j
    behind = omega (arith, next)
