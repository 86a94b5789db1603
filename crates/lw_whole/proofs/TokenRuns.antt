-- The counts of a token in a whole run: what goes on from a thread was run there, and what was run had been sent.
use Rattle.std.proofs.Common.{◌≡◌, ℕ, ◌+◌, ◌<◌, ◌≤◌, nat_le, Bool, true, false, cond, ◌&&◌, List, [], ◌∷◌, ◌++◌, map, length, Option, Some, None, refl, sym, ap, subst, ◌∙◌, arith, inl, inr}
use Rattle.std.specs.List.{AllByRecursion, enumerate_from}
use Rattle.std.proofs.lemmas.Bool.{false≢true}
use Rattle.lw_base.specs.declared.message.Tag.{Tag}
use Rattle.lw_base.specs.declared.message.What.{What}
use Rattle.lw_base.specs.declared.message.What.TheVariants as what
use Rattle.lw_model.specs.declared.script.Script.{Script}
use Rattle.lw_model.specs.declared.record.Did.{Did}
use Rattle.lw_model.specs.declared.record.Answer.{Answer}
use Rattle.lw_model.specs.declared.record.Answer.TheVariants as answer
use Rattle.lw_model.specs.declared.step.Step.{Step}
use Rattle.lw_model.specs.declared.step.Step.TheVariants as step
use Rattle.lw_model.specs.Threads.{is_client}
use Rattle.lw_model.specs.OwnOrder.{put_in, in_order, at_of, with_past}
use Rattle.lw_model.specs.Holding.{runs, is_started}
use Rattle.lw_model.specs.Sent.{is_same_token, token_of, completion}
use Rattle.lw_model.proofs.Growth.{dids, rans}
use Rattle.lw_whole.specs.Letters.{Letter, Load}
use Rattle.lw_whole.specs.Logs.{Log, addressed, load_at, steps}
use Rattle.lw_whole.specs.Tokens.{GoesOn, empty_load, load_behind}
use Rattle.lw_whole.specs.Sends.{Sets, SentByDid, SentByRan, SentBy, SentAlong}
use Rattle.lw_whole.specs.Lines.{is_a_did}
use Rattle.lw_whole.proofs.TokenCounts.{Either, same_is, NoneIs, not_completion, starts, dests, outs, D_of}

-- ---- what a token's step sends

abbrev pub Token : What → Type 0
Token w = is_same_token w w ≡ true

same_self : (w v : What) → is_same_token w v ≡ true → is_same_token v v ≡ true
same_self w v e = subst (λ z. is_same_token z v ≡ true) (sym (same_is w v e)) e

pub length_append : {X : Type 0} (xs ys : List X) → length (xs ++ ys) ≡ length xs + length ys
length_append [] ys = omega arith
length_append (x ∷ xs) ys = omega (arith, length_append xs ys)

-- a message that is the token goes on from the next thread
pub ran_goes : (s : Script) (t : ℕ) (l : Log) (w : What) (past : List Step) (i : ℕ) (m : Tag) (now : List (ℕ × Letter)) → is_same_token w m.what ≡ true → SentByRan s t l past i m now
    → GoesOn s w (t + 1) (load_behind s t past w (load_at l i)) now
ran_goes s t l w past i m now e h = at m.what e h
  where
    at : (v : What) → is_same_token w v ≡ true → SentByRan s t l past i (record { sender = m.sender; number = m.number; what = v }) now → GoesOn s w (t + 1) (load_behind s t past w (load_at l i)) now
    at (what.Visit o k d) e h = subst (λ v. GoesOn s v (t + 1) (load_behind s t past v (load_at l i)) now) (same_is w (what.Visit o k d) e) h
    at (what.Cast o k) e h = subst (λ v. GoesOn s v (t + 1) (load_behind s t past v (load_at l i)) now) (same_is w (what.Cast o k) e) h
    at v e h = absurd (false≢true (same_self w v e))

-- a line that starts the token sends it to the first thread
pub started_goes : (s : Script) (t : ℕ) (l : Log) (w : What) (past : List Step) (x : Step) (now : List (ℕ × Letter)) → starts s t w x ≡ true → SentBy s t l past x now → GoesOn s w 0 (empty_load w) now
started_goes s t l w past (step.Did i x) now e h = client (is_client s t) e h
  where
    token : (o : Option What) → elim o [ None ↦ false | Some v ↦ is_same_token w v ] ≡ true → Sets s o now → GoesOn s w 0 (empty_load w) now
    token None e h = absurd (false≢true e)
    token (Some v) e h = subst (λ z. GoesOn s z 0 (empty_load z) now) (same_is w v e) h

    line : (at k : ℕ) (a : Answer) → (is_started a && elim (token_of s t k) [ None ↦ false | Some v ↦ is_same_token w v ]) ≡ true → SentByDid s t past (record { at = at; op = k; answer = a }) now → GoesOn s w 0 (empty_load w) now
    line at k answer.Started e h = token (token_of s t k) e h
    line at k _ e h = absurd (false≢true e)

    client : (b : Bool) → (b && is_started x.answer && elim (token_of s t x.op) [ None ↦ false | Some v ↦ is_same_token w v ]) ≡ true → Either b (SentByDid s t past x now) (now ≡ []) → GoesOn s w 0 (empty_load w) now
    client true e h = line x.at x.op x.answer e h
    client false e h = absurd (false≢true e)
started_goes s t l w past (step.Called i x) now e h = absurd (false≢true e)
started_goes s t l w past (step.Ran i m) now e h = absurd (false≢true e)

pub goes_few : (s : Script) (w : What) (n from : ℕ) (load : Load) (now : List (ℕ × Letter)) → GoesOn s w from load now → length (dests n w now) ≤ 1
goes_few s w n from load [] h = omega arith
goes_few s w n from load (p ∷ []) h = omega arith
goes_few s w n from load (p ∷ q ∷ rest) h = absurd h

-- whom it goes to is not below; home is above all
pub goes_up : (s : Script) (w : What) → Token w → (n from : ℕ) → from ≤ n → (load : Load) (now : List (ℕ × Letter)) → GoesOn s w from load now → AllByRecursion (λ u. from ≤ u) (dests n w now)
goes_up s w tok n from le load [] h = tt
goes_up s w tok n from le load (p ∷ []) (inl to) = (subst (λ u. from ≤ u) (sym (ap {B = ℕ} (λ v. cond (is_same_token w v) p.0 n) to.token ∙ ap {B = ℕ} (λ b. cond b p.0 n) tok)) to.above, tt)
goes_up s w tok n from le load (p ∷ []) (inr home) = (subst (λ u. from ≤ u) (sym (ap {B = ℕ} (λ b. cond b p.0 n) (none_first (not_completion w w)))) le, tt)
  where
    none_first : NoneIs w (completion w) → is_same_token w p.1.tag.what ≡ false
    none_first h = let both : NoneIs w (addressed (p ∷ [])) = subst (NoneIs w) (sym home.completes) h in both.0
goes_up s w tok n from le load (p ∷ q ∷ rest) h = absurd h

-- ---- runs among steps

abbrev pub count_of : (Step → Bool) → List Step → ℕ
count_of p [] = 0
count_of p (x ∷ xs) = cond (p x) 1 0 + count_of p xs

count_put_in : (p : Step → Bool) (x : Step) (xs : List Step) → count_of p (put_in x xs) ≡ cond (p x) 1 0 + count_of p xs
count_put_in p x [] = refl
count_put_in p x (y ∷ xs) = at (nat_le (at_of x) (at_of y)) (count_put_in p x xs)
  where
    at : (b : Bool) → count_of p (put_in x xs) ≡ cond (p x) 1 0 + count_of p xs → count_of p (cond b (x ∷ y ∷ xs) (y ∷ put_in x xs)) ≡ cond (p x) 1 0 + (cond (p y) 1 0 + count_of p xs)
    at true e = refl
    at false e = omega (arith, e)

pub count_in_order : (p : Step → Bool) (xs : List Step) → count_of p (in_order xs) ≡ count_of p xs
count_in_order p [] = refl
count_in_order p (x ∷ xs) = omega (arith, count_put_in p x (in_order xs), count_in_order p xs)

pub count_of-append : (p : Step → Bool) (xs ys : List Step) → count_of p (xs ++ ys) ≡ count_of p xs + count_of p ys
count_of-append p [] ys = omega arith
count_of-append p (x ∷ xs) ys = omega (arith, count_of-append p xs ys)

-- how many messages pass
abbrev pub count_if : (What → Bool) → List Tag → ℕ
count_if q [] = 0
count_if q (m ∷ ms) = cond (q m.what) 1 0 + count_if q ms

abbrev pub count_tags : What → List Tag → ℕ
count_tags w ms = count_if (is_same_token w) ms

of_dids : (q : What → Bool) (n : ℕ) (xs : List Did) → count_of (runs q) (map (λ p. step.Did p.0 p.1) (enumerate_from n xs)) ≡ 0
of_dids q n [] = refl
of_dids q n (x ∷ xs) = omega (arith, of_dids q (n + 1) xs)

of_rans : (q : What → Bool) (n : ℕ) (ms : List Tag) → count_of (runs q) (map (λ p. step.Ran p.0 p.1) (enumerate_from n ms)) ≡ count_if q ms
of_rans q n [] = refl
of_rans q n (m ∷ ms) = omega (arith, of_rans q (n + 1) ms)

count_parts : (p : Step → Bool) (l : Log) → count_of p (steps l) ≡ count_of p (dids l.lines) + count_of p (rans l.lines)
count_parts p l =
    count_in_order p (dids l.lines ++ [] ++ rans l.lines)
    ∙ omega (arith, count_of-append p (dids l.lines ++ []) (rans l.lines), count_of-append p (dids l.lines) [])

pub count_steps : (q : What → Bool) (l : Log) → count_of (runs q) (steps l) ≡ count_if q l.lines.ran
count_steps q l = omega (arith, count_parts (runs q) l, of_dids q 0 l.lines.did, of_rans q 0 l.lines.ran)

lines_of : (n : ℕ) (xs : List Did) → count_of is_a_did (map (λ p. step.Did p.0 p.1) (enumerate_from n xs)) ≡ length xs
lines_of n [] = refl
lines_of n (x ∷ xs) = omega (arith, lines_of (n + 1) xs)

no_lines_of : (n : ℕ) (ms : List Tag) → count_of is_a_did (map (λ p. step.Ran p.0 p.1) (enumerate_from n ms)) ≡ 0
no_lines_of n [] = refl
no_lines_of n (m ∷ ms) = omega (arith, no_lines_of (n + 1) ms)

pub count_lines : (l : Log) → count_of is_a_did (steps l) ≡ length l.lines.did
count_lines l = omega (arith, count_parts is_a_did l, lines_of 0 l.lines.did, no_lines_of 0 l.lines.ran)

-- a step that starts or runs the token sends it once at most
pub run_few : (s : Script) (t : ℕ) (l : Log) (w : What) (n : ℕ) (past : List Step) (x : Step) (now : List (ℕ × Letter)) → SentBy s t l past x now
    → length (cond (runs (is_same_token w) x) (dests n w now) []) ≤ cond (runs (is_same_token w) x) 1 0
run_few s t l w n past (step.Did i d) now h = omega arith
run_few s t l w n past (step.Called i d) now h = omega arith
run_few s t l w n past (step.Ran i m) now h = at (is_same_token w m.what) refl
  where
    at : (b : Bool) → is_same_token w m.what ≡ b → length (cond b (dests n w now) []) ≤ cond b 1 0
    at true e = goes_few s w n (t + 1) _ now (ran_goes s t l w past i m now e h)
    at false e = omega arith

pub start_few : (s : Script) (t : ℕ) (l : Log) (w : What) (n : ℕ) (past : List Step) (x : Step) (now : List (ℕ × Letter)) → SentBy s t l past x now
    → length (cond (starts s t w x) (dests n w now) []) ≤ cond (starts s t w x) 1 0
start_few s t l w n past x now h = at (starts s t w x) refl
  where
    at : (b : Bool) → starts s t w x ≡ b → length (cond b (dests n w now) []) ≤ cond b 1 0
    at true e = goes_few s w n 0 _ now (started_goes s t l w past x now e h)
    at false e = omega arith

module _ (s : Script) (t : ℕ) (l : Log) (p : Step → Bool) (n : ℕ) (w : What)
    (few : (past : List Step) (x : Step) (now : List (ℕ × Letter)) → SentBy s t l past x now → length (cond (p x) (dests n w now) []) ≤ cond (p x) 1 0) where
  pub few_out : (past rest : List Step) (sends : List (List (ℕ × Letter))) → SentAlong s t l (with_past past rest) sends → length (outs p n w (with_past past rest) sends) ≤ count_of p rest
  few_out past [] sends h = omega arith
  few_out past (x ∷ rest) [] h = absurd h
  few_out past (x ∷ rest) (now ∷ sends) h =
      omega (arith, length_append (cond (p x) (dests n w now) []) (outs p n w (with_past (x ∷ past) rest) sends), few_out (x ∷ past) rest sends h.1, few past x now h.0)

module _ (s : Script) (t : ℕ) (l : Log) (w : What) (n : ℕ) (tok : Token w) (less : t < n) where
  -- each run sends it on to a thread above
  pub up_of : (past rest : List Step) (sends : List (List (ℕ × Letter))) → SentAlong s t l (with_past past rest) sends → AllByRecursion (λ u. t < u) (D_of s t l w n (with_past past rest) sends)
  up_of past [] sends h = tt
  up_of past (x ∷ rest) [] h = absurd h
  up_of past (x ∷ rest) (now ∷ sends) h = all_both (cond (runs (is_same_token w) x) (dests n w now) []) (D_of s t l w n (with_past (x ∷ past) rest) sends) (here x h.0) (up_of (x ∷ past) rest sends h.1)
    where
      all_both : (xs ys : List ℕ) → AllByRecursion (λ u. t < u) xs → AllByRecursion (λ u. t < u) ys → AllByRecursion (λ u. t < u) (xs ++ ys)
      all_both [] ys a b = b
      all_both (x ∷ xs) ys a b = (a.0, all_both xs ys a.1 b)

      weaker : (xs : List ℕ) → AllByRecursion (λ u. t + 1 ≤ u) xs → AllByRecursion (λ u. t < u) xs
      weaker [] h = tt
      weaker (x ∷ xs) h = (omega (arith, h.0), weaker xs h.1)

      here : (x : Step) → SentBy s t l past x now → AllByRecursion (λ u. t < u) (cond (runs (is_same_token w) x) (dests n w now) [])
      here (step.Did i d) h = tt
      here (step.Called i d) h = tt
      here (step.Ran i m) h = at (is_same_token w m.what) refl
        where
          at : (b : Bool) → is_same_token w m.what ≡ b → AllByRecursion (λ u. t < u) (cond b (dests n w now) [])
          at true e = weaker (dests n w now) (goes_up s w tok n (t + 1) (omega (arith, less)) _ now (ran_goes s t l w past i m now e h))
          at false e = tt
