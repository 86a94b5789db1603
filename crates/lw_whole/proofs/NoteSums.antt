-- What the settled rows keep of a device is what the calls of each thread left in its own row.
use Rattle.std.proofs.Common.{◌≡◌, ℕ, zero, suc, ◌+◌, ◌<◌, ◌==◌, Bool, true, false, cond, List, [], ◌∷◌, ◌++◌, map, filter, length, Option, Some, None, slice_get, unwrap_or, option_map, refl, sym, ap, subst, ◌∙◌, arith}
use Rattle.std.specs.List.{flat_map, cons_option}
use Rattle.std.proofs.lemmas.Bool.{eqb-true, eq-eqb, ne_eqb, false≢true}
use Rattle.lw_base.specs.declared.message.What.{What}
use Rattle.lw_base.specs.declared.message.What.TheVariants as what
use Rattle.lw_base.specs.Letters.{sent_by}
use Rattle.lw_base.specs.Totals.{total}
use Rattle.lw_model.specs.declared.script.Script.{Script}
use Rattle.lw_model.specs.declared.record.Record.{Record}
use Rattle.lw_model.specs.declared.step.Step.{Step}
use Rattle.lw_model.specs.Threads.{thread_count, is_client, owner_of, images}
use Rattle.lw_model.specs.OwnOrder.{with_past}
use Rattle.lw_model.specs.Sent.{sent_last, to_thread}
use Rattle.lw_whole.specs.Letters.{Letter, Load, row, Note}
use Rattle.lw_whole.specs.Logs.{Log, addressed, steps, all_sends, run_by, sent_by_thread}
use Rattle.lw_whole.specs.Sends.{SentAlong}
use Rattle.lw_whole.specs.Notes.{idle, note_at, both_notes, both_rows, joined, row_of, row_in, rows_in, notes_of}
use Rattle.lw_whole.specs.WholeRun.{IsWholeRun}
use Rattle.lw_whole.proofs.Access.{log_of, log_count, ended, app_ended, client_ended, owner_ended}
use Rattle.lw_whole.proofs.Numbers.{run_at, none_sent}
use Rattle.lw_whole.proofs.Flow.{sum_below, sum_same, sum_both}
use Rattle.lw_whole.proofs.Ranges.{sum_front}
use Rattle.lw_whole.proofs.TokenFlow.{sum_letters, sum_one, by_sender}
use Rattle.lw_whole.proofs.Plain.{Rare, NoneOf, step_none}

-- ---- numbers that add up when two rows are taken together

pub record Adds (f : Note → ℕ) : Type 0 where
  pub none : f idle ≡ 0
  pub both : (n m : Note) → f (both_notes n m) ≡ f n + f m

-- of device d, in some rows
abbrev pub sum_rows : (Note → ℕ) → ℕ → List (List Note) → ℕ
sum_rows f d [] = 0
sum_rows f d (ms ∷ rows) = f (note_at ms d) + sum_rows f d rows

both_length : (ns ms : List Note) → length (both_rows ns ms) ≡ length ns
both_length [] ms = refl
both_length (n ∷ ns) [] = refl
both_length (n ∷ ns) (m ∷ ms) = omega (arith, both_length ns ms)

module _ (f : Note → ℕ) (adds : Adds f) where
  both_at : (d : ℕ) (ns ms : List Note) → d < length ns → f (note_at (both_rows ns ms) d) ≡ f (note_at ns d) + f (note_at ms d)
  both_at d [] ms less = absurd (omega (arith, less))
  both_at d (n ∷ ns) [] less = omega (arith, adds.none)
  both_at zero (n ∷ ns) (m ∷ ms) less = adds.both n m
  both_at (suc d) (n ∷ ns) (m ∷ ms) less = both_at d ns ms (omega (arith, less))

  joined_at : (d : ℕ) (ns : List Note) (rows : List (List Note)) → d < length ns → f (note_at (joined ns rows) d) ≡ f (note_at ns d) + sum_rows f d rows
  joined_at d ns [] less = omega arith
  joined_at d ns (ms ∷ rows) less = omega (arith, joined_at d (both_rows ns ms) rows (omega (arith, less, both_length ns ms)), both_at d ns ms less)

-- ---- rows that come with messages

-- what a letter's row has of device d
abbrev pub weight : (Note → ℕ) → ℕ → Option (List Note) → ℕ
weight f d o = elim o [ None ↦ 0 | Some ms ↦ f (note_at ms d) ]

rows_sum : (f : Note → ℕ) (d : ℕ) (ls : List Letter) → sum_rows f d (rows_in ls) ≡ sum_letters (λ x. weight f d (row_in x)) ls
rows_sum f d [] = refl
rows_sum f d (x ∷ ls) = at (row_in x) (rows_sum f d ls)
  where
    at : (o : Option (List Note)) → sum_rows f d (rows_in ls) ≡ sum_letters (λ y. weight f d (row_in y)) ls → sum_rows f d (cons_option o (rows_in ls)) ≡ weight f d o + sum_letters (λ y. weight f d (row_in y)) ls
    at None e = omega (arith, e)
    at (Some ms) e = omega (arith, e)

-- f of those that go to thread u
abbrev sum_to : (Letter → ℕ) → ℕ → List (ℕ × Letter) → ℕ
sum_to f u [] = 0
sum_to f u (p ∷ ps) = cond (p.0 == u) (f p.1) 0 + sum_to f u ps

sum_to-append : (f : Letter → ℕ) (u : ℕ) (ps qs : List (ℕ × Letter)) → sum_to f u (ps ++ qs) ≡ sum_to f u ps + sum_to f u qs
sum_to-append f u [] qs = omega arith
sum_to-append f u (p ∷ ps) qs = omega (arith, sum_to-append f u ps qs)

letters_to : (f : Letter → ℕ) (u : ℕ) (ps : List (ℕ × Letter)) → sum_letters f (to_thread u ps) ≡ sum_to f u ps
letters_to f u [] = refl
letters_to f u (p ∷ ps) = at (p.0 == u) (letters_to f u ps)
  where
    at : (b : Bool) → sum_letters f (to_thread u ps) ≡ sum_to f u ps → sum_letters f (map (λ (q : ℕ × Letter). q.1) (cond b (p ∷ filter (λ q. q.0 == u) ps) (filter (λ q. q.0 == u) ps))) ≡ cond b (f p.1) 0 + sum_to f u ps
    at true e = omega (arith, e)
    at false e = omega (arith, e)

abbrev pub is_done : What → Bool
is_done what.Done = true
is_done _ = false

pub dones_rare : Rare is_done
dones_rare = record { request = λ k. refl; putself = λ d. refl; visit = λ o k d. refl; visited = λ k. refl; cast = λ o k. refl; casted = λ k. refl }

-- what is no Done brings no row
no_row : (f : Note → ℕ) (d : ℕ) (x : Letter) → is_done x.tag.what ≡ false → weight f d (row_in x) ≡ 0
no_row f d x e = at x.tag.what e
  where
    at : (v : What) → is_done v ≡ false → weight f d (elim v [ what.Done ↦ row_of x.load | _ ↦ None ]) ≡ 0
    at what.Done e = absurd (false≢true (sym e))
    at _ e = refl

no_rows : (f : Note → ℕ) (d u : ℕ) (ps : List (ℕ × Letter)) → NoneOf is_done (addressed ps) → sum_to (λ x. weight f d (row_in x)) u ps ≡ 0
no_rows f d u [] h = refl
no_rows f d u (p ∷ ps) h = omega (arith, at (p.0 == u), no_rows f d u ps h.1)
  where
    at : (b : Bool) → cond b (weight f d (row_in p.1)) 0 ≡ 0
    at true = no_row f d p.1 h.0
    at false = refl

-- no step sends a Done
steps_no_rows : (s : Script) (t : ℕ) (l : Log) (f : Note → ℕ) (d u : ℕ) (past rest : List Step) (sends : List (List (ℕ × Letter))) → SentAlong s t l (with_past past rest) sends
    → sum_to (λ x. weight f d (row_in x)) u (flat_map (λ now. now) sends) ≡ 0
steps_no_rows s t l f d u past [] [] h = refl
steps_no_rows s t l f d u past [] (now ∷ sends) h = absurd h
steps_no_rows s t l f d u past (x ∷ rest) [] h = absurd h
steps_no_rows s t l f d u past (x ∷ rest) (now ∷ sends) h = omega (
  arith,
  sum_to-append (λ y. weight f d (row_in y)) u now (flat_map (λ now. now) sends),
  no_rows f d u now (step_none is_done dones_rare s t l (λ k own. refl) past x now h.0),
  steps_no_rows s t l f d u (x ∷ past) rest sends h.1,
)

-- a client's last message is its Done, with its row
pub record OneDone (own : List Note) (last : List (ℕ × Letter)) : Type 0 where
  pub letter : Letter
  pub last_is : last ≡ (0, letter) ∷ []
  pub done : letter.tag.what ≡ what.Done
  pub carried : letter.load ≡ row own

pub one_done : (own : List Note) (last : List (ℕ × Letter)) → addressed last ≡ (0, what.Done) ∷ [] → map (λ p. p.1.load) last ≡ row own ∷ [] → OneDone own last
one_done own [] e f = cc
one_done own (p ∷ []) e f = record { letter = p.1; last_is = ap (λ u. (u, p.1) ∷ []) (ap to e); done = ap which e; carried = ap load f }
  where
    to : List (ℕ × What) → ℕ
    to [] = 0
    to (q ∷ qs) = q.0

    which : List (ℕ × What) → What
    which [] = what.Done
    which (q ∷ qs) = q.1

    load : List Load → Load
    load [] = row own
    load (q ∷ qs) = q
one_done own (p ∷ q ∷ rest) e f = absurd (omega (arith, ap length e))

stops_none : (s : Script) (ds : List ℕ) → NoneOf is_done (map (λ d. (owner_of s d, what.Stop)) ds)
stops_none s [] = tt
stops_none s (d ∷ ds) = (refl, stops_none s ds)

-- who is no client sends no Done last
pub last_no_done : (s : Script) (t : ℕ) → is_client s t ≡ false → NoneOf is_done (sent_last s t)
last_no_done s t c = subst (λ b. NoneOf is_done (cond b ((0, what.Done) ∷ []) (cond (t == 0) (map (λ d. (owner_of s d, what.Stop)) (images s)) []))) (sym c) (at (t == 0))
  where
    at : (b : Bool) → NoneOf is_done (cond b (map (λ d. (owner_of s d, what.Stop)) (images s)) [])
    at true = stops_none s (images s)
    at false = tt

pub client_last : (s : Script) (t : ℕ) → is_client s t ≡ true → sent_last s t ≡ (0, what.Done) ∷ []
client_last s t c = ap (λ b. cond b ((0, what.Done) ∷ []) (cond (t == 0) (map (λ d. (owner_of s d, what.Stop)) (images s)) [])) c

-- ---- all rows

pub total_sum : {X : Type 0} (f : Note → ℕ) (h : X → Note) (xs : List X) → total f (map h xs) ≡ sum_below (λ t. f (unwrap_or (option_map h (slice_get xs t)) idle)) (length xs)
total_sum f h [] = refl
total_sum f h (x ∷ xs) = omega (arith, total_sum f h xs, sum_front (λ t. f (unwrap_or (option_map h (slice_get (x ∷ xs) t)) idle)) (length xs))

module _ (r : Record) (logs : List Log) (whole : IsWholeRun r logs) (d : ℕ) (device : d < length r.script.images) where
  abbrev n : ℕ
  n = thread_count r.script

  -- what the calls of thread t left of the device in its own row
  abbrev pub own_at : ℕ → Note
  own_at t = unwrap_or (option_map (λ l. note_at l.own d) (slice_get logs t)) idle

  abbrev pub row_at : ℕ → Note
  row_at t = unwrap_or (option_map (λ l. note_at l.row d) (slice_get logs t)) idle

  pub own_is : (t : ℕ) (l : Log) → slice_get logs t ≡ Some l → own_at t ≡ note_at l.own d
  own_is t l e = ap (λ (o : Option Log). unwrap_or (option_map (λ l. note_at l.own d) o) idle) e

  pub row_is : (t : ℕ) (l : Log) → slice_get logs t ≡ Some l → row_at t ≡ note_at l.row d
  row_is t l e = ap (λ (o : Option Log). unwrap_or (option_map (λ l. note_at l.row d) o) idle) e

  module _ (f : Note → ℕ) (adds : Adds f) where
    -- what thread s sent to the app of it
    abbrev brings : ℕ → ℕ
    brings s = sum_letters (λ x. weight f d (row_in x)) (to_thread 0 (sent_by_thread logs s))

    -- its last messages alone bring it
    brings_last : (t : ℕ) (l : Log) → slice_get logs t ≡ Some l → brings t ≡ sum_to (λ x. weight f d (row_in x)) 0 l.last
    brings_last t l e = omega (
      arith,
      ap (λ (o : Option Log). sum_letters (λ x. weight f d (row_in x)) (to_thread 0 (unwrap_or (option_map all_sends o) []))) e,
      letters_to (λ x. weight f d (row_in x)) 0 (all_sends l),
      sum_to-append (λ x. weight f d (row_in x)) 0 (flat_map (λ now. now) l.sends) l.last,
      steps_no_rows r.script t l f d 0 [] (steps l) l.sends (ended r logs whole t l e).sends.at_steps,
    )

    client_brings : (t : ℕ) (l : Log) → slice_get logs t ≡ Some l → is_client r.script t ≡ true → brings t ≡ f (own_at t)
    client_brings t l e c =
        let sends = (ended r logs whole t l e).sends in
        let one = one_done l.own l.last (sends.at_end ∙ client_last r.script t c) (sends.with_row c) in
        let row_is : row_in one.letter ≡ Some l.own = ap (λ v. elim v as (λ z. Option (List Note)) [ what.Done ↦ row_of one.letter.load | _ ↦ None ]) one.done ∙ ap row_of one.carried in
        omega (arith, brings_last t l e, ap (sum_to (λ x. weight f d (row_in x)) 0) one.last_is, ap (weight f d) row_is, ap f (own_is t l e))

    other_brings : (t : ℕ) (l : Log) → slice_get logs t ≡ Some l → is_client r.script t ≡ false → brings t ≡ 0
    other_brings t l e c = brings_last t l e ∙ no_rows f d 0 l.last (subst (NoneOf is_done) (sym (ended r logs whole t l e).sends.at_end) (last_no_done r.script t c))

    -- the app's row has its own and what all brought
    app_row : (l : Log) → slice_get logs 0 ≡ Some l → f (row_at 0) ≡ f (own_at 0) + sum_below brings n
    app_row l e =
        let ends = ended r logs whole 0 l e in
        let some : 0 < thread_count r.script = omega arith in
        omega (
          arith,
          ap f (row_is 0 l e),
          ap (λ ns. f (note_at ns d)) (app_ended r logs whole l e).took_in.joined,
          joined_at f adds d l.own (rows_in l.ran) (omega (arith, device, ends.own_row.devices)),
          ap f (own_is 0 l e),
          rows_sum f d l.ran,
          ap (sum_letters (λ x. weight f d (row_in x))) (run_at logs 0 l e),
          by_sender (λ x. weight f d (row_in x)) n (run_by logs 0) (λ s le. whole.rings.run_is_sent 0 s (omega (arith, some, log_count r logs whole)) ∙ ap (to_thread 0) (none_sent logs s (omega (arith, le, log_count r logs whole)))),
          sum_same (λ s. sum_letters (λ x. weight f d (row_in x)) (sent_by (λ l. l.tag) s (run_by logs 0))) (λ s. sum_letters (λ x. weight f d (row_in x)) (to_thread 0 (sent_by_thread logs s))) n
              (λ s b. ap (sum_letters (λ x. weight f d (row_in x))) (whole.rings.run_is_sent 0 s (omega (arith, some, log_count r logs whole)))),
        )

    -- of each thread, with what it brought the app
    each_row : (t : ℕ) → t < n → f (row_at t) + brings t ≡ f (own_at t) + cond (0 == t) (sum_below brings n) 0
    each_row t less = let l = log_of r logs whole t less in at l.0 l.1 (t == 0) refl (is_client r.script t) refl
      where
        at : (l : Log) → slice_get logs t ≡ Some l → (a : Bool) → (t == 0) ≡ a → (b : Bool) → is_client r.script t ≡ b → f (row_at t) + brings t ≡ f (own_at t) + cond (0 == t) (sum_below brings n) 0
        at l e true z b c =
            let zero_is = eqb-true t 0 z in
            let l' = subst (λ k. slice_get logs k ≡ Some l) zero_is e in
            let no_client : is_client r.script t ≡ false = ap (is_client r.script) zero_is in
            omega (
              arith,
              other_brings t l e no_client,
              app_row l l',
              ap (λ k. f (row_at k)) zero_is,
              ap (λ k. f (own_at k)) zero_is,
              ap {B = ℕ} (λ b. cond b (sum_below brings n) 0) (eq-eqb 0 t (sym zero_is)),
            )
        at l e false z true c = omega (
          arith,
          client_brings t l e c,
          ap f (row_is t l e ∙ ap (λ ns. note_at ns d) (client_ended r logs whole t l e c).row),
          adds.none,
          ap {B = ℕ} (λ b. cond b (sum_below brings n) 0) (ne_eqb 0 t (λ k. false≢true (sym z ∙ eq-eqb t 0 (sym k)))),
        )
        at l e false z false c = omega (
          arith,
          other_brings t l e c,
          ap f (row_is t l e ∙ ap (λ ns. note_at ns d) (owner_ended r logs whole t l e z c).row ∙ sym (own_is t l e)),
          ap {B = ℕ} (λ b. cond b (sum_below brings n) 0) (ne_eqb 0 t (λ k. false≢true (sym z ∙ eq-eqb t 0 (sym k)))),
        )

    pub rows_are_own : total f (notes_of d logs) ≡ sum_below (λ t. f (own_at t)) n
    rows_are_own = omega (
      arith,
      total_sum f (λ l. note_at l.row d) logs,
      ap (sum_below (λ t. f (row_at t))) (log_count r logs whole),
      sum_same (λ t. f (row_at t) + brings t) (λ t. f (own_at t) + cond (0 == t) (sum_below brings n) 0) n each_row,
      sum_both (λ t. f (row_at t)) brings n,
      sum_both (λ t. f (own_at t)) (λ t. cond (0 == t) (sum_below brings n) 0) n,
      sum_one 0 (sum_below brings n) n (omega arith),
    )
