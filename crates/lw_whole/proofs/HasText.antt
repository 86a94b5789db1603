-- The threads of a whole run have a text.
use Rattle.std.proofs.Common.{◌≡◌, ℕ, zero, suc, ◌+◌, ◌-◌, ◌*◌, ◌<◌, ◌≤◌, ◌==◌, nat_lt, nat_le, Bool, true, false, cond, not, ◌&&◌, ◌||◌, List, [], ◌∷◌, ◌++◌, map, filter_map, zip, length, Option, Some, None, slice_get, option_map, count_by, refl, sym, ap, ap₂, subst, ◌∙◌, arith, inl, inr}
use Rattle.std.specs.Prelude.{option_and_then}
use Rattle.std.specs.List.{list_all, list_any, enumerate_from, range_with_len, cons_option}
use Rattle.std.proofs.Math.Nat.{mul-pos}
use Rattle.std.proofs.lemmas.Bool.{and_parts, and_from, eqb-true, ltb-true, lt-ltb, leb-true, lt-leb, and_right, false≢true}
use Rattle.lw_base.specs.declared.message.Tag.{Tag}
use Rattle.lw_base.specs.declared.message.What.{What}
use Rattle.lw_base.specs.declared.message.What.TheVariants as what
use Rattle.lw_model.specs.declared.script.Script.{Script}
use Rattle.lw_model.specs.declared.script.Op.{Op}
use Rattle.lw_model.specs.declared.script.Op.TheVariants as op
use Rattle.lw_model.specs.declared.record.Called.{Called}
use Rattle.lw_model.specs.declared.record.Reply.{Reply}
use Rattle.lw_model.specs.declared.record.Replied.{Replied}
use Rattle.lw_model.specs.declared.record.Replied.TheVariants as replied
use Rattle.lw_model.specs.declared.record.RoleKind.{RoleKind}
use Rattle.lw_model.specs.declared.record.RoleKind.TheVariants.{App, Client, Owner}
use Rattle.lw_model.specs.declared.record.Seen.{Seen}
use Rattle.lw_model.specs.declared.record.SeenBy.TheVariants as by
use Rattle.lw_model.specs.declared.record.ThreadRecord.{ThreadRecord}
use Rattle.lw_model.specs.declared.step.Step.{Step}
use Rattle.lw_model.specs.declared.step.Step.TheVariants as step
use Rattle.lw_model.specs.Printable.{is_empty, has_role, has_a_line, has_bytes, has_results, is_clients_alone, may_reply, is_printable_thread}
use Rattle.lw_model.specs.Replay.{answer_after, byte_after, is_write}
use Rattle.lw_model.specs.Threads.{thread_count, owner_of, is_client, is_on, op_at, image_at, images}
use Rattle.lw_model.specs.Holding.{says, runs}
use Rattle.lw_model.specs.Devices.{is_began}
use Rattle.lw_model.specs.Sent.{is_same_token, completion, sent_last}
use Rattle.lw_whole.specs.Letters.{Letter, marks_in, threads_in}
use Rattle.lw_whole.specs.Logs.{Log, load_at, steps}
use Rattle.lw_whole.specs.Tokens.{empty_load, load_behind}
use Rattle.lw_whole.specs.Sends.{answer_in, block_of_owner, ops_run, SentBy}
use Rattle.lw_whole.specs.Lines.{reply_in, results_in, callback_stood}
use Rattle.lw_whole.specs.Threads.{Ended, ClientEnded, HasRole, AllEnded}
use Rattle.lw_whole.proofs.Access.{at_number, get_map, RoleOf}
use Rattle.lw_whole.proofs.TokenRuns.{Token, ran_goes, started_goes}
use Rattle.lw_whole.proofs.TokenBack.{IsTo, is_back, of_step, plain_not}
use Rattle.lw_whole.proofs.TokenWay.{last_back}
use Rattle.lw_whole.proofs.AtStep.{AtStep, at_step}
use Rattle.lw_whole.proofs.SentFrom.{SentFrom, came_from}
use Rattle.lw_whole.proofs.TokenGoes.{not_passed}
use Rattle.lw_whole.proofs.VisitsSeen.{back_home, among_is}
use Rattle.lw_whole.proofs.Plain.{Rare, NoneOf, none_of, step_none}
use Rattle.lw_whole.proofs.Replying.{is_reply, reply_of_owner, step_answers}
use Rattle.lw_whole.proofs.Replied.{last_none}
use Rattle.lw_whole.proofs.CallbacksFit.{zip_get}
use Rattle.lw_whole.proofs.DeviceLines.{stood_began}
use Rattle.lw_whole.proofs.ScriptOps.{ReadsSome, reads_some, image_within, block_some}
use Rattle.lw_model.proofs.Passing.{item_passes}

-- ---- lists

all_at : {X : Type 0} (p : X → Bool) (xs : List X) → ((i : ℕ) (x : X) → slice_get xs i ≡ Some x → p x ≡ true) → list_all p xs ≡ true
all_at p [] h = refl
all_at p (x ∷ xs) h = and_from (p x) (list_all p xs) (h 0 x refl) (all_at p xs (λ i y e. h (suc i) y e))

all_found : {X Y : Type 0} (p : Y → Bool) (f : X → Option Y) (xs : List X) → ((i : ℕ) (x : X) → slice_get xs i ≡ Some x → (y : Y) → f x ≡ Some y → p y ≡ true) → list_all p (filter_map f xs) ≡ true
all_found p f [] h = refl
all_found {Y = Y} p f (x ∷ xs) h = at (f x) refl (all_found p f xs (λ i z e. h (suc i) z e))
  where
    at : (o : Option Y) → f x ≡ o → list_all p (filter_map f xs) ≡ true → list_all p (cons_option o (filter_map f xs)) ≡ true
    at None e rest = rest
    at (Some y) e rest = and_from (p y) (list_all p (filter_map f xs)) (h 0 x refl y e) rest

all_numbered : {X : Type 0} (p : ℕ → X → Bool) (n : ℕ) (xs : List X) → ((k : ℕ) (x : X) → slice_get xs k ≡ Some x → p (n + k) x ≡ true) → list_all (λ z. p z.0 z.1) (enumerate_from n xs) ≡ true
all_numbered p n [] h = refl
all_numbered p n (x ∷ xs) h =
    let here : n + 0 ≡ n = omega arith in
    and_from (p n x) (list_all (λ z. p z.0 z.1) (enumerate_from (n + 1) xs)) (subst (λ m. p m x ≡ true) here (h 0 x refl)) (all_numbered p (n + 1) xs (λ k y e. subst (λ m. p m y ≡ true) (next k) (h (suc k) y e)))
  where
    next : (k : ℕ) → n + suc k ≡ n + 1 + k
    next k = omega arith

-- ---- answers and results

range_some : (f : ℕ → ℕ) (a n : ℕ) → 1 ≤ n → not (is_empty (map f (range_with_len a n))) ≡ true
range_some f a zero some = absurd (omega (arith, some))
range_some f a (suc n) some = refl

-- an owner's answer has bytes where it has any
answer_bytes : (block : ℕ) → 1 ≤ block → (past : List (Option Op)) (o : Op) → ReadsSome o → (a : Replied) → answer_after block past o ≡ Some a → has_bytes a ≡ true
answer_bytes block some past (op.Write d start count pattern) reads a e = ap has_bytes (sym (same e))
  where
    same : Some replied.Ok ≡ Some a → replied.Ok ≡ a
    same e = cc
answer_bytes block some past (op.Read d start count) reads a e = ap has_bytes (sym (same e)) ∙ range_some (byte_after block past) (start * block) (count * block) (mul-pos reads some)
  where
    same : Some (replied.Bytes (map (byte_after block past) (range_with_len (start * block) (count * block)))) ≡ Some a → replied.Bytes (map (byte_after block past) (range_with_len (start * block) (count * block))) ≡ a
    same e = cc
answer_bytes block some past (op.Flush d) reads a e = of a (same e)
  where
    same : Some (replied.Writes (count_by is_write past)) ≡ Some a → replied.Writes (count_by is_write past) ≡ a
    same e = cc

    of : (a : Replied) → replied.Writes (count_by is_write past) ≡ a → has_bytes a ≡ true
    of a e = ap has_bytes (sym e)
answer_bytes block some past (op.Get d) reads a e = cc
answer_bytes block some past (op.Put d) reads a e = cc
answer_bytes block some past (op.Wait d) reads a e = cc
answer_bytes block some past (op.Visit d) reads a e = cc
answer_bytes block some past op.Each reads a e = cc
answer_bytes block some past (op.Unregister d) reads a e = cc

-- a message of reactors
abbrev of_reactors : What → Bool
of_reactors v = not (has_a_line v)

reactors_rare : Rare of_reactors
reactors_rare = record { request = λ k. refl; putself = λ d. refl; visit = λ o k d. refl; visited = λ k. refl; cast = λ o k. refl; casted = λ k. refl }

last_lines : (s : Script) (t : ℕ) → NoneOf of_reactors (sent_last s t)
last_lines s t = at (is_client s t) (t == 0)
  where
    stops : (ds : List ℕ) → NoneOf of_reactors (map (λ d. (owner_of s d, what.Stop)) ds)
    stops [] = tt
    stops (d ∷ ds) = (refl, stops ds)

    at : (a b : Bool) → NoneOf of_reactors (cond a ((0, what.Done) ∷ []) (cond b (map (λ d. (owner_of s d, what.Stop)) (images s)) []))
    at true b = (refl, tt)
    at false true = stops (images s)
    at false false = tt

-- a completion of a cast is a cast's
cast_token : (w : What) (t k : ℕ) → completion w ≡ (t, what.Casted k) ∷ [] → (o : ℕ) × (j : ℕ) × (w ≡ what.Cast o j)
cast_token (what.Cast o j) t k e = (o, j, refl)
cast_token (what.Visit o j d) t k e = absurd (false≢true (ap is_cast e))
  where
    is_cast : List (ℕ × What) → Bool
    is_cast [] = false
    is_cast (p ∷ ps) = elim p.1 [ what.Casted j ↦ true | _ ↦ false ]
cast_token _ t k e = cc

last_some : (ts : List ℕ) (t : ℕ) → not (is_empty (ts ++ t ∷ [])) ≡ true
last_some [] t = refl
last_some (u ∷ ts) t = refl

module _ (s : Script) (logs : List Log) (all : AllEnded s logs) where
  ended_at : (t : ℕ) (l : Log) → slice_get logs t ≡ Some l → Ended s t l
  ended_at t l e = subst (λ n. Ended s n l) (omega arith) (at_number (Ended s) 0 logs t l all.each e)

  role_at : (t : ℕ) (l : Log) → slice_get logs t ≡ Some l → HasRole s t l
  role_at t l e = subst (λ n. HasRole s n l) (omega arith) (at_number (HasRole s) 0 logs t l all.roles e)

  -- ---- what was run has a line

  line_of : (u : ℕ) (l : Log) → slice_get logs u ≡ Some l → (i : ℕ) (x : Letter) → slice_get l.ran i ≡ Some x → has_a_line x.tag.what ≡ true
  line_of u l e i x at = of (has_a_line x.tag.what) refl
    where
      never : of_reactors x.tag.what ≡ true → SentFrom logs u x → ⊥
      never is from = elim from.among [
        | inl at_steps ↦
            let a = at_step s from.sender from.log (IsTo u (λ y. y ≡ x)) (ended_at from.sender from.log from.at).sends.at_steps at_steps in
            none_of of_reactors u x a.now is (step_none of_reactors reactors_rare s from.sender from.log (λ k own. refl) a.past a.this a.now a.sent) a.among
        | inr at_end ↦ none_of of_reactors u x from.log.last is (subst (NoneOf of_reactors) (sym (ended_at from.sender from.log from.at).sends.at_end) (last_lines s from.sender)) at_end
      ]

      of : (b : Bool) → has_a_line x.tag.what ≡ b → has_a_line x.tag.what ≡ true
      of true f = f
      of false f = absurd (never (ap not f) (came_from logs all.rings u l e i x at))

  -- ---- a reply's bytes

  reply_bytes : (t : ℕ) (l : Log) → slice_get logs t ≡ Some l → (i : ℕ) (x : Letter) → slice_get l.ran i ≡ Some x → (k : ℕ) → x.tag.what ≡ what.Reply k → (a : Replied) → answer_in x.load ≡ Some a → has_bytes a ≡ true
  reply_bytes t l e i x at k reply a carried = of (came_from logs all.rings t l e i x at)
    where
      of : SentFrom logs t x → has_bytes a ≡ true
      of from = elim from.among [
        | inl at_steps ↦
            let b = at_step s from.sender from.log (IsTo t (λ y. y ≡ x)) (ended_at from.sender from.log from.at).sends.at_steps at_steps in
            let owns = reply_of_owner s from.sender t from.log b.past b.this b.now x (ap is_reply reply) b.sent b.among in
            let answers = step_answers s from.sender t k from.log x reply b.past b.this b.now b.sent b.among in
            let image : from.sender - owner_of s 0 < length s.images = omega (arith, from.within, all.count, ltb-true (length s.clients) from.sender owns) in
            of_op (block_of_owner s from.sender) (block_some s all.accepted (from.sender - owner_of s 0) image) (ops_run s b.past) (op_at s t k) refl (sym answers ∙ carried)
        | inr at_end ↦ absurd (none_of is_reply t x from.log.last (ap is_reply reply) (subst (NoneOf is_reply) (sym (ended_at from.sender from.log from.at).sends.at_end) (last_none s from.sender)) at_end)
      ]
        where
          of_op : (block : ℕ) → 1 ≤ block → (past : List (Option Op)) (o : Option Op) → op_at s t k ≡ o → option_and_then (answer_after block past) o ≡ Some a → has_bytes a ≡ true
          of_op block some past None f g = cc
          of_op block some past (Some o) f g = answer_bytes block some past o (reads_some s all.accepted t k o f) a g

  -- ---- the threads that a cast reached

  cast_reached : (t : ℕ) (l : Log) → slice_get logs t ≡ Some l → (i : ℕ) (x : Letter) → slice_get l.ran i ≡ Some x → (k : ℕ) → x.tag.what ≡ what.Casted k → not (is_empty (threads_in x.load)) ≡ true
  cast_reached t l e i x at k is = of (came_from logs all.rings t l e i x at)
    where
      back : is_back x.tag.what ≡ true
      back = ap is_back is

      of_run : (o : ℕ) (g : Log) (a : AtStep s o g (IsTo t (λ y. y ≡ x))) (w : What) → Token w → completion w ≡ (t, x.tag.what) ∷ [] → (y : Step) → a.this ≡ y → runs (is_same_token w) a.this ≡ true → not (is_empty (threads_in x.load)) ≡ true
      of_run o g a w tok ends (step.Did j d) this f = absurd (false≢true (ap (runs (is_same_token w)) (sym this) ∙ f))
      of_run o g a w tok ends (step.Called j d) this f = absurd (false≢true (ap (runs (is_same_token w)) (sym this) ∙ f))
      of_run o g a w tok ends (step.Ran j m) this f =
          let is_run : is_same_token w m.what ≡ true = ap (runs (is_same_token w)) (sym this) ∙ f in
          let home = back_home s t x w (o + 1) (load_behind s o a.past w (load_at g j)) a.now tok back (ran_goes s o g w a.past j m a.now is_run (subst (λ z. SentBy s o g a.past z a.now) this a.sent)) a.among in
          let cast = cast_token w t k (ends ∙ ap (λ v. (t, v) ∷ []) is) in
          ap (λ z. not (is_empty (threads_in z))) (home.0 ∙ ap (λ v. load_behind s o a.past v (load_at g j)) cast.2) ∙ last_some (threads_in (load_at g j)) o

      of : SentFrom logs t x → not (is_empty (threads_in x.load)) ≡ true
      of from = elim from.among [
        | inl at_steps ↦
            let a = at_step s from.sender from.log (IsTo t (λ y. y ≡ x)) (ended_at from.sender from.log from.at).sends.at_steps at_steps in
            let c = of_step s from.sender (thread_count s) t from.log x.tag.what back a.past a.this a.now a.sent (among_is t x a.now a.among) in
            elim c.by [
              | inl begins ↦
                  let home = back_home s t x c.token 0 (empty_load c.token) a.now c.is_token back (started_goes s from.sender from.log c.token a.past a.this a.now begins a.sent) a.among in
                  absurd (not_passed s c.token 0 (thread_count s) 0 (omega arith) (omega arith) refl home.1)
              | inr ran ↦ of_run from.sender from.log a c.token c.is_token c.completes a.this refl ran
            ]
        | inr at_end ↦ absurd (plain_not t x.tag.what (sent_last s from.sender) from.log.last back (ended_at from.sender from.log from.at).sends.at_end (last_back s from.sender) (among_is t x from.log.last at_end))
      ]

  -- ---- callbacks

  -- a step that began is of a device that there is
  began_within : (t d : ℕ) (ss : List Step) → list_any (says (is_on s t d) is_began) ss ≡ true → d < length s.images
  began_within t d [] e = absurd (false≢true e)
  began_within t d (step.Did j y ∷ ss) e = of (is_on s t d y.op) refl e (λ f. began_within t d ss f)
    where
      of_image : (o : Option ℕ) → image_at s t y.op ≡ o → elim o as (λ z. Bool) [ None ↦ false | Some f ↦ f == d ] ≡ true → d < length s.images
      of_image None f g = absurd (false≢true g)
      of_image (Some k) f g = subst (λ n. n < length s.images) (eqb-true k d g) (image_within s all.accepted t y.op k f)

      of : (b : Bool) → is_on s t d y.op ≡ b → ((b && is_began y.answer) || list_any (says (is_on s t d) is_began) ss) ≡ true → (list_any (says (is_on s t d) is_began) ss ≡ true → d < length s.images) → d < length s.images
      of true f e go = of_image (image_at s t y.op) refl f
      of false f e go = go e
  began_within t d (step.Called j y ∷ ss) e = began_within t d ss e
  began_within t d (step.Ran j m ∷ ss) e = began_within t d ss e

  called_within : (t : ℕ) (l : Log) → slice_get logs t ≡ Some l → (i : ℕ) (c : Called) → slice_get l.lines.called i ≡ Some c → nat_lt c.device (length s.images) ≡ true
  called_within t l e i c at =
      let ends = ended_at t l e in
      let z = zip_get l.stood l.lines.called i c ends.stood at in
      let stood = item_passes (λ p. callback_stood s t l p.0 p.1) (zip l.stood l.lines.called) i (z.0, c) ends.callbacks z.1 in
      lt-ltb c.device (length s.images) (began_within t c.device (steps l) (stood_began s t l z.0 c stood))

  -- ---- a thread

  client_ended : (t : ℕ) (l : Log) → slice_get logs t ≡ Some l → is_client s t ≡ true → ClientEnded s t l
  client_ended t l e c = of (t == 0) refl (is_client s t) c (ended_at t l e).role
    where
      of : (a : Bool) → (t == 0) ≡ a → (b : Bool) → b ≡ true → RoleOf s t l a b → ClientEnded s t l
      of true z b is h = absurd (false≢true (subst (λ n. is_client s n ≡ true) (eqb-true t 0 z) c))
      of false z true is h = h
      of false z false is h = absurd (false≢true is)

  -- a client's replies have bytes, and its casts have threads
  client_may : (t : ℕ) (l : Log) → slice_get logs t ≡ Some l → is_client s t ≡ true → (list_all (λ r. has_bytes r.answer) l.lines.replies && list_all (λ r. has_results r.results) l.lines.seen) ≡ true
  client_may t l e c =
      let ends = client_ended t l e c in
      and_from (list_all (λ r. has_bytes r.answer) l.lines.replies) (list_all (λ r. has_results r.results) l.lines.seen)
      (ap (list_all (λ (r : Reply). has_bytes r.answer)) ends.replies ∙ all_found (λ (r : Reply). has_bytes r.answer) reply_in l.ran (λ i x at y f. of_reply i x at y x.tag.what refl f))
      (ap (list_all (λ (r : Seen). has_results r.results)) ends.seen ∙ all_found (λ (r : Seen). has_results r.results) results_in l.ran (λ i x at y f. of_results i x at y x.tag.what refl f))
    where
      of_reply : (i : ℕ) (x : Letter) → slice_get l.ran i ≡ Some x → (y : Reply) (v : What) → x.tag.what ≡ v
          → elim v as (λ z. Option Reply) [ what.Reply k ↦ option_map (λ a. record { op = k; answer = a }) (answer_in x.load) | _ ↦ None ] ≡ Some y → has_bytes y.answer ≡ true
      of_reply i x at y (what.Reply k) is f = of_answer (answer_in x.load) refl f
        where
          of_answer : (o : Option Replied) → answer_in x.load ≡ o → option_map (λ a. record { op = k; answer = a }) o ≡ Some y → has_bytes y.answer ≡ true
          of_answer None g h = cc
          of_answer (Some a) g h = ap (λ (z : Option Reply). elim z as (λ q. Bool) [ None ↦ true | Some r ↦ has_bytes r.answer ]) (sym h) ∙ reply_bytes t l e i x at k is a g
      of_reply i x at y _ is f = cc

      of_results : (i : ℕ) (x : Letter) → slice_get l.ran i ≡ Some x → (y : Seen) (v : What) → x.tag.what ≡ v
          → elim v as (λ z. Option Seen) [ what.Visited k ↦ Some (record { op = k; results = by.Visit (marks_in x.load) }) | what.Casted k ↦ Some (record { op = k; results = by.Cast (threads_in x.load) }) | _ ↦ None ] ≡ Some y
          → has_results y.results ≡ true
      of_results i x at y (what.Visited k) is f = ap (λ (z : Option Seen). elim z as (λ q. Bool) [ None ↦ true | Some r ↦ has_results r.results ]) (sym f)
      of_results i x at y (what.Casted k) is f = ap (λ (z : Option Seen). elim z as (λ q. Bool) [ None ↦ true | Some r ↦ has_results r.results ]) (sym f) ∙ cast_reached t l e i x at k is
      of_results i x at y _ is f = cc

  -- who is no client lists none
  others_may : (t : ℕ) (l : Log) → slice_get logs t ≡ Some l → is_client s t ≡ false → is_clients_alone l.lines ≡ true
  others_may t l e c = let role = role_at t l e in ap₂ (λ (rs : List Reply) (ss : List Seen). is_empty rs && is_empty ss) (role.replies c) (role.seen c)

  may : (t : ℕ) (l : Log) → slice_get logs t ≡ Some l → may_reply l.lines.role l.lines ≡ true
  may t l e = of l.lines.role refl (role_at t l e).role
    where
      of : (k : RoleKind) → l.lines.role ≡ k → has_role (length s.clients) t k ≡ true → may_reply k l.lines ≡ true
      of Client is fits = let h = and_parts (nat_le 1 t) (nat_le t (length s.clients)) fits in client_may t l e (and_from (nat_lt 0 t) (nat_le t (length s.clients)) (lt-ltb 0 t (leb-true 1 t h.0)) h.1)
      of App is fits = others_may t l e (ap (is_client s) (eqb-true t 0 fits))
      of Owner is fits = others_may t l e (and_right (nat_lt 0 t) (nat_le t (length s.clients)) (lt-leb t (length s.clients) (ltb-true (length s.clients) t fits)))

  -- each thread has a text
  pub have_text : list_all (λ p. is_printable_thread s p.0 p.1) (enumerate_from 0 (map (λ l. l.lines) logs)) ≡ true
  have_text = all_numbered (is_printable_thread s) 0 (map (λ l. l.lines) logs) (λ t x e. let l = log_of t x (slice_get logs t) refl (sym (get_map (λ (l : Log). l.lines) logs t) ∙ e) in subst (λ z. is_printable_thread s (0 + t) z ≡ true) l.2 (thread_at t l.0 l.1))
    where
      log_of : (t : ℕ) (x : ThreadRecord) (o : Option Log) → slice_get logs t ≡ o → option_map (λ (l : Log). l.lines) o ≡ Some x → (l : Log) × (slice_get logs t ≡ Some l) × (l.lines ≡ x)
      log_of t x None f g = cc
      log_of t x (Some l) f g = (l, f, same g)
        where
          same : Some l.lines ≡ Some x → l.lines ≡ x
          same g = cc

      thread_at : (t : ℕ) (l : Log) → slice_get logs t ≡ Some l → is_printable_thread s (0 + t) l.lines ≡ true
      thread_at t l e =
          let same : t ≡ 0 + t = omega arith in
          subst (λ n. is_printable_thread s n l.lines ≡ true) same
          (and_from (has_role (length s.clients) t l.lines.role && may_reply l.lines.role l.lines && list_all (λ m. has_a_line m.what) l.lines.ran) (list_all (λ c. nat_lt c.device (length s.images)) l.lines.called)
          (and_from (has_role (length s.clients) t l.lines.role && may_reply l.lines.role l.lines) (list_all (λ m. has_a_line m.what) l.lines.ran)
          (and_from (has_role (length s.clients) t l.lines.role) (may_reply l.lines.role l.lines) (role_at t l e).role (may t l e))
          (ap (list_all (λ (m : Tag). has_a_line m.what)) (sym (ended_at t l e).tags) ∙ all_tags l.ran (λ i x at. line_of t l e i x at)))
          (all_at (λ c. nat_lt c.device (length s.images)) l.lines.called (λ i c at. called_within t l e i c at)))
        where
          all_tags : (ls : List Letter) → ((i : ℕ) (x : Letter) → slice_get ls i ≡ Some x → has_a_line x.tag.what ≡ true) → list_all (λ (m : Tag). has_a_line m.what) (map (λ x. x.tag) ls) ≡ true
          all_tags [] h = refl
          all_tags (x ∷ ls) h = and_from (has_a_line x.tag.what) (list_all (λ (m : Tag). has_a_line m.what) (map (λ x. x.tag) ls)) (h 0 x refl) (all_tags ls (λ i y f. h (suc i) y f))
