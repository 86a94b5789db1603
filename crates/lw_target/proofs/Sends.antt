-- What a client's sends leave in the posts.
use Rattle.std.proofs.Common.{ℕ, ◌≡◌, ◌+◌, Bool, true, false, cond, List, [], ◌∷◌, ◌++◌, map, length, Option, None, arith, refl, sym, ◌∙◌, ap}
use Rattle.std.specs.Prelude.{◌==◌, filter, filter_map, option_to_list, count_by, slice_get, nat_lt, nat_le}
use Rattle.std.specs.List.{All, list_all}
use Rattle.std.proofs.lemmas.Bool.{eqb-true, and_parts, and_from, ltb-true, leb-true}
use Rattle.std.proofs.lemmas.List.Elements.{All-head, All-rest, All-nil, All-cons}
use Rattle.std.proofs.lemmas.List.Folds.{list_all-append}
use Rattle.lw_base.specs.declared.message.What.{What}
use Rattle.lw_base.specs.declared.message.What.TheVariants as what
use Rattle.lw_base.specs.declared.message.Tag.{Tag}
use Rattle.lw_model.specs.declared.script.Script.{Script}
use Rattle.lw_model.specs.declared.script.Op.{Op}
use Rattle.lw_model.specs.Threads.{is_client, ops_of}
use Rattle.lw_model.specs.Holding.{is_putself}
use Rattle.lw_model.specs.Sent.{to_thread}
use Rattle.lw_model.proofs.SentLists.{to_thread-append}
use Rattle.lw_target.specs.declared.mail.Load.{Load}
use Rattle.lw_target.specs.declared.acts.Outgoing.{Outgoing}
use Rattle.lw_target.specs.declared.client.Client.{Client}
use Rattle.lw_target.specs.Ops.{IsOfOps, AllOfOps}
use Rattle.lw_target.specs.ClientLog.{sent_so_far, sends_of_steps, steps_so_far}
use Rattle.lw_target.specs.ClientCalls.{receivers, requested, reply_carried, putselfs_to}
use Rattle.lw_target.specs.Letters.{Letter, said_by, post_of, posted}
use Rattle.lw_target.specs.InOrder.{IsOfOne, IsToOwner, is_to_app, is_to_client, is_request_of}
use Rattle.lw_target.proofs.Numbers.{count_cons, count_append, count_one}
use Rattle.lw_target.proofs.Letters.{letter_from, posted_one, posted_append}
use Rattle.lw_target.proofs.ClientRuns.{filter_map_one}
use Rattle.lw_target.proofs.Told.{true_false, is_routed, steps_routed, all_step_routed, none_to_app}

-- the one client is thread 1
pub thread_is : (s : Script) (t : ℕ) → IsOfOne s → is_client s t ≡ true → t ≡ 1
thread_is s t one e =
    let both = and_parts (nat_lt 0 t) (nat_le t (length s.clients)) e in
    omega (arith, ltb-true 0 t both.0, leb-true t (length s.clients) both.1, one.clients)

-- what a client has sent so far goes where it should
pub so_far_routed : (s : Script) (c : Client) (ran : List Tag) → IsOfOne s → c.thread ≡ 1 → list_all is_routed (sent_so_far s c ran) ≡ true
so_far_routed s c ran one e =
    list_all-append is_routed (sends_of_steps s c.thread (steps_so_far c ran)) (cond c.done ((0, what.Done) ∷ []) [])
    ∙ and_from _ _ (all_step_routed (sends_of_steps s c.thread (steps_so_far c ran)) (steps_routed s c.thread [] (steps_so_far c ran) one e)) (last c.done)
  where
    last : (b : Bool) → list_all is_routed (cond b ((0, what.Done) ∷ []) []) ≡ true
    last true = refl
    last false = refl

-- what of it goes to the app is its last message
pub so_far_to_app : (s : Script) (c : Client) (ran : List Tag) → IsOfOne s → c.thread ≡ 1 → to_thread 0 (sent_so_far s c ran) ≡ cond c.done (what.Done ∷ []) []
so_far_to_app s c ran one e =
    to_thread-append 0 (sends_of_steps s c.thread (steps_so_far c ran)) (cond c.done ((0, what.Done) ∷ []) [])
    ∙ ap (λ q. q ++ to_thread 0 (cond c.done ((0, what.Done) ∷ []) [])) (none_to_app (sends_of_steps s c.thread (steps_so_far c ran)) (steps_routed s c.thread [] (steps_so_far c ran) one e))
    ∙ last c.done
  where
    last : (b : Bool) → to_thread 0 (cond b ((0, what.Done) ∷ []) []) ≡ cond b (what.Done ∷ []) []
    last true = refl
    last false = refl

-- ---- each letter

-- a test of the letters that are posted to a thread
posted_test : (thread : ℕ) (test : Letter → Bool) → ((o : Outgoing) → is_routed (o.to, o.what) ≡ true → post_of o.to ≡ thread → test (letter_from 1 o) ≡ true)
    → (sends : List Outgoing) → list_all is_routed (receivers sends) ≡ true → list_all test (posted thread 1 sends) ≡ true
posted_test thread test each [] e = refl
posted_test thread test each (o ∷ sends) e =
    let both = and_parts (is_routed (o.to, o.what)) (list_all is_routed (receivers sends)) e in
    ap (list_all test) (posted_append thread 1 (o ∷ []) sends)
    ∙ list_all-append test (posted thread 1 (o ∷ [])) (posted thread 1 sends)
    ∙ and_from _ _ (ap (list_all test) (posted_one thread 1 o (post_of o.to) refl) ∙ at (post_of o.to == thread) refl both.0)
    (posted_test thread test each sends both.1)
  where
    at : (b : Bool) → (post_of o.to == thread) ≡ b → is_routed (o.to, o.what) ≡ true → list_all test (cond b (letter_from 1 o ∷ []) []) ≡ true
    at true f r = and_from (test (letter_from 1 o)) true (each o r (eqb-true (post_of o.to) thread f)) refl
    at false f r = refl

-- what may be routed to a post
routed_to_app : (to : ℕ) (w : What) (carried : Load) → is_routed (to, w) ≡ true → post_of to ≡ 0 → is_to_app (record { sender = 1; what = w; load = carried }) ≡ true
routed_to_app to what.Done carried r e = refl
routed_to_app to (what.Request k) carried r e = absurd (omega (arith, sym (ap post_of (eqb-true to 2 r)) ∙ e))
routed_to_app to (what.PutSelf d) carried r e = absurd (omega (arith, sym (ap post_of (eqb-true to 1 r)) ∙ e))
routed_to_app to (what.Reply k) carried r e = absurd (true_false (sym r))
routed_to_app to (what.Visit a b d) carried r e = absurd (true_false (sym r))
routed_to_app to (what.Visited k) carried r e = absurd (true_false (sym r))
routed_to_app to (what.Cast a b) carried r e = absurd (true_false (sym r))
routed_to_app to (what.Casted k) carried r e = absurd (true_false (sym r))
routed_to_app to what.Stop carried r e = absurd (true_false (sym r))
routed_to_app to (what.Arrive a b) carried r e = absurd (true_false (sym r))
routed_to_app to (what.Order a b d) carried r e = absurd (true_false (sym r))

abbrev is_put : Letter → Bool
is_put l = elim l.what [ what.PutSelf d ↦ l.sender == 1 | _ ↦ false ]

routed_to_client : (to : ℕ) (w : What) (carried : Load) → is_routed (to, w) ≡ true → post_of to ≡ 1 → is_put (record { sender = 1; what = w; load = carried }) ≡ true
routed_to_client to what.Done carried r e = absurd (omega (arith, sym (ap post_of (eqb-true to 0 r)) ∙ e))
routed_to_client to (what.Request k) carried r e = absurd (omega (arith, sym (ap post_of (eqb-true to 2 r)) ∙ e))
routed_to_client to (what.PutSelf d) carried r e = refl
routed_to_client to (what.Reply k) carried r e = absurd (true_false (sym r))
routed_to_client to (what.Visit a b d) carried r e = absurd (true_false (sym r))
routed_to_client to (what.Visited k) carried r e = absurd (true_false (sym r))
routed_to_client to (what.Cast a b) carried r e = absurd (true_false (sym r))
routed_to_client to (what.Casted k) carried r e = absurd (true_false (sym r))
routed_to_client to what.Stop carried r e = absurd (true_false (sym r))
routed_to_client to (what.Arrive a b) carried r e = absurd (true_false (sym r))
routed_to_client to (what.Order a b d) carried r e = absurd (true_false (sym r))

put_fits : (l : Letter) → is_put l ≡ true → is_to_client l ≡ true
put_fits l e = at l.what e
  where
    at : (w : What) → is_put (record l { what = w }) ≡ true → is_to_client (record l { what = w }) ≡ true
    at (what.PutSelf d) f = f
    at (what.Reply k) f = absurd (true_false (sym f))
    at (what.Request k) f = absurd (true_false (sym f))
    at what.Done f = absurd (true_false (sym f))
    at (what.Visit a b d) f = absurd (true_false (sym f))
    at (what.Visited k) f = absurd (true_false (sym f))
    at (what.Cast a b) f = absurd (true_false (sym f))
    at (what.Casted k) f = absurd (true_false (sym f))
    at what.Stop f = absurd (true_false (sym f))
    at (what.Arrive a b) f = absurd (true_false (sym f))
    at (what.Order a b d) f = absurd (true_false (sym f))

put_carries : (l : Letter) → is_put l ≡ true → reply_carried l.what l.load ≡ None
put_carries l e = at l.what e
  where
    at : (w : What) → is_put (record l { what = w }) ≡ true → reply_carried w l.load ≡ None
    at (what.PutSelf d) f = refl
    at (what.Reply k) f = absurd (true_false (sym f))
    at (what.Request k) f = absurd (true_false (sym f))
    at what.Done f = absurd (true_false (sym f))
    at (what.Visit a b d) f = absurd (true_false (sym f))
    at (what.Visited k) f = absurd (true_false (sym f))
    at (what.Cast a b) f = absurd (true_false (sym f))
    at (what.Casted k) f = absurd (true_false (sym f))
    at what.Stop f = absurd (true_false (sym f))
    at (what.Arrive a b) f = absurd (true_false (sym f))
    at (what.Order a b d) f = absurd (true_false (sym f))

none_found : {X Y : Type 0} (f : X → Option Y) (test : X → Bool) → ((x : X) → test x ≡ true → f x ≡ None) → (xs : List X) → list_all test xs ≡ true → filter_map f xs ≡ []
none_found f test each [] e = refl
none_found f test each (x ∷ xs) e =
    let both = and_parts (test x) (list_all test xs) e in
    let none = each x both.0 in
    rw none (none_found f test each xs both.1)

-- ---- the letters of sends that go where they should

module _ (sends : List Outgoing) (routed : list_all is_routed (receivers sends) ≡ true) where
  pub app_fits : list_all is_to_app (posted 0 1 sends) ≡ true
  app_fits = posted_test 0 is_to_app (λ o r e. routed_to_app o.to o.what o.load r e) sends routed

  puts : list_all is_put (posted 1 1 sends) ≡ true
  puts = posted_test 1 is_put (λ o r e. routed_to_client o.to o.what o.load r e) sends routed

  pub client_fits : list_all is_to_client (posted 1 1 sends) ≡ true
  client_fits = posted_test 1 is_to_client (λ o r e. put_fits (letter_from 1 o) (routed_to_client o.to o.what o.load r e)) sends routed

  pub none_carried : filter_map (λ (l : Letter). reply_carried l.what l.load) (posted 1 1 sends) ≡ []
  none_carried = none_found (λ (l : Letter). reply_carried l.what l.load) is_put put_carries (posted 1 1 sends) puts

-- all of one sender
said_all : (n : ℕ) (ls : List Letter) → list_all (λ (l : Letter). l.sender == n) ls ≡ true → said_by n ls ≡ map (λ (l : Letter). l.what) ls
said_all n [] e = refl
said_all n (l ∷ ls) e =
    let both = and_parts (l.sender == n) (list_all (λ (x : Letter). x.sender == n) ls) e in
    ap (λ b. map (λ (x : Letter). x.what) (cond b (l ∷ filter (λ (x : Letter). x.sender == n) ls) (filter (λ (x : Letter). x.sender == n) ls))) both.0
    ∙ ap (λ q. l.what ∷ q) (said_all n ls both.1)

pub posted_whats : (thread : ℕ) (sends : List Outgoing) → list_all is_routed (receivers sends) ≡ true → map (λ (l : Letter). l.what) (posted thread 1 sends) ≡ said_by 1 (posted thread 1 sends)
posted_whats thread sends routed = sym (said_all 1 (posted thread 1 sends) (posted_test thread (λ (l : Letter). l.sender == 1) (λ o r e. refl) sends routed))

-- requests, each with the operands of its op
routed_to_owner : (s : Script) (ops : List Op) (to : ℕ) (w : What) (carried : Load) → ops_of s 1 ≡ ops → is_routed (to, w) ≡ true → post_of to ≡ 2
    → IsOfOps ops (record { to = to; what = w; load = carried }) → IsToOwner s (record { sender = 1; what = w; load = carried })
routed_to_owner s ops to (what.Request k) carried e r f of = (refl, of.0, ap (λ q. slice_get q k) e ∙ of.1, of.3)
routed_to_owner s ops to what.Done carried e r f of = absurd (omega (arith, sym (ap post_of (eqb-true to 0 r)) ∙ f))
routed_to_owner s ops to (what.PutSelf d) carried e r f of = absurd (omega (arith, sym (ap post_of (eqb-true to 1 r)) ∙ f))
routed_to_owner s ops to (what.Reply k) carried e r f of = absurd (true_false (sym r))
routed_to_owner s ops to (what.Visit a b d) carried e r f of = absurd (true_false (sym r))
routed_to_owner s ops to (what.Visited k) carried e r f of = absurd (true_false (sym r))
routed_to_owner s ops to (what.Cast a b) carried e r f of = absurd (true_false (sym r))
routed_to_owner s ops to (what.Casted k) carried e r f of = absurd (true_false (sym r))
routed_to_owner s ops to what.Stop carried e r f of = absurd (true_false (sym r))
routed_to_owner s ops to (what.Arrive a b) carried e r f of = absurd (true_false (sym r))
routed_to_owner s ops to (what.Order a b d) carried e r f of = absurd (true_false (sym r))

pub owner_fits_all : (s : Script) (ops : List Op) (sends : List Outgoing) → ops_of s 1 ≡ ops → list_all is_routed (receivers sends) ≡ true → AllOfOps ops sends → All (IsToOwner s) (posted 2 1 sends)
owner_fits_all s ops [] e r all = All-nil (IsToOwner s)
owner_fits_all s ops (o ∷ sends) e r all =
    let both = and_parts (is_routed (o.to, o.what)) (list_all is_routed (receivers sends)) r in
    at (post_of o.to == 2) refl both.0 (All-head (IsOfOps ops) o sends all) (owner_fits_all s ops sends e both.1 (All-rest (IsOfOps ops) o sends (o ∷ sends) refl all))
  where
    at : (b : Bool) → (post_of o.to == 2) ≡ b → is_routed (o.to, o.what) ≡ true → IsOfOps ops o → All (IsToOwner s) (posted 2 1 sends)
        → All (IsToOwner s) (map (letter_from 1) (cond b (o ∷ filter (λ (x : Outgoing). post_of x.to == 2) sends) (filter (λ (x : Outgoing). post_of x.to == 2) sends)))
    at true f one of rest = All-cons (IsToOwner s) (letter_from 1 o) (posted 2 1 sends) (routed_to_owner s ops o.to o.what o.load e one (eqb-true (post_of o.to) 2 f) of) rest
    at false f one of rest = rest

-- ---- counts

counted : (thread : ℕ) (p : Letter → Bool) (o : Outgoing) (sends : List Outgoing) → count_by p (posted thread 1 (o ∷ sends)) ≡ count_by p (cond (post_of o.to == thread) (letter_from 1 o ∷ []) []) + count_by p (posted thread 1 sends)
counted thread p o sends =
    ap (count_by p) (posted_append thread 1 (o ∷ []) sends) ∙ count_append p (posted thread 1 (o ∷ [])) (posted thread 1 sends)
    ∙ ap (λ q. count_by p q + count_by p (posted thread 1 sends)) (posted_one thread 1 o (post_of o.to) refl)

one_put : (to : ℕ) (w : What) (carried : Load) → is_routed (to, w) ≡ true
    → count_by (λ (l : Letter). is_putself 0 l.what) (cond (post_of to == 1) (record { sender = 1; what = w; load = carried } ∷ []) []) ≡ cond (is_putself 0 w) 1 0
one_put to (what.PutSelf d) carried r = ap (λ n. count_by (λ (l : Letter). is_putself 0 l.what) (cond (post_of n == 1) (record { sender = 1; what = what.PutSelf d; load = carried } ∷ []) [])) (eqb-true to 1 r) ∙ count_one (λ (l : Letter). is_putself 0 l.what) (record { sender = 1; what = what.PutSelf d; load = carried })
one_put to (what.Request k) carried r = ap (λ n. count_by (λ (l : Letter). is_putself 0 l.what) (cond (post_of n == 1) (record { sender = 1; what = what.Request k; load = carried } ∷ []) [])) (eqb-true to 2 r)
one_put to what.Done carried r = ap (λ n. count_by (λ (l : Letter). is_putself 0 l.what) (cond (post_of n == 1) (record { sender = 1; what = what.Done; load = carried } ∷ []) [])) (eqb-true to 0 r)
one_put to (what.Reply k) carried r = absurd (true_false (sym r))
one_put to (what.Visit a b d) carried r = absurd (true_false (sym r))
one_put to (what.Visited k) carried r = absurd (true_false (sym r))
one_put to (what.Cast a b) carried r = absurd (true_false (sym r))
one_put to (what.Casted k) carried r = absurd (true_false (sym r))
one_put to what.Stop carried r = absurd (true_false (sym r))
one_put to (what.Arrive a b) carried r = absurd (true_false (sym r))
one_put to (what.Order a b d) carried r = absurd (true_false (sym r))

pub puts_counted : (sends : List Outgoing) → list_all is_routed (receivers sends) ≡ true → count_by (λ (l : Letter). is_putself 0 l.what) (posted 1 1 sends) ≡ putselfs_to 0 sends
puts_counted [] r = refl
puts_counted (o ∷ sends) r =
    let both = and_parts (is_routed (o.to, o.what)) (list_all is_routed (receivers sends)) r in
    omega (arith, counted 1 (λ (l : Letter). is_putself 0 l.what) o sends, one_put o.to o.what o.load both.0, puts_counted sends both.1, count_cons (λ (x : Outgoing). is_putself 0 x.what) o sends)

one_request : (j to : ℕ) (w : What) (carried : Load) → is_routed (to, w) ≡ true
    → count_by (λ (l : Letter). is_request_of j l.what) (cond (post_of to == 2) (record { sender = 1; what = w; load = carried } ∷ []) []) ≡ count_by (λ (i : ℕ). i == j) (option_to_list (requested w))
one_request j to (what.Request k) carried r = ap (λ n. count_by (λ (l : Letter). is_request_of j l.what) (cond (post_of n == 2) (record { sender = 1; what = what.Request k; load = carried } ∷ []) [])) (eqb-true to 2 r) ∙ count_one (λ (l : Letter). is_request_of j l.what) (record { sender = 1; what = what.Request k; load = carried }) ∙ sym (count_one (λ (i : ℕ). i == j) k)
one_request j to (what.PutSelf d) carried r = ap (λ n. count_by (λ (l : Letter). is_request_of j l.what) (cond (post_of n == 2) (record { sender = 1; what = what.PutSelf d; load = carried } ∷ []) [])) (eqb-true to 1 r)
one_request j to what.Done carried r = ap (λ n. count_by (λ (l : Letter). is_request_of j l.what) (cond (post_of n == 2) (record { sender = 1; what = what.Done; load = carried } ∷ []) [])) (eqb-true to 0 r)
one_request j to (what.Reply k) carried r = absurd (true_false (sym r))
one_request j to (what.Visit a b d) carried r = absurd (true_false (sym r))
one_request j to (what.Visited k) carried r = absurd (true_false (sym r))
one_request j to (what.Cast a b) carried r = absurd (true_false (sym r))
one_request j to (what.Casted k) carried r = absurd (true_false (sym r))
one_request j to what.Stop carried r = absurd (true_false (sym r))
one_request j to (what.Arrive a b) carried r = absurd (true_false (sym r))
one_request j to (what.Order a b d) carried r = absurd (true_false (sym r))

pub requests_counted : (j : ℕ) (sends : List Outgoing) → list_all is_routed (receivers sends) ≡ true
    → count_by (λ (l : Letter). is_request_of j l.what) (posted 2 1 sends) ≡ count_by (λ (i : ℕ). i == j) (filter_map (λ (o : Outgoing). requested o.what) sends)
requests_counted j [] r = refl
requests_counted j (o ∷ sends) r =
    let both = and_parts (is_routed (o.to, o.what)) (list_all is_routed (receivers sends)) r in
    let split = ap (count_by (λ (i : ℕ). i == j)) (filter_map_one (λ (x : Outgoing). requested x.what) o sends)
    ∙ count_append (λ (i : ℕ). i == j) (option_to_list (requested o.what)) (filter_map (λ (x : Outgoing). requested x.what) sends) in
    omega (arith, counted 2 (λ (l : Letter). is_request_of j l.what) o sends, one_request j o.to o.what o.load both.0, requests_counted j sends both.1, split)
