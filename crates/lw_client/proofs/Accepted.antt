-- The clients of a script that breaks no rule may begin.
use Rattle.std.proofs.Common.{◌≡◌, ℕ, zero, suc, ◌+◌, ◌≤◌, nat_le, Bool, true, List, [], ◌∷◌, ◌++◌, map, length, Option, Some, None, slice_get, refl, subst, arith, length-append}
use Rattle.std.specs.Prelude.{unwrap_or, option_map, flat_map}
use Rattle.std.specs.List.{AllByRecursion, list_all, enumerate_from}
use Rattle.std.proofs.lemmas.Bool.{and_parts, leb-true, ltb-true}
use Rattle.lw_base.proofs.Lists.{none_mapped}
use Rattle.lw_model.specs.declared.script.Script.{Script}
use Rattle.lw_model.specs.declared.script.ClientOf.{ClientOf}
use Rattle.lw_model.specs.declared.script.Op.{Op}
use Rattle.lw_model.specs.declared.script.Op.TheVariants as op
use Rattle.lw_model.specs.declared.refusal.ScriptRefusal.TheVariants.{Limit, Range, Pattern}
use Rattle.lw_model.specs.ScriptRules.{Placed, all_ops, placed_ops, first_out_of_range, first_bad_pattern, has_client_count, has_op_count, has_wait_times, names_an_image, waits_within, is_in_image, is_in_range, is_pattern, rule_answers, rule_broken}
use Rattle.lw_model.specs.Threads.{is_client, depth_of, ops_of, op_at}
use Rattle.lw_model.proofs.Rules.{each-none, kept, each_passes, image_count-kept, names-kept}
use Rattle.lw_mail.specs.Runs.{Run}
use Rattle.lw_client.specs.Clients.{IsClientOf}
use Rattle.lw_ops.specs.Tasks.{MayStart}

first_all : {X : Type 0} (P : X → Type 0) (xs ys : List X) → AllByRecursion P (xs ++ ys) → AllByRecursion P xs
first_all P [] ys h = tt
first_all P (x ∷ xs) ys h = (h.0, first_all P xs ys h.1)

rest_all : {X : Type 0} (P : X → Type 0) (xs ys : List X) → AllByRecursion P (xs ++ ys) → AllByRecursion P ys
rest_all P [] ys h = h
rest_all P (x ∷ xs) ys h = rest_all P xs ys h.1

at_all : {X : Type 0} (P : X → Type 0) (xs : List X) (k : ℕ) (x : X) → AllByRecursion P xs → slice_get xs k ≡ Some x → P x
at_all P [] k x h e = absurd (cc)
at_all P (y ∷ ys) zero x h e = subst P (let same : y ≡ x = cc in same) h.0
at_all P (y ∷ ys) (suc k) x h e = at_all P ys k x h.1 e

-- what each op of a script passes
abbrev op_of : List ClientOf → ℕ → ℕ → Option Op
op_of cs c k = slice_get (unwrap_or (option_map (λ (x : ClientOf). x.ops) (slice_get cs c)) []) k

all_tested : (p : Op → Bool) (xs ys : List Op) → list_all p (xs ++ ys) ≡ true → AllByRecursion (λ o. p o ≡ true) xs × (list_all p ys ≡ true)
all_tested p [] ys e = (tt, e)
all_tested p (x ∷ xs) ys e =
    let parts = and_parts (p x) (list_all p (xs ++ ys)) e in
    let rest = all_tested p xs ys parts.1 in
    ((parts.0, rest.0), rest.1)

tested : (p : Op → Bool) (cs : List ClientOf) (c k : ℕ) (o : Op) → list_all p (flat_map (λ (x : ClientOf). x.ops) cs) ≡ true → op_of cs c k ≡ Some o → p o ≡ true
tested p [] c k o e at = absurd (cc)
tested p (x ∷ cs) zero k o e at = at_all (λ o. p o ≡ true) x.ops k o (all_tested p x.ops (flat_map (λ (x : ClientOf). x.ops) cs) e).0 at
tested p (x ∷ cs) (suc c) k o e at = tested p cs c k o (all_tested p x.ops (flat_map (λ (x : ClientOf). x.ops) cs) e).1 at

placed_each : (Q : Op → Type 0) (client n : ℕ) (ops : List Op) → AllByRecursion (λ (p : Placed). Q p.op) (map (λ o. record { client = client; place = o.0; op = o.1 }) (enumerate_from n ops)) → AllByRecursion Q ops
placed_each Q client n [] h = tt
placed_each Q client n (o ∷ ops) h = (h.0, placed_each Q client (n + 1) ops h.1)

abbrev placed_from : ℕ → List ClientOf → List Placed
placed_from n cs = flat_map (λ c. map (λ o. record { client = c.0; place = o.0; op = o.1 }) (enumerate_from 0 c.1.ops)) (enumerate_from n cs)

placed_at : (Q : Op → Type 0) (n : ℕ) (cs : List ClientOf) (c k : ℕ) (o : Op) → AllByRecursion (λ (p : Placed). Q p.op) (placed_from n cs) → op_of cs c k ≡ Some o → Q o
placed_at Q n [] c k o h at = absurd (cc)
placed_at Q n (x ∷ cs) zero k o h at = at_all Q x.ops k o (placed_each Q n 0 x.ops (first_all (λ (p : Placed). Q p.op) (map (λ o. record { client = n; place = o.0; op = o.1 }) (enumerate_from 0 x.ops)) (placed_from (n + 1) cs) h)) at
placed_at Q n (x ∷ cs) (suc c) k o h at = placed_at Q (n + 1) cs c k o (rest_all (λ (p : Placed). Q p.op) (map (λ o. record { client = n; place = o.0; op = o.1 }) (enumerate_from 0 x.ops)) (placed_from (n + 1) cs) h) at

-- a client's ops are among all
fewer_ops : (cs : List ClientOf) (c : ℕ) → length (unwrap_or (option_map (λ (x : ClientOf). x.ops) (slice_get cs c)) []) ≤ length (flat_map (λ (x : ClientOf). x.ops) cs)
fewer_ops [] c = omega arith
fewer_ops (x ∷ cs) zero = let l = length-append x.ops (flat_map (λ (x : ClientOf). x.ops) cs) in omega (arith, l)
fewer_ops (x ∷ cs) (suc c) =
    let l = length-append x.ops (flat_map (λ (x : ClientOf). x.ops) cs) in
    let r = fewer_ops cs c in
    omega (arith, l, r)

-- what the range of a request is
abbrev IsInRange : Script → Op → Type 0
IsInRange s (op.Write d start count pattern) = is_in_image s d start count ≡ true
IsInRange s (op.Read d start count) = is_in_image s d start count ≡ true
IsInRange s _ = Unit {0}

in_range : (s : Script) (before : List Op) (o : Op) → is_in_range s before o ≡ true → IsInRange s o
in_range s before (op.Write d start count pattern) e = e
in_range s before (op.Read d start count) e = (and_parts (is_in_image s d start count) _ e).0
in_range s before (op.Flush d) e = tt
in_range s before (op.Get d) e = tt
in_range s before (op.Put d) e = tt
in_range s before (op.Wait d) e = tt
in_range s before (op.Visit d) e = tt
in_range s before op.Each e = tt
in_range s before (op.Unregister d) e = tt

may_start : (s : Script) (o : Op) → names_an_image s o ≡ true → waits_within o ≡ true → IsInRange s o → is_pattern o ≡ true → MayStart s o
may_start s (op.Get d) n w r p = ltb-true d (length s.images) n
may_start s (op.Put d) n w r p = ltb-true d (length s.images) n
may_start s (op.Write d start count pattern) n w r p = (ltb-true d (length s.images) n, r, leb-true 1 (length pattern) (and_parts (nat_le 1 (length pattern)) (nat_le (length pattern) 64) p).0)
may_start s (op.Read d start count) n w r p = (ltb-true d (length s.images) n, r)
may_start s (op.Flush d) n w r p = ltb-true d (length s.images) n
may_start s (op.Wait ticks) n w r p = leb-true 1 ticks (and_parts (nat_le 1 ticks) (nat_le ticks 1000000000) w).0
may_start s (op.Visit d) n w r p = ltb-true d (length s.images) n
may_start s op.Each n w r p = tt
may_start s (op.Unregister d) n w r p = ltb-true d (length s.images) n

module _ (s : Script) (ok : rule_broken s ≡ None) where
  names : list_all (names_an_image s) (all_ops s) ≡ true
  names = (and_parts _ (list_all (names_an_image s) (all_ops s)) (names-kept s ok)).1

  waits : list_all waits_within (all_ops s) ≡ true
  waits = kept (rule_answers s) 8 (has_wait_times s) (Limit 9) ok refl

  few_ops : length (all_ops s) ≤ 100000
  few_ops = leb-true (length (all_ops s)) 100000 (kept (rule_answers s) 5 (has_op_count s) (Limit 6) ok refl)

  ranges : AllByRecursion (λ (p : Placed). IsInRange s p.op) (placed_ops s)
  ranges = each_passes (is_in_range s) (IsInRange s) (in_range s) [] (placed_ops s)
      (none_mapped (λ p. p.1) _ (none_mapped (λ (p : Placed). Range p.client p.place) (first_out_of_range s) (each-none (rule_answers s) 10 (option_map (λ p. Range p.client p.place) (first_out_of_range s)) ok refl)))

  patterns : AllByRecursion (λ (p : Placed). is_pattern p.op ≡ true) (placed_ops s)
  patterns = each_passes (λ _. is_pattern) (λ o. is_pattern o ≡ true) (λ before o e. e) [] (placed_ops s)
      (none_mapped (λ p. p.1) _ (none_mapped (λ (p : Placed). Pattern p.client p.place) (first_bad_pattern s) (each-none (rule_answers s) 11 (option_map (λ p. Pattern p.client p.place) (first_bad_pattern s)) ok refl)))

  ops_start : (t k : ℕ) (o : Op) → op_at s t k ≡ Some o → MayStart s o
  ops_start zero k o at = absurd (cc)
  ops_start (suc c) k o at = may_start s o (tested (names_an_image s) s.clients c k o names at) (tested waits_within s.clients c k o waits at) (placed_at (IsInRange s) 0 s.clients c k o ranges at) (placed_at (λ o. is_pattern o ≡ true) 0 s.clients c k o patterns at)

  few_of : (t : ℕ) → length (ops_of s t) ≤ 100000
  few_of zero = omega arith
  few_of (suc c) = let f = fewer_ops s.clients c in omega (arith, f, few_ops)

pub may_begin : (r : Run) (t : ℕ) → rule_broken r.script ≡ None → is_client r.script t ≡ true → length r.registry ≡ length r.script.images → IsClientOf r r.script t (depth_of r.script t)
may_begin r t ok client devices =
    let s = r.script in
    let images = and_parts (nat_le 1 (length s.images)) (nat_le (length s.images) 16) (image_count-kept s ok) in
    let clients = and_parts (nat_le 1 (length s.clients)) (nat_le (length s.clients) 64) (kept (rule_answers s) 3 (has_client_count s) (Limit 4) ok refl) in
    record {
      script_is = refl;
      client = client;
      depth_is = refl;
      devices = devices;
      few_images = leb-true (length s.images) 16 images.1;
      few_clients = leb-true (length s.clients) 64 clients.1;
      few_ops = few_of s ok t;
      ops = ops_start s ok t;
    }
