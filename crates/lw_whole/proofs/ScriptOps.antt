-- What the ops of an accepted script keep.
use Rattle.std.proofs.Common.{◌≡◌, ℕ, zero, suc, ◌+◌, ◌<◌, ◌≤◌, nat_lt, nat_le, Bool, true, false, ◌&&◌, List, [], ◌∷◌, map, length, Option, Some, None, slice_get, unwrap_or, option_map, refl, sym, ap, subst, ◌∙◌, arith}
use Rattle.std.specs.Prelude.{option_and_then}
use Rattle.std.specs.List.{list_all, flat_map, enumerate_from, AllByRecursion}
use Rattle.std.proofs.lemmas.Bool.{and_parts, ltb-true, false≢true}
use Rattle.lw_base.proofs.Lists.{get_within, none_mapped, all_parts}
use Rattle.lw_model.specs.declared.script.Script.{Script}
use Rattle.lw_model.specs.declared.script.ClientOf.{ClientOf}
use Rattle.lw_model.specs.declared.script.ImageOf.{ImageOf}
use Rattle.lw_model.specs.declared.script.Op.{Op}
use Rattle.lw_model.specs.declared.script.Op.TheVariants as op
use Rattle.lw_model.specs.declared.refusal.ScriptRefusal.TheVariants.{Range}
use Rattle.lw_model.specs.ScriptRules.{rule_broken, rule_answers, first_out_of_range, is_in_range, is_in_image, is_distinct, is_name, names_an_image, image_of, is_among, block_at, all_ops, placed_ops, Placed}
use Rattle.lw_model.specs.Threads.{op_at, image_at}
use Rattle.lw_model.proofs.Passing.{item_passes, list_all-flat_map}
use Rattle.lw_model.proofs.Rules.{each-none, each_passes, names-kept, block_sizes-kept}

-- ---- the ops of a client among all

in_flat : {X Y : Type 0} (P : Y → Type 0) (f : X → List Y) (xs : List X) (k : ℕ) (x : X) → AllByRecursion P (flat_map f xs) → slice_get xs k ≡ Some x → AllByRecursion P (f x)
in_flat P f [] k x h e = cc
in_flat P f (y ∷ xs) zero x h e = subst (λ z. AllByRecursion P (f z)) (same e) (all_parts P (f y) (flat_map f xs) h).0
  where
    same : Some y ≡ Some x → y ≡ x
    same e = cc
in_flat P f (y ∷ xs) (suc k) x h e = in_flat P f xs k x (all_parts P (f y) (flat_map f xs) h).1 e

numbered_get : {X : Type 0} (n : ℕ) (xs : List X) (k : ℕ) (x : X) → slice_get xs k ≡ Some x → (m : ℕ) × (slice_get (enumerate_from n xs) k ≡ Some (m, x))
numbered_get n [] k x e = cc
numbered_get n (y ∷ xs) zero x e = (n, ap (option_map (λ z. (n, z))) e)
numbered_get n (y ∷ xs) (suc k) x e = numbered_get (n + 1) xs k x e

op_holds : (Q : Op → Type 0) (c n : ℕ) (os : List Op) (k : ℕ) (o : Op) → AllByRecursion (λ (p : Placed). Q p.op) (map (λ z. record { client = c; place = z.0; op = z.1 }) (enumerate_from n os)) → slice_get os k ≡ Some o → Q o
op_holds Q c n [] k o h e = cc
op_holds Q c n (x ∷ os) zero o h e = subst Q (same e) h.0
  where
    same : Some x ≡ Some o → x ≡ o
    same e = cc
op_holds Q c n (x ∷ os) (suc k) o h e = op_holds Q c (n + 1) os k o h.1 e

-- a client's op is one of its client's
of_client : (s : Script) (c k : ℕ) (o : Op) → op_at s (suc c) k ≡ Some o → (x : ClientOf) × (slice_get s.clients c ≡ Some x) × (slice_get x.ops k ≡ Some o)
of_client s c k o e = at (slice_get s.clients c) refl e
  where
    at : (m : Option ClientOf) → slice_get s.clients c ≡ m → slice_get (unwrap_or (option_map (λ x. x.ops) m) []) k ≡ Some o → (x : ClientOf) × (slice_get s.clients c ≡ Some x) × (slice_get x.ops k ≡ Some o)
    at None f e = cc
    at (Some x) f e = (x, f, e)

placed_holds : (Q : Op → Type 0) (s : Script) → AllByRecursion (λ (p : Placed). Q p.op) (placed_ops s) → (t k : ℕ) (o : Op) → op_at s t k ≡ Some o → Q o
placed_holds Q s h zero k o e = cc
placed_holds Q s h (suc c) k o e =
    let x = of_client s c k o e in
    let n = numbered_get 0 s.clients c x.0 x.1 in
    op_holds Q n.0 0 x.0.ops k o (in_flat (λ (p : Placed). Q p.op) (λ y. map (λ z. record { client = y.0; place = z.0; op = z.1 }) (enumerate_from 0 y.1.ops)) (enumerate_from 0 s.clients) c (n.0, x.0) h n.1) x.2

-- a read is of one block at least
abbrev pub ReadsSome : Op → Type 0
ReadsSome (op.Read d start count) = 1 ≤ count
ReadsSome _ = Unit {0}

pub reads_some : (s : Script) → rule_broken s ≡ None → (t k : ℕ) (o : Op) → op_at s t k ≡ Some o → ReadsSome o
reads_some s accepted = placed_holds ReadsSome s (each_passes (is_in_range s) ReadsSome means [] (placed_ops s) (none_mapped (λ p. p.1) _ (none_mapped (λ p. Range p.client p.place) (first_out_of_range s) (each-none (rule_answers s) 10 _ accepted refl))))
  where
    means : (before : List Op) (o : Op) → is_in_range s before o ≡ true → ReadsSome o
    means before (op.Read d start count) e =
        let a = and_parts (is_in_image s d start count) _ e in
        let b = and_parts (nat_lt 0 count && nat_le (start + count) _) _ a.0 in
        ltb-true 0 count (and_parts (nat_lt 0 count) _ b.0).0
    means before (op.Get d) e = tt
    means before (op.Put d) e = tt
    means before (op.Write d start count pattern) e = tt
    means before (op.Flush d) e = tt
    means before (op.Wait ticks) e = tt
    means before (op.Visit d) e = tt
    means before op.Each e = tt
    means before (op.Unregister d) e = tt

-- the image of a thread's op is there
pub image_within : (s : Script) → rule_broken s ≡ None → (t k d : ℕ) → image_at s t k ≡ Some d → d < length s.images
image_within s accepted zero k d e = at (nat_lt k (length s.images)) refl e
  where
    at : (b : Bool) → nat_lt k (length s.images) ≡ b → elim b as (λ z. Option ℕ) [ true ↦ Some k | false ↦ None ] ≡ Some d → d < length s.images
    at true f e = subst (λ n. n < length s.images) (same e) (ltb-true k (length s.images) f)
      where
        same : Some k ≡ Some d → k ≡ d
        same e = cc
    at false f e = cc
image_within s accepted (suc c) k d e = of_op (op_at s (suc c) k) refl e
  where
    named : list_all (names_an_image s) (all_ops s) ≡ true
    named = (and_parts (list_all is_name (map (λ i. i.name) s.images) && list_all is_name (map (λ c. c.name) s.clients) && is_distinct (map (λ i. i.name) s.images) && is_distinct (map (λ c. c.name) s.clients)) (list_all (names_an_image s) (all_ops s)) (names-kept s accepted)).1

    of_image : (o : Op) → names_an_image s o ≡ true → image_of o ≡ Some d → d < length s.images
    of_image o e f = ltb-true d (length s.images) (sym (ap (λ (m : Option ℕ). unwrap_or (option_map (λ n. nat_lt n (length s.images)) m) true) f) ∙ e)

    of_op : (m : Option Op) → op_at s (suc c) k ≡ m → option_and_then image_of m ≡ Some d → d < length s.images
    of_op None f e = cc
    of_op (Some o) f e =
        let x = of_client s c k o f in
        let all = item_passes (λ (x : ClientOf). list_all (names_an_image s) x.ops) s.clients c x.0 (sym (list_all-flat_map (names_an_image s) (λ (x : ClientOf). x.ops) s.clients) ∙ named) x.1 in
        of_image o (item_passes (names_an_image s) x.0.ops k o all x.2) e

-- a block has bytes
pub block_some : (s : Script) → rule_broken s ≡ None → (d : ℕ) → d < length s.images → 1 ≤ block_at s d
block_some s accepted d less =
    let i = get_within s.images d less in
    subst (λ b. 1 ≤ b) (sym (ap (λ (o : Option ImageOf). unwrap_or (option_map (λ (x : ImageOf). x.block) o) 0) i.1))
    (some i.0.block (item_passes (λ (x : ImageOf). is_among (16 ∷ 32 ∷ 64 ∷ 128 ∷ 256 ∷ 512 ∷ 1024 ∷ 2048 ∷ 4096 ∷ []) x.block) s.images d i.0 (block_sizes-kept s accepted) i.1))
  where
    some : (b : ℕ) → is_among (16 ∷ 32 ∷ 64 ∷ 128 ∷ 256 ∷ 512 ∷ 1024 ∷ 2048 ∷ 4096 ∷ []) b ≡ true → 1 ≤ b
    some zero e = absurd (false≢true e)
    some (suc b) e = omega arith
