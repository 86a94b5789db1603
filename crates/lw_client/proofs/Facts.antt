-- What an op says of its task.
use Rattle.std.proofs.Common.{◌≡◌, ℕ, zero, suc, ◌<◌, ◌≤◌, ◌==◌, true, false, List, [], ◌∷◌, length, Option, Some, None, slice_get, refl, ap, subst, ◌∙◌, arith}
use Rattle.std.specs.Prelude.{option_map, option_and_then}
use Rattle.lw_model.specs.declared.script.Script.{Script}
use Rattle.lw_model.specs.declared.script.Op.{Op}
use Rattle.lw_model.specs.declared.script.Op.TheVariants as op
use Rattle.lw_model.specs.ScriptRules.{image_of}
use Rattle.lw_model.specs.Threads.{is_client, op_at, image_at, is_on}
use Rattle.lw_pool.specs.declared.class.Class.{Class}
use Rattle.lw_ops.specs.declared.task.Task.{Task}
use Rattle.lw_ops.specs.declared.task.Task.TheVariants as task
use Rattle.lw_ops.specs.Tasks.{MayStart, task_for}
use Rattle.lw_client.specs.Clients.{lends, is_class}

-- an element that is there stands below the length
pub is_below : {X : Type 0} (xs : List X) (k : ℕ) (x : X) → slice_get xs k ≡ Some x → k < length xs
is_below [] k x e = absurd (cc)
is_below (y ∷ ys) zero x e = omega arith
is_below (y ∷ ys) (suc k) x e = let r = is_below ys k x e in omega (arith, r)

pub is_past : {X : Type 0} (xs : List X) (k : ℕ) → slice_get xs k ≡ None → length xs ≤ k
is_past [] k e = omega arith
is_past (y ∷ ys) zero e = absurd (cc)
is_past (y ∷ ys) (suc k) e = let r = is_past ys k e in omega (arith, r)

-- what is mapped to something is something
pub mapped : {X Y : Type 0} (f : X → Y) (q : Option X) (y : Y) → option_map f q ≡ Some y → (x : X) × (q ≡ Some x) × (f x ≡ y)
mapped f None y e = absurd (cc)
mapped f (Some x) y e = (x, refl, some_is e)
  where
    some_is : Some (f x) ≡ Some y → f x ≡ y
    some_is e = cc

pub not_mapped : {X Y : Type 0} (f : X → Y) (q : Option X) → option_map f q ≡ None → q ≡ None
not_mapped f None e = refl
not_mapped f (Some x) e = absurd (cc)

-- the image of a task
abbrev pub task_image : Task → Option ℕ
task_image (task.Get d) = Some d
task_image (task.Put d) = Some d
task_image (task.Ask d) = Some d
task_image (task.Read d class) = Some d
task_image (task.Wait ticks) = None
task_image (task.Visit d) = Some d
task_image task.Each = None
task_image (task.Unregister d) = Some d

pub image_is : (s : Script) (o : Op) → image_of o ≡ task_image (task_for s o)
image_is s (op.Get d) = refl
image_is s (op.Put d) = refl
image_is s (op.Write d start count pattern) = refl
image_is s (op.Read d start count) = refl
image_is s (op.Flush d) = refl
image_is s (op.Wait ticks) = refl
image_is s (op.Visit d) = refl
image_is s op.Each = refl
image_is s (op.Unregister d) = refl

-- which class a task lends a buffer of
abbrev pub task_lends : Class → Task → ℕ
task_lends class (task.Read d c) = is_class class c
task_lends class _ = 0

pub lends_is : (s : Script) (class : Class) (o : Op) → lends s class (Some o) ≡ task_lends class (task_for s o)
lends_is s class (op.Get d) = refl
lends_is s class (op.Put d) = refl
lends_is s class (op.Write d start count pattern) = refl
lends_is s class (op.Read d start count) = refl
lends_is s class (op.Flush d) = refl
lends_is s class (op.Wait ticks) = refl
lends_is s class (op.Visit d) = refl
lends_is s class op.Each = refl
lends_is s class (op.Unregister d) = refl

-- an op of an image that may start names one that there is
pub in_images : (s : Script) (o : Op) (d : ℕ) → image_of o ≡ Some d → MayStart s o → d < length s.images
in_images s (op.Get x) d e m = subst (λ n. n < length s.images) (let same : x ≡ d = cc in same) m
in_images s (op.Put x) d e m = subst (λ n. n < length s.images) (let same : x ≡ d = cc in same) m
in_images s (op.Write x start count pattern) d e m = subst (λ n. n < length s.images) (let same : x ≡ d = cc in same) m.0
in_images s (op.Read x start count) d e m = subst (λ n. n < length s.images) (let same : x ≡ d = cc in same) m.0
in_images s (op.Flush x) d e m = subst (λ n. n < length s.images) (let same : x ≡ d = cc in same) m
in_images s (op.Wait ticks) d e m = absurd (cc)
in_images s (op.Visit x) d e m = subst (λ n. n < length s.images) (let same : x ≡ d = cc in same) m
in_images s op.Each d e m = absurd (cc)
in_images s (op.Unregister x) d e m = subst (λ n. n < length s.images) (let same : x ≡ d = cc in same) m

-- the ops of tasks that are no requests, puts or gets
pub is_wait : (s : Script) (o : Op) (n : ℕ) → task_for s o ≡ task.Wait n → o ≡ op.Wait n
is_wait s (op.Get d) n e = absurd (cc)
is_wait s (op.Put d) n e = absurd (cc)
is_wait s (op.Write d start count pattern) n e = absurd (cc)
is_wait s (op.Read d start count) n e = absurd (cc)
is_wait s (op.Flush d) n e = absurd (cc)
is_wait s (op.Wait ticks) n e = cc
is_wait s (op.Visit d) n e = absurd (cc)
is_wait s op.Each n e = absurd (cc)
is_wait s (op.Unregister d) n e = absurd (cc)

pub is_visit : (s : Script) (o : Op) (n : ℕ) → task_for s o ≡ task.Visit n → o ≡ op.Visit n
is_visit s (op.Get d) n e = absurd (cc)
is_visit s (op.Put d) n e = absurd (cc)
is_visit s (op.Write d start count pattern) n e = absurd (cc)
is_visit s (op.Read d start count) n e = absurd (cc)
is_visit s (op.Flush d) n e = absurd (cc)
is_visit s (op.Wait ticks) n e = absurd (cc)
is_visit s (op.Visit d) n e = cc
is_visit s op.Each n e = absurd (cc)
is_visit s (op.Unregister d) n e = absurd (cc)

pub is_each : (s : Script) (o : Op) → task_for s o ≡ task.Each → o ≡ op.Each
is_each s (op.Get d) e = absurd (cc)
is_each s (op.Put d) e = absurd (cc)
is_each s (op.Write d start count pattern) e = absurd (cc)
is_each s (op.Read d start count) e = absurd (cc)
is_each s (op.Flush d) e = absurd (cc)
is_each s (op.Wait ticks) e = absurd (cc)
is_each s (op.Visit d) e = absurd (cc)
is_each s op.Each e = refl
is_each s (op.Unregister d) e = absurd (cc)

-- an op of a client stands on its image and on no other
pub is_on_its : (s : Script) (t k d e : ℕ) (o : Op) → is_client s t ≡ true → op_at s t k ≡ Some o → image_of o ≡ Some d → is_on s t e k ≡ (d == e)
is_on_its s zero k d e o c at i = absurd (cc)
is_on_its s (suc t) k d e o c at i = on (ap (option_and_then image_of) at ∙ i)
  where
    on : image_at s (suc t) k ≡ Some d → is_on s (suc t) e k ≡ (d == e)
    on h = ap (λ q. elim q [ None ↦ false | Some x ↦ x == e ]) h
