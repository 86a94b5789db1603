-- Threads by their number: the app is 0, the clients follow in script order, and the owners of the images in image order.
use Rattle.std.specs.Prelude.{ℕ, zero, suc, ◌+◌, ◌==◌, Bool, true, false, ◌&&◌, nat_lt, nat_le, List, [], length, ◌<◌, IsTrue, Option, Some, None, unwrap_or, option_map, option_and_then, slice_get}
use Rattle.std.specs.List.{range_with_len}
use Rattle.lw_model.specs.declared.script.Script.{Script}
use Rattle.lw_model.specs.declared.script.Op.{Op}
use Rattle.lw_model.specs.ScriptRules.{image_of}
use Rattle.lw_base.specs.declared.message.Tag.{Tag}
use Rattle.lw_model.specs.declared.record.Record.{Record}
use Rattle.lw_model.specs.declared.record.ThreadRecord.{ThreadRecord}
use Rattle.lw_model.specs.declared.record.Did.{Did}

-- the app, the clients and the owners
abbrev pub thread_count : Script → ℕ
thread_count s = 1 + length s.clients + length s.images

-- the owner of image d
abbrev pub owner_of : Script → ℕ → ℕ
owner_of s d = 1 + length s.clients + d

-- thread t is a client
abbrev pub is_client : Script → ℕ → Bool
is_client s t = nat_lt 0 t && nat_le t (length s.clients)

-- thread t is an owner
abbrev pub is_owner : Script → ℕ → Bool
is_owner s t = nat_lt (length s.clients) t

-- the numbers of all threads, of all clients and of all images
abbrev pub threads : Script → List ℕ
threads s = range_with_len 0 (thread_count s)

abbrev pub clients : Script → List ℕ
clients s = range_with_len 1 (length s.clients)

abbrev pub images : Script → List ℕ
images s = range_with_len 0 (length s.images)

-- the ops of a client; none of another thread
abbrev pub ops_of : Script → ℕ → List Op
ops_of s zero = []
ops_of s (suc c) = unwrap_or (option_map (λ x. x.ops) (slice_get s.clients c)) []

-- how many requests of a client may be unanswered at once
abbrev pub depth_of : Script → ℕ → ℕ
depth_of s zero = 0
depth_of s (suc c) = unwrap_or (option_map (λ x. x.depth) (slice_get s.clients c)) 0

-- the op with number k of a thread
abbrev pub op_at : Script → ℕ → ℕ → Option Op
op_at s t k = slice_get (ops_of s t) k

-- the image of the op with number k of a thread; the app's op k is device k
abbrev pub image_at : Script → ℕ → ℕ → Option ℕ
image_at s zero k = elim (nat_lt k (length s.images)) [ true ↦ Some k | false ↦ None ]
image_at s (suc c) k = option_and_then image_of (op_at s (suc c) k)

-- whether the op with number k of thread t is on image d
abbrev pub is_on : Script → ℕ → ℕ → ℕ → Bool
is_on s t d k = elim (image_at s t k) [ None ↦ false | Some e ↦ e == d ]

-- what is listed under a thread; nothing under a thread that is not there
abbrev pub of_thread : {X : Type 0} → (ThreadRecord → List X) → Record → ℕ → List X
of_thread f r t = unwrap_or (option_map f (slice_get r.threads t)) []

-- the messages that a thread ran
abbrev pub ran_of : Record → ℕ → List Tag
ran_of r t = of_thread (λ x. x.ran) r t

-- the `did` lines of a thread
abbrev pub did_of : Record → ℕ → List Did
did_of r t = of_thread (λ x. x.did) r t

-- what holds of each thread of the script
abbrev pub EachThread : Record → (ℕ → Type 0) → Type 0
EachThread r P = (t : ℕ) → t < thread_count r.script → P t

-- what holds of each client
abbrev pub EachClient : Record → (ℕ → Type 0) → Type 0
EachClient r P = (t : ℕ) → IsTrue (is_client r.script t) → P t
