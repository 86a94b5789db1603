-- What the parts of an owner's premises come to.
use Rattle.std.proofs.Common.{◌≡◌, ℕ, zero, suc, ◌+◌, ◌*◌, ◌<◌, ◌≤◌, nat_lt, nat_le, Bool, true, false, ◌&&◌, List, [], ◌∷◌, length, Option, Some, None, slice_get, refl, sym, ap, subst, ◌∙◌, arith, inl, inr}
use Rattle.std.specs.Prelude.{unwrap_or, option_map, if◌then◌else◌}
use Rattle.std.proofs.lemmas.Bool.{and_parts, leb-true, cases_lt}
use Rattle.lw_base.specs.Letters.{FitsRing}
use Rattle.lw_model.specs.declared.script.Script.{Script}
use Rattle.lw_model.specs.declared.script.Op.{Op}
use Rattle.lw_model.specs.declared.script.Op.TheVariants as op
use Rattle.lw_model.specs.declared.script.ClientOf.{ClientOf}
use Rattle.lw_model.specs.ScriptRules.{block_at, blocks_at, is_in_image}
use Rattle.lw_model.specs.Threads.{owner_of, op_at, thread_count}
use Rattle.lw_pool.specs.PoolEnds.{BufferEnd}
use Rattle.lw_pool.specs.Sizes.{size_of}
use Rattle.lw_pool.specs.declared.class.Class.TheVariants.{Small, Large}
use Rattle.lw_image.specs.Image.{HasRange}
use Rattle.lw_thread.specs.Acts.{Known, Asks}
use Rattle.lw_whole.specs.Letters.{Letter}
use Rattle.lw_mail.specs.Runs.{Run}
use Rattle.lw_mail.specs.Fitting.{Fits, MayAsk, MayRead, class_for, fits_mail}
use Rattle.lw_mail.specs.declared.mail.Mail.{Mail}
use Rattle.lw_owner.specs.declared.owner.Owner.{Owner}
use Rattle.lw_owner.specs.Serving.{IsOwnerOf, CanRun, CanRead}
use Rattle.lw_owner.specs.Keeping.{Keeps}

-- who has an op is a client
pub is_a_client : (s : Script) (c k : ℕ) (o : Op) → op_at s c k ≡ Some o → c < thread_count s
is_a_client s zero k o e = omega arith
is_a_client s (suc c) k o e = elim (cases_lt c (length s.clients)) [
  | inl within ↦ omega (arith, within)
  | inr out ↦ absurd (none (slice_get s.clients c) (past s.clients c out) e)
]
  where
    past : (xs : List ClientOf) (i : ℕ) → length xs ≤ i → slice_get xs i ≡ None
    past [] i l = refl
    past (x ∷ xs) zero l = absurd (omega (arith, l))
    past (x ∷ xs) (suc i) l = past xs i (omega (arith, l))

    none : (q : Option ClientOf) → q ≡ None → slice_get (unwrap_or (option_map (λ (x : ClientOf). x.ops) q) []) k ≡ Some o → ⊥
    none None refl e = absurd (cc)
    none (Some q) e f = absurd (cc)

module _ (r : Run) (b : Owner) (own : IsOwnerOf r b) where
  same_device : (d : ℕ) → b.thread ≡ owner_of r.script d → d ≡ own.device
  same_device d e = omega (arith, e, own.thread)

  pub block_is : (d : ℕ) → b.thread ≡ owner_of r.script d → block_at r.script d ≡ b.image.block
  block_is d e = ap (block_at r.script) (same_device d e) ∙ sym own.block

  -- the parts of a range in the image
  record InRange (d start count : ℕ) : Type 0 where
    pub range : HasRange b.image start count
    pub bytes : count * b.image.block ≤ 131072

  in_range : (d start count : ℕ) → b.thread ≡ owner_of r.script d → is_in_image r.script d start count ≡ true → InRange d start count
  in_range d start count e h =
      let outer = and_parts (nat_lt 0 count && nat_le (start + count) (blocks_at r.script d)) (nat_le (count * block_at r.script d) 131072) h in
      let inner = and_parts (nat_lt 0 count) (nat_le (start + count) (blocks_at r.script d)) outer.0 in
      record {
        range = subst (λ n. start + count ≤ n) (ap (blocks_at r.script) (same_device d e) ∙ sym own.blocks) (leb-true (start + count) (blocks_at r.script d) inner.1);
        bytes = subst (λ n. count * n ≤ 131072) (block_is d e) (leb-true (count * block_at r.script d) 131072 outer.1);
      }

  -- a request that fits can be run
  pub can_run : (o : Op) → MayAsk r.script b.thread (Some o) → CanRun b.image o
  can_run (op.Write d start count pattern) h = ((in_range d start count h.0 h.1).range, h.2)
  can_run (op.Flush d) h = tt
  can_run (op.Read d start count) h = absurd h
  can_run (op.Get d) h = absurd h
  can_run (op.Put d) h = absurd h
  can_run (op.Wait d) h = absurd h
  can_run (op.Visit d) h = absurd h
  can_run op.Each h = absurd h
  can_run (op.Unregister d) h = absurd h

  has_room : (bytes : ℕ) → bytes ≤ 131072 → bytes ≤ size_of (class_for bytes)
  has_room bytes le = at (nat_le bytes 8192) refl
    where
      at : (x : Bool) → nat_le bytes 8192 ≡ x → bytes ≤ size_of (if x then Small else Large)
      at true e = leb-true bytes 8192 e
      at false e = omega (arith, le)

  pub can_read : (o : Op) (buffer : BufferEnd) → MayRead r b.thread buffer (Some o) → CanRead b.image buffer o
  can_read (op.Read d start count) buffer h =
      let within = in_range d start count h.0 h.1 in
      let class = h.2.class ∙ ap (λ n. class_for (count * n)) (block_is d h.0) in
      (within.range, subst (λ c. count * b.image.block ≤ size_of c) (sym class) (has_room (count * b.image.block) within.bytes))
  can_read (op.Write d start count pattern) buffer h = absurd h
  can_read (op.Flush d) buffer h = absurd h
  can_read (op.Get d) buffer h = absurd h
  can_read (op.Put d) buffer h = absurd h
  can_read (op.Wait d) buffer h = absurd h
  can_read (op.Visit d) buffer h = absurd h
  can_read op.Each buffer h = absurd h
  can_read (op.Unregister d) buffer h = absurd h

-- the message fits the run that the owner is of
pub fits_here : (k : Known Letter Run) (a : Asks Letter) (b : Owner) (m : Mail) (h : Keeps k a b) → FitsRing fits_mail k.thread k.family m → Fits b.thread h.run m.content
fits_here k a b m h i = subst (λ t. Fits t h.run m.content) h.number (subst (λ f. FitsRing fits_mail k.thread f m) h.family i)
