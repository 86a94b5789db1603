-- What is known once all senders are taken in and the queue was empty.
use Rattle.std.proofs.Common.{◌≡◌, ℕ, List, [], ◌++◌, length, Option, ap, ◌∙◌, subst, sym}
use Rattle.lw_base.specs.declared.message.Tag.{Tag}
use Rattle.lw_latch.specs.RingEnds.{RingEnd}
use Rattle.lw_ring.specs.declared.queue.PassView.{PassView}
use Rattle.lw_base.specs.Letters.{sent_by, list_at, total_length}
use Rattle.lw_ring.specs.Queue.{Saw}
use Rattle.lw_ring.specs.Ends.{ReceiverView, Receiving}
use Rattle.lw_ring.proofs.Counts.{below}
use Rattle.lw_ring.proofs.Posts.{settled}
use Rattle.lw_ring.proofs.Rows.{total_length-below}

-- what came off the queue of each sender is what it sent, and nothing more
pub ending : {T L F : Type 0} (letter : T → L) (tag_of : L → Tag) (fits : ℕ → F → T → Type 0) (v w : PassView L F) (more : List L) (senders got : ℕ)
    → ReceiverView v senders got → length v.known ≡ senders → w ≡ record v { got = v.got ++ more } → Saw letter tag_of fits w []
    → ((p : ℕ) → sent_by tag_of p (v.got ++ more) ≡ list_at v.known p) × (length (v.got ++ more) ≡ total_length v.known)
ending {T} {L} {F} letter tag_of fits v w more senders got r all is saw =
    let u : PassView L F = record v { got = v.got ++ more } in
    let made : length v.known ≡ v.made = all ∙ sym r.made in
    let s = settled letter tag_of fits u r.not_fresh r.gets made (subst (λ (x : PassView L F). Saw letter tag_of fits x []) is saw) in
    let same = ap (λ n. below n (λ p. length (list_at v.known p))) made in
    let sum = total_length-below v.known in
    (s.0, s.1 ∙ sym same ∙ sym sum)

pub all_in : (l : Option RingEnd) (n f t : ℕ) → n ≡ 0 → Receiving l n f t → Receiving l 0 f t
all_in l n f t e r = subst (λ m. Receiving l m f t) e r
