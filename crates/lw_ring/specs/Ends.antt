-- What callers see of the ends of a ring.
use Rattle.std.specs.Prelude.{◌≡◌, ℕ, ◌+◌, ◌-◌, true, false, ◌<◌, ◌≤◌, List, [], length, map, reverse, drop, vec_capacity, All, Option, Some, None}
use Rattle.std.specs.declared.alloc.Global.{Global}
use Rattle.std.specs.declared.vec.Vec.{Vec}
use Rattle.atomic_blocks.specs.declared.web.Seat.{Seat}
use Rattle.atomic_table.specs.Seated.{TableId}
use Rattle.crossbeam_queue.specs.SegTies.{SegId, IsSegPassOf}
use Rattle.crossbeam_queue.specs.declared.seg_queue.Going.{Going}
use Rattle.lw_base.specs.declared.message.Tag.{Tag}
use Rattle.lw_base.specs.Letters.{Numbered, total_length}
use Rattle.lw_latch.specs.RingEnds.{RingEnd}
use Rattle.lw_latch.specs.RingWord.{most_senders, most_sent, above_all_sent}
use Rattle.lw_ring.specs.declared.queue.PassView.{PassView}
use Rattle.lw_ring.specs.declared.parcel.Parcel.{Parcel}
use Rattle.lw_ring.specs.Queue.{AllFit}

-- a sending end
pub record Sender (L F : Type 0) : Type 0 where
  -- the ring, by its queue and its latch, if it has one
  pub queue : SegId Global
  pub latch : Option TableId
  -- the ring's number and family
  pub number : ℕ
  pub family : Option F
  -- the end's own number, what it has sent, and how often it has found the ring closed
  pub sender : ℕ
  pub sent : List L
  pub found : ℕ

-- the receiving end
pub record Receiver (L F : Type 0) : Type 0 where
  -- the ring, by its queue and its latch, if it has one
  pub queue : SegId Global
  pub latch : Option TableId
  -- the ring's number and family, and how many senders it has
  pub number : ℕ
  pub family : Option F
  pub senders : ℕ
  -- what it has handed out, and what is in its hand: the rest of a run that it has begun
  pub taken : List L
  pub hand : List L
  -- whether it has closed the ring (1) or not (0), how often it has tried to in vain, and the word that it found last
  pub closed : ℕ
  pub tries : ℕ
  pub seen : ℕ
  -- of the ends that it has taken in: what each had sent, and how often they had found the ring closed
  pub known : List (List L)
  pub found : ℕ

-- What a seat of the latch tells; nothing, and 0, where the ring has none.

abbrev pub latch_id : Option RingEnd → Option TableId
latch_id None = None
latch_id (Some e) = Some e.latch

abbrev pub found_of : Option RingEnd → ℕ
found_of None = 0
found_of (Some e) = e.view.found

abbrev pub closed_of : Option RingEnd → ℕ
closed_of None = 0
closed_of (Some e) = e.view.closed

abbrev pub tries_of : Option RingEnd → ℕ
tries_of None = 0
tries_of (Some e) = e.view.tries

abbrev pub seen_of : Option RingEnd → ℕ
seen_of None = 0
seen_of (Some e) = e.view.seen

-- an end of the latch that is outside it and has finished n messages, and one that is inside
pub record IsOutside (n : ℕ) (e : RingEnd) : Type 0 where
  pub outside : e.view.inside ≡ 0
  pub finished : e.view.finished ≡ n

pub record IsInside (n : ℕ) (e : RingEnd) : Type 0 where
  pub inside : e.view.inside ≡ 1
  pub finished : e.view.finished ≡ n

-- the same of a sender, where the ring has a latch
abbrev pub Outside : Option RingEnd → ℕ → Type 0
Outside None n = Unit {0}
Outside (Some e) n = IsOutside n e

abbrev pub Inside : Option RingEnd → ℕ → Type 0
Inside None n = Unit {0}
Inside (Some e) n = IsInside n e

-- the receiver's latch, where the ring has one: so many ends are not taken in, the others have finished so many messages,
-- and where it is closed it was closed at so many
pub record IsReceiving (waiting all_finished taken : ℕ) (e : RingEnd) : Type 0 where
  pub parts : e.view.parts + waiting ≡ most_senders
  pub finished : e.view.finished ≡ all_finished
  pub closed_at : e.view.closed ≡ 1 → e.view.count ≡ taken

abbrev pub Receiving : Option RingEnd → ℕ → ℕ → ℕ → Type 0
Receiving None waiting all_finished taken = Unit {0}
Receiving (Some e) waiting all_finished taken = IsReceiving waiting all_finished taken e

-- the pass of the sender with this number, which has sent so many
pub record SenderView {L F : Type 0} (v : PassView L F) (sender sent : ℕ) : Type 0 where
  pub not_fresh : v.fresh ≡ false
  pub sends : v.sends ≡ true
  pub from : v.from ≡ sender
  pub size : length v.put ≡ sent

-- the receiver's pass, with so many senders made and so many messages taken off the queue
pub record ReceiverView {L F : Type 0} (v : PassView L F) (senders got : ℕ) : Type 0 where
  pub not_fresh : v.fresh ≡ false
  pub gets : v.gets ≡ true
  pub made : v.made ≡ senders
  pub size : length v.got ≡ got
  pub sends_not : v.sends ≡ false
  pub from : v.from ≡ 0
  pub put : v.put ≡ []

-- the vector of a run that was handed out: it is empty and has room
pub record IsSpare {T A : Type 0} (v : Vec T A) : Type 0 where
  pub empty : v.items ≡ []
  pub room : 1 ≤ vec_capacity v

-- the end is the k-th of the receiver's ring
pub record IsEnd {L F : Type 0} (r : Receiver L F) (k : ℕ) (e : Sender L F) : Type 0 where
  pub queue : e.queue ≡ r.queue
  pub latch : e.latch ≡ r.latch
  pub sender : e.sender ≡ k

-- a pass of a ring's queue
abbrev pub QueuePass : Type 0 → Type 0 → Type 0 → Type 0
QueuePass T L F = Seat (Option (Parcel T)) (Going (Parcel T) (PassView L F)) Global

-- what a sending end keeps: its pass is of the ring's queue and knows what it has sent, and its seat of the latch, where the
-- ring has one, has finished as many messages
pub record IsSendEnd {T L F : Type 0} (tag_of : L → Tag) (queue : SegId Global) (pass : QueuePass T L F) (latch : Option RingEnd) (sender sent : ℕ) : Type 0 where
  pub of_queue : IsSegPassOf queue pass
  pub knows : SenderView pass.me.view.client sender sent
  pub few : sent ≤ most_sent
  pub outside : Outside latch sent
  pub numbered : Numbered tag_of sender pass.me.view.client.put

-- what the receiving end keeps: its pass knows what came off the queue; so many messages of it were handed out, and the
-- rest is in hand, the last first; its seat of the latch knows as much of the
-- senders that were taken in; and it has vectors to spare
pub record IsRecvEnd {T L F : Type 0} (letter : T → L) (tag_of : L → Tag) (fits : ℕ → F → T → Type 0) (queue : SegId Global) (pass : QueuePass T L F) (latch : Option RingEnd) (senders taken : ℕ) (hand : List T) (spares : List (Vec T Global)) : Type 0 where
  pub of_queue : IsSegPassOf queue pass
  pub knows : ReceiverView pass.me.view.client senders (taken + length hand)
  pub short : taken + length hand < above_all_sent
  pub few_known : length pass.me.view.client.known ≤ senders
  pub receiving : Receiving latch (senders - length pass.me.view.client.known) (total_length pass.me.view.client.known) taken
  pub in_hand : drop taken pass.me.view.client.got ≡ map letter (reverse hand)
  pub hand_fits : AllFit letter tag_of fits pass.me.view.client.number pass.me.view.client.family senders (reverse hand)
  pub all_spare : All IsSpare spares

-- the ends of a new ring
abbrev pub new_sender : {L F : Type 0} → SegId Global → Option TableId → ℕ → Option F → ℕ → Sender L F
new_sender queue latch number family k = record { queue = queue; latch = latch; number = number; family = family; sender = k; sent = []; found = 0 }

abbrev pub new_receiver : {L F : Type 0} → SegId Global → Option TableId → ℕ → Option F → ℕ → Receiver L F
new_receiver queue latch number family senders = record { queue = queue; latch = latch; number = number; family = family; senders = senders; taken = []; hand = []; closed = 0; tries = 0; seen = 0; known = []; found = 0 }
