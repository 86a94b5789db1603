-- Which run a light thread is of. A run is named by plain data: the ring of each thread, the family of their messages, the
-- places.
use Rattle.std.specs.Prelude.{◌≡◌, ℕ, ◌<◌, List, [], map, length, Option, None, slice_index_or}
use Rattle.std.specs.declared.alloc.Global.{Global}
use Rattle.atomic_table.specs.Seated.{TableId}
use Rattle.crossbeam_queue.specs.SegTies.{SegId}
use Rattle.lw_place.specs.PlaceSeats.{Places, ThreadEnd}
use Rattle.lw_ring.specs.Ends.{Sender, Receiver}
use Rattle.lw_load.specs.LoadEnds.{LoadEnd}

-- a ring, by its queue and its latch
pub record RingId : Type 0 where
  pub queue : SegId Global
  pub latch : Option TableId

-- a run: the ring of each thread, by the thread's number, the family of their messages, the places, and the cell of each
-- thread's figures
pub record RunId (F : Type 0) : Type 0 where
  pub rings : List RingId
  pub family : Option F
  pub places : Places
  pub cells : List TableId

-- names no run
abbrev pub no_table : TableId
no_table = record { words = 0; slots = 0; views_name = 0; atom = 0; block = 0; offset = 0; slot_names = [] }

abbrev pub no_run : {F : Type 0} → RunId F
no_run = record { rings = []; family = None; places = record { table = no_table; threads = 0; reactors = 0 }; cells = [] }

module _ {L F : Type 0} where
  abbrev pub ring_of_end : Sender L F → RingId
  ring_of_end e = record { queue = e.queue; latch = e.latch }

  abbrev pub ring_of_recv : Receiver L F → RingId
  ring_of_recv r = record { queue = r.queue; latch = r.latch }

  -- the end at place k is that of this sender to the ring of number k, of this family
  pub record IsRowEnd (family : Option F) (sender k : ℕ) (e : Sender L F) : Type 0 where
    pub from : e.sender ≡ sender
    pub number : e.number ≡ k
    pub of_family : e.family ≡ family

  -- the ends of one thread to the rings of all, in order
  abbrev pub IsRow : Option F → ℕ → List (Sender L F) → Type 0
  IsRow family sender es = (k : ℕ) (d : Sender L F) → k < length es → IsRowEnd family sender k (slice_index_or es k d)

  -- these are the ends, the seat and the pass of one thread of the run
  pub record IsOf (run : RunId F) (seat : ThreadEnd) (recv : Receiver L F) (ends : List (Sender L F)) (load : LoadEnd) : Type 0 where
    pub places : seat.places ≡ run.places
    pub number : seat.thread < length run.rings
    pub its_ring : (d : RingId) → slice_index_or run.rings seat.thread d ≡ ring_of_recv recv
    pub ring_number : recv.number ≡ seat.thread
    pub family : recv.family ≡ run.family
    pub senders : recv.senders ≡ length run.rings
    pub unsettled : recv.known ≡ []
    pub rings : map ring_of_end ends ≡ run.rings
    pub row : IsRow run.family seat.thread ends
    pub load_number : load.thread ≡ seat.thread
    pub its_cell : (d : TableId) → slice_index_or run.cells seat.thread d ≡ load.cell
