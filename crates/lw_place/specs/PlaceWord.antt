-- The word of a light thread: 2c in the list of reactor c, 2c + 1 in an event to c, 64 + c where c holds it, the greatest u64
-- once it has ended.
use Rattle.std.specs.Prelude.{◌≢◌, ℕ, ◌+◌, ◌-◌, ◌*◌, ◌/◌, ◌%◌, ◌<◌, ◌==◌, nat_lt, if◌then◌else◌, ⊤}
use Rattle.lw_base.specs.Words.{greatest_u64, above_u32}
use Rattle.lw_place.specs.declared.place.Place.{Place}
use Rattle.lw_place.specs.declared.place.Place.TheVariants as place
use Rattle.lw_place.specs.declared.place.Start.{Start}
use Rattle.lw_place.specs.declared.place.Start.TheVariants as start

-- the most light threads
abbrev pub most_threads : ℕ
most_threads = 127

-- the most reactors
abbrev pub most_reactors : ℕ
most_reactors = 16

-- which word of the table counts the retired threads
abbrev pub done_word : ℕ
done_word = 0

-- which one is the halt word
abbrev pub halt_word : ℕ
halt_word = 1

-- which one is the word of thread 0, behind which those of the others follow
abbrev pub first_word : ℕ
first_word = 2

-- the word of a thread that has ended
abbrev pub ended_word : ℕ
ended_word = greatest_u64

-- the word of a thread that reactor 0 holds, behind which those of the other reactors follow
abbrev pub held_word : ℕ
held_word = 64

-- where a thread is that starts so
abbrev pub start_place : Start → Place
start_place (start.List reactor) = place.List reactor
start_place (start.Held reactor) = place.Held reactor

abbrev pub word_of : Place → ℕ
word_of (place.List reactor) = 2 * reactor
word_of (place.Event reactor) = 2 * reactor + 1
word_of (place.Held reactor) = held_word + reactor
word_of place.Ended = ended_word

-- the place that the word of a thread in a list or an event holds
abbrev pub listed_place : ℕ → Place
listed_place word = if word % 2 == 0 then place.List (word / 2) else place.Event (word / 2)

-- the place that a word holds
abbrev pub place_of : ℕ → Place
place_of word =
    if word == ended_word then place.Ended
    else if nat_lt word held_word then listed_place word
    else place.Held (word - held_word)

-- the place's reactor, if it has one, is one of so many
abbrev pub IsBelow : ℕ → Place → Type 0
IsBelow reactors (place.List reactor) = reactor < reactors
IsBelow reactors (place.Event reactor) = reactor < reactors
IsBelow reactors (place.Held reactor) = reactor < reactors
IsBelow reactors place.Ended = ⊤

-- the word is that of an ended thread, or of a reactor whose number fits 32 bits
abbrev pub IsWord : ℕ → Type 0
IsWord word = word ≢ ended_word → word < held_word + above_u32
