-- Lists of letters: what a sender sent, what a receiver took.
use Rattle.std.specs.Prelude.{◌≡◌, ℕ, zero, suc, ◌+◌, ◌==◌, ◌<◌, List, [], ◌∷◌, length, slice_index_or, if◌then◌else◌, Option, Some, None}
use Rattle.lw_base.specs.declared.message.Tag.{Tag}

-- the tag names this sender and this number
abbrev pub Names : Tag → ℕ → ℕ → Type 0
Names tag sender number = (tag.sender ≡ sender) × (tag.number ≡ number)

-- the k-th letter is named by the sender and k, from 0
abbrev pub Numbered : {L : Type 0} → (L → Tag) → ℕ → List L → Type 0
Numbered {L} tag_of sender ls = (k : ℕ) (d : L) → k < length ls → Names (tag_of (slice_index_or ls k d)) sender k

-- the letters that one sender sent, in their order
abbrev pub sent_by : {L : Type 0} → (L → Tag) → ℕ → List L → List L
sent_by tag_of sender [] = []
sent_by tag_of sender (l ∷ ls) = if (tag_of l).sender == sender then l ∷ sent_by tag_of sender ls else sent_by tag_of sender ls

-- the list at a place, empty past the end
abbrev pub list_at : {L : Type 0} → List (List L) → ℕ → List L
list_at [] k = []
list_at (ls ∷ rest) zero = ls
list_at (ls ∷ rest) (suc k) = list_at rest k

-- how many letters all lists have together
abbrev pub total_length : {L : Type 0} → List (List L) → ℕ
total_length [] = 0
total_length (ls ∷ rest) = length ls + total_length rest

-- a ring's family is known, and the value fits the ring's number and that family
abbrev pub FitsRing : {F T : Type 0} → (ℕ → F → T → Type 0) → ℕ → Option F → T → Type 0
FitsRing fits number None value = ⊥
FitsRing fits number (Some family) value = fits number family value
