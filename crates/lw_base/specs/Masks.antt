-- Where a thread may stand, by the bits of its mask.
use Rattle.std.specs.Prelude.{ℕ, ◌/◌, ◌%◌, ◌^◌, ◌==◌, Bool, ◌||◌, List, length, filter, slice_index}
use Rattle.std.specs.List.{range_with_len}

-- the mask that names every reactor: bits 0 to 15
abbrev pub every_reactor : ℕ
every_reactor = 65535

-- a mask allows each of the first `reactors` whose bit is set, and all of them where it names none
abbrev pub allows : ℕ → ℕ → ℕ → Bool
allows mask reactors c = (mask / 2 ^ c) % 2 == 1 || mask % 2 ^ reactors == 0

-- the reactors that a mask allows, ascending
abbrev pub allowed : ℕ → ℕ → List ℕ
allowed mask reactors = filter (allows mask reactors) (range_with_len 0 reactors)

-- the reactor on which thread t starts: the threads go around the reactors that the mask allows
abbrev pub home : ℕ → ℕ → ℕ → ℕ
home mask reactors t = slice_index (allowed mask reactors) (t % length (allowed mask reactors))
