-- The script of a load: what is drawn from a number.
use Rattle.std.specs.Prelude.{ℕ, Bool, true, false, ◌+◌, ◌-◌, ◌*◌, ◌/◌, ◌%◌, ◌^◌, ◌==◌, if◌then◌else◌, List, [], ◌∷◌, ◌++◌, map, decimal}
use Rattle.std.specs.List.{range_with_len}
use Rattle.rand_pcg.specs.Lcg.{Lcg, started, advance, increment_of}
use Rattle.rand_pcg.specs.Pcg.{pcg32, multiplier_64}
use Rattle.lw_model.specs.declared.script.Script.{Script}
use Rattle.lw_model.specs.declared.script.ImageOf.{ImageOf}
use Rattle.lw_model.specs.declared.script.ClientOf.{ClientOf}
use Rattle.lw_model.specs.declared.script.Op.{Op}
use Rattle.lw_model.specs.declared.script.Op.TheVariants as op

-- the generator of the words of a seed, behind the first n words
abbrev pub generator_at : ℕ → ℕ → Lcg
generator_at seed n = advance 64 multiplier_64 n (started 64 multiplier_64 seed (increment_of 64 54))

-- word n of a seed, from 0
abbrev pub word_at : ℕ → ℕ → ℕ
word_at seed n = (pcg32 (generator_at seed n)).0

-- the four bytes of a word, the most significant first
abbrev pub bytes_of : ℕ → List ℕ
bytes_of v = v / 2 ^ 24 ∷ v / 2 ^ 16 % 2 ^ 8 ∷ v / 2 ^ 8 % 2 ^ 8 ∷ v % 2 ^ 8 ∷ []

-- the op of client c that two words tell: on which image, at which of the client's own blocks, and of which kind
abbrev pub op_drawn : ℕ → ℕ → ℕ → Op
op_drawn c w v =
    if w / 4 % 4 == 2 then op.Read (w % 4) (128 * c + w / 16 % 128) 1
    else if w / 4 % 4 == 3 then op.Flush (w % 4)
    else op.Write (w % 4) (128 * c + w / 16 % 128) 1 (bytes_of v)

-- op k of all that are drawn, from 0: it goes to client k modulo 8
abbrev pub op_at : ℕ → ℕ → Op
op_at seed k = op_drawn (k % 8) (word_at seed (2 * k)) (word_at seed (2 * k + 1))

-- how many of the first n ops go to client c
abbrev pub share : ℕ → ℕ → ℕ
share n c = (n + 7 - c) / 8

abbrev pub ops_drawn : ℕ → ℕ → ℕ → List Op
ops_drawn seed n c =
    map op.Get (range_with_len 0 4)
    ++ map (λ i. op_at seed (8 * i + c)) (range_with_len 0 (share n c))
    ++ map op.Put (range_with_len 0 4)

-- the client of place c, whose name is `c` with its place
abbrev pub client_drawn : ℕ → ℕ → ℕ → ClientOf
client_drawn seed n c = record { name = 99 ∷ decimal c; depth = 8; ops = ops_drawn seed n c }

-- the image of place d, whose name is `i` with its place
abbrev pub image_drawn : ℕ → ImageOf
image_drawn d = record { name = 105 ∷ decimal d; block = 512; blocks = 1024 }

-- the script of n ops
abbrev pub script_drawn : ℕ → ℕ → Script
script_drawn seed n = record {
  images = map image_drawn (range_with_len 0 4);
  clients = map (client_drawn seed n) (range_with_len 0 8);
  small = 32;
  large = 4;
}

-- an op that begins to unregister a device
abbrev pub unregisters : Op → Bool
unregisters (op.Unregister d) = true
unregisters _ = false
