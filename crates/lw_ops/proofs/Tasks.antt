-- What the script's rules say of a range.
use Rattle.std.proofs.Common.{◌≡◌, ℕ, ◌+◌, ◌*◌, ◌≤◌, nat_lt, nat_le, true, ◌&&◌}
use Rattle.std.proofs.lemmas.Bool.{and_parts, leb-true}
use Rattle.lw_model.specs.declared.script.Script.{Script}
use Rattle.lw_model.specs.ScriptRules.{block_at, blocks_at, is_in_image}

pub few_bytes : (s : Script) (d start count : ℕ) → is_in_image s d start count ≡ true → count * block_at s d ≤ 131072
few_bytes s d start count e =
    let parts = and_parts (nat_lt 0 count && nat_le (start + count) (blocks_at s d)) (nat_le (count * block_at s d) 131072) e in
    leb-true (count * block_at s d) 131072 parts.1
