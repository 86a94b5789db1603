use Rattle.std.proofs.Common.{◌≡◌, true, false}
use Rattle.lw_script.proofs.Values.{value_of-some, value_of-none}
use Rattle.lw_script.proofs.value.value_of.Goals as goal

pub returns-in-Ok-clause-ok : goal.returns-in-Ok-clause-ok
returns-in-Ok-clause-ok c = value_of-some _ _ c.in-Ok.ensures.ok.0 c.in-Ok.ensures.ok.1

pub returns-else-is_memory-clause-refused : goal.returns-else-is_memory-clause-refused
returns-else-is_memory-clause-refused c =
    λ _. value_of-none _ (c.in-Err.ensures.err (λ m. let wrong : false ≡ true = c.if-is_memory.ensures.1 m in cc))
