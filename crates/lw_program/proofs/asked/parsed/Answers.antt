use Rattle.std.proofs.Common.{map, string_bytes}
use Rattle.lw_program.proofs.WordsRead.{parsed, refused, none_found}
use Rattle.lw_program.proofs.asked.parsed.Goals as goal

pub returns-in-Ok : goal.returns-in-Ok
returns-in-Ok c =
    parsed c.args.words.now c.requires.named c.requires.unmarked _ c.in_ok-command.ensures c.in-Ok.matches c.in-Ok.ensures.matches c.in-Ok.ensures.kinds

pub returns-in-Err : goal.returns-in-Err
returns-in-Err c =
    none_found (map string_bytes c.args.words.now) c.in-Err.error _ c.refusal_of.ensures
    (refused c.args.words.now c.requires.named c.requires.unmarked _ c.in_ok-command.ensures c.in-Err.error c.in-Err.ensures.kinds)
