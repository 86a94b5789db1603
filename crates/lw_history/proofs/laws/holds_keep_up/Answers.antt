use Rattle.lw_history.proofs.Holding.{holds_begin, runs_keep_holds, calls_keep_holds, ends_keep_holds, other_lines_keep_holds, lines_keep_holds, closes_keep_holds}
use Rattle.lw_history.proofs.laws.holds_keep_up.Goals as goal

pub returns-clause-begin : goal.returns-clause-begin
returns-clause-begin c = holds_begin

pub returns-clause-ran : goal.returns-clause-ran
returns-clause-ran c = runs_keep_holds

pub returns-clause-called : goal.returns-clause-called
returns-clause-called c = calls_keep_holds

pub returns-clause-ended : goal.returns-clause-ended
returns-clause-ended c = ends_keep_holds

pub returns-clause-elsewhere : goal.returns-clause-elsewhere
returns-clause-elsewhere c = other_lines_keep_holds

pub returns-clause-listed : goal.returns-clause-listed
returns-clause-listed c = lines_keep_holds

pub returns-clause-closed : goal.returns-clause-closed
returns-clause-closed c = closes_keep_holds
