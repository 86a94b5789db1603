use Rattle.lw_history.proofs.Keeping.{rows_begin, runs_keep_rows, ends_keep_rows, unnoted_lines_keep_rows, lines_keep_rows, calls_keep_rows}
use Rattle.lw_history.proofs.laws.rows_keep_up.Goals as goal

pub returns-clause-begin : goal.returns-clause-begin
returns-clause-begin c = rows_begin

pub returns-clause-ran : goal.returns-clause-ran
returns-clause-ran c = runs_keep_rows

pub returns-clause-ended : goal.returns-clause-ended
returns-clause-ended c = ends_keep_rows

pub returns-clause-unnoted : goal.returns-clause-unnoted
returns-clause-unnoted c = unnoted_lines_keep_rows

pub returns-clause-listed : goal.returns-clause-listed
returns-clause-listed c = lines_keep_rows

pub returns-clause-called : goal.returns-clause-called
returns-clause-called c = calls_keep_rows
