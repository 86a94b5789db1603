use Rattle.lw_history.proofs.Joining.{rows_taken_in, none_taken_in, all_know, lines_join, calls_join}
use Rattle.lw_history.proofs.laws.rows_are_taken_in.Goals as goal

pub returns-clause-taken : goal.returns-clause-taken
returns-clause-taken c = rows_taken_in

pub returns-clause-untaken : goal.returns-clause-untaken
returns-clause-untaken c = none_taken_in

pub returns-clause-knew : goal.returns-clause-knew
returns-clause-knew c = all_know

pub returns-clause-listed : goal.returns-clause-listed
returns-clause-listed c = lines_join

pub returns-clause-called : goal.returns-clause-called
returns-clause-called c = calls_join
