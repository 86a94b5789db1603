use Rattle.std.proofs.Common.{◌≡◌, ◌≤◌, ◌⊎◌, ◌∙◌, ap, subst, sym}
use Rattle.lw_program.proofs.Endings.{ends_asked, within_asked}
use Rattle.lw_program.proofs.Statuses as statuses
use Rattle.lw_program.proofs.program.lightrun.Goals as goal

pub returns-clause-status : goal.returns-clause-status
returns-clause-status g c =
    let a = c.obey.result.agrees in
    (a, subst (λ n. n ≤ 6) (sym a) (statuses.statuses c.obey.result.fault))

pub returns-clause-usage : goal.returns-clause-usage
returns-clause-usage g c =
    let a = c.obey.result.agrees in
    let ends = ends_asked _ _ _ _ _ (ap g.I.Source.faults) c.command_line.ensures.command c.obey.ensures.ends in
    λ enough. (
      λ h. (statuses.no_command _ _ _ _ ends (sym a ∙ h)).0,
      λ none. a ∙ statuses.usage _ _ _ _ ends (λ h. enough (a ∙ h)) none,
    )

pub returns-clause-unread : goal.returns-clause-unread
returns-clause-unread g c =
    let a = c.obey.result.agrees in
    let ends = ends_asked _ _ _ _ _ (ap g.I.Source.faults) c.command_line.ensures.command c.obey.ensures.ends in
    λ h. (statuses.no_command _ _ _ _ ends (sym a ∙ h)).1

pub returns-clause-bounded : goal.returns-clause-bounded
returns-clause-bounded g c =
    within_asked _ _ _ _ _ (ap g.I.Source.left) c.command_line.ensures.command c.obey.ensures.ends c.obey.ensures.bounded

pub returns-clause-end : goal.returns-clause-end
returns-clause-end g c =
    let a = c.obey.result.agrees in
    let ends = ends_asked _ _ _ _ _ (ap g.I.Source.faults) c.command_line.ensures.command c.obey.ensures.ends in
    record {
      done = λ h. statuses.done _ _ _ _ ends (sym a ∙ h);
      refused = λ h. statuses.refused _ _ _ _ ends (subst (λ n. (n ≡ 2) ⊎ (n ≡ 6)) a h);
      cut_short = λ h. statuses.cut_short _ _ _ _ ends (sym a ∙ h);
      complete = statuses.complete _ _ _ _ _ a ends;
      refusing = statuses.refusing _ _ _ _ _ a ends;
    }

pub returns-clause-read_fault : goal.returns-clause-read_fault
returns-clause-read_fault g c =
    let a = c.obey.result.agrees in
    let ends = ends_asked _ _ _ _ _ (ap g.I.Source.faults) c.command_line.ensures.command c.obey.ensures.ends in
    λ h. statuses.read_fault _ _ _ _ ends (sym a ∙ h)

pub returns-clause-unwritten : goal.returns-clause-unwritten
returns-clause-unwritten g c =
    let a = c.obey.result.agrees in
    let ends = ends_asked _ _ _ _ _ (ap g.I.Source.faults) c.command_line.ensures.command c.obey.ensures.ends in
    λ h k. statuses.unwritten _ _ _ _ ends (λ x. h (a ∙ x)) (λ x. k (a ∙ x))

pub returns-clause-sound_read : goal.returns-clause-sound_read
returns-clause-sound_read g c =
    let a = c.obey.result.agrees in
    let ends = ends_asked _ _ _ _ _ (ap g.I.Source.faults) c.command_line.ensures.command c.obey.ensures.ends in
    λ h. statuses.read_well _ _ _ _ (ap g.I.Source.faults) ends (λ x. h (a ∙ x))

pub returns-clause-sound_write : goal.returns-clause-sound_write
returns-clause-sound_write g c =
    let a = c.obey.result.agrees in
    let ends = ends_asked _ _ _ _ _ (ap g.I.Source.faults) c.command_line.ensures.command c.obey.ensures.ends in
    λ h. statuses.written_well _ _ _ _ (ap g.O.Sink.faults) ends (λ x. h (a ∙ x))
