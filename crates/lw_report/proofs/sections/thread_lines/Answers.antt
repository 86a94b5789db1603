use Rattle.std.proofs.Common.{ap, ◌∙◌, List}
use Rattle.lw_base.specs.declared.message.Tag.{Tag}
use Rattle.lw_base.specs.declared.moves.Hop.{Hop}
use Rattle.lw_model.specs.declared.record.Did.{Did}
use Rattle.lw_model.specs.declared.record.Called.{Called}
use Rattle.lw_report.proofs.Chains.{thread_of_lines}
use Rattle.lw_report.proofs.sections.thread_lines.Goals as goal

pub returns : goal.returns
returns c =
    thread_of_lines c.args.role c.args.home c.args.images c.args.lines.now c.many.new.self c.many-2.new.self c.many-3.new.self c.many-4.new.self
    c.from_vec.result c.from_vec-2.result c.from_vec-3.result c.from_vec-4.result ((c.in_ok-own.own.replies, c.in_ok-own.own.seen), c.client_lines.new.lines)
    (ap (λ (v : List Hop). (v, c.many.new.self)) c.from_vec.ensures ∙ c.in_ok-hops.ensures)
    (ap (λ (v : List Tag). (v, c.many-2.new.self)) c.from_vec-2.ensures ∙ c.in_ok-ran.ensures)
    (ap (λ (v : List Did). (v, c.many-3.new.self)) c.from_vec-3.ensures ∙ c.in_ok-did.ensures)
    (ap (λ (v : List Called). (v, c.many-4.new.self)) c.from_vec-4.ensures ∙ c.in_ok-called.ensures)
    c.in_ok-own.ensures
