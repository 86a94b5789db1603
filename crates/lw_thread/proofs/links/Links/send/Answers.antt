use Rattle.std.proofs.Common.{◌≡◌, ◌<◌, length, map, reverse, sym, ap, subst, ◌∙◌, arith}
use Rattle.lw_base.specs.declared.message.Tag.{Tag}
use Rattle.std.specs.Prelude.{slice_index_or}
use Rattle.lw_latch.specs.RingWord.{most_sent}
use Rattle.lw_ring.specs.Ends.{Sender}
use Rattle.lw_ring.specs.Calls.{AfterRefusal}
use Rattle.lw_thread.specs.Links.{Tied}
use Rattle.lw_thread.specs.Runs.{IsRowEnd}
use Rattle.lw_thread.proofs.Tying.{end_at, end_unset}
use Rattle.lw_thread.proofs.links.Links.send.Goals as goal

pub send-requires-clause-names : goal.send-requires-clause-names
send-requires-clause-names g c =
    let e = c.index_mut-end.result.now in
    let within = subst (λ (t : Tied _ _). c.args.to < length t.ends) (sym c.self.view_is) c.requires.to in
    let row = subst (λ x. IsRowEnd c.self.inside.recv.family c.self.inside.thread c.args.to x) (sym c.index_mut-end.ensures.value) (c.self.invariant.its_ends.row c.args.to e within) in
    let tag = ap g.M.Tagged.tag_of c.mark.ensures.letter ∙ g.met.M.Tagged.marked_tag (g.M.Tagged.letter c.args.message) c.self.inside.thread c.sent.result in
    (ap (λ (t : Tag). t.sender) tag ∙ sym row.from, ap (λ (t : Tag). t.number) tag ∙ c.sent.ensures.length)

pub returns-in-Err-NoMemory-clause-refused : goal.returns-in-Err-NoMemory-clause-refused
returns-in-Err-NoMemory-clause-refused g c =
    let e = c.index_mut-end.result.now in
    let r = subst (λ f. AfterRefusal f c.mark.new.self 1 e c.send.new.self) c.in-Err-NoMemory.field-0-is c.in-Err-NoMemory.ensures.refused in
    let within = subst (λ (t : Tied _ _). c.args.to < length t.ends) (sym c.self.view_is) c.requires.to in
    let ends = end_unset c.self.inside.ends.items c.args.to e c.send.new.self within c.index_mut-end.ensures.value r.same in (
      record {
        number = c.sent.result;
        same_letter = ap g.M.Tagged.letter r.whole ∙ c.mark.ensures.letter ∙ ap (λ (t : Tied _ _). g.M.Tagged.marked (g.M.Tagged.letter c.args.message) t.thread c.sent.result) c.self.view_is;
        still_fits = λ n f h. subst (λ x. g.M.Tagged.fits n f x) (sym r.whole) (c.mark.ensures.fits n f h);
      },
      (λ k. record { thread = c.self.inside.thread; recv = c.self.inside.recv; ends = ends k; ran = c.self.inside.ran.items; left = map g.M.Tagged.letter (reverse c.self.inside.batch.items) }) ∙ c.self.view_is,
    )

pub returns-in-Err-Spent-clause-refused : goal.returns-in-Err-Spent-clause-refused
returns-in-Err-Spent-clause-refused g c =
    let e = c.index_mut-end.result.now in
    let r = subst (λ f. AfterRefusal f c.mark.new.self 1 e c.send.new.self) c.in-Err-Spent.field-0-is c.in-Err-Spent.ensures.refused in
    let within = subst (λ (t : Tied _ _). c.args.to < length t.ends) (sym c.self.view_is) c.requires.to in
    let ends = end_unset c.self.inside.ends.items c.args.to e c.send.new.self within c.index_mut-end.ensures.value r.same in
    let long = c.sent.ensures.length in
    let most = c.sent.ensures.bound in
    let none = r.no_room in
    let all : length e.sent ≡ most_sent = omega arith in (
      record {
        number = c.sent.result;
        same_letter = ap g.M.Tagged.letter r.whole ∙ c.mark.ensures.letter ∙ ap (λ (t : Tied _ _). g.M.Tagged.marked (g.M.Tagged.letter c.args.message) t.thread c.sent.result) c.self.view_is;
        still_fits = λ n f h. subst (λ x. g.M.Tagged.fits n f x) (sym r.whole) (c.mark.ensures.fits n f h);
      },
      (λ d. ap (λ (t : Tied _ _). length (slice_index_or t.ends c.args.to d).sent) (sym c.self.view_is) ∙ ap (λ (x : Sender _ _). length x.sent) (end_at c.self.inside.ends.items c.args.to e within c.index_mut-end.ensures.value d) ∙ all),
      (λ k. record { thread = c.self.inside.thread; recv = c.self.inside.recv; ends = ends k; ran = c.self.inside.ran.items; left = map g.M.Tagged.letter (reverse c.self.inside.batch.items) }) ∙ c.self.view_is,
    )
