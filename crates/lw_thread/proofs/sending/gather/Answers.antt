use Rattle.std.proofs.Common.{◌≡◌, ◌+◌, [], length, sym, ap, subst, ◌∙◌, arith, All, None}
use Rattle.std.proofs.lemmas.List.{length_push}
use Rattle.std.proofs.lemmas.List.Elements.{All-tail, All-push}
use Rattle.lw_base.specs.declared.message.Tag.{Tag}
use Rattle.lw_base.specs.Letters.{FitsRing}
use Rattle.lw_ring.specs.Ends.{Sender}
use Rattle.lw_ring.specs.Calls.{NamedFrom}
use Rattle.lw_thread.specs.Acts.{Post}
use Rattle.lw_thread.specs.Posting.{Gathers}
use Rattle.lw_thread.specs.Links.{Tied}
use Rattle.lw_thread.proofs.Making.{first_to_step, gathers_none, gathers_more, names_more, fits_ring}
use Rattle.lw_thread.proofs.sending.gather.Goals as goal

pub loop-place-init : goal.loop-place-init
loop-place-init g c =
    let none = c.requires.run.0 in
    let size = ap length none in
    let to = c.requires.to in
    let few = to.1 in
    record {
      count = size;
      room = c.requires.run.1;
      left = omega arith;
      gathered = gathers_none g.M.Tagged.letter g.M.Tagged.marked c.args.to c.args.links.now.thread c.next_number-first.result c.args.run.items c.args.acts.now none;
      names = λ k d l. absurd (omega arith);
      fits = λ k d l. absurd (omega arith);
      others_fit = c.requires.fits;
    }

pub overflow_add-first : goal.overflow_add-first
overflow_add-first g c =
    let d : Sender g.row.M-Letter.Denot g.row.M-Family.Denot = record { queue = c.args.links.now.recv.queue; latch = None; number = 0; family = None; sender = 0; sent = []; found = 0 } in
    let room = c.requires.room d in
    let first = c.next_number-first.ensures d in
    let test = c.loop-place-test.true in
    search (arith, room, first, test)

pub loop-place-preserved : goal.loop-place-preserved
loop-place-preserved g c =
    let i = c.loop-place.invariant in
    let s = c.in-Some.ensures in
    let p : Post g.row.M.Denot = record { to = c.in-Some.field-0.to; what = c.in-Some.field-0.message } in
    let test = c.loop-place-test.true in
    let had = i.left in
    let count = i.count in
    let step = first_to_step c.args.to p c.loop-place.acts.pending c.next_send.new.self.pending s.first.first (omega arith) in
    let fewer = step.1 in
    let is = c.push_reserved.ensures.items in
    let size = ap length is ∙ length_push c.loop-place.run.items c.mark.new.self in
    let thread = ap (λ (t : Tied _ _). t.thread) c.links.view_is in
    let run = c.loop-place.run.items in
    let m = c.mark.new.self in
    let first = c.next_number-first.result in
    let letter : g.M.Tagged.letter m ≡ g.M.Tagged.marked (g.M.Tagged.letter p.what) c.args.links.now.thread (first + length run) =
    c.mark.ensures.letter ∙ (λ k. g.M.Tagged.marked (g.M.Tagged.letter p.what) (thread k) (first + sym count k)) in
    let tag = ap g.M.Tagged.tag_of letter ∙ g.met.M.Tagged.marked_tag (g.M.Tagged.letter p.what) c.args.links.now.thread (first + length run) in
    let all = subst (λ ps. All (λ (q : Post _). FitsRing g.M.Tagged.fits q.to c.args.links.now.recv.family q.what) ps) s.first.first i.others_fit in
    let here = subst (λ n. FitsRing g.M.Tagged.fits n c.args.links.now.recv.family p.what) step.0 (all 0 p (omega arith)) in
    record {
      count = omega arith;
      room = (let a = i.room in let b = c.push_reserved.ensures.capacity in omega arith);
      left = omega arith;
      gathered = subst (λ xs. Gathers g.M.Tagged.letter g.M.Tagged.marked c.args.to c.args.links.now.thread first xs c.args.acts.now c.next_send.new.self) (sym is)
          (gathers_more g.M.Tagged.letter g.M.Tagged.marked c.args.to c.args.links.now.thread first run m c.args.acts.now c.loop-place.acts c.next_send.new.self p i.gathered s.first.first s.first.rest step.0 letter s.kept.1);
      names = subst (λ xs. NamedFrom g.M.Tagged.letter g.M.Tagged.tag_of c.args.links.now.thread first xs) (sym is)
          (names_more g.M.Tagged.letter g.M.Tagged.marked g.M.Tagged.tag_of c.args.links.now.thread first run m i.names (ap (λ (t : Tag). t.sender) tag, ap (λ (t : Tag). t.number) tag));
      fits = subst (λ xs. All (FitsRing g.M.Tagged.fits c.args.to c.args.links.now.recv.family) xs) (sym is)
          (All-push (FitsRing g.M.Tagged.fits c.args.to c.args.links.now.recv.family) run m i.fits (fits_ring g.M.Tagged.fits c.args.to p.what m c.mark.ensures.fits c.args.links.now.recv.family here));
      others_fit = All-tail (λ (q : Post _). FitsRing g.M.Tagged.fits q.to c.args.links.now.recv.family q.what) p c.next_send.new.self.pending all;
    }
