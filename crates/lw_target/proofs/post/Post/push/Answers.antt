use Rattle.std.proofs.Common.{arith, sym, subst, ◌≡◌, ◌+◌, ◌<◌, length}
use Rattle.std.specs.Prelude.{slice_index}
use Rattle.std.proofs.lemmas.List.{get_or_read}
use Rattle.lw_target.proofs.Mails.{push_printable}
use Rattle.lw_target.proofs.Numbers.{push_numbered, count_small}
use Rattle.lw_target.proofs.post.Post.push.Goals as goal

pub invariant_of-self-2 : goal.invariant_of-self-2
invariant_of-self-2 c =
    let n = c.self.invariant.2 in
    let was = c.self.inside in
    let within : c.args.sender < length was.sent.items = subst (λ v. c.args.sender < length v.sent) (sym c.self.view_is) c.requires.sender in
    let here : c.index-number.result.now ≡ slice_index was.sent.items c.args.sender = get_or_read was.sent.items _ _ within c.index-number.ensures 0 in
    let few = count_small was.ran.items was.waiting.items was.sent.items c.args.sender was.ran.cap was.waiting.cap n within
    (omega (arith, was.ran.ok.0, was.ran.ok.1)) (omega (arith, was.waiting.ok.0, was.waiting.small.1)) in
    let count : c.saturating_add.result ≡ slice_index was.sent.items c.args.sender + 1 =
    omega (arith, c.saturating_add.ensures, here, few, was.ran.small, was.waiting.small.0) in (
      push_printable was.waiting.items _ _ c.in_ok-push_back.ensures.items c.self.invariant.0 c.requires.printable,
      c.self.invariant.1,
      push_numbered was.ran.items was.waiting.items _ was.sent.items _ c.saturating_add.result n within here count c.in_ok-push_back.ensures.items,
    )
