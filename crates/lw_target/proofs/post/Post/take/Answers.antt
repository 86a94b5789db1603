use Rattle.std.proofs.Common.{◌≡◌, ◌∷◌, ◌∙◌, ap, arith, refl}
use Rattle.std.specs.List.{list_all}
use Rattle.lw_base.specs.declared.message.Tag.{Tag}
use Rattle.lw_model.specs.Printable.{has_a_line}
use Rattle.lw_target.proofs.Mails.{first_printable, rest_printable, list_all_push}
use Rattle.lw_target.proofs.Numbers.{take_numbered, first_is}
use Rattle.lw_target.proofs.post.Post.take.Goals as goal

pub invariant_of-self-2 : goal.invariant_of-self-2
invariant_of-self-2 c =
    let was = c.self.inside in
    let mail = c.in-Some.next.now in
    let first : was.waiting.items ≡ mail ∷ c.pop_front.new.self.items =
    first_is was.waiting.items _ mail (omega (arith, c.in-Some.ensures.variant.0 refl, was.waiting.ok.0)) c.in-Some.ensures.lookup c.pop_front.ensures.rest in (
      rest_printable _ _ mail first c.self.invariant.0,
      ap (λ l. list_all (λ (m : Tag). has_a_line m.what) l) c.in_ok-push.ensures.items
          ∙ list_all_push (λ (m : Tag). has_a_line m.what) was.ran.items mail.tag c.self.invariant.1
          (first_printable _ _ mail first c.self.invariant.0).line,
      take_numbered was.ran.items _ was.waiting.items _ was.sent.items mail c.self.invariant.2 first c.in_ok-push.ensures.items,
    )
