use Rattle.std.proofs.Common.{[], ◌∷◌, arith, refl, sym}
use Rattle.std.proofs.lemmas.List.Elements.{All-head, All-cons, All-nil, All-same, All-rest}
use Rattle.lw_target.specs.declared.acts.Outgoing.{Outgoing}
use Rattle.lw_target.specs.Messages.{FitsImage}
use Rattle.lw_target.proofs.Carrying.{asked_first}
use Rattle.lw_target.proofs.Letters.{going_on}
use Rattle.lw_target.proofs.posts.Posts.carry.Goals as goal

pub loop-out-preserved : goal.loop-out-preserved
loop-out-preserved c =
    let d = c.in_ok-deliver.ensures in
    let i = c.loop-out.invariant in
    let out = c.in-Some.out in
    let first = c.in-Some.ensures.first in
    record {
      app = going_on 0 c.args.sender _ _ _ _ _ _ out i.app d.app first;
      client = going_on 1 c.args.sender _ _ _ _ _ _ out i.client d.client first;
      owner = going_on 2 c.args.sender _ _ _ _ _ _ out i.owner d.owner first;
      senders = d.senders i.senders;
      work = omega (arith, d.work, i.work, asked_first _ _ out first, asked_first (out ∷ []) [] out refl);
      fits = λ extent all go.
          let fit = λ (s : Outgoing). FitsImage extent s.what s.load in
          let both = i.fits extent all go in
          let mine = All-same fit (out ∷ c.next.new.self.sends) c.loop-out.acts.sends (sym first) both.1 in (
            d.fits extent both.0 (All-cons fit out [] (All-head fit out c.next.new.self.sends mine) (All-nil fit)),
            All-rest fit out c.next.new.self.sends c.loop-out.acts.sends first both.1,
          );
    }
