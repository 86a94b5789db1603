-- Where no thread did anything in a turn, none can.
use Rattle.std.proofs.Common.{ℕ, ◌≡◌, ◌≤◌, ◌<◌, Bool, true, false, cond, arith, [], refl, sym, ◌∙◌, subst}
use Rattle.std.specs.Prelude.{◌||◌, ◌⊎◌}
use Rattle.lw_target.specs.declared.app.App.{App}
use Rattle.lw_target.specs.declared.client.Client.{Client}
use Rattle.lw_target.specs.declared.turns.Target.{Target}
use Rattle.lw_target.specs.ClientLog.{IsHeldUp}
use Rattle.lw_target.specs.Letters.{letters}
use Rattle.lw_target.specs.InOrder.{IsAtRest}
use Rattle.lw_target.specs.Turns.{Still, CanRest, MayRest, IsRunning, Turned}
use Rattle.lw_target.proofs.AppEnding.{either}

-- none of several did anything
pub idle_first : (p q : Bool) → (p || q) ≡ false → p ≡ false
idle_first false q e = refl
idle_first true q e = e

pub idle_second : (p q : Bool) → (p || q) ≡ false → q ≡ false
idle_second false q e = e
idle_second true q e = let wrong : true ≡ false = e in cc

-- the five polls of a turn
pub at_rest : (a b c d e f : Target) → Still a b → letters a.posts.app ≡ [] → Still b c → MayRest b → Still c d → letters c.posts.client ≡ []
    → Still d e → CanRest d → Still e f → letters e.posts.owner ≡ [] → IsAtRest f
at_rest a b c d e f one app two may three client four can five owner = record {
  app = five.app_waits ∙ four.app_waits ∙ three.app_waits ∙ two.app_waits ∙ one.app_waits ∙ app;
  client = five.client_waits ∙ four.client_waits ∙ three.client_waits ∙ client;
  owner = five.owner_waits ∙ owner;
  client_rests = subst (λ (x : Client). x.done ≡ false → 1 ≤ x.of.depth → IsHeldUp x) (sym (five.client ∙ four.client)) can;
  app_rests = subst (λ (x : App). (x.began ≡ true) ⊎ (x.done < x.clients)) (sym (five.app ∙ four.app ∙ three.app ∙ two.app)) may;
}

-- two polls, one after the other
pub turned_either : (a b c : Target) (p q : Bool) → Turned a b (cond p 1 0) → Turned b c (cond q 1 0) → Turned a c (cond (p || q) 1 0)
turned_either a b c p q f g = record {
  of = g.of ∙ f.of;
  devices = g.devices ∙ f.devices;
  running = g.running;
  order = λ s h. g.order s (f.order s h);
  work = omega (arith, f.work, g.work, either p q);
}

pub turned_self : (a : Target) → IsRunning a → Turned a a 0
turned_self a r = record { of = refl; devices = refl; running = r; order = λ s h. h; work = omega arith }

pub turned_then : (a b c : Target) (least : ℕ) → Turned a b 0 → Turned b c least → Turned a c 0
turned_then a b c least f g = record {
  of = g.of ∙ f.of;
  devices = g.devices ∙ f.devices;
  running = g.running;
  order = λ s h. g.order s (f.order s h);
  work = omega (arith, f.work, g.work);
}
