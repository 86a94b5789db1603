-- What the counting thread's body keeps.
use Rattle.std.specs.Prelude.{◌≡◌, ◌<◌, length, Some}
use Rattle.lw_thread.specs.Acts.{Known}

-- there is a thread 0, and the rings have the family of notes
pub record IsCounting {L : Type 0} (k : Known L (Unit {0})) : Type 0 where
  pub a_thread : 0 < length k.sent
  pub family : k.family ≡ Some tt
