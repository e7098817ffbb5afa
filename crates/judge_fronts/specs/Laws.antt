-- Laws of fronts that are lost.
use Rattle.std.specs.Prelude.{ℕ}
use Rattle.base_words.specs.Assembly.{Assembly}
use Rattle.base_words.specs.Sound.{IsSound}
use Rattle.base_words.specs.Spelled.{IsSpelled}
use Rattle.judge_fronts.specs.Fronts.{Continues, IsLost}

-- what is lost stays lost, however far it goes on
abbrev pub LostStaysLost : Type 0
LostStaysLost = (front later : Assembly ℕ) → Continues front later → IsLost front → IsLost later

-- sound journals aren't lost
abbrev pub SoundIsNotLost : Type 0
SoundIsNotLost = (assembly : Assembly ℕ) → IsSpelled assembly → IsSound assembly → IsLost assembly → ⊥
