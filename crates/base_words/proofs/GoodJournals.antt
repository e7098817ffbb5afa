-- All three cores are drained, joined and sound.
use Rattle.base_words.proofs.Words.{DrainedIsSound}
use Rattle.base_words.proofs.CommandedCore.{commanded_served}
use Rattle.base_words.proofs.FinishingCore.{finishing_served}
use Rattle.base_words.proofs.ReturningCore.{returning_served}

pub drained_is_sound : DrainedIsSound
drained_is_sound = record { finishing = finishing_served; returning = returning_served; commanded = commanded_served }
