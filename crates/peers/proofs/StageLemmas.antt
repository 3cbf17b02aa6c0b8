-- A stage that isn't the one that reads.
use Rattle.std.proofs.Common.{◌≡◌, ℕ, Bool, false, refl}
use Rattle.peers.specs.declared.socket_stage.Phase.{Phase}
use Rattle.peers.specs.declared.socket_stage.SocketStage.{SocketStage}
use Rattle.peers.specs.declared.socket_stage.SocketStage.TheVariants as stage
use Rattle.peers.specs.Rounds.{reads}

pub not_reading : (s : SocketStage) → ((c : ℕ) (p : Phase) (idle : Bool) → s ≡ stage.Reads c p idle → ⊥) → reads s ≡ false
not_reading stage.Opens not = refl
not_reading stage.Opening not = refl
not_reading (stage.Reads c p idle) not = absurd (not c p idle refl)
not_reading (stage.Probing c) not = refl
not_reading (stage.Upgrading c) not = refl
not_reading (stage.Framed c) not = refl
not_reading (stage.Takes c) not = refl
not_reading (stage.Taking c idle) not = refl
not_reading (stage.Ticks c idle) not = refl
not_reading (stage.Ticking c p idle) not = refl
not_reading (stage.Loses c) not = refl
not_reading (stage.Losing c) not = refl
not_reading stage.Over not = refl
