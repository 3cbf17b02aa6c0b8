-- Nothing that the app of scripts sends to many by itself holds U+001E.
use Rattle.std.proofs.Common.{refl}
use Rattle.std.specs.Prelude.{codes}
use Rattle.eio_wire.specs.Payload.{IsWhole}
use Rattle.quiz.proofs.CleanLemmas.{holds_none, whole}

pub far_is_whole : IsWhole (codes "[\"far\"]")
unfolding holds_none
far_is_whole = whole (codes "[\"far\"]") refl
