use Rattle.std.proofs.Common.{◌≡◌, ◌++◌, map, take}
use Rattle.events.specs.declared.event.WsFrame.TheVariants.{Bytes}
use Rattle.events.proofs.outcome.push_frames.Given as goal

abbrev pub invariant-loop-attachment : goal.invariant-loop-attachment
invariant-loop-attachment l = record {
  so_far : l.frames.items ≡ l.initial.frames.items ++ map Bytes (take l.attachment-index l.attachment-items);
}
