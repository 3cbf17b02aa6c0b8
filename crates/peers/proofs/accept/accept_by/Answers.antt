use Rattle.std.proofs.Common.{rules}
use Rattle.peers.proofs.accept.accept_by.Goals as goal

pub returns-in_err-accepted : goal.returns-in_err-accepted
returns-in_err-accepted g c =
    record {
      replay = c.new-replay.result;
      replays = record { bytes = search rules; start = c.new-replay.ensures.unread; behind = c.new-replay.ensures.stream };
      gave = c.greet.result;
      gives_it = c.greet.ensures;
      follows = search rules;
    }

pub returns : goal.returns
returns g c =
    record {
      replay = c.new-replay.result;
      replays = record { bytes = search rules; start = c.new-replay.ensures.unread; behind = c.new-replay.ensures.stream };
      gave = c.greet.result;
      gives_it = c.greet.ensures;
      follows = search rules;
    }
