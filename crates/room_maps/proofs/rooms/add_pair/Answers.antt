use Rattle.room_maps.proofs.BooleanLemmas.{on_err}
use Rattle.room_maps.proofs.MirrorLemmas.{taken_back}
use Rattle.room_maps.proofs.rooms.add_pair.Goals as goal

pub returns-then-is_err-clause-sockets_kept : goal.returns-then-is_err-clause-sockets_kept
returns-then-is_err-clause-sockets_kept c =
    on_err _ _
    (taken_back c.args.by_socket.now c.link.new.map c.unlink.new.map c.args.sid c.args.room c.requires.filled (c.unlink.ensures.filled (c.link.ensures.filled c.requires.filled)) c.requires.absent c.in_ok-link.ensures.ok c.unlink.ensures.links)
