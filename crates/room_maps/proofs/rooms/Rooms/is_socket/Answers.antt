use Rattle.std.proofs.Common.{sym, ap, ◌∙◌}
use Rattle.room_maps.specs.Membership.{is_socket}
use Rattle.room_maps.proofs.MirrorLemmas.{contains-sockets_of}
use Rattle.room_maps.proofs.rooms.Rooms.is_socket.Goals as goal

pub returns : goal.returns
returns c =
    c.contains_key.ensures
    ∙ sym (contains-sockets_of c.self.inside.by_socket c.args.sid)
    ∙ ap (λ v. is_socket v c.args.sid) c.self.view_is
